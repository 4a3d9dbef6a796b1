use Rattle.spec_lists.proofs.Places.{searched, searched_none}
use Rattle.spec_kernel.specs.PlainKernel.{is_of}
use Rattle.k_core.proofs.searching.take_out.Goals as goal

pub returns-in-Some-clause-call : goal.returns-in-Some-clause-call
returns-in-Some-clause-call c =
    rw c.remove.ensures.items ((searched (is_of c.args.task.0) _ _ _ c.in-Some.place c.as_slice.ensures.value c.place_of.ensures c.in-Some.is).first c.remove.result c.remove.ensures.value)

pub returns-in-None-clause-call : goal.returns-in-None-clause-call
returns-in-None-clause-call c = searched_none (is_of c.args.task.0) _ _ _ c.as_slice.ensures.value c.place_of.ensures c.in-None.is
