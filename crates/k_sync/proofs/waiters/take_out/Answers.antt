use Rattle.std.proofs.Common.{refl}
use Rattle.spec_lists.proofs.Places.{searched, searched_none}
use Rattle.k_sync.proofs.Apart.{apart_found}
use Rattle.k_sync.proofs.waiters.take_out.Goals as goal

pub returns-in-Some-clause-found : goal.returns-in-Some-clause-found
returns-in-Some-clause-found c = λ f e. rw c.remove.ensures.items ((searched f _ _ _ c.in-Some.place refl e c.in-Some.is).first c.remove.result c.remove.ensures.value)

pub returns-in-Some-clause-apart : goal.returns-in-Some-clause-apart
returns-in-Some-clause-apart c = λ apart. apart_found c.requires.0 _ (c.remove.result, c.remove.new.self.items) (returns-in-Some-clause-found c c.requires.0 c.requires.1) apart

pub returns-in-None-clause-found : goal.returns-in-None-clause-found
returns-in-None-clause-found c = λ f e. searched_none f _ _ _ refl e c.in-None.is
