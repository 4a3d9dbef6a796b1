use Rattle.std.proofs.Common.{ap, ◌∙◌, sym}
use Rattle.std.specs.Prelude.{◌==◌}
use Rattle.std.specs.BinaryHeap.{heap_items, heap_vec}
use Rattle.spec_link.specs.Link.{is_none_left}
use Rattle.w_link.proofs.InOrder.{none_left}
use Rattle.w_link.proofs.waiting.Waiting.is_empty.Goals as goal

pub returns : goal.returns
returns c =
    c.is_empty.ensures
    ∙ ap (λ n. n == 0) (heap_vec c.self.inside.heap).ok.0
    ∙ sym (none_left (heap_items c.self.inside.heap))
    ∙ ap is_none_left c.self.view_is
