-- What holds of the handlers that are due at a node. It is this project's own.
use Rattle.std.specs.Prelude.{◌≤◌}
use Rattle.it_types.specs.declared.id.ObjId.{ObjId}
use Rattle.spec_pend.specs.Ends.{is_cyclic}
use Rattle.spec_node.specs.PlainNode.{PlainNode}
use Rattle.laws_node.specs.Agreement.{times}

-- a cyclic handler is due at most once
abbrev pub DueOnce : PlainNode → Type 0
DueOnce n = (cyc : ObjId) → times (is_cyclic cyc) n.net.pend.due ≤ 1
