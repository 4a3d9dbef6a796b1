-- The handlers of a node: which become due at a tick, which begins, and its end (µITRON4.0 section 4.7.2 for cyclic handlers, ITRON
-- TCP/IP API for callback routines; that a handler begins and ends in events of its own is this project's own).
use Rattle.std.specs.Prelude.{List, [], ◌∷◌, ◌++◌, Option, Some, None, if◌then◌else◌}
use Rattle.std.specs.List.{list_any}
use Rattle.it_types.specs.declared.id.ObjId.{ObjId}
use Rattle.it_types.specs.declared.handler.Handler.{Handler}
use Rattle.it_types.specs.declared.handler.Handler.TheVariants.{Cyc}
use Rattle.it_types.specs.declared.mark.Mark.{Mark}
use Rattle.it_types.specs.declared.mark.Mark.TheVariants as marks
use Rattle.spec_pend.specs.Ends.{first_due, later_due, is_cyclic}
use Rattle.spec_udp.specs.PlainUdps.{UdpSide}
use Rattle.spec_node.specs.PlainNode.{PlainNode}

-- a cyclic handler that comes due is the last of those that are due; one that is due already isn't due twice
abbrev pub with_cyclic : List Handler → ObjId → List Handler
with_cyclic due cyc = if list_any (is_cyclic cyc) due then due else due ++ Cyc cyc ∷ []

-- the same for all that come due, one after another
abbrev pub with_cyclics : List Handler → List ObjId → List Handler
with_cyclics due [] = due
with_cyclics due (cyc ∷ cycs) = with_cyclics (with_cyclic due cyc) cycs

-- the network part, at which the handlers that are due are kept, with these
abbrev pub due_at : UdpSide → List Handler → UdpSide
due_at s due = record s { pend = record s.pend { due = due } }

-- the first due handler has begun, and the others are still due
abbrev pub begun_first : PlainNode → PlainNode
begun_first n = record n { net = due_at n.net (later_due n.net.pend.due); begun = first_due n.net.pend.due }

-- the mark of a handler that begins
abbrev pub entered_marks : Option Handler → List Mark
entered_marks None = []
entered_marks (Some h) = marks.Entered h ∷ []

-- the handler that had begun has ended
abbrev pub without_begun : PlainNode → PlainNode
without_begun n = record n { begun = None }
