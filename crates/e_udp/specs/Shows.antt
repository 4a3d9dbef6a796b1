-- What an event shows, part by part.
use Rattle.std.specs.Prelude.{◌≡◌, ℕ, List, [], map, Option, Some, None}
use Rattle.it_types.specs.declared.answer.Ans.{Ans}
use Rattle.it_types.specs.declared.entry.Out.{Out}
use Rattle.it_types.specs.declared.er.Er.{Er}
use Rattle.it_types.specs.declared.id.CallNo.{CallNo}
use Rattle.spec_pend.specs.declared.call.Who.{Who}
use Rattle.spec_pend.specs.declared.call.NetCall.{NetCall}
use Rattle.spec_pend.specs.declared.slot.Slot.{Slot}
use Rattle.spec_pend.specs.PlainPend.{PlainPend, Endings, no_endings}
use Rattle.spec_pend.specs.Slots.{with_call}
use Rattle.spec_pend.specs.Ends.{ended_as}
use Rattle.spec_pend.specs.Outs.{shown_end}

-- an answer, the ends and the marks, without packets
abbrev pub without_packets : Ans → Endings → Out
without_packets answer e = record { ans = answer; ends = map shown_end e.ends; marks = e.marks; packs = [] }

-- an answer, and nothing else
abbrev pub alone : Ans → Out
alone answer = record { ans = answer; ends = []; marks = []; packs = [] }

-- the calls that wait afterwards, and what is shown beside this answer, are those of the endings
pub record Shows (after : PlainPend) (out : Out) (answer : Ans) (e : Endings) : Type 0 where
  pub left : after ≡ e.pend
  pub told : out ≡ without_packets answer e

-- the call that was found ends with this code and these bytes, if one was
abbrev pub ended_with : Endings → Option (NetCall × List NetCall) → Er → List ℕ → Endings
ended_with e None code bytes = e
ended_with e (Some found) code bytes = ended_as e found code bytes

-- a call that is accepted and ends at once with this code and these bytes
abbrev pub begun_and_ended : PlainPend → Who → Slot → CallNo → Er → List ℕ → Endings
begun_and_ended p who slot number code bytes = ended_as (no_endings (with_call p who slot number)) (record { call = number; who = who; slot = slot }, p.calls) code bytes
