-- The ends of calls, and the callback routines that are told of them (ITRON TCP/IP API, callback routines; that a routine begins
-- only after the event that makes it due is this project's own).
use Rattle.std.specs.Prelude.{◌≡◌, ℕ, Bool, false, ◌==◌, List, [], ◌∷◌, ◌++◌, Option, Some, None}
use Rattle.std.specs.List.{list_any}
use Rattle.it_types.specs.declared.id.ObjId.{ObjId}
use Rattle.it_types.specs.declared.id.CallNo.{CallNo}
use Rattle.it_types.specs.declared.er.Er.{Er}
use Rattle.it_types.specs.declared.handler.Handler.{Handler}
use Rattle.it_types.specs.declared.handler.Handler.TheVariants.{Cyc, Cbr}
use Rattle.it_types.specs.declared.mark.Mark.{Mark}
use Rattle.it_types.specs.declared.mark.Mark.TheVariants as marks
use Rattle.spec_pend.specs.declared.slot.Slot.{Slot}
use Rattle.spec_pend.specs.declared.call.Who.{Who}
use Rattle.spec_pend.specs.declared.call.Who.TheVariants as whos
use Rattle.spec_pend.specs.declared.call.NetCall.{NetCall}
use Rattle.spec_pend.specs.declared.answer.NetEnd.{NetEnd}
use Rattle.spec_pend.specs.PlainPend.{PlainPend, Endings}
use Rattle.spec_pend.specs.Slots.{numbered}

-- ---- routines that are told

-- a routine is told of a call, or of an event, at this part of an end point
abbrev pub routine_told : ObjId → Slot → Er → List ℕ → Handler
routine_told cbr slot code bytes = Cbr cbr slot.udp slot.cep slot.func code bytes

abbrev pub callback_mark : ObjId → Slot → Er → Mark
callback_mark cbr slot code = marks.Callback cbr slot.udp slot.cep slot.func code

-- a handler more is due, last
abbrev pub with_due : PlainPend → Handler → PlainPend
with_due p h = record p { due = p.due ++ h ∷ [] }

-- a task is told by its return, a routine by a handler that is due from then on
abbrev pub handlers_for : Who → Slot → Er → List ℕ → List Handler
handlers_for (whos.Task t) slot code bytes = []
handlers_for (whos.Callback t cbr) slot code bytes = routine_told cbr slot code bytes ∷ []

abbrev pub marks_for : Who → Slot → Er → List Mark
marks_for (whos.Task t) slot code = []
marks_for (whos.Callback t cbr) slot code = callback_mark cbr slot code ∷ []

-- the routine is due, last, with its mark
abbrev pub told : Endings → ObjId → Slot → Er → List ℕ → Endings
told e cbr slot code bytes = record e { pend = with_due e.pend (routine_told cbr slot code bytes); marks = e.marks ++ callback_mark cbr slot code ∷ [] }

-- ---- the end of a call

abbrev pub end_of : NetCall → Er → List ℕ → NetEnd
end_of c code bytes = record { call = c.call; who = c.who; code = code; bytes = bytes }

-- the call that was found waits no longer, and who is told of it is
abbrev pub pend_after : PlainPend → NetCall × List NetCall → Er → List ℕ → PlainPend
pend_after p found code bytes = record p { calls = found.1; due = p.due ++ handlers_for found.0.who found.0.slot code bytes }

-- the call that was found ends with this code and these bytes
abbrev pub ended_as : Endings → NetCall × List NetCall → Er → List ℕ → Endings
ended_as e found code bytes = record {
  pend = pend_after e.pend found code bytes;
  ends = e.ends ++ end_of found.0 code bytes ∷ [];
  marks = e.marks ++ marks_for found.0.who found.0.slot code;
}

-- the same where one is found, without bytes
abbrev pub ended_where : Endings → Option (NetCall × List NetCall) → Er → Endings
ended_where e None code = e
ended_where e (Some found) code = ended_as e found code []

-- ---- the end of the call of a number, and who is told of it

abbrev pub ended_found : PlainPend → Option (NetCall × List NetCall) → Er → List ℕ → PlainPend × Option Who
ended_found p None code bytes = (p, None)
ended_found p (Some found) code bytes = (pend_after p found code bytes, Some found.0.who)

abbrev pub ended : PlainPend → CallNo → Er → List ℕ → PlainPend × Option Who
ended p number code bytes = ended_found p (numbered p number) code bytes

-- where a routine is told, one handler more is due, last, with this code and these bytes; else none
abbrev pub AddsDue : List Handler → List Handler → Option Who → Er → List ℕ → Type 0
AddsDue before after None code bytes = after ≡ before
AddsDue before after (Some (whos.Task t)) code bytes = after ≡ before
AddsDue before after (Some (whos.Callback t cbr)) code bytes = (slot : Slot) × (after ≡ before ++ routine_told cbr slot code bytes ∷ [])

-- ---- the handlers that are due

abbrev pub first_due : List Handler → Option Handler
first_due [] = None
first_due (h ∷ hs) = Some h

abbrev pub later_due : List Handler → List Handler
later_due [] = []
later_due (h ∷ hs) = hs

-- the first is due no longer
abbrev pub without_first_due : PlainPend → PlainPend
without_first_due p = record p { due = later_due p.due }

-- it is this cyclic handler
abbrev pub is_cyclic : ObjId → Handler → Bool
is_cyclic cyc (Cyc c) = c.0 == cyc.0
is_cyclic cyc (Cbr cbr udp cep func code bytes) = false

abbrev pub is_cyclic_due : ObjId → PlainPend → Bool
is_cyclic_due cyc p = list_any (is_cyclic cyc) p.due
