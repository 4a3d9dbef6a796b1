-- Where calls wait: at most one at each part of an end point (ITRON TCP/IP API, the calls that may wait), and which calls a
-- cancel names.
use Rattle.std.specs.Prelude.{ℕ, Bool, true, ◌&&◌, ◌==◌, List, [], ◌∷◌, ◌++◌, Option, Some, None, if◌then◌else◌}
use Rattle.std.specs.Bool.{beq}
use Rattle.std.specs.List.{list_any}
use Rattle.it_types.specs.declared.id.CepId.{CepId}
use Rattle.it_types.specs.declared.id.CallNo.{CallNo}
use Rattle.it_types.specs.declared.er.Er.{Er}
use Rattle.it_types.specs.declared.er.TheConstants.{E_OK, E_OBJ}
use Rattle.it_types.specs.declared.handler.FnCode.{FnCode}
use Rattle.it_types.specs.declared.handler.FnCode.TheVariants as functions
use Rattle.it_types.specs.Spelling.{function_number}
use Rattle.spec_lists.specs.First.{take_first, take_least}
use Rattle.spec_pend.specs.declared.slot.Slot.{Slot}
use Rattle.spec_pend.specs.declared.slot.Part.{Part}
use Rattle.spec_pend.specs.declared.slot.Part.TheVariants.{Conn, Send, Recv}
use Rattle.spec_pend.specs.declared.call.Who.{Who}
use Rattle.spec_pend.specs.declared.call.NetCall.{NetCall}
use Rattle.spec_pend.specs.PlainPend.{PlainPend}

-- the order in which a cancel of all functions ends calls: connection, sending, receiving
abbrev pub part_number : Part → ℕ
part_number Conn = 0
part_number Send = 1
part_number Recv = 2

-- the call waits at this end point
abbrev pub is_at : Bool → CepId → NetCall → Bool
is_at udp cep c = beq c.slot.udp udp && (c.slot.cep.0 == cep.0)

-- the call waits at this part of its end point, with whatever function
abbrev pub has_slot : Slot → NetCall → Bool
has_slot slot c = is_at slot.udp slot.cep c && (part_number c.slot.part == part_number slot.part)

abbrev pub is_taken : PlainPend → Slot → Bool
is_taken p slot = list_any (has_slot slot) p.calls

-- the function is the one that is asked for, or any is
abbrev pub is_of : FnCode → FnCode → Bool
is_of functions.All func = true
is_of asked func = function_number asked == function_number func

-- a cancel of this function at the end point names the call
abbrev pub is_named : Bool → CepId → FnCode → NetCall → Bool
is_named udp cep func c = is_at udp cep c && is_of func c.slot.func

abbrev pub part_of : NetCall → ℕ
part_of c = part_number c.slot.part

abbrev pub has_number : CallNo → NetCall → Bool
has_number number c = c.call.0 == number.0

-- ---- which call, and the others

abbrev pub at_slot : PlainPend → Slot → Option (NetCall × List NetCall)
at_slot p slot = take_first (has_slot slot) p.calls

-- the first that a cancel of this function names
abbrev pub named : PlainPend → Bool → CepId → FnCode → Option (NetCall × List NetCall)
named p udp cep func = take_least (is_named udp cep func) part_of p.calls

abbrev pub numbered : PlainPend → CallNo → Option (NetCall × List NetCall)
numbered p number = take_first (has_number number) p.calls

abbrev pub number_found : Option (NetCall × List NetCall) → Option CallNo
number_found None = None
number_found (Some found) = Some found.0.call

-- ---- a call that is accepted

-- it waits, last
abbrev pub with_call : PlainPend → Who → Slot → CallNo → PlainPend
with_call p who slot number = record p { last = number.0; calls = p.calls ++ record { call = number; who = who; slot = slot } ∷ [] }

-- where another waits at that part nothing changes
abbrev pub accepted : PlainPend → Who → Slot → CallNo → PlainPend × Er
accepted p who slot number = if is_taken p slot then (p, E_OBJ) else (with_call p who slot number, E_OK)
