-- The calls of a node's network part that wait, and the handlers that are due. The lists are this project's own; the calls, and
-- the callback routines that are told of them, are those of the ITRON TCP/IP API specification.
use Rattle.std.specs.Prelude.{ℕ, List, []}
use Rattle.it_types.specs.declared.handler.Handler.{Handler}
use Rattle.it_types.specs.declared.mark.Mark.{Mark}
use Rattle.spec_pend.specs.declared.call.NetCall.{NetCall}
use Rattle.spec_pend.specs.declared.answer.NetEnd.{NetEnd}

pub record PlainPend : Type 0 where
  pub last : ℕ  -- the greatest number with which a call was accepted
  pub calls : List NetCall  -- the calls that wait, in the order of their numbers
  pub due : List Handler  -- the handlers that are due, in the order in which they became so

-- no call waits, and no handler is due
abbrev pub opened_pend : PlainPend
opened_pend = record { last = 0; calls = []; due = [] }

-- an event under way: what waits and is due so far, with the ends of calls and the marks of routines that are told
pub record Endings : Type 0 where
  pub pend : PlainPend
  pub ends : List NetEnd
  pub marks : List Mark

-- at the event's beginning
abbrev pub no_endings : PlainPend → Endings
no_endings p = record { pend = p; ends = []; marks = [] }
