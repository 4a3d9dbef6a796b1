-- What a search has taken out of the calls that wait.
use Rattle.std.specs.Prelude.{List, Option, Some, None}
use Rattle.spec_kernel.specs.declared.reason.WaitingCall.{WaitingCall}

-- with the others
abbrev pub paired : Option WaitingCall → List WaitingCall → Option (WaitingCall × List WaitingCall)
paired None ws = None
paired (Some w) ws = Some (w, ws)
