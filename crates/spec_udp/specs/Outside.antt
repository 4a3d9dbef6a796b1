-- A waiting call that is ended from outside, by its time-out, a release or its task's end (µITRON4.0 section 2.1). It is this
-- project's own.
use Rattle.it_types.specs.declared.id.CallNo.{CallNo}
use Rattle.it_types.specs.declared.er.Er.{Er}
use Rattle.spec_pend.specs.PlainPend.{no_endings}
use Rattle.spec_pend.specs.Slots.{numbered}
use Rattle.spec_pend.specs.Ends.{ended_where}
use Rattle.spec_udp.specs.PlainUdps.{UdpSide, UdpOutcome, quiet}
use Rattle.spec_udp.specs.Settling.{settled}

-- the call of the number ends with this code; where there is none, nothing happens
abbrev pub ended_at : UdpSide → CallNo → Er → UdpOutcome
ended_at s number code = record (quiet s) { endings = ended_where (no_endings s.pend) (numbered s.pend number) code }

-- the same, and all calls that are met then end
unfoldable pub ended : UdpSide → CallNo → Er → UdpOutcome
ended s number code = settled (ended_at s number code)
