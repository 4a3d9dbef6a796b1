-- What an event at the end points does.
use Rattle.std.specs.Prelude.{◌≡◌}
use Rattle.it_types.specs.declared.id.CallNo.{CallNo}
use Rattle.it_types.specs.declared.entry.Out.{Out}
use Rattle.spec_pend.specs.PlainPend.{PlainPend}
use Rattle.spec_pend.specs.Outs.{shown}
use Rattle.spec_udp.specs.PlainUdps.{PlainUdps, UdpSide, UdpOutcome, side_after}

-- the end points, and the calls that wait, which are lent to them
abbrev pub side : PlainUdps → PlainPend → UdpSide
side udps lent = record { udps = udps; pend = lent }

-- the state afterwards and what the event shows, under the number of its call, are those of the outcome
pub record Does (after : UdpSide) (number : CallNo) (out : Out) (o : UdpOutcome) : Type 0 where
  pub state : after ≡ side_after o
  pub told : out ≡ shown number o.answer o.endings o.packets

-- the number of an event that is no call
abbrev pub no_number : CallNo
no_number = record { 0 = 0 }
