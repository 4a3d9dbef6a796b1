use Rattle.std.proofs.Common.{refl}
use Rattle.net_ip4.specs.Shown.{shown}
use Rattle.net_udp.specs.Shown as user
use Rattle.e_udp.proofs.FromWire.{if_for_bad, if_for_read}
use Rattle.e_udp.proofs.arriving.user_datagram.Goals as goal

pub returns-in-Ok-clause-read : goal.returns-in-Ok-clause-read
returns-in-Ok-clause-read c = if_for_read c.args.addr (shown c.args.d.now) (user.shown c.in-Ok.user_datagram) c.if-d-addr.false c.if-d-ne-UDP_PROTOCOL.false c.in-Ok.ensures.read

pub returns-in-Err-clause-read : goal.returns-in-Err-clause-read
returns-in-Err-clause-read c = if_for_bad c.args.addr (shown c.args.d.now) c.in-Err.field-0 c.if-d-addr.false c.if-d-ne-UDP_PROTOCOL.false (c.in-Err.ensures.refused c.in-Err.field-0 refl)
