use Rattle.std.proofs.Common.{refl}
use Rattle.std.proofs.lemmas.Result.{IfOk-weaker}
use Rattle.e_udp.specs.Does.{side}
use Rattle.net_ip4.specs.Shown.{shown}
use Rattle.n_node.proofs.Packets.{datagram_arrives, nothing_arrives}
use Rattle.n_node.proofs.arriving.receive.Goals as goal

pub returns-in-Ok : goal.returns-in-Ok
returns-in-Ok c =
    IfOk-weaker c.arrive.result _ _ (λ out does. datagram_arrives (side c.args.udps.now c.args.pend.now) (side c.arrive.new.self c.arrive.new.pend) c.args.bytes.now (shown c.in-Ok.datagram) out c.in-Ok.ensures.read does) c.arrive.ensures.does

pub returns-in-Err : goal.returns-in-Err
returns-in-Err c =
    rw (c.new.ensures, c.new-in-Err.ensures, c.new-in-Err-2.ensures) (nothing_arrives (side c.args.udps.now c.args.pend.now) c.args.bytes.now c.in-Err.field-0 c.requires ((c.in-Err.ensures.refused c.in-Err.field-0).0 refl))
