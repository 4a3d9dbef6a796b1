use Rattle.std.proofs.Common.{sym}
use Rattle.e_udp.specs.Does.{side}
use Rattle.n_node.proofs.Answering.{refused_does}
use Rattle.n_node.proofs.udp_calls.udp_call.Goals as goal

pub returns-then-needs_task-clause-does : goal.returns-then-needs_task-clause-does
returns-then-needs_task-clause-does c =
    refused_does (side c.args.udps.now c.args.pend.now) c.args.ctx c.args.request.now c.args.number c.code.result c.requires.rest (sym c.if-is_handler.ensures) (sym c.if-needs_task.ensures) c.code.ensures
