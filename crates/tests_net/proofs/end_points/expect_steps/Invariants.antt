use Rattle.spec_udp.specs.Settling.{UdpAtRest}
use Rattle.e_udp.specs.Does.{side}
use Rattle.tests_net.proofs.end_points.expect_steps.Given as goal

abbrev pub invariant-loop-what : goal.invariant-loop-what
invariant-loop-what g l = UdpAtRest (side l.udps l.pend)
