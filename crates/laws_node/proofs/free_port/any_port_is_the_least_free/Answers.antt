use Rattle.spec_udp.proofs.FreePorts.{free_port_free, free_port_least}
use Rattle.laws_node.proofs.free_port.any_port_is_the_least_free.Goals as goal

-- src/free_port.rt:6:1
pub returns-clause-free : goal.returns-clause-free
returns-clause-free c = free_port_free

-- src/free_port.rt:6:1
pub returns-clause-least : goal.returns-clause-least
returns-clause-least c = free_port_least
