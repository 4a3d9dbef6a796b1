-- A datagram of the code without where its data lies in memory.
use Rattle.net_udp.specs.declared.datagram.Udp.{Udp}
use Rattle.spec_wire.specs.Udp.{UserDatagram}

abbrev pub shown : Udp → UserDatagram
shown u = record { from_port = u.from_port; to_port = u.to_port; load = u.load.now }
