-- A datagram of the code without where its data lies in memory.
use Rattle.net_ip4.specs.declared.datagram.Datagram.{Datagram}
use Rattle.spec_wire.specs.Ipv4.{Ipv4}

abbrev pub shown : Datagram → Ipv4
shown d = record { src = d.src; dst = d.dst; proto = d.proto; ttl = d.ttl; load = d.load.now }
