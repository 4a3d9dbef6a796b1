-- User datagrams in packets (RFC 768 on RFC 791): what is sent, and what is read from a packet that came. That all that
-- isn't for the node, or isn't read, is silently dropped is this project's own.
use Rattle.std.specs.Prelude.{ℕ, List, Option, Some, None, ◌==◌, if◌then◌else◌}
use Rattle.it_types.specs.declared.id.EndPt.{EndPt}
use Rattle.spec_wire.specs.Ipv4 as ipv4
use Rattle.spec_wire.specs.Ipv4.{Ipv4}
use Rattle.spec_wire.specs.declared.ipv4.Bad.{Bad}
use Rattle.spec_wire.specs.Udp as udp
use Rattle.spec_wire.specs.Udp.{UserDatagram}
use Rattle.spec_wire.specs.declared.udp.Bad as udp_bad
use Rattle.spec_udp.specs.declared.point.Received.{Received}

-- the protocol number of UDP
abbrev pub udp_protocol : ℕ
udp_protocol = 17

-- the packet in which data goes from a port of this address to an end point
abbrev pub sent_packet : ℕ → ℕ → EndPt → List ℕ → List ℕ
sent_packet addr port dest load = ipv4.written (record {
  src = addr;
  dst = dest.addr;
  proto = udp_protocol;
  ttl = 64;
  load = udp.written addr dest.addr (record { from_port = port; to_port = dest.port; load = load });
})

-- a user datagram that came: its destination port, and what the end point there receives
pub record Arrived : Type 0 where
  pub port : ℕ
  pub received : Received

abbrev pub arrived_fields : Ipv4 → UserDatagram → Arrived
arrived_fields d u = record { port = u.to_port; received = record { from = record { addr = d.src; port = u.from_port }; load = u.load } }

-- what is read of the data of a datagram, if its tests refuse nothing
abbrev pub unless_bad_udp : Ipv4 → Option udp_bad.Bad → Option Arrived
unless_bad_udp d (Some bad) = None
unless_bad_udp d None = Some (arrived_fields d (udp.fields_of d.load))

-- a datagram for this address with the protocol UDP is read further
abbrev pub if_for : ℕ → Ipv4 → Option Arrived
if_for addr d = if d.dst == addr then (if d.proto == udp_protocol then unless_bad_udp d (udp.refusal d.src d.dst d.load) else None) else None

abbrev pub unless_bad : ℕ → List ℕ → Option Bad → Option Arrived
unless_bad addr bytes (Some bad) = None
unless_bad addr bytes None = if_for addr (ipv4.fields_of bytes)

-- the user datagram for this address in the bytes of a packet, if they have one
unfoldable pub arrived_in : ℕ → List ℕ → Option Arrived
arrived_in addr bytes = unless_bad addr bytes (ipv4.refusal bytes)
