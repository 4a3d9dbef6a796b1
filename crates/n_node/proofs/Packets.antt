-- The bytes of a packet that reach the network part of a node.
use Rattle.std.proofs.Common.{◌≡◌, ℕ, List, Some, None, refl, ap}
use Rattle.it_types.specs.declared.answer.Ans.TheVariants.{Quiet}
use Rattle.it_types.specs.declared.entry.Out.{Out}
use Rattle.spec_wire.specs.Ipv4.{Ipv4, Reads, refusal, fields_of}
use Rattle.spec_wire.specs.declared.ipv4.Bad.{Bad}
use Rattle.spec_wire.proofs.Ipv4Tests.{reads_once, reads_unrefused, reads_otherwise}
use Rattle.spec_udp.specs.Arrival.{after_arrival, arrive}
use Rattle.spec_udp.specs.Packets.{if_for, arrived_in}
use Rattle.spec_udp.specs.PlainUdps.{UdpSide, quiet}
use Rattle.spec_udp.specs.Settling.{settled, UdpAtRest}
use Rattle.spec_udp.proofs.Settling.{settled_none}
use Rattle.e_udp.specs.Does.{Does, no_number}
use Rattle.e_udp.specs.Shows.{alone}

arrived_read : (addr : ℕ) (bytes : List ℕ) (d : Ipv4) → Reads bytes d → arrived_in addr bytes ≡ if_for addr d
unfolding arrived_in
arrived_read addr bytes d reads =
    let none = reads_unrefused bytes d reads in
    rw none (ap (if_for addr) (reads_once bytes (fields_of bytes) d (reads_otherwise bytes none) reads))

-- a datagram that was read arrives
pub datagram_arrives : (s after : UdpSide) (bytes : List ℕ) (d : Ipv4) (out : Out)
    → Reads bytes d
    → Does after no_number out (settled (after_arrival s (if_for s.udps.addr d)))
    → Does after no_number out (arrive s bytes)
unfolding arrive
datagram_arrives s after bytes d out reads does = rw (arrived_read s.udps.addr bytes d reads) does

arrived_none : (addr : ℕ) (bytes : List ℕ) (why : Bad) → refusal bytes ≡ Some why → arrived_in addr bytes ≡ None
unfolding arrived_in
arrived_none addr bytes why refused = rw refused refl

-- what is no datagram is dropped
pub nothing_arrives : (s : UdpSide) (bytes : List ℕ) (why : Bad)
    → UdpAtRest s
    → refusal bytes ≡ Some why
    → Does s no_number (alone Quiet) (arrive s bytes)
unfolding arrive
nothing_arrives s bytes why rest refused = rw (arrived_none s.udps.addr bytes why refused, settled_none (quiet s) rest) (record { state = refl; told = refl })
