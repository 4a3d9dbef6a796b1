-- User datagrams as they are read and written.
use Rattle.std.proofs.Common.{◌≡◌, ℕ, ◌-◌, ◌≤◌, List, length, drop, Some, None, refl, ap, arith}
use Rattle.std.specs.List.{slice_range}
use Rattle.std.proofs.lemmas.List.{length-take}
use Rattle.std.proofs.lemmas.Bool.{eq-eqb}
use Rattle.spec_wire.specs.Octets.{AreOctets}
use Rattle.spec_wire.specs.Ipv4.{Ipv4}
use Rattle.spec_wire.specs.Udp as udp
use Rattle.spec_wire.specs.Udp.{UserDatagram, Reads, fields_of, length_of, written}
use Rattle.spec_wire.specs.declared.udp.Bad.{Bad}
use Rattle.spec_wire.proofs.UdpTests.{reads_once, reads_unrefused}
use Rattle.spec_udp.specs.Packets.{arrived_fields, if_for}

-- what is read is received
pub if_for_read : (addr : ℕ) (d : Ipv4) (u : UserDatagram) → d.dst ≡ addr → d.proto ≡ 17 → Reads d.src d.dst d.load u → if_for addr d ≡ Some (arrived_fields d u)
if_for_read addr d u dst proto reads =
    rw (eq-eqb d.dst addr dst, eq-eqb d.proto 17 proto, reads_unrefused d.src d.dst d.load u reads) (ap (λ v. Some (arrived_fields d v)) (reads_once d.src d.dst d.load (fields_of d.load) u in_fields reads))
  where
    in_fields : Reads d.src d.dst d.load (fields_of d.load)
    in_fields = record { size = reads.size; header = reads.header; whole = reads.whole; checksum = reads.checksum; from_port = refl; to_port = refl; load = refl }

-- what is refused isn't
pub if_for_bad : (addr : ℕ) (d : Ipv4) (bad : Bad) → d.dst ≡ addr → d.proto ≡ 17 → udp.refusal d.src d.dst d.load ≡ Some bad → if_for addr d ≡ None
if_for_bad addr d bad dst proto refused = rw (eq-eqb d.dst addr dst, eq-eqb d.proto 17 proto, refused) refl

-- a user datagram with its header
pub written_fits : (src dst : ℕ) (u : UserDatagram) → length u.load ≤ 1472 → length (written src dst u) ≤ 1480
unfolding written
written_fits src dst u fits = omega (arith, fits)

range_size : (bytes : List ℕ) (from to : ℕ) → length (slice_range bytes from to) ≤ to - from
range_size bytes from to = omega (arith, length-take (to - from) (drop from bytes))

-- no more is read than a length of 16 bits says
pub read_size : (src dst : ℕ) (bytes : List ℕ) (u : UserDatagram) → AreOctets bytes → Reads src dst bytes u → length u.load ≤ 65535
read_size src dst bytes u octets reads = omega (arith, ap length reads.load, range_size bytes 8 (length_of bytes), octets 4, octets 5)
