-- A packet that was empty and has a datagram appended is read as that datagram.
use Rattle.std.proofs.Common.{◌≡◌, ℕ, List, [], ◌++◌, sym, ◌∙◌, ap, subst}
use Rattle.std.proofs.lemmas.List.{append-nil}
use Rattle.spec_wire.specs.Ipv4.{Ipv4, IsWritable, Reads, written}
use Rattle.spec_wire.proofs.Ipv4Laws.{reads_written}

pub packet_reads : (packet cleared : List ℕ) (d : Ipv4)
    → IsWritable d
    → cleared ≡ []
    → packet ≡ cleared ++ written d
    → Reads packet (record d { ttl = 64 })
packet_reads packet cleared d good empty appended =
    let whole : written d ++ [] ≡ packet = append-nil (written d) ∙ sym (appended ∙ ap (λ xs. xs ++ written d) empty) in
    let P : List ℕ → Type 0 = λ bytes. Reads bytes (record d { ttl = 64 }) in
    subst P whole (reads_written d [] good)
