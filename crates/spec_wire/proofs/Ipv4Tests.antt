-- Bytes are read as one datagram, and refused exactly where they are read as none.
use Rattle.std.proofs.Common.{◌≡◌, ℕ, false, List, None, refl}
use Rattle.std.proofs.lemmas.Bool.{eqb-true, eq-eqb, le-ltb, ltb-false, not-false, or_parts}
use Rattle.spec_lists.proofs.Refusing.{none_holds}
use Rattle.spec_wire.specs.Ipv4.{Ipv4, Reads, fields_of, refusal, refusals, is_short}

abbrev made : ℕ → ℕ → ℕ → ℕ → List ℕ → Ipv4
made src dst proto ttl load = record { src = src; dst = dst; proto = proto; ttl = ttl; load = load }

pub reads_once : (bytes : List ℕ) (d e : Ipv4) → Reads bytes d → Reads bytes e → d ≡ e
reads_once bytes d e hd he =
    let same : made d.src d.dst d.proto d.ttl d.load ≡ made e.src e.dst e.proto e.ttl e.load = cc in
    same

pub reads_unrefused : (bytes : List ℕ) (d : Ipv4) → Reads bytes d → refusal bytes ≡ None
unfolding refusal
reads_unrefused bytes d h =
    let short : is_short bytes ≡ false = le-ltb _ _ h.size in
    let version = eq-eqb _ _ h.version in
    let header = le-ltb _ _ h.header_length in
    let total = le-ltb _ _ h.total_length in
    let whole = le-ltb _ _ h.whole in
    let checksum = eq-eqb _ _ h.checksum in
    let offset = eq-eqb _ _ h.fragment_offset in
    let more = eq-eqb _ _ h.more_fragments in
    rw (short, version, header, total, whole, checksum, offset, more) refl

-- bytes that are not refused are read
pub reads_otherwise : (bytes : List ℕ)
    → refusal bytes ≡ None
    → Reads bytes (fields_of bytes)
unfolding refusal
reads_otherwise bytes h =
    let passed = none_holds (refusals bytes) h in
    let lengths = or_parts _ _ passed.1.1.0 in
    let total = or_parts _ _ lengths.1 in
    let fragment = or_parts _ _ passed.1.1.1.1.0 in
    record {
      size = ltb-false _ _ passed.0;
      version = eqb-true _ _ (not-false _ passed.1.0);
      header_length = ltb-false _ _ lengths.0;
      total_length = ltb-false _ _ total.0;
      whole = ltb-false _ _ total.1;
      checksum = eqb-true _ _ (not-false _ passed.1.1.1.0);
      more_fragments = eqb-true _ _ (not-false _ fragment.1);
      fragment_offset = eqb-true _ _ (not-false _ fragment.0);
      ttl = refl;
      proto = refl;
      src = refl;
      dst = refl;
      load = refl;
    }
