-- Bytes are read as one segment, and refused exactly where they are read as none.
use Rattle.std.proofs.Common.{◌≡◌, ◌∙◌, ℕ, false, List, Option, Some, None, refl, sym, ap}
use Rattle.std.proofs.lemmas.Bool.{eqb-true, eq-eqb, le-ltb, ltb-false, not-false, or_parts}
use Rattle.spec_lists.proofs.Refusing.{none_holds}
use Rattle.spec_wire.specs.Segment.{Segment, Options, Reads, fields_of, options_of, refusal, refusals, is_short, is_wrong_option}

abbrev made : ℕ → ℕ → ℕ → ℕ → ℕ → ℕ → Option ℕ → List ℕ → Segment
made from_port to_port seq ack flags wnd mss load = record { from_port = from_port; to_port = to_port; seq = seq; ack = ack; flags = flags; wnd = wnd; mss = mss; load = load }

abbrev size_told : Option Options → Option ℕ
size_told None = None
size_told (Some options) = options.mss

pub reads_once : (src dst : ℕ) (bytes : List ℕ) (s t : Segment) → Reads src dst bytes s → Reads src dst bytes t → s ≡ t
reads_once src dst bytes s t hs ht =
    let size : s.mss ≡ t.mss = sym (ap size_told hs.options) ∙ ap size_told ht.options in
    let same : made s.from_port s.to_port s.seq s.ack s.flags s.wnd s.mss s.load ≡ made t.from_port t.to_port t.seq t.ack t.flags t.wnd t.mss t.load =
    rw (hs.from_port, hs.to_port, hs.seq, hs.ack, hs.flags, hs.wnd, hs.load, ht.from_port, ht.to_port, ht.seq, ht.ack, ht.flags, ht.wnd, ht.load, size) refl in
    same

pub reads_unrefused : (src dst : ℕ) (bytes : List ℕ) (s : Segment) → Reads src dst bytes s → refusal src dst bytes ≡ None
unfolding refusal
reads_unrefused src dst bytes s h =
    let short : is_short bytes ≡ false = le-ltb _ _ h.size in
    let header = le-ltb _ _ h.header in
    let whole = le-ltb _ _ h.whole in
    let checksum = eq-eqb _ _ h.checksum in
    let options : is_wrong_option bytes ≡ false = rw h.options refl in
    rw (short, header, whole, checksum, options) refl

-- bytes that are not refused are read, with what their options tell
pub reads_fields : (src dst : ℕ) (bytes : List ℕ) (options : Options)
    → refusal src dst bytes ≡ None
    → options_of bytes ≡ Some options
    → Reads src dst bytes (fields_of bytes options)
unfolding refusal
reads_fields src dst bytes options h told =
    let passed = none_holds (refusals src dst bytes) h in
    let offsets = or_parts _ _ passed.1.0 in
    record {
      size = ltb-false _ _ passed.0;
      header = ltb-false _ _ offsets.0;
      whole = ltb-false _ _ offsets.1;
      checksum = eqb-true _ _ (not-false _ passed.1.1.0);
      from_port = refl;
      to_port = refl;
      seq = refl;
      ack = refl;
      flags = refl;
      wnd = refl;
      options = told;
      load = refl;
    }
