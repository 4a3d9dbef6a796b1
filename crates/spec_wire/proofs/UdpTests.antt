-- Bytes are read as one user datagram, and refused exactly where they are read as none.
use Rattle.std.proofs.Common.{◌≡◌, ℕ, Bool, true, false, not, ◌&&◌, ◌==◌, List, None, refl, inl, inr, ◌⊎◌}
use Rattle.std.proofs.lemmas.Bool.{eqb-true, eq-eqb, le-ltb, ltb-false, or_parts}
use Rattle.spec_lists.proofs.Refusing.{none_holds}
use Rattle.spec_wire.specs.Udp.{UserDatagram, Reads, fields_of, refusal, refusals, is_short, is_wrong_sum, checksum_field_of, sum_of, datagram_of}

abbrev made : ℕ → ℕ → List ℕ → UserDatagram
made from_port to_port load = record { from_port = from_port; to_port = to_port; load = load }

pub reads_once : (src dst : ℕ) (bytes : List ℕ) (u v : UserDatagram) → Reads src dst bytes u → Reads src dst bytes v → u ≡ v
reads_once src dst bytes u v hu hv =
    let same : made u.from_port u.to_port u.load ≡ made v.from_port v.to_port v.load = cc in
    same

left_false : (p q : Bool) → p ≡ true → (not p && not q) ≡ false
left_false p q h = rw h refl

right_false : (p q : Bool) → q ≡ true → (not p && not q) ≡ false
right_false true q h = refl
right_false false q h = rw h refl

one_true : (p q : Bool) → (not p && not q) ≡ false → (p ≡ true) ⊎ (q ≡ true)
one_true true q h = inl refl
one_true false true h = inr refl
one_true false false h = absurd cc

-- two tests of unequal numbers, of which one fails
unequal : (a b m n : ℕ) → (a ≡ m) ⊎ (b ≡ n) → (not (a == m) && not (b == n)) ≡ false
unequal a b m n (inl h) = left_false (a == m) (b == n) (eq-eqb _ _ h)
unequal a b m n (inr h) = right_false (a == m) (b == n) (eq-eqb _ _ h)

equal : (a b m n : ℕ) → (not (a == m) && not (b == n)) ≡ false → (a ≡ m) ⊎ (b ≡ n)
equal a b m n h = elim (one_true (a == m) (b == n) h) [
  | inl e ↦ inl (eqb-true _ _ e)
  | inr e ↦ inr (eqb-true _ _ e)
]

pub reads_unrefused : (src dst : ℕ) (bytes : List ℕ) (u : UserDatagram) → Reads src dst bytes u → refusal src dst bytes ≡ None
unfolding refusal
reads_unrefused src dst bytes u h =
    let short : is_short bytes ≡ false = le-ltb _ _ h.size in
    let header = le-ltb _ _ h.header in
    let whole = le-ltb _ _ h.whole in
    let checksum : is_wrong_sum src dst bytes ≡ false = unequal _ _ _ _ h.checksum in
    rw (short, header, whole, checksum) refl

-- bytes that are not refused are read
pub reads_otherwise : (src dst : ℕ) (bytes : List ℕ)
    → refusal src dst bytes ≡ None
    → Reads src dst bytes (fields_of bytes)
unfolding refusal
reads_otherwise src dst bytes h =
    let passed = none_holds (refusals src dst bytes) h in
    let lengths = or_parts _ _ passed.1.0 in
    record {
      size = ltb-false _ _ passed.0;
      header = ltb-false _ _ lengths.0;
      whole = ltb-false _ _ lengths.1;
      checksum = equal (checksum_field_of bytes) (sum_of src dst (datagram_of bytes)) 0 65535 passed.1.1.0;
      from_port = refl;
      to_port = refl;
      load = refl;
    }
