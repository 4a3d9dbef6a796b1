-- Data that is read is what its digits spell, and data that is spelled is read again.
use Rattle.std.proofs.Common.{◌≡◌, ℕ, zero, suc, ◌/◌, ◌%◌, Bool, true, leb, List, [], ◌∷◌, length, slice_index, Some, None, Result, Ok, Err, refl, sym, ap, ◌∙◌, inl, inr, arith}
use Rattle.std.specs.Prelude.{nat_eq}
use Rattle.std.specs.List.{list_all}
use Rattle.std.specs.Cmp.Lexicographic.{pointwise}
use Rattle.std.proofs.lemmas.Bool.{cases_Bool, and_parts, leb-true, ltb-true, le-leb, lt-ltb}
use Rattle.std.proofs.lemmas.Slice.Eq.{bytes_eq-Decides}
use Rattle.hex.specs.Hex.{IsBytes, decode_of, encode_lower, encode_with, lower_digits}
use Rattle.hex.specs.declared.error.FromHexError.{FromHexError}
use Rattle.hex.proofs.HexLemmas.{length-encode_with, decode_of-encode_lower, decode_of-ok}
use Rattle.it_types.specs.Data.{is_byte, is_data, if_lower, data_of}
use Rattle.it_types.proofs.ReadSteps.{found_is}

-- ---- bytes

-- what is tested is a byte
bytes_are : (xs : List ℕ) → list_all is_byte xs ≡ true → IsBytes xs
bytes_are [] all i = omega arith
bytes_are (x ∷ xs) all zero = ltb-true x 256 (and_parts (is_byte x) (list_all is_byte xs) all).0
bytes_are (x ∷ xs) all (suc i) = bytes_are xs (and_parts (is_byte x) (list_all is_byte xs) all).1 i

-- bytes pass the test
all_bytes : (xs : List ℕ) → IsBytes xs → list_all is_byte xs ≡ true
all_bytes [] bytes = refl
all_bytes (x ∷ xs) bytes = rw (lt-ltb x 256 (bytes zero), all_bytes xs (λ i. bytes (suc i))) refl

-- ---- digits

-- what each element of a table passes, what is read from it passes
at_passes : (test : ℕ → Bool) (table : List ℕ) (i : ℕ) → list_all test table ≡ true → test 0 ≡ true → test (slice_index table i) ≡ true
at_passes test [] i all past = past
at_passes test (x ∷ xs) zero all past = (and_parts (test x) (list_all test xs) all).0
at_passes test (x ∷ xs) (suc i) all past = at_passes test xs i (and_parts (test x) (list_all test xs) all).1 past

-- what each digit passes, the digits of data pass
pub hex_passes : (test : ℕ → Bool) → list_all test lower_digits ≡ true → test 0 ≡ true → (load : List ℕ) → list_all test (encode_lower load) ≡ true
unfolding encode_with
hex_passes test all past [] = refl
hex_passes test all past (b ∷ load) =
    rw (at_passes test lower_digits (b / 16) all past, at_passes test lower_digits (b % 16) all past, hex_passes test all past load) refl

-- ---- data

-- data that was decoded
abbrev decoded : List ℕ → Result (List ℕ) FromHexError
decoded load = Ok load

-- what is taken was decoded, and has these digits
lower_is : (digits : List ℕ) (r : Result (List ℕ) FromHexError) (load : List ℕ) → if_lower digits r ≡ Some load → (r ≡ decoded load) × (digits ≡ encode_lower load)
lower_is digits (Err error) load e = absurd cc
lower_is digits (Ok bytes) load e =
    elim (cases_Bool (pointwise nat_eq (encode_lower bytes) digits)) [
      | inl t ↦
          let same : bytes ≡ load = found_is bytes load (rw t at e) in
          (ap decoded same, sym ((bytes_eq-Decides (encode_lower bytes) digits).0 t) ∙ ap encode_lower same)
      | inr f ↦ absurd (let none : None ≡ Some load = rw f at e in cc)
    ]

-- data that is read is what the digits spell, and isn't too long
pub data_is : (limit : ℕ) (digits load : List ℕ) → data_of limit digits ≡ Some load → (digits ≡ encode_lower load) × (is_data limit load ≡ true)
unfolding data_of
data_is limit digits load e =
    elim (cases_Bool (leb (length digits / 2) limit)) [
      | inl t ↦
          let lower = lower_is digits (decode_of digits) load (rw t at e) in
          let facts = decode_of-ok digits load lower.0 in
          let short : leb (length load) limit ≡ true = le-leb (length load) limit (omega (arith, facts.2, leb-true (length digits / 2) limit t)) in
          (lower.1, rw (short, all_bytes load facts.3) refl)
      | inr f ↦ absurd (let none : None ≡ Some load = rw f at e in cc)
    ]

-- data that isn't too long is read again from its digits
pub data_again : (limit : ℕ) (load : List ℕ) → is_data limit load ≡ true → data_of limit (encode_lower load) ≡ Some load
unfolding data_of
data_again limit load written =
    let parts = and_parts (leb (length load) limit) (list_all is_byte load) written in
    let short : leb (length (encode_lower load) / 2) limit ≡ true = le-leb (length (encode_lower load) / 2) limit (omega (arith, length-encode_with lower_digits load, leb-true (length load) limit parts.0)) in
    let same : pointwise nat_eq (encode_lower load) (encode_lower load) ≡ true = (bytes_eq-Decides (encode_lower load) (encode_lower load)).1 refl in
    rw (short, decode_of-encode_lower load (bytes_are load parts.1), same) refl
