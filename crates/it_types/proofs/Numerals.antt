-- A number that is read is what its digits stand for, and a number that is written is read again.
use Rattle.std.proofs.Common.{◌≡◌, ℕ, ◌+◌, ◌-◌, ◌*◌, ◌/◌, ◌%◌, ◌<◌, ◌≤◌, Bool, true, false, not, cond, eqb, ltb, List, [], ◌∷◌, ◌++◌, length, get_or, take, drop, Option, Some, None, is_some, unwrap_or, codes, refl, sym, ap, subst, ◌∙◌, append_assoc, inl, inr, arith}
use Rattle.std.proofs.Math.Bool.{not-not}
use Rattle.std.specs.List.{list_all}
use Rattle.std.specs.Char.{is_ascii_digit, digit_value}
use Rattle.std.specs.Int.{IsInRange}
use Rattle.std.specs.Str.{all_ascii_digits}
use Rattle.std.specs.Str.Parse.{AllDigits, digits_value}
use Rattle.std.specs.Fmt.{decimal}
use Rattle.std.proofs.lemmas.Bool.{cases_Bool, cases_lt, cases_eq, and_parts, or_right, ne_eqb, eq-eqb, ltb-true, lt-ltb, le-ltb}
use Rattle.std.proofs.lemmas.Int.Digits.{digits_value_more}
use Rattle.std.proofs.lemmas.Str.Parse.{IsNumeralModel, numerals_by_value, tells_all_ascii_digits, digit_at}
use Rattle.std.proofs.lemmas.List.{append-nil}
use Rattle.std.proofs.lemmas.Fmt.{decimal_digit, first_decimal, decimal_nonempty, digits_decimal, digits_value-decimal, decimal-digits_value}
use Rattle.it_types.specs.Address.{address_text}
use Rattle.it_types.specs.Cursor.{and_then, after, split_while}
use Rattle.it_types.specs.Numbers.{is_numeral, below, push_digit, value_of, number_at, address_of, address_at}
use Rattle.it_types.proofs.Fronts.{split_joins, split_same, split_passes, split_again, stops, stop, split_at_stop, split_whole}
use Rattle.it_types.proofs.ReadSteps.{some_or_none, read_step, found_is, after_takes}

-- digits and their value, as std has them
own : IsNumeralModel (λ ds. all_ascii_digits ds ≡ true) (digits_value 10)
own = numerals_by_value (λ ds. all_ascii_digits ds ≡ true) tells_all_ascii_digits

-- the two tests of digits agree, one way
digits_pass : (ds : List ℕ) → list_all is_ascii_digit ds ≡ true → all_ascii_digits ds ≡ true
digits_pass [] all = refl
digits_pass (d ∷ ds) all = let parts = and_parts (is_ascii_digit d) (list_all is_ascii_digit ds) all in rw (parts.0, digits_pass ds parts.1) refl

-- and the other way
passing : (ds : List ℕ) → all_ascii_digits ds ≡ true → list_all is_ascii_digit ds ≡ true
passing [] all = refl
passing (d ∷ ds) all = let parts = and_parts (is_ascii_digit d) (all_ascii_digits ds) all in rw (parts.0, passing ds parts.1) refl

-- what is split off as digits is digits
front_digits : (bytes : List ℕ) → all_ascii_digits (split_while is_ascii_digit bytes).0 ≡ true
front_digits bytes = digits_pass (split_while is_ascii_digit bytes).0 (split_passes is_ascii_digit bytes)

-- ---- the code's split

-- the test of the code's search, turned twice
abbrev no_digit_no : ℕ → Bool
no_digit_no byte = not (not (is_ascii_digit byte))

-- the split by that test is the split of digits
pub digits_split : (bytes front rest : List ℕ) → (front, rest) ≡ split_while no_digit_no bytes → ((front, rest) ≡ split_while is_ascii_digit bytes) × AllDigits 10 front
digits_split bytes front rest e =
    let same : (front, rest) ≡ split_while is_ascii_digit bytes = e ∙ split_same no_digit_no is_ascii_digit (λ x. not-not (is_ascii_digit x)) bytes in
    (same, own.to front (subst (λ (p : List ℕ × List ℕ). all_ascii_digits p.0 ≡ true) (sym same) (front_digits bytes)))

-- digits up to a place
pub digits_until : (bytes : List ℕ) (n : ℕ) → Some n ≡ stop no_digit_no bytes → ((take n bytes, drop n bytes) ≡ split_while is_ascii_digit bytes) × AllDigits 10 (take n bytes)
digits_until bytes n e = digits_split bytes (take n bytes) (drop n bytes) (split_at_stop no_digit_no bytes n e)

-- digits up to the end
pub digits_whole : (bytes : List ℕ) → None ≡ stop no_digit_no bytes → ((bytes, []) ≡ split_while is_ascii_digit bytes) × AllDigits 10 bytes
digits_whole bytes e = digits_split bytes bytes [] (split_whole no_digit_no bytes e)

-- ---- one more digit

-- the value of a digit
digit_is : (c : ℕ) → IsInRange 48 57 c → digit_value c ≡ c - 48
digit_is c range = let low : ltb c 48 ≡ false = le-ltb c 48 (omega arith) in let high : ltb c 58 ≡ true = lt-ltb c 58 (omega arith) in rw (low, high) refl

-- one more digit of a value, also past 64 bits
value_pushed : (v d : ℕ) → push_digit (below 18446744073709551616 (Some v)) d ≡ below 18446744073709551616 (Some (v * 10 + d))
value_pushed v d =
    elim (cases_lt v 18446744073709551616) [
      | inl lt ↦ let fits : ltb v 18446744073709551616 ≡ true = lt-ltb v 18446744073709551616 lt in rw fits refl
      | inr le ↦
          let big : ltb v 18446744073709551616 ≡ false = le-ltb v 18446744073709551616 le in
          let more : ltb (v * 10 + d) 18446744073709551616 ≡ false = le-ltb (v * 10 + d) 18446744073709551616 (omega arith) in
          rw (big, more) refl
    ]

-- a digit is one of 0 to 9
pub digit_range : (ds : List ℕ) (i : ℕ) → AllDigits 10 ds → i < length ds → IsInRange 48 57 (get_or ds i 0)
digit_range ds i all lt = digit_at ds i all lt

-- the value of one more digit
pub value_more : (ds : List ℕ) (i : ℕ) → AllDigits 10 ds → i < length ds → push_digit (value_of (take i ds)) (get_or ds i 0 - 48) ≡ value_of (take (i + 1) ds)
value_more ds i all lt =
    let step : digits_value 10 (take (i + 1) ds) ≡ digits_value 10 (take i ds) * 10 + (get_or ds i 0 - 48) = digits_value_more 10 ds i lt ∙ ap (λ (d : ℕ). digits_value 10 (take i ds) * 10 + d) (digit_is (get_or ds i 0) (digit_at ds i all lt)) in
    value_pushed (digits_value 10 (take i ds)) (get_or ds i 0 - 48) ∙ ap (λ (v : ℕ). below 18446744073709551616 (Some v)) (sym step)

-- ---- numerals

-- what a numeral is
numeral_is : (ds : List ℕ) → is_numeral ds ≡ true → (0 < length ds) × (get_or ds 0 0 ≡ 48 → length ds ≡ 1)
numeral_is [] e = absurd cc
numeral_is (d ∷ []) e = (omega arith, λ _. refl)
numeral_is (d ∷ c ∷ ds) e = (omega arith, λ zero_first. absurd (let same : eqb d 48 ≡ true = eq-eqb d 48 zero_first in let none : false ≡ true = rw same at e in cc))

-- what makes a numeral
numeral_from : (ds : List ℕ) → 0 < length ds → (get_or ds 0 0 ≡ 48 → length ds ≡ 1) → is_numeral ds ≡ true
numeral_from [] some single = absurd (omega arith)
numeral_from (d ∷ []) some single = or_right (not (eqb d 48)) true refl
numeral_from (d ∷ c ∷ ds) some single =
    elim (cases_eq d 48) [
      | inl e ↦ absurd (let one = single e in omega arith)
      | inr ne ↦ let other : eqb d 48 ≡ false = ne_eqb d 48 ne in rw other refl
    ]

-- a number is written as a numeral
decimal_numeral : (n : ℕ) → n < 18446744073709551616 → is_numeral (decimal n) ≡ true
decimal_numeral n fits =
    elim (cases_lt 0 n) [
      | inl lt ↦ numeral_from (decimal n) (decimal_nonempty n (omega arith)) (λ e. absurd (omega (arith, first_decimal n lt (omega arith))))
      | inr le ↦ let zero_n : n ≡ 0 = omega arith in rw (zero_n, decimal_digit 0 (omega arith)) refl
    ]

-- ---- the two laws

-- a number that is there is below the limit
below_some : (limit v : ℕ) → is_some (below limit (Some v)) ≡ true → (v < limit) × (unwrap_or (below limit (Some v)) 0 ≡ v)
below_some limit v some =
    elim (cases_Bool (ltb v limit)) [
      | inl t ↦ (ltb-true v limit t, rw t refl)
      | inr f ↦ absurd (let none : false ≡ true = rw f at some in cc)
    ]

-- where a number is read, it is a numeral with this value
number_is : (b : Bool) (parts : List ℕ × List ℕ) (x : Option ℕ × List ℕ) → cond b (Some (value_of parts.0, parts.1)) None ≡ Some x → (b ≡ true) × ((value_of parts.0, parts.1) ≡ x)
number_is true parts x e = (refl, found_is (value_of parts.0, parts.1) x e)
number_is false parts x e = absurd cc

-- a number that is read is what the bytes begin with
pub number_takes : (bytes : List ℕ) (x : Option ℕ × List ℕ) → number_at bytes ≡ Some x → is_some x.0 ≡ true → bytes ≡ decimal (unwrap_or x.0 0) ++ x.1
unfolding number_at
number_takes bytes x e some =
    let parts : List ℕ × List ℕ = split_while is_ascii_digit bytes in
    let read = number_is (is_numeral parts.0) parts x e in
    let numeral = numeral_is parts.0 read.0 in
    let fits = below_some 18446744073709551616 (digits_value 10 parts.0) (ap (λ (y : Option ℕ × List ℕ). is_some y.0) read.1 ∙ some) in
    let text : decimal (digits_value 10 parts.0) ≡ parts.0 = decimal-digits_value own parts.0 (front_digits bytes) numeral.0 numeral.1 (omega (arith, fits.0)) in
    split_joins is_ascii_digit bytes ∙ ap (λ (front : List ℕ). front ++ parts.1) (sym text ∙ ap decimal (sym fits.1)) ∙ ap (λ (y : Option ℕ × List ℕ). decimal (unwrap_or y.0 0) ++ y.1) read.1

-- a number is written in digits
pub decimal_digits : (n : ℕ) → n < 18446744073709551616 → list_all is_ascii_digit (decimal n) ≡ true
decimal_digits n fits = passing (decimal n) (digits_decimal own n (omega arith))

-- a number is read again where no digit follows it
pub number_again : (n : ℕ) (rest : List ℕ) → n < 18446744073709551616 → stops is_ascii_digit rest ≡ true → number_at (decimal n ++ rest) ≡ Some (Some n, rest)
unfolding number_at
number_again n rest fits no_digit =
    let digits : list_all is_ascii_digit (decimal n) ≡ true = decimal_digits n fits in
    let value : digits_value 10 (decimal n) ≡ n = digits_value-decimal own n (omega arith) in
    let small : ltb n 18446744073709551616 ≡ true = lt-ltb n 18446744073709551616 fits in
    rw (split_again is_ascii_digit (decimal n) rest digits no_digit, decimal_numeral n fits, value, small) refl

-- ---- addresses

-- what is below a limit is the number itself
pub below_is : (limit : ℕ) (o : Option ℕ) (v : ℕ) → below limit o ≡ Some v → (o ≡ Some v) × (v < limit)
below_is limit None v e = absurd cc
below_is limit (Some n) v e =
    elim (cases_Bool (ltb n limit)) [
      | inl t ↦
          let same : n ≡ v = found_is n v (rw t at e) in
          (ap (λ (m : ℕ). Some m) same, rw (← same) (ltb-true n limit t))
      | inr f ↦ absurd (let none : None ≡ Some v = rw f at e in cc)
    ]

-- the text of four parts is that of the address
parts_text : (first second third fourth : ℕ) → first < 256 → second < 256 → third < 256 → fourth < 256
    → address_text (((first * 256 + second) * 256 + third) * 256 + fourth) ≡ decimal first ++ (codes "." ++ (decimal second ++ (codes "." ++ (decimal third ++ (codes "." ++ decimal fourth)))))
parts_text first second third fourth l1 l2 l3 l4 =
    let addr = ((first * 256 + second) * 256 + third) * 256 + fourth in
    let one : addr / 16777216 ≡ first = omega arith in
    let two : addr / 65536 % 256 ≡ second = omega arith in
    let three : addr / 256 % 256 ≡ third = omega arith in
    let four : addr % 256 ≡ fourth = omega arith in
    rw (one, two, three, four) refl

-- four numbers that make an address, and its text
pub record AreParts (a b c d : Option ℕ) (addr : ℕ) : Type 0 where
  pub a_some : is_some a ≡ true
  pub b_some : is_some b ≡ true
  pub c_some : is_some c ≡ true
  pub d_some : is_some d ≡ true
  pub small : addr < 4294967296
  pub spelled : address_text addr ≡ decimal (unwrap_or a 0) ++ (codes "." ++ (decimal (unwrap_or b 0) ++ (codes "." ++ (decimal (unwrap_or c 0) ++ (codes "." ++ decimal (unwrap_or d 0))))))

-- where an address is made, its parts are there
parts_are : (a b c d : Option ℕ) (addr : ℕ) → address_of a b c d ≡ Some addr → AreParts a b c d addr
unfolding address_of
parts_are a b c d addr e =
    read_step e λ first p e1. read_step e1 λ second q e2. read_step e2 λ third r e3. read_step e3 λ fourth s e4.
    let x = below_is 256 a first p in
    let y = below_is 256 b second q in
    let z = below_is 256 c third r in
    let w = below_is 256 d fourth s in
    let made : ((first * 256 + second) * 256 + third) * 256 + fourth ≡ addr = found_is _ addr e4 in
    record {
      a_some = rw x.0 refl;
      b_some = rw y.0 refl;
      c_some = rw z.0 refl;
      d_some = rw w.0 refl;
      small = rw (← made) (omega (arith, x.1, y.1, z.1, w.1));
      spelled = rw (x.0, y.0, z.0, w.0, ← made) (parts_text first second third fourth x.1 y.1 z.1 w.1);
    }

-- a pair with its first part known
same_parts : (o : Option ℕ) (n : ℕ) (rest : List ℕ) (x : Option ℕ × List ℕ) → o ≡ Some n → ◌≡◌ {A = Option ℕ × List ℕ} (o, rest) x → ◌≡◌ {A = Option ℕ × List ℕ} (Some n, rest) x
same_parts o n rest x e h = rw e at h

-- an address that is read is what the bytes begin with, and has 32 bits
pub address_takes : (bytes : List ℕ) (x : Option ℕ × List ℕ) → address_at bytes ≡ Some x → is_some x.0 ≡ true → (bytes ≡ address_text (unwrap_or x.0 0) ++ x.1) × (unwrap_or x.0 0 < 4294967296)
unfolding address_at
address_takes bytes x e some =
    read_step e λ a p e1. read_step e1 λ dot1 q e2. read_step e2 λ b r e3. read_step e3 λ dot2 s e4. read_step e4 λ c t e5. read_step e5 λ dot3 u e6. read_step e6 λ d v e7.
    let made : (address_of a.0 b.0 c.0 d.0, d.1) ≡ x = found_is (address_of a.0 b.0 c.0 d.0, d.1) x e7 in
    elim (some_or_none (address_of a.0 b.0 c.0 d.0)) [
      | inl w ↦
          let parts = parts_are a.0 b.0 c.0 d.0 w.0 w.1 in
          let whole : bytes ≡ address_text w.0 ++ d.1 =
          rw (number_takes bytes a p parts.a_some, after_takes (codes ".") a.1 dot1 q, number_takes dot1 b r parts.b_some, after_takes (codes ".") b.1 dot2 s, number_takes dot2 c t parts.c_some, after_takes (codes ".") c.1 dot3 u, number_takes dot3 d v parts.d_some, parts.spelled) (simp append_assoc) in
          let same : (Some w.0, d.1) ≡ x = same_parts (address_of a.0 b.0 c.0 d.0) w.0 d.1 x w.1 made in
          subst (λ (y : Option ℕ × List ℕ). (bytes ≡ address_text (unwrap_or y.0 0) ++ y.1) × (unwrap_or y.0 0 < 4294967296)) same (whole, parts.small)
      | inr n ↦ absurd (let none : false ≡ true = ap (λ (o : Option ℕ). is_some o) (sym n) ∙ ap (λ (y : Option ℕ × List ℕ). is_some y.0) made ∙ some in cc)
    ]

-- ---- read again

-- a number at the end is read again
pub number_last : (n : ℕ) → n < 18446744073709551616 → number_at (decimal n) ≡ Some (Some n, [])
number_last n fits = ap number_at (sym (append-nil (decimal n))) ∙ number_again n [] fits refl

-- the parts of an address make it
address_back : (addr : ℕ) → addr ≤ 4294967295 → address_of (Some (addr / 16777216)) (Some (addr / 65536 % 256)) (Some (addr / 256 % 256)) (Some (addr % 256)) ≡ Some addr
unfolding address_of and_then
address_back addr high =
    let one : ltb (addr / 16777216) 256 ≡ true = lt-ltb _ 256 (omega arith) in
    let two : ltb (addr / 65536 % 256) 256 ≡ true = lt-ltb _ 256 (omega arith) in
    let three : ltb (addr / 256 % 256) 256 ≡ true = lt-ltb _ 256 (omega arith) in
    let four : ltb (addr % 256) 256 ≡ true = lt-ltb _ 256 (omega arith) in
    let whole : ((addr / 16777216 * 256 + addr / 65536 % 256) * 256 + addr / 256 % 256) * 256 + addr % 256 ≡ addr = omega arith in
    rw (one, two, three, four, whole) refl

-- an address is read again
pub address_again : (addr : ℕ) (rest : List ℕ) → addr ≤ 4294967295 → stops is_ascii_digit rest ≡ true → address_at (address_text addr ++ rest) ≡ Some (Some addr, rest)
unfolding address_at and_then after
address_again addr rest high stop =
    let a = addr / 16777216 in
    let b = addr / 65536 % 256 in
    let c = addr / 256 % 256 in
    let d = addr % 256 in
    let regrouped : address_text addr ++ rest ≡ decimal a ++ (codes "." ++ (decimal b ++ (codes "." ++ (decimal c ++ (codes "." ++ (decimal d ++ rest)))))) = simp append_assoc in
    ap address_at regrouped ∙ rw (
      number_again a (codes "." ++ (decimal b ++ (codes "." ++ (decimal c ++ (codes "." ++ (decimal d ++ rest)))))) (omega arith) refl,
      number_again b (codes "." ++ (decimal c ++ (codes "." ++ (decimal d ++ rest)))) (omega arith) refl,
      number_again c (codes "." ++ (decimal d ++ rest)) (omega arith) refl,
      number_again d rest (omega arith) stop,
      address_back addr high,
    ) refl
