-- A field of a line: it is read as it is spelled, and is read again from its text.
use Rattle.std.proofs.Common.{◌≡◌, ℕ, ◌<◌, Bool, true, false, List, [], ◌++◌, Option, Some, None, is_some, codes, refl, sym, ap, ◌∙◌}
use Rattle.std.specs.Char.{is_ascii_digit}
use Rattle.std.specs.Fmt.{decimal}
use Rattle.it_types.specs.Cursor.{and_then, or_else, after}
use Rattle.it_types.proofs.ReadSteps.{read_step, found_is, after_takes}
use Rattle.it_types.proofs.Fronts.{stops}
use Rattle.it_types.proofs.Numerals.{number_takes, number_again, number_last}
use Rattle.spec_script.specs.Lines.{number_text, choice_text, order_text, waiters_text, clearing_text, start_text, running_text, field}
use Rattle.s_script.specs.LineKinds.{number_field, chosen, choice_at, choice_field, order_field, waiters_field, clearing_field, start_field, running_field}

-- what the first or else the second reads
pub either : {A P : Type 0} (first second : Option A) (y : A) → or_else first second ≡ Some y → (first ≡ Some y → P) → (second ≡ Some y → P) → P
either None second y e one other = other e
either (Some x) second y e one other = one e

-- ---- numbers

-- a number that is read is spelled there
pub number_field_takes : (bytes : List ℕ) (x : Option ℕ × List ℕ) → number_field bytes ≡ Some x → is_some x.0 ≡ true → bytes ≡ field (number_text x.0) ++ x.1
unfolding number_field
number_field_takes bytes x e there =
    read_step e λ rest p e1. after_takes (codes " ") bytes rest p ∙ ap (λ (t : List ℕ). codes " " ++ t) (number_takes rest x e1 there)

-- a number is read again
pub number_field_again : (n : ℕ) (rest : List ℕ) → n < 18446744073709551616 → stops is_ascii_digit rest ≡ true → number_field (field (decimal n) ++ rest) ≡ Some (Some n, rest)
unfolding number_field and_then after
number_field_again n rest fits end = number_again n rest fits end

-- so is the last one
pub number_field_last : (n : ℕ) → n < 18446744073709551616 → number_field (field (decimal n)) ≡ Some (Some n, [])
unfolding number_field and_then after
number_field_last n fits = number_last n fits

-- ---- one of two words

-- a word that is chosen is what the bytes begin with
chosen_takes : (one other word : List ℕ) (holds : Bool) → choice_text one other holds ≡ word → (bytes : List ℕ) (found : Option (List ℕ)) → after word bytes ≡ found
    → (x : Bool × List ℕ) → chosen holds found ≡ Some x → bytes ≡ choice_text one other x.0 ++ x.1
chosen_takes one other word holds text bytes None read x e = absurd cc
chosen_takes one other word holds text bytes (Some rest) read x e =
    let same : (holds, rest) ≡ x = found_is (holds, rest) x e in
    after_takes word bytes rest read ∙ ap (λ (t : List ℕ). t ++ rest) (sym text) ∙ ap (λ (y : Bool × List ℕ). choice_text one other y.0 ++ y.1) same

-- a choice that is read is spelled there
choice_takes : (one other bytes : List ℕ) (x : Bool × List ℕ) → choice_at one other bytes ≡ Some x → bytes ≡ choice_text one other x.0 ++ x.1
unfolding choice_at
choice_takes one other bytes x e =
    either (chosen true (after one bytes)) (chosen false (after other bytes)) x e
    (λ f. chosen_takes one other one true refl bytes (after one bytes) refl x f)
    (λ f. chosen_takes one other other false refl bytes (after other bytes) refl x f)

-- the same after a space
pub choice_field_takes : (one other bytes : List ℕ) (x : Bool × List ℕ) → choice_field one other bytes ≡ Some x → bytes ≡ field (choice_text one other x.0) ++ x.1
unfolding choice_field
choice_field_takes one other bytes x e =
    read_step e λ rest p e1. after_takes (codes " ") bytes rest p ∙ ap (λ (t : List ℕ). codes " " ++ t) (choice_takes one other rest x e1)

-- whether tasks wait by their priorities
pub order_takes : (bytes : List ℕ) (x : Bool × List ℕ) → order_field bytes ≡ Some x → bytes ≡ field (order_text x.0) ++ x.1
order_takes bytes x e = choice_field_takes (codes "pri") (codes "fifo") bytes x e

-- a choice is read again
pub order_again : (pri : Bool) (rest : List ℕ) → order_field (field (order_text pri) ++ rest) ≡ Some (pri, rest)
unfolding choice_field choice_at and_then after
order_again true rest = refl
order_again false rest = refl

pub waiters_again : (many : Bool) (rest : List ℕ) → waiters_field (field (waiters_text many) ++ rest) ≡ Some (many, rest)
unfolding choice_field choice_at and_then after
waiters_again true rest = refl
waiters_again false rest = refl

pub clearing_again : (clr : Bool) (rest : List ℕ) → clearing_field (field (clearing_text clr) ++ rest) ≡ Some (clr, rest)
unfolding choice_field choice_at and_then after
clearing_again true rest = refl
clearing_again false rest = refl

-- the last of a line
pub start_again : (act : Bool) → start_field (field (start_text act)) ≡ Some (act, [])
unfolding choice_field choice_at and_then after
start_again true = refl
start_again false = refl

pub running_again : (on : Bool) → running_field (field (running_text on)) ≡ Some (on, [])
unfolding choice_field choice_at and_then after
running_again true = refl
running_again false = refl
