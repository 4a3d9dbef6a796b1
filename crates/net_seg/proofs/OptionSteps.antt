-- Options are read one after another: each step leaves fewer octets, and as many steps as there are octets are enough.
use Rattle.std.proofs.Common.{◌≡◌, ℕ, zero, suc, ◌+◌, ◌-◌, ◌<◌, ◌≤◌, Bool, true, false, ◌||◌, nat_lt, ◌==◌, if◌then◌else◌, List, [], ◌∷◌, length, take, drop, Option, Some, None, refl, sym, ap, subst, ◌∙◌, arith, length-drop}
use Rattle.spec_wire.specs.Segment.{Options, NextOption, Ends, Padding, OfKind, Wrong, read_options, next_option, sized_option, with_option}

-- what follows the option has at most so many octets
abbrev LeavesAtMost : ℕ → NextOption → Type 0
LeavesAtMost size Ends = Unit {0}
LeavesAtMost size (Padding rest) = length rest ≤ size
LeavesAtMost size (OfKind kind body rest) = length rest ≤ size
LeavesAtMost size Wrong = Unit {0}

sized_if : (wrong : Bool) (kind size : ℕ) (rest : List ℕ) → LeavesAtMost (suc (length rest)) (if wrong then Wrong else OfKind kind (take (size - 2) rest) (drop (size - 2) rest))
sized_if true kind size rest = tt
sized_if false kind size rest = omega (arith, length-drop (size - 2) rest)

sized_leaves : (kind : ℕ) (octets : List ℕ) → LeavesAtMost (length octets) (sized_option kind octets)
sized_leaves kind [] = tt
sized_leaves kind (size ∷ rest) = sized_if (nat_lt size 2 || nat_lt (length rest + 2) size) kind size rest

next_if : (ends padding : Bool) (kind : ℕ) (octets : List ℕ) → LeavesAtMost (length octets) (if ends then Ends else (if padding then Padding octets else sized_option kind octets))
next_if true padding kind octets = tt
next_if false true kind octets = omega arith
next_if false false kind octets = sized_leaves kind octets

next_leaves : (kind : ℕ) (octets : List ℕ) → LeavesAtMost (length octets) (next_option (kind ∷ octets))
next_leaves kind octets = next_if (kind == 0) (kind == 1) kind octets

-- what is read from an option on, where the octets after it are read in so many steps
abbrev after_kind : ℕ → List ℕ → Option Options → Option Options
after_kind n rest more = elim more [ None ↦ None | Some more ↦ read_options n rest more ]

abbrev after_option : ℕ → NextOption → Options → Option Options
after_option n found options = elim found [
  | Ends ↦ Some options
  | Padding rest ↦ read_options n rest options
  | OfKind kind body rest ↦ after_kind n rest (with_option kind body options)
  | Wrong ↦ None
]

abbrev AreEnough : ℕ → ℕ → ℕ → Type 0
AreEnough size n m = (octets : List ℕ) (options : Options) → length octets ≤ size → read_options n octets options ≡ read_options m octets options

same_kind : (n m : ℕ) (rest : List ℕ) (more : Option Options)
    → ((options : Options) → read_options n rest options ≡ read_options m rest options)
    → after_kind n rest more ≡ after_kind m rest more
same_kind n m rest None same = refl
same_kind n m rest (Some options) same = same options

same_after : (size n m : ℕ) (found : NextOption) (options : Options) → LeavesAtMost size found → AreEnough size n m → after_option n found options ≡ after_option m found options
same_after size n m Ends options leaves same = refl
same_after size n m (Padding rest) options leaves same = same rest options leaves
same_after size n m (OfKind kind body rest) options leaves same = same_kind n m rest (with_option kind body options) (λ o. same rest o leaves)
same_after size n m Wrong options leaves same = refl

steps_enough : (n m : ℕ) (octets : List ℕ) (options : Options) → length octets ≤ n → length octets ≤ m → read_options n octets options ≡ read_options m octets options
unfolding read_options
steps_enough zero zero octets options hn hm = refl
steps_enough zero (suc m) [] options hn hm = refl
steps_enough zero (suc m) (kind ∷ octets) options hn hm = absurd (omega arith)
steps_enough (suc n) zero [] options hn hm = refl
steps_enough (suc n) zero (kind ∷ octets) options hn hm = absurd (omega arith)
steps_enough (suc n) (suc m) [] options hn hm = refl
steps_enough (suc n) (suc m) (kind ∷ octets) options hn hm =
    same_after (length octets) n m (next_option (kind ∷ octets)) options (next_leaves kind octets) (λ rest o h. steps_enough n m rest o (omega arith) (omega arith))

-- ---- the four cases of a step

pub ends_here : (left : List ℕ) (options : Options) → next_option left ≡ Ends → read_options (length left) left options ≡ Some options
unfolding read_options
ends_here [] options is = refl
ends_here (kind ∷ octets) options is = ap (λ found. after_option (length octets) found options) is

pub wrong_here : (left : List ℕ) (options : Options) → next_option left ≡ Wrong → read_options (length left) left options ≡ None
unfolding read_options
wrong_here [] options is = absurd cc
wrong_here (kind ∷ octets) options is = ap (λ found. after_option (length octets) found options) is

pub padding_leaves : (left rest : List ℕ) → next_option left ≡ Padding rest → length rest < length left
padding_leaves [] rest is = absurd cc
padding_leaves (kind ∷ octets) rest is =
    let leaves : LeavesAtMost (length octets) (Padding rest) = subst (LeavesAtMost (length octets)) is (next_leaves kind octets) in omega (arith, leaves)

pub kind_leaves : (left : List ℕ) (kind : ℕ) (body rest : List ℕ) → next_option left ≡ OfKind kind body rest → length rest < length left
kind_leaves [] kind body rest is = absurd cc
kind_leaves (first ∷ octets) kind body rest is =
    let leaves : LeavesAtMost (length octets) (OfKind kind body rest) = subst (LeavesAtMost (length octets)) is (next_leaves first octets) in omega (arith, leaves)

pub past_padding : (left rest : List ℕ) (options : Options) → next_option left ≡ Padding rest → read_options (length rest) rest options ≡ read_options (length left) left options
unfolding read_options
past_padding [] rest options is = absurd cc
past_padding (kind ∷ octets) rest options is =
    let leaves = padding_leaves (kind ∷ octets) rest is in
    steps_enough (length rest) (length octets) rest options (omega arith) (omega (arith, leaves)) ∙ sym (ap (λ found. after_option (length octets) found options) is)

pub past_kind : (left : List ℕ) (kind : ℕ) (body rest : List ℕ) (options more : Options)
    → next_option left ≡ OfKind kind body rest
    → with_option kind body options ≡ Some more
    → read_options (length rest) rest more ≡ read_options (length left) left options
unfolding read_options
past_kind [] kind body rest options more is told = absurd cc
past_kind (first ∷ octets) kind body rest options more is told =
    let leaves = kind_leaves (first ∷ octets) kind body rest is in
    steps_enough (length rest) (length octets) rest more (omega arith) (omega (arith, leaves))
    ∙ sym (ap (λ found. after_option (length octets) found options) is ∙ ap (after_kind (length octets) rest) told)

pub wrong_kind : (left : List ℕ) (kind : ℕ) (body rest : List ℕ) (options : Options)
    → next_option left ≡ OfKind kind body rest
    → with_option kind body options ≡ None
    → read_options (length left) left options ≡ None
unfolding read_options
wrong_kind [] kind body rest options is told = absurd cc
wrong_kind (first ∷ octets) kind body rest options is told =
    ap (λ found. after_option (length octets) found options) is ∙ ap (after_kind (length octets) rest) told
