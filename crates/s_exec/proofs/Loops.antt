-- The open loops: the last that was opened is the innermost.
use Rattle.std.proofs.Common.{◌≡◌, ◌≢◌, ◌∙◌, sym, ap, refl, ℕ, zero, suc, ◌+◌, ◌-◌, length, List, [], ◌∷◌, ◌++◌, arith, nat_lt, true, slice_index_or, take, take_all, slice_set}
use Rattle.std.proofs.lemmas.List.{map-append, reverse-append, length-take}
use Rattle.std.proofs.Math.Seq.{take-suc, set-append_seam}
use Rattle.spec_script.specs.declared.decl.Line.{Line}
use Rattle.spec_script.specs.Interpreter as spec
use Rattle.s_exec.specs.declared.open_loop.OpenLoop.{OpenLoop}
use Rattle.s_exec.specs.Standing.{open_loop, open_loops}

pub innermost : (outer : List OpenLoop) (inner : OpenLoop) → open_loops (outer ++ (inner ∷ [])) ≡ open_loop inner ∷ open_loops outer
innermost outer inner = simp (map-append, reverse-append)

-- the list, with the last apart
record Parted (loops : List OpenLoop) (inner : OpenLoop) (place : ℕ) : Type 0 where
  outer : List OpenLoop
  whole : outer ++ (inner ∷ []) ≡ loops
  before : length outer ≡ place

parted : (loops : List OpenLoop) (inner : OpenLoop) (place : ℕ) → place + 1 ≡ length loops → inner ≡ slice_index_or loops place inner → Parted loops inner place
parted loops inner place is last = record {
  outer = take place loops;
  whole = ap (λ (x : OpenLoop). take place loops ++ (x ∷ [])) last ∙ sym (take-suc loops place inner (omega arith)) ∙ take_all (suc place) loops (omega arith);
  before = omega (arith, length-take {A = OpenLoop});
}

positive : (n : ℕ) → n ≢ 0 → nat_lt 0 n ≡ true
positive zero some = absurd (some refl)
positive (suc n) some = grind arith

round_of_last : (outer : List OpenLoop) (inner fewer : OpenLoop) (lines : List Line) (i : spec.Interpreter) → inner.rounds ≢ 0 → open_loop fewer ≡ record { lines = inner.lines.now; rounds = inner.rounds - 1 }
    → record i { rest = inner.lines.now; loops = open_loops (outer ++ (fewer ∷ [])) } ≡ spec.round_ended (open_loops (outer ++ (inner ∷ []))) lines i
round_of_last outer inner fewer lines i some e =
    let more : nat_lt 0 inner.rounds ≡ true = positive inner.rounds some in
    rw (innermost outer inner, innermost outer fewer, e, more) refl

-- another round of the innermost loop, which then has one fewer to come
pub another_round : (loops : List OpenLoop) (inner fewer : OpenLoop) (place : ℕ) (lines : List Line) (i : spec.Interpreter) → place + 1 ≡ length loops → inner ≡ slice_index_or loops place inner → inner.rounds ≢ 0
    → open_loop fewer ≡ record { lines = inner.lines.now; rounds = inner.rounds - 1 }
    → record i { rest = inner.lines.now; loops = open_loops (slice_set loops place fewer) } ≡ spec.round_ended (open_loops loops) lines i
another_round loops inner fewer place lines i is last some e =
    let p : Parted loops inner place = parted loops inner place is last in
    let sets : slice_set loops place fewer ≡ p.outer ++ (fewer ∷ []) =
    ap (λ (xs : List OpenLoop). slice_set xs place fewer) (sym p.whole) ∙ ap (λ (n : ℕ). slice_set (p.outer ++ (inner ∷ [])) n fewer) (sym p.before) ∙ set-append_seam p.outer inner [] fewer in
    ap (λ (xs : List OpenLoop). let r : spec.Interpreter = record i { rest = inner.lines.now; loops = open_loops xs } in r) sets ∙ round_of_last p.outer inner fewer lines i some e
    ∙ ap (λ (xs : List OpenLoop). spec.round_ended (open_loops xs) lines i) p.whole
