-- An interpreter always comes to the next call or the end of its body, and the lines up to there may be passed one by one.
use Rattle.std.proofs.Common.{◌≡◌, ◌∙◌, sym, ap, refl, ℕ, zero, suc, ◌+◌, ◌*◌, ◌<◌, ◌≤◌, Bool, true, false, inl, inr, List, [], ◌∷◌, pos, int_le, int_lt, arith}
use Rattle.std.proofs.lemmas.Bool.{cases_Bool}
use Rattle.spec_script.specs.declared.decl.Line.{Line}
use Rattle.spec_script.specs.declared.decl.Line.TheVariants.{Call, Fill, Loop, Pool, UntilEnd, UntilFail, UntilEmpty}
use Rattle.spec_script.specs.Interpreter.{Interpreter, OpenLoop, after_pool, loop_left, left_if, next_round, round_ended, lines_passed, rounds_passed, most_passed, is_stopped, passed_first, passed_next, unless_stopped, forward, up_to_call, is_empty}

-- ---- each line that is passed leaves fewer

-- the lines after a pool are passed in fewer steps than all
after_pool_fewer : (inner : ℕ) (lines : List Line) → lines_passed (after_pool inner lines) ≤ lines_passed lines
unfolding after_pool lines_passed
after_pool_fewer inner [] = omega arith
after_pool_fewer inner (Loop rounds ∷ lines) = let h : lines_passed (after_pool (suc inner) lines) ≤ lines_passed lines = after_pool_fewer (suc inner) lines in grind arith
after_pool_fewer zero (Pool ∷ lines) = omega arith
after_pool_fewer (suc inner) (Pool ∷ lines) = omega (arith, after_pool_fewer inner lines)
after_pool_fewer inner (Call request buf peer ∷ lines) = omega (arith, after_pool_fewer inner lines)
after_pool_fewer inner (Fill bytes ∷ lines) = omega (arith, after_pool_fewer inner lines)
after_pool_fewer inner (UntilEnd ∷ lines) = omega (arith, after_pool_fewer inner lines)
after_pool_fewer inner (UntilFail ∷ lines) = omega (arith, after_pool_fewer inner lines)
after_pool_fewer inner (UntilEmpty ∷ lines) = omega (arith, after_pool_fewer inner lines)

next_round_fewer : (first : List Line) (rounds : ℕ) (outer : List OpenLoop) (lines : List Line) (i : Interpreter) → most_passed (next_round (record { lines = first; rounds = rounds }) outer lines i) ≤ lines_passed lines + (rounds * lines_passed first + rounds_passed outer)
unfolding rounds_passed
next_round_fewer first zero outer lines i = omega arith
next_round_fewer first (suc rounds) outer lines i = grind arith

round_ended_fewer : (loops : List OpenLoop) (lines : List Line) (i : Interpreter) → loops ≡ i.loops → most_passed (round_ended loops lines i) ≤ lines_passed lines + rounds_passed i.loops
unfolding rounds_passed
round_ended_fewer [] lines i e = rw (← e) (omega arith)
round_ended_fewer (inner ∷ outer) lines i e = rw (← e) (next_round_fewer inner.lines inner.rounds outer lines i)

loop_left_fewer : (loops : List OpenLoop) (lines : List Line) (i : Interpreter) → loops ≡ i.loops → most_passed (loop_left loops lines i) ≤ lines_passed lines + rounds_passed i.loops
unfolding rounds_passed
loop_left_fewer [] lines i e = rw (← e) (omega arith)
loop_left_fewer (inner ∷ outer) lines i e = rw (← e) (omega (arith, after_pool_fewer 0 lines))

left_if_fewer : (leaves : Bool) (lines : List Line) (i : Interpreter) → most_passed (left_if leaves lines i) ≤ lines_passed lines + rounds_passed i.loops
left_if_fewer true lines i = loop_left_fewer i.loops lines i refl
left_if_fewer false lines i = omega arith

passed_fewer : (lines : List Line) (i : Interpreter) → is_stopped lines ≡ false → most_passed (passed_first lines i) < lines_passed lines + rounds_passed i.loops
unfolding lines_passed rounds_passed
passed_fewer [] i stopped = absurd (cc)
passed_fewer (Call request buf peer ∷ lines) i stopped = absurd (cc)
passed_fewer (Fill bytes ∷ lines) i stopped = omega arith
passed_fewer (Loop rounds ∷ lines) i stopped = grind arith
passed_fewer (Pool ∷ lines) i stopped = omega (arith, round_ended_fewer i.loops lines i refl)
passed_fewer (UntilEnd ∷ lines) i stopped = omega (arith, left_if_fewer (int_le i.answer.0 (pos 0)) lines i)
passed_fewer (UntilFail ∷ lines) i stopped = omega (arith, left_if_fewer (int_lt i.answer.0 (pos 0)) lines i)
passed_fewer (UntilEmpty ∷ lines) i stopped = omega (arith, left_if_fewer (is_empty i.buffer) lines i)

-- where a line is passed, fewer are left
pub fewer_left : (i : Interpreter) → is_stopped i.rest ≡ false → most_passed (passed_next i) < most_passed i
fewer_left i stopped = passed_fewer i.rest i stopped

-- nothing is left to be passed only at the end of the body
at_end : (lines : List Line) (more : ℕ) → lines_passed lines + more ≤ 0 → is_stopped lines ≡ true
unfolding lines_passed
at_end [] more h = refl
at_end (Call request buf peer ∷ lines) more h = refl
at_end (Fill bytes ∷ lines) more h = absurd (omega arith)
at_end (Loop rounds ∷ lines) more h = absurd (omega arith)
at_end (Pool ∷ lines) more h = absurd (omega arith)
at_end (UntilEnd ∷ lines) more h = absurd (omega arith)
at_end (UntilFail ∷ lines) more h = absurd (omega arith)
at_end (UntilEmpty ∷ lines) more h = absurd (omega arith)

-- ---- how far it goes

forward_one : (n : ℕ) (i : Interpreter) → is_stopped i.rest ≡ false → forward (suc n) i ≡ forward n (passed_next i)
unfolding forward
forward_one n i stopped = ap (λ (stops : Bool). unless_stopped stops (forward n) i) stopped

forward_stopped : (n : ℕ) (i : Interpreter) → is_stopped i.rest ≡ true → forward n i ≡ i
unfolding forward
forward_stopped zero i stopped = refl
forward_stopped (suc n) i stopped = ap (λ (stops : Bool). unless_stopped stops (forward n) i) stopped

-- two numbers of lines lead to one place where both are enough
both_enough : (m n : ℕ) (i : Interpreter) → most_passed i ≤ m → most_passed i ≤ n → forward m i ≡ forward n i
both_enough zero n i hm hn = let stopped : is_stopped i.rest ≡ true = at_end i.rest (rounds_passed i.loops) hm in forward_stopped 0 i stopped ∙ sym (forward_stopped n i stopped)
both_enough (suc m) zero i hm hn = let stopped : is_stopped i.rest ≡ true = at_end i.rest (rounds_passed i.loops) hn in forward_stopped (suc m) i stopped
    ∙ sym (forward_stopped 0 i stopped)
both_enough (suc m) (suc n) i hm hn =
    elim (cases_Bool (is_stopped i.rest)) [
      | inl stopped ↦ forward_stopped (suc m) i stopped ∙ sym (forward_stopped (suc n) i stopped)
      | inr moves ↦ forward_one m i moves
          ∙ both_enough m n (passed_next i) (omega (arith, fewer_left i moves)) (omega (arith, fewer_left i moves))
          ∙ sym (forward_one n i moves)
    ]

-- as many lines as may be passed are enough, and more lead no further
pub enough : (n : ℕ) (i : Interpreter) → most_passed i ≤ n → forward n i ≡ up_to_call i
enough n i h = both_enough n (most_passed i) i h (omega arith)

-- it stays at a call, and at the end
pub stays : (i : Interpreter) → is_stopped i.rest ≡ true → up_to_call i ≡ i
stays i stopped = forward_stopped (most_passed i) i stopped

-- a line that is passed leads to the same call
pub goes_on : (i : Interpreter) → is_stopped i.rest ≡ false → up_to_call i ≡ up_to_call (passed_next i)
goes_on i moves = sym (enough (suc (most_passed i)) i (omega arith)) ∙ forward_one (most_passed i) i moves ∙ enough (most_passed i) (passed_next i) (omega (arith, fewer_left i moves))

-- it comes to a call, or to the end of the body
stops_within : (n : ℕ) (i : Interpreter) → most_passed i ≤ n → is_stopped (forward n i).rest ≡ true
unfolding forward
stops_within zero i h = at_end i.rest (rounds_passed i.loops) h
stops_within (suc n) i h =
    elim (cases_Bool (is_stopped i.rest)) [
      | inl stopped ↦ rw (forward_stopped (suc n) i stopped) stopped
      | inr moves ↦ rw (forward_one n i moves) (stops_within n (passed_next i) (omega (arith, fewer_left i moves)))
    ]

pub stops : (i : Interpreter) → is_stopped (up_to_call i).rest ≡ true
stops i = stops_within (most_passed i) i (omega arith)
