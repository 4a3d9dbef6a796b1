-- Loops and the three ways to leave them, checked by computation.
use Rattle.std.proofs.Common.{◌≡◌, refl, List, [], ◌∷◌}
use Rattle.it_types.specs.declared.er.TheConstants.{E_OK, E_TMOUT, E_CLS}
use Rattle.it_types.specs.declared.timeout.Tmo.TheVariants.{Fevr}
use Rattle.it_types.specs.declared.request.Req.TheVariants.{GetTid, TslpTsk}
use Rattle.spec_script.specs.declared.decl.Line.{Line}
use Rattle.spec_script.specs.declared.decl.Line.TheVariants.{Fill, Loop, Pool, UntilEnd, UntilFail, UntilEmpty}
use Rattle.spec_script.specs.Interpreter.{forward, lines_passed, rounds_passed, pattern_bytes, after_pool}
use Rattle.spec_script.proofs.Answers.{code, wants_on, begun, makes, sends_buffer, asks, sleeps, sends, ends}

abbrev asking : Line
asking = makes GetTid

abbrev sleeping : Line
sleeping = makes (TslpTsk Fevr)

-- it asks, at most three times, and then sleeps
abbrev asks_until : Line → List Line
asks_until leaving = Loop 3 ∷ asking ∷ leaving ∷ Pool ∷ sleeping ∷ []

three_rounds : wants_on (code 1 ∷ code 1 ∷ code 1 ∷ E_OK ∷ []) (begun (asks_until UntilEnd)) ≡ asks ∷ asks ∷ asks ∷ sleeps ∷ ends ∷ []
unfolding wants_on forward lines_passed rounds_passed
three_rounds = refl

-- ---- until end leaves at most at 0

end_at_0 : wants_on (code 1 ∷ E_OK ∷ []) (begun (asks_until UntilEnd)) ≡ asks ∷ asks ∷ sleeps ∷ []
unfolding wants_on forward lines_passed rounds_passed after_pool
end_at_0 = refl

end_below_0 : wants_on (E_TMOUT ∷ []) (begun (asks_until UntilEnd)) ≡ asks ∷ sleeps ∷ []
unfolding wants_on forward lines_passed rounds_passed after_pool
end_below_0 = refl

-- ---- until fail leaves below 0

fail_not_at_0 : wants_on (E_OK ∷ code 1 ∷ E_OK ∷ []) (begun (asks_until UntilFail)) ≡ asks ∷ asks ∷ asks ∷ sleeps ∷ []
unfolding wants_on forward lines_passed rounds_passed after_pool
fail_not_at_0 = refl

fail_below_0 : wants_on (E_OK ∷ E_CLS ∷ []) (begun (asks_until UntilFail)) ≡ asks ∷ asks ∷ sleeps ∷ []
unfolding wants_on forward lines_passed rounds_passed after_pool
fail_below_0 = refl

-- ---- until empty leaves with an empty buffer

-- three bytes of task 1 are sent, two and then one
empty : wants_on (code 2 ∷ code 1 ∷ []) (begun (Fill 3 ∷ Loop 9 ∷ sends_buffer ∷ UntilFail ∷ UntilEmpty ∷ Pool ∷ sleeping ∷ [])) ≡ sends (16 ∷ 17 ∷ 18 ∷ []) ∷ sends (18 ∷ []) ∷ sleeps ∷ []
unfolding wants_on forward lines_passed rounds_passed after_pool pattern_bytes
empty = refl

empty_at_first : wants_on [] (begun (asks_until UntilEmpty)) ≡ asks ∷ []
unfolding wants_on forward lines_passed rounds_passed
empty_at_first = refl

empty_after_one_round : wants_on (code 1 ∷ []) (begun (asks_until UntilEmpty)) ≡ asks ∷ sleeps ∷ []
unfolding wants_on forward lines_passed rounds_passed after_pool
empty_after_one_round = refl

-- ---- loops in loops

-- the inner loop is left in the outer one's first round, and runs twice in its second, where it isn't left again
abbrev twice_twice : Line → List Line
twice_twice leaving = Loop 2 ∷ Loop 2 ∷ asking ∷ leaving ∷ Pool ∷ sleeping ∷ Pool ∷ []

the_inner_alone : wants_on (E_OK ∷ E_OK ∷ code 1 ∷ code 1 ∷ E_OK ∷ []) (begun (twice_twice UntilEnd)) ≡ asks ∷ sleeps ∷ asks ∷ asks ∷ sleeps ∷ ends ∷ []
unfolding wants_on forward lines_passed rounds_passed after_pool
the_inner_alone = refl

the_inner_alone_by_fail : wants_on (E_CLS ∷ E_OK ∷ E_OK ∷ E_OK ∷ E_OK ∷ []) (begun (twice_twice UntilFail)) ≡ asks ∷ sleeps ∷ asks ∷ asks ∷ sleeps ∷ ends ∷ []
unfolding wants_on forward lines_passed rounds_passed after_pool
the_inner_alone_by_fail = refl

-- the buffer is empty in both rounds
the_inner_alone_by_empty : wants_on (code 1 ∷ E_OK ∷ code 1 ∷ E_OK ∷ []) (begun (twice_twice UntilEmpty)) ≡ asks ∷ sleeps ∷ asks ∷ sleeps ∷ ends ∷ []
unfolding wants_on forward lines_passed rounds_passed after_pool
the_inner_alone_by_empty = refl

-- a loop inside the one that is left is passed over with it
abbrev around_a_loop : List Line
around_a_loop = Loop 2 ∷ asking ∷ UntilFail ∷ Loop 5 ∷ asking ∷ Pool ∷ Pool ∷ sleeping ∷ []

passes_over : wants_on (E_CLS ∷ E_OK ∷ []) (begun around_a_loop) ≡ asks ∷ sleeps ∷ ends ∷ []
unfolding wants_on forward lines_passed rounds_passed after_pool
passes_over = refl

runs_through : wants_on (E_OK ∷ E_OK ∷ E_OK ∷ E_OK ∷ E_OK ∷ E_OK ∷ E_CLS ∷ []) (begun around_a_loop) ≡ asks ∷ asks ∷ asks ∷ asks ∷ asks ∷ asks ∷ asks ∷ sleeps ∷ []
unfolding wants_on forward lines_passed rounds_passed after_pool
runs_through = refl

-- the last answer stays until the next: the loop is left before its first call
left_at_once : wants_on (E_TMOUT ∷ []) (begun (asking ∷ Loop 2 ∷ UntilFail ∷ asking ∷ Pool ∷ sleeping ∷ [])) ≡ asks ∷ sleeps ∷ []
unfolding wants_on forward lines_passed rounds_passed after_pool
left_at_once = refl

-- ---- the longest loops

-- 65,535 times 65,535 rounds, of which the first are passed at once
longest : wants_on (E_OK ∷ E_OK ∷ E_OK ∷ []) (begun (Loop 65535 ∷ Loop 65535 ∷ asking ∷ Pool ∷ Pool ∷ [])) ≡ asks ∷ asks ∷ asks ∷ asks ∷ []
unfolding wants_on forward lines_passed rounds_passed
longest = refl

longest_left : wants_on (E_OK ∷ E_CLS ∷ []) (begun (Loop 65535 ∷ Loop 65535 ∷ Loop 65535 ∷ Loop 65535 ∷ asking ∷ UntilFail ∷ Pool ∷ sleeping ∷ Pool ∷ Pool ∷ Pool ∷ [])) ≡ asks ∷ asks ∷ sleeps ∷ []
unfolding wants_on forward lines_passed rounds_passed after_pool
longest_left = refl
