-- No copy is due later than the delay.
use Rattle.std.proofs.Common.{◌≤◌, ℕ, arith}
use Rattle.std.specs.Prelude.{◌+◌, ◌%◌, nat_lt, if◌then◌else◌}
use Rattle.spec_link.specs.declared.fate.Fate.TheVariants.{Lost, Once, Twice}
use Rattle.spec_link.specs.declared.words.Words.{Words}
use Rattle.spec_link.specs.Fates.{IsWithin, fate_of, ticks_of, words}
use Rattle.spec_link.specs.Link.{PlainLink, next_fate}
use Rattle.spec_link.proofs.Turns.{by_test}

soon : (delay drawn : ℕ) → ticks_of delay drawn ≤ delay
soon delay drawn = omega arith

fate_soon : (lose twice delay : ℕ) (w : Words) → IsWithin delay (fate_of lose twice delay w)
fate_soon lose twice delay w =
    by_test (IsWithin delay) (nat_lt (w.fate % 16) lose) Lost (if nat_lt (w.fate % 16) (lose + twice) then Twice (ticks_of delay w.first) (ticks_of delay w.second) else Once (ticks_of delay w.first)) (λ _. tt)
    (λ _. by_test (IsWithin delay) (nat_lt (w.fate % 16) (lose + twice)) (Twice (ticks_of delay w.first) (ticks_of delay w.second)) (Once (ticks_of delay w.first))
    (λ _. (soon delay w.first, soon delay w.second)) (λ _. soon delay w.first))

pub none_later : (l : PlainLink) → IsWithin l.delay (next_fate l)
none_later l = fate_soon l.lose l.twice l.delay (words l.generator)
