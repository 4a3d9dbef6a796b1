-- What becomes of a packet on its way. Each packet draws three words of the generator, in the order of sending, also one that is
-- lost. It is this project's own; the generator is PCG32 (O'Neill, "PCG: a family of simple fast space-efficient statistically good
-- algorithms for random number generation").
use Rattle.std.specs.Prelude.{ℕ, ◌+◌, ◌%◌, ◌≤◌, nat_lt, if◌then◌else◌}
use Rattle.rand_pcg.specs.Lcg.{Lcg, started, increment_of}
use Rattle.rand_pcg.specs.Pcg.{multiplier_64, pcg32}
use Rattle.spec_link.specs.declared.fate.Fate.{Fate}
use Rattle.spec_link.specs.declared.fate.Fate.TheVariants.{Lost, Once, Twice}
use Rattle.spec_link.specs.declared.words.Words.{Words}

-- ---- words

-- the generator of a key, on stream 1
unfoldable pub generator_of : ℕ → Lcg
generator_of key = started 64 multiplier_64 key (increment_of 64 1)

abbrev pub word : Lcg → ℕ
word g = (pcg32 g).0

abbrev pub after_word : Lcg → Lcg
after_word g = (pcg32 g).1

-- the next three words
unfoldable pub words : Lcg → Words
words g = record { fate = word g; first = word (after_word g); second = word (after_word (after_word g)) }

-- the generator after them
unfoldable pub after_words : Lcg → Lcg
after_words g = after_word (after_word (after_word g))

-- ---- fates

-- the ticks from the sending to a copy, at most `delay`
abbrev pub ticks_of : ℕ → ℕ → ℕ
ticks_of delay drawn = drawn % (delay + 1)

-- of sixteen packets `lose` are lost, `twice` more are delivered twice, and the others once
abbrev pub fate_of : ℕ → ℕ → ℕ → Words → Fate
fate_of lose twice delay w =
    if nat_lt (w.fate % 16) lose then Lost
    else if nat_lt (w.fate % 16) (lose + twice) then Twice (ticks_of delay w.first) (ticks_of delay w.second)
    else Once (ticks_of delay w.first)

-- no copy is due later than so many ticks after the sending
abbrev pub IsWithin : ℕ → Fate → Type 0
IsWithin most Lost = Unit {0}
IsWithin most (Once late) = late ≤ most
IsWithin most (Twice first second) = (first ≤ most) × (second ≤ most)
