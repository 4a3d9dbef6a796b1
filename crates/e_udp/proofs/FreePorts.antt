-- The search for a free port, step by step.
use Rattle.std.proofs.Common.{◌≡◌, ℕ, zero, suc, ◌+◌, ◌-◌, ◌<◌, ◌≤◌, Bool, true, false, sym, arith}
use Rattle.spec_udp.specs.Ports.{first_free}
use Rattle.spec_udp.proofs.FreePorts.{goes_on, none_tried, stays}

-- past a port that is taken
pub free_further : (n port : ℕ) (taken : ℕ → Bool) → 0 < n → taken port ≡ true → first_free (n - 1) (port + 1) taken ≡ first_free n port taken
free_further zero port taken some t = absurd (omega (arith, some))
free_further (suc n) port taken some t = let one : suc n - 1 ≡ n = omega arith in rw one (sym (goes_on n port taken t))

-- at a port that isn't
pub free_here : (n port : ℕ) (taken : ℕ → Bool) → taken port ≡ false → first_free n port taken ≡ port
free_here zero port taken t = none_tried port taken
free_here (suc n) port taken t = stays n port taken t

-- at the last
pub free_last : (n port : ℕ) (taken : ℕ → Bool) → n ≤ 0 → first_free n port taken ≡ port
free_last zero port taken none = none_tried port taken
free_last (suc n) port taken none = absurd (omega (arith, none))
