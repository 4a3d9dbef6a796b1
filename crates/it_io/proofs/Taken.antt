-- What was taken in two steps, one after the other.
use Rattle.std.proofs.Common.{ℕ, ◌-◌, ◌≤◌, List, ◌++◌, Option, length, arith, length-append, subst, sym}
use Rattle.std.specs.Io.{StartsWith, appended_bytes}
use Rattle.std.specs.Io.KnownBytes.{Consumes}
use Rattle.std.proofs.KnownBytes.{Consumes-trans, starts_with_rest}
use Rattle.it_io.specs.Input.{TookAtMost, TookExactly}

-- the bytes so far, and what was put behind them
pub took_more : (a b c : Option (List ℕ)) (before after : List ℕ) → Consumes a b before → Consumes b c (appended_bytes before after) → StartsWith after before → Consumes a c after
took_more a b c before after p q front =
    subst (Consumes a c) (sym (starts_with_rest after before front)) (Consumes-trans a b c before (appended_bytes before after) p q)

-- the bytes so far, and exactly what was left up to n
pub took_rest : (a b c : Option (List ℕ)) (before : List ℕ) (n : ℕ) → Consumes a b before → length before ≤ n → TookExactly b c (n - length before) → TookExactly a c n
took_rest a b c before n p le r = record {
  bytes = before ++ r.bytes;
  taken = Consumes-trans a b c before r.bytes p r.taken;
  count = omega (arith, length-append before r.bytes, r.count);
}

-- the bytes so far, and no more than what was left up to n
pub took_some : (a b c : Option (List ℕ)) (before : List ℕ) (n : ℕ) → Consumes a b before → length before ≤ n → TookAtMost b c (n - length before) → TookAtMost a c n
took_some a b c before n p le r = record {
  bytes = before ++ r.bytes;
  taken = Consumes-trans a b c before r.bytes p r.taken;
  bound = omega (arith, length-append before r.bytes, r.bound);
}
