-- Reads and writes after some that changed nothing.
use Rattle.std.proofs.Common.{ℕ, List, [], ◌++◌, Option, None, Some, sym, ap, ◌∙◌, append-nil}
use Rattle.std.specs.Io.KnownBytes.{Appends, Consumes, Keeps}
use Rattle.std.proofs.KnownBytes.{Keeps-trans}

-- bytes were taken after nothing was
pub kept_consumes : (a b c : Option (List ℕ)) (bytes : List ℕ) → Keeps a b → Consumes b c bytes → Consumes a c bytes
kept_consumes None b c bytes p q = tt
kept_consumes (Some x) None c bytes p q = absurd p
kept_consumes (Some x) (Some y) None bytes p q = absurd q
kept_consumes (Some x) (Some y) (Some z) bytes p q = sym p ∙ q

-- bytes were written after none was
pub kept_appends : (a b c : Option (List ℕ)) (bytes : List ℕ) → Keeps a b → Appends b c bytes → Appends a c bytes
kept_appends None b c bytes p q = tt
kept_appends (Some x) None c bytes p q = absurd p
kept_appends (Some x) (Some y) None bytes p q = absurd q
kept_appends (Some x) (Some y) (Some z) bytes p q = q ∙ ap (λ l. l ++ bytes) p

-- no byte was written
pub kept_none : (a b : Option (List ℕ)) → Appends a b [] → Keeps a b
kept_none None b p = tt
kept_none (Some x) None p = absurd p
kept_none (Some x) (Some y) p = p ∙ append-nil x

-- for a read that is tried again
pub ruleset kept_reads = (kept_consumes, Keeps-trans)

-- for a write that is tried again
pub ruleset kept_writes = (kept_appends, kept_none, Keeps-trans)
