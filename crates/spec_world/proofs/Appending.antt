-- A history with one entry more at its end.
use Rattle.std.proofs.Common.{◌≡◌, List, [], ◌∷◌, ◌++◌, refl, sym, subst, append_assoc}
use Rattle.std.proofs.lemmas.List.{append-nil}
use Rattle.it_types.specs.declared.entry.Entry.{Entry}
use Rattle.spec_world.specs.PlainWorld.{PlainWorld, step}
use Rattle.spec_world.specs.History.{is_stop, ends_with_stop, after, Follows, RunsFrom}

-- the world after it is the one after its event
pub after_more : (w : PlainWorld) (es : List Entry) (e : Entry) → after w (es ++ e ∷ []) ≡ (step (after w es) e.ev).0
after_more w [] e = refl
after_more w (x ∷ xs) e = after_more (step w x.ev).0 xs e

-- it ends with the stop if its last event is the stop
pub stops_more : (es : List Entry) (e : Entry) → ends_with_stop (es ++ e ∷ []) ≡ is_stop e.ev
stops_more [] e = refl
stops_more (x ∷ []) e = refl
stops_more (x ∷ y ∷ ys) e = stops_more (y ∷ ys) e

-- an entry that follows a run makes a run
pub runs_more : (w : PlainWorld) (before es : List Entry) (e : Entry) → RunsFrom w before es → Follows (after w es) (before ++ es) e → RunsFrom w before (es ++ e ∷ [])
runs_more w before [] e runs follows = (subst (λ b. Follows w b e) (append-nil before) follows, tt)
runs_more w before (x ∷ xs) e runs follows =
    (runs.0, runs_more (step w x.ev).0 (before ++ x ∷ []) xs e runs.1 (subst (λ b. Follows (after (step w x.ev).0 xs) b e) (sym (append_assoc before (x ∷ []) xs)) follows))
