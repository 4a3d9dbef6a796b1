-- Over every list of events of a node each call is accepted once and ends at most once, and each return is right.
use Rattle.std.proofs.Common.{◌≡◌, ℕ, ◌≤◌, Bool, true, false, List, [], ◌∷◌, ◌++◌, Option, Some, None, replicate, refl, sym, ◌∙◌, subst, inl, inr, arith}
use Rattle.std.specs.Prelude.{if◌then◌else◌}
use Rattle.std.proofs.lemmas.Bool.{cases_lt}
use Rattle.std.proofs.lemmas.List.{append-nil, append_assoc, get_or-replicate, get_or_past, length-replicate}
use Rattle.it_types.specs.declared.id.ObjId.{ObjId}
use Rattle.it_types.specs.declared.conf.KConf.{KConf}
use Rattle.spec_lists.specs.Tables.{get, empty_table}
use Rattle.spec_kernel.specs.Ids.{greatest_id}
use Rattle.spec_kernel.specs.Opening.{IsDeclarable}
use Rattle.spec_node.specs.declared.held.Held.{Held}
use Rattle.spec_node.specs.declared.event.NodeEv.{NodeEv}
use Rattle.spec_node.specs.PlainNode.{PlainNode, opened_node}
use Rattle.spec_node.specs.NodeStep.{node_step}
use Rattle.spec_node.specs.Admitted.{is_admitted}
use Rattle.laws_node.proofs.Along.{Holds, step_holds, opening_holds}
use Rattle.laws_calls.specs.Once.{NodeEntry, times_accepted, times_ended, ReturnsRightly, Once, entry_at, log_of}
use Rattle.laws_calls.proofs.OnceBooks.{Books}
use Rattle.laws_calls.proofs.OnceEvents.{step_keeps, return_is_right}
use Rattle.laws_calls.proofs.OnceReturned.{returned_once}

record Counts (log : List NodeEntry) : Type 0 where
  ended : (number : ℕ) → times_ended number log ≤ times_accepted number log
  accepted : (number : ℕ) → times_accepted number log ≤ 1

counts : (n : PlainNode) (log : List NodeEntry) → Books n log → Counts log
counts n log b = record { ended = λ number. omega (arith, b.balance number); accepted = b.once }

-- so it is before and after each of the entries
abbrev Goes : List NodeEntry → List NodeEntry → Type 0
Goes before [] = Counts before
Goes before (e ∷ es) = Counts before × (ReturnsRightly before e × Goes (before ++ e ∷ []) es)

goes : (n : PlainNode) (log : List NodeEntry) (events : List NodeEv) → Holds n → Books n log → Goes log (log_of n events)
goes n log [] h b = counts n log b
goes n log (event ∷ events) h b = of (is_admitted n event) refl
    (λ e. goes (node_step n event).0 (log ++ entry_at n event ∷ []) events (step_holds n event e h) (step_keeps n log event e h b)) (goes n log events h b)
  where
    of : (admitted : Bool)
        → is_admitted n event ≡ admitted
        → (is_admitted n event ≡ true → Goes (log ++ entry_at n event ∷ []) (log_of (node_step n event).0 events))
        → Goes log (log_of n events)
        → Goes log (if admitted then entry_at n event ∷ log_of (node_step n event).0 events else log_of n events)
    of true e taken not_taken = (counts n log b, (return_is_right n log event b e, taken e))
    of false e taken not_taken = not_taken

-- ---- from there to the law

first_of : (before rest : List NodeEntry) → Goes before rest → Counts before
first_of before [] g = g
first_of before (e ∷ es) g = g.0

counts_at : (before rest front back : List NodeEntry) → Goes before rest → front ++ back ≡ rest → Counts (before ++ front)
counts_at before rest [] back g e = rw append-nil (first_of before rest g)
counts_at before [] (x ∷ front) back g e = absurd cc
counts_at before (y ∷ rest) (x ∷ front) back g e =
    let head : x ≡ y = cc in
    let tail : front ++ back ≡ rest = cc in
    let fits : (before ++ y ∷ []) ++ front ≡ before ++ y ∷ front = append_assoc before (y ∷ []) front in
    rw head (subst Counts fits (counts_at (before ++ y ∷ []) rest front back g.1.1 tail))

returns_at : (before rest front back : List NodeEntry) (f : NodeEntry) → Goes before rest → front ++ f ∷ back ≡ rest → ReturnsRightly (before ++ front) f
returns_at before [] [] back f g e = absurd cc
returns_at before (y ∷ rest) [] back f g e = let head : f ≡ y = cc in rw (append-nil, head) g.1.0
returns_at before [] (x ∷ front) back f g e = absurd cc
returns_at before (y ∷ rest) (x ∷ front) back f g e =
    let head : x ≡ y = cc in
    let tail : front ++ f ∷ back ≡ rest = cc in
    let fits : (before ++ y ∷ []) ++ front ≡ before ++ y ∷ front = append_assoc before (y ∷ []) front in
    rw head (subst (λ l. ReturnsRightly l f) fits (returns_at (before ++ y ∷ []) rest front back f g.1.1 tail))

once_from : (log : List NodeEntry) → Goes [] log → Once log
once_from log g = record {
  accepted = (counts_at [] log log [] g (append-nil log)).accepted;
  ended = λ before after number e. (counts_at [] log before after g e).ended number;
  returned = λ before after e fits. returns_at [] log before after e g fits;
  returned_once = returned_once log (counts_at [] log log [] g (append-nil log)).accepted;
}

-- ---- from the opening on

nothing_held : (task : ℕ) (h : Held) → get (empty_table greatest_id) task ≡ Some h → ⊥
nothing_held task h e = elim (cases_lt task 17) [
  | inl lt ↦ (let none : None ≡ Some h = sym (get_or-replicate {A = Option Held} 17 task None None lt) ∙ e in cc)
  | inr le ↦ (let none : None ≡ Some h = sym (get_or_past (replicate 17 None) task None (simp length-replicate le)) ∙ e in cc)
]

opening_books : (conf : KConf) (addr : ℕ) (routines : List ObjId) → Books (opened_node conf addr routines) []
opening_books conf addr routines = record {
  fresh = λ number lt. refl;
  once = λ number. omega arith;
  balance = λ number. omega arith;
  waits = tt;
  holders = λ task h some e. absurd (nothing_held task h e);
}

pub once_along : (conf : KConf) (addr : ℕ) (routines : List ObjId) (events : List NodeEv) → IsDeclarable conf → Once (log_of (opened_node conf addr routines) events)
once_along conf addr routines events can =
    once_from (log_of (opened_node conf addr routines) events) (goes (opened_node conf addr routines) [] events (opening_holds conf addr routines can) (opening_books conf addr routines))
