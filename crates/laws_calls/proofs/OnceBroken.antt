-- Logs that the law refutes: one in which a call ends twice, one in which it ends before it was accepted, one in which a task returns
-- with the end of another's call, one in which it returns twice from one call, and one in which its next life returns from a call of
-- the life before.
use Rattle.std.proofs.Common.{◌≡◌, ℕ, ◌≤◌, List, [], ◌∷◌, Some, None, refl, sym, ap, inl, inr, arith}
use Rattle.std.specs.Prelude.{ℤ, pos}
use Rattle.it_types.specs.declared.id.TaskId.{TaskId}
use Rattle.it_types.specs.declared.er.Er.{Er}
use Rattle.it_types.specs.declared.er.TheConstants.{E_OK, E_RLWAI}
use Rattle.it_types.specs.declared.context.Ctx.TheVariants.{Task}
use Rattle.it_types.specs.declared.timeout.Tmo.TheVariants.{Fevr}
use Rattle.it_types.specs.declared.request.Req.TheVariants.{TslpTsk, TerTsk}
use Rattle.it_types.specs.declared.answer.Ans.{Ans}
use Rattle.it_types.specs.declared.answer.Ans.TheVariants.{Now, Pends, Quiet}
use Rattle.it_types.specs.declared.mark.Mark.TheVariants.{Gone, Begun}
use Rattle.it_types.specs.declared.entry.CallEnd.{CallEnd}
use Rattle.spec_node.specs.declared.event.NodeEv.TheVariants.{Call, Return, Tick}
use Rattle.laws_calls.specs.Once.{NodeEntry, HasEnded, Returns, Once}

abbrev one : TaskId
one = record { 0 = 1 }

abbrev two : TaskId
two = record { 0 = 2 }

-- the task waits for a wake-up under this number
abbrev sleeps : TaskId → ℕ → NodeEntry
sleeps task number = record { event = Call (Task task) (TslpTsk Fevr); out = record { ans = Pends (record { 0 = number }); ends = []; marks = []; packs = [] } }

abbrev end_of : ℕ → Er → CallEnd
end_of number code = record { call = record { 0 = number }; code = code; bytes = [] }

-- calls end in a tick
abbrev ticks : List CallEnd → NodeEntry
ticks ends = record { event = Tick; out = record { ans = Quiet; ends = ends; marks = []; packs = [] } }

-- the task returns with this code
abbrev returns : TaskId → Er → NodeEntry
returns task code = record { event = Return task; out = record { ans = Now code []; ends = []; marks = []; packs = [] } }

-- a call that ends twice
ended_twice : Once (sleeps one 1 ∷ ticks (end_of 1 E_OK ∷ []) ∷ ticks (end_of 1 E_OK ∷ []) ∷ []) → ⊥
ended_twice h = let le : 2 ≤ 1 = h.ended (sleeps one 1 ∷ ticks (end_of 1 E_OK ∷ []) ∷ ticks (end_of 1 E_OK ∷ []) ∷ []) [] 1 refl in omega (arith, le)

-- a call that ends before it was accepted
ended_before : Once (ticks (end_of 1 E_OK ∷ []) ∷ sleeps one 1 ∷ []) → ⊥
ended_before h = let le : 1 ≤ 0 = h.ended (ticks (end_of 1 E_OK ∷ []) ∷ []) (sleeps one 1 ∷ []) 1 refl in omega (arith, le)

-- two calls that are accepted under one number
accepted_twice : Once (sleeps one 1 ∷ sleeps two 1 ∷ []) → ⊥
accepted_twice h = let le : 2 ≤ 1 = h.accepted 1 in omega (arith, le)

-- the code of an answer
abbrev code_of : Ans → ℤ
code_of (Now code bytes) = code.0
code_of _ = pos 0

-- task 1 returns with the code of the end of task 2's call
of_another : Once (sleeps one 1 ∷ sleeps two 2 ∷ ticks (end_of 1 E_OK ∷ end_of 2 E_RLWAI ∷ []) ∷ returns one E_RLWAI ∷ []) → ⊥
of_another h = of r.call r.last r.ended
  where
    before : List NodeEntry
    before = sleeps one 1 ∷ sleeps two 2 ∷ ticks (end_of 1 E_OK ∷ end_of 2 E_RLWAI ∷ []) ∷ []

    r : Returns one before (Now E_RLWAI [])
    r = h.returned before [] (returns one E_RLWAI) refl one refl

    of : (call : ℕ) → Some 1 ≡ Some call → HasEnded call (Now E_RLWAI []) before → ⊥
    of call last (inl e) = absurd e
    of call last (inr (inl e)) = absurd e
    of call last (inr (inr (inl (inl e)))) = absurd (let same : pos 0 ≡ E_RLWAI.0 = sym (ap code_of e.1) in cc)
    of call last (inr (inr (inl (inr (inl e))))) = absurd (let same : 1 ≡ call = cc in omega (arith, same, e.0))
    of call last (inr (inr (inl (inr (inr e))))) = absurd e
    of call last (inr (inr (inr e))) = absurd e

-- a task returns twice from one call
returned_twice : Once (sleeps one 1 ∷ ticks (end_of 1 E_OK ∷ []) ∷ returns one E_OK ∷ returns one E_OK ∷ []) → ⊥
returned_twice h = let e : None ≡ Some r.call = r.last in cc
  where
    before : List NodeEntry
    before = sleeps one 1 ∷ ticks (end_of 1 E_OK ∷ []) ∷ returns one E_OK ∷ []

    r : Returns one before (Now E_OK [])
    r = h.returned before [] (returns one E_OK) refl one refl

-- task 2 terminates task 1, which begins anew, and then returns from the call of the life before
abbrev terminated : NodeEntry
terminated = record { event = Call (Task two) (TerTsk one); out = record { ans = Now E_OK []; ends = end_of 1 E_RLWAI ∷ []; marks = Gone one ∷ Begun one ∷ []; packs = [] } }

of_an_earlier_life : Once (sleeps one 1 ∷ terminated ∷ returns one E_RLWAI ∷ []) → ⊥
of_an_earlier_life h = let e : None ≡ Some r.call = r.last in cc
  where
    before : List NodeEntry
    before = sleeps one 1 ∷ terminated ∷ []

    r : Returns one before (Now E_RLWAI [])
    r = h.returned before [] (returns one E_RLWAI) refl one refl
