-- The interpreters of a node's tasks, one after another.
use Rattle.std.proofs.Common.{◌≡◌, ℕ, suc, ◌+◌, List, [], ◌∷◌, ◌++◌, Option, sym, ap, ◌∙◌, append_assoc, append-nil}
use Rattle.it_types.specs.declared.id.NodeId.{NodeId}
use Rattle.spec_script.specs.declared.decl.Decl.{Decl}
use Rattle.spec_script.specs.Interpreter.{Interpreter}
use Rattle.spec_sim.specs.Bodies.{task_started, tasks_started}

-- one task more
pub one_started : (id : NodeId) (decls : List Decl) (m n at : ℕ) (before : List (Option Interpreter))
    → m ≡ suc n
    → (before ++ task_started id decls (record { 0 = at }) ∷ []) ++ tasks_started id decls n (at + 1) ≡ before ++ tasks_started id decls m at
unfolding tasks_started
one_started id decls m n at before e =
    append_assoc before (task_started id decls (record { 0 = at }) ∷ []) (tasks_started id decls n (at + 1)) ∙ ap (λ (k : ℕ). before ++ tasks_started id decls k at) (sym e)

-- no task is left
pub all_started : (id : NodeId) (decls : List Decl) (m at : ℕ) (before : List (Option Interpreter)) → m ≡ 0 → before ≡ before ++ tasks_started id decls m at
unfolding tasks_started
all_started id decls m at before e = sym (append-nil before) ∙ ap (λ (k : ℕ). before ++ tasks_started id decls k at) (sym e)
