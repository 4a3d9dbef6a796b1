-- What the kernel keeps of one task, and its changes (µITRON4.0 sections 4.1 and 4.2).
use Rattle.std.specs.Prelude.{ℕ, ◌+◌, ◌-◌, Bool, true, false, Option, Some, None, nat_lt, nat_le, ◌==◌, if◌then◌else◌}
use Rattle.spec_kernel.specs.declared.task_block.TaskBlock.{TaskBlock}

abbrev pub if_there : {A : Type 0} → A → (TaskBlock → A) → Option TaskBlock → A
if_there other f None = other
if_there other f (Some t) = f t

abbrev pub changed : (TaskBlock → TaskBlock) → Option TaskBlock → Option TaskBlock
changed f None = None
changed f (Some t) = Some (f t)

abbrev pub priority_of : Option TaskBlock → ℕ
priority_of = if_there 0 (λ t. t.priority)

abbrev pub activations_of : Option TaskBlock → ℕ
activations_of = if_there 0 (λ t. t.activations)

abbrev pub wakeups_of : Option TaskBlock → ℕ
wakeups_of = if_there 0 (λ t. t.wakeups)

abbrev pub suspensions_of : Option TaskBlock → ℕ
suspensions_of = if_there 0 (λ t. t.suspensions)

abbrev pub is_active : Option TaskBlock → Bool
is_active = if_there false (λ t. t.active)

abbrev pub is_suspended : Option TaskBlock → Bool
is_suspended o = nat_lt 0 (suspensions_of o)

-- ---- counts, which stop at 255

abbrev pub is_greatest : ℕ → Bool
is_greatest n = nat_le 255 n

abbrev pub one_more : ℕ → ℕ
one_more n = if is_greatest n then n else n + 1

-- ---- the changes

abbrev pub dormant : TaskBlock → TaskBlock
dormant t = record t { active = false }

-- active, with its initial priority, and neither wake-ups nor suspensions are kept; what is left of the activations stays
abbrev pub begun : TaskBlock → TaskBlock
begun t = record t { active = true; priority = t.initial_priority; wakeups = 0; suspensions = 0 }

-- a priority of 0 is the initial one
abbrev pub with_priority : ℕ → TaskBlock → TaskBlock
with_priority p t = record t { priority = if p == 0 then t.initial_priority else p }

abbrev pub one_activation_more : TaskBlock → TaskBlock
one_activation_more t = record t { activations = one_more t.activations }

abbrev pub one_activation_less : TaskBlock → TaskBlock
one_activation_less t = record t { activations = t.activations - 1 }

abbrev pub without_activations : TaskBlock → TaskBlock
without_activations t = record t { activations = 0 }

abbrev pub one_wakeup_more : TaskBlock → TaskBlock
one_wakeup_more t = record t { wakeups = one_more t.wakeups }

abbrev pub one_wakeup_less : TaskBlock → TaskBlock
one_wakeup_less t = record t { wakeups = t.wakeups - 1 }

abbrev pub without_wakeups : TaskBlock → TaskBlock
without_wakeups t = record t { wakeups = 0 }

abbrev pub one_suspension_more : TaskBlock → TaskBlock
one_suspension_more t = record t { suspensions = one_more t.suspensions }

abbrev pub with_suspensions : ℕ → TaskBlock → TaskBlock
with_suspensions n t = record t { suspensions = n }
