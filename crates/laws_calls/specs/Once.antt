-- That each call of a node is accepted once and ends at most once, in the entry that accepted it or a later one, and that each return
-- gives the end of the call which its task made last. It is this project's own.
use Rattle.std.specs.Prelude.{◌≡◌, ℕ, ◌+◌, ◌≤◌, ◌⊎◌, Bool, false, ◌||◌, ◌==◌, List, [], ◌∷◌, ◌++◌, Option, Some, None, if◌then◌else◌}
use Rattle.std.specs.List.{list_any}
use Rattle.it_types.specs.declared.id.TaskId.{TaskId}
use Rattle.it_types.specs.declared.context.Ctx.TheVariants as contexts
use Rattle.it_types.specs.declared.answer.Ans.{Ans}
use Rattle.it_types.specs.declared.answer.Ans.TheVariants.{Now, Pends, Later, Quiet}
use Rattle.it_types.specs.declared.mark.Mark.{Mark}
use Rattle.it_types.specs.declared.mark.Mark.TheVariants.{Gone}
use Rattle.it_types.specs.declared.entry.CallEnd.{CallEnd}
use Rattle.it_types.specs.declared.entry.Out.{Out}
use Rattle.spec_lists.specs.Counting.{one_if}
use Rattle.spec_node.specs.declared.event.NodeEv.{NodeEv}
use Rattle.spec_node.specs.declared.event.NodeEv.TheVariants.{Call, Return}
use Rattle.spec_node.specs.PlainNode.{PlainNode}
use Rattle.spec_node.specs.NodeStep.{node_step}
use Rattle.spec_node.specs.Admitted.{is_admitted}
use Rattle.laws_node.specs.Agreement.{times}

-- an event of a node, and what it gave: its answer, the ends of calls, the marks and the packets
pub record NodeEntry : Type 0 where
  pub event : NodeEv
  pub out : Out

-- ---- the log of a node

abbrev pub entry_at : PlainNode → NodeEv → NodeEntry
entry_at n event = record { event = event; out = (node_step n event).1 }

-- the entries of these events, of which those that aren't admitted change nothing
abbrev pub log_of : PlainNode → List NodeEv → List NodeEntry
log_of n [] = []
log_of n (event ∷ events) = if is_admitted n event then entry_at n event ∷ log_of (node_step n event).0 events else log_of n events

-- ---- acceptance and ends

-- the answer accepts a call under this number, whether its task waits for it or goes on
abbrev pub accepts : ℕ → Ans → Bool
accepts number (Now code bytes) = false
accepts number (Pends call) = call.0 == number
accepts number (Later call) = call.0 == number
accepts number Quiet = false

-- in how many entries a call is accepted under this number
abbrev pub times_accepted : ℕ → List NodeEntry → ℕ
times_accepted number [] = 0
times_accepted number (e ∷ es) = one_if (accepts number e.out.ans) + times_accepted number es

abbrev pub is_end_of : ℕ → CallEnd → Bool
is_end_of number e = e.call.0 == number

-- how often the call of this number ends, in all entries together
abbrev pub times_ended : ℕ → List NodeEntry → ℕ
times_ended number [] = 0
times_ended number (e ∷ es) = times (is_end_of number) e.out.ends + times_ended number es

-- ---- returns

-- the call for which the task begins to wait in this entry, if any
abbrev pub asked_in : ℕ → NodeEv → Ans → Option ℕ
asked_in task (Call (contexts.Task t) request) (Pends call) = if t.0 == task then Some call.0 else None
asked_in task _ _ = None

abbrev pub is_return : ℕ → NodeEv → Bool
is_return task (Return t) = t.0 == task
is_return task _ = false

-- the mark of the task's end
abbrev pub is_gone : ℕ → Mark → Bool
is_gone task (Gone t) = t.0 == task
is_gone task _ = false

-- in this entry the task returns, or its life ends
abbrev pub closes : ℕ → NodeEntry → Bool
closes task e = is_return task e.event || list_any (is_gone task) e.out.marks

abbrev pub or_before : Option ℕ → Option ℕ → Option ℕ
or_before None before = before
or_before (Some call) before = Some call

-- a return closes the call, and so does the end of the task: its next life has none
abbrev pub open_after : ℕ → Option ℕ → NodeEntry → Option ℕ
open_after task before e = if closes task e then None else or_before (asked_in task e.event e.out.ans) before

-- the number of the call for which the task began to wait last in this life, if it has not returned from it yet; before these
-- entries it is the one given
abbrev pub open_call : ℕ → Option ℕ → List NodeEntry → Option ℕ
open_call task before [] = before
open_call task before (e ∷ es) = open_call task (open_after task before e) es

-- the call of this number ends here, and this is the answer to it
abbrev pub HasEnd : ℕ → Ans → List CallEnd → Type 0
HasEnd number answer [] = ⊥
HasEnd number answer (e ∷ es) = ((e.call.0 ≡ number) × (answer ≡ Now e.code e.bytes)) ⊎ HasEnd number answer es

-- so it does in one of these entries
abbrev pub HasEnded : ℕ → Ans → List NodeEntry → Type 0
HasEnded number answer [] = ⊥
HasEnded number answer (e ∷ es) = HasEnd number answer e.out.ends ⊎ HasEnded number answer es

-- a call of the task is open, which has ended, and the answer has the code and the bytes of its end
pub record Returns (task : TaskId) (before : List NodeEntry) (answer : Ans) : Type 0 where
  pub call : ℕ
  pub last : open_call task.0 None before ≡ Some call
  pub ended : HasEnded call answer before

abbrev pub ReturnsRightly : List NodeEntry → NodeEntry → Type 0
ReturnsRightly before e = (task : TaskId) → e.event ≡ Return task → Returns task before e.out.ans

-- ---- at most one return from a call

abbrev pub is_call : ℕ → Option ℕ → Bool
is_call number None = false
is_call number (Some call) = call == number

-- the event is the return from the call of this number, after these entries
abbrev pub returns_from : ℕ → List NodeEntry → NodeEv → Bool
returns_from number before (Return task) = is_call number (open_call task.0 None before)
returns_from number before _ = false

-- how many entries are the return from the call of this number, after those before
abbrev pub times_returned : ℕ → List NodeEntry → List NodeEntry → ℕ
times_returned number before [] = 0
times_returned number before (e ∷ es) = one_if (returns_from number before e.event) + times_returned number (before ++ e ∷ []) es

-- ---- the law

-- Each number accepts one call at most. Up to any moment a call has ended at most as often as it was accepted: so at most once,
-- and not before. Each return gives the end of its task's last call, in this life of the task, and no two return from one call.
pub record Once (log : List NodeEntry) : Type 0 where
  pub accepted : (number : ℕ) → times_accepted number log ≤ 1
  pub ended : (before after : List NodeEntry) (number : ℕ) → before ++ after ≡ log → times_ended number before ≤ times_accepted number before
  pub returned : (before after : List NodeEntry) (e : NodeEntry) → before ++ e ∷ after ≡ log → ReturnsRightly before e
  pub returned_once : (number : ℕ) → times_returned number [] log ≤ 1
