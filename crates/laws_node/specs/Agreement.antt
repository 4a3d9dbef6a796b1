-- That the two parts of a node agree on which tasks wait for calls of the network part. It is this project's own.
use Rattle.std.specs.Prelude.{◌≡◌, ℕ, ◌+◌, ◌≤◌, Bool, true, false, ◌&&◌, List, [], ◌∷◌, ◌==◌, is_some}
use Rattle.spec_lists.specs.Tables.{get}
use Rattle.spec_lists.specs.Counting.{one_if}
use Rattle.spec_lists.specs.Counting.{times as times_numbered}
use Rattle.spec_kernel.specs.declared.reason.WaitingCall.{WaitingCall}
use Rattle.spec_kernel.specs.Settle.{is_outside}
use Rattle.spec_kernel.specs.Standing.{waiting_number, IsStanding}
use Rattle.spec_pend.specs.declared.call.Who.{Who}
use Rattle.spec_pend.specs.declared.call.Who.TheVariants as whos
use Rattle.spec_pend.specs.declared.call.NetCall.{NetCall}
use Rattle.spec_pend.specs.Kept.{PendKept}
use Rattle.spec_node.specs.PlainNode.{PlainNode}

-- how many elements pass
abbrev pub times : {X : Type 0} → (X → Bool) → List X → ℕ
times p [] = 0
times p (x ∷ xs) = one_if (p x) + times p xs

-- how many calls of the task wait
abbrev pub times_waiting : ℕ → List WaitingCall → ℕ
times_waiting id ws = times_numbered waiting_number id ws

-- the call of this number, with which this task waits outside the kernel
abbrev pub is_outside_call : ℕ → ℕ → WaitingCall → Bool
is_outside_call number id w = is_outside w.reason && ((w.call.0 == number) && (w.task.0 == id))

-- this task waits, and is told
abbrev pub tells : ℕ → Who → Bool
tells id (whos.Task t) = t.0 == id
tells id (whos.Callback t cbr) = false

abbrev pub tells_routine : Who → Bool
tells_routine (whos.Task t) = false
tells_routine (whos.Callback t cbr) = true

-- the call of this number, of whose end this task is told
abbrev pub is_net_call : ℕ → ℕ → NetCall → Bool
is_net_call number id c = (c.call.0 == number) && tells id c.who

-- the call of this number, of whose end a routine is told
abbrev pub is_routine_call : ℕ → NetCall → Bool
is_routine_call number c = (c.call.0 == number) && tells_routine c.who

-- the call has this number
abbrev pub is_numbered : ℕ → WaitingCall → Bool
is_numbered number w = w.call.0 == number

-- Each task that waits outside the kernel made the waiting call of the network part that has its number and of whose end it is told,
-- and the other way round. The calls stand in the order of their numbers, each at most the last one drawn, no two at one part of an
-- end point. One call at most has a number, of those that wait in the kernel and those of which routines are told: so none waits in
-- the kernel under the number of a call of which a routine is told. The list of runnable tasks has each active task that is neither
-- suspended nor waits, once, and no task waits twice. A task that holds an answer doesn't wait.
pub record PartsAgree (n : PlainNode) : Type 0 where
  pub same : (number id : ℕ) → times (is_outside_call number id) n.kernel.waits ≡ times (is_net_call number id) n.net.pend.calls
  pub in_order : PendKept n.net.pend
  pub drawn : n.net.pend.last ≤ n.calls
  pub numbers : (number : ℕ) → times (is_numbered number) n.kernel.waits + times (is_routine_call number) n.net.pend.calls ≤ 1
  pub standing : IsStanding n.kernel
  pub holders : (id : ℕ) → is_some (get n.held id) ≡ true → times_waiting id n.kernel.waits ≡ 0
