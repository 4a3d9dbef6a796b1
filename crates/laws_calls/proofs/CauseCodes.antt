-- The codes of each kind of cause: but for E_OK, which is also the code of a delay that is over, no two kinds have one.
use Rattle.std.proofs.Common.{◌≡◌, ℕ, ◌+◌, ◌⊎◌, Bool, true, false, List, [], ◌∷◌, length, Option, Some, None, refl, ap, inl, inr, arith}
use Rattle.std.specs.Prelude.{ℤ, if◌then◌else◌, pos, negsuc, nat_lt}
use Rattle.it_types.specs.declared.er.Er.{Er}
use Rattle.it_types.specs.declared.er.TheConstants.{E_OK, E_TMOUT, E_RLWAI, E_DLT, E_BOVR}
use Rattle.it_types.specs.declared.entry.CallEnd.{CallEnd}
use Rattle.spec_lists.specs.Tables.{get}
use Rattle.spec_kernel.specs.declared.outcome.KEnd.{KEnd}
use Rattle.spec_kernel.specs.declared.reason.WaitReason.{WaitReason}
use Rattle.spec_kernel.specs.declared.reason.WaitReason.TheVariants as reasons
use Rattle.spec_kernel.specs.Time.{code_by_time}
use Rattle.spec_pend.specs.declared.slot.Part.{Part}
use Rattle.spec_pend.specs.declared.slot.Part.TheVariants.{Conn, Send, Recv}
use Rattle.spec_pend.specs.declared.answer.NetEnd.{NetEnd}
use Rattle.spec_udp.specs.declared.point.Received.{Received}
use Rattle.spec_udp.specs.declared.point.Sending.{Sending}
use Rattle.spec_udp.specs.declared.point.UdpPoint.{UdpPoint}
use Rattle.spec_udp.specs.Points.{queue_of, wanted_at, sending_at}
use Rattle.spec_udp.specs.Receiving.{count_code, receive_code}
use Rattle.spec_udp.specs.Settling.{received_code, sent_code, met_code}
use Rattle.spec_node.specs.declared.event.NodeEv.{NodeEv}
use Rattle.spec_node.specs.PlainNode.{PlainNode}
use Rattle.laws_calls.specs.Cause.{Kind, KernelEnds, NetEnds, Cause}

-- ---- the codes

-- the code of a call that has what it waited for
abbrev pub IsSuccess : Er → Type 0
IsSuccess code = ((count : ℕ) × (code ≡ record { 0 = pos count })) ⊎ (code ≡ E_BOVR)

abbrev pub CodeOf : Kind → Er → Type 0
CodeOf Kind.Satisfied code = IsSuccess code
CodeOf Kind.TimedOut code = (code ≡ E_TMOUT) ⊎ (code ≡ E_OK)
CodeOf Kind.Released code = code ≡ E_RLWAI
CodeOf Kind.Deleted code = code ≡ E_DLT

receive_success : (len : ℕ) (d : Received) → IsSuccess (receive_code len d)
receive_success len d = of (nat_lt len (length d.load))
  where
    of : (b : Bool) → IsSuccess (if b then E_BOVR else count_code (length d.load))
    of true = inr refl
    of false = inl (length d.load, refl)

met_success : (point : Option UdpPoint) (part : Part) → IsSuccess (met_code point part)
met_success point Conn = inl (0, refl)
met_success point Recv = of (queue_of point)
  where
    of : (ds : List Received) → IsSuccess (received_code (wanted_at point) ds)
    of [] = inl (0, refl)
    of (d ∷ ds) = receive_success (wanted_at point) d
met_success point Send = of (sending_at point)
  where
    of : (s : Option Sending) → IsSuccess (sent_code s)
    of None = inl (0, refl)
    of (Some s) = inl (length s.load, refl)

time_code : (reason : WaitReason) → (code_by_time reason ≡ E_TMOUT) ⊎ (code_by_time reason ≡ E_OK)
time_code (reasons.Semaphore s) = inl refl
time_code (reasons.Flag f) = inl refl
time_code (reasons.Send q item) = inl refl
time_code (reasons.Receive q) = inl refl
time_code reasons.Sleep = inl refl
time_code reasons.Delay = inr refl
time_code reasons.Outside = inl refl

module _ (n : PlainNode) (event : NodeEv) where
  kernel_code : (kind : Kind) (e : KEnd) → KernelEnds n event kind e → CodeOf kind e.code
  kernel_code _ _ (KernelEnds.is_freed k z at f) = inl (0, refl)
  kernel_code _ _ (KernelEnds.is_handed ctx call task bytes z is hands f) = inl (0, refl)
  kernel_code _ _ (KernelEnds.is_timed_out k z tick at rest f) = time_code z.0.reason
  kernel_code _ _ (KernelEnds.is_released ctx call task z is releases f) = refl

  net_code : (kind : Kind) (e : NetEnd) → NetEnds n event kind e → CodeOf kind e.code
  net_code _ _ (NetEnds.is_met s z at f) = met_success (get s.udps.points z.0.slot.cep.0) z.0.slot.part
  net_code _ _ (NetEnds.is_ended s z kind e at ends outside f) = kernel_code kind e ends
  net_code _ _ (NetEnds.is_cancelled ctx cep func z is free f) = refl
  net_code _ _ (NetEnds.is_deleted ctx cep z is free f) = refl

  pub code_of : (kind : Kind) (e : CallEnd) → Cause n event kind e → CodeOf kind e.code
  code_of _ _ (Cause.of_kernel kind e ends inside) = kernel_code kind e ends
  code_of _ _ (Cause.of_network kind e ends) = net_code kind e ends

-- ---- no two are one

-- a number that tells the codes apart
abbrev error_number : ℤ → ℕ
error_number (pos n) = 0
error_number (negsuc m) = m + 1

abbrev number_of : Er → ℕ
number_of code = error_number code.0

abbrev Numbers : Kind → ℕ → Type 0
Numbers Kind.Satisfied m = (m ≡ 0) ⊎ (m ≡ 58)
Numbers Kind.TimedOut m = (m ≡ 50) ⊎ (m ≡ 0)
Numbers Kind.Released m = m ≡ 49
Numbers Kind.Deleted m = m ≡ 51

numbered : (kind : Kind) (code : Er) → CodeOf kind code → Numbers kind (number_of code)
numbered Kind.Satisfied code (inl s) = inl (ap number_of s.1)
numbered Kind.Satisfied code (inr s) = inr (ap number_of s)
numbered Kind.TimedOut code (inl s) = inl (ap number_of s)
numbered Kind.TimedOut code (inr s) = inr (ap number_of s)
numbered Kind.Released code s = ap number_of s
numbered Kind.Deleted code s = ap number_of s

-- two kinds of one code are the same, or one is satisfied and the other is timed out
pub data Alike (a b : Kind) : Type 0 where
  same : a ≡ b → Alike a b
  first_over : a ≡ Kind.TimedOut → b ≡ Kind.Satisfied → Alike a b
  second_over : a ≡ Kind.Satisfied → b ≡ Kind.TimedOut → Alike a b

alike_at : (a b : Kind) (m : ℕ) → Numbers a m → Numbers b m → Alike a b
alike_at Kind.Satisfied Kind.Satisfied m x y = Alike.same refl
alike_at Kind.Satisfied Kind.TimedOut m x y = Alike.second_over refl refl
alike_at Kind.Satisfied Kind.Released m x y = absurd (omega (arith, x, y))
alike_at Kind.Satisfied Kind.Deleted m x y = absurd (omega (arith, x, y))
alike_at Kind.TimedOut Kind.Satisfied m x y = Alike.first_over refl refl
alike_at Kind.TimedOut Kind.TimedOut m x y = Alike.same refl
alike_at Kind.TimedOut Kind.Released m x y = absurd (omega (arith, x, y))
alike_at Kind.TimedOut Kind.Deleted m x y = absurd (omega (arith, x, y))
alike_at Kind.Released Kind.Satisfied m x y = absurd (omega (arith, x, y))
alike_at Kind.Released Kind.TimedOut m x y = absurd (omega (arith, x, y))
alike_at Kind.Released Kind.Released m x y = Alike.same refl
alike_at Kind.Released Kind.Deleted m x y = absurd (omega (arith, x, y))
alike_at Kind.Deleted Kind.Satisfied m x y = absurd (omega (arith, x, y))
alike_at Kind.Deleted Kind.TimedOut m x y = absurd (omega (arith, x, y))
alike_at Kind.Deleted Kind.Released m x y = absurd (omega (arith, x, y))
alike_at Kind.Deleted Kind.Deleted m x y = Alike.same refl

pub alike : (a b : Kind) (code : Er) → CodeOf a code → CodeOf b code → Alike a b
alike a b code x y = alike_at a b (number_of code) (numbered a code x) (numbered b code y)

-- a time-out's code is that of no success
pub no_success : IsSuccess E_TMOUT → ⊥
no_success s = let m : Numbers Kind.Satisfied 50 = numbered Kind.Satisfied E_TMOUT s in omega (arith, m)

-- an end by time with the code of a success is that of a delay
pub delay_only : (reason : WaitReason) → IsSuccess (code_by_time reason) → reason ≡ reasons.Delay
delay_only reasons.Delay s = refl
delay_only (reasons.Semaphore x) s = absurd (no_success s)
delay_only (reasons.Flag f) s = absurd (no_success s)
delay_only (reasons.Send q item) s = absurd (no_success s)
delay_only (reasons.Receive q) s = absurd (no_success s)
delay_only reasons.Sleep s = absurd (no_success s)
delay_only reasons.Outside s = absurd (no_success s)
