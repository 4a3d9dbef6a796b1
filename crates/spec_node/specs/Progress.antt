-- An event under way: both parts of the node so far, the ends of calls, the marks of callback routines that are told, and the
-- packets. The two parts meet here: a call of the network part that ends wakes its task in the kernel, and a wait that the kernel
-- ends for it ends in the network part too. It is this project's own.
use Rattle.std.specs.Prelude.{ℕ, zero, suc, true, false, List, [], ◌∷◌, ◌++◌, length, Option, Some, None}
use Rattle.it_types.specs.declared.mark.Mark.{Mark}
use Rattle.spec_kernel.specs.declared.outcome.KEnd.{KEnd}
use Rattle.spec_kernel.specs.PlainKernel.{PlainKernel}
use Rattle.spec_kernel.specs.Settle.{Outcome}
use Rattle.spec_kernel.specs.Time.{due, unblocked}
use Rattle.spec_pend.specs.declared.call.Who.{Who}
use Rattle.spec_pend.specs.declared.call.Who.TheVariants as whos
use Rattle.spec_pend.specs.declared.answer.NetEnd.{NetEnd}
use Rattle.spec_udp.specs.PlainUdps.{UdpSide, UdpOutcome, side_after}
use Rattle.spec_udp.specs.Outside.{ended}

pub record Progress : Type 0 where
  pub kernel : PlainKernel
  pub net : UdpSide
  pub ends : List NetEnd  -- of either part
  pub marks : List Mark
  pub packets : List (List ℕ)

-- a task is told of the end of a kernel call
abbrev pub kernel_end : KEnd → NetEnd
kernel_end e = record { call = e.call; who = whos.Task e.task; code = e.code; bytes = e.bytes }

-- the kernel after a call of the network part has ended: a task that waited for it waits no longer; where a routine is told of it
-- none waited
abbrev pub woken_for : PlainKernel → Who → PlainKernel
woken_for k (whos.Task t) = (unblocked k t).0
woken_for k (whos.Callback t cbr) = k

-- the same for all that have ended
abbrev pub woken_by : PlainKernel → List NetEnd → PlainKernel
woken_by k [] = k
woken_by k (e ∷ es) = woken_by (woken_for k e.who) es

-- what the network part did is taken over
abbrev pub after_net : Progress → UdpOutcome → Progress
after_net p o = record {
  kernel = woken_by p.kernel o.endings.ends;
  net = side_after o;
  ends = p.ends ++ o.endings.ends;
  marks = p.marks ++ o.endings.marks;
  packets = p.packets ++ o.packets;
}

-- an end that the kernel made: one of a call of the network part ends there, with what follows from it
abbrev pub after_end : Progress → KEnd → Progress
after_end p e = elim e.outside [ true ↦ after_net p (ended p.net e.call e.code) | false ↦ record p { ends = p.ends ++ kernel_end e ∷ [] } ]

abbrev pub after_ends : Progress → List KEnd → Progress
after_ends p [] = p
after_ends p (e ∷ es) = after_ends (after_end p e) es

-- what the kernel did is taken over
unfoldable pub after_kernel : Progress → Outcome → Progress
after_kernel p o = after_ends (record p { kernel = o.kernel }) o.ends

abbrev pub time_turn : (Progress → Progress) → Progress → Option Outcome → Progress
time_turn go_on p None = p
time_turn go_on p (Some o) = go_on (after_kernel p o)

-- while a deadline is past, the next such call ends: as many times as calls wait, at most
unfoldable pub time_out : ℕ → Progress → Progress
time_out zero p = p
time_out (suc n) p = time_turn (time_out n) p (due p.kernel)

unfoldable pub timed_out : Progress → Progress
timed_out p = time_out (length p.kernel.waits) p
