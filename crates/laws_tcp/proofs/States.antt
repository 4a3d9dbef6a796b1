-- Kinds of states, and that closing keeps them.
use Rattle.std.proofs.Common.{◌≡◌, Bool, true, false, refl}
use Rattle.spec_tcp.specs.declared.state.State.{State}
use Rattle.spec_tcp.specs.declared.state.State.TheVariants.{SynSent, SynReceived, Established, FinWait1, FinWait2, CloseWait, Closing, LastAck, TimeWait, Closed, Broken}
use Rattle.spec_tcp.specs.Arrival.{after_fin, after_fin_acked, takes_data}
use Rattle.spec_tcp.specs.Emission.{sends_data}
use Rattle.spec_tcp.specs.Opening.{after_shut}
use Rattle.spec_tcp.specs.Acts.{sends_more}

-- the peer's SYN has not come
abbrev pub is_before_syn : State → Bool
is_before_syn SynSent = true
is_before_syn state = false

-- this end's SYN is not acknowledged
abbrev pub is_opening : State → Bool
is_opening SynSent = true
is_opening SynReceived = true
is_opening state = false

-- it is acknowledged, and the connection is not broken
abbrev pub is_live : State → Bool
is_live SynSent = false
is_live SynReceived = false
is_live Broken = false
is_live state = true

-- the peer's SYN has come, and the connection is not broken
abbrev pub has_syn : State → Bool
has_syn SynSent = false
has_syn Broken = false
has_syn state = true

-- the peer's FIN was not reached
abbrev pub is_before_fin : State → Bool
is_before_fin SynSent = true
is_before_fin SynReceived = true
is_before_fin Established = true
is_before_fin FinWait1 = true
is_before_fin FinWait2 = true
is_before_fin state = false

-- a state after another, of the same kind
pub record Follows (a b : State) : Type 0 where
  pub before_syn : is_before_syn b ≡ is_before_syn a
  pub opening : is_opening b ≡ is_opening a
  pub live : is_live b ≡ is_live a
  pub syn : has_syn b ≡ has_syn a
  pub fin : is_before_fin b ≡ true → is_before_fin a ≡ true

pub follows_self : (a : State) → Follows a a
follows_self a = record { before_syn = refl; opening = refl; live = refl; syn = refl; fin = λ e. e }

pub follows_fin : (a : State) → Follows a (after_fin a)
follows_fin SynSent = follows_self SynSent
follows_fin SynReceived = follows_self SynReceived
follows_fin Established = record { before_syn = refl; opening = refl; live = refl; syn = refl; fin = λ e. refl }
follows_fin FinWait1 = record { before_syn = refl; opening = refl; live = refl; syn = refl; fin = λ e. refl }
follows_fin FinWait2 = record { before_syn = refl; opening = refl; live = refl; syn = refl; fin = λ e. refl }
follows_fin CloseWait = follows_self CloseWait
follows_fin Closing = follows_self Closing
follows_fin LastAck = follows_self LastAck
follows_fin TimeWait = follows_self TimeWait
follows_fin Closed = follows_self Closed
follows_fin Broken = follows_self Broken

pub follows_fin_acked : (a : State) → Follows a (after_fin_acked a)
follows_fin_acked SynSent = follows_self SynSent
follows_fin_acked SynReceived = follows_self SynReceived
follows_fin_acked Established = follows_self Established
follows_fin_acked FinWait1 = record { before_syn = refl; opening = refl; live = refl; syn = refl; fin = λ e. refl }
follows_fin_acked FinWait2 = follows_self FinWait2
follows_fin_acked CloseWait = follows_self CloseWait
follows_fin_acked Closing = record { before_syn = refl; opening = refl; live = refl; syn = refl; fin = λ e. e }
follows_fin_acked LastAck = record { before_syn = refl; opening = refl; live = refl; syn = refl; fin = λ e. e }
follows_fin_acked TimeWait = follows_self TimeWait
follows_fin_acked Closed = follows_self Closed
follows_fin_acked Broken = follows_self Broken

pub follows_shut : (a : State) → Follows a (after_shut a)
follows_shut SynSent = follows_self SynSent
follows_shut SynReceived = follows_self SynReceived
follows_shut Established = record { before_syn = refl; opening = refl; live = refl; syn = refl; fin = λ e. refl }
follows_shut FinWait1 = follows_self FinWait1
follows_shut FinWait2 = follows_self FinWait2
follows_shut CloseWait = record { before_syn = refl; opening = refl; live = refl; syn = refl; fin = λ e. e }
follows_shut Closing = follows_self Closing
follows_shut LastAck = follows_self LastAck
follows_shut TimeWait = follows_self TimeWait
follows_shut Closed = follows_self Closed
follows_shut Broken = follows_self Broken

-- data are taken in the states before the peer's FIN, of which none comes after it
pub record Takes (a : State) : Type 0 where
  pub before_syn : is_before_syn a ≡ false
  pub before : is_before_fin a ≡ true
  pub after : is_before_fin (after_fin a) ≡ false

pub takes_before_fin : (a : State) → takes_data a ≡ true → Takes a
takes_before_fin Established e = record { before_syn = refl; before = refl; after = refl }
takes_before_fin FinWait1 e = record { before_syn = refl; before = refl; after = refl }
takes_before_fin FinWait2 e = record { before_syn = refl; before = refl; after = refl }
takes_before_fin SynSent e = absurd cc
takes_before_fin SynReceived e = absurd cc
takes_before_fin CloseWait e = absurd cc
takes_before_fin Closing e = absurd cc
takes_before_fin LastAck e = absurd cc
takes_before_fin TimeWait e = absurd cc
takes_before_fin Closed e = absurd cc
takes_before_fin Broken e = absurd cc

-- data go out in live states
pub sends_live : (a : State) → sends_data a ≡ true → is_live a ≡ true
sends_live Established e = refl
sends_live CloseWait e = refl
sends_live FinWait1 e = refl
sends_live Closing e = refl
sends_live LastAck e = refl
sends_live SynSent e = e
sends_live SynReceived e = e
sends_live FinWait2 e = refl
sends_live TimeWait e = refl
sends_live Closed e = refl
sends_live Broken e = e

-- and more is committed in those before the FIN
pub more_live : (a : State) → sends_more a ≡ true → is_opening a ≡ false
more_live Established e = refl
more_live CloseWait e = refl
more_live SynSent e = absurd cc
more_live SynReceived e = absurd cc
more_live FinWait1 e = refl
more_live FinWait2 e = refl
more_live Closing e = refl
more_live LastAck e = refl
more_live TimeWait e = refl
more_live Closed e = refl
more_live Broken e = refl
