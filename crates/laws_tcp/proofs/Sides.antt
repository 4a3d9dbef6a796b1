-- What every connection of a run keeps, by its two sides.
use Rattle.std.proofs.Common.{◌≡◌, ◌+◌, ◌<◌, ◌≤◌, true, false, []}
use Rattle.spec_wire.specs.Segment.{one_if}
use Rattle.spec_tcp.specs.declared.state.State.{State}
use Rattle.spec_tcp.specs.Connection.{Sending, Receiving, Connection, data_end}
use Rattle.laws_tcp.specs.Laws.{IsCounted, first_unacked, right_edge}
use Rattle.laws_tcp.proofs.States.{is_before_syn, is_opening, is_live, has_syn, is_before_fin}

-- ---- the send side

-- nothing but the SYN was sent
pub record IsFresh (s : Sending) : Type 0 where
  pub una : s.una ≡ s.iss
  pub nxt : s.nxt ≡ s.iss + 1
  pub acked : s.acked ≡ 0
  pub bytes : s.bytes ≡ []

-- SND.UNA is past the SYN, and SND.NXT not past the FIN
pub record IsSender (s : Sending) : Type 0 where
  pub opened : first_unacked s ≤ s.una
  pub last : s.nxt ≤ data_end s + one_if s.shut

pub record SendSide (a : State) (s : Sending) : Type 0 where
  pub order : s.una ≤ s.nxt
  pub some : 0 < s.mss
  pub fresh : is_opening a ≡ true → IsFresh s
  pub live : is_live a ≡ true → IsSender s

pub record SendsOn (s t : Sending) : Type 0 where
  pub una : s.una ≤ t.una
  pub nxt : s.nxt ≤ t.nxt

-- ---- the receive side

-- nothing has come
pub record IsEmpty (r : Receiving) : Type 0 where
  pub nxt : r.nxt ≡ 0
  pub unread : r.unread ≡ []
  pub taken : r.taken ≡ 0
  pub ended : r.ended ≡ false

pub record ReceiveSide (a : State) (r : Receiving) : Type 0 where
  pub counted : IsCounted r
  pub told : r.edge ≤ right_edge r
  pub empty : is_before_syn a ≡ true → IsEmpty r
  pub placed : has_syn a ≡ true → 4294967296 ≤ r.irs
  pub not_ended : is_before_fin a ≡ true → r.ended ≡ false

pub record ReceivesOn (r q : Receiving) : Type 0 where
  pub nxt : r.nxt ≤ q.nxt
  pub edge : right_edge r ≤ right_edge q

-- ---- both

pub record IsKept (c : Connection) : Type 0 where
  pub snd : SendSide c.state c.snd
  pub rcv : ReceiveSide c.state c.rcv

-- a connection after another: it keeps the same, and no position falls
pub record Goes (c d : Connection) : Type 0 where
  pub snd : SendSide d.state d.snd
  pub rcv : ReceiveSide d.state d.rcv
  pub sends : SendsOn c.snd d.snd
  pub receives : ReceivesOn c.rcv d.rcv

abbrev pub kept_after : (c d : Connection) → Goes c d → IsKept d
kept_after c d g = record { snd = g.snd; rcv = g.rcv }
