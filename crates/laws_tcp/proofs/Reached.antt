-- Every connection of a run keeps what an opening has.
use Rattle.std.proofs.Common.{List, [], ◌∷◌, refl, arith}
use Rattle.spec_tcp.specs.Connection.{Connection}
use Rattle.spec_tcp.specs.Acts.{Moment, after, after_all}
use Rattle.laws_tcp.specs.Runs.{Opening, Active, Passive, opened, MayHappen, LeadsTo, IsReached}
use Rattle.laws_tcp.proofs.Sides.{IsKept, Goes, kept_after}
use Rattle.laws_tcp.proofs.Steps.{goes_same, goes_then, some_mss}
use Rattle.laws_tcp.proofs.Acting.{goes_after}

opening_kept : (o : Opening) → IsKept (opened o)
opening_kept (Active mine peer iss send recv) = record {
  snd = record {
    order = omega arith;
    some = omega arith;
    fresh = λ e. record { una = refl; nxt = refl; acked = refl; bytes = refl };
    live = λ e. absurd cc;
  };
  rcv = record {
    counted = λ some. absurd (omega (arith, some));
    told = omega arith;
    empty = λ e. record { nxt = refl; unread = refl; taken = refl; ended = refl };
    placed = λ e. absurd cc;
    not_ended = λ e. refl;
  };
}
opening_kept (Passive mine peer iss syn send recv) = record {
  snd = record {
    order = omega arith;
    some = some_mss syn.mss;
    fresh = λ e. record { una = refl; nxt = refl; acked = refl; bytes = refl };
    live = λ e. absurd cc;
  };
  rcv = record {
    counted = λ some. omega arith;
    told = omega arith;
    empty = λ e. absurd cc;
    placed = λ e. omega arith;
    not_ended = λ e. refl;
  };
}

goes_on : (ms : List Moment) (c : Connection) → MayHappen ms c → IsKept c → Goes c (after_all ms c)
goes_on [] c may h = goes_same c c refl refl refl h
goes_on (m ∷ ms) c may h =
    let to_next = goes_after m c may.0 h in
    goes_then c (after m c) (after_all ms (after m c)) to_next (goes_on ms (after m c) may.1 (kept_after c (after m c) to_next))

pub leads_on : (c d : Connection) → LeadsTo c d → IsKept c → Goes c d
leads_on c d run h = rw run.last (goes_on run.moments c run.may h)

pub reached_kept : (c : Connection) → IsReached c → IsKept c
reached_kept c reached = kept_after (opened reached.opening) c (leads_on (opened reached.opening) c reached.run (opening_kept reached.opening))
