-- The runs of a connection: it is opened, and then moments follow, at each of which an act happens that may.
use Rattle.std.specs.Prelude.{◌≡◌, ℕ, true, List, [], ◌∷◌}
use Rattle.it_types.specs.declared.id.EndPt.{EndPt}
use Rattle.spec_wire.specs.Segment.{Segment}
use Rattle.spec_tcp.specs.Connection.{Connection}
use Rattle.spec_tcp.specs.Opening.{open_active, open_passive}
use Rattle.spec_tcp.specs.Acts.{Moment, after, after_all, may_happen}

pub data Opening : Type 0 where
  Active : (mine peer : EndPt) (iss send recv : ℕ) → Opening
  Passive : (mine peer : EndPt) (iss : ℕ) (syn : Segment) (send recv : ℕ) → Opening

abbrev pub opened : Opening → Connection
opened (Active mine peer iss send recv) = open_active mine peer iss send recv
opened (Passive mine peer iss syn send recv) = open_passive mine peer iss syn send recv

-- each act may happen at the connection that it meets
abbrev pub MayHappen : List Moment → Connection → Type 0
MayHappen [] c = Unit {0}
MayHappen (m ∷ ms) c = (may_happen m.act c ≡ true) × MayHappen ms (after m c)

-- moments lead from a connection to a later one of its run
pub record LeadsTo (c d : Connection) : Type 0 where
  pub moments : List Moment
  pub may : MayHappen moments c
  pub last : d ≡ after_all moments c

-- a run leads from an opening to the connection
pub record IsReached (c : Connection) : Type 0 where
  pub opening : Opening
  pub run : LeadsTo (opened opening) c
