-- That each end of a call in a history has exactly one cause, at the node at which its entry's event happens, as that node is before
-- it. It is this project's own.
use Rattle.std.specs.Prelude.{◌≡◌, List, [], ◌∷◌, Option, Some, None}
use Rattle.std.specs.List.{AllByRecursion}
use Rattle.it_types.specs.declared.entry.CallEnd.{CallEnd}
use Rattle.it_types.specs.declared.entry.Entry.{Entry}
use Rattle.it_types.specs.declared.node_conf.Conf.{Conf}
use Rattle.spec_node.specs.declared.event.NodeEv.{NodeEv}
use Rattle.spec_node.specs.PlainNode.{PlainNode}
use Rattle.spec_world.specs.PlainWorld.{PlainWorld, node_at, step, opened_world}
use Rattle.laws_calls.specs.Cause.{Kind, Cause, HasCause}
use Rattle.laws_world.specs.Packets.{node_of}
use Rattle.laws_world.specs.OnceInBoth.{node_event}

-- the end has a cause, and causes of one kind alone
pub record HasOneCause (n : PlainNode) (event : NodeEv) (e : CallEnd) : Type 0 where
  pub some : HasCause n event e
  pub one : (a b : Kind) → Cause n event a e → Cause n event b e → a ≡ b

-- so has each of these ends, of an event at the node; an event of no node ends no call
abbrev pub AreCaused : PlainNode → Option NodeEv → List CallEnd → Type 0
AreCaused n None ends = ends ≡ []
AreCaused n (Some event) ends = AllByRecursion (HasOneCause n event) ends

-- so it is in each of the entries, of a history that goes on from this world
abbrev pub CausedFrom : PlainWorld → List Entry → Type 0
CausedFrom w [] = Unit {0}
CausedFrom w (e ∷ es) = AreCaused (node_at w.nodes (node_of w.packets e.ev)) (node_event w.packets e.ev) e.ends × CausedFrom (step w e.ev).0 es

abbrev pub LogCaused : Conf → List Entry → Type 0
LogCaused conf log = CausedFrom (opened_world conf) log
