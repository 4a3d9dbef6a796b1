-- What a world keeps: its configuration can be opened, its history is a run, and while it goes on, its nodes and packets are those after
-- the history.
use Rattle.std.specs.Prelude.{◌≡◌, ℕ, All, Bool, false, List, length, sum_by}
use Rattle.it_types.specs.declared.entry.Entry.{Entry}
use Rattle.it_types.specs.declared.node_conf.Conf.{Conf}
use Rattle.spec_world.specs.PlainWorld.{Nodes, opened_world}
use Rattle.spec_world.specs.Sizes.{entry_size}
use Rattle.spec_world.specs.History.{after, IsRun}
use Rattle.laws_world.specs.Taken.{CanOpen}
use Rattle.w_world.specs.declared.sent.Sent.{Sent}
use Rattle.w_world.specs.Capped.{capped}
use Rattle.w_world.specs.Sending.{world_in, IsWithin}

-- while the world goes on
pub record GoesOn (conf : Conf) (nodes : Nodes) (log : List Entry) (sent : List Sent) : Type 0 where
  pub state : world_in nodes log sent ≡ after (opened_world conf) log
  pub places : All (IsWithin log) sent

pub record Kept (conf : Conf) (nodes : Nodes) (log : List Entry) (sent : List Sent) (packets : ℕ) (size : ℕ) (ended : Bool) : Type 0 where
  pub opens : CanOpen conf
  pub run : IsRun conf log
  pub count : packets ≡ length (after (opened_world conf) log).packets
  pub bytes : size ≡ capped (sum_by entry_size log)
  pub goes_on : ended ≡ false → GoesOn conf nodes log sent
