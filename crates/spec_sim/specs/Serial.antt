-- The history of a script: the events of the schedule, up to the stop or until it is full. It is this project's own.
use Rattle.std.specs.Prelude.{ℕ, zero, suc, Bool, true, false, List, [], ◌∷◌, nat_le}
use Rattle.it_types.specs.declared.event.Event.{Event}
use Rattle.it_types.specs.declared.entry.Entry.{Entry}
use Rattle.spec_script.specs.declared.script.Script.{Script}
use Rattle.spec_world.specs.Sizes.{entry_limit, size_limit}
use Rattle.spec_world.specs.History.{is_stop}
use Rattle.spec_sim.specs.Schedule.{Plan, PlainPlay, next, after, plan_of, opening}

-- the history has as much data as fits
abbrev pub is_large : PlainPlay → Bool
is_large p = nat_le size_limit p.size

-- the entry of an event, and those that follow it: none after the stop
abbrev pub with_rest : (PlainPlay → List Entry) → Event → PlainPlay × Entry → List Entry
with_rest go_on event stepped = stepped.1 ∷ elim (is_stop event) [ true ↦ [] | false ↦ go_on stepped.0 ]

-- the history from here, with room for so many entries
unfoldable pub run : ℕ → Plan → PlainPlay → List Entry
run zero plan p = []
run (suc n) plan p = elim (is_large p) [ true ↦ [] | false ↦ with_rest (run n plan) (next plan p) (after plan p (next plan p)) ]

-- the history of a script
abbrev pub serial : Script → List Entry
serial s = run entry_limit (plan_of s) (opening s)
