-- The world of a script under way, by its history.
use Rattle.std.specs.Prelude.{◌≡◌, false, length, sum_by}
use Rattle.it_types.specs.declared.event.Event.{Event}
use Rattle.spec_script.specs.declared.script.Script.{Script}
use Rattle.spec_script.specs.Lines.{first_node, second_node}
use Rattle.spec_script.specs.Configuration.{conf_of}
use Rattle.spec_link.specs.Link.{PlainLink}
use Rattle.spec_world.specs.PlainWorld.{step}
use Rattle.spec_world.specs.Sizes.{entry_size, is_full}
use Rattle.spec_world.specs.History.{History, ends_with_stop, opened_history, stepped, world_of}
use Rattle.spec_sim.specs.Bodies.{Interpreters}
use Rattle.spec_sim.specs.Schedule.{Plan, PlainPlay, node_0, node_1, all_sent, clock_of, link_asked, link_opened, node_after, node_asked, node_opened}

pub record Playing : Type 0 where
  pub history : History
  pub first : Interpreters  -- of node 0
  pub second : Interpreters  -- of node 1
  pub link : PlainLink

abbrev pub play_of : Playing → PlainPlay
play_of p = record {
  world = world_of p.history;
  first = p.first;
  second = p.second;
  link = p.link;
  size = sum_by entry_size p.history.log;
}

-- before the first event of a script
abbrev pub opened_play : Script → Playing
opened_play s = record {
  history = opened_history (conf_of s);
  first = node_opened node_0 (first_node s).decls;
  second = node_opened node_1 (second_node s).decls;
  link = link_opened s;
}

-- where one part has come up to the event
abbrev pub asked_play : Playing → Event → Playing
asked_play p event = record p {
  first = node_asked node_0 event p.first;
  second = node_asked node_1 event p.second;
  link = link_asked event (clock_of (world_of p.history)) p.link;
}

-- after the event, of which a part has come up to it, with the one entry more that the machine gives
abbrev pub stepped_play : Plan → Playing → Event → Playing
stepped_play plan p event = let stepped_world = step (world_of p.history) event in record {
  history = stepped p.history event;
  first = node_after node_0 plan.first stepped_world.1 stepped_world.0.nodes.first.begun p.first;
  second = node_after node_1 plan.second stepped_world.1 stepped_world.0.nodes.second.begun p.second;
  link = all_sent (length (world_of p.history).packets) stepped_world.1.packs (clock_of stepped_world.0) p.link;
}

-- after an event
abbrev pub moved : Plan → Playing → Event → Playing
moved plan p event = stepped_play plan (asked_play p event) event

-- the history has room for an entry more
pub record GoesOn (p : Playing) : Type 0 where
  pub lives : p.history.ended ≡ false
  pub going : ends_with_stop p.history.log ≡ false
  pub room : is_full p.history.log ≡ false
