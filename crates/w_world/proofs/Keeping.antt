-- What a world keeps, from its opening and in each step.
use Rattle.std.proofs.Common.{◌≡◌, ℕ, ◌+◌, ◌≤◌, Bool, true, false, List, [], ◌∷◌, ◌++◌, length, map, None, ap, sym, ◌∙◌, arith}
use Rattle.std.proofs.lemmas.Bool.{not-false}
use Rattle.std.specs.Prelude.{sum_by}
use Rattle.std.proofs.lemmas.List.{length-append, length-map}
use Rattle.std.proofs.lemmas.List.Sums.{sum_by_push}
use Rattle.it_types.specs.declared.id.NodeId.{NodeId}
use Rattle.it_types.specs.declared.event.Event.{Event}
use Rattle.it_types.specs.declared.entry.Entry.{Entry}
use Rattle.it_types.specs.declared.entry.Out.{Out}
use Rattle.it_types.specs.declared.node_conf.Conf.{Conf}
use Rattle.spec_lists.proofs.Refusing.{none_holds}
use Rattle.spec_world.specs.PlainWorld.{Nodes, Packet, PlainWorld, packet_from, entry_of, step, opened_world}
use Rattle.spec_world.specs.Admitted.{is_admitted}
use Rattle.spec_world.specs.Sizes.{entry_size, is_full}
use Rattle.spec_world.specs.History.{ends_with_stop, after, Follows, IsRun, History, world_of, refusals, refusal, stepped}
use Rattle.spec_world.proofs.Appending.{after_more, runs_more}
use Rattle.spec_world.proofs.Room.{room_short}
use Rattle.laws_world.proofs.Counts.{within_length}
use Rattle.w_world.specs.declared.sent.Sent.{Sent}
use Rattle.w_world.specs.Capped.{capped}
use Rattle.w_world.specs.Room.{HaveRoom}
use Rattle.w_world.specs.Sending.{packet_in, packets_in, world_in, places_from}
use Rattle.w_world.specs.Takes.{Takes}
use Rattle.w_world.specs.Kept.{GoesOn, Kept}
use Rattle.w_world.proofs.Places.{packets_more, places_within}

abbrev pub history : Conf → List Entry → Bool → History
history conf log ended = record { conf = conf; log = log; ended = ended }

-- ---- an event that nothing refuses

pub record IsFree (h : History) (event : Event) : Type 0 where
  pub on : h.ended ≡ false
  pub going : ends_with_stop h.log ≡ false
  pub room : is_full h.log ≡ false
  pub admitted : is_admitted (world_of h) event ≡ true

pub free : (h : History) (event : Event) → refusal h event ≡ None → IsFree h event
free h event e =
    let tests = none_holds (refusals h event) e in
    record { on = tests.0; going = tests.1.0; room = tests.1.1.0; admitted = not-false (is_admitted (world_of h) event) tests.1.1.1.1.0 }

module _ (conf : Conf) (nodes : Nodes) (log : List Entry) (sent : List Sent) (packets size : ℕ) (ended : Bool) (event : Event) (kept : Kept conf nodes log sent packets size ended) (none : refusal (history conf log ended) event ≡ None) where
  is_free : IsFree (history conf log ended) event
  is_free = free (history conf log ended) event none

  on : GoesOn conf nodes log sent
  on = kept.goes_on is_free.on

  -- the node admits it
  pub may_take : is_admitted (world_in nodes log sent) event ≡ true
  may_take = ap (λ w. is_admitted w event) on.state ∙ is_free.admitted

  -- the numbers of the nodes leave room
  pub have_room : HaveRoom nodes
  have_room =
      let within = within_length conf log in
      let short = room_short log is_free.room in
      let same : nodes ≡ (after (opened_world conf) log).nodes = ap (λ (w : PlainWorld). w.nodes) on.state in
      rw same (record {
        first = record { calls = omega (arith, within.first.calls); now = omega (arith, within.first.now); ranks = omega (arith, within.first.ranks) };
        second = record { calls = omega (arith, within.second.calls); now = omega (arith, within.second.now); ranks = omega (arith, within.second.ranks) };
      })

  module _ (nodes_after : Nodes) (by : NodeId) (out : Out) (takes : Takes (world_in nodes log sent) event nodes_after by out) where
    -- what the machine gives
    given : step (after (opened_world conf) log) event ≡ (record { nodes = nodes_after; packets = packets_in log sent ++ map (packet_from by) out.packs }, entry_of event out)
    given = sym (ap (λ w. step w event) on.state) ∙ takes.is

    follows : Follows (after (opened_world conf) log) log (entry_of event out)
    follows = record { going = is_free.going; room = is_free.room; admitted = is_free.admitted; given = ap (λ (r : PlainWorld × Entry). r.1) given }

    run_after : IsRun conf (log ++ entry_of event out ∷ [])
    run_after = runs_more (opened_world conf) [] log (entry_of event out) kept.run follows

    state_after : world_in nodes_after (log ++ entry_of event out ∷ []) (sent ++ places_from by (length log) 0 out.packs) ≡ after (opened_world conf) (log ++ entry_of event out ∷ [])
    state_after =
        ap (λ (ps : List Packet). record { nodes = nodes_after; packets = ps }) (packets_more log (entry_of event out) sent by on.places)
        ∙ sym (ap (λ (r : PlainWorld × Entry). r.0) given)
        ∙ sym (after_more (opened_world conf) log (entry_of event out))

    on_after : GoesOn conf nodes_after (log ++ entry_of event out ∷ []) (sent ++ places_from by (length log) 0 out.packs)
    on_after = record { state = state_after; places = places_within log (entry_of event out) sent by out.packs on.places }

    count_after : (conf : Conf) (nodes_after : Nodes) (log_after : List Entry) (sent_after : List Sent) → GoesOn conf nodes_after log_after sent_after → length sent_after ≡ length (after (opened_world conf) log_after).packets
    count_after conf nodes_after log_after sent_after on = sym (length-map sent_after (packet_in log_after)) ∙ ap (λ (w : PlainWorld). length w.packets) on.state

    bytes_after : (size_after : ℕ) → size_after ≡ capped (size + capped (entry_size (entry_of event out))) → size_after ≡ capped (sum_by entry_size (log ++ entry_of event out ∷ []))
    bytes_after size_after is = omega (arith, is, kept.bytes, sum_by_push entry_size log (entry_of event out))

    -- the world with the entry keeps it too
    pub kept_step : (log_after : List Entry) (sent_after : List Sent) (count size_after : ℕ)
        → log_after ≡ log ++ entry_of event out ∷ []
        → sent_after ≡ sent ++ places_from by (length log) 0 out.packs
        → count ≡ length sent_after
        → size_after ≡ capped (size + capped (entry_size (entry_of event out)))
        → Kept conf nodes_after log_after sent_after count size_after false
    kept_step log_after sent_after count size_after l s n b = rw (l, s) (record {
      opens = kept.opens;
      run = run_after;
      count = n ∙ ap length s ∙ count_after conf nodes_after _ _ on_after;
      bytes = bytes_after size_after b;
      goes_on = λ _. on_after;
    })

    -- there are no more packets than the history can have entries
    pub few_packets : (sent_after : List Sent) → sent_after ≡ sent ++ places_from by (length log) 0 out.packs → length sent_after ≤ 1000000
    few_packets sent_after s =
        omega (arith, ap length s, count_after conf nodes_after _ _ on_after, (within_length conf (log ++ entry_of event out ∷ [])).packets, length-append log (entry_of event out ∷ []), room_short log is_free.room)

    -- it is the history that the machine gives
    pub is_stepped : (log_after : List Entry) → log_after ≡ log ++ entry_of event out ∷ [] → history conf log_after false ≡ stepped (history conf log ended) event
    is_stepped log_after l =
        ap (λ (es : List Entry). history conf es false) (l ∙ ap (λ (r : PlainWorld × Entry). log ++ r.1 ∷ []) (sym given))
        ∙ ap (history conf (log ++ (step (after (opened_world conf) log) event).1 ∷ [])) (sym is_free.on)
