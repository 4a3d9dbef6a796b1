use Rattle.std.proofs.Common.{◌≡◌, ◌-◌, ℕ, List, Some, length, sym, ap, subst, ◌∙◌}
use Rattle.std.specs.Prelude.{Option, slice_get, option_copied}
use Rattle.it_types.specs.declared.entry.Entry.{Entry}
use Rattle.it_types.specs.declared.handler.Handler.{Handler}
use Rattle.spec_script.specs.declared.decl.Decl.{Decl}
use Rattle.spec_node.specs.PlainNode.{PlainNode}
use Rattle.spec_world.specs.Admitted.{is_admitted}
use Rattle.spec_world.specs.History.{world_of}
use Rattle.spec_sim.specs.Schedule.{plan_of, node_0, node_1, node_after, all_sent, clock_of}
use Rattle.w_sim.specs.Playing.{Playing, GoesOn, stepped_play}
use Rattle.w_sim.proofs.Stepping.{not_refused, last_is, numbers_fit, clock_fits, stepped_by_last}
use Rattle.w_sim.proofs.play.Play.step.Goals as goal

pub step_world-requires : goal.step_world-requires
step_world-requires c =
    let p : Playing = record { history = c.self.inside.world; first = c.self.inside.first; second = c.self.inside.second; link = c.self.inside.link } in
    not_refused p c.args.event (subst GoesOn (sym c.self.view_is) c.requires.goes_on) (ap (λ (q : Playing). is_admitted (world_of q.history) c.args.event) c.self.view_is ∙ c.requires.admitted)

pub send_all-requires-clause-numbers : goal.send_all-requires-clause-numbers
send_all-requires-clause-numbers c =
    let p : Playing = record { history = c.self.inside.world; first = c.self.inside.first; second = c.self.inside.second; link = c.self.inside.link } in
    let last : slice_get c.step_world.new.world.log (length c.step_world.new.world.log - 1) ≡ Some c.in-Some.entry.now = ap (λ (l : List Entry). slice_get l (length l - 1)) (sym c.log.ensures.value) ∙ sym c.in-Some.ensures.value in
    let same = last_is p.history c.step_world.new.world c.args.event c.in-Some.entry.now c.in_ok-step_world.ensures last in
    rw (c.packets-sent.ensures, c.as_slice.ensures, same) (numbers_fit p c.args.event (subst GoesOn (sym c.self.view_is) c.requires.goes_on))

pub send_all-requires-clause-clock : goal.send_all-requires-clause-clock
send_all-requires-clause-clock c =
    let p : Playing = record { history = c.self.inside.world; first = c.self.inside.first; second = c.self.inside.second; link = c.self.inside.link } in
    rw (c.now.ensures, c.first_node-first.ensures, c.in_ok-step_world.ensures) (clock_fits p c.args.event (subst GoesOn (sym c.self.view_is) c.requires.goes_on))

pub returns-in_ok-follow-2 : goal.returns-in_ok-follow-2
returns-in_ok-follow-2 c =
    let p : Playing = record { history = c.self.inside.world; first = c.self.inside.first; second = c.self.inside.second; link = c.self.inside.link } in
    let q : Playing = record { history = c.step_world.new.world; first = c.follow.new.self; second = c.follow-in-Some.new.self; link = c.send_all.new.link } in
    let e : Entry = c.in-Some.entry.now in
    let last : slice_get q.history.log (length q.history.log - 1) ≡ Some e = ap (λ (l : List Entry). slice_get l (length l - 1)) (sym c.log.ensures.value) ∙ sym c.in-Some.ensures.value in
    let same = last_is p.history q.history c.args.event e c.in_ok-step_world.ensures last in
    let begun : option_copied c.handler.result ≡ (world_of q.history).nodes.first.begun = c.handler.ensures ∙ ap (λ (n : PlainNode). n.begun) c.first_node-first.ensures in
    let second_begun : option_copied c.handler-in-Some.result ≡ (world_of q.history).nodes.second.begun = c.handler-in-Some.ensures ∙ ap (λ (n : PlainNode). n.begun) c.second_node-second.ensures in
    let first : q.first ≡ node_after node_0 (plan_of c.args.script.now).first e (world_of q.history).nodes.first.begun p.first
    = c.in_ok-follow.ensures ∙ ap (λ (ds : List Decl). node_after node_0 ds e (option_copied c.handler.result) p.first) c.first_decls.ensures ∙ ap (λ (h : Option Handler). node_after node_0 (plan_of c.args.script.now).first e h p.first) begun in
    let second : q.second ≡ node_after node_1 (plan_of c.args.script.now).second e (world_of q.history).nodes.second.begun p.second
    = c.in_ok-follow-2.ensures ∙ ap (λ (ds : List Decl). node_after node_1 ds e (option_copied c.handler-in-Some.result) p.second) c.second_decls.ensures ∙ ap (λ (h : Option Handler). node_after node_1 (plan_of c.args.script.now).second e h p.second) second_begun in
    let clock : c.now.result ≡ clock_of (world_of q.history) = c.now.ensures ∙ ap (λ (n : PlainNode). n.kernel.clock.now) c.first_node-first.ensures in
    let link : q.link ≡ all_sent (length (world_of p.history).packets) e.packs (clock_of (world_of q.history)) p.link
    = c.in_ok-send_all.ensures ∙ ap (λ (ps : List (List ℕ)). all_sent c.packets-sent.result ps c.now.result p.link) c.as_slice.ensures
    ∙ ap (λ (n : ℕ). all_sent n e.packs c.now.result p.link) c.packets-sent.ensures ∙ ap (λ (now : ℕ). all_sent (length (world_of p.history).packets) e.packs now p.link) clock in
    subst (λ (x : Playing). q ≡ stepped_play (plan_of c.args.script.now) x c.args.event) c.self.view_is (stepped_by_last (plan_of c.args.script.now) p q c.args.event e c.in_ok-step_world.ensures same first second link)
