-- The loop over the events of a script.
use Rattle.std.proofs.Common.{◌≡◌, ℕ, ◌+◌, ◌-◌, ◌<◌, Bool, true, false, not, List, [], ◌∷◌, ◌++◌, length, refl, sym, ap, subst, ◌∙◌, inl, inr, arith}
use Rattle.std.proofs.Math.Bool.{not-not}
use mathlib.Core.Logic.{◌⊎◌}
use Rattle.std.proofs.lemmas.List.{append-nil, length-append}
use Rattle.it_types.specs.declared.event.Event.{Event}
use Rattle.it_types.specs.declared.entry.Entry.{Entry}
use Rattle.spec_script.specs.declared.script.Script.{Script}
use Rattle.spec_script.specs.Configuration.{conf_of}
use Rattle.spec_world.specs.PlainWorld.{step}
use Rattle.spec_world.specs.Admitted.{is_admitted}
use Rattle.spec_world.specs.Sizes.{entry_limit, is_full}
use Rattle.spec_world.specs.History.{is_stop, ends_with_stop, world_of}
use Rattle.spec_world.proofs.Events.{step-ev}
use Rattle.spec_world.proofs.Appending.{stops_more}
use Rattle.spec_world.proofs.Room.{room_short}
use Rattle.spec_sim.specs.Schedule.{Plan, PlainPlay, AreSent, plan_of, next, after}
use Rattle.spec_sim.specs.Serial.{run, serial}
use Rattle.spec_sim.proofs.Sent.{after_sent}
use Rattle.spec_sim.proofs.Turns.{next_admitted}
use Rattle.spec_sim.proofs.Underway.{rest, one_more, full_whole, after-entry}
use Rattle.w_sim.specs.Playing.{Playing, GoesOn, moved, opened_play, play_of}
use Rattle.w_sim.proofs.Stepping.{moved_play}

-- each delivery that is left is of a packet that was sent
abbrev pub IsSent : PlainPlay → Type 0
IsSent p = AreSent (length p.world.packets) p.link

-- the history so far is the beginning of the script's, and goes on by the schedule, or has come to the stop
pub record IsSoFar (s : Script) (going : Bool) (p : Playing) : Type 0 where
  pub conf : p.history.conf ≡ conf_of s
  pub lives : p.history.ended ≡ false
  pub ends : ends_with_stop p.history.log ≡ not going
  pub sent : IsSent (play_of p)
  pub whole : p.history.log ++ rest going (entry_limit - length p.history.log) (plan_of s) (play_of p) ≡ serial s

pub begins : (s : Script) (p : Playing) → p ≡ opened_play s → IsSoFar s true p
begins s p e = rw e (record { conf = refl; lives = refl; ends = refl; sent = tt; whole = refl })

pub goes_on : (s : Script) (p : Playing) → IsSoFar s true p → is_full p.history.log ≡ false → GoesOn p
goes_on s p h room = record { lives = h.lives; going = h.ends; room = room }

pub admits : (s : Script) (p : Playing) (event : Event) → IsSoFar s true p → event ≡ next (plan_of s) (play_of p) → is_admitted (world_of p.history) event ≡ true
admits s p event h e = ap (is_admitted (world_of p.history)) e ∙ next_admitted (plan_of s) (play_of p) h.sent

sent_more : (plan : Plan) (p : Playing) (event : Event) → IsSent (play_of p) → IsSent (play_of (moved plan p event))
sent_more plan p event sent = subst IsSent (sym (moved_play plan p event)) (after_sent plan (play_of p) event sent)

-- the history with the entry of the next event
whole_more : (whole : List Entry) (plan : Plan) (p : Playing) (event : Event)
    → is_full p.history.log ≡ false
    → event ≡ next plan (play_of p)
    → p.history.log ++ run (entry_limit - length p.history.log) plan (play_of p) ≡ whole
    → (moved plan p event).history.log ++ rest (not (is_stop event)) (entry_limit - length (moved plan p event).history.log) plan (play_of (moved plan p event)) ≡ whole
whole_more whole plan p event room e so_far =
    let log : List Entry = p.history.log in
    let one : Entry = (step (world_of p.history) event).1 in
    let q : PlainPlay = (after plan (play_of p) event).0 in
    let left : length (log ++ one ∷ []) ≡ length log + 1 = length-append log (one ∷ []) in
    ap (λ (r : PlainPlay). (log ++ one ∷ []) ++ rest (not (is_stop event)) (entry_limit - length (log ++ one ∷ [])) plan r) (moved_play plan p event)
    ∙ ap (λ (n : ℕ). (log ++ one ∷ []) ++ rest (not (is_stop event)) (entry_limit - n) plan q) left
    ∙ ap (λ (x : Entry). (log ++ x ∷ []) ++ rest (not (is_stop event)) (entry_limit - (length log + 1)) plan q) (sym (after-entry plan (play_of p) event))
    ∙ ap (λ (v : Event). (log ++ (after plan (play_of p) v).1 ∷ []) ++ rest (not (is_stop v)) (entry_limit - (length log + 1)) plan (after plan (play_of p) v).0) e
    ∙ one_more whole log plan (play_of p) room refl so_far

pub steps : (s : Script) (p q : Playing) (event : Event)
    → IsSoFar s true p
    → is_full p.history.log ≡ false
    → event ≡ next (plan_of s) (play_of p)
    → q ≡ moved (plan_of s) p event
    → IsSoFar s (not (is_stop event)) q
steps s p q event h room e to = rw to (record {
  conf = h.conf;
  lives = h.lives;
  ends = stops_more p.history.log (step (world_of p.history) event).1 ∙ ap is_stop (step-ev (world_of p.history) event) ∙ sym (not-not (is_stop event));
  sent = sent_more (plan_of s) p event h.sent;
  whole = whole_more (serial s) (plan_of s) p event room e h.whole;
})

-- the loop's end
pub ended : (s : Script) (going : Bool) (p : Playing) → IsSoFar s going p → (going ≡ false) ⊎ (is_full p.history.log ≡ true) → p.history.log ≡ serial s
ended s false p h over = sym (append-nil p.history.log) ∙ h.whole
ended s true p h (inl f) = absurd cc
ended s true p h (inr full) = full_whole (serial s) p.history.log (plan_of s) (play_of p) full refl h.whole

-- fewer entries are left
pub comes_closer : (plan : Plan) (p q : Playing) (event : Event) → is_full p.history.log ≡ false → q ≡ moved plan p event → entry_limit - length q.history.log < entry_limit - length p.history.log
comes_closer plan p q event room to = rw to (omega (arith, room_short p.history.log room, length-append p.history.log ((step (world_of p.history) event).1 ∷ [])))
