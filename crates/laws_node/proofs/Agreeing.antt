-- Over every list of events both parts of a node with handlers agree, and its calls stand in order.
use Rattle.std.proofs.Common.{◌≡◌, ◌≢◌, ℕ, Bool, ◌+◌, ◌≤◌, true, false, List, [], ◌∷◌, refl, sym, ap, ◌∙◌, arith}
use Rattle.std.specs.Prelude.{◌==◌}
use Rattle.std.specs.Bool.{beq}
use Rattle.std.specs.List.{AllByRecursion}
use Rattle.std.proofs.lemmas.Bool.{eq-eqb, ne_eqb, and_from, and_left, and_right}
use Rattle.it_types.specs.declared.id.ObjId.{ObjId}
use Rattle.it_types.specs.declared.id.CepId.{CepId}
use Rattle.it_types.specs.declared.conf.KConf.{KConf}
use Rattle.spec_lists.specs.Counting.{one_if}
use Rattle.spec_kernel.specs.Opening.{IsDeclarable}
use Rattle.spec_pend.specs.declared.slot.Slot.{Slot}
use Rattle.spec_pend.specs.declared.call.NetCall.{NetCall}
use Rattle.spec_pend.specs.Slots.{part_number, is_at, has_slot}
use Rattle.spec_pend.specs.Kept.{EachBefore, IsBelow, AreApart, Rise, PendKept}
use Rattle.spec_pend.proofs.Found.{all_more}
use Rattle.spec_node.specs.declared.event.NodeEv.{NodeEv}
use Rattle.spec_node.specs.PlainNode.{PlainNode, opened_node}
use Rattle.spec_node.specs.NodeStep.{node_step}
use Rattle.spec_node.specs.Admitted.{is_admitted}
use Rattle.laws_kernel.proofs.Numbers.{opened_numbered}
use Rattle.laws_node.specs.Agreement.{times, PartsAgree}
use Rattle.laws_node.proofs.Rising.{AllAbove, AllBelow, Rises}
use Rattle.laws_node.specs.Taken.{taken, Along}
use Rattle.laws_node.specs.EndPoints.{IsReceive}
use Rattle.laws_node.proofs.NetMoves.{call_number}
use Rattle.laws_node.proofs.Alike.{all_none}
use Rattle.laws_node.proofs.KeepingRows.{only_receives, at_most_one}
use Rattle.laws_node.proofs.Along.{Holds, step_holds, opening_holds}
use Rattle.laws_node.proofs.Numbered.{NodeNumbers, step_numbers}
use Rattle.laws_node.proofs.Rest.{Rests, step_rests, opening_rests}

-- ---- the calls stand in order

rise : (cs : List NetCall) → Rises call_number cs → Rise cs
rise [] h = tt
rise (c ∷ cs) h = (above cs h.0, rise cs h.1)
  where
    above : (ds : List NetCall) → AllAbove call_number c.call.0 ds → AllByRecursion (λ d. IsBelow c d) ds
    above [] g = tt
    above (d ∷ ds) g = (g.0, above ds g.1)

highest : (last : ℕ) (cs : List NetCall) → AllBelow call_number (last + 1) cs → AllByRecursion (λ c. c.call.0 ≤ last) cs
highest last [] h = tt
highest last (c ∷ cs) h = (omega (arith, h.0), highest last cs h.1)

receive_udp : (c : NetCall) → IsReceive c → c.slot.udp ≡ true
receive_udp c e = ap (λ (slot : Slot). slot.udp) e

at_its_own : (c : NetCall) → IsReceive c → is_at true c.slot.cep c ≡ true
at_its_own c e = and_from (beq c.slot.udp true) (c.slot.cep.0 == c.slot.cep.0) (ap (λ b. beq b true) (receive_udp c e)) (eq-eqb c.slot.cep.0 c.slot.cep.0 refl)

-- receives of which at most one waits at each end point wait at different parts
apart : (cs : List NetCall) → AllByRecursion IsReceive cs → ((cep : CepId) → times (is_at true cep) cs ≤ 1) → EachBefore AreApart cs
apart [] h one = tt
apart (c ∷ cs) h one = (all_more (λ d. IsReceive d × (is_at true c.slot.cep d ≡ false)) (AreApart c) cs other (all_none IsReceive (is_at true c.slot.cep) cs none h.1), apart cs h.1 (λ cep. omega (arith, one cep)))
  where
    none : times (is_at true c.slot.cep) cs ≡ 0
    none = omega (arith, one c.slot.cep, ap one_if (at_its_own c h.0))

    elsewhere : (d : NetCall) → IsReceive d → is_at true c.slot.cep d ≡ false → c.slot.cep.0 ≢ d.slot.cep.0
    elsewhere d receive e same = absurd (
        let f : true ≡ false = sym (and_from (beq d.slot.udp true) (d.slot.cep.0 == c.slot.cep.0) (ap (λ b. beq b true) (receive_udp d receive)) (eq-eqb d.slot.cep.0 c.slot.cep.0 (sym same))) ∙ e in
        cc
        )

    other : (d : NetCall) → IsReceive d × (is_at true c.slot.cep d ≡ false) → has_slot d.slot c ≡ false
    other d g = and_left (is_at d.slot.udp d.slot.cep c) (part_number c.slot.part == part_number d.slot.part)
        (and_right (beq c.slot.udp d.slot.udp) (c.slot.cep.0 == d.slot.cep.0) (ne_eqb c.slot.cep.0 d.slot.cep.0 (elsewhere d g.0 g.1)))

-- ---- what is kept from event to event

pub record Good (n : PlainNode) : Type 0 where
  pub holds : Holds n
  pub rests : Rests n
  pub numbers : NodeNumbers n

calls_kept : (n : PlainNode) → Good n → PendKept n.net.pend
calls_kept n g = record {
  rise = rise n.net.pend.calls g.holds.sound.rises;
  highest = highest n.net.pend.last n.net.pend.calls g.holds.sound.below;
  apart = apart n.net.pend.calls (only_receives n.net g.rests.net) (at_most_one n.net g.rests.net);
  ceps = g.rests.net.kept.ceps;
}

pub agree : (n : PlainNode) → Good n → PartsAgree n
agree n g = record {
  same = g.holds.sound.same;
  in_order = calls_kept n g;
  drawn = g.holds.sound.drawn;
  numbers = g.numbers.once;
  standing = g.holds.sound.stands;
  holders = g.holds.free;
}

-- each admitted event keeps it
pub step_good : (n : PlainNode) (event : NodeEv) → is_admitted n event ≡ true → Good n → Good (node_step n event).0
step_good n event e g = record { holds = step_holds n event e g.holds; rests = step_rests n event g.rests; numbers = step_numbers n event e g.holds g.numbers }

taken_good : (n : PlainNode) (event : NodeEv) → Good n → Good (taken n event)
taken_good n event g = go (is_admitted n event) (λ e. step_good n event e g)
  where
    go : (b : Bool) → (b ≡ true → Good (node_step n event).0) → Good (elim b [ true ↦ (node_step n event).0 | false ↦ n ])
    go true stepped = stepped refl
    go false stepped = g

-- what follows from it holds before and after each event
pub good_along : (P : PlainNode → Type 0) → ((n : PlainNode) → Good n → P n) → (n : PlainNode) (es : List NodeEv) → Good n → Along P n es
good_along P follows n [] g = follows n g
good_along P follows n (e ∷ es) g = (follows n g, good_along P follows (taken n e) es (taken_good n e g))

pub opening_good : (conf : KConf) (addr : ℕ) (routines : List ObjId) → IsDeclarable conf → Good (opened_node conf addr routines)
opening_good conf addr routines can = record { holds = opening_holds conf addr routines can; rests = opening_rests conf addr routines; numbers = record { once = λ number. omega arith; numbered = opened_numbered conf } }

pub agree_from_opening : (conf : KConf) (addr : ℕ) (routines : List ObjId) (es : List NodeEv) → IsDeclarable conf → Along PartsAgree (opened_node conf addr routines) es
agree_from_opening conf addr routines es can = good_along PartsAgree agree (opened_node conf addr routines) es (opening_good conf addr routines can)
