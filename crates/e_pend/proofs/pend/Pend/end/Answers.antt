use Rattle.std.proofs.Common.{◌≡◌, Some, None, subst}
use Rattle.spec_lists.specs.First.{take_first}
use Rattle.spec_lists.proofs.Places.{searched_none}
use Rattle.spec_pend.specs.Kept.{PendKept}
use Rattle.spec_pend.specs.Slots.{has_number}
use Rattle.spec_pend.proofs.Ending.{ended_gone, nobody_told}
use Rattle.spec_pend.proofs.Keeping.{found_kept}
use Rattle.e_pend.proofs.Searches.{none_ended, one_ended, taken}
use Rattle.e_pend.proofs.pend.Pend.end.Goals as goal

first : (c : goal.After-remove) → take_first (has_number c.args.no) c.self.inside.calls.items ≡ Some (c.call_at-call.result, c.remove.new.self.items)
first c =
    taken (has_number c.args.no) c.as_slice.result.now c.as_slice-in-Some.result.now c.self.inside.calls.items c.place_of.result c.in-Some.place c.call_at-call.result c.remove.new.self.items c.as_slice.ensures.value c.as_slice-in-Some.ensures.value
    c.place_of.ensures c.in-Some.is c.call_at-call.ensures c.remove.ensures.items

pub invariant_of-self-in-Some : goal.invariant_of-self-in-Some
invariant_of-self-in-Some c = found_kept c.self.inside.last (has_number c.args.no) c.self.inside.calls.items (c.call_at-call.result, c.remove.new.self.items) (first c) c.self.invariant

pub returns-in_ok-tell-in-Some-clause-ended : goal.returns-in_ok-tell-in-Some-clause-ended
returns-in_ok-tell-in-Some-clause-ended c =
    one_ended (record { last = c.self.inside.last; calls = c.self.inside.calls.items; due = c.self.inside.due.items }) c.args.self.now c.self.view_is c.args.no c.args.code c.args.bytes.now c.call_at-call.result c.remove.new.self.items c.tell.new.due.items (first c) c.in_ok-tell-in-Some.ensures.ok

pub returns-in_ok-tell-in-Some-clause-none : goal.returns-in_ok-tell-in-Some-clause-none
returns-in_ok-tell-in-Some-clause-none c = nobody_told c.args.self.now _ c.args.no c.args.code c.args.bytes.now _ (returns-in_ok-tell-in-Some-clause-ended c)

pub returns-in_ok-tell-in-Some-clause-gone : goal.returns-in_ok-tell-in-Some-clause-gone
returns-in_ok-tell-in-Some-clause-gone c = ended_gone c.args.self.now _ c.args.no c.args.code c.args.bytes.now _ (returns-in_ok-tell-in-Some-clause-ended c) (subst PendKept c.self.view_is c.self.invariant)

pub returns-in-None-clause-ended : goal.returns-in-None-clause-ended
returns-in-None-clause-ended c =
    none_ended (record { last = c.self.inside.last; calls = c.self.inside.calls.items; due = c.self.inside.due.items }) c.args.self.now c.self.view_is c.args.no c.args.code c.args.bytes.now
    (searched_none (has_number c.args.no) c.as_slice.result.now c.self.inside.calls.items c.place_of.result c.as_slice.ensures.value c.place_of.ensures c.in-None.is)

pub returns-in-None-clause-none : goal.returns-in-None-clause-none
returns-in-None-clause-none c = nobody_told c.args.self.now c.args.self.now c.args.no c.args.code c.args.bytes.now None (returns-in-None-clause-ended c)

pub returns-in-None-clause-gone : goal.returns-in-None-clause-gone
returns-in-None-clause-gone c = ended_gone c.args.self.now c.args.self.now c.args.no c.args.code c.args.bytes.now None (returns-in-None-clause-ended c) (subst PendKept c.self.view_is c.self.invariant)
