use Rattle.std.proofs.Common.{◌≡◌, ◌+◌, ◌++◌, [], ◌∷◌, Some, length, sym, ap, ◌∙◌, arith}
use Rattle.std.proofs.lemmas.List.{length-append, append_assoc, append-nil}
use Rattle.spec_kernel.specs.Parts.{PlainParts}
use Rattle.k_core.specs.Found.{paired}
use Rattle.k_core.specs.PartsSettle.{next_call, freed_from, freed_call, end_told, settle}
use Rattle.k_core.proofs.Turning.{settle_none, settle_turn}
use Rattle.k_core.proofs.parts.Parts.settle.Goals as goal

pub loop-wait-preserved : goal.loop-wait-preserved
loop-wait-preserved c =
    let w = c.in-Some.wait in
    let p = c.loop-wait.self in
    let ws = c.take_next.new.self.waits in
    let e : next_call p ≡ Some (w, ws) = c.take_next.ensures.call ∙ ap (λ r. paired r ws) c.in-Some.is in
    let fewer : length ws + 1 ≡ length p.waits = c.take_next.ensures.fewer w c.in-Some.is in
    let turn = settle_turn p w ws e fewer in
    let same : c.end-end.new.self ≡ freed_call p w ws = c.end-end.ensures.parts ∙ ap (λ (q : PlainParts). freed_from q w) c.take_next.ensures.parts in
    let after = c.end-end.new.self in
    let before = c.loop-wait.done.ends.items in
    let rest = ap (λ (q : PlainParts). settle (length q.waits) q) same in
    let told : c.end-end.result ≡ end_told p w = c.end-end.ensures.end ∙ ap (λ (q : PlainParts). end_told q w) c.take_next.ensures.parts in
    record {
      parts = ap (λ s. s.0) rest ∙ sym (ap (λ s. s.0) turn) ∙ c.loop-wait.invariant.parts;
      ends = ap (λ es. es ++ (settle (length after.waits) after).1) c.push.ensures.items
          ∙ append_assoc before (c.end-end.result ∷ []) (settle (length after.waits) after).1
          ∙ ap (λ e. before ++ e ∷ (settle (length after.waits) after).1) told
          ∙ ap (λ es. before ++ end_told p w ∷ es) (ap (λ s. s.1) rest)
          ∙ ap (λ es. before ++ es) (sym (ap (λ s. s.1) turn))
          ∙ c.loop-wait.invariant.ends;
      room = rw (c.push.ensures.items, length-append) (omega (arith, c.loop-wait.invariant.room, fewer, ap (λ (q : PlainParts). length q.waits) same));
      answer = c.loop-wait.invariant.answer;
      gone = c.loop-wait.invariant.gone;
      begun = c.loop-wait.invariant.begun;
    }

pub returns-clause-parts : goal.returns-clause-parts
returns-clause-parts c =
    let none = settle_none (length c.loop-wait.self.waits) c.loop-wait.self (c.take_next.ensures.call ∙ ap (λ r. paired r c.take_next.new.self.waits) c.in_default.is) in
    c.take_next.ensures.none c.in_default.is ∙ sym (ap (λ s. s.0) none) ∙ c.loop-wait.invariant.parts

pub returns-clause-ends : goal.returns-clause-ends
returns-clause-ends c =
    let none = settle_none (length c.loop-wait.self.waits) c.loop-wait.self (c.take_next.ensures.call ∙ ap (λ r. paired r c.take_next.new.self.waits) c.in_default.is) in
    sym (append-nil c.loop-wait.done.ends.items) ∙ ap (λ es. c.loop-wait.done.ends.items ++ es) (sym (ap (λ s. s.1) none)) ∙ c.loop-wait.invariant.ends
