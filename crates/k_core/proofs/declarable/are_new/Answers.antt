use Rattle.std.proofs.Common.{ap, sym, ◌∙◌, arith}
use Rattle.k_core.proofs.NewIds.{goes_on, stops_again, stops_out_of_range}
use Rattle.k_core.proofs.declarable.are_new.Goals as goal
use Rattle.k_core.proofs.declarable.are_new.Goals.{then-is_wrong_id-via-then-is_wrong_id, then-is_wrong_id-via-else-is_wrong_id+then-has_id}

pub returns-then-is_wrong_id : goal.returns-then-is_wrong_id
returns-then-is_wrong_id g c =
    let id_of = g.D.Declaration.id_of in
    let is = ap id_of (sym c.index-decls-i.is) ∙ sym c.id-id.ensures in
    elim c.then-is_wrong_id.branch [
      | then-is_wrong_id-via-then-is_wrong_id w ↦
          sym (sym c.loop-i.invariant ∙ stops_out_of_range c.args.greatest id_of (λ d. d) c.args.decls.now c.loop-i.i c.id-id.result _ (omega arith) is (sym w.if-is_wrong_id.ensures))
      | then-is_wrong_id-via-else-is_wrong_id+then-has_id w ↦
          sym (sym c.loop-i.invariant ∙ stops_again c.args.greatest id_of (λ d. d) c.args.decls.now c.loop-i.i c.id-id.result _ (omega arith) is (sym w.if-has_id.ensures))
    ]

pub loop-i-preserved : goal.loop-i-preserved
loop-i-preserved g c =
    let id_of = g.D.Declaration.id_of in
    let is = ap id_of (sym c.index-decls-i.is) ∙ sym c.id-id.ensures in
    goes_on c.args.greatest id_of (λ d. d) c.args.decls.now c.loop-i.i c.id-id.result _ (omega arith) is (sym c.if-is_wrong_id.ensures) (sym c.if-has_id.ensures)
    ∙ c.loop-i.invariant
