use Rattle.std.proofs.Common.{◌∙◌, sym}
use Rattle.net_seg.specs.Shown.{shown_options}
use Rattle.net_seg.proofs.OptionSteps.{ends_here, past_kind, past_padding, wrong_here, wrong_kind}
use Rattle.net_seg.proofs.options.read_options.Goals as goal

pub returns-in-Ends : goal.returns-in-Ends
returns-in-Ends c = sym (ends_here c.loop-rest.left.now (shown_options c.loop-rest.options) (sym c.in-Ends.ensures)) ∙ c.loop-rest.invariant.so_far

pub loop-rest-preserved-in-Padding : goal.loop-rest-preserved-in-Padding
loop-rest-preserved-in-Padding c = record {
  so_far = past_padding c.loop-rest.left.now c.in-Padding.rest.now (shown_options c.loop-rest.options) (sym c.in-Padding.ensures) ∙ c.loop-rest.invariant.so_far;
}

pub returns-in_err-options-in-OfKind : goal.returns-in_err-options-in-OfKind
returns-in_err-options-in-OfKind c =
    let wrong = wrong_kind c.loop-rest.left.now c.in-OfKind.kind c.in-OfKind.body.now c.in-OfKind.rest.now (shown_options c.loop-rest.options) (sym c.in-OfKind.ensures) (sym c.in_err-options-in-OfKind.ensures) in
    rw c.from_residual.ensures (sym wrong ∙ c.loop-rest.invariant.so_far)

pub loop-rest-preserved : goal.loop-rest-preserved
loop-rest-preserved c = record {
  so_far =
      past_kind c.loop-rest.left.now c.in-OfKind.kind c.in-OfKind.body.now c.in-OfKind.rest.now (shown_options c.loop-rest.options) (shown_options c.in_ok-options-in-OfKind.options)
      (sym c.in-OfKind.ensures) (sym c.in_ok-options-in-OfKind.ensures)
      ∙ c.loop-rest.invariant.so_far;
}

pub returns-in-Wrong : goal.returns-in-Wrong
returns-in-Wrong c = sym (wrong_here c.loop-rest.left.now (shown_options c.loop-rest.options) (sym c.in-Wrong.ensures)) ∙ c.loop-rest.invariant.so_far
