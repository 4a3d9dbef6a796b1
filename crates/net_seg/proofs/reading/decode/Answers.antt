use Rattle.std.proofs.Common.{◌≡◌, ◌∙◌, refl, Some}
use Rattle.spec_wire.specs.Segment.{refusal}
use Rattle.spec_wire.proofs.SegmentTests.{reads_fields, reads_once, reads_unrefused}
use Rattle.net_seg.specs.Shown.{shown_options}
use Rattle.net_seg.proofs.reading.decode.Goals as goal

pub segment-requires-clause-header : goal.segment-requires-clause-header
segment-requires-clause-header c =
    (reads_fields c.args.src c.args.dst c.args.bytes.now (shown_options c.in-Ok.options) c.in-Ok.ensures.passed.0 c.in-Ok.ensures.passed.1).header

pub segment-requires-clause-whole : goal.segment-requires-clause-whole
segment-requires-clause-whole c =
    (reads_fields c.args.src c.args.dst c.args.bytes.now (shown_options c.in-Ok.options) c.in-Ok.ensures.passed.0 c.in-Ok.ensures.passed.1).whole

pub returns-in-Ok-clause-read : goal.returns-in-Ok-clause-read
returns-in-Ok-clause-read c =
    rw c.segment.ensures
    (reads_fields c.args.src c.args.dst c.args.bytes.now (shown_options c.in-Ok.options) c.in-Ok.ensures.passed.0 c.in-Ok.ensures.passed.1)

pub returns-in-Ok-clause-only : goal.returns-in-Ok-clause-only
returns-in-Ok-clause-only c v reads =
    let read = reads_fields c.args.src c.args.dst c.args.bytes.now (shown_options c.in-Ok.options) c.in-Ok.ensures.passed.0 c.in-Ok.ensures.passed.1 in
    c.segment.ensures ∙ reads_once c.args.src c.args.dst c.args.bytes.now _ v read reads

pub returns-in-Err-clause-only : goal.returns-in-Err-clause-only
returns-in-Err-clause-only c v reads =
    let refused : refusal c.args.src c.args.dst c.args.bytes.now ≡ Some c.in-Err.why = (c.in-Err.ensures.refused c.in-Err.why).0 refl in
    cc (reads_unrefused c.args.src c.args.dst c.args.bytes.now v reads, refused)

pub returns-in-Err-clause-refused : goal.returns-in-Err-clause-refused
returns-in-Err-clause-refused c why =
    let refused : refusal c.args.src c.args.dst c.args.bytes.now ≡ Some c.in-Err.why = (c.in-Err.ensures.refused c.in-Err.why).0 refl in
    (λ is. cc (refused, is), λ is. cc (refused, is))
