use Rattle.std.proofs.Common.{◌∙◌, ◌+◌, ◌-◌, arith}
use Rattle.s_exec.proofs.PatternBytes.{one_more, no_more}
use Rattle.s_exec.proofs.pattern.pattern_bytes.Goals as goal

pub loop-preserved : goal.loop-preserved
loop-preserved c =
    rw c.in_ok-push.ensures.items (one_more c.loop.bytes.items (c.args.len - c.loop.counter) (c.args.len - (c.loop.counter + 1)) c.loop.byte (omega arith) ∙ c.loop.invariant)

pub returns : goal.returns
returns c = no_more c.loop.bytes.items (c.args.len - c.loop.counter) c.loop.byte (omega arith) ∙ c.loop.invariant
