use Rattle.std.proofs.Common.{refl, arith}
use Rattle.n_node.proofs.Timing.{at_start, goes_on, is_done, fewer_wait}
use Rattle.n_node.proofs.parts.Parts.end_past.Goals as goal

pub loop-end-init : goal.loop-end-init
loop-end-init c = record { ends = at_start c.args.self.now c.args.told.now; rest = c.requires }

pub loop-end-smaller : goal.loop-end-smaller
loop-end-smaller c =
    omega (arith, fewer_wait c.loop-end.self (record c.loop-end.self { kernel = c.due.new.self }) c.take_kernel_end.new.self c.loop-end.told c.take_kernel_end.new.told c.in-Some.end (c.in-Some.ensures.some c.in-Some.end refl) c.in_ok-take_kernel_end.ensures.moves)

pub loop-end-preserved : goal.loop-end-preserved
loop-end-preserved c = record {
  ends =
      goes_on c.args.self.now c.loop-end.self (record c.loop-end.self { kernel = c.due.new.self }) c.take_kernel_end.new.self c.args.told.now c.loop-end.told c.take_kernel_end.new.told c.in-Some.end c.loop-end.invariant.ends
      (c.in-Some.ensures.some c.in-Some.end refl) refl c.in_ok-take_kernel_end.ensures.moves;
  rest = c.in_ok-take_kernel_end.ensures.rest;
}

pub returns : goal.returns
returns c =
    let none = c.due.ensures.none c.in_default.is in is_done c.args.self.now c.loop-end.self c.args.told.now c.loop-end.told c.due.new.self c.loop-end.invariant.ends none.0 none.1
