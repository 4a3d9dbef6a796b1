use Rattle.std.proofs.Common.{◌+◌, arith}
use Rattle.it_io.proofs.Taken.{took_rest, took_some}
use Rattle.it_io.proofs.reading.read_all.Goals as goal

pub returns-in_err-read_piece-clause-too_big : goal.returns-in_err-read_piece-clause-too_big
returns-in_err-read_piece-clause-too_big g c =
    λ e.
    let same = rw e at c.from_residual.ensures.1 in
    took_rest _ _ _ _ (c.args.limit + 1) c.loop-all.invariant.taken (omega (arith, c.loop-all.invariant.within)) (c.in_err-read_piece.ensures.too_big (cc same))

pub returns-in_err-read_piece-clause-no_memory : goal.returns-in_err-read_piece-clause-no_memory
returns-in_err-read_piece-clause-no_memory g c =
    λ e.
    let same = rw e at c.from_residual.ensures.1 in
    took_some _ _ _ _ c.args.limit c.loop-all.invariant.taken c.loop-all.invariant.within (c.in_err-read_piece.ensures.no_memory (cc same))

pub returns-in_err-read_piece-clause-fault_within : goal.returns-in_err-read_piece-clause-fault_within
returns-in_err-read_piece-clause-fault_within g c =
    λ e.
    let same = rw e at c.from_residual.ensures.1 in
    took_some _ _ _ _ c.args.limit c.loop-all.invariant.taken c.loop-all.invariant.within (c.in_err-read_piece.ensures.fault_within (cc same))
