use Rattle.it_io.proofs.Pieces.{Copied, copied_left, copied_none, slice_from}
use Rattle.it_io.proofs.mem_source.MemSourceSource.read.Goals as goal

pub returns-clause-bytes : goal.returns-clause-bytes
returns-clause-bytes c =
    let from = c.deref.ensures.value in
    let slice = slice_from c.self.inside.bytes.items c.self.inside.at in
    let copied : Copied c.self.inside.bytes.items c.args.buf.now c.copy_piece-n.new.to c.self.inside.at c.self.inside.piece c.copy_piece-n.result = record {
      count = rw (from, slice) at c.copy_piece-n.ensures.count;
      after = rw (from, slice) at c.copy_piece-n.ensures.copied;
    } in
    (rw (← c.self.view_is) (copied_left _ _ _ _ _ _ copied), copied_none _ _ _ _ _ _ copied c.self.invariant.1)
