use Rattle.spec_tcp.specs.Acts.{done}
use Rattle.laws_tcp.proofs.Sides.{kept_after}
use Rattle.laws_tcp.proofs.Acting.{goes_done}
use Rattle.laws_tcp.proofs.Reached.{reached_kept}
use Rattle.laws_tcp.proofs.Segments.{emission_committed, parts_out}
use Rattle.laws_tcp.proofs.sending.what_goes_out_was_committed.Goals as goal

pub returns-clause-parts : goal.returns-clause-parts
returns-clause-parts c at act now reached may sends =
    parts_out (done act at now) (kept_after at (done act at now) (goes_done act at now may (reached_kept at reached))) sends

pub returns-clause-segments : goal.returns-clause-segments
returns-clause-segments c at act now reached may =
    emission_committed (done act at now) (kept_after at (done act at now) (goes_done act at now may (reached_kept at reached)))
