use Rattle.std.proofs.Common.{◌≡◌, ◌∙◌, sym, Some}
use Rattle.spec_wire.specs.Ipv4.{refusal}
use Rattle.spec_wire.proofs.Ipv4Tests.{reads_unrefused}
use Rattle.net_ip4.proofs.reading.decode.Goals as goal

pub returns-in-Some-clause-only : goal.returns-in-Some-clause-only
returns-in-Some-clause-only c v reads =
    let refused : refusal c.args.bytes.now ≡ Some c.in-Some.why = sym c.refusal.ensures ∙ c.in-Some.is in
    cc (reads_unrefused c.args.bytes.now v reads, refused)
