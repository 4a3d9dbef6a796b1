use Rattle.std.proofs.Common.{◌≡◌, ◌∙◌, sym, Some}
use Rattle.spec_wire.specs.Udp.{refusal}
use Rattle.spec_wire.proofs.UdpTests.{reads_once, reads_otherwise, reads_unrefused}
use Rattle.net_udp.proofs.reading.decode.Goals as goal

pub returns-in-Some-clause-only : goal.returns-in-Some-clause-only
returns-in-Some-clause-only c v reads =
    let refused : refusal c.args.src c.args.dst c.args.bytes.now ≡ Some c.in-Some.why = sym c.refusal.ensures ∙ c.in-Some.is in
    cc (reads_unrefused c.args.src c.args.dst c.args.bytes.now v reads, refused)

pub datagram-requires-clause-header : goal.datagram-requires-clause-header
datagram-requires-clause-header c = (reads_otherwise c.args.src c.args.dst c.args.bytes.now (sym c.refusal.ensures ∙ c.in-None.is)).header

pub datagram-requires-clause-whole : goal.datagram-requires-clause-whole
datagram-requires-clause-whole c = (reads_otherwise c.args.src c.args.dst c.args.bytes.now (sym c.refusal.ensures ∙ c.in-None.is)).whole

pub returns-in-None-clause-read : goal.returns-in-None-clause-read
returns-in-None-clause-read c =
    rw c.datagram.ensures (reads_otherwise c.args.src c.args.dst c.args.bytes.now (sym c.refusal.ensures ∙ c.in-None.is))

pub returns-in-None-clause-only : goal.returns-in-None-clause-only
returns-in-None-clause-only c v reads =
    let read = reads_otherwise c.args.src c.args.dst c.args.bytes.now (sym c.refusal.ensures ∙ c.in-None.is) in
    c.datagram.ensures ∙ reads_once c.args.src c.args.dst c.args.bytes.now _ v read reads
