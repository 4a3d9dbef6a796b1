use Rattle.std.proofs.Common.{◌≡◌, ◌+◌, None, ◌++◌, ◌∷◌, [], length, ap, ◌∙◌, arith}
use Rattle.it_types.specs.declared.entry.Entry.{Entry}
use Rattle.spec_world.specs.PlainWorld.{entry_of}
use Rattle.spec_world.specs.Sizes.{entry_size}
use Rattle.spec_world.specs.History.{refusal}
use Rattle.w_world.specs.Capped.{capped}
use Rattle.w_world.specs.Sending.{world_in, places_from}
use Rattle.w_world.specs.Takes.{Takes}
use Rattle.w_world.proofs.Keeping.{history, have_room, kept_step, few_packets}
use Rattle.w_world.proofs.world.World.carry_out.Goals as goal

pub take-requires-clause-room : goal.take-requires-clause-room
take-requires-clause-room c =
    have_room c.self.inside.conf c.self.inside.nodes c.self.inside.log c.self.inside.sent.items c.self.inside.packets c.self.inside.size c.self.inside.ended c.args.ev c.self.invariant
    (ap (λ h. refusal h c.args.ev) c.self.view_is ∙ c.requires)

pub overflow_cast-self : goal.overflow_cast-self
overflow_cast-self c =
    let none : refusal (history c.self.inside.conf c.self.inside.log c.self.inside.ended) c.args.ev ≡ None = ap (λ h. refusal h c.args.ev) c.self.view_is ∙ c.requires in
    let takes : Takes (world_in c.self.inside.nodes c.self.inside.log c.self.inside.sent.items) c.args.ev c.take.new.nodes c.in_ok-by.field-0.by c.in_ok-by.field-0.out = rw (c.as_slice-log.ensures, c.deref.ensures.value) at c.in_ok-by.ensures in
    let packs : c.as_slice.result.now ≡ c.in_ok-by.field-0.out.packs = c.as_slice.ensures ∙ ap (λ (e : Entry). e.packs) c.entry_of-entry.ensures in
    let sent : c.note_packets.new.sent.items ≡ c.self.inside.sent.items ++ places_from c.in_ok-by.field-0.by (length c.self.inside.log) 0 c.in_ok-by.field-0.out.packs = rw (c.len.ensures, packs) at c.in_ok-note_packets.ensures in
    omega (arith, few_packets c.self.inside.conf c.self.inside.nodes c.self.inside.log c.self.inside.sent.items c.self.inside.packets c.self.inside.size c.self.inside.ended c.args.ev c.self.invariant none c.take.new.nodes c.in_ok-by.field-0.by c.in_ok-by.field-0.out takes c.note_packets.new.sent.items sent)

pub invariant_of-self-2 : goal.invariant_of-self-2
invariant_of-self-2 c =
    let none : refusal (history c.self.inside.conf c.self.inside.log c.self.inside.ended) c.args.ev ≡ None = ap (λ h. refusal h c.args.ev) c.self.view_is ∙ c.requires in
    let takes : Takes (world_in c.self.inside.nodes c.self.inside.log c.self.inside.sent.items) c.args.ev c.take.new.nodes c.in_ok-by.field-0.by c.in_ok-by.field-0.out = rw (c.as_slice-log.ensures, c.deref.ensures.value) at c.in_ok-by.ensures in
    let packs : c.as_slice.result.now ≡ c.in_ok-by.field-0.out.packs = c.as_slice.ensures ∙ ap (λ (e : Entry). e.packs) c.entry_of-entry.ensures in
    let sent : c.note_packets.new.sent.items ≡ c.self.inside.sent.items ++ places_from c.in_ok-by.field-0.by (length c.self.inside.log) 0 c.in_ok-by.field-0.out.packs = rw (c.len.ensures, packs) at c.in_ok-note_packets.ensures in
    let log : c.push.new.self ≡ c.self.inside.log ++ entry_of c.args.ev c.in_ok-by.field-0.out ∷ [] = rw c.entry_of-entry.ensures at c.in_ok-push.ensures.ok in
    let size : c.saturating_add-self-inside.result ≡ capped (c.self.inside.size + capped (entry_size (entry_of c.args.ev c.in_ok-by.field-0.out))) = rw c.entry_of-entry.ensures at (c.saturating_add-self-inside.ensures ∙ ap (λ n. capped (c.self.inside.size + n)) c.entry_size-size.ensures) in
    let count : c.len-2.result ≡ length c.note_packets.new.sent.items = omega arith in
    kept_step c.self.inside.conf c.self.inside.nodes c.self.inside.log c.self.inside.sent.items c.self.inside.packets c.self.inside.size c.self.inside.ended c.args.ev c.self.invariant none c.take.new.nodes c.in_ok-by.field-0.by c.in_ok-by.field-0.out takes c.push.new.self c.note_packets.new.sent.items c.len-2.result c.saturating_add-self-inside.result log sent count size
