-- The moves of the code from one moment of an event to another.
use Rattle.std.proofs.Common.{◌≡◌, true, false, List, [], ◌∷◌, ◌++◌, map, slice_set, Option, Some, refl, ap, sym, ◌∙◌, append_assoc}
use Rattle.std.proofs.lemmas.List.{append-nil, map-append}
use Rattle.it_types.specs.declared.id.CallNo.{CallNo}
use Rattle.it_types.specs.declared.answer.Ans.{Ans}
use Rattle.it_types.specs.declared.entry.CallEnd.{CallEnd}
use Rattle.it_types.specs.declared.entry.Out.{Out}
use Rattle.it_types.specs.Callers.{nobody}
use Rattle.spec_kernel.specs.declared.outcome.KEnd.{KEnd}
use Rattle.spec_pend.specs.declared.call.NetCall.{NetCall}
use Rattle.spec_pend.specs.declared.answer.NetEnd.{NetEnd}
use Rattle.spec_pend.specs.Outs.{shown_end}
use Rattle.spec_udp.specs.PlainUdps.{UdpSide, UdpOutcome, side_after}
use Rattle.spec_udp.specs.Outside.{ended}
use Rattle.e_udp.specs.Does.{Does, side, no_number}
use Rattle.spec_node.specs.declared.held.Held.{Held}
use Rattle.spec_node.specs.PlainNode.{PlainNode}
use Rattle.spec_node.specs.Progress.{Progress, kernel_end, woken_by, after_net, after_end, after_ends}
use Rattle.spec_node.specs.NodeStep.{node_after}
use Rattle.n_node.specs.declared.parts.Parts.{Parts}
use Rattle.n_node.specs.declared.told.Told.{Told}
use Rattle.n_node.specs.Plain.{plain}
use Rattle.n_node.specs.Callers.{TellWho, woken_all}
use Rattle.n_node.specs.Coming.{Comes, Moves, Adds}
use Rattle.n_node.proofs.Waking.{woken_held, holding_append}

-- more is told behind what was told before
behind : {X : Type 0} (before first second told after : List X) → told ≡ before ++ first → after ≡ told ++ second → after ≡ before ++ (first ++ second)
behind before first second told after t a = a ∙ ap (λ l. l ++ second) t ∙ append_assoc before first second

shown_behind : (before told after : List CallEnd) (first second : List NetEnd) (es : List CallEnd)
    → told ≡ before ++ map shown_end first
    → es ≡ map shown_end second
    → after ≡ told ++ es
    → after ≡ before ++ map shown_end (first ++ second)
shown_behind before told after first second es t shown a =
    behind before (map shown_end first) (map shown_end second) told after t (a ∙ ap (λ l. told ++ l) shown) ∙ ap (λ l. before ++ l) (sym (map-append shown_end first second))

-- what the network part did is taken over, where its state has come before
pub after_net_comes : (start : PlainNode) (answer : Ans) (before : Told) (p : Progress) (parts middle after : Parts) (told told_after : Told) (callers : List NetCall) (number : CallNo) (out : Out) (o : UdpOutcome)
    → Comes start answer before p parts told
    → plain middle ≡ record (plain parts) { net = side middle.udps middle.pend }
    → Does (side middle.udps middle.pend) number out o
    → TellWho callers o.endings.ends
    → plain after ≡ woken_all callers (plain middle) out.ends
    → Adds told out.ends out.marks out.packs told_after
    → Comes start answer before (after_net p o) after told_after
after_net_comes start answer before p parts middle after told told_after callers number out o h at does who node adds =
    let ends : List NetEnd = o.endings.ends in
    let now : PlainNode = record (node_after start answer nobody p) { net = side_after o } in
    let come : plain middle ≡ now = at ∙ ap (λ (n : PlainNode). record n { net = side middle.udps middle.pend }) h.node ∙ ap (λ (s : UdpSide). record (node_after start answer nobody p) { net = s }) does.state in
    record {
      node =
          node ∙ ap (λ (w : Out). woken_all callers (plain middle) w.ends) does.told
          ∙ ap (λ (n : PlainNode). woken_all callers n (map shown_end ends)) come
          ∙ woken_held callers now ends who
          ∙ ap (λ (held : List (Option Held)). record now { kernel = woken_by p.kernel ends; held = held }) (sym (holding_append p.ends ends start.held));
      ends = shown_behind before.ends told.ends told_after.ends p.ends ends out.ends h.ends (ap (λ (w : Out). w.ends) does.told) adds.ends;
      marks = behind before.marks p.marks o.endings.marks told.marks told_after.marks h.marks (adds.marks ∙ ap (λ (w : Out). told.marks ++ w.marks) does.told);
      packets = behind before.packs p.packets o.packets told.packs told_after.packs h.packets (adds.packets ∙ ap (λ (w : Out). told.packs ++ w.packs) does.told);
    }

-- an end that the kernel made of a call of the network part
pub outside_end_moves : (parts middle after : Parts) (told told_after : Told) (callers : List NetCall) (out : Out) (e : KEnd)
    → e.outside ≡ true
    → plain middle ≡ record (plain parts) { net = side middle.udps middle.pend }
    → Does (side middle.udps middle.pend) no_number out (ended (side parts.udps parts.pend) e.call e.code)
    → TellWho callers (ended (side parts.udps parts.pend) e.call e.code).endings.ends
    → plain after ≡ woken_all callers (plain middle) out.ends
    → Adds told out.ends out.marks out.packs told_after
    → Moves parts told after told_after (λ p. after_end p e)
outside_end_moves parts middle after told told_after callers out e outside at does who node adds start answer before p h =
    let same : side parts.udps parts.pend ≡ p.net = ap (λ (n : PlainNode). n.net) h.node in
    rw (outside, ← same) (after_net_comes start answer before p parts middle after told told_after callers no_number out (ended (side parts.udps parts.pend) e.call e.code) h at does who node adds)

nothing_behind : {X : Type 0} (before first told after : List X) → told ≡ before ++ first → after ≡ told ++ [] → after ≡ before ++ first
nothing_behind before first told after t a = a ∙ append-nil told ∙ t

-- an end that the kernel made of a call of its own
pub inside_end_moves : (parts after : Parts) (told told_after : Told) (e : KEnd)
    → e.outside ≡ false
    → plain after ≡ record (plain parts) { held = slice_set parts.held.items e.task.0 (Some (record { code = e.code; bytes = e.bytes })) }
    → Adds told (record { call = e.call; code = e.code; bytes = e.bytes } ∷ []) [] [] told_after
    → Moves parts told after told_after (λ p. after_end p e)
inside_end_moves parts after told told_after e inside node adds start answer before p h = rw inside (record {
  node =
      node ∙ ap (λ (n : PlainNode). record n { held = slice_set n.held e.task.0 (Some (record { code = e.code; bytes = e.bytes })) }) h.node
      ∙ ap (λ (held : List (Option Held)). record (node_after start answer nobody p) { held = held }) (sym (holding_append p.ends (kernel_end e ∷ []) start.held));
  ends = shown_behind before.ends told.ends told_after.ends p.ends (kernel_end e ∷ []) (record { call = e.call; code = e.code; bytes = e.bytes } ∷ []) h.ends refl adds.ends;
  marks = nothing_behind before.marks p.marks told.marks told_after.marks h.marks adds.marks;
  packets = nothing_behind before.packs p.packets told.packs told_after.packs h.packets adds.packets;
})

-- one end of the kernel more is taken over
after_ends_end : (p : Progress) (es : List KEnd) (e : KEnd) → after_ends p (es ++ e ∷ []) ≡ after_end (after_ends p es) e
after_ends_end p [] e = refl
after_ends_end p (x ∷ xs) e = after_ends_end (after_end p x) xs e

pub next_kernel_end : (parts middle after : Parts) (told told_middle told_after : Told) (es all : List KEnd) (e : KEnd)
    → all ≡ es ++ e ∷ []
    → Moves parts told middle told_middle (λ p. after_ends p es)
    → Moves middle told_middle after told_after (λ p. after_end p e)
    → Moves parts told after told_after (λ p. after_ends p all)
next_kernel_end parts middle after told told_middle told_after es all e is so_far next start answer before p h =
    rw (is, after_ends_end p es e) (next start answer before (after_ends p es) (so_far start answer before p h))
