-- A line that may stand in its place is added to the lines of the draft.
use Rattle.std.proofs.Common.{◌≡◌, ℕ, true, false, not, [], ◌∷◌, ◌++◌, Option, Some, None, is_some, unwrap_or, refl, sym, ap, ◌∙◌, append_assoc}
use Rattle.std.specs.List.{flat_map}
use Rattle.std.proofs.lemmas.Bool.{and_parts}
use Rattle.std.proofs.lemmas.List.{append-nil, map-append}
use Rattle.std.proofs.lemmas.List.Concat.{flat_map-append}
use Rattle.spec_script.specs.declared.script_line.ScriptLine.{ScriptLine}
use Rattle.spec_script.specs.declared.script_line.ScriptLine.TheVariants.{Itron, Link, Ticks, FirstNode, SecondNode, Sem, Flg, Dtq, Task, Cyc, Cbr, Body, End}
use Rattle.spec_script.specs.declared.script_line.NodeLine.{NodeLine}
use Rattle.spec_script.specs.declared.script.NodeDecl.{NodeDecl}
use Rattle.spec_script.specs.Lines.{node_line, declaration_lines}
use Rattle.spec_script.specs.Ranges.{within, is_at_most, are_parts_of_16, is_node_in_range, is_in_range}
use Rattle.s_script.specs.declared.draft.Stage.{Stage}
use Rattle.s_script.specs.declared.draft.Stage.TheVariants.{Start, Headed, Linked, Timed, Declares, InBody}
use Rattle.s_script.specs.declared.draft.Draft.{Draft}
use Rattle.s_script.specs.Drafts.{head_of, lines_before, begun, lines_at, is_last, in_place, node_of, moved}
use Rattle.s_script.proofs.Owned.{lines_owned}

-- ---- numbers in their ranges are there

-- a number in its range is there
pub within_is : (low : ℕ) (n : Option ℕ) (high : ℕ) → within low n high ≡ true → Some (unwrap_or n 0) ≡ n
within_is low None high e = absurd (let none : false ≡ true = e in cc)
within_is low (Some n) high e = refl

-- a number that is at most another is there
pub at_most_is : (m n : Option ℕ) → is_at_most m n ≡ true → Some (unwrap_or m 0) ≡ m
at_most_is None n e = absurd (let none : false ≡ true = e in cc)
at_most_is (Some m) n e = refl

-- two numbers of a sum that has a bound are there
pub parts_are : (m n : Option ℕ) → are_parts_of_16 m n ≡ true → (Some (unwrap_or m 0) ≡ m) × (Some (unwrap_or n 0) ≡ n)
parts_are None n e = absurd (let none : false ≡ true = e in cc)
parts_are (Some m) None e = absurd (let none : false ≡ true = e in cc)
parts_are (Some m) (Some n) e = (refl, refl)

-- a line that begins a node is that of the node
node_options : (addr isn0 top0 : Option ℕ) → is_node_in_range (record { addr = addr; isn0 = isn0; top0 = top0 }) ≡ true → node_line (node_of (record { addr = addr; isn0 = isn0; top0 = top0 })) ≡ record { addr = addr; isn0 = isn0; top0 = top0 }
node_options addr isn0 top0 range =
    let bounds = and_parts (within 1 addr 4294967295) _ range in
    let others = and_parts (within 0 isn0 4294967295) (within 0 top0 2000000000) bounds.1 in
    rw (within_is 1 addr _ bounds.0, within_is 0 isn0 _ others.0, within_is 0 top0 _ others.1) refl

-- the same of the line as a whole
pub node_is : (n : NodeLine) → is_node_in_range n ≡ true → node_line (node_of n) ≡ n
node_is n range = node_options n.addr n.isn0 n.top0 range

-- what is not there is nothing
pub none_is : {A : Type 0} (o : Option A) → not (is_some o) ≡ true → o ≡ None
none_is None e = refl
none_is (Some x) e = absurd (let none : false ≡ true = e in cc)

-- ---- one clause for each line in its place

-- node 1 begins after the declarations of node 0
second_added : (d : Draft) (n : NodeLine) → d.first ≡ None → is_node_in_range n ≡ true → lines_at Declares (moved d (SecondNode n)) ≡ lines_at Declares d ++ (SecondNode n ∷ [])
second_added d n none range =
    let ds = flat_map declaration_lines d.node.decls in
    let head = head_of d.link d.ticks (node_line d.node) in
    append-nil (head ++ (ds ++ (SecondNode (node_line (node_of n)) ∷ [])))
    ∙ ap (λ (m : NodeLine). head ++ (ds ++ (SecondNode m ∷ []))) (node_is n range)
    ∙ sym (append_assoc head ds (SecondNode n ∷ []))
    ∙ ap (λ (o : Option NodeDecl). (lines_before d.link d.ticks o (node_line d.node) ++ ds) ++ (SecondNode n ∷ [])) (sym none)

-- a line in its place and its ranges is the next line of the draft
pub added : (stage : Stage) (d : Draft) (l : ScriptLine) → in_place stage (is_last d) d.owner l ≡ true → is_in_range l ≡ true → lines_at (moved d l).stage (moved d l) ≡ lines_at stage d ++ (l ∷ [])
added Start d Itron place range = refl
added Headed d (Link key lose twice delay) place range =
    let bounds = and_parts (within 0 key 18446744073709551615) _ range in
    let others = and_parts (are_parts_of_16 lose twice) (within 0 delay 1000) bounds.1 in
    let parts = parts_are lose twice others.0 in
    rw (within_is 0 key _ bounds.0, parts.0, parts.1, within_is 0 delay _ others.1) refl
added Linked d (Ticks ticks) place range = rw (within_is 0 ticks _ range) refl
added Timed d (FirstNode n) place range = rw (node_is n range) refl
added Declares d (Sem id pri init max) place range =
    let bounds = and_parts (within 1 id 16) _ range in
    let counts = and_parts (is_at_most init max) (within 1 max 65535) bounds.1 in
    rw (flat_map-append, within_is 1 id _ bounds.0, at_most_is init max counts.0, within_is 1 max _ counts.1) (sym (append_assoc (begun d) (flat_map declaration_lines d.node.decls) (Sem id pri init max ∷ [])))
added Declares d (Flg id pri many clr init) place range =
    let bounds = and_parts (within 1 id 16) (within 0 init 4294967295) range in
    rw (flat_map-append, within_is 1 id _ bounds.0, within_is 0 init _ bounds.1) (sym (append_assoc (begun d) (flat_map declaration_lines d.node.decls) (Flg id pri many clr init ∷ [])))
added Declares d (Dtq id pri cap) place range =
    let bounds = and_parts (within 1 id 16) (within 0 cap 1024) range in
    rw (flat_map-append, within_is 1 id _ bounds.0, within_is 0 cap _ bounds.1) (sym (append_assoc (begun d) (flat_map declaration_lines d.node.decls) (Dtq id pri cap ∷ [])))
added Declares d (Task id pri act) place range =
    let bounds = and_parts (within 1 id 16) (within 1 pri 16) range in
    rw (within_is 1 id _ bounds.0, within_is 1 pri _ bounds.1) (sym (append_assoc (begun d) (flat_map declaration_lines d.node.decls) (Task id pri act ∷ [])))
added Declares d (Cyc id period phase on) place range =
    let bounds = and_parts (within 1 id 8) _ range in
    let times = and_parts (within 1 period 1000000) (within 0 phase 1000000) bounds.1 in
    rw (within_is 1 id _ bounds.0, within_is 1 period _ times.0, within_is 0 phase _ times.1) (sym (append_assoc (begun d) (flat_map declaration_lines d.node.decls) (Cyc id period phase on ∷ [])))
added Declares d (Cbr id) place range = rw (within_is 1 id _ range) (sym (append_assoc (begun d) (flat_map declaration_lines d.node.decls) (Cbr id ∷ [])))
added Declares d (SecondNode n) place range = second_added d n (none_is d.first place) range
added InBody d (Body line true) place range = simp (map-append, append_assoc)
added InBody d (Body line false) place range = absurd (let none : false ≡ true = range in cc)
added InBody d End place range = rw (flat_map-append, lines_owned d.owner (record { lines = d.body })) (simp (append_assoc, append-nil))
added _ _ _ place range = absurd (let none : false ≡ true = place in cc)
