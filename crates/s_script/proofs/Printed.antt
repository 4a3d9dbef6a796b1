-- The parts of a script's printed form, one after the other.
use Rattle.std.proofs.Common.{◌≡◌, ℕ, List, [], ◌∷◌, ◌++◌, Some, Result, Ok, Err, ap, ◌∙◌, append_assoc}
use Rattle.std.specs.Prelude.{OnOk}
use Rattle.std.specs.List.{flat_map}
use Rattle.std.proofs.lemmas.List.{append-nil}
use Rattle.std.proofs.lemmas.List.Concat.{flat_map-append}
use Rattle.spec_script.specs.declared.script.Script.{Script}
use Rattle.spec_script.specs.declared.script.NodeDecl.{NodeDecl}
use Rattle.spec_script.specs.declared.decl.Decl.{Decl}
use Rattle.spec_script.specs.declared.script_line.ScriptLine.{ScriptLine}
use Rattle.spec_script.specs.declared.script_line.ScriptLine.TheVariants.{Itron, Ticks, FirstNode, SecondNode}
use Rattle.spec_script.specs.Lines.{spelled, link_line, node_line, declaration_lines, first_node, second_node, head_lines, script_text}

-- a word with a field, and what was appended then
pub field_printed : {T E : Type 0} (r : Result T E) (old first new word one rest : List ℕ) → first ≡ old ++ (word ++ one) → OnOk r (new ≡ first ++ rest) → OnOk r (new ≡ old ++ (word ++ (one ++ rest)))
field_printed (Err x) old first new word one rest e f = tt
field_printed (Ok x) old first new word one rest e f = rw (f, e) (simp append_assoc)

-- a word with two fields, and what was appended then
pub fields_printed : {T E : Type 0} (r : Result T E) (old first new word one other rest : List ℕ) → first ≡ old ++ (word ++ (one ++ other)) → OnOk r (new ≡ first ++ rest)
    → OnOk r (new ≡ old ++ (word ++ (one ++ (other ++ rest))))
fields_printed (Err x) old first new word one other rest e f = tt
fields_printed (Ok x) old first new word one other rest e f = rw (f, e) (simp append_assoc)

-- texts that were appended one after another
four_joined : (old a b c d : List ℕ) → (((old ++ a) ++ b) ++ c) ++ d ≡ old ++ (a ++ (b ++ (c ++ (d ++ []))))
four_joined old a b c d = rw (append-nil d) (simp append_assoc)

-- where the line of node 0 came, the lines before the declarations of node 0 did
pub head_printed : {T E : Type 0} (r : Result T E) (old first second third new : List ℕ) (s : Script) (n : NodeDecl)
    → first ≡ old ++ spelled Itron → second ≡ first ++ spelled (link_line s.link) → third ≡ second ++ spelled (Ticks (Some s.ticks)) → n ≡ first_node s
    → OnOk r (new ≡ third ++ spelled (FirstNode (node_line n))) → OnOk r (new ≡ old ++ flat_map spelled (head_lines s))
head_printed (Err x) old first second third new s n e f g h i = tt
head_printed (Ok x) old first second third new s n e f g h i =
    i ∙ ap (λ (t : List ℕ). t ++ spelled (FirstNode (node_line n))) (g ∙ ap (λ (t : List ℕ). t ++ spelled (Ticks (Some s.ticks))) (f ∙ ap (λ (t : List ℕ). t ++ spelled (link_line s.link)) e))
    ∙ ap (λ (m : NodeDecl). (((old ++ spelled Itron) ++ spelled (link_line s.link)) ++ spelled (Ticks (Some s.ticks))) ++ spelled (FirstNode (node_line m))) h
    ∙ four_joined old (spelled Itron) (spelled (link_line s.link)) (spelled (Ticks (Some s.ticks))) (spelled (FirstNode (node_line (first_node s))))

-- lines that were appended in three parts
joined : (old head_text mid_text : List ℕ) (head mid last : List ScriptLine) → head_text ≡ old ++ flat_map spelled head → mid_text ≡ head_text ++ flat_map spelled mid
    → mid_text ++ flat_map spelled last ≡ old ++ flat_map spelled (head ++ (mid ++ last))
joined old head_text mid_text head mid last e f =
    rw (f, e, flat_map-append spelled head (mid ++ last), flat_map-append spelled mid last) (simp append_assoc)

-- node 1 with its declarations
abbrev last_lines : NodeDecl → List ScriptLine
last_lines n = SecondNode (node_line n) ∷ flat_map declaration_lines n.decls

-- where the last part came, the whole script did
pub printed : {T E : Type 0} (r : Result T E) (old head_text mid_text new : List ℕ) (s : Script) (first second : NodeDecl) (decls : List Decl)
    → head_text ≡ old ++ flat_map spelled (head_lines s) → first ≡ first_node s → decls ≡ first.decls → mid_text ≡ head_text ++ flat_map spelled (flat_map declaration_lines decls) → second ≡ second_node s
    → OnOk r (new ≡ mid_text ++ flat_map spelled (last_lines second)) → OnOk r (new ≡ old ++ script_text s)
printed (Err x) old head_text mid_text new s first second decls e f g h i j = tt
printed (Ok x) old head_text mid_text new s first second decls e f g h i j =
    let mid : mid_text ≡ head_text ++ flat_map spelled (flat_map declaration_lines (first_node s).decls) = h ∙ ap (λ (ds : List Decl). head_text ++ flat_map spelled (flat_map declaration_lines ds)) (g ∙ ap (λ (n : NodeDecl). n.decls) f) in
    j ∙ ap (λ (n : NodeDecl). mid_text ++ flat_map spelled (last_lines n)) i
    ∙ joined old head_text mid_text (head_lines s) (flat_map declaration_lines (first_node s).decls) (last_lines (second_node s)) e mid
