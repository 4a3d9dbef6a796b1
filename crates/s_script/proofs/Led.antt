-- A text that is read as a script is the script's printed form, up to skipped lines, and the script is good.
use Rattle.std.proofs.Common.{◌≡◌, ◌≢◌, ◌⊎◌, ℕ, ◌+◌, Bool, true, false, not, cond, List, [], ◌∷◌, ◌++◌, Option, Some, None, is_some, unwrap_or, Result, Ok, Err, refl, sym, ap, subst, ◌∙◌, append_assoc, inl, inr}
use Rattle.std.specs.List.{flat_map, filter, list_all}
use Rattle.std.proofs.lemmas.Bool.{cases_Bool}
use Rattle.std.proofs.lemmas.List.{append-nil}
use Rattle.spec_script.specs.declared.script.Script.{Script}
use Rattle.spec_script.specs.declared.script.NodeDecl.{NodeDecl}
use Rattle.spec_script.specs.declared.script_line.ScriptLine.{ScriptLine}
use Rattle.spec_script.specs.declared.script_line.ScriptLine.TheVariants.{SecondNode}
use Rattle.spec_script.specs.Lines.{ended, spelled, line_text, no_node, node_line, declaration_lines, lines_of, script_text}
use Rattle.spec_script.specs.Ranges.{is_in_range, AreGood, IsGood}
use Rattle.spec_script.specs.Text.{split_lines, is_skipped, IsReadAs}
use Rattle.s_script.specs.declared.read_bad.Why.{Why}
use Rattle.s_script.specs.declared.draft.Stage.{Stage}
use Rattle.s_script.specs.declared.draft.Stage.TheVariants.{Declares}
use Rattle.s_script.specs.declared.draft.Draft.{Draft}
use Rattle.s_script.specs.LineKinds.{line_of}
use Rattle.s_script.specs.Drafts.{start, script_of, head_of, lines_before, lines_at, is_last, cause, moved}
use Rattle.s_script.specs.Reading.{with_cause, with_line, take_line, is_whole, at_end_of_text, at_line, go_on, read_from, finished, read_text}
use Rattle.s_script.proofs.Added.{added}
use Rattle.s_script.proofs.Kept.{Passes, passes, IsAfter, Kept, start_kept, kept}
use Rattle.s_script.proofs.EachTakes.{line_takes}

-- ---- one line

-- a line that was taken
abbrev pub took : Draft → Result Draft Why
took d = Ok d

-- lines that were taken
abbrev pub went : Draft → Result Draft (ℕ × Why)
went d = Ok d

-- one result is one draft
took_is : (d e : Draft) → took d ≡ took e → d ≡ e
took_is d e h = cc

-- the same of all lines
went_is : (d e : Draft) → went d ≡ went e → d ≡ e
went_is d e h = cc

-- the line is skipped
pub record Skips (d : Draft) (line : List ℕ) (next : Draft) : Type 0 where
  pub skipped : is_skipped line ≡ true
  pub same : d ≡ next

-- the line is read, and moves the draft
pub record Moves (d : Draft) (line : List ℕ) (next : Draft) : Type 0 where
  pub counted : is_skipped line ≡ false
  pub read : ScriptLine
  pub read_is : line_of line ≡ Some read
  pub passes : Passes d read
  pub same : moved d read ≡ next

-- a line that was taken has no cause
with_cause_is : (d : Draft) (l : ScriptLine) (o : Option Why) (next : Draft) → with_cause d l o ≡ took next → (o ≡ None) × (moved d l ≡ next)
with_cause_is d l None next e = (refl, took_is (moved d l) next e)
with_cause_is d l (Some why) next e = absurd cc

-- bytes that were taken are a line without cause
with_line_is : (d : Draft) (o : Option ScriptLine) (next : Draft) → with_line d o ≡ took next → (l : ScriptLine) × (o ≡ Some l) × (cause d l ≡ None) × (moved d l ≡ next)
with_line_is d None next e = absurd cc
with_line_is d (Some l) next e = let c = with_cause_is d l (cause d l) next e in (l, refl, c.0, c.1)

-- a line that was taken was skipped or moved the draft
pub taken : (d : Draft) (line : List ℕ) (next : Draft) → take_line d line ≡ took next → Skips d line next ⊎ Moves d line next
unfolding take_line
taken d line next e =
    elim (cases_Bool (is_skipped line)) [
      | inl t ↦ inl (record { skipped = t; same = took_is d next (rw t at e) })
      | inr f ↦
          let m = with_line_is d (line_of line) next (rw f at e) in
          inr (record { counted = f; read = m.0; read_is = m.1; passes = passes d m.0 m.2; same = m.3 })
    ]

-- all went well, so this line did and the later ones did
on_line : (number : ℕ) (r : Result Draft Why) (rest : Draft → Result Draft (ℕ × Why)) (e : Draft) → go_on (at_line number r) rest ≡ went e → (next : Draft) × (r ≡ took next) × (rest next ≡ went e)
on_line number (Ok next) rest e h = (next, refl, h)
on_line number (Err why) rest e h = absurd cc

-- ---- the end

-- the draft is whole
abbrev pub IsWhole : Draft → Type 0
IsWhole d = is_whole d.stage (is_last d) ≡ true

-- a draft that was finished is whole
whole_end : (b : Bool) (d e : Draft) (wrong : ℕ × Why) → cond b (went d) (Err wrong) ≡ went e → (b ≡ true) × (d ≡ e)
whole_end true d e wrong h = (refl, went_is d e h)
whole_end false d e wrong h = absurd cc

-- at the end of the text nothing is left, and the draft is whole
end_is : (number : ℕ) (d : Draft) (rest : List ℕ) (e : Draft) → at_end_of_text number d rest ≡ went e → (rest ≡ []) × IsWhole d × (d ≡ e)
end_is number d [] e h = let w = whole_end (is_whole d.stage (is_last d)) d e _ h in (refl, w.0, w.1)
end_is number d (b ∷ bytes) e h = absurd cc

-- ---- all lines

-- a line that is not skipped
abbrev pub is_kept : List ℕ → Bool
is_kept line = not (is_skipped line)

-- how lines led from a draft to a whole one
pub record Led (d : Draft) (lines : List (List ℕ)) (rest : List ℕ) (e : Draft) : Type 0 where
  pub read : List ScriptLine
  pub text : flat_map ended (filter is_kept lines) ≡ flat_map spelled read
  pub grown : lines_at e.stage e ≡ lines_at d.stage d ++ read
  pub keeps : Kept e
  pub whole : IsWhole e
  pub no_rest : rest ≡ []

-- no more lines
at_the_end : (d : Draft) (rest : List ℕ) (e : Draft) → Kept d → (rest ≡ []) × IsWhole d × (d ≡ e) → Led d [] rest e
at_the_end d rest e k h =
    subst (λ (x : Draft). Led d [] rest x) h.2 (record { read = []; text = refl; grown = sym (append-nil (lines_at d.stage d)); keeps = k; whole = h.1; no_rest = h.0 })

-- a skipped line before others
on_skipped : (d next : Draft) (line : List ℕ) (lines : List (List ℕ)) (rest : List ℕ) (e : Draft) → Skips d line next → Led next lines rest e → Led d (line ∷ lines) rest e
on_skipped d next line lines rest e s m =
    record { read = m.read; text = rw s.skipped m.text; grown = rw s.same m.grown; keeps = m.keeps; whole = m.whole; no_rest = m.no_rest }

-- a line that was read before others
on_moved : (d next : Draft) (line : List ℕ) (lines : List (List ℕ)) (rest : List ℕ) (e : Draft) → (s : Moves d line next) → line ≡ line_text s.read → Led next lines rest e → Led d (line ∷ lines) rest e
on_moved d next line lines rest e s spelling m =
    let more : lines_at next.stage next ≡ lines_at d.stage d ++ (s.read ∷ []) = ap (λ (x : Draft). lines_at x.stage x) (sym s.same) ∙ added d.stage d s.read s.passes.place s.passes.range in
    record {
      read = s.read ∷ m.read;
      text = rw s.counted (ap (λ (t : List ℕ). ended t ++ flat_map ended (filter is_kept lines)) spelling ∙ ap (λ (t : List ℕ). ended (line_text s.read) ++ t) m.text);
      grown = m.grown ∙ ap (λ (ls : List ScriptLine). ls ++ m.read) more ∙ append_assoc (lines_at d.stage d) (s.read ∷ []) m.read;
      keeps = m.keeps;
      whole = m.whole;
      no_rest = m.no_rest;
    }

-- lines that were taken lead to a whole draft that keeps what drafts keep
pub led : (number : ℕ) (d : Draft) (rest : List ℕ) (lines : List (List ℕ)) (e : Draft) → read_from number d rest lines ≡ went e → Kept d → Led d lines rest e
unfolding read_from
led number d rest [] e h k = at_the_end d rest e k (end_is number d rest e h)
led number d rest (line ∷ lines) e h k =
    let next = on_line number (take_line d line) (λ x. read_from (number + 1) x rest lines) e h in
    elim (taken d line next.0 next.1) [
      | inl s ↦ on_skipped d next.0 line lines rest e s (led (number + 1) next.0 rest lines e next.2 (subst Kept s.same k))
      | inr m ↦
          let spelling = (line_takes line m.read m.read_is).fact m.passes.range in
          on_moved d next.0 line lines rest e m spelling.0 (led (number + 1) next.0 rest lines e next.2 (subst Kept m.same (kept d m.read k m.passes spelling.1)))
    ]

-- ---- the whole text

-- a whole draft is between declarations of node 1, which has begun after node 0
record Last (d : Draft) : Type 0 where
  pub stage : d.stage ≡ Declares
  pub node : NodeDecl
  pub first : d.first ≡ Some node

-- where node 0 is there
first_there : (o : Option NodeDecl) → is_some o ≡ true → (n : NodeDecl) × (o ≡ Some n)
first_there None e = absurd (let none : false ≡ true = e in cc)
first_there (Some n) e = (n, refl)

-- only between declarations is a draft whole
declares_is : (stage : Stage) (last : Bool) → is_whole stage last ≡ true → (stage ≡ Declares) × (last ≡ true)
declares_is Declares last e = (refl, e)
declares_is _ last e = absurd (let none : false ≡ true = e in cc)

-- the parts of a whole draft
last_of : (d : Draft) → IsWhole d → Last d
last_of d e =
    let parts = declares_is d.stage (is_last d) e in
    let n = first_there d.first parts.1 in
    record { stage = parts.0; node = n.0; first = n.1 }

-- the lines of a whole draft, by its parts
last_lines : (d : Draft) (n : NodeDecl) → d.first ≡ Some n → lines_at Declares d ≡ lines_of (script_of d)
last_lines d n first =
    let ds = flat_map declaration_lines n.decls in
    let es = flat_map declaration_lines d.node.decls in
    let head = head_of d.link d.ticks (node_line n) in
    let second = SecondNode (node_line d.node) ∷ [] in
    ap (λ (o : Option NodeDecl). lines_before d.link d.ticks o (node_line d.node) ++ es) first
    ∙ append_assoc head (ds ++ second) es
    ∙ ap (λ (ls : List ScriptLine). head ++ ls) (append_assoc ds second es)
    ∙ ap (λ (o : Option NodeDecl). head_of d.link d.ticks (node_line (unwrap_or o no_node)) ++ (flat_map declaration_lines (unwrap_or o no_node).decls ++ (SecondNode (node_line d.node) ∷ es))) (sym first)

-- the lines of a whole draft are those of its script
pub whole_lines : (d : Draft) → IsWhole d → lines_at d.stage d ≡ lines_of (script_of d)
whole_lines d whole = let l = last_of d whole in ap (λ (stage : Stage). lines_at stage d) l.stage ∙ last_lines d l.node l.first

-- node 0 of a whole draft is good, and node 1 has another address
whole_after : (o : Option NodeDecl) (n : NodeDecl) (addr : ℕ) → o ≡ Some n → IsAfter o addr → AreGood (unwrap_or o no_node).decls × (addr ≢ (unwrap_or o no_node).addr)
whole_after None n addr e after = absurd cc
whole_after (Some m) n addr e after = after

-- the script of a whole draft is good
pub good : (e : Draft) → Kept e → IsWhole e → IsGood (script_of e)
good e k whole =
    let l = last_of e whole in
    let after = whole_after e.first l.node e.node.addr l.first k.before in
    record {
      ranges = subst (λ (ls : List ScriptLine). list_all is_in_range ls ≡ true) (whole_lines e whole) k.ranges;
      first = after.0;
      second = k.good;
      addresses = after.1;
      four_numbers = k.four;
      two_nodes = refl;
    }

-- a script that was read
abbrev pub made : Script → Result Script (ℕ × Why)
made s = Ok s

-- one result is one script
script_is : (s t : Script) → made s ≡ made t → s ≡ t
script_is s t h = cc

-- a script that was read is that of a draft
finished_is : (r : Result Draft (ℕ × Why)) (s : Script) → finished r ≡ Ok s → (e : Draft) × (r ≡ went e) × (script_of e ≡ s)
finished_is (Ok e) s h = (e, refl, script_is (script_of e) s h)
finished_is (Err wrong) s h = absurd cc

-- the text of the lines is that of the script
whole_text : (lines : List (List ℕ)) (rest : List ℕ) (read : List ScriptLine) (s : Script) → flat_map ended (filter is_kept lines) ≡ flat_map spelled read → rest ≡ [] → read ≡ lines_of s
    → flat_map ended (filter is_kept lines) ++ rest ≡ script_text s
whole_text lines rest read s text no_rest same = rw (text, no_rest, append-nil (flat_map spelled read), same) refl

-- lines that led to a draft are read as its script
of_led : (text : List ℕ) (e : Draft) → Led start (split_lines text).0 (split_lines text).1 e → IsReadAs text (script_of e)
of_led text e m =
    let lines : m.read ≡ lines_of (script_of e) = sym m.grown ∙ whole_lines e m.whole in
    record { form = whole_text (split_lines text).0 (split_lines text).1 m.read (script_of e) m.text m.no_rest lines; good = good e m.keeps m.whole }

-- what is read as a script is its printed form, up to skipped lines, and the script is good
pub read_as : (text : List ℕ) (s : Script) → read_text text ≡ Ok s → IsReadAs text s
unfolding read_text
read_as text s h =
    let f = finished_is (read_from 1 start (split_lines text).1 (split_lines text).0) s h in
    subst (λ (x : Script). IsReadAs text x) f.2 (of_led text f.0 (led 1 start (split_lines text).1 (split_lines text).0 f.0 f.1 start_kept))
