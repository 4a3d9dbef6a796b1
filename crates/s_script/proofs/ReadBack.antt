-- A text that is the printed form of a good script, up to skipped lines, is read as that script.
use Rattle.std.proofs.Common.{◌≡◌, ◌↔◌, ℕ, ◌+◌, true, false, List, [], ◌∷◌, ◌++◌, map, Ok, Err, refl, sym, ap, subst, ◌∙◌, inl, inr}
use Rattle.std.specs.List.{list_all, flat_map, filter}
use Rattle.std.proofs.lemmas.Bool.{cases_Bool}
use Rattle.std.proofs.lemmas.List.{append-nil}
use Rattle.spec_script.specs.declared.script.Script.{Script}
use Rattle.spec_script.specs.declared.script_line.ScriptLine.{ScriptLine}
use Rattle.spec_script.specs.Lines.{ended, spelled, line_text, lines_of, script_text}
use Rattle.spec_script.specs.Text.{split_lines, is_skipped, without_skipped, IsReadAs}
use Rattle.spec_script.specs.Ranges.{IsGood}
use Rattle.s_script.specs.declared.read_bad.Why.{Why}
use Rattle.s_script.specs.declared.draft.Draft.{Draft}
use Rattle.s_script.specs.Drafts.{start, moved}
use Rattle.s_script.specs.Reading.{take_line, read_from, finished, read_text}
use Rattle.s_script.proofs.Kept.{Passes, no_cause}
use Rattle.s_script.proofs.Led.{is_kept, took, made, read_as}
use Rattle.s_script.proofs.LineTakes.{is_written}
use Rattle.s_script.proofs.EachAgain.{line_again}
use Rattle.s_script.proofs.Counted.{line_counted}
use Rattle.s_script.proofs.Plain.{is_plain, split_joined, split_plain, filter_plain, line_plain}
use Rattle.s_script.proofs.ScriptRuns.{Runs, Makes, script_runs}

-- ---- lines that are a script's lines

-- a skipped line leaves the draft as it is
takes_skipped : (d : Draft) (line : List ℕ) → is_skipped line ≡ true → take_line d line ≡ took d
unfolding take_line
takes_skipped d line e = rw e refl

-- the text of a line that passes moves the draft by it
takes_line : (d : Draft) (line : List ℕ) (l : ScriptLine) → is_skipped line ≡ false → line ≡ line_text l → Passes d l → is_written l ≡ true → take_line d line ≡ took (moved d l)
unfolding take_line
takes_line d line l counted spelling p w = rw (counted, spelling, line_again l p.range w, no_cause d l p) refl

-- what lines are, that are spelled from lines
abbrev pub texts_of : List ScriptLine → List (List ℕ)
texts_of ls = map line_text ls

-- no texts are those of no lines
none_left : (ls : List ScriptLine) → [] ≡ texts_of ls → ls ≡ []
none_left [] e = refl
none_left (l ∷ ls) e = absurd cc

-- the first line and the others
pub record FirstLine (line : List ℕ) (lines : List (List ℕ)) (ls : List ScriptLine) : Type 0 where
  pub first : ScriptLine
  pub others : List ScriptLine
  pub parts : ls ≡ first ∷ others
  pub spelling : line ≡ line_text first
  pub more : lines ≡ texts_of others

-- the first text is that of the first line
pub first_line : (line : List ℕ) (lines : List (List ℕ)) (ls : List ScriptLine) → line ∷ lines ≡ texts_of ls → FirstLine line lines ls
first_line line lines [] e = absurd cc
first_line line lines (l ∷ ls) e = record { first = l; others = ls; parts = refl; spelling = cc; more = cc }

-- a draft that makes the script is read as it
makes_at_end : (number : ℕ) (d : Draft) (s : Script) → Makes s d → finished (read_from number d [] []) ≡ made s
unfolding read_from
makes_at_end number d s m = rw (m.whole, m.made) refl

-- one line of the text, and the others
on_line : (number : ℕ) (d next : Draft) (line : List ℕ) (lines : List (List ℕ)) → take_line d line ≡ took next → read_from number d [] (line ∷ lines) ≡ read_from (number + 1) next [] lines
unfolding read_from
on_line number d next line lines e = rw e refl

-- a text whose lines are a script's is read as the script
follows : (lines : List (List ℕ)) (number : ℕ) (d : Draft) (ls : List ScriptLine) (s : Script) → filter is_kept lines ≡ texts_of ls → Runs (Makes s) d ls → finished (read_from number d [] lines) ≡ made s
follows [] number d ls s e runs = makes_at_end number d s (subst (λ (x : List ScriptLine). Runs (Makes s) d x) (none_left ls e) runs)
follows (line ∷ lines) number d ls s e runs =
    elim (cases_Bool (is_skipped line)) [
      | inl t ↦ ap finished (on_line number d d line lines (takes_skipped d line t)) ∙ follows lines (number + 1) d ls s (rw t at e) runs
      | inr f ↦
          let first = first_line line (filter is_kept lines) ls (rw f at e) in
          let run : Runs (Makes s) d (first.first ∷ first.others) = subst (λ (x : List ScriptLine). Runs (Makes s) d x) first.parts runs in
          ap finished (on_line number d (moved d first.first) line lines (takes_line d line first.first f first.spelling run.0 run.1))
          ∙ follows lines (number + 1) (moved d first.first) first.others s first.more run.2
    ]

-- ---- the printed form of a script

-- the texts of lines that pass are plain
texts_plain : (P : Draft → Type 0) (d : Draft) (ls : List ScriptLine) → Runs P d ls → list_all is_plain (texts_of ls) ≡ true
texts_plain P d [] runs = refl
texts_plain P d (l ∷ ls) runs = rw (line_plain l runs.0.range runs.1, texts_plain P (moved d l) ls runs.2) refl

-- lines are spelled as their texts with LF
spelled_lines : (ls : List ScriptLine) → flat_map ended (texts_of ls) ≡ flat_map spelled ls
spelled_lines [] = refl
spelled_lines (l ∷ ls) = ap (λ (t : List ℕ). spelled l ++ t) (spelled_lines ls)

-- a text without its skipped lines has the same lines and the same rest, if they are a script's lines
kept_lines : (text : List ℕ) (ls : List ScriptLine) → list_all is_plain (texts_of ls) ≡ true → without_skipped text ≡ flat_map spelled ls → ◌≡◌ {A = List (List ℕ) × List ℕ} (filter is_kept (split_lines text).0, (split_lines text).1) (texts_of ls, [])
kept_lines text ls plain e =
    let parts = split_plain text in
    let left = split_joined (filter is_kept (split_lines text).0) (split_lines text).1 (filter_plain is_kept (split_lines text).0 parts.lines) parts.rest in
    let right = split_joined (texts_of ls) [] plain refl in
    sym left ∙ ap split_lines (e ∙ sym (spelled_lines ls) ∙ sym (append-nil (flat_map ended (texts_of ls)))) ∙ right

-- what is a script's printed form, up to skipped lines, is read as the script
pub read_back : (text : List ℕ) (s : Script) → IsReadAs text s → read_text text ≡ Ok s
unfolding read_text
read_back text s r =
    let runs = script_runs s r.good in
    let lines = kept_lines text (lines_of s) (texts_plain (Makes s) start (lines_of s) runs) r.form in
    let no_rest : (split_lines text).1 ≡ [] = ap (λ (x : List (List ℕ) × List ℕ). x.1) lines in
    let read = follows (split_lines text).0 1 start (lines_of s) s (ap (λ (x : List (List ℕ) × List ℕ). x.0) lines) runs in
    ap (λ (rest : List ℕ). finished (read_from 1 start rest (split_lines text).0)) no_rest ∙ read

-- a text that is refused is no script's
pub not_read : (text : List ℕ) (wrong : ℕ × Why) → read_text text ≡ Err wrong → (s : Script) → IsReadAs text s → ⊥
not_read text wrong e s r = let both : made s ≡ Err wrong = sym (read_back text s r) ∙ e in absurd cc

-- both ways
pub reads : (text : List ℕ) (s : Script) → (read_text text ≡ Ok s) ↔ IsReadAs text s
reads text s = (read_as text s, read_back text s)

-- ---- what is printed is read

-- no line of a script's text is skipped
all_counted : (ls : List ScriptLine) → filter is_kept (texts_of ls) ≡ texts_of ls
all_counted [] = refl
all_counted (l ∷ ls) = rw (line_counted l) (ap (λ (ts : List (List ℕ)). line_text l ∷ ts) (all_counted ls))

-- the printed form of a good script is read as that script
pub printed_is_read : (s : Script) → IsGood s → read_text (script_text s) ≡ Ok s
printed_is_read s good =
    let plain = texts_plain (Makes s) start (lines_of s) (script_runs s good) in
    let split : ◌≡◌ {A = List (List ℕ) × List ℕ} (split_lines (script_text s)) (texts_of (lines_of s), []) =
    ap split_lines (sym (spelled_lines (lines_of s)) ∙ sym (append-nil (flat_map ended (texts_of (lines_of s))))) ∙ split_joined (texts_of (lines_of s)) [] plain refl in
    let form : without_skipped (script_text s) ≡ script_text s =
    ap (λ (x : List (List ℕ) × List ℕ). flat_map ended (filter is_kept x.0) ++ x.1) split
    ∙ append-nil (flat_map ended (filter is_kept (texts_of (lines_of s))))
    ∙ ap (λ (ts : List (List ℕ)). flat_map ended ts) (all_counted (lines_of s))
    ∙ spelled_lines (lines_of s) in
    read_back (script_text s) s (record { form = form; good = good })
