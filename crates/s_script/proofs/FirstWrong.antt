-- The first wrong line is the first with which the text is no front of a good script.
use Rattle.std.proofs.Common.{◌≡◌, ◌≢◌, ◌⊎◌, ℕ, suc, ◌+◌, ◌-◌, ◌≤◌, Bool, true, false, cond, List, [], ◌∷◌, ◌++◌, length, take, Option, Some, None, Result, Ok, Err, refl, sym, ap, subst, ◌∙◌, append_assoc, inl, inr, arith}
use Rattle.std.specs.List.{AllByRecursion, filter}
use Rattle.std.proofs.lemmas.Bool.{cases_Bool}
use Rattle.std.proofs.lemmas.List.{append-nil, map-append}
use Rattle.spec_script.specs.declared.script.Script.{Script}
use Rattle.spec_script.specs.declared.script_line.ScriptLine.{ScriptLine}
use Rattle.spec_script.specs.Lines.{line_text, lines_of}
use Rattle.spec_script.specs.Text.{split_lines, is_skipped}
use Rattle.s_script.specs.declared.read_bad.Why.{Why}
use Rattle.s_script.specs.declared.read_bad.Why.TheVariants.{Missing}
use Rattle.s_script.specs.declared.draft.Draft.{Draft}
use Rattle.s_script.specs.LineKinds.{line_of}
use Rattle.s_script.specs.Drafts.{start, script_of, lines_at, is_last, cause, moved}
use Rattle.s_script.specs.Reading.{with_cause, with_line, take_line, draft_after, is_whole, at_end_of_text, at_line, go_on, read_from, finished, read_text}
use Rattle.s_script.specs.FirstWrong.{first_lines, CanClose, IsFront}
use Rattle.s_script.proofs.Added.{added}
use Rattle.s_script.proofs.Kept.{Passes, no_cause, Kept, start_kept, kept}
use Rattle.s_script.proofs.Led.{took, is_kept, taken, whole_lines, good}
use Rattle.s_script.proofs.EachTakes.{line_takes}
use Rattle.s_script.proofs.EachAgain.{line_again}
use Rattle.s_script.proofs.ScriptRuns.{Runs, Makes, script_runs}
use Rattle.s_script.proofs.ReadBack.{texts_of, first_line}
use Rattle.s_script.proofs.Ending.{ends}

-- ---- what a refusal tells

-- the draft after lines
abbrev moved_by : Draft → List ScriptLine → Draft
moved_by d [] = d
moved_by d (l ∷ ls) = moved_by (moved d l) ls

-- the line is what its text is read as
abbrev IsReadLine : ScriptLine → Type 0
IsReadLine l = line_of (line_text l) ≡ Some l

-- the line can't be added to the draft
abbrev IsWrong : Draft → List ℕ → Type 0
IsWrong d line = (l : ScriptLine) → line_of line ≡ Some l → cause d l ≡ None → ⊥

-- the last line is wrong, or nothing but an end is missing
record WrongLine (d : Draft) (read : List ScriptLine) (lines : List (List ℕ)) : Type 0 where
  pub line : List ℕ
  pub texts : lines ≡ texts_of read ++ (line ∷ [])
  pub wrong : IsWrong (moved_by d read) line

-- the lines before the wrong one were added to the draft
record Stops (number : ℕ) (d : Draft) (lines : List (List ℕ)) (at : ℕ) (why : Why) : Type 0 where
  pub count : ℕ
  pub counted : at ≡ number + count
  pub read : List ScriptLine
  pub reads : AllByRecursion IsReadLine read
  pub texts : filter is_kept (take count lines) ≡ texts_of read
  pub grown : lines_at (moved_by d read).stage (moved_by d read) ≡ lines_at d.stage d ++ read
  pub reached : draft_after d (take count lines) ≡ took (moved_by d read)
  pub keeps : Kept (moved_by d read)
  pub last : (why ≡ Missing) ⊎ WrongLine d read (filter is_kept (take (suc count) lines))

-- a refusal of a text
abbrev refused : ℕ → Why → Result Draft (ℕ × Why)
refused number why = Err (number, why)

-- one refusal has one line and one cause
refused_is : (m n : ℕ) (v w : Why) → refused m v ≡ refused n w → (m ≡ n) × (v ≡ w)
refused_is m n v w e = let same : ◌≡◌ {A = ℕ × Why} (m, v) (n, w) = cc in (ap (λ (p : ℕ × Why). p.0) same, ap (λ (p : ℕ × Why). p.1) same)

-- a draft that is not whole is refused at its end
ended_at : (b : Bool) (d : Draft) (number at : ℕ) (why : Why) → cond b (Ok d) (refused number Missing) ≡ refused at why → (number ≡ at) × (Missing ≡ why)
ended_at true d number at why e = absurd cc
ended_at false d number at why e = refused_is number at Missing why e

-- at the end of the text only an end is missing
at_end_is : (number : ℕ) (d : Draft) (rest : List ℕ) (at : ℕ) (why : Why) → at_end_of_text number d rest ≡ refused at why → (number ≡ at) × (Missing ≡ why)
at_end_is number d [] at why e = ended_at (is_whole d.stage (is_last d)) d number at why e
at_end_is number d (b ∷ rest) at why e = refused_is number at Missing why e

-- a line that went well, or did not
pub record GoesOn (number : ℕ) (r : Result Draft Why) (next : Draft → Result Draft (ℕ × Why)) (at : ℕ) (why : Why) : Type 0 where
  pub draft : Draft
  pub taken : r ≡ took draft
  pub later : next draft ≡ refused at why

-- a refusal of a line
abbrev failed : Why → Result Draft Why
failed why = Err why

-- a refusal comes from this line or from a later one
on_line : (number : ℕ) (r : Result Draft Why) (next : Draft → Result Draft (ℕ × Why)) (at : ℕ) (why : Why) → go_on (at_line number r) next ≡ refused at why
    → GoesOn number r next at why ⊎ ((number ≡ at) × (r ≡ failed why))
on_line number (Ok d) next at why e = inl (record { draft = d; taken = refl; later = e })
on_line number (Err v) next at why e = let same = refused_is number at v why e in inr (same.0, ap failed same.1)

-- why a line can't be added
cause_fails : (d : Draft) (l : ScriptLine) (o : Option Why) (why : Why) → with_cause d l o ≡ failed why → o ≡ None → ⊥
cause_fails d l None why e none = absurd cc
cause_fails d l (Some v) why e none = absurd cc

-- a line that is refused has a cause
line_fails : (d : Draft) (o : Option ScriptLine) (why : Why) → with_line d o ≡ failed why → (l : ScriptLine) → o ≡ Some l → cause d l ≡ None → ⊥
line_fails d None why e l h none = absurd cc
line_fails d (Some m) why e l h none = cause_fails d m (cause d m) why e (let same : Some m ≡ Some l = h in let one : m ≡ l = cc in rw one none)

-- a refused line is not skipped, and is wrong
fails : (d : Draft) (line : List ℕ) (why : Why) → take_line d line ≡ failed why → (is_skipped line ≡ false) × IsWrong d line
unfolding take_line
fails d line why e =
    elim (cases_Bool (is_skipped line)) [
      | inl t ↦ let none : took d ≡ failed why = rw t at e in absurd cc
      | inr f ↦ (f, line_fails d (line_of line) why (rw f at e))
    ]

-- ---- the three ways to go on

-- no lines lead to the draft itself
none_reached : (d : Draft) → draft_after d [] ≡ took d
unfolding draft_after
none_reached d = refl

-- a line that was taken, and the draft after those that follow
next_reached : (d next : Draft) (line : List ℕ) (lines : List (List ℕ)) (e : Draft) → take_line d line ≡ took next → draft_after next lines ≡ took e → draft_after d (line ∷ lines) ≡ took e
unfolding draft_after
next_reached d next line lines e taken later = rw taken later

-- the end of the text
stops_at_end : (number : ℕ) (d : Draft) (at : ℕ) (why : Why) → Kept d → (number ≡ at) × (Missing ≡ why) → Stops number d [] at why
stops_at_end number d at why k e = record { count = 0; counted = omega arith; read = []; reads = tt; texts = refl; grown = sym (append-nil (lines_at d.stage d)); reached = none_reached d; keeps = k; last = inl (sym e.1) }

-- the wrong line
stops_here : (number : ℕ) (d : Draft) (line : List ℕ) (lines : List (List ℕ)) (at : ℕ) (why : Why) → Kept d → number ≡ at → (is_skipped line ≡ false) × IsWrong d line → Stops number d (line ∷ lines) at why
stops_here number d line lines at why k e w =
    record { count = 0; counted = omega arith; read = []; reads = tt; texts = refl; grown = sym (append-nil (lines_at d.stage d)); reached = none_reached d; keeps = k; last = inr (record { line = line; texts = rw w.0 refl; wrong = w.1 }) }

-- one more line before those of a wrong line
wrong_later : (d : Draft) (l : ScriptLine) (read : List ScriptLine) (line : List ℕ) (lines : List (List ℕ)) → line ≡ line_text l → WrongLine (moved d l) read lines → WrongLine d (l ∷ read) (line ∷ lines)
wrong_later d l read line lines spelling w =
    record { line = w.line; texts = ap (λ (t : List ℕ). t ∷ lines) spelling ∙ ap (λ (ts : List (List ℕ)). line_text l ∷ ts) w.texts; wrong = w.wrong }

-- a skipped line before the wrong one
stops_skipped : (number : ℕ) (d : Draft) (line : List ℕ) (lines : List (List ℕ)) (at : ℕ) (why : Why) → is_skipped line ≡ true → take_line d line ≡ took d
    → Stops (number + 1) d lines at why → Stops number d (line ∷ lines) at why
stops_skipped number d line lines at why s t m = record {
  count = suc m.count;
  counted = omega (arith, m.counted);
  read = m.read;
  reads = m.reads;
  texts = rw s m.texts;
  grown = m.grown;
  reached = next_reached d d line (take m.count lines) (moved_by d m.read) t m.reached;
  keeps = m.keeps;
  last = elim m.last [ inl e ↦ inl e | inr w ↦ inr (record { line = w.line; texts = rw s w.texts; wrong = w.wrong }) ];
}

-- a line before the wrong one that was added
stops_moved : (number : ℕ) (d : Draft) (l : ScriptLine) (line : List ℕ) (lines : List (List ℕ)) (at : ℕ) (why : Why) → is_skipped line ≡ false → line_of line ≡ Some l → line ≡ line_text l → Passes d l
    → take_line d line ≡ took (moved d l) → Stops (number + 1) (moved d l) lines at why → Stops number d (line ∷ lines) at why
stops_moved number d l line lines at why s read spelling p t m = record {
  count = suc m.count;
  counted = omega (arith, m.counted);
  read = l ∷ m.read;
  reads = (ap line_of (sym spelling) ∙ read, m.reads);
  texts = rw s (ap (λ (t : List ℕ). t ∷ filter is_kept (take m.count lines)) spelling ∙ ap (λ (ts : List (List ℕ)). line_text l ∷ ts) m.texts);
  grown = m.grown ∙ ap (λ (ls : List ScriptLine). ls ++ m.read) (added d.stage d l p.place p.range) ∙ append_assoc (lines_at d.stage d) (l ∷ []) m.read;
  reached = next_reached d (moved d l) line (take m.count lines) (moved_by (moved d l) m.read) t m.reached;
  keeps = m.keeps;
  last = elim m.last [ inl e ↦ inl e | inr w ↦ inr (rw s (wrong_later d l m.read line (filter is_kept (take (suc m.count) lines)) spelling w)) ];
}

-- what a refusal tells, from any line on
stopped : (number : ℕ) (d : Draft) (rest : List ℕ) (lines : List (List ℕ)) (at : ℕ) (why : Why) → read_from number d rest lines ≡ refused at why → Kept d → Stops number d lines at why
unfolding read_from
stopped number d rest [] at why h k = stops_at_end number d at why k (at_end_is number d rest at why h)
stopped number d rest (line ∷ lines) at why h k =
    elim (on_line number (take_line d line) (λ next. read_from (number + 1) next rest lines) at why h) [
      | inl g ↦ elim (taken d line g.draft g.taken) [
        | inl s ↦ stops_skipped number d line lines at why s.skipped (subst (λ (x : Draft). take_line d line ≡ took x) (sym s.same) g.taken) (subst (λ (x : Draft). Stops (number + 1) x lines at why) (sym s.same) (stopped (number + 1) g.draft rest lines at why g.later (subst Kept s.same k)))
        | inr m ↦
            let spelling = (line_takes line m.read m.read_is).fact m.passes.range in
            stops_moved number d m.read line lines at why m.counted m.read_is spelling.0 m.passes (subst (λ (x : Draft). take_line d line ≡ took x) (sym m.same) g.taken)
            (subst (λ (x : Draft). Stops (number + 1) x lines at why) (sym m.same) (stopped (number + 1) g.draft rest lines at why g.later (subst Kept m.same (kept d m.read k m.passes spelling.1))))
      ]
      | inr f ↦ stops_here number d line lines at why k f.0 (fails d line why f.1)
    ]

-- ---- before the wrong line

-- the lines of a draft are a front of a good script, where its body has room for the ends of its open loops
front : (d : Draft) (read : List ScriptLine) → length d.body + d.depth ≤ 1000 → Kept d → lines_at d.stage d ≡ read → IsFront (texts_of read)
front d read room k same =
    let e = ends d room k in
    let lines : lines_of (script_of e.last) ≡ read ++ e.more = sym (whole_lines e.last e.whole) ∙ e.grown ∙ ap (λ (ls : List ScriptLine). ls ++ e.more) same in
    record { script = script_of e.last; good = good e.last e.keeps e.whole; more = texts_of e.more; whole = ap texts_of lines ∙ map-append line_text read e.more }

-- ---- with the wrong line

-- the text of a line is that of one line
one_line : (l m : ScriptLine) → line_text l ≡ line_text m → IsReadLine l → IsReadLine m → l ≡ m
one_line l m same p q = let both : Some l ≡ Some m = sym p ∙ ap line_of same ∙ q in cc

-- lines and a wrong one are no front of a good script
no_front : (P : Draft → Type 0) (read : List ScriptLine) (d : Draft) (ls : List ScriptLine) (line : List ℕ) (more : List (List ℕ)) → AllByRecursion IsReadLine read → Runs P d ls → (texts_of read ++ (line ∷ [])) ++ more ≡ texts_of ls → IsWrong (moved_by d read) line → ⊥
no_front P [] d ls line more reads runs same wrong =
    let f = first_line line more ls same in
    let run : Runs P d (f.first ∷ f.others) = subst (λ (x : List ScriptLine). Runs P d x) f.parts runs in
    wrong f.first (ap line_of f.spelling ∙ line_again f.first run.0.range run.1) (no_cause d f.first run.0)
no_front P (l ∷ read) d ls line more reads runs same wrong =
    let f = first_line (line_text l) ((texts_of read ++ (line ∷ [])) ++ more) ls same in
    let run : Runs P d (f.first ∷ f.others) = subst (λ (x : List ScriptLine). Runs P d x) f.parts runs in
    let one : l ≡ f.first = one_line l f.first f.spelling reads.0 (line_again f.first run.0.range run.1) in
    no_front P read (moved d l) f.others line more reads.1 (subst (λ (x : ScriptLine). Runs P (moved d x) f.others) (sym one) run.2) f.more wrong

-- ---- the law

-- a refusal, as reading a text answers it
abbrev unread : ℕ × Why → Result Script (ℕ × Why)
unread x = Err x

-- one refusal is one line with its cause
unread_is : (x y : ℕ × Why) → unread x ≡ unread y → x ≡ y
unread_is x y e = cc

-- a text is refused where its lines are
finished_wrong : (r : Result Draft (ℕ × Why)) (at : ℕ) (why : Why) → finished r ≡ unread (at, why) → r ≡ refused at why
finished_wrong (Ok d) at why e = absurd cc
finished_wrong (Err x) at why e = let same : x ≡ (at, why) = unread_is x (at, why) e in ap (λ (y : ℕ × Why). refused y.0 y.1) same

-- what the refusal of a text tells
refusal : (text : List ℕ) (at : ℕ) (why : Why) → read_text text ≡ Err (at, why) → Stops 1 start (split_lines text).0 at why
unfolding read_text
refusal text at why e = stopped 1 start (split_lines text).1 (split_lines text).0 at why (finished_wrong (read_from 1 start (split_lines text).1 (split_lines text).0) at why e) start_kept

-- the lines before the wrong one are a front of a good script, where an open body has room for the ends of its open loops
pub front_before : (text : List ℕ) (at : ℕ) (why : Why) → read_text text ≡ Err (at, why) → CanClose (take (at - 1) (split_lines text).0) → IsFront (first_lines (at - 1) text)
front_before text at why e can =
    let s = refusal text at why e in
    let count : at - 1 ≡ s.count = omega (arith, s.counted) in
    let texts : first_lines (at - 1) text ≡ texts_of s.read = ap (λ (n : ℕ). first_lines n text) count ∙ s.texts in
    let reached : draft_after start (take (at - 1) (split_lines text).0) ≡ took (moved_by start s.read) = ap (λ (n : ℕ). draft_after start (take n (split_lines text).0)) count ∙ s.reached in
    subst IsFront (sym texts) (front (moved_by start s.read) s.read (can.room (moved_by start s.read) reached) s.keeps s.grown)

-- with the wrong line they are none
pub no_front_with : (text : List ℕ) (at : ℕ) (why : Why) → read_text text ≡ Err (at, why) → why ≢ Missing → IsFront (first_lines at text) → ⊥
no_front_with text at why e there f =
    let s = refusal text at why e in
    let count : at ≡ suc s.count = omega (arith, s.counted) in
    elim s.last [
      | inl missing ↦ there missing
      | inr w ↦
          let texts : first_lines at text ≡ texts_of s.read ++ (w.line ∷ []) = ap (λ (n : ℕ). first_lines n text) count ∙ w.texts in
          let whole : (texts_of s.read ++ (w.line ∷ [])) ++ f.more ≡ texts_of (lines_of f.script) = ap (λ (ts : List (List ℕ)). ts ++ f.more) (sym texts) ∙ sym f.whole in
          no_front (Makes f.script) s.read start (lines_of f.script) w.line f.more s.reads (script_runs f.script f.good) whole w.wrong
    ]
