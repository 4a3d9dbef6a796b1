-- One turn of reading a text, and its end.
use Rattle.std.proofs.Common.{◌≡◌, ℕ, ◌+◌, List, [], Result, Ok, Err, refl, sym, subst, ◌∙◌}
use Rattle.std.specs.Prelude.{IfOk}
use Rattle.spec_script.specs.declared.script.Script.{Script}
use Rattle.spec_script.specs.Text.{split_lines}
use Rattle.s_script.specs.declared.read_bad.Why.{Why}
use Rattle.s_script.specs.declared.read_bad.ReadBad.{ReadBad}
use Rattle.s_script.specs.declared.read_bad.ReadBad.TheVariants as bad
use Rattle.s_script.specs.declared.draft.Draft.{Draft}
use Rattle.s_script.specs.Cutting.{BeginsWith}
use Rattle.s_script.specs.Drafts.{start}
use Rattle.s_script.specs.Reading.{take_line, at_line, at_end_of_text, read_from, finished, read_text, Refuses, Reads}

-- what reading the text gives, from a line's number and the draft before that line
abbrev pub from_line : ℕ → Draft → List ℕ → Result Draft (ℕ × Why)
from_line number d text = read_from number d (split_lines text).1 (split_lines text).0

-- a line that was taken
pub read_on : (number : ℕ) (d next : Draft) (text line more : List ℕ) → BeginsWith text line more → at_line number (take_line d line) ≡ Ok next → from_line number d text ≡ from_line (number + 1) next more
unfolding read_from
read_on number d next text line more h e = rw (h.lines, e) refl

-- a line that was refused
pub read_wrong : (number : ℕ) (d : Draft) (text line more : List ℕ) (b : ReadBad) → BeginsWith text line more → Refuses b (at_line number (take_line d line)) → Refuses b (finished (from_line number d text))
unfolding read_from
read_wrong number d text line more (bad.Refused at why) h e = rw (h.lines, e) refl
read_wrong number d text line more bad.NoMemory h e = tt

-- no line is left
pub read_end : (number : ℕ) (d : Draft) (text : List ℕ) → split_lines text ≡ ([], text) → from_line number d text ≡ at_end_of_text number d text
unfolding read_from
read_end number d text e = rw e refl

-- a line that was refused is the answer to the whole text
pub wrong_line : (whole text line more : List ℕ) (number : ℕ) (d : Draft) (b : ReadBad) → from_line number d text ≡ from_line 1 start whole → BeginsWith text line more → Refuses b (at_line number (take_line d line)) → Refuses b (read_text whole)
unfolding read_text
wrong_line whole text line more number d b given h e = subst (λ (r : Result Draft (ℕ × Why)). Refuses b (finished r)) given (read_wrong number d text line more b h e)

-- the end is the answer to the whole text
pub all_lines : (whole text : List ℕ) (number : ℕ) (d : Draft) (r : Result Script ReadBad) → from_line number d text ≡ from_line 1 start whole → split_lines text ≡ ([], text) → Reads (λ s. s) r (finished (at_end_of_text number d text)) → Reads (λ s. s) r (read_text whole)
unfolding read_text
all_lines whole text number d r given last h = subst (λ (x : Result Draft (ℕ × Why)). Reads (λ s. s) r (finished x)) (sym (read_end number d text last) ∙ given) h

-- what holds of a script that a text is read as, holds of one that a function read
pub read_is : {P : Script → Type 0} (text : List ℕ) (r : Result Script ReadBad) → ((s : Script) → read_text text ≡ Ok s → P s) → Reads (λ s. s) r (read_text text) → IfOk r P
read_is text (Ok s) go h = go s h
read_is text (Err e) go h = tt
