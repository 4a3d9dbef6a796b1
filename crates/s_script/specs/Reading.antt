-- How a text is read: line after line up to the first that is wrong. It is this project's own.
use Rattle.std.specs.Prelude.{◌≡◌, ℕ, ◌+◌, Bool, false, List, [], ◌∷◌, Option, Some, None, Result, Ok, Err, if◌then◌else◌}
use Rattle.spec_script.specs.declared.script.Script.{Script}
use Rattle.spec_script.specs.declared.script_line.ScriptLine.{ScriptLine}
use Rattle.spec_script.specs.Text.{split_lines, is_skipped}
use Rattle.s_script.specs.declared.read_bad.Why.{Why}
use Rattle.s_script.specs.declared.read_bad.Why.TheVariants.{Form, Missing}
use Rattle.s_script.specs.declared.read_bad.ReadBad.{ReadBad}
use Rattle.s_script.specs.declared.read_bad.ReadBad.TheVariants as bad
use Rattle.s_script.specs.declared.draft.Stage.{Stage}
use Rattle.s_script.specs.declared.draft.Stage.TheVariants as stages
use Rattle.s_script.specs.declared.draft.Draft.{Draft}
use Rattle.s_script.specs.LineKinds.{line_of}
use Rattle.s_script.specs.Drafts.{start, script_of, is_last, cause, moved}

-- the draft after a line that has no cause to be refused
abbrev pub with_cause : Draft → ScriptLine → Option Why → Result Draft Why
with_cause d l None = Ok (moved d l)
with_cause d l (Some why) = Err why

-- the draft after what bytes are read as
abbrev pub with_line : Draft → Option ScriptLine → Result Draft Why
with_line d None = Err Form
with_line d (Some l) = with_cause d l (cause d l)

-- the draft after a line of the text
unfoldable pub take_line : Draft → List ℕ → Result Draft Why
take_line d bytes = if is_skipped bytes then Ok d else with_line d (line_of bytes)

-- what follows a line that was taken
abbrev pub and_next : Result Draft Why → (Draft → Result Draft Why) → Result Draft Why
and_next (Ok d) next = next d
and_next (Err why) next = Err why

-- the draft after lines of the text, one after another
unfoldable pub draft_after : Draft → List (List ℕ) → Result Draft Why
draft_after d [] = Ok d
draft_after d (line ∷ lines) = and_next (take_line d line) (λ next. draft_after next lines)

-- node 1 has begun, and no body is open
abbrev pub is_whole : Stage → Bool → Bool
is_whole stages.Declares last = last
is_whole _ last = false

-- at the end, before line number: nothing is left that has no LF, and the draft is whole
abbrev pub at_end_of_text : ℕ → Draft → List ℕ → Result Draft (ℕ × Why)
at_end_of_text number d [] = if is_whole d.stage (is_last d) then Ok d else Err (number, Missing)
at_end_of_text number d (byte ∷ bytes) = Err (number, Missing)

-- a cause with its line's number
abbrev pub at_line : ℕ → Result Draft Why → Result Draft (ℕ × Why)
at_line number (Ok d) = Ok d
at_line number (Err why) = Err (number, why)

-- what follows a line that was taken
abbrev pub go_on : Result Draft (ℕ × Why) → (Draft → Result Draft (ℕ × Why)) → Result Draft (ℕ × Why)
go_on (Ok d) next = next d
go_on (Err wrong) next = Err wrong

-- the draft at the end of the lines, which are counted from number, and of the rest; or the first wrong line and its first cause
unfoldable pub read_from : ℕ → Draft → List ℕ → List (List ℕ) → Result Draft (ℕ × Why)
read_from number d rest [] = at_end_of_text number d rest
read_from number d rest (line ∷ lines) = go_on (at_line number (take_line d line)) (λ next. read_from (number + 1) next rest lines)

-- a script, or the first wrong line and its first cause
abbrev pub finished : Result Draft (ℕ × Why) → Result Script (ℕ × Why)
finished (Ok d) = Ok (script_of d)
finished (Err wrong) = Err wrong

-- what a text is read as
unfoldable pub read_text : List ℕ → Result Script (ℕ × Why)
read_text text = finished (read_from 1 start (split_lines text).1 (split_lines text).0)

-- What a function returned, seen by view, is what reading gives, unless memory was refused.
abbrev pub Refuses : {Y : Type 0} → ReadBad → Result Y (ℕ × Why) → Type 0
Refuses (bad.Refused number why) read = read ≡ Err (number, why)
Refuses bad.NoMemory read = Unit {0}

abbrev pub Reads : {X Y : Type 0} → (X → Y) → Result X ReadBad → Result Y (ℕ × Why) → Type 0
Reads view (Ok x) read = read ≡ Ok (view x)
Reads view (Err e) read = Refuses e read
