-- Which script a text is read as, which is this project's own.
use Rattle.std.specs.Prelude.{◌≡◌, ℕ, Bool, true, not, List, [], ◌∷◌, ◌++◌, ◌==◌, if◌then◌else◌, filter}
use Rattle.std.specs.List.{flat_map}
use Rattle.spec_script.specs.declared.script.Script.{Script}
use Rattle.spec_script.specs.Lines.{ended, script_text}
use Rattle.spec_script.specs.Ranges.{IsGood}

abbrev pub onto_first : ℕ → List (List ℕ) × List ℕ → List (List ℕ) × List ℕ
onto_first byte ([], rest) = ([], byte ∷ rest)
onto_first byte (line ∷ lines, rest) = ((byte ∷ line) ∷ lines, rest)

-- the lines of a text that end with LF, without it, and the rest after the last LF
unfoldable pub split_lines : List ℕ → List (List ℕ) × List ℕ
split_lines [] = ([], [])
split_lines (byte ∷ bytes) = if byte == 10 then ([] ∷ (split_lines bytes).0, (split_lines bytes).1) else onto_first byte (split_lines bytes)

-- a line that is empty or begins with # is skipped
abbrev pub is_skipped : List ℕ → Bool
is_skipped [] = true
is_skipped (byte ∷ bytes) = byte == 35

-- a text without its skipped lines
abbrev pub without_skipped : List ℕ → List ℕ
without_skipped text = flat_map ended (filter (λ line. not (is_skipped line)) (split_lines text).0) ++ (split_lines text).1

-- the text is read as the script: without its skipped lines it is the script's printed form, and the script is good
pub record IsReadAs (text : List ℕ) (s : Script) : Type 0 where
  pub form : without_skipped text ≡ script_text s
  pub good : IsGood s
