-- The lines with which a good script's can begin: this project's own.
use Rattle.std.specs.Prelude.{◌≡◌, ℕ, ◌+◌, ◌≤◌, not, List, ◌++◌, length, Ok, map, take, filter}
use Rattle.spec_script.specs.declared.script.Script.{Script}
use Rattle.spec_script.specs.Lines.{line_text, lines_of}
use Rattle.spec_script.specs.Ranges.{body_limit, IsGood}
use Rattle.spec_script.specs.Text.{split_lines, is_skipped}
use Rattle.s_script.specs.declared.draft.Draft.{Draft}
use Rattle.s_script.specs.Drafts.{start}
use Rattle.s_script.specs.Reading.{draft_after}

-- so many first lines of a text, without the skipped ones
abbrev pub first_lines : ℕ → List ℕ → List (List ℕ)
first_lines number text = filter (λ line. not (is_skipped line)) (take number (split_lines text).0)

-- the lines are the first lines of a good script
pub record IsFront (lines : List (List ℕ)) : Type 0 where
  pub script : Script
  pub good : IsGood script
  pub more : List (List ℕ)
  pub whole : map line_text (lines_of script) ≡ lines ++ more

-- after the lines an open body has room for the ends of the loops that are open in it
pub record CanClose (lines : List (List ℕ)) : Type 0 where
  pub room : (d : Draft) → draft_after start lines ≡ Ok d → length d.body + d.depth ≤ body_limit
