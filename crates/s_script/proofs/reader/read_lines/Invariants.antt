use Rattle.std.proofs.Common.{◌≡◌, ◌+◌, ◌≤◌, length}
use Rattle.s_script.specs.Drafts.{start}
use Rattle.s_script.proofs.ReadLoop.{from_line}
use Rattle.s_script.proofs.reader.read_lines.Given as goal

-- what is left gives what the whole text gives, and the number of the line is bounded by what has been read
abbrev pub invariant-loop-line : goal.invariant-loop-line
invariant-loop-line l = record {
  given : from_line l.number l.draft l.rest ≡ from_line 1 start l.text;
  counted : l.number + length l.rest ≤ length l.text + 1;
}

abbrev pub decreases-loop-line : goal.decreases-loop-line
decreases-loop-line l = length l.rest
