-- The numbers of a script's link are those that the link takes.
use Rattle.std.proofs.Common.{◌≡◌, ℕ, ◌+◌, ◌≤◌, true, List}
use Rattle.std.specs.Prelude.{nat_le, slice_index, ◌&&◌}
use Rattle.std.specs.List.{list_all}
use Rattle.std.proofs.lemmas.Bool.{and_parts, leb-true}
use Rattle.spec_script.specs.declared.script.Script.{Script}
use Rattle.spec_script.specs.Ranges.{IsGood, is_in_range}
use Rattle.spec_script.specs.Lines.{link_line, lines_of}

pub record AreLinkNumbers (link : List ℕ) : Type 0 where
  pub shares : slice_index link 1 + slice_index link 2 ≤ 16
  pub delay : slice_index link 3 ≤ 1000

line_in_range : (s : Script) → list_all is_in_range (lines_of s) ≡ true → is_in_range (link_line s.link) ≡ true
line_in_range s e = (and_parts (is_in_range (link_line s.link)) _ e).0

in_range : (link : List ℕ) → is_in_range (link_line link) ≡ true → AreLinkNumbers link
in_range link e =
    let parts = and_parts (nat_le (slice_index link 1 + slice_index link 2) 16) (nat_le 0 (slice_index link 3) && nat_le (slice_index link 3) 1000) (and_parts (nat_le 0 (slice_index link 0) && nat_le (slice_index link 0) 18446744073709551615) (nat_le (slice_index link 1 + slice_index link 2) 16 && (nat_le 0 (slice_index link 3) && nat_le (slice_index link 3) 1000)) e).1 in
    record { shares = leb-true _ _ parts.0; delay = leb-true _ _ (and_parts (nat_le 0 (slice_index link 3)) (nat_le (slice_index link 3) 1000) parts.1).1 }

pub numbers_in_range : (s : Script) → IsGood s → AreLinkNumbers s.link
numbers_in_range s good = in_range s.link (line_in_range s good.ranges)
