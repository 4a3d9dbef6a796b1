-- The header in room for its greatest size begins with the header.
use Rattle.std.proofs.Common.{◌≡◌, ℕ, ◌+◌, ◌∷◌, ◌++◌, length, take, Option, Some, None, refl}
use Rattle.spec_wire.specs.Octets.{u16_octets}
use Rattle.spec_wire.specs.Segment.{Segment, header_front, written_options}
use Rattle.net_seg.specs.Shown.{option_room}

pub header_of_room : (s : Segment) (mss : Option ℕ) (checksum : ℕ)
    → take (20 + length (written_options mss)) (header_front s ++ (u16_octets checksum ++ (0 ∷ 0 ∷ option_room mss))) ≡ header_front s ++ (u16_octets checksum ++ (0 ∷ 0 ∷ written_options mss))
header_of_room s None checksum = refl
header_of_room s (Some mss) checksum = refl
