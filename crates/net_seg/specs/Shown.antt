-- Values of the code without where their bytes lie in memory, and the header in room for its greatest size.
use Rattle.std.specs.Prelude.{ℕ, List, ◌∷◌, ◌++◌, Option, Some, None}
use Rattle.net_seg.specs.declared.options.NextOption.{NextOption}
use Rattle.net_seg.specs.declared.options.NextOption.TheVariants as found
use Rattle.net_seg.specs.declared.options.Options.{Options}
use Rattle.net_seg.specs.declared.segment.Segment.{Segment}
use Rattle.spec_wire.specs.Octets.{u16_octets}
use Rattle.spec_wire.specs.Segment as plain

abbrev pub shown : Segment → plain.Segment
shown s = record {
  from_port = s.from_port;
  to_port = s.to_port;
  seq = s.seq;
  ack = s.ack;
  flags = s.flags.0;
  wnd = s.wnd;
  mss = s.mss;
  load = s.load.now;
}

abbrev pub shown_options : Options → plain.Options
shown_options o = record { mss = o.mss }

abbrev pub shown_option : NextOption → plain.NextOption
shown_option found.Ends = plain.Ends
shown_option (found.Padding rest) = plain.Padding rest.now
shown_option (found.OfKind kind body rest) = plain.OfKind kind body.now rest.now
shown_option found.Wrong = plain.Wrong

-- the four octets of the option, or 0 where there is none
abbrev pub kind_octet : Option ℕ → ℕ
kind_octet None = 0
kind_octet (Some mss) = 2

abbrev pub length_octet : Option ℕ → ℕ
length_octet None = 0
length_octet (Some mss) = 4

abbrev pub size_or_0 : Option ℕ → ℕ
size_or_0 None = 0
size_or_0 (Some mss) = mss

abbrev pub option_room : Option ℕ → List ℕ
option_room mss = kind_octet mss ∷ length_octet mss ∷ u16_octets (size_or_0 mss)

abbrev pub header_room : plain.Segment → ℕ → List ℕ
header_room s checksum = plain.header_front s ++ (u16_octets checksum ++ (0 ∷ 0 ∷ option_room s.mss))
