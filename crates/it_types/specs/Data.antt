-- Which data a word of hexadecimal digits is read as, which is this project's own.
use Rattle.std.specs.Prelude.{ℕ, ◌/◌, Bool, ◌&&◌, List, length, Option, Some, None, Result, Ok, Err, nat_le, nat_lt, nat_eq, if◌then◌else◌}
use Rattle.std.specs.List.{list_all}
use Rattle.std.specs.Cmp.Lexicographic.{pointwise}
use Rattle.hex.specs.Hex.{decode_of, encode_lower}
use Rattle.hex.specs.declared.error.FromHexError.{FromHexError}

abbrev pub is_byte : ℕ → Bool
is_byte byte = nat_lt byte 256

-- at most so many bytes
abbrev pub is_data : ℕ → List ℕ → Bool
is_data limit load = nat_le (length load) limit && list_all is_byte load

-- the data of which these are the digits, in lower case
abbrev pub if_lower : List ℕ → Result (List ℕ) FromHexError → Option (List ℕ)
if_lower digits (Ok load) = if pointwise nat_eq (encode_lower load) digits then Some load else None
if_lower digits (Err e) = None

-- the data that digits are read as: two lower hexadecimal digits a byte, for at most so many bytes
unfoldable pub data_of : ℕ → List ℕ → Option (List ℕ)
data_of limit digits = if nat_le (length digits / 2) limit then if_lower digits (decode_of digits) else None
