-- How numbers and addresses are read, which is this project's own.
use Rattle.std.specs.Prelude.{ℕ, ◌+◌, ◌*◌, Bool, true, false, not, ◌||◌, List, [], ◌∷◌, Option, Some, None, is_some, unwrap_or, nat_lt, ◌==◌, if◌then◌else◌, codes}
use Rattle.std.specs.Char.{is_ascii_digit}
use Rattle.std.specs.Str.Parse.{digits_value}
use Rattle.it_types.specs.Cursor.{◌>>=◌, after, split_while}

abbrev pub is_empty : List ℕ → Bool
is_empty [] = true
is_empty (byte ∷ bytes) = false

-- digits are a number where there are some, and the first is no 0 unless it stands alone
abbrev pub is_numeral : List ℕ → Bool
is_numeral [] = false
is_numeral (digit ∷ digits) = not (digit == 48) || is_empty digits

-- a number that is below a limit
abbrev pub below : ℕ → Option ℕ → Option ℕ
below limit None = None
below limit (Some n) = if nat_lt n limit then Some n else None

-- a number that is below a limit; one that isn't stands as 0
abbrev pub below_or_0 : ℕ → Option ℕ → ℕ
below_or_0 limit number = unwrap_or (below limit number) 0

-- the number is below the limit
abbrev pub is_below : ℕ → Option ℕ → Bool
is_below limit number = is_some (below limit number)

-- one more digit of a number
abbrev pub push_digit : Option ℕ → ℕ → Option ℕ
push_digit None digit = None
push_digit (Some n) digit = below 18446744073709551616 (Some (n * 10 + digit))

-- the number that digits stand for, where it has 64 bits
abbrev pub value_of : List ℕ → Option ℕ
value_of digits = below 18446744073709551616 (Some (digits_value 10 digits))

-- a number, of any length of digits, and the bytes after it
unfoldable pub number_at : List ℕ → Option (Option ℕ × List ℕ)
number_at bytes = let parts = split_while is_ascii_digit bytes in if is_numeral parts.0 then Some (value_of parts.0, parts.1) else None

-- the address of four parts, the most significant first, where each has 8 bits
unfoldable pub address_of : Option ℕ → Option ℕ → Option ℕ → Option ℕ → Option ℕ
address_of a b c d = do
  first ← below 256 a
  second ← below 256 b
  third ← below 256 c
  fourth ← below 256 d
  Some (((first * 256 + second) * 256 + third) * 256 + fourth)

-- an address, which is four numbers with dots, and the bytes after it
unfoldable pub address_at : List ℕ → Option (Option ℕ × List ℕ)
address_at bytes = do
  a ← number_at bytes
  dot ← after (codes ".") a.1
  b ← number_at dot
  dot ← after (codes ".") b.1
  c ← number_at dot
  dot ← after (codes ".") c.1
  d ← number_at dot
  Some (address_of a.0 b.0 c.0 d.0, d.1)
