-- The windows of a connection as lists of bytes.
use Rattle.std.specs.Prelude.{ℕ, zero, suc, ◌≡◌, ◌≤◌, ◌%◌, ◌+◌, ◌-◌, List, [], ◌∷◌, ◌++◌, length, take, drop}
use Rattle.win_ring.specs.declared.key.WinKey.{WinKey}

-- the sizes of a window
pub record IsSize (size : ℕ) : Type 0 where
  pub whole : size % 256 ≡ 0
  pub least : 256 ≤ size
  pub most : size ≤ 65280

-- the bytes are laid over the front of others, as many as find a place
abbrev pub overlaid : List ℕ → List ℕ → List ℕ
overlaid xs out = take (length out) xs ++ drop (length xs) out

-- ---- the send window

pub record SendWindow : Type 0 where
  pub size : ℕ  -- how many bytes it holds
  pub key : WinKey
  pub acked : ℕ  -- how many bytes are acknowledged
  pub bytes : List ℕ  -- the bytes that are committed and not acknowledged

-- how many bytes may be committed
abbrev pub room_of : SendWindow → ℕ
room_of s = s.size - length s.bytes

-- the first bytes that have room are committed
abbrev pub with_put : SendWindow → List ℕ → SendWindow
with_put s load = record s { bytes = s.bytes ++ take (room_of s) load }

-- the first so many are acknowledged
abbrev pub with_acked : SendWindow → ℕ → SendWindow
with_acked s n = record s { acked = s.acked + n; bytes = drop n s.bytes }

-- ---- the receive window

pub record RecvWindow : Type 0 where
  pub size : ℕ  -- how many bytes it holds
  pub key : WinKey
  pub taken : ℕ  -- how many bytes are taken
  pub unread : List ℕ  -- the bytes in order that are not taken
  pub ahead : List ℕ  -- the byte at each place of the rest of the window

-- bytes are put so many places from the front, as far as there are places; an earlier byte of a place is replaced
abbrev pub put_over : ℕ → List ℕ → List ℕ → List ℕ
put_over n load [] = []
put_over zero [] (x ∷ xs) = x ∷ xs
put_over zero (b ∷ bs) (x ∷ xs) = b ∷ put_over zero bs xs
put_over (suc n) load (x ∷ xs) = x ∷ put_over n load xs

abbrev pub with_arrived : RecvWindow → ℕ → List ℕ → RecvWindow
with_arrived r offset load = record r { ahead = put_over offset load r.ahead }

-- the next so many bytes ahead become bytes in order
abbrev pub grown : RecvWindow → ℕ → RecvWindow
grown r n = record r { unread = r.unread ++ take n r.ahead; ahead = drop n r.ahead }

-- the first so many bytes are taken; their places are the last of the rest of the window, where they still stand
abbrev pub taken_from : RecvWindow → ℕ → RecvWindow
taken_from r n = record r { taken = r.taken + n; unread = drop n r.unread; ahead = r.ahead ++ take n r.unread }
