-- The fields of a call, each after a space: their values, their text, and what reads them. It is this project's own.
use Rattle.std.specs.Prelude.{ℕ, Bool, true, ◌&&◌, List, [], ◌∷◌, ◌++◌, Option, Some, is_some, unwrap_or, codes, ⊤}
use Rattle.it_types.specs.Cursor.{◌>>=◌, after}
use Rattle.it_types.specs.Kinds.{Kind, Value, text_of, is_in_range, read, default}

abbrev pub Form : Type 0
Form = List Kind

-- a value for each field of the form
abbrev pub Fields : Form → Type 0
Fields [] = ⊤
Fields (k ∷ ks) = Value k × Fields ks

unfoldable pub field_text : (k : Kind) → Value k → List ℕ
field_text k v = 32 ∷ text_of k v

abbrev pub fields_text : (ks : Form) → Fields ks → List ℕ
fields_text [] fs = []
fields_text (k ∷ ks) fs = field_text k fs.0 ++ fields_text ks fs.1

-- each value is in its range, for data of at most so many bytes
abbrev pub are_in_range : ℕ → (ks : Form) → Fields ks → Bool
are_in_range limit [] fs = true
are_in_range limit (k ∷ ks) fs = is_in_range limit k fs.0 && are_in_range limit ks fs.1

-- where a reader stands: how many bytes data may have, whether each field so far was in its range, and the bytes that are left
pub record Standing : Type 0 where
  pub limit : ℕ
  pub fits : Bool
  pub rest : List ℕ

-- the next field: a space, and what is read as a value of the kind
unfoldable pub field_at : (k : Kind) → Standing → Option (Value k × Standing)
field_at k s = do
  bytes ← after (codes " ") s.rest
  x ← read s.limit k bytes
  Some (unwrap_or x.0 (default k), record { limit = s.limit; fits = s.fits && is_some x.0; rest = x.1 })

-- the fields of the form, one after another
unfoldable pub fields_at : (ks : Form) → Standing → Option (Fields ks × Standing)
fields_at [] s = Some (tt, s)
fields_at (k ∷ ks) s = do
  x ← field_at k s
  more ← fields_at ks x.1
  Some ((x.0, more.0), more.1)
