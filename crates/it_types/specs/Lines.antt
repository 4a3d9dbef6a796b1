-- The line of a call: its word, and its fields. It is this project's own.
use Rattle.std.specs.Prelude.{◌≡◌, ℕ, Bool, true, List, ◌++◌, Option, Some, None, Result, Ok, Err, if◌then◌else◌}
use Rattle.it_types.specs.declared.request.Req.{Req}
use Rattle.it_types.specs.declared.calls.Word.{Word}
use Rattle.it_types.specs.declared.stop.Stop.{Stop}
use Rattle.it_types.specs.declared.stop.Stop.TheVariants.{NoRequest}
use Rattle.it_types.specs.Cursor.{◌>>=◌, at_end, split_while, is_no_space}
use Rattle.it_types.specs.Fields.{Standing, fields_text, are_in_range, fields_at}
use Rattle.it_types.specs.Requests.{word_text, word_in, Row, RowOf, row_of, form_of, request_of, Call, Of, parts_of}

-- ---- the text of a request

abbrev pub call_word : Call → Word
call_word (Of w f) = w

abbrev pub call_fields_text : Call → List ℕ
call_fields_text (Of w f) = fields_text (form_of w) f

abbrev pub call_is_in_range : ℕ → Call → Bool
call_is_in_range limit (Of w f) = are_in_range limit (form_of w) f

abbrev pub call_request : Call → Req
call_request (Of w f) = request_of w f

-- the word of a request
abbrev pub word_of : Req → Word
word_of r = call_word (parts_of r)

-- a request as scripts and traces spell it
abbrev pub request_text : Req → List ℕ
request_text r = word_text (word_of r) ++ call_fields_text (parts_of r)

-- its numbers are in their ranges, and its data has at most so many bytes
abbrev pub is_writable : ℕ → Req → Bool
is_writable limit r = call_is_in_range limit (parts_of r)

-- ---- what reads it

abbrev pub by_row : Row → Standing → Option (Req × Standing)
by_row (RowOf form make) s = do
  x ← fields_at form s
  Some (make x.0, x.1)

-- the call of a word, of which the fields are read
abbrev pub request_at : Word → Standing → Option (Req × Standing)
request_at w s = by_row (row_of w) s

-- the request that a line is read as, with data of at most so many bytes, and whether each field is in its range
unfoldable pub call_of : ℕ → List ℕ → Option (Req × Bool)
call_of limit line = do
  w ← word_in (split_while is_no_space line).0
  x ← request_at w (record { limit = limit; fits = true; rest = (split_while is_no_space line).1 })
  at_end x.1.rest (x.0, x.1.fits)

-- a request whose fields are in their ranges, or none
abbrev pub if_fits : Req → Bool → Option Req
if_fits r fits = if fits then Some r else None

-- ---- what a reader returned

abbrev pub Reads : {A : Type 0} → Option (A × Standing) → Result A Stop → Standing → Type 0
Reads step (Ok x) after = step ≡ Some (x, after)
Reads step (Err stop) after = stop ≡ NoRequest → step ≡ None

abbrev pub ReadsWhole : {A : Type 0} → Option A → Result A Stop → Type 0
ReadsWhole step (Ok x) = step ≡ Some x
ReadsWhole step (Err stop) = stop ≡ NoRequest → step ≡ None

-- the most data of a call in a trace
abbrev pub trace_limit : ℕ
trace_limit = 65280

-- the request that a line of a trace spells, or that it spells none
abbrev pub IsSpelled : Option Req → List ℕ → Type 0
IsSpelled (Some r) line = (is_writable trace_limit r ≡ true) × (line ≡ request_text r)
IsSpelled None line = (r : Req) → is_writable trace_limit r ≡ true → line ≡ request_text r → ⊥
