-- The laws of a line: what is read is the text of its request, and the text of a request is read again.
use Rattle.std.proofs.Common.{◌≡◌, ℕ, Bool, true, false, List, [], ◌++◌, Some, None, refl, sym, ap, ◌∙◌}
use Rattle.std.specs.List.{list_all}
use Rattle.std.proofs.lemmas.List.{append-nil}
use Rattle.it_types.specs.declared.request.Req.{Req}
use Rattle.it_types.specs.declared.request.Req.TheVariants as requests
use Rattle.it_types.specs.declared.calls.Word.{Word}
use Rattle.it_types.specs.declared.calls.Word.TheVariants.{ExtTsk}
use Rattle.it_types.specs.declared.calls.TheConstants.{ALL_WORDS}
use Rattle.it_types.specs.Cursor.{and_then, split_while, is_no_space}
use Rattle.it_types.specs.Fields.{Fields, Standing, fields_text, fields_at}
use Rattle.it_types.specs.Requests.{word_text, word_in, Row, RowOf, row_of, form_in, made_in, form_of, request_of, Call, Of, parts_of}
use Rattle.it_types.specs.Lines.{call_word, call_fields_text, call_is_in_range, call_request, word_of, request_text, is_writable, by_row, call_of, if_fits, trace_limit, IsSpelled}
use Rattle.it_types.proofs.ReadSteps.{read_step, found_is, at_end_is}
use Rattle.it_types.proofs.Fronts.{split_joins, split_again}
use Rattle.it_types.proofs.Finding.{found_text}
use Rattle.it_types.proofs.KindLaws.{ends_word}
use Rattle.it_types.proofs.FieldLaws.{fields_take, fields_end, fields_again}

-- ---- one line a call

-- what is known of each word
abbrev pub IsRow : Word → Type 0
IsRow w = (list_all is_no_space (word_text w) ≡ true) × ((word_in (word_text w) ≡ Some w) × ((f : Fields (form_of w)) → parts_of (request_of w f) ≡ Of w f))

-- the parts of a request make it again
pub again : (r : Req) → call_request (parts_of r) ≡ r
again requests.ExtTsk = refl
again _ = refl

-- the word of a call has no space and is found, and the parts of what is made of fields are the word and the fields
pub row : (w : Word) → IsRow w
unfolding word_text
row ExtTsk = (refl, (refl, λ f. refl))
row _ = (refl, (refl, λ f. refl))

-- ---- lines

-- the text of a word and its fields
abbrev call_text : Call → List ℕ
call_text (Of w f) = word_text w ++ fields_text (form_of w) f

text_is : (c : Call) → call_text c ≡ word_text (call_word c) ++ call_fields_text c
text_is (Of w f) = refl

-- a row reads by its form
by_row_is : (r : Row) (s : Standing) → by_row r s ≡ and_then (fields_at (form_in r) s) (λ x. Some (made_in r x.0, x.1))
by_row_is (RowOf form make) s = refl

-- a line that is read with its fields in their ranges is the text of its request
pub takes : (limit : ℕ) (line : List ℕ) (r : Req) → call_of limit line ≡ Some (r, true) → (line ≡ request_text r) × (is_writable limit r ≡ true)
unfolding call_of
takes limit line r e =
    read_step e λ w p e1. read_step e1 λ x q e2.
    let front = (split_while is_no_space line).0 in
    let last = (split_while is_no_space line).1 in
    let start : Standing = record { limit = limit; fits = true; rest = last } in
    read_step (sym (by_row_is (row_of w) start) ∙ q) λ y s q1.
    let made : (request_of w y.0, y.1) ≡ x = found_is (request_of w y.0, y.1) x q1 in
    let ended = at_end_is x.1.rest (x.0, x.1.fits) (r, true) e2 in
    let nil : y.1.rest ≡ [] = ap (λ (z : Req × Standing). z.1.rest) made ∙ ended.0 in
    let fits : y.1.fits ≡ true = ap (λ (z : Req × Standing). z.1.fits) made ∙ ap (λ (z : Req × Bool). z.1) ended.1 in
    let same : request_of w y.0 ≡ r = ap (λ (z : Req × Standing). z.0) made ∙ ap (λ (z : Req × Bool). z.0) ended.1 in
    let parts : Of w y.0 ≡ parts_of r = sym ((row w).1.1 y.0) ∙ ap parts_of same in
    let took = (fields_take (form_of w) start y s).fact fits in
    let fields : last ≡ fields_text (form_of w) y.0 = took.1.0 ∙ rw nil (append-nil (fields_text (form_of w) y.0)) in
    let text : line ≡ call_text (Of w y.0) =
    split_joins is_no_space line ∙ ap (λ (t : List ℕ). t ++ last) (found_text word_text front ALL_WORDS w p) ∙ ap (λ (t : List ℕ). word_text w ++ t) fields in (
      text ∙ ap call_text parts ∙ text_is (parts_of r),
      ap (call_is_in_range limit) (sym parts) ∙ took.1.1,
    )

-- the text of a word and fields in their ranges is read again
call_again : (limit : ℕ) (c : Call) → call_is_in_range limit c ≡ true → call_of limit (call_text c) ≡ Some (call_request c, true)
unfolding call_of and_then
call_again limit (Of w f) range =
    rw (
      split_again is_no_space (word_text w) (fields_text (form_of w) f) (row w).0 (ends_word (fields_text (form_of w) f) (fields_end (form_of w) f)),
      (row w).1.0,
      by_row_is (row_of w) (record { limit = limit; fits = true; rest = fields_text (form_of w) f }),
      fields_again limit (form_of w) f range,
    ) refl

-- the text of a request, by its first word
pub request_split : (r : Req) → split_while is_no_space (request_text r) ≡ (word_text (word_of r), call_fields_text (parts_of r))
request_split r = split_call (parts_of r)
  where
    split_call : (c : Call) → split_while is_no_space (word_text (call_word c) ++ call_fields_text c) ≡ (word_text (call_word c), call_fields_text c)
    split_call (Of w f) = split_again is_no_space (word_text w) (fields_text (form_of w) f) (row w).0 (ends_word (fields_text (form_of w) f) (fields_end (form_of w) f))

-- the text of a request is read again
pub read_again : (limit : ℕ) (r : Req) → is_writable limit r ≡ true → call_of limit (request_text r) ≡ Some (r, true)
read_again limit r range = ap (call_of limit) (sym (text_is (parts_of r))) ∙ call_again limit (parts_of r) range ∙ ap (λ (q : Req). Some (q, true)) (again r)

-- ---- traces

-- what is read with its fields in their ranges is spelled; a line that is read so that one isn't is no request's text
pub spelled : (line : List ℕ) (r : Req) (fits : Bool) → Some (r, fits) ≡ call_of trace_limit line → IsSpelled (if_fits r fits) line
spelled line r true e = let t = takes trace_limit line r (sym e) in (t.1, t.0)
spelled line r false e = λ q range same.
    let both : Some (r, false) ≡ Some (q, true) = e ∙ ap (call_of trace_limit) same ∙ read_again trace_limit q range in
    absurd (let f : false ≡ true = ap (λ (z : Req × Bool). z.1) (found_is (r, false) (q, true) both) in cc)

-- where nothing is read, the line is no request's text
pub nothing : (line : List ℕ) → None ≡ call_of trace_limit line → IsSpelled None line
nothing line e q range same = absurd (let none : None ≡ Some (q, true) = e ∙ ap (call_of trace_limit) same ∙ read_again trace_limit q range in cc)
