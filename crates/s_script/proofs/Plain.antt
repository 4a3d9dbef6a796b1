-- The lines of a text, where none has an LF in it.
use Rattle.std.proofs.Common.{◌≡◌, ℕ, ◌/◌, ◌%◌, ◌<◌, ◌≤◌, Bool, true, false, eqb, ltb, leb, List, [], ◌∷◌, ◌++◌, Option, codes, refl, ap, ◌∙◌, append_assoc, inl, inr, arith}
use Rattle.std.specs.List.{list_all, flat_map, filter}
use Rattle.std.specs.Char.{is_ascii_digit}
use Rattle.std.specs.Fmt.{decimal}
use Rattle.std.proofs.lemmas.Bool.{cases_Bool, and_parts, not-true, ne_eqb, leb-true, ltb-true}
use Rattle.std.proofs.lemmas.List.Folds.{list_all-append}
use Rattle.std.specs.Prelude.{nat_eq}
use Rattle.std.specs.Cmp.Lexicographic.{pointwise}
use Rattle.it_types.specs.declared.id.CepId.{CepId}
use Rattle.it_types.specs.declared.id.EndPt.{EndPt}
use Rattle.it_types.specs.declared.handler.FnCode.{FnCode}
use Rattle.it_types.specs.declared.handler.FnCode.TheVariants as functions
use Rattle.it_types.specs.declared.request.Req.{Req}
use Rattle.it_types.specs.declared.request.Req.TheVariants.{TcpSndDat, TcpSndBuf, UdpSndDat}
use Rattle.it_types.specs.declared.timeout.Tmo.{Tmo}
use Rattle.it_types.specs.declared.timeout.Tmo.TheVariants as timeouts
use Rattle.it_types.specs.declared.calls.Word.{Word}
use Rattle.it_types.specs.declared.calls.Word.TheVariants as words
use Rattle.it_types.specs.declared.calls.TheConstants.{ALL_WORDS}
use Rattle.it_types.specs.Address.{address_text, end_point_text}
use Rattle.it_types.specs.Spelling.{timeout_text, mode_text, function_text}
use Rattle.it_types.specs.Kinds.{Kind, Object, Reception, Point, Number, Port, Delay, Time, Mode, Destination, Load, Timeout, TcpFunction, UdpFunction, Value, text_of, greatest_time, is_written_timeout, is_end_point}
use Rattle.it_types.specs.Kinds as Kinds
use Rattle.it_types.specs.Fields.{Form, Fields, field_text, fields_text, are_in_range}
use Rattle.it_types.specs.Requests.{word_text, Of, form_of, parts_of}
use Rattle.it_types.specs.Requests as calls
use Rattle.it_types.specs.Lines.{call_word, call_fields_text, call_is_in_range, is_writable}
use Rattle.it_types.proofs.Finding.{found_passes}
use Rattle.it_types.proofs.LineLaws.{row}
use Rattle.spec_script.specs.declared.script_line.ScriptLine.{ScriptLine}
use Rattle.spec_script.specs.declared.script_line.ScriptLine.TheVariants.{Itron, Link, Ticks, FirstNode, SecondNode, Sem, Flg, Dtq, Task, Cyc, Cbr, Body, End}
use Rattle.spec_script.specs.declared.decl.Line.{Line}
use Rattle.spec_script.specs.declared.decl.Line.TheVariants.{Call, Fill, Loop, Pool, UntilEnd, UntilFail, UntilEmpty}
use Rattle.spec_script.specs.Lines.{choice_text, order_text, waiters_text, clearing_text, start_text, running_text, field, node_text, data_field, destination_field, call_text, body_line_text, line_text, ended}
use Rattle.spec_script.specs.Ranges.{within, is_at_most, are_parts_of_16, is_node_in_range, is_in_range, data_limit, may_stand, is_written_line}
use Rattle.spec_script.specs.Text.{onto_first, split_lines}
use Rattle.s_script.proofs.FirstLines.{is_no_lf}
use Rattle.it_types.proofs.Numerals.{decimal_digits}
use Rattle.it_types.proofs.HexWords.{hex_passes}
use Rattle.s_script.proofs.LineTakes.{is_written}
use Rattle.s_script.proofs.LineAgain.{in_bounds, at_most, in_parts}

-- ---- lines and their text

-- bytes without LF
abbrev pub is_plain : List ℕ → Bool
is_plain bytes = list_all is_no_lf bytes

-- a plain line is split off
pub split_ended : (line more : List ℕ) → is_plain line ≡ true → split_lines (ended line ++ more) ≡ (line ∷ (split_lines more).0, (split_lines more).1)
unfolding split_lines
split_ended [] more plain = refl
split_ended (b ∷ line) more plain =
    let parts = and_parts (is_no_lf b) (is_plain line) plain in
    let no_end : eqb b 10 ≡ false = not-true (eqb b 10) parts.0 in
    rw (no_end, split_ended line more parts.1) refl

-- a plain rest has no line
pub split_rest : (rest : List ℕ) → is_plain rest ≡ true → split_lines rest ≡ ([], rest)
unfolding split_lines
split_rest [] plain = refl
split_rest (b ∷ rest) plain =
    let parts = and_parts (is_no_lf b) (is_plain rest) plain in
    let no_end : eqb b 10 ≡ false = not-true (eqb b 10) parts.0 in
    rw (no_end, split_rest rest parts.1) refl

-- lines that are joined are split again
pub split_joined : (lines : List (List ℕ)) (rest : List ℕ) → list_all is_plain lines ≡ true → is_plain rest ≡ true → split_lines (flat_map ended lines ++ rest) ≡ (lines, rest)
split_joined [] rest plain plain_rest = split_rest rest plain_rest
split_joined (line ∷ lines) rest plain plain_rest =
    let parts = and_parts (is_plain line) (list_all is_plain lines) plain in
    ap split_lines (append_assoc (ended line) (flat_map ended lines) rest) ∙ split_ended line (flat_map ended lines ++ rest) parts.0
    ∙ ap (λ (x : List (List ℕ) × List ℕ). (line ∷ x.0, x.1)) (split_joined lines rest parts.1 plain_rest)

-- the lines and the rest of a text are plain
pub record ArePlain (parts : List (List ℕ) × List ℕ) : Type 0 where
  pub lines : list_all is_plain parts.0 ≡ true
  pub rest : is_plain parts.1 ≡ true

-- one more byte that is no LF
plain_onto : (b : ℕ) (lines : List (List ℕ)) (rest : List ℕ) → eqb b 10 ≡ false → ArePlain (lines, rest) → ArePlain (onto_first b (lines, rest))
plain_onto b [] rest f plain = record { lines = refl; rest = rw f plain.rest }
plain_onto b (line ∷ lines) rest f plain = record { lines = rw f plain.lines; rest = plain.rest }

-- the lines of a text are plain
pub split_plain : (text : List ℕ) → ArePlain (split_lines text)
unfolding split_lines
split_plain [] = record { lines = refl; rest = refl }
split_plain (b ∷ text) =
    let more = split_plain text in
    elim (cases_Bool (eqb b 10)) [
      | inl t ↦ rw t (record { lines = more.lines; rest = more.rest })
      | inr f ↦ rw f (plain_onto b (split_lines text).0 (split_lines text).1 f more)
    ]

-- so are those that a filter keeps
pub filter_plain : (test : List ℕ → Bool) (lines : List (List ℕ)) → list_all is_plain lines ≡ true → list_all is_plain (filter test lines) ≡ true
filter_plain test [] plain = refl
filter_plain test (line ∷ lines) plain =
    let parts = and_parts (is_plain line) (list_all is_plain lines) plain in
    elim (cases_Bool (test line)) [
      | inl t ↦ rw t (rw (parts.0, filter_plain test lines parts.1) refl)
      | inr f ↦ rw f (filter_plain test lines parts.1)
    ]

-- ---- the text of a line is plain

-- a digit is no LF
digit_plain : (b : ℕ) → is_ascii_digit b ≡ true → is_no_lf b ≡ true
digit_plain b digit =
    let other : eqb b 10 ≡ false = ne_eqb b 10 (λ e. omega (arith, leb-true 48 b (and_parts (leb 48 b) (leb b 57) digit).0)) in
    rw other refl

-- digits are plain
all_plain : (ds : List ℕ) → list_all is_ascii_digit ds ≡ true → is_plain ds ≡ true
all_plain [] digits = refl
all_plain (d ∷ ds) digits = let parts = and_parts (is_ascii_digit d) (list_all is_ascii_digit ds) digits in rw (digit_plain d parts.0, all_plain ds parts.1) refl

-- a number is plain
number_plain : (n : ℕ) → n < 18446744073709551616 → is_plain (decimal n) ≡ true
number_plain n fits = all_plain (decimal n) (decimal_digits n fits)

-- a number and what follows it
then_plain : (n : ℕ) (rest : List ℕ) → n < 18446744073709551616 → is_plain rest ≡ true → is_plain (decimal n ++ rest) ≡ true
then_plain n rest fits plain = rw (list_all-append is_no_lf (decimal n) rest, number_plain n fits, plain) refl

-- an address and what follows it
address_plain : (addr : ℕ) (rest : List ℕ) → addr ≤ 4294967295 → is_plain rest ≡ true → is_plain (address_text addr ++ rest) ≡ true
address_plain addr rest high plain =
    rw (list_all-append is_no_lf (address_text addr) rest, plain)
    (rw (then_plain (addr / 16777216) (codes "." ++ (decimal (addr / 65536 % 256) ++ (codes "." ++ (decimal (addr / 256 % 256) ++ (codes "." ++ decimal (addr % 256)))))) (omega arith)
    (then_plain (addr / 65536 % 256) (codes "." ++ (decimal (addr / 256 % 256) ++ (codes "." ++ decimal (addr % 256)))) (omega arith)
    (then_plain (addr / 256 % 256) (codes "." ++ decimal (addr % 256)) (omega arith) (number_plain (addr % 256) (omega arith))))) refl)

-- ADDR ISN TOP
node_plain : (addr isn0 top0 : Option ℕ) → is_node_in_range (record { addr = addr; isn0 = isn0; top0 = top0 }) ≡ true → is_plain (node_text (record { addr = addr; isn0 = isn0; top0 = top0 })) ≡ true
node_plain addr isn0 top0 range =
    let bounds = and_parts (within 1 addr 4294967295) _ range in
    let others = and_parts (within 0 isn0 4294967295) (within 0 top0 2000000000) bounds.1 in
    in_bounds 1 addr 4294967295 bounds.0 λ a e x.
    in_bounds 0 isn0 4294967295 others.0 λ i f y.
    in_bounds 0 top0 2000000000 others.1 λ t g z.
    rw (e, f, g) (address_plain a (codes " " ++ (decimal i ++ (codes " " ++ decimal t))) x (then_plain i (codes " " ++ decimal t) (omega arith) (number_plain t (omega arith))))

-- plain bytes after plain ones
both_plain : (front rest : List ℕ) → is_plain front ≡ true → is_plain rest ≡ true → is_plain (front ++ rest) ≡ true
both_plain front rest one other = rw (list_all-append is_no_lf front rest, one, other) refl

-- one of two words and what follows it
choice_plain : (one other : List ℕ) (holds : Bool) (rest : List ℕ) → is_plain one ≡ true → is_plain other ≡ true → is_plain rest ≡ true → is_plain (choice_text one other holds ++ rest) ≡ true
choice_plain one other true rest first second more = both_plain one rest first more
choice_plain one other false rest first second more = both_plain other rest second more

-- whether tasks wait by their priorities, and what follows it
order_plain : (pri : Bool) (rest : List ℕ) → is_plain rest ≡ true → is_plain (order_text pri ++ rest) ≡ true
order_plain pri rest more = choice_plain (codes "pri") (codes "fifo") pri rest refl refl more

-- whether a task is active
start_plain : (act : Bool) → is_plain (start_text act) ≡ true
start_plain true = refl
start_plain false = refl

-- whether a cyclic handler runs
running_plain : (on : Bool) → is_plain (running_text on) ≡ true
running_plain true = refl
running_plain false = refl

-- sem ID fifo INIT MAX
sem_plain : (id : Option ℕ) (pri : Bool) (init max : Option ℕ) → is_in_range (Sem id pri init max) ≡ true → is_plain (line_text (Sem id pri init max)) ≡ true
sem_plain id pri init max range =
    let bounds = and_parts (within 1 id 16) _ range in
    let counts = and_parts (is_at_most init max) (within 1 max 65535) bounds.1 in
    in_bounds 1 id 16 bounds.0 λ i e x.
    in_bounds 1 max 65535 counts.1 λ m f y.
    at_most init m (rw f at counts.0) λ n g z.
    rw (e, f, g) (then_plain i (field (order_text pri) ++ (field (decimal n) ++ field (decimal m))) (omega arith)
    (order_plain pri (field (decimal n) ++ field (decimal m))
    (then_plain n (field (decimal m)) (omega arith) (number_plain m (omega arith)))))

-- flg ID fifo one clr INIT
flg_plain : (id : Option ℕ) (pri many clr : Bool) (init : Option ℕ) → is_in_range (Flg id pri many clr init) ≡ true → is_plain (line_text (Flg id pri many clr init)) ≡ true
flg_plain id pri many clr init range =
    let bounds = and_parts (within 1 id 16) (within 0 init 4294967295) range in
    in_bounds 1 id 16 bounds.0 λ i e x.
    in_bounds 0 init 4294967295 bounds.1 λ n f y.
    rw (e, f) (then_plain i (field (order_text pri) ++ (field (waiters_text many) ++ (field (clearing_text clr) ++ field (decimal n)))) (omega arith)
    (order_plain pri (field (waiters_text many) ++ (field (clearing_text clr) ++ field (decimal n)))
    (choice_plain (codes "many") (codes "one") many (field (clearing_text clr) ++ field (decimal n)) refl refl
    (choice_plain (codes "clr") (codes "keep") clr (field (decimal n)) refl refl (number_plain n (omega arith))))))

-- dtq ID fifo CAP
dtq_plain : (id : Option ℕ) (pri : Bool) (cap : Option ℕ) → is_in_range (Dtq id pri cap) ≡ true → is_plain (line_text (Dtq id pri cap)) ≡ true
dtq_plain id pri cap range =
    let bounds = and_parts (within 1 id 16) (within 0 cap 1024) range in
    in_bounds 1 id 16 bounds.0 λ i e x.
    in_bounds 0 cap 1024 bounds.1 λ c f y.
    rw (e, f) (then_plain i (field (order_text pri) ++ field (decimal c)) (omega arith) (order_plain pri (field (decimal c)) (number_plain c (omega arith))))

-- task ID PRI act
task_plain : (id pri : Option ℕ) (act : Bool) → is_in_range (Task id pri act) ≡ true → is_plain (line_text (Task id pri act)) ≡ true
task_plain id pri act range =
    let bounds = and_parts (within 1 id 16) (within 1 pri 16) range in
    in_bounds 1 id 16 bounds.0 λ i e x.
    in_bounds 1 pri 16 bounds.1 λ p f y.
    rw (e, f) (then_plain i (field (decimal p) ++ field (start_text act)) (omega arith) (then_plain p (field (start_text act)) (omega arith) (start_plain act)))

-- cyc ID PERIOD PHASE on
cyc_plain : (id period phase : Option ℕ) (on : Bool) → is_in_range (Cyc id period phase on) ≡ true → is_plain (line_text (Cyc id period phase on)) ≡ true
cyc_plain id period phase on range =
    let bounds = and_parts (within 1 id 8) _ range in
    let times = and_parts (within 1 period 1000000) (within 0 phase 1000000) bounds.1 in
    in_bounds 1 id 8 bounds.0 λ i e x.
    in_bounds 1 period 1000000 times.0 λ p f y.
    in_bounds 0 phase 1000000 times.1 λ q g z.
    rw (e, f, g) (then_plain i (field (decimal p) ++ (field (decimal q) ++ field (running_text on))) (omega arith)
    (then_plain p (field (decimal q) ++ field (running_text on)) (omega arith)
    (then_plain q (field (running_text on)) (omega arith) (running_plain on))))

-- cbr ID
cbr_plain : (id : Option ℕ) → is_in_range (Cbr id) ≡ true → is_plain (line_text (Cbr id)) ≡ true
cbr_plain id range = in_bounds 1 id 16 range λ i e high. rw e (number_plain i (omega arith))

-- ---- a call, by the kinds of its fields

ticks_plain : (n : ℕ) → is_written_timeout (timeouts.Ms n) ≡ true → is_plain (decimal n) ≡ true
ticks_plain n written = number_plain n (omega (arith, leb-true n greatest_time (and_parts (leb 1 n) (leb n greatest_time) written).1))

timeout_plain : (tmo : Tmo) → is_written_timeout tmo ≡ true → is_plain (timeout_text tmo) ≡ true
timeout_plain timeouts.Pol written = refl
timeout_plain timeouts.Nblk written = refl
timeout_plain timeouts.Fevr written = refl
timeout_plain (timeouts.Ms n) written = ticks_plain n written

mode_plain : (all : Bool) → is_plain (mode_text all) ≡ true
mode_plain true = refl
mode_plain false = refl

function_plain : (f : FnCode) → is_plain (function_text f) ≡ true
unfolding function_text
function_plain functions.All = refl
function_plain functions.AcpCep = refl
function_plain functions.ConCep = refl
function_plain functions.ClsCep = refl
function_plain functions.SndDat = refl
function_plain functions.RcvDat = refl
function_plain functions.GetBuf = refl
function_plain functions.RcvBuf = refl
function_plain functions.UdpSnd = refl
function_plain functions.UdpRcv = refl
function_plain functions.UdpEvent = refl

end_point_plain : (e : EndPt) → is_end_point e ≡ true → is_plain (end_point_text e) ≡ true
end_point_plain e range =
    let c = and_parts (ltb e.addr 4294967296) (ltb e.port 65536) range in
    address_plain e.addr (codes ":" ++ decimal e.port) (omega (arith, ltb-true e.addr 4294967296 c.0)) (number_plain e.port (omega (arith, ltb-true e.port 65536 c.1)))

-- a value in its range
value_plain : (limit : ℕ) (k : Kind) (v : Value k) → Kinds.is_in_range limit k v ≡ true → is_plain (text_of k v) ≡ true
value_plain limit Kinds.Task v range = number_plain v.0 (omega (arith, ltb-true v.0 4294967296 range))
value_plain limit Object v range = number_plain v.0 (omega (arith, ltb-true v.0 4294967296 range))
value_plain limit Reception v range = number_plain v.0 (omega (arith, ltb-true v.0 4294967296 range))
value_plain limit Point v range = number_plain v.0 (omega (arith, ltb-true v.0 4294967296 range))
value_plain limit Number v range = number_plain v (omega (arith, ltb-true v 4294967296 range))
value_plain limit Port v range = number_plain v (omega (arith, ltb-true v 65536 range))
value_plain limit Delay v range = number_plain v (omega (arith, leb-true v greatest_time range))
value_plain limit Time v range = number_plain v (omega (arith, ltb-true v 9223372036854775808 range))
value_plain limit Mode v range = mode_plain v
value_plain limit Destination v range = end_point_plain v range
value_plain limit Load v range = hex_passes is_no_lf refl refl v
value_plain limit Timeout v range = timeout_plain v range
value_plain limit TcpFunction v range = function_plain v
value_plain limit UdpFunction v range = function_plain v

-- fields in their ranges
fields_plain : (limit : ℕ) (ks : Form) (fs : Fields ks) → are_in_range limit ks fs ≡ true → is_plain (fields_text ks fs) ≡ true
unfolding field_text
fields_plain limit [] fs range = refl
fields_plain limit (k ∷ ks) fs range =
    let parts = and_parts (Kinds.is_in_range limit k fs.0) (are_in_range limit ks fs.1) range in
    both_plain (text_of k fs.0) (fields_text ks fs.1) (value_plain limit k fs.0 parts.0) (fields_plain limit ks fs.1 parts.1)

-- words
words_plain : list_all (λ (w : Word). is_plain (word_text w)) ALL_WORDS ≡ true
unfolding word_text
words_plain = refl

word_plain : (w : Word) → is_plain (word_text w) ≡ true
word_plain w = found_passes (λ v. pointwise nat_eq (word_text w) (word_text v)) (λ v. is_plain (word_text v)) ALL_WORDS w words_plain (row w).1.0

parts_plain : (limit : ℕ) (c : calls.Call) → call_is_in_range limit c ≡ true → is_plain (word_text (call_word c) ++ call_fields_text c) ≡ true
parts_plain limit (Of w f) range = both_plain (word_text w) (fields_text (form_of w) f) (word_plain w) (fields_plain limit (form_of w) f range)

-- a field in its range
field_plain : (k : Kind) (v : Value k) → Kinds.is_in_range data_limit k v ≡ true → is_plain (field_text k v) ≡ true
unfolding field_text
field_plain k v range = value_plain data_limit k v range

-- data, or buf
data_plain : (buf : Bool) (load : List ℕ) → Kinds.is_in_range data_limit Load load ≡ true → is_plain (data_field buf load) ≡ true
data_plain true load range = refl
data_plain false load range = field_plain Load load range

-- an end point, or peer
destination_plain : (peer : Bool) (dest : EndPt) → Kinds.is_in_range data_limit Destination dest ≡ true → is_plain (destination_field peer dest) ≡ true
destination_plain true dest range = refl
destination_plain false dest range = field_plain Destination dest range

-- the calls that send, each with its fields in their ranges
send_plain : (cep : CepId) (load : List ℕ) (tmo : Tmo) (buf peer : Bool) → is_writable data_limit (TcpSndDat cep load tmo) ≡ true → is_plain (call_text (TcpSndDat cep load tmo) buf peer) ≡ true
send_plain cep load tmo buf peer range =
    let c = and_parts (Kinds.is_in_range data_limit Point cep) _ range in
    let d = and_parts (Kinds.is_in_range data_limit Load load) _ c.1 in
    let t = and_parts (Kinds.is_in_range data_limit Timeout tmo) true d.1 in
    both_plain (word_text words.TcpSndDat) (field_text Point cep ++ (data_field buf load ++ field_text Timeout tmo)) (word_plain words.TcpSndDat)
    (both_plain (field_text Point cep) (data_field buf load ++ field_text Timeout tmo) (field_plain Point cep c.0)
    (both_plain (data_field buf load) (field_text Timeout tmo) (data_plain buf load d.0) (field_plain Timeout tmo t.0)))

hand_over_plain : (cep : CepId) (load : List ℕ) (buf peer : Bool) → is_writable data_limit (TcpSndBuf cep load) ≡ true → is_plain (call_text (TcpSndBuf cep load) buf peer) ≡ true
hand_over_plain cep load buf peer range =
    let c = and_parts (Kinds.is_in_range data_limit Point cep) _ range in
    let d = and_parts (Kinds.is_in_range data_limit Load load) true c.1 in
    both_plain (word_text words.TcpSndBuf) (field_text Point cep ++ data_field buf load) (word_plain words.TcpSndBuf)
    (both_plain (field_text Point cep) (data_field buf load) (field_plain Point cep c.0) (data_plain buf load d.0))

datagram_plain : (cep : CepId) (dest : EndPt) (load : List ℕ) (tmo : Tmo) (buf peer : Bool) → is_writable data_limit (UdpSndDat cep dest load tmo) ≡ true
    → is_plain (call_text (UdpSndDat cep dest load tmo) buf peer) ≡ true
datagram_plain cep dest load tmo buf peer range =
    let c = and_parts (Kinds.is_in_range data_limit Point cep) _ range in
    let g = and_parts (Kinds.is_in_range data_limit Destination dest) _ c.1 in
    let d = and_parts (Kinds.is_in_range data_limit Load load) _ g.1 in
    let t = and_parts (Kinds.is_in_range data_limit Timeout tmo) true d.1 in
    both_plain (word_text words.UdpSndDat) (field_text Point cep ++ (destination_field peer dest ++ (data_field buf load ++ field_text Timeout tmo))) (word_plain words.UdpSndDat)
    (both_plain (field_text Point cep) (destination_field peer dest ++ (data_field buf load ++ field_text Timeout tmo)) (field_plain Point cep c.0)
    (both_plain (destination_field peer dest) (data_field buf load ++ field_text Timeout tmo) (destination_plain peer dest g.0)
    (both_plain (data_field buf load) (field_text Timeout tmo) (data_plain buf load d.0) (field_plain Timeout tmo t.0))))

-- a call whose fields are in their ranges
call_plain : (r : Req) (buf peer : Bool) → is_writable data_limit r ≡ true → is_plain (call_text r buf peer) ≡ true
call_plain (TcpSndDat cep load tmo) buf peer range = send_plain cep load tmo buf peer range
call_plain (TcpSndBuf cep load) buf peer range = hand_over_plain cep load buf peer range
call_plain (UdpSndDat cep dest load tmo) buf peer range = datagram_plain cep dest load tmo buf peer range
call_plain r buf peer range = parts_plain data_limit (parts_of r) range

-- a line of a body that can be written
body_plain : (line : Line) → is_written_line line ≡ true → is_plain (body_line_text line) ≡ true
body_plain (Call r buf peer) written = call_plain r buf peer (and_parts (may_stand r buf peer) (is_writable data_limit r) written).1
body_plain (Fill n) written = number_plain n (omega (arith, leb-true n 65280 written))
body_plain (Loop n) written = number_plain n (omega (arith, leb-true n 65535 (and_parts (leb 1 n) (leb n 65535) written).1))
body_plain Pool written = refl
body_plain UntilEnd written = refl
body_plain UntilFail written = refl
body_plain UntilEmpty written = refl

-- link KEY LOSE TWICE DELAY
link_plain : (key lose twice delay : Option ℕ) → is_in_range (Link key lose twice delay) ≡ true → is_plain (line_text (Link key lose twice delay)) ≡ true
link_plain key lose twice delay range =
    let bounds = and_parts (within 0 key 18446744073709551615) _ range in
    let others = and_parts (are_parts_of_16 lose twice) (within 0 delay 1000) bounds.1 in
    in_bounds 0 key 18446744073709551615 bounds.0 λ k e x.
    in_parts lose twice others.0 λ m n f g y.
    in_bounds 0 delay 1000 others.1 λ d h z.
    rw (e, f, g, h) (then_plain k (field (decimal m) ++ (field (decimal n) ++ field (decimal d))) (omega arith)
    (then_plain m (field (decimal n) ++ field (decimal d)) (omega arith) (then_plain n (field (decimal d)) (omega arith) (number_plain d (omega arith)))))

-- each line in its ranges, which can be written if it is one of a body, is plain
pub line_plain : (l : ScriptLine) → is_in_range l ≡ true → is_written l ≡ true → is_plain (line_text l) ≡ true
line_plain Itron range written = refl
line_plain (Link key lose twice delay) range written = link_plain key lose twice delay range
line_plain (Ticks ticks) range written = in_bounds 0 ticks 400000 range λ t e high. rw e (number_plain t (omega arith))
line_plain (FirstNode n) range written = node_plain n.addr n.isn0 n.top0 range
line_plain (SecondNode n) range written = node_plain n.addr n.isn0 n.top0 range
line_plain (Sem id pri init max) range written = sem_plain id pri init max range
line_plain (Flg id pri many clr init) range written = flg_plain id pri many clr init range
line_plain (Dtq id pri cap) range written = dtq_plain id pri cap range
line_plain (Task id pri act) range written = task_plain id pri act range
line_plain (Cyc id period phase on) range written = cyc_plain id period phase on range
line_plain (Cbr id) range written = cbr_plain id range
line_plain (Body line fits) range written = body_plain line written
line_plain End range written = refl
