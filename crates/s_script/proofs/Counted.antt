-- No line of a script is skipped.
use Rattle.std.proofs.Common.{◌≡◌, ℕ, Bool, true, false, not, List, [], ◌∷◌, ◌++◌, refl}
use Rattle.std.proofs.lemmas.Bool.{not-true}
use Rattle.std.specs.Prelude.{nat_eq}
use Rattle.std.specs.List.{list_all}
use Rattle.std.specs.Cmp.Lexicographic.{pointwise}
use Rattle.it_types.specs.declared.request.Req.{Req}
use Rattle.it_types.specs.declared.request.Req.TheVariants.{TcpSndDat, TcpSndBuf, UdpSndDat}
use Rattle.it_types.specs.declared.calls.Word.{Word}
use Rattle.it_types.specs.declared.calls.TheConstants.{ALL_WORDS}
use Rattle.it_types.specs.Requests.{word_text, parts_of}
use Rattle.it_types.specs.Lines.{word_of, call_fields_text, request_text}
use Rattle.it_types.proofs.Finding.{found_passes}
use Rattle.it_types.proofs.LineLaws.{row}
use Rattle.spec_script.specs.declared.decl.Line.{Line}
use Rattle.spec_script.specs.declared.decl.Line.TheVariants as body_lines
use Rattle.spec_script.specs.declared.script_line.ScriptLine.{ScriptLine}
use Rattle.spec_script.specs.declared.script_line.ScriptLine.TheVariants.{Itron, Link, Ticks, FirstNode, SecondNode, Sem, Flg, Dtq, Task, Cyc, Cbr, Body, End}
use Rattle.spec_script.specs.Lines.{call_text, body_line_text, line_text}
use Rattle.spec_script.specs.Text.{is_skipped}

-- the words of calls are no beginnings of skipped lines
words_counted : list_all (λ (w : Word). not (is_skipped (word_text w))) ALL_WORDS ≡ true
unfolding word_text
words_counted = refl

word_counted : (w : Word) → is_skipped (word_text w) ≡ false
word_counted w = not-true (is_skipped (word_text w)) (found_passes (λ v. pointwise nat_eq (word_text w) (word_text v)) (λ v. not (is_skipped (word_text v))) ALL_WORDS w words_counted (row w).1.0)

-- what follows the first byte does not matter
more_counted : (front rest : List ℕ) → is_skipped front ≡ false → is_skipped (front ++ rest) ≡ false
more_counted [] rest e = absurd (let none : true ≡ false = e in cc)
more_counted (b ∷ front) rest e = e

request_counted : (r : Req) → is_skipped (request_text r) ≡ false
request_counted r = more_counted (word_text (word_of r)) (call_fields_text (parts_of r)) (word_counted (word_of r))

call_counted : (r : Req) (buf peer : Bool) → is_skipped (call_text r buf peer) ≡ false
unfolding word_text
call_counted (TcpSndDat cep load tmo) buf peer = refl
call_counted (TcpSndBuf cep load) buf peer = refl
call_counted (UdpSndDat cep dest load tmo) buf peer = refl
call_counted r buf peer = request_counted r

body_line_counted : (line : Line) → is_skipped (body_line_text line) ≡ false
body_line_counted (body_lines.Call request buf peer) = call_counted request buf peer
body_line_counted (body_lines.Fill bytes) = refl
body_line_counted (body_lines.Loop rounds) = refl
body_line_counted body_lines.Pool = refl
body_line_counted body_lines.UntilEnd = refl
body_line_counted body_lines.UntilFail = refl
body_line_counted body_lines.UntilEmpty = refl

pub line_counted : (l : ScriptLine) → is_skipped (line_text l) ≡ false
line_counted Itron = refl
line_counted (Link key lose twice delay) = refl
line_counted (Ticks ticks) = refl
line_counted (FirstNode n) = refl
line_counted (SecondNode n) = refl
line_counted (Sem id pri init max) = refl
line_counted (Flg id pri many clr init) = refl
line_counted (Dtq id pri cap) = refl
line_counted (Task id pri act) = refl
line_counted (Cyc id period phase on) = refl
line_counted (Cbr id) = refl
line_counted (Body line fits) = body_line_counted line
line_counted End = refl
