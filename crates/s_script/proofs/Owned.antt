-- What a body is declared with, and the body.
use Rattle.std.proofs.Common.{◌≡◌, Bool, true, not, refl}
use Rattle.std.proofs.lemmas.Bool.{and_parts}
use Rattle.spec_script.specs.declared.decl.Body.{Body}
use Rattle.spec_script.specs.declared.decl.Line.{Line}
use Rattle.spec_script.specs.declared.decl.Line.TheVariants as body_lines
use Rattle.spec_script.specs.Lines.{with_body, declaration_lines}
use Rattle.spec_script.specs.Ranges.{is_written_line, is_exit_line, is_handler_line, is_written_body, is_written_declaration}
use Rattle.s_script.specs.declared.owner.Owner.{Owner}
use Rattle.s_script.specs.declared.owner.Owner.TheVariants.{Task, Cyc, Cbr}
use Rattle.s_script.specs.Owners.{opening, may_have, declaration_of}

-- a line that can be written, and that the body may have
abbrev pub belongs : Owner → Line → Bool
belongs (Task task) line = is_written_line line
belongs _ line = is_handler_line line

-- a written line that the body may have belongs to it
pub line_belongs : (o : Owner) (line : Line) → is_written_line line ≡ true → may_have o line ≡ true → belongs o line ≡ true
line_belongs (Task task) line written may = written
line_belongs (Cyc cyc) line written may = rw (written, may) refl
line_belongs (Cbr cbr) line written may = rw (written, may) refl

-- a line that belongs to the body can be written, and the body may have it
pub line_parts : (o : Owner) (line : Line) → belongs o line ≡ true → (is_written_line line ≡ true) × (may_have o line ≡ true)
line_parts (Task task) line has = (has, refl)
line_parts (Cyc cyc) line has = and_parts (is_written_line line) (not (is_exit_line line)) has
line_parts (Cbr cbr) line has = and_parts (is_written_line line) (not (is_exit_line line)) has

-- the end of a loop belongs to each body
pub pool_belongs : (o : Owner) → belongs o body_lines.Pool ≡ true
pool_belongs (Task task) = refl
pool_belongs (Cyc cyc) = refl
pool_belongs (Cbr cbr) = refl

-- its declaration can be written where its body can
pub body_written : (o : Owner) (body : Body) → is_written_declaration (declaration_of o body) ≡ is_written_body (belongs o) body
body_written (Task task) body = refl
body_written (Cyc cyc) body = refl
body_written (Cbr cbr) body = refl

-- the lines of its declaration
pub lines_owned : (o : Owner) (body : Body) → declaration_lines (declaration_of o body) ≡ with_body (opening o) body
lines_owned (Task task) body = refl
lines_owned (Cyc cyc) body = refl
lines_owned (Cbr cbr) body = refl
