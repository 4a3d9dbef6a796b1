-- What a body is declared with: the line that opens it, the lines that it may have, and the declaration that it ends. It is this
-- project's own.
use Rattle.std.specs.Prelude.{Bool, true, not, Some}
use Rattle.spec_script.specs.declared.decl.Decl.{Decl}
use Rattle.spec_script.specs.declared.decl.Decl.TheVariants as declarations
use Rattle.spec_script.specs.declared.decl.Body.{Body}
use Rattle.spec_script.specs.declared.decl.Line.{Line}
use Rattle.spec_script.specs.declared.script_line.ScriptLine.{ScriptLine}
use Rattle.spec_script.specs.declared.script_line.ScriptLine.TheVariants as script_lines
use Rattle.spec_script.specs.Ranges.{is_exit_line}
use Rattle.s_script.specs.declared.owner.Owner.{Owner}
use Rattle.s_script.specs.declared.owner.Owner.TheVariants.{Task, Cyc, Cbr}

-- the line that opens its body
abbrev pub opening : Owner → ScriptLine
opening (Task task) = script_lines.Task (Some task.id) (Some task.pri) task.act
opening (Cyc cyc) = script_lines.Cyc (Some cyc.id) (Some cyc.period) (Some cyc.phase) cyc.on
opening (Cbr cbr) = script_lines.Cbr (Some cbr.0)

-- whether its body may have the line: a handler is no task that ext_tsk could end
abbrev pub may_have : Owner → Line → Bool
may_have (Task task) line = true
may_have _ line = not (is_exit_line line)

-- its declaration, with its body
abbrev pub declaration_of : Owner → Body → Decl
declaration_of (Task task) body = declarations.Task task body
declaration_of (Cyc cyc) body = declarations.Cyc cyc body
declaration_of (Cbr cbr) body = declarations.Cbr cbr body
