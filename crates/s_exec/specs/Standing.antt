-- Where the interpreter stands, as the specification has it.
use Rattle.std.specs.Prelude.{List, map, reverse}
use Rattle.spec_script.specs.Interpreter as spec
use Rattle.s_exec.specs.declared.open_loop.OpenLoop.{OpenLoop}
use Rattle.s_exec.specs.declared.exec.Exec.TheInside.{Inside}

abbrev pub open_loop : OpenLoop → spec.OpenLoop
open_loop inner = record { lines = inner.lines.now; rounds = inner.rounds }

-- the innermost first
abbrev pub open_loops : List OpenLoop → List spec.OpenLoop
open_loops loops = reverse (map open_loop loops)

abbrev pub interpreter : Inside → spec.Interpreter
interpreter e = record {
  rest = e.rest.now;
  loops = open_loops e.loops.items;
  answer = e.answer;
  buffer = e.buffer.items;
  peer = e.peer;
  pattern = e.pattern;
  is_handler = e.is_handler;
}
