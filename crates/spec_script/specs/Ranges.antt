-- What a script keeps: its ranges, one declaration for each id of a kind, and the lines that can be written. It is this
-- project's own.
use Rattle.std.specs.Prelude.{◌≡◌, ◌≢◌, ℕ, ◌+◌, ◌-◌, Bool, true, false, not, ◌&&◌, List, [], ◌∷◌, ◌++◌, length, Option, Some, None, nat_le, nat_lt, ◌==◌}
use Rattle.std.specs.List.{list_all, list_any}
use Rattle.it_types.specs.declared.id.EndPt.{EndPt}
use Rattle.it_types.specs.declared.request.Req.{Req}
use Rattle.it_types.specs.declared.request.Req.TheVariants.{TcpSndDat, TcpSndBuf, UdpSndDat}
use Rattle.it_types.specs.Lines.{is_writable}
use Rattle.spec_script.specs.declared.script.Script.{Script}
use Rattle.spec_script.specs.declared.decl.Decl.{Decl}
use Rattle.spec_script.specs.declared.decl.Decl.TheVariants as declarations
use Rattle.spec_script.specs.declared.decl.Body.{Body}
use Rattle.spec_script.specs.declared.decl.Line.{Line}
use Rattle.spec_script.specs.declared.decl.Line.TheVariants as body_lines
use Rattle.spec_script.specs.declared.script_line.ScriptLine.{ScriptLine}
use Rattle.spec_script.specs.declared.script_line.ScriptLine.TheVariants as script_lines
use Rattle.spec_script.specs.declared.script_line.ScriptLine.TheVariants.{Itron, Link, Ticks, FirstNode, SecondNode, Sem, Flg, Dtq, Task, Cyc, Cbr, End}
use Rattle.spec_script.specs.declared.script_line.NodeLine.{NodeLine}
use Rattle.spec_script.specs.Exits.{is_exit}
use Rattle.spec_script.specs.Lines.{first_node, second_node, lines_of}

-- a number from low to high
abbrev pub within : ℕ → Option ℕ → ℕ → Bool
within low None high = false
within low (Some n) high = nat_le low n && nat_le n high

-- the first number is at most the second
abbrev pub is_at_most : Option ℕ → Option ℕ → Bool
is_at_most (Some m) (Some n) = nat_le m n
is_at_most _ _ = false

-- so many of 16 packets, and so many others
abbrev pub are_parts_of_16 : Option ℕ → Option ℕ → Bool
are_parts_of_16 (Some lose) (Some twice) = nat_le (lose + twice) 16
are_parts_of_16 _ _ = false

-- the ranges of a line
abbrev pub is_node_in_range : NodeLine → Bool
is_node_in_range n = within 1 n.addr 4294967295 && (within 0 n.isn0 4294967295 && within 0 n.top0 2000000000)

abbrev pub is_in_range : ScriptLine → Bool
is_in_range (Link key lose twice delay) = within 0 key 18446744073709551615 && (are_parts_of_16 lose twice && within 0 delay 1000)
is_in_range (Ticks ticks) = within 0 ticks 400000
is_in_range (FirstNode n) = is_node_in_range n
is_in_range (SecondNode n) = is_node_in_range n
is_in_range (Sem id pri init max) = within 1 id 16 && (is_at_most init max && within 1 max 65535)
is_in_range (Flg id pri many clr init) = within 1 id 16 && within 0 init 4294967295
is_in_range (Dtq id pri cap) = within 1 id 16 && within 0 cap 1024
is_in_range (Task id pri act) = within 1 id 16 && within 1 pri 16
is_in_range (Cyc id period phase on) = within 1 id 8 && (within 1 period 1000000 && within 0 phase 1000000)
is_in_range (Cbr id) = within 1 id 16
is_in_range (script_lines.Body line fits) = fits
is_in_range Itron = true
is_in_range End = true

-- the greatest number of lines of a body
abbrev pub body_limit : ℕ
body_limit = 1000

abbrev pub is_task : ℕ → Decl → Bool
is_task id (declarations.Task task body) = task.id == id
is_task id _ = false

abbrev pub is_semaphore : ℕ → Decl → Bool
is_semaphore id (declarations.Sem sem) = sem.id == id
is_semaphore id _ = false

abbrev pub is_flag : ℕ → Decl → Bool
is_flag id (declarations.Flg flag) = flag.id == id
is_flag id _ = false

abbrev pub is_queue : ℕ → Decl → Bool
is_queue id (declarations.Dtq queue) = queue.id == id
is_queue id _ = false

abbrev pub is_cyclic : ℕ → Decl → Bool
is_cyclic id (declarations.Cyc cyc body) = cyc.id == id
is_cyclic id _ = false

abbrev pub is_routine : ℕ → Decl → Bool
is_routine id (declarations.Cbr cbr body) = cbr.0 == id
is_routine id _ = false

-- the id of this declaration's kind stands among those before
abbrev pub is_repeated : List Decl → Decl → Bool
is_repeated before (declarations.Task task body) = list_any (is_task task.id) before
is_repeated before (declarations.Sem sem) = list_any (is_semaphore sem.id) before
is_repeated before (declarations.Flg flag) = list_any (is_flag flag.id) before
is_repeated before (declarations.Dtq queue) = list_any (is_queue queue.id) before
is_repeated before (declarations.Cyc cyc body) = list_any (is_cyclic cyc.id) before
is_repeated before (declarations.Cbr cbr body) = list_any (is_routine cbr.0) before

-- ---- bodies

-- the most bytes of data of a call
abbrev pub data_limit : ℕ
data_limit = 1024

-- where the buffer is sent, the request has no data itself
abbrev pub leaves_data : Bool → List ℕ → Bool
leaves_data true [] = true
leaves_data true (byte ∷ bytes) = false
leaves_data false load = true

-- where the peer is sent to, the request has no destination itself
abbrev pub leaves_destination : Bool → EndPt → Bool
leaves_destination true dest = dest.addr == 0 && dest.port == 0
leaves_destination false dest = true

-- `buf` may stand for the data of a call that sends, and `peer` for the destination of a datagram
abbrev pub may_stand : Req → Bool → Bool → Bool
may_stand (TcpSndDat cep load tmo) buf peer = leaves_data buf load && not peer
may_stand (TcpSndBuf cep load) buf peer = leaves_data buf load && not peer
may_stand (UdpSndDat cep dest load tmo) buf peer = leaves_data buf load && leaves_destination peer dest
may_stand request buf peer = not buf && not peer

-- a call that a script can write: its numbers and data are in their ranges
abbrev pub is_written_call : Req → Bool → Bool → Bool
is_written_call request buf peer = may_stand request buf peer && is_writable data_limit request

-- a line that a script can write
abbrev pub is_written_line : Line → Bool
is_written_line (body_lines.Call request buf peer) = is_written_call request buf peer
is_written_line (body_lines.Fill bytes) = nat_le bytes 65280
is_written_line (body_lines.Loop rounds) = nat_le 1 rounds && nat_le rounds 65535
is_written_line body_lines.Pool = true
is_written_line body_lines.UntilEnd = true
is_written_line body_lines.UntilFail = true
is_written_line body_lines.UntilEmpty = true

-- ext_tsk, with which a task ends
abbrev pub is_exit_line : Line → Bool
is_exit_line (body_lines.Call request buf peer) = is_exit request
is_exit_line _ = false

-- a line of a handler's body: a handler is no task that ext_tsk could end
abbrev pub is_handler_line : Line → Bool
is_handler_line line = is_written_line line && not (is_exit_line line)

-- the greatest number of loops that are open at once
abbrev pub loop_limit : ℕ
loop_limit = 4

-- whether the line may stand where so many loops are open
abbrev pub may_nest : ℕ → Line → Bool
may_nest depth (body_lines.Loop rounds) = nat_lt depth loop_limit
may_nest depth body_lines.Pool = nat_lt 0 depth
may_nest depth body_lines.UntilEnd = nat_lt 0 depth
may_nest depth body_lines.UntilFail = nat_lt 0 depth
may_nest depth body_lines.UntilEmpty = nat_lt 0 depth
may_nest depth (body_lines.Call request buf peer) = true
may_nest depth (body_lines.Fill bytes) = true

-- how many loops are open after the line
abbrev pub depth_after : ℕ → Line → ℕ
depth_after depth (body_lines.Loop rounds) = depth + 1
depth_after depth body_lines.Pool = depth - 1
depth_after depth _ = depth

-- the loops of a body's lines nest, from where so many are open, and each is closed
abbrev pub is_nested : ℕ → List Line → Bool
is_nested depth [] = depth == 0
is_nested depth (line ∷ lines) = may_nest depth line && is_nested (depth_after depth line) lines

-- a body whose lines pass the test and nest, and which isn't too long
abbrev pub is_written_body : (Line → Bool) → Body → Bool
is_written_body may_have body = nat_le (length body.lines) body_limit && (list_all may_have body.lines && is_nested 0 body.lines)

-- a declaration that can be written: its body, if it has one, can
abbrev pub is_written_declaration : Decl → Bool
is_written_declaration (declarations.Task task body) = is_written_body is_written_line body
is_written_declaration (declarations.Cyc cyc body) = is_written_body is_handler_line body
is_written_declaration (declarations.Cbr cbr body) = is_written_body is_handler_line body
is_written_declaration _ = true

-- each id of a kind is declared once
abbrev pub are_distinct : List Decl → List Decl → Bool
are_distinct before [] = true
are_distinct before (d ∷ ds) = not (is_repeated before d) && are_distinct (before ++ d ∷ []) ds

-- the declarations of a node: each can be written, and each id of a kind is declared once
pub record AreGood (decls : List Decl) : Type 0 where
  pub written : list_all is_written_declaration decls ≡ true
  pub distinct : are_distinct [] decls ≡ true

-- a script that keeps all this
pub record IsGood (s : Script) : Type 0 where
  pub ranges : list_all is_in_range (lines_of s) ≡ true
  pub first : AreGood (first_node s).decls
  pub second : AreGood (second_node s).decls
  pub addresses : (second_node s).addr ≢ (first_node s).addr
  pub four_numbers : length s.link ≡ 4
  pub two_nodes : length s.nodes ≡ 2
