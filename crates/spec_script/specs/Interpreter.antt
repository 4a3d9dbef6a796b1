-- What a body does, line by line, on the answers that it gets. It is this project's own.
use Rattle.std.specs.Prelude.{ℕ, zero, suc, ◌+◌, ◌-◌, ◌*◌, ◌%◌, Bool, true, false, ◌&&◌, ◌||◌, List, [], ◌∷◌, drop, Option, Some, None, pos, nat_abs, int_le, int_lt, nat_lt, if◌then◌else◌}
use Rattle.std.specs.Ordering.{int_eq}
use Rattle.it_types.specs.declared.er.Er.{Er}
use Rattle.it_types.specs.declared.er.TheConstants.{E_OK, E_WBLK, E_BOVR}
use Rattle.it_types.specs.declared.id.NodeId.{NodeId}
use Rattle.it_types.specs.declared.id.TaskId.{TaskId}
use Rattle.it_types.specs.declared.id.EndPt.{EndPt}
use Rattle.it_types.specs.declared.handler.Handler.{Handler}
use Rattle.it_types.specs.declared.handler.Handler.TheVariants as handlers
use Rattle.it_types.specs.declared.request.Req.{Req}
use Rattle.it_types.specs.declared.request.Req.TheVariants.{ExtTsk, TcpAcpCep, TcpSndDat, TcpRcvDat, TcpSndBuf, TcpRcvBuf, UdpSndDat, UdpRcvDat}
use Rattle.spec_script.specs.declared.decl.Line.{Line}
use Rattle.spec_script.specs.declared.decl.Line.TheVariants.{Call, Fill, Loop, Pool, UntilEnd, UntilFail, UntilEmpty}
use Rattle.spec_script.specs.declared.want.Want.{Want}
use Rattle.spec_script.specs.declared.want.Want.TheVariants as wants

-- ---- where an interpreter stands

-- a loop that is open
pub record OpenLoop : Type 0 where
  pub lines : List Line  -- from its first line to the end of the body
  pub rounds : ℕ  -- that may follow this one

pub record Interpreter : Type 0 where
  pub rest : List Line  -- the lines from the next one on
  pub loops : List OpenLoop  -- the innermost first
  pub answer : Er  -- the last one's code
  pub buffer : List ℕ
  pub peer : EndPt
  pub pattern : ℕ  -- the next byte of the pattern
  pub is_handler : Bool

abbrev pub no_peer : EndPt
no_peer = record { addr = 0; port = 0 }

-- a callback routine begins with what it is told: the code and the bytes of the call that ended
abbrev pub told_code : Option Handler → Er
told_code (Some (handlers.Cbr cbr udp cep func code bytes)) = code
told_code _ = E_OK

abbrev pub told_bytes : Option Handler → List ℕ
told_bytes (Some (handlers.Cbr cbr udp cep func code bytes)) = bytes
told_bytes _ = []

abbrev pub is_entered : Option Handler → Bool
is_entered None = false
is_entered (Some h) = true

-- byte 0 of the pattern of a task, which is task 0 in a handler
abbrev pub first_of_pattern : NodeId → TaskId → ℕ
first_of_pattern node task = (16 * task.0 + 128 * node.0) % 256

-- the task whose pattern a body has
abbrev pub pattern_task : TaskId → Option Handler → TaskId
pattern_task task None = task
pattern_task task (Some h) = record { 0 = 0 }

-- before the first line of a body, which is a task's, or a handler's that was entered
abbrev pub started : List Line → NodeId → TaskId → Option Handler → Interpreter
started lines node task entered = record {
  rest = lines;
  loops = [];
  answer = told_code entered;
  buffer = told_bytes entered;
  peer = no_peer;
  pattern = first_of_pattern node (pattern_task task entered);
  is_handler = is_entered entered;
}

-- ---- the lines between two calls

-- so many bytes of the pattern, from this one on
unfoldable pub pattern_bytes : ℕ → ℕ → List ℕ
pattern_bytes zero byte = []
pattern_bytes (suc n) byte = byte ∷ pattern_bytes n ((byte + 1) % 256)

-- the lines after the pool of the loop that is open around so many others
unfoldable pub after_pool : ℕ → List Line → List Line
after_pool inner [] = []
after_pool inner (Loop rounds ∷ lines) = after_pool (suc inner) lines
after_pool zero (Pool ∷ lines) = lines
after_pool (suc inner) (Pool ∷ lines) = after_pool inner lines
after_pool inner (_ ∷ lines) = after_pool inner lines

-- a line was passed
abbrev pub onward : List Line → Interpreter → Interpreter
onward lines i = record i { rest = lines }

abbrev pub filled : ℕ → List Line → Interpreter → Interpreter
filled bytes lines i = record i { rest = lines; buffer = pattern_bytes bytes i.pattern; pattern = (i.pattern + bytes) % 256 }

abbrev pub loop_opened : ℕ → List Line → Interpreter → Interpreter
loop_opened rounds lines i = record i { rest = lines; loops = record { lines = lines; rounds = rounds - 1 } ∷ i.loops }

-- at the end of a loop: another round, or the lines after it
abbrev pub next_round : OpenLoop → List OpenLoop → List Line → Interpreter → Interpreter
next_round inner outer lines i =
    if nat_lt 0 inner.rounds then record i { rest = inner.lines; loops = record { lines = inner.lines; rounds = inner.rounds - 1 } ∷ outer }
    else record i { rest = lines; loops = outer }

abbrev pub round_ended : List OpenLoop → List Line → Interpreter → Interpreter
round_ended [] lines i = onward lines i
round_ended (inner ∷ outer) lines i = next_round inner outer lines i

-- the innermost loop is left, where the test holds
abbrev pub loop_left : List OpenLoop → List Line → Interpreter → Interpreter
loop_left [] lines i = onward lines i
loop_left (inner ∷ outer) lines i = record i { rest = after_pool 0 lines; loops = outer }

abbrev pub left_if : Bool → List Line → Interpreter → Interpreter
left_if true lines i = loop_left i.loops lines i
left_if false lines i = onward lines i

abbrev pub is_empty : List ℕ → Bool
is_empty [] = true
is_empty (byte ∷ bytes) = false

-- after a line that is no call, and the lines that follow it
abbrev pub passed : Line → List Line → Interpreter → Interpreter
passed (Call request buf peer) lines i = i
passed (Fill bytes) lines i = filled bytes lines i
passed (Loop rounds) lines i = loop_opened rounds lines i
passed Pool lines i = round_ended i.loops lines i
passed UntilEnd lines i = left_if (int_le i.answer.0 (pos 0)) lines i
passed UntilFail lines i = left_if (int_lt i.answer.0 (pos 0)) lines i
passed UntilEmpty lines i = left_if (is_empty i.buffer) lines i

-- the most lines that are passed from these on, up to the end of the body
unfoldable pub lines_passed : List Line → ℕ
lines_passed [] = 0
lines_passed (Loop rounds ∷ lines) = 1 + suc (rounds - 1) * lines_passed lines
lines_passed (_ ∷ lines) = 1 + lines_passed lines

-- and in the rounds that may follow
unfoldable pub rounds_passed : List OpenLoop → ℕ
rounds_passed [] = 0
rounds_passed (inner ∷ outer) = inner.rounds * lines_passed inner.lines + rounds_passed outer

abbrev pub most_passed : Interpreter → ℕ
most_passed i = lines_passed i.rest + rounds_passed i.loops

-- a call is next, or the body is at its end
abbrev pub is_stopped : List Line → Bool
is_stopped [] = true
is_stopped (Call request buf peer ∷ lines) = true
is_stopped (_ ∷ lines) = false

abbrev pub passed_first : List Line → Interpreter → Interpreter
passed_first [] i = i
passed_first (line ∷ lines) i = passed line lines i

-- after the line that is next; nothing changes where that is a call, or the body is at its end
abbrev pub passed_next : Interpreter → Interpreter
passed_next i = passed_first i.rest i

abbrev pub unless_stopped : Bool → (Interpreter → Interpreter) → Interpreter → Interpreter
unless_stopped true go_on i = i
unless_stopped false go_on i = go_on (passed_next i)

-- at the next call or the end of the body, when at most so many lines are passed
unfoldable pub forward : ℕ → Interpreter → Interpreter
forward zero i = i
forward (suc n) i = unless_stopped (is_stopped i.rest) (forward n) i

-- at the next call, or at the end of the body
abbrev pub up_to_call : Interpreter → Interpreter
up_to_call i = forward (most_passed i) i

-- ---- the call that it makes

abbrev pub data_of : Bool → List ℕ → List ℕ → List ℕ
data_of true buffer load = buffer
data_of false buffer load = load

abbrev pub destination_of : Bool → EndPt → EndPt → EndPt
destination_of true peer dest = peer
destination_of false peer dest = dest

-- the call, with the buffer and the peer where it sends these
abbrev pub request_with : Req → Bool → Bool → List ℕ → EndPt → Req
request_with (TcpSndDat cep load tmo) buf peer buffer to = TcpSndDat cep (data_of buf buffer load) tmo
request_with (TcpSndBuf cep load) buf peer buffer to = TcpSndBuf cep (data_of buf buffer load)
request_with (UdpSndDat cep dest load tmo) buf peer buffer to = UdpSndDat cep (destination_of peer to dest) (data_of buf buffer load) tmo
request_with request buf peer buffer to = request

-- after the last line a task ends, and a handler finishes
abbrev pub at_last : Bool → Want
at_last true = wants.Finish
at_last false = wants.Call ExtTsk

abbrev pub wanted_at : List Line → Interpreter → Want
wanted_at (Call request buf peer ∷ lines) i = wants.Call (request_with request buf peer i.buffer i.peer)
wanted_at _ i = at_last i.is_handler

-- what it does next
abbrev pub wanted : Interpreter → Want
wanted i = wanted_at (up_to_call i).rest (up_to_call i)

-- ---- the answer that it gets

-- the end point in the first six bytes, where there are six
unfoldable pub peer_in : List ℕ → EndPt → EndPt
peer_in (a ∷ b ∷ c ∷ d ∷ e ∷ f ∷ bytes) peer = record { addr = ((a * 256 + b) * 256 + c) * 256 + d; port = e * 256 + f }
peer_in _ peer = peer

-- the answer is of a call that was met, with the code or a number
abbrev pub succeeded : Er → Bool
succeeded code = int_le (pos 0) code.0

abbrev pub is_code : Er → Er → Bool
is_code code other = int_eq code.0 other.0

-- a datagram came, whole or cut
abbrev pub brought_datagram : Er → Bool
brought_datagram code = succeeded code || is_code code E_BOVR

-- the buffer, without the bytes that were sent of it
abbrev pub unsent : Bool → Er → Interpreter → Interpreter
unsent buf code i = if buf && succeeded code then record i { buffer = drop (nat_abs code.0) i.buffer } else i

-- the buffer, without what was sent in bytes that were borrowed
abbrev pub handed_over : Bool → Er → Interpreter → Interpreter
handed_over buf code i = if buf && is_code code E_OK then record i { buffer = [] } else i

abbrev pub with_buffer : Bool → List ℕ → Interpreter → Interpreter
with_buffer received bytes i = if received then record i { buffer = bytes } else i

-- a datagram: six bytes that tell where it comes from, and its data
abbrev pub with_datagram : Bool → List ℕ → Interpreter → Interpreter
with_datagram received bytes i = if received then record i { buffer = drop 6 bytes; peer = peer_in bytes i.peer } else i

abbrev pub with_peer : Bool → List ℕ → Interpreter → Interpreter
with_peer received bytes i = if received then record i { peer = peer_in bytes i.peer } else i

-- the buffer and the peer after a call's answer
abbrev pub taken : Req → Bool → Er → List ℕ → Interpreter → Interpreter
taken (TcpSndDat cep load tmo) buf code bytes i = unsent buf code i
taken (TcpSndBuf cep load) buf code bytes i = handed_over buf code i
taken (TcpRcvDat cep len tmo) buf code bytes i = with_buffer (succeeded code) bytes i
taken (TcpRcvBuf cep tmo) buf code bytes i = with_buffer (succeeded code) (drop 4 bytes) i
taken (UdpRcvDat cep len tmo) buf code bytes i = with_datagram (brought_datagram code) bytes i
taken (TcpAcpCep cep rep tmo) buf code bytes i = with_peer (succeeded code) bytes i
taken _ buf code bytes i = i

-- E_WBLK tells only that the call was accepted
abbrev pub taken_unless_accepted : Req → Bool → Er → List ℕ → Interpreter → Interpreter
taken_unless_accepted request buf code bytes i = if is_code code E_WBLK then i else taken request buf code bytes i

abbrev pub with_answer : Er → Interpreter → Interpreter
with_answer code i = record i { answer = code }

abbrev pub told_at : List Line → Er → List ℕ → Interpreter → Interpreter
told_at (Call request buf peer ∷ lines) code bytes i = onward lines (taken_unless_accepted request buf code bytes (with_answer code i))
told_at _ code bytes i = with_answer code i

-- after the answer to the call that it made: the line is passed, and what the answer brings is kept
abbrev pub told : Er → List ℕ → Interpreter → Interpreter
told code bytes i = told_at (up_to_call i).rest code bytes (up_to_call i)
