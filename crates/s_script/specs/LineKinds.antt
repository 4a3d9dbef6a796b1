-- Which line bytes are read as: one definition for each kind of line but most calls, over the bytes after its first word. It is
-- this project's own.
use Rattle.std.specs.Prelude.{ℕ, Bool, true, false, ◌&&◌, List, [], ◌∷◌, Option, Some, None, is_some, unwrap_or, if◌then◌else◌, codes, nat_eq}
use Rattle.std.specs.Cmp.Lexicographic.{pointwise}
use Rattle.it_types.specs.declared.id.CepId.{CepId}
use Rattle.it_types.specs.declared.id.EndPt.{EndPt}
use Rattle.it_types.specs.declared.timeout.Tmo.{Tmo}
use Rattle.it_types.specs.declared.request.Req.{Req}
use Rattle.it_types.specs.declared.request.Req.TheVariants.{TcpSndDat, TcpSndBuf, UdpSndDat}
use Rattle.it_types.specs.Cursor.{◌>>=◌, or_else, after, at_end, split_while, is_no_space}
use Rattle.it_types.specs.Numbers.{number_at, address_at, below_or_0}
use Rattle.it_types.specs.Kinds.{Kind, Value, Point, Destination, Load, Timeout, read, default}
use Rattle.it_types.specs.Lines.{call_of}
use Rattle.spec_script.specs.declared.decl.Line.{Line}
use Rattle.spec_script.specs.declared.decl.Line.TheVariants.{Call, Fill, Loop, Pool, UntilEnd, UntilFail, UntilEmpty}
use Rattle.spec_script.specs.declared.script_line.ScriptLine.{ScriptLine}
use Rattle.spec_script.specs.declared.script_line.ScriptLine.TheVariants.{Itron, Link, Ticks, FirstNode, SecondNode, Sem, Flg, Dtq, Task, Cyc, Cbr, Body, End}
use Rattle.spec_script.specs.declared.script_line.NodeLine.{NodeLine}
use Rattle.spec_script.specs.Ranges.{within, data_limit}

-- ---- fields

-- a number after a space
unfoldable pub number_field : List ℕ → Option (Option ℕ × List ℕ)
number_field bytes = do
  rest ← after (codes " ") bytes
  number_at rest

-- what the bytes after a word tell
abbrev pub chosen : Bool → Option (List ℕ) → Option (Bool × List ℕ)
chosen holds None = None
chosen holds (Some rest) = Some (holds, rest)

-- one of two words: the first where it holds
unfoldable pub choice_at : List ℕ → List ℕ → List ℕ → Option (Bool × List ℕ)
choice_at one other bytes = or_else (chosen true (after one bytes)) (chosen false (after other bytes))

-- one of two words after a space
unfoldable pub choice_field : List ℕ → List ℕ → List ℕ → Option (Bool × List ℕ)
choice_field one other bytes = do
  rest ← after (codes " ") bytes
  choice_at one other rest

abbrev pub order_field : List ℕ → Option (Bool × List ℕ)
order_field bytes = choice_field (codes "pri") (codes "fifo") bytes

abbrev pub waiters_field : List ℕ → Option (Bool × List ℕ)
waiters_field bytes = choice_field (codes "many") (codes "one") bytes

abbrev pub clearing_field : List ℕ → Option (Bool × List ℕ)
clearing_field bytes = choice_field (codes "clr") (codes "keep") bytes

abbrev pub start_field : List ℕ → Option (Bool × List ℕ)
start_field bytes = choice_field (codes "act") (codes "dor") bytes

abbrev pub running_field : List ℕ → Option (Bool × List ℕ)
running_field bytes = choice_field (codes "on") (codes "off") bytes

-- ---- the lines outside bodies

-- itron 1
unfoldable pub itron_line : List ℕ → Option ScriptLine
itron_line bytes = do
  rest ← after (codes " 1") bytes
  at_end rest Itron

-- link KEY LOSE TWICE DELAY
unfoldable pub link_line : List ℕ → Option ScriptLine
link_line bytes = do
  key ← number_field bytes
  lose ← number_field key.1
  twice ← number_field lose.1
  delay ← number_field twice.1
  at_end delay.1 (Link key.0 lose.0 twice.0 delay.0)

-- ticks T
unfoldable pub ticks_line : List ℕ → Option ScriptLine
ticks_line bytes = do
  rest ← after (codes " ") bytes
  ticks ← number_at rest
  at_end ticks.1 (Ticks ticks.0)

-- ADDR ISN TOP
unfoldable pub node_at : List ℕ → Option (NodeLine × List ℕ)
node_at bytes = do
  addr ← address_at bytes
  rest ← after (codes " ") addr.1
  isn0 ← number_at rest
  rest ← after (codes " ") isn0.1
  top0 ← number_at rest
  Some (record { addr = addr.0; isn0 = isn0.0; top0 = top0.0 }, top0.1)

-- node 0 ADDR ISN TOP
unfoldable pub first_node_line : List ℕ → Option ScriptLine
first_node_line bytes = do
  rest ← after (codes " 0 ") bytes
  node ← node_at rest
  at_end node.1 (FirstNode node.0)

-- node 1 ADDR ISN TOP
unfoldable pub second_node_line : List ℕ → Option ScriptLine
second_node_line bytes = do
  rest ← after (codes " 1 ") bytes
  node ← node_at rest
  at_end node.1 (SecondNode node.0)

-- the line of either node
unfoldable pub either_node_line : List ℕ → Option ScriptLine
either_node_line bytes = or_else (first_node_line bytes) (second_node_line bytes)

-- sem ID fifo INIT MAX
unfoldable pub sem_line : List ℕ → Option ScriptLine
sem_line bytes = do
  id ← number_field bytes
  pri ← order_field id.1
  init ← number_field pri.1
  max ← number_field init.1
  at_end max.1 (Sem id.0 pri.0 init.0 max.0)

-- flg ID fifo one clr INIT
unfoldable pub flg_line : List ℕ → Option ScriptLine
flg_line bytes = do
  id ← number_field bytes
  pri ← order_field id.1
  many ← waiters_field pri.1
  clr ← clearing_field many.1
  init ← number_field clr.1
  at_end init.1 (Flg id.0 pri.0 many.0 clr.0 init.0)

-- dtq ID fifo CAP
unfoldable pub dtq_line : List ℕ → Option ScriptLine
dtq_line bytes = do
  id ← number_field bytes
  pri ← order_field id.1
  cap ← number_field pri.1
  at_end cap.1 (Dtq id.0 pri.0 cap.0)

-- task ID PRI act
unfoldable pub task_line : List ℕ → Option ScriptLine
task_line bytes = do
  id ← number_field bytes
  pri ← number_field id.1
  act ← start_field pri.1
  at_end act.1 (Task id.0 pri.0 act.0)

-- cyc ID PERIOD PHASE on
unfoldable pub cyc_line : List ℕ → Option ScriptLine
cyc_line bytes = do
  id ← number_field bytes
  period ← number_field id.1
  phase ← number_field period.1
  on ← running_field phase.1
  at_end on.1 (Cyc id.0 period.0 phase.0 on.0)

-- cbr ID
unfoldable pub cbr_line : List ℕ → Option ScriptLine
cbr_line bytes = do
  id ← number_field bytes
  at_end id.1 (Cbr id.0)

-- end
abbrev pub end_line : List ℕ → Option ScriptLine
end_line bytes = at_end bytes End

-- ---- the lines of a body that are no calls

-- the most bytes that the buffer is set to
abbrev pub fill_limit : ℕ
fill_limit = 65280

-- the most rounds of a loop
abbrev pub round_limit : ℕ
round_limit = 65535

-- fill N
unfoldable pub fill_line : List ℕ → Option ScriptLine
fill_line bytes = do
  n ← number_field bytes
  at_end n.1 (Body (Fill (below_or_0 65281 n.0)) (within 0 n.0 fill_limit))

-- loop N
unfoldable pub loop_line : List ℕ → Option ScriptLine
loop_line bytes = do
  n ← number_field bytes
  at_end n.1 (Body (Loop (below_or_0 65536 n.0)) (within 1 n.0 round_limit))

-- pool
abbrev pub pool_line : List ℕ → Option ScriptLine
pool_line bytes = at_end bytes (Body Pool true)

-- a line of a body that is told by these bytes alone
unfoldable pub line_by : List ℕ → Line → List ℕ → Option ScriptLine
line_by word line bytes = do
  rest ← after word bytes
  at_end rest (Body line true)

-- until end, until fail or until empty
unfoldable pub until_line : List ℕ → Option ScriptLine
until_line bytes = or_else (line_by (codes " end") UntilEnd bytes) (or_else (line_by (codes " fail") UntilFail bytes) (line_by (codes " empty") UntilEmpty bytes))

-- ---- the calls that send

-- a field of a call after a space: the value, or none where it is out of its range
unfoldable pub call_field : (k : Kind) → List ℕ → Option (Option (Value k) × List ℕ)
call_field k bytes = do
  rest ← after (codes " ") bytes
  read data_limit k rest

-- a field, or the word that can stand for it: whether the word stands there, and the value
abbrev pub OwnField : Kind → Type 0
OwnField k = (Bool × Option (Value k)) × List ℕ

-- where the word stands, the value is the one of a field out of its range
abbrev pub stood_for : (k : Kind) → Option (List ℕ) → Option (OwnField k)
stood_for k None = None
stood_for k (Some rest) = Some ((true, Some (default k)), rest)

abbrev pub spelled_out : (k : Kind) → Option (Option (Value k) × List ℕ) → Option (OwnField k)
spelled_out k None = None
spelled_out k (Some x) = Some ((false, x.0), x.1)

-- buf, which stands for the buffer, or data
unfoldable pub load_field : List ℕ → Option (OwnField Load)
load_field bytes = or_else (stood_for Load (after (codes " buf") bytes)) (spelled_out Load (call_field Load bytes))

-- peer, which stands for where the last datagram or connection came from, or an address with a port
unfoldable pub target_field : List ℕ → Option (OwnField Destination)
target_field bytes = or_else (stood_for Destination (after (codes " peer") bytes)) (spelled_out Destination (call_field Destination bytes))

-- the value of a field
abbrev pub value_or : (k : Kind) → Option (Value k) → Value k
value_or k value = unwrap_or value (default k)

-- what the fields of tcp_snd_dat make
unfoldable pub send_of : Option CepId → Bool × Option (List ℕ) → Option Tmo → ScriptLine
send_of cep load tmo = Body (Call (TcpSndDat (value_or Point cep) (value_or Load load.1) (value_or Timeout tmo)) load.0 false) (is_some cep && (is_some load.1 && is_some tmo))

-- what the fields of tcp_snd_buf make
unfoldable pub hand_over_of : Option CepId → Bool × Option (List ℕ) → ScriptLine
hand_over_of cep load = Body (Call (TcpSndBuf (value_or Point cep) (value_or Load load.1)) load.0 false) (is_some cep && is_some load.1)

-- what the fields of udp_snd_dat make
unfoldable pub datagram_of : Option CepId → Bool × Option EndPt → Bool × Option (List ℕ) → Option Tmo → ScriptLine
datagram_of cep dest load tmo =
    Body (Call (UdpSndDat (value_or Point cep) (value_or Destination dest.1) (value_or Load load.1) (value_or Timeout tmo)) load.0 dest.0) (is_some cep && (is_some dest.1 && (is_some load.1 && is_some tmo)))

-- tcp_snd_dat C DATA TMO
unfoldable pub send_line : List ℕ → Option ScriptLine
send_line bytes = do
  cep ← call_field Point bytes
  load ← load_field cep.1
  tmo ← call_field Timeout load.1
  at_end tmo.1 (send_of cep.0 load.0 tmo.0)

-- tcp_snd_buf C DATA
unfoldable pub hand_over_line : List ℕ → Option ScriptLine
hand_over_line bytes = do
  cep ← call_field Point bytes
  load ← load_field cep.1
  at_end load.1 (hand_over_of cep.0 load.0)

-- udp_snd_dat C DEST DATA TMO
unfoldable pub datagram_line : List ℕ → Option ScriptLine
datagram_line bytes = do
  cep ← call_field Point bytes
  dest ← target_field cep.1
  load ← load_field dest.1
  tmo ← call_field Timeout load.1
  at_end tmo.1 (datagram_of cep.0 dest.0 load.0 tmo.0)

-- ---- the other calls

abbrev pub call_body : Option (Req × Bool) → Option ScriptLine
call_body None = None
call_body (Some call) = Some (Body (Call call.0 false false) call.1)

abbrev pub call_line : List ℕ → Option ScriptLine
call_line bytes = call_body (call_of data_limit bytes)

-- ---- by the first word

-- words, each with what reads the bytes after it
abbrev pub Kinds : Type 0
Kinds = List (List ℕ × (List ℕ → Option ScriptLine))

abbrev pub kinds : Kinds
kinds =
    (codes "itron", itron_line) ∷ (codes "link", link_line) ∷ (codes "ticks", ticks_line) ∷ (codes "node", either_node_line)
    ∷ (codes "sem", sem_line) ∷ (codes "flg", flg_line) ∷ (codes "dtq", dtq_line) ∷ (codes "task", task_line) ∷ (codes "cyc", cyc_line) ∷ (codes "cbr", cbr_line)
    ∷ (codes "fill", fill_line) ∷ (codes "loop", loop_line) ∷ (codes "pool", pool_line) ∷ (codes "until", until_line)
    ∷ (codes "end", end_line) ∷ []

-- the calls in which buf and peer can stand
abbrev pub senders : Kinds
senders = (codes "tcp_snd_dat", send_line) ∷ (codes "tcp_snd_buf", hand_over_line) ∷ (codes "udp_snd_dat", datagram_line) ∷ []

-- the first kind with this word reads the bytes after it
abbrev pub by_word : Kinds → List ℕ → List ℕ → Option ScriptLine
by_word [] word bytes = None
by_word (kind ∷ more) word bytes = if pointwise nat_eq word kind.0 then kind.1 bytes else by_word more word bytes

-- the line that bytes without LF are read as, if they are one
unfoldable pub line_of : List ℕ → Option ScriptLine
line_of bytes = let parts = split_while is_no_space bytes in or_else (by_word kinds parts.0 parts.1) (or_else (by_word senders parts.0 parts.1) (call_line bytes))
