-- The lines of a script and their text, which are this project's own.
use Rattle.std.specs.Prelude.{ℕ, Bool, true, false, List, [], ◌∷◌, ◌++◌, Option, Some, unwrap_or, slice_index, slice_index_or, codes, decimal, map}
use Rattle.std.specs.List.{flat_map}
use Rattle.it_types.specs.Address.{address_text}
use Rattle.it_types.specs.declared.id.EndPt.{EndPt}
use Rattle.it_types.specs.declared.request.Req.{Req}
use Rattle.it_types.specs.declared.request.Req.TheVariants.{TcpSndDat, TcpSndBuf, UdpSndDat}
use Rattle.it_types.specs.declared.calls.Word.TheVariants as words
use Rattle.it_types.specs.Kinds.{Point, Destination, Load, Timeout}
use Rattle.it_types.specs.Fields.{field_text}
use Rattle.it_types.specs.Requests.{word_text}
use Rattle.it_types.specs.Lines.{request_text}
use Rattle.spec_script.specs.declared.script.Script.{Script}
use Rattle.spec_script.specs.declared.script.NodeDecl.{NodeDecl}
use Rattle.spec_script.specs.declared.decl.Decl.{Decl}
use Rattle.spec_script.specs.declared.decl.Decl.TheVariants as declarations
use Rattle.spec_script.specs.declared.decl.Body.{Body}
use Rattle.spec_script.specs.declared.decl.Line.{Line}
use Rattle.spec_script.specs.declared.decl.Line.TheVariants as body_lines
use Rattle.spec_script.specs.declared.script_line.ScriptLine.{ScriptLine}
use Rattle.spec_script.specs.declared.script_line.ScriptLine.TheVariants as script_lines
use Rattle.spec_script.specs.declared.script_line.ScriptLine.TheVariants.{Itron, Link, Ticks, FirstNode, SecondNode, Sem, Flg, Dtq, Task, Cyc, Cbr, End}
use Rattle.spec_script.specs.declared.script_line.NodeLine.{NodeLine}

-- ---- the text of a line, without its LF

abbrev pub number_text : Option ℕ → List ℕ
number_text number = decimal (unwrap_or number 0)

-- one of two words: the first where it holds
abbrev pub choice_text : List ℕ → List ℕ → Bool → List ℕ
choice_text one other true = one
choice_text one other false = other

-- whether tasks wait by their priorities, or by arrival
abbrev pub order_text : Bool → List ℕ
order_text pri = choice_text (codes "pri") (codes "fifo") pri

-- whether many tasks may wait, or one at a time
abbrev pub waiters_text : Bool → List ℕ
waiters_text many = choice_text (codes "many") (codes "one") many

-- whether the end of a wait clears the flag, or keeps it
abbrev pub clearing_text : Bool → List ℕ
clearing_text clr = choice_text (codes "clr") (codes "keep") clr

-- whether a task is active from the start, or dormant
abbrev pub start_text : Bool → List ℕ
start_text act = choice_text (codes "act") (codes "dor") act

-- whether a cyclic handler runs from the start, or stands
abbrev pub running_text : Bool → List ℕ
running_text on = choice_text (codes "on") (codes "off") on

-- a field stands after a space
abbrev pub field : List ℕ → List ℕ
field text = codes " " ++ text

abbrev pub node_text : NodeLine → List ℕ
node_text n = address_text (unwrap_or n.addr 0) ++ (codes " " ++ (number_text n.isn0 ++ (codes " " ++ number_text n.top0)))

-- the data of a call: the buffer, or bytes
abbrev pub data_field : Bool → List ℕ → List ℕ
data_field true load = codes " buf"
data_field false load = field_text Load load

-- the destination of a datagram: the peer, or an address with a port
abbrev pub destination_field : Bool → EndPt → List ℕ
destination_field true dest = codes " peer"
destination_field false dest = field_text Destination dest

-- a call; one that sends may send the buffer, and a datagram may go to the peer
abbrev pub call_text : Req → Bool → Bool → List ℕ
call_text (TcpSndDat cep load tmo) buf peer = word_text words.TcpSndDat ++ (field_text Point cep ++ (data_field buf load ++ field_text Timeout tmo))
call_text (TcpSndBuf cep load) buf peer = word_text words.TcpSndBuf ++ (field_text Point cep ++ data_field buf load)
call_text (UdpSndDat cep dest load tmo) buf peer =
    word_text words.UdpSndDat ++ (field_text Point cep ++ (destination_field peer dest ++ (data_field buf load ++ field_text Timeout tmo)))
call_text request buf peer = request_text request

abbrev pub body_line_text : Line → List ℕ
body_line_text (body_lines.Call request buf peer) = call_text request buf peer
body_line_text (body_lines.Fill bytes) = codes "fill" ++ field (decimal bytes)
body_line_text (body_lines.Loop rounds) = codes "loop" ++ field (decimal rounds)
body_line_text body_lines.Pool = codes "pool"
body_line_text body_lines.UntilEnd = codes "until end"
body_line_text body_lines.UntilFail = codes "until fail"
body_line_text body_lines.UntilEmpty = codes "until empty"

abbrev pub line_text : ScriptLine → List ℕ
line_text Itron = codes "itron 1"
line_text (Link key lose twice delay) =
    codes "link" ++ (field (number_text key) ++ (field (number_text lose) ++ (field (number_text twice) ++ field (number_text delay))))
line_text (Ticks ticks) = codes "ticks " ++ number_text ticks
line_text (FirstNode n) = codes "node 0 " ++ node_text n
line_text (SecondNode n) = codes "node 1 " ++ node_text n
line_text (Sem id pri init max) = codes "sem" ++ (field (number_text id) ++ (field (order_text pri) ++ (field (number_text init) ++ field (number_text max))))
line_text (Flg id pri many clr init) =
    codes "flg" ++ (field (number_text id) ++ (field (order_text pri) ++ (field (waiters_text many) ++ (field (clearing_text clr) ++ field (number_text init)))))
line_text (Dtq id pri cap) = codes "dtq" ++ (field (number_text id) ++ (field (order_text pri) ++ field (number_text cap)))
line_text (Task id pri act) = codes "task" ++ (field (number_text id) ++ (field (number_text pri) ++ field (start_text act)))
line_text (Cyc id period phase on) =
    codes "cyc" ++ (field (number_text id) ++ (field (number_text period) ++ (field (number_text phase) ++ field (running_text on))))
line_text (Cbr id) = codes "cbr" ++ field (number_text id)
line_text (script_lines.Body line fits) = body_line_text line
line_text End = codes "end"

-- a line that ends with LF
abbrev pub ended : List ℕ → List ℕ
ended line = line ++ 10 ∷ []

abbrev pub spelled : ScriptLine → List ℕ
spelled line = ended (line_text line)

-- ---- the lines of a script

abbrev pub no_node : NodeDecl
no_node = record { addr = 0; isn0 = 0; top0 = 0; decls = [] }

abbrev pub first_node : Script → NodeDecl
first_node s = slice_index_or s.nodes 0 no_node

abbrev pub second_node : Script → NodeDecl
second_node s = slice_index_or s.nodes 1 no_node

-- the line of four numbers: the key, how many of 16 packets are lost, how many come twice, and the greatest delay
abbrev pub link_line : List ℕ → ScriptLine
link_line link = Link (Some (slice_index link 0)) (Some (slice_index link 1)) (Some (slice_index link 2)) (Some (slice_index link 3))

abbrev pub node_line : NodeDecl → NodeLine
node_line n = record { addr = Some n.addr; isn0 = Some n.isn0; top0 = Some n.top0 }

abbrev pub body_line : Line → ScriptLine
body_line line = script_lines.Body line true

-- a line that opens a body, the body and its end
abbrev pub with_body : ScriptLine → Body → List ScriptLine
with_body opening body = opening ∷ (map body_line body.lines ++ End ∷ [])

abbrev pub declaration_lines : Decl → List ScriptLine
declaration_lines (declarations.Task task body) = with_body (Task (Some task.id) (Some task.pri) task.act) body
declaration_lines (declarations.Sem sem) = Sem (Some sem.id) sem.pri (Some sem.init) (Some sem.max) ∷ []
declaration_lines (declarations.Flg flag) = Flg (Some flag.id) flag.pri flag.many flag.clr (Some flag.init) ∷ []
declaration_lines (declarations.Dtq queue) = Dtq (Some queue.id) queue.pri (Some queue.cap) ∷ []
declaration_lines (declarations.Cyc cyc body) = with_body (Cyc (Some cyc.id) (Some cyc.period) (Some cyc.phase) cyc.on) body
declaration_lines (declarations.Cbr cbr body) = with_body (Cbr (Some cbr.0)) body

-- the lines before the declarations of node 0
abbrev pub head_lines : Script → List ScriptLine
head_lines s = Itron ∷ link_line s.link ∷ Ticks (Some s.ticks) ∷ FirstNode (node_line (first_node s)) ∷ []

abbrev pub lines_of : Script → List ScriptLine
lines_of s = head_lines s ++ (flat_map declaration_lines (first_node s).decls ++ (SecondNode (node_line (second_node s)) ∷ flat_map declaration_lines (second_node s).decls))

-- the printed form of a script
abbrev pub script_text : Script → List ℕ
script_text s = flat_map spelled (lines_of s)
