-- How lines become a script: where each may stand, what is wrong with one, and what it adds to the draft. It is this project's
-- own.
use Rattle.std.specs.Prelude.{ℕ, Bool, true, false, not, ◌&&◌, List, [], ◌∷◌, ◌++◌, length, Option, Some, None, is_some, unwrap_or, map, nat_lt, ◌==◌, if◌then◌else◌}
use Rattle.std.specs.List.{flat_map, list_any}
use Rattle.it_types.specs.declared.conf.TaskDecl.{TaskDecl}
use Rattle.it_types.specs.declared.conf.SemDecl.{SemDecl}
use Rattle.it_types.specs.declared.conf.FlgDecl.{FlgDecl}
use Rattle.it_types.specs.declared.conf.DtqDecl.{DtqDecl}
use Rattle.it_types.specs.declared.conf.CycDecl.{CycDecl}
use Rattle.it_types.specs.declared.id.ObjId.{ObjId}
use Rattle.spec_script.specs.declared.script.Script.{Script}
use Rattle.spec_script.specs.declared.script.NodeDecl.{NodeDecl}
use Rattle.spec_script.specs.declared.decl.Decl.{Decl}
use Rattle.spec_script.specs.declared.decl.Decl.TheVariants as declarations
use Rattle.spec_script.specs.declared.decl.Line.{Line}
use Rattle.spec_script.specs.declared.script_line.ScriptLine.{ScriptLine}
use Rattle.spec_script.specs.declared.script_line.ScriptLine.TheVariants.{Itron, Link, Ticks, FirstNode, SecondNode, Sem, Flg, Dtq, Task, Cyc, Cbr, Body, End}
use Rattle.spec_script.specs.declared.script_line.NodeLine.{NodeLine}
use Rattle.spec_script.specs.Lines.{no_node, link_line, node_line, body_line, declaration_lines}
use Rattle.spec_script.specs.Ranges.{is_in_range, body_limit, is_task, is_semaphore, is_flag, is_queue, is_cyclic, is_routine, may_nest, depth_after}
use Rattle.s_script.specs.declared.read_bad.Why.{Why}
use Rattle.s_script.specs.declared.read_bad.Why.TheVariants.{Form, Range, Twice, Nest}
use Rattle.s_script.specs.declared.draft.Stage.{Stage}
use Rattle.s_script.specs.declared.draft.Stage.TheVariants.{Start, Headed, Linked, Timed, Declares, InBody}
use Rattle.s_script.specs.declared.draft.Draft.{Draft}
use Rattle.s_script.specs.declared.owner.Owner.{Owner}
use Rattle.s_script.specs.declared.owner.Owner.TheVariants as owners
use Rattle.s_script.specs.Owners.{opening, may_have, declaration_of}

-- ---- a draft and its lines

-- the owner in a draft that has no body open
abbrev pub no_owner : Owner
no_owner = owners.Task (record { id = 0; pri = 0; act = true })

-- before the first line
abbrev pub start : Draft
start = record { stage = Start; link = 0 ∷ 0 ∷ 0 ∷ 0 ∷ []; ticks = 0; first = None; node = no_node; owner = no_owner; body = []; depth = 0 }

-- the script of a whole draft
abbrev pub script_of : Draft → Script
script_of d = record { link = d.link; ticks = d.ticks; nodes = unwrap_or d.first no_node ∷ d.node ∷ [] }

-- the lines up to the declarations of node 0
abbrev pub head_of : List ℕ → ℕ → NodeLine → List ScriptLine
head_of link ticks n = Itron ∷ link_line link ∷ Ticks (Some ticks) ∷ FirstNode n ∷ []

-- the lines up to the declarations of the node that has begun last; where it is node 1, all of node 0's are among them
abbrev pub lines_before : List ℕ → ℕ → Option NodeDecl → NodeLine → List ScriptLine
lines_before link ticks None n = head_of link ticks n
lines_before link ticks (Some first) n = head_of link ticks (node_line first) ++ (flat_map declaration_lines first.decls ++ (SecondNode n ∷ []))

-- the same of a draft
abbrev pub begun : Draft → List ScriptLine
begun d = lines_before d.link d.ticks d.first (node_line d.node)

-- the lines so far, by the stage
abbrev pub lines_at : Stage → Draft → List ScriptLine
lines_at Start d = []
lines_at Headed d = Itron ∷ []
lines_at Linked d = Itron ∷ link_line d.link ∷ []
lines_at Timed d = Itron ∷ link_line d.link ∷ Ticks (Some d.ticks) ∷ []
lines_at Declares d = begun d ++ flat_map declaration_lines d.node.decls
lines_at InBody d = begun d ++ (flat_map declaration_lines d.node.decls ++ (opening d.owner ∷ map body_line d.body))

-- ---- what is wrong with a line

-- node 1 has begun
abbrev pub is_last : Draft → Bool
is_last d = is_some d.first

-- which line may come at which stage; node 1 comes once, and a body has the lines that its owner's may have
abbrev pub in_place : Stage → Bool → Owner → ScriptLine → Bool
in_place Start last owner Itron = true
in_place Headed last owner (Link key lose twice delay) = true
in_place Linked last owner (Ticks ticks) = true
in_place Timed last owner (FirstNode n) = true
in_place Declares last owner (Sem id pri init max) = true
in_place Declares last owner (Flg id pri many clr init) = true
in_place Declares last owner (Dtq id pri cap) = true
in_place Declares last owner (Task id pri act) = true
in_place Declares last owner (Cyc id period phase on) = true
in_place Declares last owner (Cbr id) = true
in_place Declares last owner (SecondNode n) = not last
in_place InBody last owner (Body line fits) = may_have owner line
in_place InBody last owner End = true
in_place _ _ _ _ = false

-- the bounds that go beyond the line itself: node 1 has an address of its own, and a body is not too long
abbrev pub has_room : Draft → ScriptLine → Bool
has_room d (SecondNode n) = not (unwrap_or n.addr 0 == d.node.addr)
has_room d (Body line fits) = nat_lt (length d.body) body_limit
has_room d _ = true

-- the node has declared the id of this kind before
abbrev pub is_declared : Draft → ScriptLine → Bool
is_declared d (Sem id pri init max) = list_any (is_semaphore (unwrap_or id 0)) d.node.decls
is_declared d (Flg id pri many clr init) = list_any (is_flag (unwrap_or id 0)) d.node.decls
is_declared d (Dtq id pri cap) = list_any (is_queue (unwrap_or id 0)) d.node.decls
is_declared d (Task id pri act) = list_any (is_task (unwrap_or id 0)) d.node.decls
is_declared d (Cyc id period phase on) = list_any (is_cyclic (unwrap_or id 0)) d.node.decls
is_declared d (Cbr id) = list_any (is_routine (unwrap_or id 0)) d.node.decls
is_declared d _ = false

-- the line nests: a loop ends and is left only inside it, at most four are open at once, and a body ends with none open
abbrev pub nests : Draft → ScriptLine → Bool
nests d (Body line fits) = may_nest d.depth line
nests d End = d.depth == 0
nests d _ = true

-- the cause of the first test that is true
abbrev pub first_cause : List (Bool × Why) → Option Why
first_cause [] = None
first_cause (test ∷ tests) = if test.0 then Some test.1 else first_cause tests

-- what is wrong with the line, if anything
abbrev pub cause : Draft → ScriptLine → Option Why
cause d l = first_cause ((not (in_place d.stage (is_last d) d.owner l), Form) ∷ (not (is_in_range l && has_room d l), Range) ∷ (is_declared d l, Twice) ∷ (not (nests d l), Nest) ∷ [])

-- ---- what a line adds

-- a node as its line begins it
abbrev pub node_of : NodeLine → NodeDecl
node_of n = record { addr = unwrap_or n.addr 0; isn0 = unwrap_or n.isn0 0; top0 = unwrap_or n.top0 0; decls = [] }

abbrev pub task_of : Option ℕ → Option ℕ → Bool → TaskDecl
task_of id pri act = record { id = unwrap_or id 0; pri = unwrap_or pri 0; act = act }

abbrev pub semaphore_of : Option ℕ → Bool → Option ℕ → Option ℕ → SemDecl
semaphore_of id pri init max = record { id = unwrap_or id 0; pri = pri; init = unwrap_or init 0; max = unwrap_or max 0 }

abbrev pub flag_of : Option ℕ → Bool → Bool → Bool → Option ℕ → FlgDecl
flag_of id pri many clr init = record { id = unwrap_or id 0; pri = pri; many = many; clr = clr; init = unwrap_or init 0 }

abbrev pub queue_of : Option ℕ → Bool → Option ℕ → DtqDecl
queue_of id pri cap = record { id = unwrap_or id 0; pri = pri; cap = unwrap_or cap 0 }

abbrev pub cyclic_of : Option ℕ → Option ℕ → Option ℕ → Bool → CycDecl
cyclic_of id period phase on = record { id = unwrap_or id 0; period = unwrap_or period 0; phase = unwrap_or phase 0; on = on }

abbrev pub routine_of : Option ℕ → ObjId
routine_of id = record { 0 = unwrap_or id 0 }

-- one more declaration of a node
abbrev pub declared : NodeDecl → Decl → NodeDecl
declared n declaration = record n { decls = n.decls ++ declaration ∷ [] }

-- the draft after the line of an object
abbrev pub with_object : Draft → Decl → Draft
with_object d declaration = record d { stage = Declares; node = declared d.node declaration }

-- the draft after the line that opens a body
abbrev pub opened : Draft → Owner → Draft
opened d owner = record d { stage = InBody; owner = owner; body = []; depth = 0 }

-- the draft after a line of the body
abbrev pub with_body_line : Draft → Line → Draft
with_body_line d line = record d { stage = InBody; body = d.body ++ line ∷ []; depth = depth_after d.depth line }

-- the draft after the line
abbrev pub moved : Draft → ScriptLine → Draft
moved d Itron = record d { stage = Headed }
moved d (Link key lose twice delay) = record d { stage = Linked; link = unwrap_or key 0 ∷ unwrap_or lose 0 ∷ unwrap_or twice 0 ∷ unwrap_or delay 0 ∷ [] }
moved d (Ticks ticks) = record d { stage = Timed; ticks = unwrap_or ticks 0 }
moved d (FirstNode n) = record d { stage = Declares; first = None; node = node_of n }
moved d (SecondNode n) = record d { stage = Declares; first = Some d.node; node = node_of n }
moved d (Sem id pri init max) = with_object d (declarations.Sem (semaphore_of id pri init max))
moved d (Flg id pri many clr init) = with_object d (declarations.Flg (flag_of id pri many clr init))
moved d (Dtq id pri cap) = with_object d (declarations.Dtq (queue_of id pri cap))
moved d (Task id pri act) = opened d (owners.Task (task_of id pri act))
moved d (Cyc id period phase on) = opened d (owners.Cyc (cyclic_of id period phase on))
moved d (Cbr id) = opened d (owners.Cbr (routine_of id))
moved d (Body line fits) = with_body_line d line
moved d End = record d { stage = Declares; node = declared d.node (declaration_of d.owner (record { lines = d.body })); body = []; depth = 0 }
