-- The code of a node in the middle of an event.
use Rattle.std.specs.Prelude.{◌≡◌, ℕ, List, ◌++◌, map}
use Rattle.it_types.specs.declared.id.TaskId.{TaskId}
use Rattle.it_types.specs.declared.timeout.Tmo.{Tmo}
use Rattle.it_types.specs.declared.answer.Ans.{Ans}
use Rattle.it_types.specs.declared.answer.Ans.TheVariants as answers
use Rattle.it_types.specs.declared.entry.CallEnd.{CallEnd}
use Rattle.it_types.specs.declared.entry.Out.{Out}
use Rattle.it_types.specs.declared.mark.Mark.{Mark}
use Rattle.it_types.specs.Callers.{nobody}
use Rattle.spec_kernel.specs.PlainKernel.{PlainKernel}
use Rattle.spec_kernel.specs.Time.{blocked}
use Rattle.spec_pend.specs.Outs.{shown_answer, shown_end}
use Rattle.spec_udp.specs.PlainUdps.{UdpOutcome}
use Rattle.spec_node.specs.PlainNode.{PlainNode}
use Rattle.spec_node.specs.Progress.{Progress, after_net}
use Rattle.spec_node.specs.NodeStep.{node_after, next_number, beginning, done}
use Rattle.n_node.specs.declared.parts.Parts.{Parts}
use Rattle.n_node.specs.declared.told.Told.{Told}
use Rattle.n_node.specs.Plain.{plain}

-- the parts, and what is told beyond what was told at the start, are those of a node that began so and will answer this
pub record Comes (start : PlainNode) (answer : Ans) (before : Told) (p : Progress) (parts : Parts) (told : Told) : Type 0 where
  pub node : plain parts ≡ node_after start answer nobody p
  pub ends : told.ends ≡ before.ends ++ map shown_end p.ends
  pub marks : told.marks ≡ before.marks ++ p.marks
  pub packets : told.packs ≡ before.packs ++ p.packets

-- what the code does from one moment of an event to another is this step of the event
abbrev pub Moves : Parts → Told → Parts → Told → (Progress → Progress) → Type 0
Moves parts told parts_after told_after step = (start : PlainNode) (answer : Ans) (before : Told) (p : Progress) → Comes start answer before p parts told → Comes start answer before (step p) parts_after told_after

-- these ends, marks and packets are told behind the others
pub record Adds (told : Told) (es : List CallEnd) (ms : List Mark) (ps : List (List ℕ)) (after : Told) : Type 0 where
  pub ends : after.ends ≡ told.ends ++ es
  pub marks : after.marks ≡ told.marks ++ ms
  pub packets : after.packs ≡ told.packs ++ ps

-- a call for which its task waits makes the task wait outside, under the call's number
abbrev pub blocked_at : Ans → PlainKernel → TaskId → Tmo → PlainKernel
blocked_at (answers.Now code bytes) k task tmo = k
blocked_at (answers.Pends number) k task tmo = blocked k task tmo number
blocked_at (answers.Later number) k task tmo = k
blocked_at answers.Quiet k task tmo = k

-- a call of the network part with this outcome
abbrev pub network_done : PlainNode → UdpOutcome → TaskId → Tmo → PlainNode × Out
network_done n o by tmo =
    let answer = shown_answer (next_number n) o.answer in
    done n answer nobody nobody (after_net (record (beginning n) { kernel = blocked_at answer n.kernel by tmo }) o)
