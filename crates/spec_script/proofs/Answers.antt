-- Words of the worked bodies: their calls, and the answers that they get.
use Rattle.std.proofs.Common.{ℕ, List, [], ◌∷◌, pos, true, false, Option, None}
use Rattle.it_types.specs.declared.er.Er.{Er}
use Rattle.it_types.specs.declared.handler.Handler.{Handler}
use Rattle.it_types.specs.declared.id.NodeId.{NodeId}
use Rattle.it_types.specs.declared.id.TaskId.{TaskId}
use Rattle.it_types.specs.declared.id.CepId.{CepId}
use Rattle.it_types.specs.declared.timeout.Tmo.TheVariants.{Fevr}
use Rattle.it_types.specs.declared.request.Req.{Req}
use Rattle.it_types.specs.declared.request.Req.TheVariants.{ExtTsk, GetTid, TslpTsk, TcpSndDat}
use Rattle.spec_script.specs.declared.decl.Line.{Line}
use Rattle.spec_script.specs.declared.decl.Line.TheVariants.{Call}
use Rattle.spec_script.specs.declared.want.Want.{Want}
use Rattle.spec_script.specs.declared.want.Want.TheVariants as wants
use Rattle.spec_script.specs.Interpreter.{Interpreter, started, wanted, told}

-- ---- what a body does on a list of codes

abbrev pub code : ℕ → Er
code n = record { 0 = pos n }

abbrev pub no_bytes : List ℕ
no_bytes = []

-- what it wants first, and after each of the answers, which bring no bytes
unfoldable pub wants_on : List Er → Interpreter → List Want
wants_on [] i = wanted i ∷ []
wants_on (answer ∷ answers) i = wanted i ∷ wants_on answers (told answer no_bytes i)

abbrev pub node : ℕ → NodeId
node n = record { 0 = n }

abbrev pub task : ℕ → TaskId
task n = record { 0 = n }

abbrev pub none_entered : Option Handler
none_entered = None

-- task 1 of node 0, before its first line
abbrev pub begun : List Line → Interpreter
begun lines = started lines (node 0) (task 1) none_entered

-- ---- calls

abbrev pub point : CepId
point = record { 0 = 1 }

-- a line that makes the call as it is
abbrev pub makes : Req → Line
makes request = Call request false false

-- a line that sends the buffer
abbrev pub sends_buffer : Line
sends_buffer = Call (TcpSndDat point no_bytes Fevr) true false

abbrev pub asks : Want
asks = wants.Call GetTid

abbrev pub sleeps : Want
sleeps = wants.Call (TslpTsk Fevr)

abbrev pub sends : List ℕ → Want
sends bytes = wants.Call (TcpSndDat point bytes Fevr)

abbrev pub ends : Want
ends = wants.Call ExtTsk
