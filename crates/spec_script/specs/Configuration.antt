-- What the declarations of a script give the nodes at their opening, which is this project's own.
use Rattle.std.specs.Prelude.{List, [], ◌∷◌}
use Rattle.it_types.specs.declared.conf.TaskDecl.{TaskDecl}
use Rattle.it_types.specs.declared.conf.SemDecl.{SemDecl}
use Rattle.it_types.specs.declared.conf.FlgDecl.{FlgDecl}
use Rattle.it_types.specs.declared.conf.DtqDecl.{DtqDecl}
use Rattle.it_types.specs.declared.conf.CycDecl.{CycDecl}
use Rattle.it_types.specs.declared.id.ObjId.{ObjId}
use Rattle.it_types.specs.declared.node_conf.NodeConf.{NodeConf}
use Rattle.it_types.specs.declared.node_conf.Conf.{Conf}
use Rattle.spec_script.specs.declared.script.Script.{Script}
use Rattle.spec_script.specs.declared.script.NodeDecl.{NodeDecl}
use Rattle.spec_script.specs.declared.decl.Decl.{Decl}
use Rattle.spec_script.specs.declared.decl.Decl.TheVariants as declarations
use Rattle.spec_script.specs.Lines.{first_node, second_node}

-- the tasks, in the order of their declarations
abbrev pub declared_tasks : List Decl → List TaskDecl
declared_tasks [] = []
declared_tasks (declarations.Task task body ∷ ds) = task ∷ declared_tasks ds
declared_tasks (_ ∷ ds) = declared_tasks ds

-- the semaphores, in the order of their declarations
abbrev pub declared_semaphores : List Decl → List SemDecl
declared_semaphores [] = []
declared_semaphores (declarations.Sem sem ∷ ds) = sem ∷ declared_semaphores ds
declared_semaphores (_ ∷ ds) = declared_semaphores ds

-- the event flags, in the order of their declarations
abbrev pub declared_flags : List Decl → List FlgDecl
declared_flags [] = []
declared_flags (declarations.Flg flag ∷ ds) = flag ∷ declared_flags ds
declared_flags (_ ∷ ds) = declared_flags ds

-- the data queues, in the order of their declarations
abbrev pub declared_queues : List Decl → List DtqDecl
declared_queues [] = []
declared_queues (declarations.Dtq queue ∷ ds) = queue ∷ declared_queues ds
declared_queues (_ ∷ ds) = declared_queues ds

-- the cyclic handlers, in the order of their declarations
abbrev pub declared_cyclics : List Decl → List CycDecl
declared_cyclics [] = []
declared_cyclics (declarations.Cyc cyc body ∷ ds) = cyc ∷ declared_cyclics ds
declared_cyclics (_ ∷ ds) = declared_cyclics ds

-- the callback routines, in the order of their declarations
abbrev pub declared_routines : List Decl → List ObjId
declared_routines [] = []
declared_routines (declarations.Cbr cbr body ∷ ds) = cbr ∷ declared_routines ds
declared_routines (_ ∷ ds) = declared_routines ds

-- what a node with these declarations begins with
abbrev pub node_conf : NodeDecl → NodeConf
node_conf n = record {
  addr = n.addr;
  isn0 = n.isn0;
  top0 = n.top0;
  tasks = declared_tasks n.decls;
  sems = declared_semaphores n.decls;
  flags = declared_flags n.decls;
  dtqs = declared_queues n.decls;
  cycs = declared_cyclics n.decls;
  cbrs = declared_routines n.decls;
}

-- what the two nodes begin with
abbrev pub conf_of : Script → Conf
conf_of s = record { nodes = node_conf (first_node s) ∷ node_conf (second_node s) ∷ [] }
