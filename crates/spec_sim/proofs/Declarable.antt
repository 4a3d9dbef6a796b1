-- What a good script declares can be declared at a kernel.
use Rattle.std.proofs.Common.{◌≡◌, ℕ, ◌+◌, Bool, true, false, not, ◌&&◌, List, [], ◌∷◌, ◌++◌, Option, Some, None, set, replicate, refl, sym, ap, ◌∙◌, inl, inr}
use mathlib.Core.Logic.{◌≢◌}
use Rattle.std.specs.Prelude.{nat_le, ◌==◌, is_none}
use Rattle.std.specs.List.{list_all, list_any, flat_map}
use Rattle.std.proofs.lemmas.Bool.{cases_lt, eq-eqb, and_parts, not-true, or_parts}
use Rattle.std.proofs.lemmas.List.{get_or-set_other, get_or-replicate, get_or_past, length-replicate}
use Rattle.std.proofs.lemmas.List.Concat.{flat_map-cons}
use Rattle.std.proofs.lemmas.List.Folds.{list_all-append, list_any-append}
use Rattle.it_types.specs.declared.conf.TaskDecl.{TaskDecl}
use Rattle.it_types.specs.declared.conf.SemDecl.{SemDecl}
use Rattle.it_types.specs.declared.conf.FlgDecl.{FlgDecl}
use Rattle.it_types.specs.declared.conf.DtqDecl.{DtqDecl}
use Rattle.it_types.specs.declared.conf.CycDecl.{CycDecl}
use Rattle.it_types.specs.Configuration.{kernel_conf, first_conf, second_conf}
use Rattle.spec_lists.specs.Tables.{get, empty_table}
use Rattle.spec_kernel.specs.Ids.{greatest_id, task_id, are_new_up_to}
use Rattle.spec_kernel.specs.TaskOpening.{block_at_start, keeps_priority}
use Rattle.spec_kernel.specs.SemaphoreBlocks.{semaphore_id, semaphore_declared, keeps_ranges}
use Rattle.spec_kernel.specs.FlagBlocks.{flag_id, flag_declared}
use Rattle.spec_kernel.specs.DataQueues.{queue_id, queue_declared, keeps_capacity}
use Rattle.spec_kernel.specs.PlainClock.{greatest_cyclic, cyclic_id, cyclic_at_start, keeps_times}
use Rattle.spec_kernel.specs.Opening.{IsDeclarable}
use Rattle.spec_script.specs.declared.script.Script.{Script}
use Rattle.spec_script.specs.declared.script.NodeDecl.{NodeDecl}
use Rattle.spec_script.specs.declared.decl.Decl.{Decl}
use Rattle.spec_script.specs.declared.decl.Body.{Body}
use Rattle.spec_script.specs.declared.decl.Decl.TheVariants as declarations
use Rattle.spec_script.specs.declared.script_line.ScriptLine.{ScriptLine}
use Rattle.spec_script.specs.declared.script_line.ScriptLine.TheVariants.{SecondNode}
use Rattle.spec_script.specs.Lines.{first_node, second_node, node_line, declaration_lines, head_lines}
use Rattle.spec_script.specs.Ranges.{within, is_in_range, is_task, is_semaphore, is_flag, is_queue, is_cyclic, is_repeated, are_distinct, AreGood, IsGood}
use Rattle.spec_script.specs.Configuration.{declared_tasks, declared_semaphores, declared_flags, declared_queues, declared_cyclics, node_conf, conf_of}

-- a place is free exactly where no declaration before has its id
abbrev IsFreeBy : {X : Type 0} → List (Option X) → (ℕ → Decl → Bool) → List Decl → Type 0
IsFreeBy objects has before = (id : ℕ) → list_any (has id) before ≡ false → is_none (get objects id) ≡ true

-- what a declaration leaves free at other ids
abbrev IsNew : (ℕ → Decl → Bool) → ℕ → Decl → Type 0
IsNew has own d = (id : ℕ) → has id d ≡ false → id ≢ own

any_parts : (p : Decl → Bool) (before : List Decl) (d : Decl) → list_any p (before ++ d ∷ []) ≡ false → (list_any p before ≡ false) × (p d ≡ false)
any_parts p before d e =
    let parts = or_parts (list_any p before) (list_any p (d ∷ [])) (sym (list_any-append p before (d ∷ [])) ∙ e) in
    (parts.0, (or_parts (p d) false parts.1).0)

stays_free : {X : Type 0} (objects : List (Option X)) (has : ℕ → Decl → Bool) (before : List Decl) (d : Decl) → IsFreeBy objects has before → IsFreeBy objects has (before ++ d ∷ [])
stays_free objects has before d free id e = free id (any_parts (has id) before d e).0

still_free : {X : Type 0} (objects : List (Option X)) (has : ℕ → Decl → Bool) (before : List Decl) (d : Decl) (own : ℕ) (x : X)
    → IsNew has own d
    → IsFreeBy objects has before
    → IsFreeBy (set objects own (Some x)) has (before ++ d ∷ [])
still_free objects has before d own x new free id e = let parts = any_parts (has id) before d e in rw (get_or-set_other objects own id (Some x) None (new id parts.1)) (free id parts.0)

-- the lines of the first declaration are in range, and those of the others
first_in_range : (d : Decl) (ds : List Decl)
    → list_all is_in_range (flat_map declaration_lines (d ∷ ds)) ≡ true
    → (list_all is_in_range (declaration_lines d) ≡ true) × (list_all is_in_range (flat_map declaration_lines ds) ≡ true)
first_in_range d ds e =
    and_parts (list_all is_in_range (declaration_lines d)) (list_all is_in_range (flat_map declaration_lines ds)) (sym (list_all-append is_in_range (declaration_lines d) (flat_map declaration_lines ds)) ∙ ap (list_all is_in_range) (sym (flat_map-cons declaration_lines d ds)) ∙ e)

-- ---- one kind

some_is : {D : Type 0} {x y : D} → Some x ≡ Some y → x ≡ y
some_is e = cc

abbrev and_more : {D : Type 0} → Option D → List D → List D
and_more None xs = xs
and_more (Some x) xs = x ∷ xs

-- the declarations of one kind
abbrev among : {D : Type 0} → (Decl → Option D) → List Decl → List D
among of_kind [] = []
among of_kind (d ∷ ds) = and_more (of_kind d) (among of_kind ds)

-- the test of an id is that of the kind's declarations, and each has an id from 1 to the greatest
record IsKind {D : Type 0} (greatest : ℕ) (id_of : D → ℕ) (of_kind : Decl → Option D) (has : ℕ → Decl → Bool) : Type 0 where
  own : (d : Decl) (x : D) → of_kind d ≡ Some x → (id : ℕ) → has id d ≡ (id_of x == id)
  repeated : (before : List Decl) (d : Decl) (x : D) → of_kind d ≡ Some x → is_repeated before d ≡ list_any (has (id_of x)) before
  range : (d : Decl) (x : D) → of_kind d ≡ Some x → list_all is_in_range (declaration_lines d) ≡ true → within 1 (Some (id_of x)) greatest ≡ true

nothing_declared : (X : Type 0) (n id : ℕ) → is_none (get {X = X} (replicate n None) id) ≡ true
nothing_declared X n id = elim (cases_lt id n) [
  | inl lt ↦ ap is_none (get_or-replicate {A = Option X} n id None None lt)
  | inr le ↦ ap is_none (get_or_past (replicate n None) id None (simp length-replicate le))
]

module _ {D X : Type 0} (greatest : ℕ) (id_of : D → ℕ) (made : D → X) (of_kind : Decl → Option D) (has : ℕ → Decl → Bool) (kind : IsKind greatest id_of of_kind has) where
  -- the ids of the kind are new
  are_new : (before ds : List Decl) (objects : List (Option X))
      → IsFreeBy objects has before
      → are_distinct before ds ≡ true
      → list_all is_in_range (flat_map declaration_lines ds) ≡ true
      → are_new_up_to greatest id_of made objects (among of_kind ds) ≡ true
  are_new before [] objects free distinct ranges = refl
  are_new before (d ∷ ds) objects free distinct ranges = of (of_kind d) refl (λ later is_free. are_new (before ++ d ∷ []) ds later is_free new.1 lines.1)
    where
      new : (is_repeated before d ≡ false) × (are_distinct (before ++ d ∷ []) ds ≡ true)
      new = let parts = and_parts (not (is_repeated before d)) (are_distinct (before ++ d ∷ []) ds) distinct in (not-true _ parts.0, parts.1)

      lines : (list_all is_in_range (declaration_lines d) ≡ true) × (list_all is_in_range (flat_map declaration_lines ds) ≡ true)
      lines = first_in_range d ds ranges

      other : (x : D) → of_kind d ≡ Some x → IsNew has (id_of x) d
      other x is id e same = absurd (let f : true ≡ false = sym (eq-eqb (id_of x) id (sym same)) ∙ sym (kind.own d x is id) ∙ e in cc)

      of : (o : Option D) → of_kind d ≡ o → ((later : List (Option X)) → IsFreeBy later has (before ++ d ∷ []) → are_new_up_to greatest id_of made later (among of_kind ds) ≡ true) → are_new_up_to greatest id_of made objects (and_more o (among of_kind ds)) ≡ true
      of None is others = others objects (stays_free objects has before d free)
      of (Some x) is others =
          let id = and_parts (nat_le 1 (id_of x)) (nat_le (id_of x) greatest) (kind.range d x is lines.0) in
          let rest = others (set objects (id_of x) (Some (made x))) (still_free objects has before d (id_of x) (made x) (other x is) free) in
          rw (id.0, id.1, free (id_of x) (sym (kind.repeated before d x is) ∙ new.0), rest) refl

  new_in : (ds : List Decl) → are_distinct [] ds ≡ true → list_all is_in_range (flat_map declaration_lines ds) ≡ true → are_new_up_to greatest id_of made (empty_table greatest) (among of_kind ds) ≡ true
  new_in ds distinct ranges = are_new [] ds (empty_table greatest) (λ id e. nothing_declared X (greatest + 1) id) distinct ranges

-- each declaration of the kind keeps its ranges
all_good : {D : Type 0} (of_kind : Decl → Option D) (good : D → Bool)
    → ((d : Decl) (x : D) → of_kind d ≡ Some x → list_all is_in_range (declaration_lines d) ≡ true → good x ≡ true)
    → (ds : List Decl)
    → list_all is_in_range (flat_map declaration_lines ds) ≡ true
    → list_all good (among of_kind ds) ≡ true
all_good of_kind good each [] ranges = refl
all_good {D} of_kind good each (d ∷ ds) ranges = of (of_kind d) refl (all_good of_kind good each ds (first_in_range d ds ranges).1)
  where
    of : (o : Option D) → of_kind d ≡ o → list_all good (among of_kind ds) ≡ true → list_all good (and_more o (among of_kind ds)) ≡ true
    of None is rest = rest
    of (Some x) is rest = rw (each d x is (first_in_range d ds ranges).0, rest) refl

-- ---- tasks

abbrev as_task : Decl → Option TaskDecl
as_task (declarations.Task t body) = Some t
as_task _ = None

tasks_among : (ds : List Decl) → among as_task ds ≡ declared_tasks ds
tasks_among [] = refl
tasks_among (declarations.Task t body ∷ ds) = ap (λ ts. t ∷ ts) (tasks_among ds)
tasks_among (_ ∷ ds) = tasks_among ds

task_range : (t : TaskDecl) (body : Body) → list_all is_in_range (declaration_lines (declarations.Task t body)) ≡ true → (within 1 (Some t.id) 16 ≡ true) × (within 1 (Some t.pri) 16 ≡ true)
task_range t body e = and_parts (within 1 (Some t.id) 16) (within 1 (Some t.pri) 16) (and_parts (within 1 (Some t.id) 16 && within 1 (Some t.pri) 16) _ e).0

tasks_are : IsKind greatest_id task_id as_task is_task
tasks_are = record { own = own; repeated = repeated; range = range }
  where
    own : (d : Decl) (x : TaskDecl) → as_task d ≡ Some x → (id : ℕ) → is_task id d ≡ (x.id == id)
    own (declarations.Task t body) x e id = ap (λ (y : TaskDecl). y.id == id) (some_is e)
    own _ x e id = cc

    repeated : (before : List Decl) (d : Decl) (x : TaskDecl) → as_task d ≡ Some x → is_repeated before d ≡ list_any (is_task x.id) before
    repeated before (declarations.Task t body) x e = ap (λ (y : TaskDecl). list_any (is_task y.id) before) (some_is e)
    repeated before _ x e = cc

    range : (d : Decl) (x : TaskDecl) → as_task d ≡ Some x → list_all is_in_range (declaration_lines d) ≡ true → within 1 (Some x.id) 16 ≡ true
    range (declarations.Task t body) x e lines = rw (← some_is e) (task_range t body lines).0
    range _ x e lines = cc

task_keeps : (d : Decl) (x : TaskDecl) → as_task d ≡ Some x → list_all is_in_range (declaration_lines d) ≡ true → keeps_priority x ≡ true
task_keeps (declarations.Task t body) x e lines = rw (← some_is e) (task_range t body lines).1
task_keeps _ x e lines = cc

-- ---- semaphores

abbrev as_semaphore : Decl → Option SemDecl
as_semaphore (declarations.Sem s) = Some s
as_semaphore _ = None

semaphores_among : (ds : List Decl) → among as_semaphore ds ≡ declared_semaphores ds
semaphores_among [] = refl
semaphores_among (declarations.Sem s ∷ ds) = ap (λ xs. s ∷ xs) (semaphores_among ds)
semaphores_among (_ ∷ ds) = semaphores_among ds

semaphore_range : (s : SemDecl) → list_all is_in_range (declaration_lines (declarations.Sem s)) ≡ true → (within 1 (Some s.id) 16 ≡ true) × (keeps_ranges s ≡ true)
semaphore_range s e = and_parts (within 1 (Some s.id) 16) (keeps_ranges s) (and_parts (within 1 (Some s.id) 16 && keeps_ranges s) true e).0

semaphores_are : IsKind greatest_id semaphore_id as_semaphore is_semaphore
semaphores_are = record { own = own; repeated = repeated; range = range }
  where
    own : (d : Decl) (x : SemDecl) → as_semaphore d ≡ Some x → (id : ℕ) → is_semaphore id d ≡ (x.id == id)
    own (declarations.Sem s) x e id = ap (λ (y : SemDecl). y.id == id) (some_is e)
    own _ x e id = cc

    repeated : (before : List Decl) (d : Decl) (x : SemDecl) → as_semaphore d ≡ Some x → is_repeated before d ≡ list_any (is_semaphore x.id) before
    repeated before (declarations.Sem s) x e = ap (λ (y : SemDecl). list_any (is_semaphore y.id) before) (some_is e)
    repeated before _ x e = cc

    range : (d : Decl) (x : SemDecl) → as_semaphore d ≡ Some x → list_all is_in_range (declaration_lines d) ≡ true → within 1 (Some x.id) 16 ≡ true
    range (declarations.Sem s) x e lines = rw (← some_is e) (semaphore_range s lines).0
    range _ x e lines = cc

semaphore_keeps : (d : Decl) (x : SemDecl) → as_semaphore d ≡ Some x → list_all is_in_range (declaration_lines d) ≡ true → keeps_ranges x ≡ true
semaphore_keeps (declarations.Sem s) x e lines = rw (← some_is e) (semaphore_range s lines).1
semaphore_keeps _ x e lines = cc

-- ---- event flags

abbrev as_flag : Decl → Option FlgDecl
as_flag (declarations.Flg f) = Some f
as_flag _ = None

flags_among : (ds : List Decl) → among as_flag ds ≡ declared_flags ds
flags_among [] = refl
flags_among (declarations.Flg f ∷ ds) = ap (λ xs. f ∷ xs) (flags_among ds)
flags_among (_ ∷ ds) = flags_among ds

flag_range : (f : FlgDecl) → list_all is_in_range (declaration_lines (declarations.Flg f)) ≡ true → (within 1 (Some f.id) 16 ≡ true) × (within 0 (Some f.init) 4294967295 ≡ true)
flag_range f e = and_parts (within 1 (Some f.id) 16) (within 0 (Some f.init) 4294967295) (and_parts (within 1 (Some f.id) 16 && within 0 (Some f.init) 4294967295) true e).0

flags_are : IsKind greatest_id flag_id as_flag is_flag
flags_are = record { own = own; repeated = repeated; range = range }
  where
    own : (d : Decl) (x : FlgDecl) → as_flag d ≡ Some x → (id : ℕ) → is_flag id d ≡ (x.id == id)
    own (declarations.Flg f) x e id = ap (λ (y : FlgDecl). y.id == id) (some_is e)
    own _ x e id = cc

    repeated : (before : List Decl) (d : Decl) (x : FlgDecl) → as_flag d ≡ Some x → is_repeated before d ≡ list_any (is_flag x.id) before
    repeated before (declarations.Flg f) x e = ap (λ (y : FlgDecl). list_any (is_flag y.id) before) (some_is e)
    repeated before _ x e = cc

    range : (d : Decl) (x : FlgDecl) → as_flag d ≡ Some x → list_all is_in_range (declaration_lines d) ≡ true → within 1 (Some x.id) 16 ≡ true
    range (declarations.Flg f) x e lines = rw (← some_is e) (flag_range f lines).0
    range _ x e lines = cc

-- ---- data queues

abbrev as_queue : Decl → Option DtqDecl
as_queue (declarations.Dtq q) = Some q
as_queue _ = None

queues_among : (ds : List Decl) → among as_queue ds ≡ declared_queues ds
queues_among [] = refl
queues_among (declarations.Dtq q ∷ ds) = ap (λ xs. q ∷ xs) (queues_among ds)
queues_among (_ ∷ ds) = queues_among ds

queue_range : (q : DtqDecl) → list_all is_in_range (declaration_lines (declarations.Dtq q)) ≡ true → (within 1 (Some q.id) 16 ≡ true) × (keeps_capacity q ≡ true)
queue_range q e =
    let parts = and_parts (within 1 (Some q.id) 16) (within 0 (Some q.cap) 1024) (and_parts (within 1 (Some q.id) 16 && within 0 (Some q.cap) 1024) true e).0 in
    (parts.0, (and_parts (nat_le 0 q.cap) (keeps_capacity q) parts.1).1)

queues_are : IsKind greatest_id queue_id as_queue is_queue
queues_are = record { own = own; repeated = repeated; range = range }
  where
    own : (d : Decl) (x : DtqDecl) → as_queue d ≡ Some x → (id : ℕ) → is_queue id d ≡ (x.id == id)
    own (declarations.Dtq q) x e id = ap (λ (y : DtqDecl). y.id == id) (some_is e)
    own _ x e id = cc

    repeated : (before : List Decl) (d : Decl) (x : DtqDecl) → as_queue d ≡ Some x → is_repeated before d ≡ list_any (is_queue x.id) before
    repeated before (declarations.Dtq q) x e = ap (λ (y : DtqDecl). list_any (is_queue y.id) before) (some_is e)
    repeated before _ x e = cc

    range : (d : Decl) (x : DtqDecl) → as_queue d ≡ Some x → list_all is_in_range (declaration_lines d) ≡ true → within 1 (Some x.id) 16 ≡ true
    range (declarations.Dtq q) x e lines = rw (← some_is e) (queue_range q lines).0
    range _ x e lines = cc

queue_keeps : (d : Decl) (x : DtqDecl) → as_queue d ≡ Some x → list_all is_in_range (declaration_lines d) ≡ true → keeps_capacity x ≡ true
queue_keeps (declarations.Dtq q) x e lines = rw (← some_is e) (queue_range q lines).1
queue_keeps _ x e lines = cc

-- ---- cyclic handlers

abbrev as_cyclic : Decl → Option CycDecl
as_cyclic (declarations.Cyc c body) = Some c
as_cyclic _ = None

cyclics_among : (ds : List Decl) → among as_cyclic ds ≡ declared_cyclics ds
cyclics_among [] = refl
cyclics_among (declarations.Cyc c body ∷ ds) = ap (λ xs. c ∷ xs) (cyclics_among ds)
cyclics_among (_ ∷ ds) = cyclics_among ds

cyclic_range : (c : CycDecl) (body : Body) → list_all is_in_range (declaration_lines (declarations.Cyc c body)) ≡ true → (within 1 (Some c.id) 8 ≡ true) × (keeps_times c ≡ true)
cyclic_range c body e =
    let parts = and_parts (within 1 (Some c.id) 8) (within 1 (Some c.period) 1000000 && within 0 (Some c.phase) 1000000) (and_parts (within 1 (Some c.id) 8 && (within 1 (Some c.period) 1000000 && within 0 (Some c.phase) 1000000)) _ e).0 in
    let times = and_parts (within 1 (Some c.period) 1000000) (within 0 (Some c.phase) 1000000) parts.1 in
    let period = and_parts (nat_le 1 c.period) (nat_le c.period 1000000) times.0 in
    (parts.0, rw (period.0, period.1) (and_parts (nat_le 0 c.phase) (nat_le c.phase 1000000) times.1).1)

cyclics_are : IsKind greatest_cyclic cyclic_id as_cyclic is_cyclic
cyclics_are = record { own = own; repeated = repeated; range = range }
  where
    own : (d : Decl) (x : CycDecl) → as_cyclic d ≡ Some x → (id : ℕ) → is_cyclic id d ≡ (x.id == id)
    own (declarations.Cyc c body) x e id = ap (λ (y : CycDecl). y.id == id) (some_is e)
    own _ x e id = cc

    repeated : (before : List Decl) (d : Decl) (x : CycDecl) → as_cyclic d ≡ Some x → is_repeated before d ≡ list_any (is_cyclic x.id) before
    repeated before (declarations.Cyc c body) x e = ap (λ (y : CycDecl). list_any (is_cyclic y.id) before) (some_is e)
    repeated before _ x e = cc

    range : (d : Decl) (x : CycDecl) → as_cyclic d ≡ Some x → list_all is_in_range (declaration_lines d) ≡ true → within 1 (Some x.id) 8 ≡ true
    range (declarations.Cyc c body) x e lines = rw (← some_is e) (cyclic_range c body lines).0
    range _ x e lines = cc

cyclic_keeps : (d : Decl) (x : CycDecl) → as_cyclic d ≡ Some x → list_all is_in_range (declaration_lines d) ≡ true → keeps_times x ≡ true
cyclic_keeps (declarations.Cyc c body) x e lines = rw (← some_is e) (cyclic_range c body lines).1
cyclic_keeps _ x e lines = cc

-- ---- all kinds

-- the declarations of a node that are good and in range can be declared at its kernel
pub declarable : (n : NodeDecl) → AreGood n.decls → list_all is_in_range (flat_map declaration_lines n.decls) ≡ true → IsDeclarable (kernel_conf (node_conf n))
declarable n good ranges = record {
  tasks = rw (← tasks_among n.decls) (record {
    ids = new_in greatest_id task_id block_at_start as_task is_task tasks_are n.decls good.distinct ranges;
    ranges = all_good as_task keeps_priority task_keeps n.decls ranges;
  });
  semaphores = rw (← semaphores_among n.decls) (record {
    ids = new_in greatest_id semaphore_id semaphore_declared as_semaphore is_semaphore semaphores_are n.decls good.distinct ranges;
    ranges = all_good as_semaphore keeps_ranges semaphore_keeps n.decls ranges;
  });
  flags = rw (← flags_among n.decls) (record { ids = new_in greatest_id flag_id flag_declared as_flag is_flag flags_are n.decls good.distinct ranges });
  queues = rw (← queues_among n.decls) (record {
    ids = new_in greatest_id queue_id queue_declared as_queue is_queue queues_are n.decls good.distinct ranges;
    ranges = all_good as_queue keeps_capacity queue_keeps n.decls ranges;
  });
  cyclic_handlers = rw (← cyclics_among n.decls) (record {
    ids = new_in greatest_cyclic cyclic_id cyclic_at_start as_cyclic is_cyclic cyclics_are n.decls good.distinct ranges;
    ranges = all_good as_cyclic keeps_times cyclic_keeps n.decls ranges;
  });
}

-- the lines of the declarations of both nodes are in range
parts_in_range : (head first second : List ScriptLine) (line : ScriptLine)
    → list_all is_in_range (head ++ (first ++ (line ∷ second))) ≡ true
    → (list_all is_in_range first ≡ true) × (list_all is_in_range second ≡ true)
parts_in_range head first second line e =
    let lines = and_parts (list_all is_in_range head) (list_all is_in_range (first ++ (line ∷ second))) (sym (list_all-append is_in_range head (first ++ (line ∷ second))) ∙ e) in
    let declared = and_parts (list_all is_in_range first) (list_all is_in_range (line ∷ second)) (sym (list_all-append is_in_range first (line ∷ second)) ∙ lines.1) in
    (declared.0, (and_parts (is_in_range line) (list_all is_in_range second) declared.1).1)

declared_in_range : (s : Script) → IsGood s → (list_all is_in_range (flat_map declaration_lines (first_node s).decls) ≡ true) × (list_all is_in_range (flat_map declaration_lines (second_node s).decls) ≡ true)
declared_in_range s good = parts_in_range (head_lines s) (flat_map declaration_lines (first_node s).decls) (flat_map declaration_lines (second_node s).decls) (SecondNode (node_line (second_node s))) good.ranges

-- what node 0 of a good script declares
pub first_declarable : (s : Script) → IsGood s → IsDeclarable (kernel_conf (first_conf (conf_of s)))
first_declarable s good = declarable (first_node s) good.first (declared_in_range s good).0

-- what node 1 of a good script declares
pub second_declarable : (s : Script) → IsGood s → IsDeclarable (kernel_conf (second_conf (conf_of s)))
second_declarable s good = declarable (second_node s) good.second (declared_in_range s good).1
