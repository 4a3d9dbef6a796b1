-- What a draft keeps, line after line.
use Rattle.std.proofs.Common.{◌≡◌, ◌≢◌, ℕ, ◌≤◌, Bool, true, false, not, ◌&&◌, cond, eqb, List, [], ◌∷◌, ◌++◌, length, Option, Some, None, unwrap_or, refl, sym, ap, ◌∙◌, append_assoc, arith}
use Rattle.std.specs.List.{list_all}
use Rattle.std.proofs.lemmas.Bool.{and_parts, not-true, eqb-true, eqb-false, ltb-true, le-leb}
use Rattle.std.proofs.lemmas.List.{append-nil, length_push}
use Rattle.std.proofs.lemmas.List.Folds.{list_all-append}
use Rattle.spec_script.specs.declared.script.NodeDecl.{NodeDecl}
use Rattle.spec_script.specs.declared.decl.Decl.{Decl}
use Rattle.spec_script.specs.declared.decl.Decl.TheVariants as declarations
use Rattle.spec_script.specs.declared.decl.Body.{Body}
use Rattle.spec_script.specs.declared.decl.Line.{Line}
use Rattle.spec_script.specs.declared.script_line.ScriptLine.{ScriptLine}
use Rattle.spec_script.specs.declared.script_line.ScriptLine.TheVariants as script_lines
use Rattle.spec_script.specs.declared.script_line.ScriptLine.TheVariants.{Itron, Link, Ticks, FirstNode, SecondNode, Sem, Flg, Dtq, Task, Cyc, Cbr, End}
use Rattle.spec_script.specs.Ranges.{is_in_range, is_repeated, is_written_declaration, are_distinct, may_nest, depth_after, is_nested, AreGood}
use Rattle.s_script.specs.declared.read_bad.Why.TheVariants.{Form, Range, Twice, Nest}
use Rattle.s_script.specs.declared.draft.Stage.{Stage}
use Rattle.s_script.specs.declared.draft.Stage.TheVariants.{Declares, InBody}
use Rattle.s_script.specs.declared.draft.Draft.{Draft}
use Rattle.s_script.specs.declared.owner.Owner.{Owner}
use Rattle.s_script.specs.declared.owner.Owner.TheVariants as owners
use Rattle.s_script.specs.Owners.{may_have, declaration_of}
use Rattle.s_script.specs.Drafts.{start, lines_at, is_last, in_place, has_room, is_declared, nests, cause, task_of, semaphore_of, flag_of, queue_of, cyclic_of, routine_of, with_object, opened, moved}
use Rattle.s_script.proofs.Owned.{belongs, line_belongs, body_written}
use Rattle.s_script.proofs.Added.{added}
use Rattle.s_script.proofs.LineTakes.{is_written}

-- ---- the tests of a line

-- the line passes each test
pub record Passes (d : Draft) (l : ScriptLine) : Type 0 where
  pub place : in_place d.stage (is_last d) d.owner l ≡ true
  pub range : is_in_range l ≡ true
  pub room : has_room d l ≡ true
  pub fresh : is_declared d l ≡ false
  pub nested : nests d l ≡ true

-- four tests, each with its cause, of which none says anything
record AllPass (place range room twice nest : Bool) : Type 0 where
  pub place_true : place ≡ true
  pub range_true : range ≡ true
  pub room_true : room ≡ true
  pub twice_false : twice ≡ false
  pub nest_true : nest ≡ true

-- where no cause is found, each test passes
tests_pass : (place range room twice nest : Bool)
    → cond (not place) (Some Form) (cond (not (range && room)) (Some Range) (cond twice (Some Twice) (cond (not nest) (Some Nest) None))) ≡ None → AllPass place range room twice nest
tests_pass true true true false true e = record { place_true = refl; range_true = refl; room_true = refl; twice_false = refl; nest_true = refl }
tests_pass true true true false false e = absurd cc
tests_pass true true true true nest e = absurd cc
tests_pass true true false twice nest e = absurd cc
tests_pass true false room twice nest e = absurd cc
tests_pass false range room twice nest e = absurd cc

-- a line with no cause passes
pub passes : (d : Draft) (l : ScriptLine) → cause d l ≡ None → Passes d l
passes d l e =
    let tests = tests_pass (in_place d.stage (is_last d) d.owner l) (is_in_range l) (has_room d l) (is_declared d l) (nests d l) e in
    record { place = tests.place_true; range = tests.range_true; room = tests.room_true; fresh = tests.twice_false; nested = tests.nest_true }

-- a line that passes has no cause
pub no_cause : (d : Draft) (l : ScriptLine) → Passes d l → cause d l ≡ None
no_cause d l p = rw (p.place, p.range, p.room, p.fresh, p.nested) refl

-- ---- what is kept

-- what a stage keeps: the owner of the open body is new
abbrev pub AtStage : Stage → Draft → Type 0
AtStage InBody d = (body : Body) → is_repeated d.node.decls (declaration_of d.owner body) ≡ false
AtStage _ d = Unit {0}

-- node 0 is good where node 1 has begun, and has another address
abbrev pub IsAfter : Option NodeDecl → ℕ → Type 0
IsAfter None addr = Unit {0}
IsAfter (Some n) addr = AreGood n.decls × (addr ≢ n.addr)

-- what a draft keeps
pub record Kept (d : Draft) : Type 0 where
  pub ranges : list_all is_in_range (lines_at d.stage d) ≡ true
  pub before : IsAfter d.first d.node.addr
  pub good : AreGood d.node.decls
  pub lines : list_all (belongs d.owner) d.body ≡ true
  pub short : length d.body ≤ 1000
  pub four : length d.link ≡ 4
  pub nested : (more : List Line) → is_nested 0 (d.body ++ more) ≡ is_nested d.depth more
  pub at_stage : AtStage d.stage d

-- no declarations are good
none_good : AreGood []
none_good = record { written = refl; distinct = refl }

-- the draft before the first line keeps it
pub start_kept : Kept start
start_kept = record { ranges = refl; before = tt; good = none_good; lines = refl; short = omega arith; four = refl; nested = λ more. refl; at_stage = tt }

-- one more declaration that is distinct from those before
distinct_push : (before ds : List Decl) (d : Decl) → are_distinct before ds ≡ true → is_repeated (before ++ ds) d ≡ false → are_distinct before (ds ++ d ∷ []) ≡ true
distinct_push before [] d all fresh = let unseen : is_repeated before d ≡ false = rw append-nil at fresh in rw unseen refl
distinct_push before (e ∷ ds) d all fresh =
    let parts = and_parts (not (is_repeated before e)) (are_distinct (before ++ e ∷ []) ds) all in
    rw (parts.0, distinct_push (before ++ e ∷ []) ds d parts.1 (rw append_assoc fresh)) refl

-- one more element that passes
all_push : {X : Type 0} (test : X → Bool) (xs : List X) (x : X) → list_all test xs ≡ true → test x ≡ true → list_all test (xs ++ x ∷ []) ≡ true
all_push test xs x all one = rw (list_all-append test xs (x ∷ []), all, one) refl

-- a line of a body stands in a body that may have it
line_stage : (stage : Stage) (last : Bool) (d : Draft) (line : Line) (fits : Bool) → in_place stage last d.owner (script_lines.Body line fits) ≡ true → AtStage stage d → (may_have d.owner line ≡ true) × AtStage InBody d
line_stage InBody last d line fits place at = (place, at)
line_stage _ last d line fits place at = absurd (let none : false ≡ true = place in cc)

-- the end of a body stands in a body
end_stage : (stage : Stage) (last : Bool) (d : Draft) → in_place stage last d.owner End ≡ true → AtStage stage d → AtStage InBody d
end_stage InBody last d place at = at
end_stage _ last d place at = absurd (let none : false ≡ true = place in cc)

-- one more line in its ranges
more_ranges : (d : Draft) (l : ScriptLine) → Kept d → Passes d l → list_all is_in_range (lines_at (moved d l).stage (moved d l)) ≡ true
more_ranges d l k p = rw (added d.stage d l p.place p.range) (all_push is_in_range (lines_at d.stage d) l k.ranges p.range)

-- one more declaration that can be written and is new
good_push : (ds : List Decl) (d : Decl) → AreGood ds → is_written_declaration d ≡ true → is_repeated ds d ≡ false → AreGood (ds ++ d ∷ [])
good_push ds d g written fresh = record { written = all_push is_written_declaration ds d g.written written; distinct = distinct_push [] ds d g.distinct fresh }

-- one more object that is new keeps it all
object_kept : (d : Draft) (declaration : Decl) → Kept d → list_all is_in_range (lines_at Declares (with_object d declaration)) ≡ true → is_written_declaration declaration ≡ true → is_repeated d.node.decls declaration ≡ false
    → Kept (with_object d declaration)
object_kept d declaration k ranges written fresh = record {
  ranges = ranges;
  before = k.before;
  good = good_push d.node.decls declaration k.good written fresh;
  lines = k.lines;
  short = k.short;
  four = k.four;
  nested = k.nested;
  at_stage = tt;
}

-- a body that opens keeps it all, where its owner is new
opened_kept : (d : Draft) (o : Owner) → Kept d → list_all is_in_range (lines_at InBody (opened d o)) ≡ true → AtStage InBody (opened d o) → Kept (opened d o)
opened_kept d o k ranges fresh = record { ranges = ranges; before = k.before; good = k.good; lines = refl; short = omega arith; four = k.four; nested = λ more. refl; at_stage = fresh }

-- with a body that ends the declarations are good
closed_good : (d : Draft) → Kept d → d.depth ≡ 0 → AtStage InBody d → AreGood (d.node.decls ++ declaration_of d.owner (record { lines = d.body }) ∷ [])
closed_good d k none_open fresh =
    let body : Body = record { lines = d.body } in
    let closed : is_nested 0 d.body ≡ true = ap (λ (lines : List Line). is_nested 0 lines) (sym (append-nil d.body)) ∙ k.nested [] ∙ rw none_open refl in
    good_push d.node.decls (declaration_of d.owner body) k.good (body_written d.owner body ∙ rw (le-leb (length d.body) 1000 k.short, k.lines, closed) refl) (fresh body)

-- one more line that nests
more_nested : (d : Draft) (line : Line) → Kept d → may_nest d.depth line ≡ true → (more : List Line) → is_nested 0 ((d.body ++ line ∷ []) ++ more) ≡ is_nested (depth_after d.depth line) more
more_nested d line k nested more = ap (λ (lines : List Line). is_nested 0 lines) (append_assoc d.body (line ∷ []) more) ∙ k.nested (line ∷ more) ∙ rw nested refl

-- a line that passes and can be written keeps it all
pub kept : (d : Draft) (l : ScriptLine) → Kept d → Passes d l → is_written l ≡ true → Kept (moved d l)
kept d Itron k p w = record { ranges = more_ranges d Itron k p; before = k.before; good = k.good; lines = k.lines; short = k.short; four = k.four; nested = k.nested; at_stage = tt }
kept d (Link key lose twice delay) k p w = record { ranges = more_ranges d (Link key lose twice delay) k p; before = k.before; good = k.good; lines = k.lines; short = k.short; four = refl; nested = k.nested; at_stage = tt }
kept d (Ticks ticks) k p w = record { ranges = more_ranges d (Ticks ticks) k p; before = k.before; good = k.good; lines = k.lines; short = k.short; four = k.four; nested = k.nested; at_stage = tt }
kept d (FirstNode n) k p w = record { ranges = more_ranges d (FirstNode n) k p; before = tt; good = none_good; lines = k.lines; short = k.short; four = k.four; nested = k.nested; at_stage = tt }
kept d (SecondNode n) k p w = record {
  ranges = more_ranges d (SecondNode n) k p;
  before = (k.good, eqb-false (unwrap_or n.addr 0) d.node.addr (not-true (eqb (unwrap_or n.addr 0) d.node.addr) p.room));
  good = none_good;
  lines = k.lines;
  short = k.short;
  four = k.four;
  nested = k.nested;
  at_stage = tt;
}
kept d (Sem id pri init max) k p w = object_kept d (declarations.Sem (semaphore_of id pri init max)) k (more_ranges d (Sem id pri init max) k p) refl p.fresh
kept d (Flg id pri many clr init) k p w = object_kept d (declarations.Flg (flag_of id pri many clr init)) k (more_ranges d (Flg id pri many clr init) k p) refl p.fresh
kept d (Dtq id pri cap) k p w = object_kept d (declarations.Dtq (queue_of id pri cap)) k (more_ranges d (Dtq id pri cap) k p) refl p.fresh
kept d (Task id pri act) k p w = opened_kept d (owners.Task (task_of id pri act)) k (more_ranges d (Task id pri act) k p) (λ body. p.fresh)
kept d (Cyc id period phase on) k p w = opened_kept d (owners.Cyc (cyclic_of id period phase on)) k (more_ranges d (Cyc id period phase on) k p) (λ body. p.fresh)
kept d (Cbr id) k p w = opened_kept d (owners.Cbr (routine_of id)) k (more_ranges d (Cbr id) k p) (λ body. p.fresh)
kept d (script_lines.Body line true) k p w =
    let at = line_stage d.stage (is_last d) d line true p.place k.at_stage in
    record {
      ranges = more_ranges d (script_lines.Body line true) k p;
      before = k.before;
      good = k.good;
      lines = all_push (belongs d.owner) d.body line k.lines (line_belongs d.owner line w at.0);
      short = omega (arith, ltb-true (length d.body) 1000 p.room, length_push d.body line);
      four = k.four;
      nested = more_nested d line k p.nested;
      at_stage = at.1;
    }
kept d (script_lines.Body line false) k p w = absurd (let none : false ≡ true = p.range in cc)
kept d End k p w = record {
  ranges = more_ranges d End k p;
  before = k.before;
  good = closed_good d k (eqb-true d.depth 0 p.nested) (end_stage d.stage (is_last d) d p.place k.at_stage);
  lines = refl;
  short = omega arith;
  four = k.four;
  nested = λ more. refl;
  at_stage = tt;
}
