-- The lines of a good script are taken one after the other, and make that script.
use Rattle.std.proofs.Common.{◌≡◌, ℕ, ◌+◌, ◌≤◌, true, false, not, eqb, ltb, leb, List, [], ◌∷◌, ◌++◌, length, map, Option, Some, None, refl, sym, ap, ◌∙◌, subst, append_assoc, arith}
use Rattle.std.specs.Prelude.{slice_index, slice_index_or}
use Rattle.std.specs.List.{list_all, flat_map}
use Rattle.std.proofs.lemmas.Bool.{and_parts, not-true, eqb-true, ne_eqb, leb-true, lt-ltb}
use Rattle.std.proofs.lemmas.List.{append-nil, length_push}
use Rattle.std.proofs.lemmas.List.Folds.{list_all-append}
use Rattle.spec_script.specs.declared.script.Script.{Script}
use Rattle.spec_script.specs.declared.script.NodeDecl.{NodeDecl}
use Rattle.spec_script.specs.declared.decl.Decl.{Decl}
use Rattle.spec_script.specs.declared.decl.Decl.TheVariants as declarations
use Rattle.spec_script.specs.declared.decl.Body.{Body}
use Rattle.spec_script.specs.declared.decl.Line.{Line}
use Rattle.spec_script.specs.declared.script_line.ScriptLine.{ScriptLine}
use Rattle.spec_script.specs.declared.script_line.ScriptLine.TheVariants.{Ticks, FirstNode, SecondNode, Sem, Flg, Dtq, End}
use Rattle.spec_script.specs.Lines.{no_node, first_node, second_node, link_line, node_line, body_line, with_body, declaration_lines, lines_of}
use Rattle.spec_script.specs.Ranges.{is_in_range, is_repeated, is_written_declaration, are_distinct, may_nest, depth_after, is_nested, IsGood}
use Rattle.s_script.specs.declared.draft.Stage.TheVariants.{Declares, InBody}
use Rattle.s_script.specs.declared.draft.Draft.{Draft}
use Rattle.s_script.specs.declared.owner.Owner.{Owner}
use Rattle.s_script.specs.declared.owner.Owner.TheVariants as owners
use Rattle.s_script.specs.Owners.{opening, declaration_of}
use Rattle.s_script.specs.Drafts.{no_owner, start, script_of, is_last, moved}
use Rattle.s_script.specs.Reading.{is_whole}
use Rattle.s_script.proofs.Owned.{belongs, line_parts, body_written, lines_owned}
use Rattle.s_script.proofs.Kept.{Passes}
use Rattle.s_script.proofs.LineTakes.{is_written}

-- each line passes its tests and can be written, and P holds of the draft after the last
abbrev pub Runs : (Draft → Type 0) → Draft → List ScriptLine → Type 0
Runs P d [] = P d
Runs P d (l ∷ ls) = Passes d l × (is_written l ≡ true) × Runs P (moved d l) ls

-- ---- a body

-- a draft with an open body
abbrev in_body : List ℕ → ℕ → Option NodeDecl → NodeDecl → Owner → List Line → ℕ → Draft
in_body link ticks first n owner body depth = record { stage = InBody; link = link; ticks = ticks; first = first; node = n; owner = owner; body = body; depth = depth }

-- the lines of a body that nest are taken one after the other
body_runs : (P : Draft → Type 0) (lines : List Line) (link : List ℕ) (ticks : ℕ) (first : Option NodeDecl) (n : NodeDecl) (owner : Owner) (before : List Line) (depth : ℕ) (more : List ScriptLine)
    → list_all (belongs owner) lines ≡ true → is_nested depth lines ≡ true → length before + length lines ≤ 1000 → Runs P (in_body link ticks first n owner (before ++ lines) 0) more
    → Runs P (in_body link ticks first n owner before depth) (map body_line lines ++ more)
body_runs P [] link ticks first n owner before depth more has nested short h =
    subst (λ (left : ℕ). Runs P (in_body link ticks first n owner before left) more) (sym (eqb-true depth 0 nested))
    (subst (λ (body : List Line). Runs P (in_body link ticks first n owner body 0) more) (append-nil before) h)
body_runs P (line ∷ lines) link ticks first n owner before depth more has nested short h =
    let parts = and_parts (belongs owner line) (list_all (belongs owner) lines) has in
    let nest = and_parts (may_nest depth line) (is_nested (depth_after depth line) lines) nested in
    let own = line_parts owner line parts.0 in
    let room : ltb (length before) 1000 ≡ true = lt-ltb (length before) 1000 (omega arith) in
    let regrouped : before ++ (line ∷ lines) ≡ (before ++ (line ∷ [])) ++ lines = sym (append_assoc before (line ∷ []) lines) in (
      record { place = own.1; range = refl; room = room; fresh = refl; nested = nest.0 },
      own.0,
      body_runs P lines link ticks first n owner (before ++ (line ∷ [])) (depth_after depth line) more parts.1 nest.1 (omega (arith, length_push before line))
          (subst (λ (body : List Line). Runs P (in_body link ticks first n owner body 0) more) regrouped h),
    )

-- ---- declarations

-- a draft between declarations
abbrev between : List ℕ → ℕ → Option NodeDecl → NodeDecl → List Decl → Owner → Draft
between link ticks first n before owner = record { stage = Declares; link = link; ticks = ticks; first = first; node = record n { decls = before }; owner = owner; body = []; depth = 0 }

-- what declarations after others keep
record GoodAfter (before ds : List Decl) : Type 0 where
  pub ranges : list_all is_in_range (flat_map declaration_lines ds) ≡ true
  pub written : list_all is_written_declaration ds ≡ true
  pub distinct : are_distinct before ds ≡ true

-- the first of them, and the others
record FirstGood (before : List Decl) (d : Decl) (ds : List Decl) : Type 0 where
  pub ranges : list_all is_in_range (declaration_lines d) ≡ true
  pub written : is_written_declaration d ≡ true
  pub fresh : is_repeated before d ≡ false
  pub others : GoodAfter (before ++ (d ∷ [])) ds

-- what declarations keep, the first of them and the others keep
first_good : (before : List Decl) (d : Decl) (ds : List Decl) → GoodAfter before (d ∷ ds) → FirstGood before d ds
first_good before d ds g =
    let ranges = and_parts (list_all is_in_range (declaration_lines d)) (list_all is_in_range (flat_map declaration_lines ds)) (sym (list_all-append is_in_range (declaration_lines d) (flat_map declaration_lines ds)) ∙ g.ranges) in
    let written = and_parts (is_written_declaration d) (list_all is_written_declaration ds) g.written in
    let distinct = and_parts (not (is_repeated before d)) (are_distinct (before ++ (d ∷ [])) ds) g.distinct in
    record { ranges = ranges.0; written = written.0; fresh = not-true (is_repeated before d) distinct.0; others = record { ranges = ranges.1; written = written.1; distinct = distinct.1 } }

-- a body opens where its owner is new
opens : (P : Draft → Type 0) (o prior : Owner) (link : List ℕ) (ticks : ℕ) (first : Option NodeDecl) (n : NodeDecl) (before : List Decl) (ls : List ScriptLine)
    → is_in_range (opening o) ≡ true → ((body : Body) → is_repeated before (declaration_of o body) ≡ false) → Runs P (in_body link ticks first (record n { decls = before }) o [] 0) ls
    → Runs P (between link ticks first n before prior) (opening o ∷ ls)
opens P (owners.Task task) prior link ticks first n before ls range fresh h = (record { place = refl; range = range; room = refl; fresh = fresh (record { lines = [] }); nested = refl }, refl, h)
opens P (owners.Cyc cyc) prior link ticks first n before ls range fresh h = (record { place = refl; range = range; room = refl; fresh = fresh (record { lines = [] }); nested = refl }, refl, h)
opens P (owners.Cbr cbr) prior link ticks first n before ls range fresh h = (record { place = refl; range = range; room = refl; fresh = fresh (record { lines = [] }); nested = refl }, refl, h)

-- where one body makes a declaration no repetition, each does
any_fresh : (o : Owner) (before : List Decl) (own : Body) → is_repeated before (declaration_of o own) ≡ false → (body : Body) → is_repeated before (declaration_of o body) ≡ false
any_fresh (owners.Task task) before own fresh body = fresh
any_fresh (owners.Cyc cyc) before own fresh body = fresh
any_fresh (owners.Cbr cbr) before own fresh body = fresh

-- a declaration with a body is taken
owner_runs : (P : Draft → Type 0) (link : List ℕ) (ticks : ℕ) (first : Option NodeDecl) (n : NodeDecl) (before : List Decl) (prior o : Owner) (body : Body) (ds : List Decl) (more : List ScriptLine)
    → FirstGood before (declaration_of o body) ds → ((u : Owner) → Runs P (between link ticks first n (before ++ (declaration_of o body ∷ [])) u) more)
    → Runs P (between link ticks first n before prior) (with_body (opening o) body ++ more)
owner_runs P link ticks first n before prior o body ds more g h =
    let ranges : list_all is_in_range (with_body (opening o) body) ≡ true = subst (λ (ls : List ScriptLine). list_all is_in_range ls ≡ true) (lines_owned o body) g.ranges in
    let range = and_parts (is_in_range (opening o)) (list_all is_in_range (map body_line body.lines ++ (End ∷ []))) ranges in
    let bounds = and_parts (leb (length body.lines) 1000) _ (sym (body_written o body) ∙ g.written) in
    let lines = and_parts (list_all (belongs o) body.lines) (is_nested 0 body.lines) bounds.1 in
    let short : 0 + length body.lines ≤ 1000 = omega (arith, leb-true (length body.lines) 1000 bounds.0) in
    let ended : Runs P (in_body link ticks first (record n { decls = before }) o body.lines 0) (End ∷ more) = (record { place = refl; range = refl; room = refl; fresh = refl; nested = refl }, refl, h o) in
    opens P o prior link ticks first n before ((map body_line body.lines ++ (End ∷ [])) ++ more) range.0 (any_fresh o before body g.fresh)
    (subst (λ (ls : List ScriptLine). Runs P (in_body link ticks first (record n { decls = before }) o [] 0) ls) (sym (append_assoc (map body_line body.lines) (End ∷ []) more))
    (body_runs P body.lines link ticks first (record n { decls = before }) o [] 0 (End ∷ more) lines.0 lines.1 short ended))

-- a declaration with a body is taken, and then the others
owned_run : (P : Draft → Type 0) (link : List ℕ) (ticks : ℕ) (first : Option NodeDecl) (n : NodeDecl) (before : List Decl) (o prior : Owner) (body : Body) (ds : List Decl) (more : List ScriptLine)
    → GoodAfter before (declaration_of o body ∷ ds)
    → ((u : Owner) → Runs P (between link ticks first n (before ++ (declaration_of o body ∷ ds)) u) more)
    → ((u : Owner) → GoodAfter (before ++ (declaration_of o body ∷ [])) ds → ((v : Owner) → Runs P (between link ticks first n ((before ++ (declaration_of o body ∷ [])) ++ ds) v) more) → Runs P (between link ticks first n (before ++ (declaration_of o body ∷ [])) u) (flat_map declaration_lines ds ++ more))
    → Runs P (between link ticks first n before prior) ((declaration_lines (declaration_of o body) ++ flat_map declaration_lines ds) ++ more)
owned_run P link ticks first n before o prior body ds more g h others =
    let f = first_good before (declaration_of o body) ds g in
    let later = flat_map declaration_lines ds in
    let regrouped : before ++ (declaration_of o body ∷ ds) ≡ (before ++ (declaration_of o body ∷ [])) ++ ds = sym (append_assoc before (declaration_of o body ∷ []) ds) in
    let lines : (declaration_lines (declaration_of o body) ++ later) ++ more ≡ with_body (opening o) body ++ (later ++ more) = ap (λ (ls : List ScriptLine). (ls ++ later) ++ more) (lines_owned o body) ∙ append_assoc (with_body (opening o) body) later more in
    subst (λ (ls : List ScriptLine). Runs P (between link ticks first n before prior) ls) (sym lines)
    (owner_runs P link ticks first n before prior o body ds (later ++ more) f (λ u. others u f.others (λ v. subst (λ (x : List Decl). Runs P (between link ticks first n x v) more) regrouped (h v))))

-- declarations are taken one after the other
declarations_run : (P : Draft → Type 0) (ds : List Decl) (link : List ℕ) (ticks : ℕ) (first : Option NodeDecl) (n : NodeDecl) (before : List Decl) (prior : Owner) (more : List ScriptLine)
    → GoodAfter before ds → ((u : Owner) → Runs P (between link ticks first n (before ++ ds) u) more) → Runs P (between link ticks first n before prior) (flat_map declaration_lines ds ++ more)
declarations_run P [] link ticks first n before prior more g h = subst (λ (x : List Decl). Runs P (between link ticks first n x prior) more) (append-nil before) (h prior)
declarations_run P (declarations.Sem sem ∷ ds) link ticks first n before prior more g h =
    let f = first_good before (declarations.Sem sem) ds g in
    let regrouped : before ++ (declarations.Sem sem ∷ ds) ≡ (before ++ (declarations.Sem sem ∷ [])) ++ ds = sym (append_assoc before (declarations.Sem sem ∷ []) ds) in (
      record { place = refl; range = (and_parts (is_in_range (Sem (Some sem.id) sem.pri (Some sem.init) (Some sem.max))) true f.ranges).0; room = refl; fresh = f.fresh; nested = refl },
      refl,
      declarations_run P ds link ticks first n (before ++ (declarations.Sem sem ∷ [])) prior more f.others (λ u. subst (λ (x : List Decl). Runs P (between link ticks first n x u) more) regrouped (h u)),
    )
declarations_run P (declarations.Flg flag ∷ ds) link ticks first n before prior more g h =
    let f = first_good before (declarations.Flg flag) ds g in
    let regrouped : before ++ (declarations.Flg flag ∷ ds) ≡ (before ++ (declarations.Flg flag ∷ [])) ++ ds = sym (append_assoc before (declarations.Flg flag ∷ []) ds) in (
      record { place = refl; range = (and_parts (is_in_range (Flg (Some flag.id) flag.pri flag.many flag.clr (Some flag.init))) true f.ranges).0; room = refl; fresh = f.fresh; nested = refl },
      refl,
      declarations_run P ds link ticks first n (before ++ (declarations.Flg flag ∷ [])) prior more f.others (λ u. subst (λ (x : List Decl). Runs P (between link ticks first n x u) more) regrouped (h u)),
    )
declarations_run P (declarations.Dtq queue ∷ ds) link ticks first n before prior more g h =
    let f = first_good before (declarations.Dtq queue) ds g in
    let regrouped : before ++ (declarations.Dtq queue ∷ ds) ≡ (before ++ (declarations.Dtq queue ∷ [])) ++ ds = sym (append_assoc before (declarations.Dtq queue ∷ []) ds) in (
      record { place = refl; range = (and_parts (is_in_range (Dtq (Some queue.id) queue.pri (Some queue.cap))) true f.ranges).0; room = refl; fresh = f.fresh; nested = refl },
      refl,
      declarations_run P ds link ticks first n (before ++ (declarations.Dtq queue ∷ [])) prior more f.others (λ u. subst (λ (x : List Decl). Runs P (between link ticks first n x u) more) regrouped (h u)),
    )
declarations_run P (declarations.Task task body ∷ ds) link ticks first n before prior more g h =
    owned_run P link ticks first n before (owners.Task task) prior body ds more g h (λ u later next. declarations_run P ds link ticks first n (before ++ (declarations.Task task body ∷ [])) u more later next)
declarations_run P (declarations.Cyc cyc body ∷ ds) link ticks first n before prior more g h =
    owned_run P link ticks first n before (owners.Cyc cyc) prior body ds more g h (λ u later next. declarations_run P ds link ticks first n (before ++ (declarations.Cyc cyc body ∷ [])) u more later next)
declarations_run P (declarations.Cbr cbr body ∷ ds) link ticks first n before prior more g h =
    owned_run P link ticks first n before (owners.Cbr cbr) prior body ds more g h (λ u later next. declarations_run P ds link ticks first n (before ++ (declarations.Cbr cbr body ∷ [])) u more later next)

-- ---- a script

-- the draft is whole, and makes the script
pub record Makes (s : Script) (e : Draft) : Type 0 where
  pub whole : is_whole e.stage (is_last e) ≡ true
  pub made : script_of e ≡ s

-- a list of two, read by places
two_nodes : (nodes : List NodeDecl) → length nodes ≡ 2 → slice_index_or nodes 0 no_node ∷ slice_index_or nodes 1 no_node ∷ [] ≡ nodes
two_nodes [] e = absurd (omega arith)
two_nodes (a ∷ []) e = absurd (omega arith)
two_nodes (a ∷ b ∷ []) e = refl
two_nodes (a ∷ b ∷ c ∷ nodes) e = absurd (omega arith)

-- a list of four, read by places
four_numbers : (link : List ℕ) → length link ≡ 4 → slice_index link 0 ∷ slice_index link 1 ∷ slice_index link 2 ∷ slice_index link 3 ∷ [] ≡ link
four_numbers [] e = absurd (omega arith)
four_numbers (a ∷ []) e = absurd (omega arith)
four_numbers (a ∷ b ∷ []) e = absurd (omega arith)
four_numbers (a ∷ b ∷ c ∷ []) e = absurd (omega arith)
four_numbers (a ∷ b ∷ c ∷ d ∷ []) e = refl
four_numbers (a ∷ b ∷ c ∷ d ∷ e ∷ link) h = absurd (omega arith)

-- the numbers of the link's line, one by one
abbrev numbers : Script → List ℕ
numbers s = slice_index s.link 0 ∷ slice_index s.link 1 ∷ slice_index s.link 2 ∷ slice_index s.link 3 ∷ []

-- the ranges of a script's lines
record Ranges (s : Script) : Type 0 where
  pub link : is_in_range (link_line s.link) ≡ true
  pub ticks : is_in_range (Ticks (Some s.ticks)) ≡ true
  pub first : is_in_range (FirstNode (node_line (first_node s))) ≡ true
  pub declared : list_all is_in_range (flat_map declaration_lines (first_node s).decls) ≡ true
  pub second : is_in_range (SecondNode (node_line (second_node s))) ≡ true
  pub last_declared : list_all is_in_range (flat_map declaration_lines (second_node s).decls) ≡ true

-- the ranges, line by line
ranges_of : (s : Script) → list_all is_in_range (lines_of s) ≡ true → Ranges s
ranges_of s all =
    let ds = flat_map declaration_lines (first_node s).decls in
    let es = flat_map declaration_lines (second_node s).decls in
    let last = SecondNode (node_line (second_node s)) ∷ es in
    let a = and_parts (is_in_range (link_line s.link)) _ all in
    let b = and_parts (is_in_range (Ticks (Some s.ticks))) _ a.1 in
    let c = and_parts (is_in_range (FirstNode (node_line (first_node s)))) (list_all is_in_range (ds ++ last)) b.1 in
    let d = and_parts (list_all is_in_range ds) (list_all is_in_range last) (sym (list_all-append is_in_range ds last) ∙ c.1) in
    let e = and_parts (is_in_range (SecondNode (node_line (second_node s)))) (list_all is_in_range es) d.1 in
    record { link = a.0; ticks = b.0; first = c.0; declared = d.0; second = e.0; last_declared = e.1 }

-- node 1's declarations are taken after node 0, and make the script
second_runs : (s : Script) → IsGood s → Ranges s → (t : Owner) → Runs (Makes s) (between (numbers s) s.ticks (Some (first_node s)) (second_node s) [] t) (flat_map declaration_lines (second_node s).decls)
second_runs s g r t =
    let n = first_node s in
    let m = second_node s in
    let made : script_of (between (numbers s) s.ticks (Some n) m m.decls t) ≡ s = rw (two_nodes s.nodes g.two_nodes, four_numbers s.link g.four_numbers) refl in
    let good : GoodAfter [] m.decls = record { ranges = r.last_declared; written = g.second.written; distinct = g.second.distinct } in
    subst (λ (ls : List ScriptLine). Runs (Makes s) (between (numbers s) s.ticks (Some n) m [] t) ls) (append-nil (flat_map declaration_lines m.decls))
    (declarations_run (Makes s) m.decls (numbers s) s.ticks (Some n) m [] t [] good (λ u. record { whole = refl; made = made }))

-- the lines of a good script are taken, and make the script
pub script_runs : (s : Script) → IsGood s → Runs (Makes s) start (lines_of s)
script_runs s g =
    let r = ranges_of s g.ranges in
    let n = first_node s in
    let m = second_node s in
    let other : eqb m.addr n.addr ≡ false = ne_eqb m.addr n.addr g.addresses in
    let good : GoodAfter [] n.decls = record { ranges = r.declared; written = g.first.written; distinct = g.first.distinct } in
    let last : (t : Owner) → Runs (Makes s) (between (numbers s) s.ticks None n n.decls t) (SecondNode (node_line m) ∷ flat_map declaration_lines m.decls) = λ t.
    (record { place = refl; range = r.second; room = rw other refl; fresh = refl; nested = refl }, refl, second_runs s g r t) in (
      record { place = refl; range = refl; room = refl; fresh = refl; nested = refl },
      refl,
      (
        record { place = refl; range = r.link; room = refl; fresh = refl; nested = refl },
        refl,
        (
          record { place = refl; range = r.ticks; room = refl; fresh = refl; nested = refl },
          refl,
          (
            record { place = refl; range = r.first; room = refl; fresh = refl; nested = refl },
            refl,
            declarations_run (Makes s) n.decls (numbers s) s.ticks None n [] no_owner (SecondNode (node_line m) ∷ flat_map declaration_lines m.decls) good last,
          ),
        ),
      ),
    )
