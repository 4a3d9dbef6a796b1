-- A line that is read in its ranges is spelled as it is printed.
use Rattle.std.proofs.Common.{◌≡◌, ℕ, ◌<◌, Bool, true, false, leb, ltb, List, [], ◌++◌, Option, Some, None, is_some, codes, refl, sym, ap, subst, ◌∙◌, append_assoc, arith}
use Rattle.std.proofs.lemmas.Bool.{and_parts, lt-ltb}
use Rattle.std.proofs.lemmas.List.{append-nil}
use Rattle.spec_script.specs.declared.decl.Line.{Line}
use Rattle.spec_script.specs.declared.decl.Line.TheVariants.{Fill, Loop, Pool, UntilEnd, UntilFail, UntilEmpty}
use Rattle.spec_script.specs.declared.script_line.ScriptLine.{ScriptLine}
use Rattle.spec_script.specs.declared.script_line.ScriptLine.TheVariants.{Itron, Link, Ticks, FirstNode, SecondNode, Sem, Flg, Dtq, Task, Cyc, Cbr, Body, End}
use Rattle.spec_script.specs.declared.script_line.NodeLine.{NodeLine}
use Rattle.spec_script.specs.Lines.{line_text, body_line_text, number_text, start_text, running_text, node_text}
use Rattle.spec_script.specs.Ranges.{within, is_at_most, are_parts_of_16, is_node_in_range, is_in_range, is_written_line}
use Rattle.it_types.specs.Cursor.{or_else, at_end}
use Rattle.it_types.specs.Numbers.{below_or_0}
use Rattle.s_script.specs.LineKinds.{itron_line, link_line, ticks_line, node_at, first_node_line, second_node_line, either_node_line, sem_line, flg_line, dtq_line, task_line, cyc_line, cbr_line, fill_line, loop_line, pool_line, line_by, until_line, end_line, fill_limit, round_limit}
use Rattle.it_types.proofs.ReadSteps.{read_step, found_is, at_end_is, after_takes}
use Rattle.it_types.proofs.Numerals.{number_takes, address_takes}
use Rattle.s_script.proofs.LineFields.{either, number_field_takes, choice_field_takes, order_takes}
use Rattle.s_script.proofs.LineAgain.{in_bounds}

-- a line that can be written, if it is one of a body
abbrev pub is_written : ScriptLine → Bool
is_written (Body line fits) = is_written_line line
is_written _ = true

-- where the line is in its ranges, the bytes are its text
pub record Takes (bytes : List ℕ) (l : ScriptLine) : Type 0 where
  pub fact : is_in_range l ≡ true → (bytes ≡ line_text l) × (is_written l ≡ true)

-- a line that is read up to the end
pub at_end_takes : (bytes rest : List ℕ) (made l : ScriptLine) → at_end rest made ≡ Some l → (rest ≡ [] → Takes bytes made) → Takes bytes l
at_end_takes bytes rest made l e go = let read = at_end_is rest made l e in subst (λ (m : ScriptLine). Takes bytes m) read.1 (go read.0)

-- ---- what ranges say

-- a number in its range is there
within_some : (low : ℕ) (n : Option ℕ) (high : ℕ) → within low n high ≡ true → is_some n ≡ true
within_some low None high e = absurd (let none : false ≡ true = e in cc)
within_some low (Some n) high e = refl

-- a number that is at most another is there
at_most_some : (m n : Option ℕ) → is_at_most m n ≡ true → is_some m ≡ true
at_most_some (Some m) n e = refl
at_most_some None n e = absurd (let none : false ≡ true = e in cc)

-- parts of 16 packets are there
parts_some : (m n : Option ℕ) → are_parts_of_16 m n ≡ true → (is_some m ≡ true) × (is_some n ≡ true)
parts_some (Some m) (Some n) e = (refl, refl)
parts_some (Some m) None e = absurd (let none : false ≡ true = e in cc)
parts_some None n e = absurd (let none : false ≡ true = e in cc)

-- a number below the limit stands as itself
stays : (limit : ℕ) (n : Option ℕ) (v : ℕ) → n ≡ Some v → v < limit → below_or_0 limit n ≡ v
stays limit n v is low = let small : ltb v limit ≡ true = lt-ltb v limit low in rw (is, small) refl

-- ---- one lemma for each kind of line

-- itron 1
pub itron_takes : (bytes : List ℕ) (l : ScriptLine) → itron_line bytes ≡ Some l → Takes (codes "itron" ++ bytes) l
unfolding itron_line
itron_takes bytes l e =
    read_step e λ rest p e1. at_end_takes (codes "itron" ++ bytes) rest Itron l e1 (λ nil. record { fact = λ range. (rw (after_takes (codes " 1") bytes rest p, nil) refl, refl) })

-- link KEY LOSE TWICE DELAY
pub link_takes : (bytes : List ℕ) (l : ScriptLine) → link_line bytes ≡ Some l → Takes (codes "link" ++ bytes) l
unfolding link_line
link_takes bytes l e =
    read_step e λ key p e1. read_step e1 λ lose q e2. read_step e2 λ twice r e3. read_step e3 λ delay s e4.
    at_end_takes (codes "link" ++ bytes) delay.1 (Link key.0 lose.0 twice.0 delay.0) l e4 (λ nil. record {
      fact = λ range.
          let bounds = and_parts (within 0 key.0 18446744073709551615) _ range in
          let others = and_parts (are_parts_of_16 lose.0 twice.0) (within 0 delay.0 1000) bounds.1 in
          let parts = parts_some lose.0 twice.0 others.0 in (
            rw (
              number_field_takes bytes key p (within_some _ key.0 _ bounds.0),
              number_field_takes key.1 lose q parts.0,
              number_field_takes lose.1 twice r parts.1,
              number_field_takes twice.1 delay s (within_some _ delay.0 _ others.1),
              nil,
              append-nil (number_text delay.0),
            ) refl,
            refl,
          );
    })

-- ticks T
pub ticks_takes : (bytes : List ℕ) (l : ScriptLine) → ticks_line bytes ≡ Some l → Takes (codes "ticks" ++ bytes) l
unfolding ticks_line
ticks_takes bytes l e =
    read_step e λ rest p e1. read_step e1 λ ticks q e2.
    at_end_takes (codes "ticks" ++ bytes) ticks.1 (Ticks ticks.0) l e2 (λ nil. record {
      fact = λ range. (
        rw (after_takes (codes " ") bytes rest p, number_takes rest ticks q (within_some _ ticks.0 _ range), nil, append-nil (number_text ticks.0)) refl,
        refl,
      );
    })

-- ADDR ISN TOP
node_takes : (bytes : List ℕ) (x : NodeLine × List ℕ) → node_at bytes ≡ Some x → is_node_in_range x.0 ≡ true → bytes ≡ node_text x.0 ++ x.1
unfolding node_at
node_takes bytes x e range =
    read_step e λ addr p e1. read_step e1 λ rest1 q e2. read_step e2 λ isn0 r e3. read_step e3 λ rest2 s e4. read_step e4 λ top0 t e5.
    let node : NodeLine = record { addr = addr.0; isn0 = isn0.0; top0 = top0.0 } in
    let made : (node, top0.1) ≡ x = found_is (node, top0.1) x e5 in
    let bounds = and_parts (within 1 addr.0 4294967295) _ (subst (λ (y : NodeLine × List ℕ). is_node_in_range y.0 ≡ true) (sym made) range) in
    let others = and_parts (within 0 isn0.0 4294967295) (within 0 top0.0 2000000000) bounds.1 in
    let whole : bytes ≡ node_text node ++ top0.1 =
    rw ((address_takes bytes addr p (within_some _ addr.0 _ bounds.0)).0, after_takes (codes " ") addr.1 rest1 q, number_takes rest1 isn0 r (within_some _ isn0.0 _ others.0), after_takes (codes " ") isn0.1 rest2 s, number_takes rest2 top0 t (within_some _ top0.0 _ others.1)) (simp append_assoc) in
    whole ∙ ap (λ (y : NodeLine × List ℕ). node_text y.0 ++ y.1) made

-- node 0 ADDR ISN TOP
first_node_takes : (bytes : List ℕ) (l : ScriptLine) → first_node_line bytes ≡ Some l → Takes (codes "node" ++ bytes) l
unfolding first_node_line
first_node_takes bytes l e =
    read_step e λ rest p e1. read_step e1 λ node q e2.
    at_end_takes (codes "node" ++ bytes) node.1 (FirstNode node.0) l e2 (λ nil. record {
      fact = λ range. (
        rw (after_takes (codes " 0 ") bytes rest p, node_takes rest node q range, nil, append-nil (node_text node.0)) refl,
        refl,
      );
    })

-- node 1 ADDR ISN TOP
second_node_takes : (bytes : List ℕ) (l : ScriptLine) → second_node_line bytes ≡ Some l → Takes (codes "node" ++ bytes) l
unfolding second_node_line
second_node_takes bytes l e =
    read_step e λ rest p e1. read_step e1 λ node q e2.
    at_end_takes (codes "node" ++ bytes) node.1 (SecondNode node.0) l e2 (λ nil. record {
      fact = λ range. (
        rw (after_takes (codes " 1 ") bytes rest p, node_takes rest node q range, nil, append-nil (node_text node.0)) refl,
        refl,
      );
    })

-- either node
pub node_kind_takes : (bytes : List ℕ) (l : ScriptLine) → either_node_line bytes ≡ Some l → Takes (codes "node" ++ bytes) l
unfolding either_node_line
node_kind_takes bytes l e = either (first_node_line bytes) (second_node_line bytes) l e (first_node_takes bytes l) (second_node_takes bytes l)

-- sem ID fifo INIT MAX
pub sem_takes : (bytes : List ℕ) (l : ScriptLine) → sem_line bytes ≡ Some l → Takes (codes "sem" ++ bytes) l
unfolding sem_line
sem_takes bytes l e =
    read_step e λ id p e1. read_step e1 λ pri q e2. read_step e2 λ init r e3. read_step e3 λ max s e4.
    at_end_takes (codes "sem" ++ bytes) max.1 (Sem id.0 pri.0 init.0 max.0) l e4 (λ nil. record {
      fact = λ range.
          let bounds = and_parts (within 1 id.0 16) _ range in
          let counts = and_parts (is_at_most init.0 max.0) (within 1 max.0 65535) bounds.1 in (
            rw (
              number_field_takes bytes id p (within_some _ id.0 _ bounds.0),
              order_takes id.1 pri q,
              number_field_takes pri.1 init r (at_most_some init.0 max.0 counts.0),
              number_field_takes init.1 max s (within_some _ max.0 _ counts.1),
              nil,
              append-nil (number_text max.0),
            ) refl,
            refl,
          );
    })

-- flg ID fifo one clr INIT
pub flg_takes : (bytes : List ℕ) (l : ScriptLine) → flg_line bytes ≡ Some l → Takes (codes "flg" ++ bytes) l
unfolding flg_line
flg_takes bytes l e =
    read_step e λ id p e1. read_step e1 λ pri q e2. read_step e2 λ many r e3. read_step e3 λ clr s e4. read_step e4 λ init t e5.
    at_end_takes (codes "flg" ++ bytes) init.1 (Flg id.0 pri.0 many.0 clr.0 init.0) l e5 (λ nil. record {
      fact = λ range.
          let bounds = and_parts (within 1 id.0 16) (within 0 init.0 4294967295) range in (
            rw (
              number_field_takes bytes id p (within_some _ id.0 _ bounds.0),
              order_takes id.1 pri q,
              choice_field_takes (codes "many") (codes "one") pri.1 many r,
              choice_field_takes (codes "clr") (codes "keep") many.1 clr s,
              number_field_takes clr.1 init t (within_some _ init.0 _ bounds.1),
              nil,
              append-nil (number_text init.0),
            ) refl,
            refl,
          );
    })

-- dtq ID fifo CAP
pub dtq_takes : (bytes : List ℕ) (l : ScriptLine) → dtq_line bytes ≡ Some l → Takes (codes "dtq" ++ bytes) l
unfolding dtq_line
dtq_takes bytes l e =
    read_step e λ id p e1. read_step e1 λ pri q e2. read_step e2 λ cap r e3.
    at_end_takes (codes "dtq" ++ bytes) cap.1 (Dtq id.0 pri.0 cap.0) l e3 (λ nil. record {
      fact = λ range.
          let bounds = and_parts (within 1 id.0 16) (within 0 cap.0 1024) range in (
            rw (
              number_field_takes bytes id p (within_some _ id.0 _ bounds.0),
              order_takes id.1 pri q,
              number_field_takes pri.1 cap r (within_some _ cap.0 _ bounds.1),
              nil,
              append-nil (number_text cap.0),
            ) refl,
            refl,
          );
    })

-- task ID PRI act
pub task_takes : (bytes : List ℕ) (l : ScriptLine) → task_line bytes ≡ Some l → Takes (codes "task" ++ bytes) l
unfolding task_line
task_takes bytes l e =
    read_step e λ id p e1. read_step e1 λ pri q e2. read_step e2 λ act r e3.
    at_end_takes (codes "task" ++ bytes) act.1 (Task id.0 pri.0 act.0) l e3 (λ nil. record {
      fact = λ range.
          let bounds = and_parts (within 1 id.0 16) (within 1 pri.0 16) range in (
            rw (
              number_field_takes bytes id p (within_some _ id.0 _ bounds.0),
              number_field_takes id.1 pri q (within_some _ pri.0 _ bounds.1),
              choice_field_takes (codes "act") (codes "dor") pri.1 act r,
              nil,
              append-nil (start_text act.0),
            ) refl,
            refl,
          );
    })

-- cyc ID PERIOD PHASE on
pub cyc_takes : (bytes : List ℕ) (l : ScriptLine) → cyc_line bytes ≡ Some l → Takes (codes "cyc" ++ bytes) l
unfolding cyc_line
cyc_takes bytes l e =
    read_step e λ id p e1. read_step e1 λ period q e2. read_step e2 λ phase r e3. read_step e3 λ on s e4.
    at_end_takes (codes "cyc" ++ bytes) on.1 (Cyc id.0 period.0 phase.0 on.0) l e4 (λ nil. record {
      fact = λ range.
          let bounds = and_parts (within 1 id.0 8) _ range in
          let times = and_parts (within 1 period.0 1000000) (within 0 phase.0 1000000) bounds.1 in (
            rw (
              number_field_takes bytes id p (within_some _ id.0 _ bounds.0),
              number_field_takes id.1 period q (within_some _ period.0 _ times.0),
              number_field_takes period.1 phase r (within_some _ phase.0 _ times.1),
              choice_field_takes (codes "on") (codes "off") phase.1 on s,
              nil,
              append-nil (running_text on.0),
            ) refl,
            refl,
          );
    })

-- cbr ID
pub cbr_takes : (bytes : List ℕ) (l : ScriptLine) → cbr_line bytes ≡ Some l → Takes (codes "cbr" ++ bytes) l
unfolding cbr_line
cbr_takes bytes l e =
    read_step e λ id p e1.
    at_end_takes (codes "cbr" ++ bytes) id.1 (Cbr id.0) l e1 (λ nil. record {
      fact = λ range. (rw (number_field_takes bytes id p (within_some _ id.0 _ range), nil, append-nil (number_text id.0)) refl, refl);
    })

-- fill N
pub fill_takes : (bytes : List ℕ) (l : ScriptLine) → fill_line bytes ≡ Some l → Takes (codes "fill" ++ bytes) l
unfolding fill_line
fill_takes bytes l e =
    read_step e λ n p e1.
    at_end_takes (codes "fill" ++ bytes) n.1 (Body (Fill (below_or_0 65281 n.0)) (within 0 n.0 fill_limit)) l e1 (λ nil. record {
      fact = λ range.
          in_bounds 0 n.0 fill_limit range λ v is high.
          let value : below_or_0 65281 n.0 ≡ v = stays 65281 n.0 v is (omega (arith, high)) in (
            rw (value, number_field_takes bytes n p (rw is refl), nil, is, append-nil (number_text (Some v))) refl,
            rw value (and_parts (leb 0 v) (leb v fill_limit) (rw is at range)).1,
          );
    })

-- loop N
pub loop_takes : (bytes : List ℕ) (l : ScriptLine) → loop_line bytes ≡ Some l → Takes (codes "loop" ++ bytes) l
unfolding loop_line
loop_takes bytes l e =
    read_step e λ n p e1.
    at_end_takes (codes "loop" ++ bytes) n.1 (Body (Loop (below_or_0 65536 n.0)) (within 1 n.0 round_limit)) l e1 (λ nil. record {
      fact = λ range.
          in_bounds 1 n.0 round_limit range λ v is high.
          let value : below_or_0 65536 n.0 ≡ v = stays 65536 n.0 v is (omega (arith, high)) in (
            rw (value, number_field_takes bytes n p (rw is refl), nil, is, append-nil (number_text (Some v))) refl,
            rw value (rw is at range),
          );
    })

-- pool
pub pool_takes : (bytes : List ℕ) (l : ScriptLine) → pool_line bytes ≡ Some l → Takes (codes "pool" ++ bytes) l
pool_takes bytes l e = at_end_takes (codes "pool" ++ bytes) bytes (Body Pool true) l e (λ nil. record { fact = λ range. (rw nil refl, refl) })

-- until, and what follows it
line_by_takes : (word : List ℕ) (line : Line) → codes "until" ++ word ≡ body_line_text line → is_written_line line ≡ true → (bytes : List ℕ) (l : ScriptLine) → line_by word line bytes ≡ Some l → Takes (codes "until" ++ bytes) l
unfolding line_by
line_by_takes word line text written bytes l e =
    read_step e λ rest p e1.
    at_end_takes (codes "until" ++ bytes) rest (Body line true) l e1 (λ nil. record {
      fact = λ range. (rw (after_takes word bytes rest p, nil, append-nil word) text, written);
    })

-- until end, until fail or until empty
pub until_takes : (bytes : List ℕ) (l : ScriptLine) → until_line bytes ≡ Some l → Takes (codes "until" ++ bytes) l
unfolding until_line
until_takes bytes l e =
    either (line_by (codes " end") UntilEnd bytes) (or_else (line_by (codes " fail") UntilFail bytes) (line_by (codes " empty") UntilEmpty bytes)) l e
    (line_by_takes (codes " end") UntilEnd refl refl bytes l)
    (λ f. either (line_by (codes " fail") UntilFail bytes) (line_by (codes " empty") UntilEmpty bytes) l f
    (line_by_takes (codes " fail") UntilFail refl refl bytes l)
    (line_by_takes (codes " empty") UntilEmpty refl refl bytes l))

-- end
pub end_takes : (bytes : List ℕ) (l : ScriptLine) → end_line bytes ≡ Some l → Takes (codes "end" ++ bytes) l
end_takes bytes l e = at_end_takes (codes "end" ++ bytes) bytes End l e (λ nil. record { fact = λ range. (rw nil refl, refl) })
