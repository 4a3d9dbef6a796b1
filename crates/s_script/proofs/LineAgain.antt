-- A line in its ranges is read again from its text.
use Rattle.std.proofs.Common.{◌≡◌, ℕ, ◌+◌, ◌≤◌, Bool, true, false, leb, ltb, [], ◌++◌, Option, Some, None, codes, refl, arith}
use Rattle.std.specs.Fmt.{decimal}
use Rattle.std.proofs.lemmas.Bool.{and_parts, leb-true, le-leb, lt-ltb}
use Rattle.spec_script.specs.declared.decl.Line.TheVariants.{Fill, Loop, Pool, UntilEnd, UntilFail, UntilEmpty}
use Rattle.spec_script.specs.declared.script_line.ScriptLine.TheVariants.{Itron, Link, Ticks, FirstNode, SecondNode, Sem, Flg, Dtq, Task, Cyc, Cbr, Body, End}
use Rattle.spec_script.specs.declared.script_line.NodeLine.{NodeLine}
use Rattle.spec_script.specs.Lines.{order_text, waiters_text, clearing_text, start_text, running_text, field, node_text, line_text}
use Rattle.spec_script.specs.Ranges.{within, is_at_most, are_parts_of_16, is_node_in_range, is_in_range, is_written_line}
use Rattle.it_types.specs.Cursor.{and_then, after}
use Rattle.s_script.specs.LineKinds.{itron_line, link_line, ticks_line, node_at, first_node_line, second_node_line, either_node_line, sem_line, flg_line, dtq_line, task_line, cyc_line, cbr_line, fill_line, loop_line, line_by, until_line, line_of}
use Rattle.it_types.proofs.Numerals.{number_again, number_last, address_again}
use Rattle.s_script.proofs.LineFields.{number_field_again, number_field_last, order_again, waiters_again, clearing_again, start_again, running_again}

-- ---- numbers in their ranges

-- what follows from a number in its range, which is there
pub in_bounds : {P : Type 0} (low : ℕ) (n : Option ℕ) (high : ℕ) → within low n high ≡ true → ((v : ℕ) → n ≡ Some v → v ≤ high → P) → P
in_bounds low None high e go = absurd (let none : false ≡ true = e in cc)
in_bounds low (Some n) high e go = go n refl (leb-true n high (and_parts (leb low n) (leb n high) e).1)

-- what follows from a number that is at most another, which is there
pub at_most : {P : Type 0} (m : Option ℕ) (n : ℕ) → is_at_most m (Some n) ≡ true → ((v : ℕ) → m ≡ Some v → v ≤ n → P) → P
at_most None n e go = absurd (let none : false ≡ true = e in cc)
at_most (Some m) n e go = go m refl (leb-true m n e)

-- what follows from parts of 16 packets, which are there
pub in_parts : {P : Type 0} (m n : Option ℕ) → are_parts_of_16 m n ≡ true → ((v w : ℕ) → m ≡ Some v → n ≡ Some w → v + w ≤ 16 → P) → P
in_parts (Some m) (Some n) e go = go m n refl refl (leb-true (m + n) 16 e)
in_parts (Some m) None e go = absurd (let none : false ≡ true = e in cc)
in_parts None n e go = absurd (let none : false ≡ true = e in cc)

-- ---- one lemma for each kind of line

-- link KEY LOSE TWICE DELAY, of numbers
link_of_numbers : (key lose twice delay : ℕ) → key ≤ 18446744073709551615 → lose + twice ≤ 16 → delay ≤ 1000
    → line_of (line_text (Link (Some key) (Some lose) (Some twice) (Some delay))) ≡ Some (Link (Some key) (Some lose) (Some twice) (Some delay))
unfolding line_of link_line and_then
link_of_numbers key lose twice delay k p d =
    rw (
      number_field_again key (field (decimal lose) ++ (field (decimal twice) ++ field (decimal delay))) (omega arith) refl,
      number_field_again lose (field (decimal twice) ++ field (decimal delay)) (omega arith) refl,
      number_field_again twice (field (decimal delay)) (omega arith) refl,
      number_field_last delay (omega arith),
    ) refl

-- the same of numbers that are there
pub link_again : (key lose twice delay : Option ℕ) → is_in_range (Link key lose twice delay) ≡ true → line_of (line_text (Link key lose twice delay)) ≡ Some (Link key lose twice delay)
link_again key lose twice delay range =
    let bounds = and_parts (within 0 key 18446744073709551615) _ range in
    let others = and_parts (are_parts_of_16 lose twice) (within 0 delay 1000) bounds.1 in
    in_bounds 0 key 18446744073709551615 bounds.0 λ k e x.
    in_parts lose twice others.0 λ m n f g y.
    in_bounds 0 delay 1000 others.1 λ d h z.
    rw (e, f, g, h) (link_of_numbers k m n d x y z)

-- ticks T
pub ticks_again : (ticks : Option ℕ) → is_in_range (Ticks ticks) ≡ true → line_of (line_text (Ticks ticks)) ≡ Some (Ticks ticks)
unfolding line_of ticks_line and_then after
ticks_again ticks range = in_bounds 0 ticks 400000 range λ t e high. rw (e, number_last t (omega arith)) refl

-- ADDR ISN TOP, of numbers
node_of_numbers : (addr isn0 top0 : ℕ) → addr ≤ 4294967295 → isn0 ≤ 4294967295 → top0 ≤ 2000000000
    → node_at (node_text (record { addr = Some addr; isn0 = Some isn0; top0 = Some top0 })) ≡ Some (record { addr = Some addr; isn0 = Some isn0; top0 = Some top0 }, [])
unfolding node_at and_then after
node_of_numbers addr isn0 top0 a i t =
    rw (
      address_again addr (codes " " ++ (decimal isn0 ++ (codes " " ++ decimal top0))) a refl,
      number_again isn0 (codes " " ++ decimal top0) (omega arith) refl,
      number_last top0 (omega arith),
    ) refl

-- the same of numbers that are there
node_of_options : (addr isn0 top0 : Option ℕ) → is_node_in_range (record { addr = addr; isn0 = isn0; top0 = top0 }) ≡ true
    → node_at (node_text (record { addr = addr; isn0 = isn0; top0 = top0 })) ≡ Some (record { addr = addr; isn0 = isn0; top0 = top0 }, [])
node_of_options addr isn0 top0 range =
    let bounds = and_parts (within 1 addr 4294967295) _ range in
    let others = and_parts (within 0 isn0 4294967295) (within 0 top0 2000000000) bounds.1 in
    in_bounds 1 addr 4294967295 bounds.0 λ a e x.
    in_bounds 0 isn0 4294967295 others.0 λ i f y.
    in_bounds 0 top0 2000000000 others.1 λ t g z.
    rw (e, f, g) (node_of_numbers a i t x y z)

-- the same of a line
node_again : (n : NodeLine) → is_node_in_range n ≡ true → node_at (node_text n) ≡ Some (n, [])
node_again n range = node_of_options n.addr n.isn0 n.top0 range

-- node 0 ADDR ISN TOP
pub first_node_again : (n : NodeLine) → is_node_in_range n ≡ true → line_of (line_text (FirstNode n)) ≡ Some (FirstNode n)
unfolding line_of either_node_line first_node_line and_then after
first_node_again n range = rw (node_again n range) refl

-- node 1 ADDR ISN TOP
pub second_node_again : (n : NodeLine) → is_node_in_range n ≡ true → line_of (line_text (SecondNode n)) ≡ Some (SecondNode n)
unfolding line_of either_node_line first_node_line second_node_line and_then after
second_node_again n range = rw (node_again n range) refl

-- sem ID fifo INIT MAX, of numbers
sem_of_numbers : (id : ℕ) (pri : Bool) (init max : ℕ) → id ≤ 16 → init ≤ max → max ≤ 65535 → line_of (line_text (Sem (Some id) pri (Some init) (Some max))) ≡ Some (Sem (Some id) pri (Some init) (Some max))
unfolding line_of sem_line and_then
sem_of_numbers id pri init max i n m =
    rw (
      number_field_again id (field (order_text pri) ++ (field (decimal init) ++ field (decimal max))) (omega arith) refl,
      order_again pri (field (decimal init) ++ field (decimal max)),
      number_field_again init (field (decimal max)) (omega arith) refl,
      number_field_last max (omega arith),
    ) refl

-- the same of numbers that are there
pub sem_again : (id : Option ℕ) (pri : Bool) (init max : Option ℕ) → is_in_range (Sem id pri init max) ≡ true → line_of (line_text (Sem id pri init max)) ≡ Some (Sem id pri init max)
sem_again id pri init max range =
    let bounds = and_parts (within 1 id 16) _ range in
    let counts = and_parts (is_at_most init max) (within 1 max 65535) bounds.1 in
    in_bounds 1 id 16 bounds.0 λ i e x.
    in_bounds 1 max 65535 counts.1 λ m f y.
    at_most init m (rw f at counts.0) λ n g z.
    rw (e, f, g) (sem_of_numbers i pri n m x z y)

-- flg ID fifo one clr INIT, of numbers
flg_of_numbers : (id : ℕ) (pri many clr : Bool) (init : ℕ) → id ≤ 16 → init ≤ 4294967295 → line_of (line_text (Flg (Some id) pri many clr (Some init))) ≡ Some (Flg (Some id) pri many clr (Some init))
unfolding line_of flg_line and_then
flg_of_numbers id pri many clr init i n =
    rw (
      number_field_again id (field (order_text pri) ++ (field (waiters_text many) ++ (field (clearing_text clr) ++ field (decimal init)))) (omega arith) refl,
      order_again pri (field (waiters_text many) ++ (field (clearing_text clr) ++ field (decimal init))),
      waiters_again many (field (clearing_text clr) ++ field (decimal init)),
      clearing_again clr (field (decimal init)),
      number_field_last init (omega arith),
    ) refl

-- the same of numbers that are there
pub flg_again : (id : Option ℕ) (pri many clr : Bool) (init : Option ℕ) → is_in_range (Flg id pri many clr init) ≡ true → line_of (line_text (Flg id pri many clr init)) ≡ Some (Flg id pri many clr init)
flg_again id pri many clr init range =
    let bounds = and_parts (within 1 id 16) (within 0 init 4294967295) range in
    in_bounds 1 id 16 bounds.0 λ i e x.
    in_bounds 0 init 4294967295 bounds.1 λ n f y.
    rw (e, f) (flg_of_numbers i pri many clr n x y)

-- dtq ID fifo CAP, of numbers
dtq_of_numbers : (id : ℕ) (pri : Bool) (cap : ℕ) → id ≤ 16 → cap ≤ 1024 → line_of (line_text (Dtq (Some id) pri (Some cap))) ≡ Some (Dtq (Some id) pri (Some cap))
unfolding line_of dtq_line and_then
dtq_of_numbers id pri cap i c =
    rw (
      number_field_again id (field (order_text pri) ++ field (decimal cap)) (omega arith) refl,
      order_again pri (field (decimal cap)),
      number_field_last cap (omega arith),
    ) refl

-- the same of numbers that are there
pub dtq_again : (id : Option ℕ) (pri : Bool) (cap : Option ℕ) → is_in_range (Dtq id pri cap) ≡ true → line_of (line_text (Dtq id pri cap)) ≡ Some (Dtq id pri cap)
dtq_again id pri cap range =
    let bounds = and_parts (within 1 id 16) (within 0 cap 1024) range in
    in_bounds 1 id 16 bounds.0 λ i e x.
    in_bounds 0 cap 1024 bounds.1 λ c f y.
    rw (e, f) (dtq_of_numbers i pri c x y)

-- task ID PRI act, of numbers
task_of_numbers : (id pri : ℕ) (act : Bool) → id ≤ 16 → pri ≤ 16 → line_of (line_text (Task (Some id) (Some pri) act)) ≡ Some (Task (Some id) (Some pri) act)
unfolding line_of task_line and_then
task_of_numbers id pri act i p =
    rw (
      number_field_again id (field (decimal pri) ++ field (start_text act)) (omega arith) refl,
      number_field_again pri (field (start_text act)) (omega arith) refl,
      start_again act,
    ) refl

-- the same of numbers that are there
pub task_again : (id pri : Option ℕ) (act : Bool) → is_in_range (Task id pri act) ≡ true → line_of (line_text (Task id pri act)) ≡ Some (Task id pri act)
task_again id pri act range =
    let bounds = and_parts (within 1 id 16) (within 1 pri 16) range in
    in_bounds 1 id 16 bounds.0 λ i e x.
    in_bounds 1 pri 16 bounds.1 λ p f y.
    rw (e, f) (task_of_numbers i p act x y)

-- cyc ID PERIOD PHASE on, of numbers
cyc_of_numbers : (id period phase : ℕ) (on : Bool) → id ≤ 8 → period ≤ 1000000 → phase ≤ 1000000
    → line_of (line_text (Cyc (Some id) (Some period) (Some phase) on)) ≡ Some (Cyc (Some id) (Some period) (Some phase) on)
unfolding line_of cyc_line and_then
cyc_of_numbers id period phase on i p q =
    rw (
      number_field_again id (field (decimal period) ++ (field (decimal phase) ++ field (running_text on))) (omega arith) refl,
      number_field_again period (field (decimal phase) ++ field (running_text on)) (omega arith) refl,
      number_field_again phase (field (running_text on)) (omega arith) refl,
      running_again on,
    ) refl

-- the same of numbers that are there
pub cyc_again : (id period phase : Option ℕ) (on : Bool) → is_in_range (Cyc id period phase on) ≡ true → line_of (line_text (Cyc id period phase on)) ≡ Some (Cyc id period phase on)
cyc_again id period phase on range =
    let bounds = and_parts (within 1 id 8) _ range in
    let times = and_parts (within 1 period 1000000) (within 0 phase 1000000) bounds.1 in
    in_bounds 1 id 8 bounds.0 λ i e x.
    in_bounds 1 period 1000000 times.0 λ p f y.
    in_bounds 0 phase 1000000 times.1 λ q g z.
    rw (e, f, g) (cyc_of_numbers i p q on x y z)

-- cbr ID
pub cbr_again : (id : Option ℕ) → is_in_range (Cbr id) ≡ true → line_of (line_text (Cbr id)) ≡ Some (Cbr id)
unfolding line_of cbr_line and_then
cbr_again id range = in_bounds 1 id 16 range λ i e high. rw (e, number_field_last i (omega arith)) refl

-- itron 1
pub itron_again : line_of (line_text Itron) ≡ Some Itron
unfolding line_of itron_line and_then after
itron_again = refl

-- end
pub end_again : line_of (line_text End) ≡ Some End
unfolding line_of
end_again = refl

-- fill N
pub fill_again : (n : ℕ) → is_written_line (Fill n) ≡ true → line_of (line_text (Body (Fill n) true)) ≡ Some (Body (Fill n) true)
unfolding line_of fill_line and_then
fill_again n written =
    let high = leb-true n 65280 written in
    let low : ltb n 65281 ≡ true = lt-ltb n 65281 (omega (arith, high)) in
    let there : leb 0 n ≡ true = le-leb 0 n (omega arith) in
    rw (number_field_last n (omega (arith, high)), low, there, written) refl

-- loop N
pub loop_again : (n : ℕ) → is_written_line (Loop n) ≡ true → line_of (line_text (Body (Loop n) true)) ≡ Some (Body (Loop n) true)
unfolding line_of loop_line and_then
loop_again n written =
    let high = leb-true n 65535 (and_parts (leb 1 n) (leb n 65535) written).1 in
    let low : ltb n 65536 ≡ true = lt-ltb n 65536 (omega (arith, high)) in
    rw (number_field_last n (omega (arith, high)), low, written) refl

-- pool
pub pool_again : line_of (line_text (Body Pool true)) ≡ Some (Body Pool true)
unfolding line_of
pool_again = refl

-- until end
pub until_end_again : line_of (line_text (Body UntilEnd true)) ≡ Some (Body UntilEnd true)
unfolding line_of until_line line_by and_then after
until_end_again = refl

-- until fail
pub until_fail_again : line_of (line_text (Body UntilFail true)) ≡ Some (Body UntilFail true)
unfolding line_of until_line line_by and_then after
until_fail_again = refl

-- until empty
pub until_empty_again : line_of (line_text (Body UntilEmpty true)) ≡ Some (Body UntilEmpty true)
unfolding line_of until_line line_by and_then after
until_empty_again = refl
