-- Each draft that is reached can be ended: with some more lines it makes a good script.
use Rattle.std.proofs.Common.{◌≡◌, ℕ, zero, suc, ◌+◌, ◌≤◌, true, false, ◌&&◌, cond, eqb, ltb, leb, List, [], ◌∷◌, ◌++◌, length, Some, refl, sym, ap, ◌∙◌, append_assoc, inl, inr, arith}
use Rattle.std.proofs.lemmas.Bool.{cases_Bool, eqb-true, ne_eqb, lt-ltb}
use Rattle.std.proofs.lemmas.List.{append-nil, length_push}
use Rattle.spec_script.specs.declared.decl.Line.TheVariants as body_lines
use Rattle.spec_script.specs.declared.script_line.ScriptLine.{ScriptLine}
use Rattle.spec_script.specs.declared.script_line.ScriptLine.TheVariants.{Itron, Link, Ticks, FirstNode, SecondNode, Body, End}
use Rattle.spec_script.specs.declared.script_line.NodeLine.{NodeLine}
use Rattle.s_script.specs.declared.draft.Stage.{Stage}
use Rattle.s_script.specs.declared.draft.Stage.TheVariants.{Start, Headed, Linked, Timed, Declares, InBody}
use Rattle.s_script.specs.declared.draft.Draft.{Draft}
use Rattle.s_script.specs.declared.owner.Owner.{Owner}
use Rattle.s_script.specs.Owners.{may_have}
use Rattle.s_script.specs.Drafts.{lines_at, is_last, moved}
use Rattle.s_script.specs.Reading.{is_whole}
use Rattle.s_script.proofs.Owned.{line_parts, pool_belongs}
use Rattle.s_script.proofs.Added.{added}
use Rattle.s_script.proofs.Kept.{Passes, Kept, kept}
use Rattle.s_script.proofs.LineTakes.{is_written}

-- a whole draft with more lines
pub record Ends (d : Draft) : Type 0 where
  pub last : Draft
  pub more : List ScriptLine
  pub keeps : Kept last
  pub whole : is_whole last.stage (is_last last) ≡ true
  pub grown : lines_at last.stage last ≡ lines_at d.stage d ++ more

-- a line that passes, and the end of what follows it
ends_with : (d : Draft) (l : ScriptLine) → Kept d → Passes d l → is_written l ≡ true → (Kept (moved d l) → Ends (moved d l)) → Ends d
ends_with d l k p w next =
    let e = next (kept d l k p w) in
    record {
      last = e.last;
      more = l ∷ e.more;
      keeps = e.keeps;
      whole = e.whole;
      grown = e.grown ∙ ap (λ (ls : List ScriptLine). ls ++ e.more) (added d.stage d l p.place p.range) ∙ append_assoc (lines_at d.stage d) (l ∷ []) e.more;
    }

-- a link that loses nothing
abbrev no_loss : ScriptLine
no_loss = Link (Some 0) (Some 0) (Some 0) (Some 0)

-- ---- a last line: node 1, with an address of its own

-- an address other than this one
abbrev other_than : ℕ → ℕ
other_than addr = cond (eqb addr 1) 2 1

-- a node with this address
abbrev node_at : ℕ → NodeLine
node_at addr = record { addr = Some addr; isn0 = Some 0; top0 = Some 0 }

-- another address, in its range
abbrev IsOther : ℕ → ℕ → Type 0
IsOther addr other = (eqb other addr ≡ false) × ((leb 1 other && leb other 4294967295) ≡ true)

-- there is another address
other_is : (addr : ℕ) → IsOther addr (other_than addr)
other_is addr =
    elim (cases_Bool (eqb addr 1)) [
      | inl t ↦ rw t (ne_eqb 2 addr (λ e. let one : addr ≡ 1 = eqb-true addr 1 t in omega arith), refl)
      | inr f ↦ rw f (ne_eqb 1 addr (λ e. let same : eqb addr 1 ≡ true = rw (← e) refl in let none : true ≡ false = sym same ∙ f in absurd cc), refl)
    ]

-- ---- from the last stage to the first

-- in node 1, between declarations, nothing is missing
from_last : (d : Draft) → is_whole d.stage (is_last d) ≡ true → Kept d → Ends d
from_last d e k = record { last = d; more = []; keeps = k; whole = e; grown = sym (append-nil (lines_at d.stage d)) }

-- in node 0 node 1 is missing
from_first : (d : Draft) → d.stage ≡ Declares → is_last d ≡ false → Kept d → Ends d
from_first d e f k =
    let own = other_is d.node.addr in
    let n = node_at (other_than d.node.addr) in
    ends_with d (SecondNode n) k (record { place = rw (e, f) refl; range = rw own.1 refl; room = rw own.0 refl; fresh = refl; nested = refl }) refl (from_last (moved d (SecondNode n)) refl)

-- between declarations of either node
from_declares : (d : Draft) → d.stage ≡ Declares → Kept d → Ends d
from_declares d e k =
    elim (cases_Bool (is_last d)) [
      | inl t ↦ from_last d (rw (e, t) refl) k
      | inr f ↦ from_first d e f k
    ]

-- in a body without open loops `end` is missing, and then node 1
from_closed : (d : Draft) → d.stage ≡ InBody → d.depth ≡ 0 → Kept d → Ends d
from_closed d e closed k = ends_with d End k (record { place = rw e refl; range = refl; room = refl; fresh = refl; nested = rw closed refl }) refl (from_declares (moved d End) refl)

-- the end of a loop
abbrev pool : ScriptLine
pool = Body body_lines.Pool true

-- a body may have the end of a loop
pool_had : (o : Owner) → may_have o body_lines.Pool ≡ true
pool_had o = (line_parts o body_lines.Pool (pool_belongs o)).1

-- in a body the ends of the open loops are missing, and then `end`
from_body : (left : ℕ) (d : Draft) → d.stage ≡ InBody → d.depth ≡ left → length d.body + left ≤ 1000 → Kept d → Ends d
from_body zero d e depth room k = from_closed d e depth k
from_body (suc left) d e depth room k =
    let short : ltb (length d.body) 1000 ≡ true = lt-ltb (length d.body) 1000 (omega arith) in
    let passes : Passes d pool = record { place = rw e (pool_had d.owner); range = refl; room = short; fresh = refl; nested = rw depth (lt-ltb 0 (suc left) (omega arith)) } in
    ends_with d pool k passes refl
    (from_body left (moved d pool) refl (omega (arith, depth)) (omega (arith, length_push d.body body_lines.Pool)))

-- after `ticks` both nodes are missing
from_timed : (d : Draft) → d.stage ≡ Timed → Kept d → Ends d
from_timed d e k = ends_with d (FirstNode (node_at 1)) k (record { place = rw e refl; range = refl; room = refl; fresh = refl; nested = refl }) refl (from_declares (moved d (FirstNode (node_at 1))) refl)

-- after `link` also `ticks` is missing
from_linked : (d : Draft) → d.stage ≡ Linked → Kept d → Ends d
from_linked d e k = ends_with d (Ticks (Some 0)) k (record { place = rw e refl; range = refl; room = refl; fresh = refl; nested = refl }) refl (from_timed (moved d (Ticks (Some 0))) refl)

-- after `itron` also `link` is missing
from_headed : (d : Draft) → d.stage ≡ Headed → Kept d → Ends d
from_headed d e k = ends_with d no_loss k (record { place = rw e refl; range = refl; room = refl; fresh = refl; nested = refl }) refl (from_linked (moved d no_loss) refl)

-- before the first line all is missing
from_start : (d : Draft) → d.stage ≡ Start → Kept d → Ends d
from_start d e k = ends_with d Itron k (record { place = rw e refl; range = refl; room = refl; fresh = refl; nested = refl }) refl (from_headed (moved d Itron) refl)

-- at each stage the draft can be ended, in a body where it has room for the ends of its open loops
by_stage : (stage : Stage) (d : Draft) → d.stage ≡ stage → length d.body + d.depth ≤ 1000 → Kept d → Ends d
by_stage Start d e room k = from_start d e k
by_stage Headed d e room k = from_headed d e k
by_stage Linked d e room k = from_linked d e k
by_stage Timed d e room k = from_timed d e k
by_stage Declares d e room k = from_declares d e k
by_stage InBody d e room k = from_body d.depth d e refl room k

-- each draft that keeps what drafts keep can be ended, where its body has room for the ends of its open loops
pub ends : (d : Draft) → length d.body + d.depth ≤ 1000 → Kept d → Ends d
ends d room k = by_stage d.stage d refl room k
