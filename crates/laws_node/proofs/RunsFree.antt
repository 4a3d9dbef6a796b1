-- The task that runs is a runnable one, so no call of it waits in the kernel, nor in the network part, as both parts agree.
use Rattle.std.proofs.Common.{◌≡◌, ℕ, List, [], ◌∷◌, refl, ap, ◌∙◌, inl, inr, arith}
use Rattle.std.specs.Prelude.{◌==◌}
use Rattle.std.proofs.lemmas.Bool.{cases_Bool, cases_eq, eq-eqb, and_from}
use Rattle.it_types.specs.declared.id.ObjId.{ObjId}
use Rattle.it_types.specs.declared.conf.KConf.{KConf}
use Rattle.spec_lists.specs.Counting.{one_if}
use Rattle.spec_kernel.specs.Opening.{IsDeclarable}
use Rattle.spec_kernel.specs.Standing.{IsStanding}
use Rattle.spec_kernel.specs.PlainKernel.{PlainKernel}
use Rattle.spec_pend.specs.declared.call.NetCall.{NetCall}
use Rattle.spec_node.specs.PlainNode.{running_in, PlainNode, opened_node, running_task}
use Rattle.spec_node.specs.declared.event.NodeEv.{NodeEv}
use Rattle.laws_kernel.proofs.Callers.{caller_waits_not}
use Rattle.laws_kernel.proofs.Lists.{waiting_none}
use Rattle.laws_node.specs.Agreement.{times, times_waiting, tells, is_net_call}
use Rattle.laws_node.proofs.Times.{outside_le_waiting}
use Rattle.laws_node.specs.Taken.{Along}
use Rattle.laws_node.specs.Running.{Stands, is_told, RunsFree}
use Rattle.laws_node.proofs.Holders.{nobody_waits}
use Rattle.laws_node.proofs.Along.{Holds}
use Rattle.laws_node.proofs.Agreeing.{good_along, opening_good}

-- no call of the running task waits in the kernel, nor of nobody
runs_idle : (k : PlainKernel) → IsStanding k → times_waiting (running_in k).0 k.waits ≡ 0
runs_idle k s = elim (cases_eq (running_in k).0 0) [
  | inl none ↦ ap (λ i. times_waiting i k.waits) none ∙ nobody_waits k s
  | inr some ↦ waiting_none (running_in k).0 k.waits (caller_waits_not k (running_in k) some refl s)
]

-- a task that has no call of any number has none
none_of_any : (id : ℕ) (cs : List NetCall) → ((number : ℕ) → times (is_net_call number id) cs ≡ 0) → times (is_told id) cs ≡ 0
none_of_any id [] none = refl
none_of_any id (c ∷ cs) none = elim (cases_Bool (tells id c.who)) [
  | inl t ↦ absurd (omega (arith, none c.call.0, ap one_if (and_from (c.call.0 == c.call.0) (tells id c.who) (eq-eqb c.call.0 c.call.0 refl) t)))
  | inr t ↦ rw t (omega (arith, none_of_any id cs (λ number. omega (arith, none number))))
]

pub runs_free : (n : PlainNode) → Holds n → RunsFree n
runs_free n h =
    let idle = runs_idle n.kernel h.sound.stands in
    record {
      in_kernel = idle;
      in_net = none_of_any (running_task n).0 n.net.pend.calls (λ number. omega (arith, idle, outside_le_waiting number (running_task n).0 n.kernel.waits, h.sound.same number (running_task n).0));
    }

pub standing_from_opening : (conf : KConf) (addr : ℕ) (routines : List ObjId) (es : List NodeEv) → IsDeclarable conf → Along Stands (opened_node conf addr routines) es
standing_from_opening conf addr routines es can = good_along Stands (λ n g. g.holds.sound.stands) (opened_node conf addr routines) es (opening_good conf addr routines can)

pub free_from_opening : (conf : KConf) (addr : ℕ) (routines : List ObjId) (es : List NodeEv) → IsDeclarable conf → Along RunsFree (opened_node conf addr routines) es
free_from_opening conf addr routines es can = good_along RunsFree (λ n g. runs_free n g.holds) (opened_node conf addr routines) es (opening_good conf addr routines can)
