-- The tasks that are told of the ends of calls of the network part, one after another.
use Rattle.std.proofs.Common.{◌≡◌, ℕ, ◌+◌, ◌<◌, List, [], ◌∷◌, ◌++◌, length, map, slice_index_or, take, Option, None, Some, refl, ap, sym, ◌∙◌}
use Rattle.std.proofs.lemmas.List.{take_more}
use Rattle.it_types.specs.declared.id.TaskId.{TaskId}
use Rattle.it_types.specs.declared.entry.CallEnd.{CallEnd}
use Rattle.spec_pend.specs.declared.call.Who.{Who}
use Rattle.spec_pend.specs.declared.call.Who.TheVariants as whos
use Rattle.spec_pend.specs.declared.call.NetCall.{NetCall}
use Rattle.spec_pend.specs.declared.answer.NetEnd.{NetEnd}
use Rattle.spec_pend.specs.Outs.{shown_end}
use Rattle.spec_node.specs.declared.held.Held.{Held}
use Rattle.spec_node.specs.PlainNode.{PlainNode}
use Rattle.spec_node.specs.Progress.{woken_for, woken_by}
use Rattle.spec_node.specs.NodeStep.{holding_one, holding}
use Rattle.n_node.specs.Callers.{task_told, task_by, TellWho, woken_with, woken_one, woken_all}

-- one end more
pub woken_all_end : (callers : List NetCall) (n : PlainNode) (es : List CallEnd) (e : CallEnd) → woken_all callers n (es ++ e ∷ []) ≡ woken_one callers (woken_all callers n es) e
woken_all_end callers n [] e = refl
woken_all_end callers n (x ∷ xs) e = woken_all_end callers (woken_one callers n x) xs e

told_who : (n : PlainNode) (who : Who) (e : CallEnd) → woken_with n (task_told who) e ≡ record n { kernel = woken_for n.kernel who; held = holding_one who e.code e.bytes n.held }
told_who n (whos.Task t) e = refl
told_who n (whos.Callback t cbr) e = refl

-- where these calls tell who is told, the kernel and the held answers are those after the ends
pub woken_held : (callers : List NetCall) (n : PlainNode) (es : List NetEnd)
    → TellWho callers es
    → woken_all callers n (map shown_end es) ≡ record n { kernel = woken_by n.kernel es; held = holding es n.held }
woken_held callers n [] told = refl
woken_held callers n (e ∷ es) told =
    ap (λ (m : PlainNode). woken_all callers m (map shown_end es)) (ap (λ t. woken_with n t (shown_end e)) told.0 ∙ told_who n e.who (shown_end e))
    ∙ woken_held callers (record n { kernel = woken_for n.kernel e.who; held = holding_one e.who e.code e.bytes n.held }) es told.1

pub holding_append : (xs ys : List NetEnd) (held : List (Option Held)) → holding (xs ++ ys) held ≡ holding ys (holding xs held)
holding_append [] ys held = refl
holding_append (x ∷ xs) ys held = holding_append xs ys (holding_one x.who x.code x.bytes held)

-- the tasks of one end more are woken
pub next_woken : (callers : List NetCall) (first before after : PlainNode) (es : List CallEnd) (i : ℕ) (e : CallEnd)
    → i < length es
    → e ≡ slice_index_or es i e
    → before ≡ woken_all callers first (take i es)
    → after ≡ woken_one callers before e
    → after ≡ woken_all callers first (take (i + 1) es)
next_woken callers first before after es i e inside is b a =
    a ∙ ap (λ n. woken_one callers n e) b ∙ sym (ap (woken_all callers first) (take_more es i e inside ∙ ap (λ x. take i es ++ x ∷ []) (sym is)) ∙ woken_all_end callers first (take i es) e)

-- the network part stays
pub net_stays : (callers : List NetCall) (n : PlainNode) (es : List CallEnd) → (woken_all callers n es).net ≡ n.net
net_stays callers n [] = refl
net_stays callers n (e ∷ es) = net_stays callers (woken_one callers n e) es ∙ one (task_by callers e.call)
  where
    one : (task : Option TaskId) → (woken_with n task e).net ≡ n.net
    one None = refl
    one (Some t) = refl
