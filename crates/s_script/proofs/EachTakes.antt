-- Each line that is read in its ranges is spelled as it is printed: a call as a whole, any other by its first word.
use Rattle.std.proofs.Common.{◌≡◌, ℕ, Bool, true, false, List, [], ◌∷◌, ◌++◌, Option, Some, None, refl, ap, subst, ◌∙◌, inl, inr}
use Rattle.std.specs.Prelude.{nat_eq}
use Rattle.std.specs.List.{AllByRecursion}
use Rattle.std.specs.Cmp.Lexicographic.{pointwise}
use Rattle.std.proofs.lemmas.Bool.{cases_Bool}
use Rattle.std.proofs.lemmas.Slice.Eq.{bytes_eq-Decides}
use Rattle.std.proofs.lemmas.List.{append-nil}
use Rattle.it_types.specs.declared.request.Req.{Req}
use Rattle.it_types.specs.declared.request.Req.TheVariants.{TcpSndDat, TcpSndBuf, UdpSndDat}
use Rattle.it_types.specs.Cursor.{or_else, split_while, is_no_space}
use Rattle.it_types.specs.Kinds.{Load, Timeout}
use Rattle.it_types.specs.Fields.{field_text}
use Rattle.it_types.specs.Lines.{call_of, request_text}
use Rattle.it_types.proofs.ReadSteps.{found_is}
use Rattle.it_types.proofs.Fronts.{split_joins}
use Rattle.it_types.proofs.LineLaws as calls
use Rattle.spec_script.specs.declared.script_line.ScriptLine.{ScriptLine}
use Rattle.spec_script.specs.declared.script_line.ScriptLine.TheVariants.{Body}
use Rattle.spec_script.specs.declared.decl.Line.TheVariants.{Call}
use Rattle.spec_script.specs.Lines.{call_text}
use Rattle.spec_script.specs.Ranges.{data_limit, may_stand}
use Rattle.s_script.specs.LineKinds.{call_body, call_line, Kinds, kinds, senders, by_word, line_of}
use Rattle.s_script.proofs.LineFields.{either}
use Rattle.s_script.proofs.LineTakes.{Takes, itron_takes, link_takes, ticks_takes, node_kind_takes, sem_takes, flg_takes, dtq_takes, task_takes, cyc_takes, cbr_takes, fill_takes, loop_takes, pool_takes, until_takes, end_takes}
use Rattle.s_script.proofs.SendLines.{send_takes, hand_over_takes, datagram_takes}

-- ---- calls

-- a line of a call is what its request and its numbers make
call_is : (call : Option (Req × Bool)) (l : ScriptLine) → call_body call ≡ Some l → (r : Req) × ((fits : Bool) × ((call ≡ Some (r, fits)) × (Body (Call r false false) fits ≡ l)))
call_is None l e = absurd cc
call_is (Some call) l e = (call.0, (call.1, (refl, found_is (Body (Call call.0 false false) call.1) l e)))

-- a call that sends no buffer, and to no peer, is spelled as its request is
plain_text : (r : Req) → request_text r ≡ call_text r false false
plain_text (TcpSndDat cep load tmo) = rw (append-nil (field_text Timeout tmo)) refl
plain_text (TcpSndBuf cep load) = rw (append-nil (field_text Load load)) refl
plain_text (UdpSndDat cep dest load tmo) = rw (append-nil (field_text Timeout tmo)) refl
plain_text _ = refl

-- and may stand
plain_stands : (r : Req) → may_stand r false false ≡ true
plain_stands (TcpSndDat cep load tmo) = refl
plain_stands (TcpSndBuf cep load) = refl
plain_stands (UdpSndDat cep dest load tmo) = refl
plain_stands _ = refl

-- where its fields are in their ranges, it is spelled as it is printed
call_takes : (bytes : List ℕ) (l : ScriptLine) → call_line bytes ≡ Some l → Takes bytes l
call_takes bytes l e =
    let w = call_is (call_of data_limit bytes) l e in
    let r = w.0 in
    subst (λ (m : ScriptLine). Takes bytes m) w.1.1.1 (record {
      fact = λ range.
          let read = calls.takes data_limit bytes r (w.1.1.0 ∙ ap (λ (b : Bool). Some (r, b)) range) in
          (read.0 ∙ plain_text r, rw (plain_stands r, read.1) refl);
    })

-- ---- the other lines

-- a kind of line whose lines are spelled as they are printed
abbrev KindTakes : List ℕ × (List ℕ → Option ScriptLine) → Type 0
KindTakes kind = (bytes : List ℕ) (l : ScriptLine) → kind.1 bytes ≡ Some l → Takes (kind.0 ++ bytes) l

-- kinds that take what they are spelled from do so by their words
by_word_takes : (ks : Kinds) → AllByRecursion KindTakes ks → (word bytes : List ℕ) (l : ScriptLine) → by_word ks word bytes ≡ Some l → Takes (word ++ bytes) l
by_word_takes [] all word bytes l e = absurd cc
by_word_takes (kind ∷ ks) all word bytes l e =
    elim (cases_Bool (pointwise nat_eq word kind.0)) [
      | inl t ↦ rw ((bytes_eq-Decides word kind.0).0 t) (all.0 bytes l (rw t at e))
      | inr f ↦ by_word_takes ks all.1 word bytes l (rw f at e)
    ]

-- each kind does
all_take : AllByRecursion KindTakes kinds
all_take =
    (itron_takes, (link_takes, (ticks_takes, (node_kind_takes, (sem_takes, (flg_takes, (dtq_takes, (task_takes, (cyc_takes, (cbr_takes, (fill_takes, (loop_takes, (pool_takes, (until_takes, (end_takes, tt)))))))))))))))

-- so do the calls that send
senders_take : AllByRecursion KindTakes senders
senders_take = (send_takes, (hand_over_takes, (datagram_takes, tt)))

-- ---- all lines

-- each line that is read in its ranges is spelled as it is printed
pub line_takes : (bytes : List ℕ) (l : ScriptLine) → line_of bytes ≡ Some l → Takes bytes l
unfolding line_of
line_takes bytes l e =
    let parts : List ℕ × List ℕ = split_while is_no_space bytes in
    either (by_word kinds parts.0 parts.1) (or_else (by_word senders parts.0 parts.1) (call_line bytes)) l e
    (λ other. rw (split_joins is_no_space bytes) (by_word_takes kinds all_take parts.0 parts.1 l other))
    (λ more. either (by_word senders parts.0 parts.1) (call_line bytes) l more
    (λ sender. rw (split_joins is_no_space bytes) (by_word_takes senders senders_take parts.0 parts.1 l sender))
    (λ call. call_takes bytes l call))
