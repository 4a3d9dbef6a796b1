-- Each line in its ranges is read again from its text.
use Rattle.std.proofs.Common.{◌≡◌, ℕ, Bool, true, false, not, ◌&&◌, List, [], ◌∷◌, Some, None, refl}
use Rattle.std.specs.Prelude.{nat_eq}
use Rattle.std.specs.List.{list_all}
use Rattle.std.specs.Cmp.Lexicographic.{pointwise}
use Rattle.std.proofs.lemmas.Bool.{and_parts, not-true}
use Rattle.it_types.specs.declared.id.CepId.{CepId}
use Rattle.it_types.specs.declared.id.EndPt.{EndPt}
use Rattle.it_types.specs.declared.timeout.Tmo.{Tmo}
use Rattle.it_types.specs.declared.request.Req.{Req}
use Rattle.it_types.specs.declared.request.Req.TheVariants.{TcpSndDat, TcpSndBuf, UdpSndDat}
use Rattle.it_types.specs.declared.calls.Word.{Word}
use Rattle.it_types.specs.declared.calls.TheConstants.{ALL_WORDS}
use Rattle.it_types.specs.Cursor.{split_while, is_no_space}
use Rattle.it_types.specs.Lines.{call_fields_text, word_of, request_text, is_writable}
use Rattle.it_types.specs.Requests.{word_text, parts_of}
use Rattle.it_types.proofs.Finding.{found_passes}
use Rattle.it_types.proofs.LineLaws.{read_again, row, request_split}
use Rattle.spec_script.specs.declared.script_line.ScriptLine.{ScriptLine}
use Rattle.spec_script.specs.declared.script_line.ScriptLine.TheVariants.{Itron, Link, Ticks, FirstNode, SecondNode, Sem, Flg, Dtq, Task, Cyc, Cbr, Body, End}
use Rattle.spec_script.specs.declared.decl.Line.{Line}
use Rattle.spec_script.specs.declared.decl.Line.TheVariants.{Call, Fill, Loop, Pool, UntilEnd, UntilFail, UntilEmpty}
use Rattle.spec_script.specs.Lines.{call_text, line_text}
use Rattle.spec_script.specs.Ranges.{is_in_range, data_limit, leaves_data, leaves_destination, may_stand, is_written_call, is_written_line}
use Rattle.s_script.specs.LineKinds.{Kinds, kinds, senders, by_word, line_of}
use Rattle.s_script.proofs.LineTakes.{is_written}
use Rattle.s_script.proofs.LineAgain.{itron_again, link_again, ticks_again, first_node_again, second_node_again, sem_again, flg_again, dtq_again, task_again, cyc_again, cbr_again, fill_again, loop_again, pool_again, until_end_again, until_fail_again, until_empty_again, end_again}
use Rattle.s_script.proofs.SendLines.{send_again, hand_over_again, datagram_again}

-- ---- calls

-- the word is none of the kinds'
abbrev is_none_of : Kinds → List ℕ → Bool
is_none_of ks word = list_all (λ kind. not (pointwise nat_eq word kind.0)) ks

-- by such a word nothing is read
none_by_word : (ks : Kinds) (word bytes : List ℕ) → is_none_of ks word ≡ true → by_word ks word bytes ≡ None
none_by_word [] word bytes none = refl
none_by_word (kind ∷ ks) word bytes none =
    let parts = and_parts (not (pointwise nat_eq word kind.0)) (is_none_of ks word) none in
    rw (not-true (pointwise nat_eq word kind.0) parts.0) (none_by_word ks word bytes parts.1)

-- the words of the calls are no words of other lines
words_apart : list_all (λ (w : Word). is_none_of kinds (word_text w)) ALL_WORDS ≡ true
unfolding word_text
words_apart = refl

word_apart : (w : Word) → is_none_of kinds (word_text w) ≡ true
word_apart w = found_passes (λ v. pointwise nat_eq (word_text w) (word_text v)) (λ v. is_none_of kinds (word_text v)) ALL_WORDS w words_apart (row w).1.0

-- the text of a call is no other line
no_other : (r : Req) → by_word kinds (split_while is_no_space (request_text r)).0 (split_while is_no_space (request_text r)).1 ≡ None
no_other r = rw (request_split r) (none_by_word kinds (word_text (word_of r)) (call_fields_text (parts_of r)) (word_apart (word_of r)))

-- a request that sends nothing: buf and peer can't stand in it, and its word is none of a call that sends
record SendsNothing (r : Req) : Type 0 where
  stands : (buf peer : Bool) → may_stand r buf peer ≡ (not buf && not peer)
  text : (buf peer : Bool) → call_text r buf peer ≡ request_text r
  apart : is_none_of senders (word_text (word_of r)) ≡ true

-- so it is read again by its word
other_again : (r : Req) (buf peer : Bool) → SendsNothing r → is_written_call r buf peer ≡ true → line_of (call_text r buf peer) ≡ Some (Body (Call r buf peer) true)
unfolding line_of
other_again r buf peer nothing written =
    let parts = and_parts (may_stand r buf peer) (is_writable data_limit r) written in
    let flags = and_parts (not buf) (not peer) (rw (nothing.stands buf peer) at parts.0) in
    let no_sender : by_word senders (split_while is_no_space (request_text r)).0 (split_while is_no_space (request_text r)).1 ≡ None =
    rw (request_split r) (none_by_word senders (word_text (word_of r)) (call_fields_text (parts_of r)) nothing.apart) in
    rw (nothing.text buf peer, no_other r, no_sender, read_again data_limit r parts.1, not-true buf flags.0, not-true peer flags.1) refl

-- tcp_snd_dat, with data or the buffer
send_call_again : (cep : CepId) (load : List ℕ) (tmo : Tmo) (buf peer : Bool) → is_written_call (TcpSndDat cep load tmo) buf peer ≡ true
    → line_of (call_text (TcpSndDat cep load tmo) buf peer) ≡ Some (Body (Call (TcpSndDat cep load tmo) buf peer) true)
send_call_again cep load tmo buf peer written =
    let parts = and_parts (may_stand (TcpSndDat cep load tmo) buf peer) (is_writable data_limit (TcpSndDat cep load tmo)) written in
    let flags = and_parts (leaves_data buf load) (not peer) parts.0 in
    rw (not-true peer flags.1) (send_again cep load tmo buf flags.0 parts.1)

-- tcp_snd_buf
hand_over_call_again : (cep : CepId) (load : List ℕ) (buf peer : Bool) → is_written_call (TcpSndBuf cep load) buf peer ≡ true
    → line_of (call_text (TcpSndBuf cep load) buf peer) ≡ Some (Body (Call (TcpSndBuf cep load) buf peer) true)
hand_over_call_again cep load buf peer written =
    let parts = and_parts (may_stand (TcpSndBuf cep load) buf peer) (is_writable data_limit (TcpSndBuf cep load)) written in
    let flags = and_parts (leaves_data buf load) (not peer) parts.0 in
    rw (not-true peer flags.1) (hand_over_again cep load buf flags.0 parts.1)

-- udp_snd_dat, to an address or to the peer
datagram_call_again : (cep : CepId) (dest : EndPt) (load : List ℕ) (tmo : Tmo) (buf peer : Bool) → is_written_call (UdpSndDat cep dest load tmo) buf peer ≡ true
    → line_of (call_text (UdpSndDat cep dest load tmo) buf peer) ≡ Some (Body (Call (UdpSndDat cep dest load tmo) buf peer) true)
datagram_call_again cep dest load tmo buf peer written =
    let parts = and_parts (may_stand (UdpSndDat cep dest load tmo) buf peer) (is_writable data_limit (UdpSndDat cep dest load tmo)) written in
    let flags = and_parts (leaves_data buf load) (leaves_destination peer dest) parts.0 in
    datagram_again cep dest load tmo buf peer flags.0 flags.1 parts.1

-- a call that can be written
call_again : (r : Req) (buf peer : Bool) → is_written_call r buf peer ≡ true → line_of (call_text r buf peer) ≡ Some (Body (Call r buf peer) true)
unfolding word_text
call_again (TcpSndDat cep load tmo) buf peer written = send_call_again cep load tmo buf peer written
call_again (TcpSndBuf cep load) buf peer written = hand_over_call_again cep load buf peer written
call_again (UdpSndDat cep dest load tmo) buf peer written = datagram_call_again cep dest load tmo buf peer written
call_again r buf peer written = other_again r buf peer (record { stands = λ b p. refl; text = λ b p. refl; apart = refl }) written

-- a line of a body that can be written
body_again : (line : Line) → is_written_line line ≡ true → line_of (line_text (Body line true)) ≡ Some (Body line true)
body_again (Call r buf peer) written = call_again r buf peer written
body_again (Fill n) written = fill_again n written
body_again (Loop n) written = loop_again n written
body_again Pool written = pool_again
body_again UntilEnd written = until_end_again
body_again UntilFail written = until_fail_again
body_again UntilEmpty written = until_empty_again

-- ---- all lines

-- each line in its ranges, which can be written if it is one of a body, is read again from its text
pub line_again : (l : ScriptLine) → is_in_range l ≡ true → is_written l ≡ true → line_of (line_text l) ≡ Some l
line_again Itron range written = itron_again
line_again (Link key lose twice delay) range written = link_again key lose twice delay range
line_again (Ticks ticks) range written = ticks_again ticks range
line_again (FirstNode n) range written = first_node_again n range
line_again (SecondNode n) range written = second_node_again n range
line_again (Sem id pri init max) range written = sem_again id pri init max range
line_again (Flg id pri many clr init) range written = flg_again id pri many clr init range
line_again (Dtq id pri cap) range written = dtq_again id pri cap range
line_again (Task id pri act) range written = task_again id pri act range
line_again (Cyc id period phase on) range written = cyc_again id period phase on range
line_again (Cbr id) range written = cbr_again id range
line_again (Body line true) range written = body_again line written
line_again (Body line false) range written = absurd (let none : false ≡ true = range in cc)
line_again End range written = end_again
