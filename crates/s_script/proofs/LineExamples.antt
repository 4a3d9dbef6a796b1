-- Worked lines: what each is read as.
use Rattle.std.proofs.Common.{◌≡◌, true, false, [], Some, None, codes, refl}
use Rattle.it_types.specs.declared.request.Req.TheVariants.{TcpSndDat, TcpSndBuf, UdpSndDat, SigSem}
use Rattle.it_types.specs.declared.timeout.Tmo.TheVariants.{Pol, Nblk, Fevr}
use Rattle.it_types.specs.Cursor.{and_then, after}
use Rattle.it_types.specs.Numbers.{number_at, address_of, address_at}
use Rattle.it_types.specs.Kinds.{number_as, word_as, timeout_at, destination_at, load_at}
use Rattle.it_types.specs.Fields.{field_at, fields_at}
use Rattle.it_types.specs.Requests.{word_text}
use Rattle.it_types.specs.Lines.{call_of}
use Rattle.spec_script.specs.declared.decl.Line.TheVariants.{Call, Fill, Loop, Pool, UntilEmpty}
use Rattle.spec_script.specs.declared.script_line.ScriptLine.TheVariants.{Link, Body}
use Rattle.spec_script.specs.Ranges.{is_in_range}
use Rattle.s_script.specs.LineKinds.{number_field, link_line, fill_line, loop_line, line_by, until_line, call_field, load_field, target_field, send_of, hand_over_of, datagram_of, send_line, hand_over_line, datagram_line, line_of}

-- ---- the line of the link

link_of_four : line_of (codes "link 7 9 7 1000") ≡ Some (Link (Some 7) (Some 9) (Some 7) (Some 1000))
unfolding line_of link_line number_field and_then after number_at
link_of_four = refl

-- of 16 packets not more than 16 can be lost or come twice
sixteen_parts : is_in_range (Link (Some 7) (Some 9) (Some 7) (Some 1000)) ≡ true
sixteen_parts = refl

seventeen_parts : is_in_range (Link (Some 1) (Some 9) (Some 8) (Some 0)) ≡ false
seventeen_parts = refl

late : is_in_range (Link (Some 1) (Some 0) (Some 0) (Some 1001)) ≡ false
late = refl

-- ---- lines of a body

most_bytes : line_of (codes "fill 65280") ≡ Some (Body (Fill 65280) true)
unfolding line_of fill_line number_field and_then after number_at
most_bytes = refl

too_many_bytes : line_of (codes "fill 65281") ≡ Some (Body (Fill 0) false)
unfolding line_of fill_line number_field and_then after number_at
too_many_bytes = refl

leading_zero : line_of (codes "fill 01") ≡ None
unfolding line_of fill_line number_field and_then after number_at call_of word_text
leading_zero = refl

no_round : line_of (codes "loop 0") ≡ Some (Body (Loop 0) false)
unfolding line_of loop_line number_field and_then after number_at
no_round = refl

too_many_rounds : line_of (codes "loop 65536") ≡ Some (Body (Loop 0) false)
unfolding line_of loop_line number_field and_then after number_at
too_many_rounds = refl

pool_alone : line_of (codes "pool") ≡ Some (Body Pool true)
unfolding line_of
pool_alone = refl

pool_with_number : line_of (codes "pool 1") ≡ None
unfolding line_of and_then call_of word_text
pool_with_number = refl

until_empty : line_of (codes "until empty") ≡ Some (Body UntilEmpty true)
unfolding line_of until_line line_by and_then after
until_empty = refl

until_other : line_of (codes "until full") ≡ None
unfolding line_of until_line line_by and_then after call_of word_text
until_other = refl

-- ---- calls

buffer_sent : line_of (codes "tcp_snd_dat 1 buf fevr") ≡ Some (Body (Call (TcpSndDat (record { 0 = 1 }) [] Fevr) true false) true)
unfolding line_of send_line send_of call_field load_field and_then after number_at number_as word_as timeout_at
buffer_sent = refl

-- a time-out of 0 ticks is out of its range
no_ticks : line_of (codes "tcp_snd_dat 1 buf 0") ≡ Some (Body (Call (TcpSndDat (record { 0 = 1 }) [] Pol) true false) false)
unfolding line_of send_line send_of call_field load_field and_then after number_at number_as word_as timeout_at
no_ticks = refl

buffer_handed_over : line_of (codes "tcp_snd_buf 2 buf") ≡ Some (Body (Call (TcpSndBuf (record { 0 = 2 }) []) true false) true)
unfolding line_of hand_over_line hand_over_of call_field load_field and_then after number_at number_as
buffer_handed_over = refl

peer_answered : line_of (codes "udp_snd_dat 1 peer buf nblk") ≡ Some (Body (Call (UdpSndDat (record { 0 = 1 }) (record { addr = 0; port = 0 }) [] Nblk) true true) true)
unfolding line_of datagram_line datagram_of call_field load_field target_field and_then after number_at number_as word_as timeout_at
peer_answered = refl

-- a part of an address above 255 is out of its range
far_part : line_of (codes "udp_snd_dat 1 10.0.0.256:7 buf pol") ≡ Some (Body (Call (UdpSndDat (record { 0 = 1 }) (record { addr = 0; port = 0 }) [] Pol) true false) false)
unfolding line_of datagram_line datagram_of call_field load_field target_field and_then after number_at number_as word_as timeout_at destination_at address_at address_of
far_part = refl

data_before_destination : line_of (codes "udp_snd_dat 1 buf peer pol") ≡ None
unfolding line_of datagram_line call_field target_field and_then after number_at number_as destination_at address_at call_of word_text fields_at field_at
data_before_destination = refl

peer_of_tcp : line_of (codes "tcp_con_cep 1 0 peer fevr") ≡ None
unfolding line_of and_then after number_at number_as destination_at address_at call_of word_text fields_at field_at
peer_of_tcp = refl

longer_word : line_of (codes "tcp_snd_dat 1 buffer pol") ≡ None
unfolding line_of send_line call_field load_field and_then after number_at number_as timeout_at word_as load_at call_of word_text fields_at field_at
longer_word = refl

other_call : line_of (codes "sig_sem 3") ≡ Some (Body (Call (SigSem (record { 0 = 3 })) false false) true)
unfolding line_of and_then after number_at number_as call_of word_text fields_at field_at
other_call = refl
