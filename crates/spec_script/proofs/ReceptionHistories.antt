-- What answers leave in the buffer and as the peer, checked by computation. The body has 1, 2, 3 in its buffer and 10.0.0.1:7 as its peer.
use Rattle.std.proofs.Common.{◌≡◌, refl, ℕ, List, [], ◌∷◌, Option, Some, true, false}
use Rattle.it_types.specs.declared.er.Er.{Er}
use Rattle.it_types.specs.declared.er.TheConstants.{E_OK, E_TMOUT, E_CLS, E_WBLK, E_BOVR}
use Rattle.it_types.specs.declared.id.EndPt.{EndPt}
use Rattle.it_types.specs.declared.timeout.Tmo.TheVariants.{Fevr, Nblk, Pol}
use Rattle.it_types.specs.declared.handler.FnCode.TheVariants.{UdpRcv}
use Rattle.it_types.specs.declared.handler.Handler.{Handler}
use Rattle.it_types.specs.declared.handler.Handler.TheVariants.{Cyc, Cbr}
use Rattle.it_types.specs.declared.request.Req.TheVariants.{TcpAcpCep, TcpRcvDat, TcpGetBuf, TcpRcvBuf, TcpRelBuf, UdpSndDat, UdpRcvDat}
use Rattle.spec_script.specs.declared.decl.Line.{Line}
use Rattle.spec_script.specs.declared.decl.Line.TheVariants.{Call, Loop, Pool, UntilEnd}
use Rattle.spec_script.specs.declared.want.Want.TheVariants as wants
use Rattle.spec_script.specs.Interpreter.{Interpreter, started, told, no_peer, forward, lines_passed, rounds_passed, after_pool, peer_in}
use Rattle.spec_script.proofs.Answers.{code, no_bytes, wants_on, node, task, point, makes}

abbrev end_point : ℕ → ℕ → EndPt
end_point addr port = record { addr = addr; port = port }

abbrev the_peer : EndPt
the_peer = end_point 0x0a000001 7

abbrev the_bytes : List ℕ
the_bytes = 1 ∷ 2 ∷ 3 ∷ []

abbrev standing_at : Line → Interpreter
standing_at line = record { rest = line ∷ []; loops = []; answer = E_OK; buffer = the_bytes; peer = the_peer; pattern = 0; is_handler = false }

-- the last answer, the buffer and the peer
abbrev Kept : Type 0
Kept = Er × List ℕ × EndPt

abbrev kept : Interpreter → Kept
kept i = (i.answer, i.buffer, i.peer)

-- after the answer to this line's call
abbrev after_answer : Line → Er → List ℕ → Kept
after_answer line answer bytes = kept (told answer bytes (standing_at line))

-- nothing but the last answer changes
abbrev only_answered : Er → Kept
only_answered answer = (answer, the_bytes, the_peer)

-- ---- tcp_rcv_dat

abbrev receives : Line
receives = makes (TcpRcvDat point 9 Fevr)

received : after_answer receives (code 2) (8 ∷ 9 ∷ []) ≡ (code 2, 8 ∷ 9 ∷ [], the_peer)
unfolding forward lines_passed rounds_passed
received = refl

end_of_stream : after_answer receives E_OK no_bytes ≡ (E_OK, [], the_peer)
unfolding forward lines_passed rounds_passed
end_of_stream = refl

receive_refused : after_answer receives E_CLS no_bytes ≡ only_answered E_CLS
unfolding forward lines_passed rounds_passed
receive_refused = refl

receive_accepted : after_answer (makes (TcpRcvDat point 9 Nblk)) E_WBLK no_bytes ≡ only_answered E_WBLK
unfolding forward lines_passed rounds_passed
receive_accepted = refl

-- ---- tcp_rcv_buf: four bytes tell the place

abbrev borrows : Line
borrows = makes (TcpRcvBuf point Fevr)

borrowed : after_answer borrows (code 2) (0 ∷ 0 ∷ 1 ∷ 4 ∷ 8 ∷ 9 ∷ []) ≡ (code 2, 8 ∷ 9 ∷ [], the_peer)
unfolding forward lines_passed rounds_passed
borrowed = refl

borrowed_at_end : after_answer borrows E_OK no_bytes ≡ (E_OK, [], the_peer)
unfolding forward lines_passed rounds_passed
borrowed_at_end = refl

borrow_refused : after_answer borrows E_TMOUT no_bytes ≡ only_answered E_TMOUT
unfolding forward lines_passed rounds_passed
borrow_refused = refl

-- bytes that are given back, and a place to write to, don't go to the buffer
given_back : after_answer (makes (TcpRelBuf point 2)) E_OK no_bytes ≡ only_answered E_OK
unfolding forward lines_passed rounds_passed
given_back = refl

place_to_write : after_answer (makes (TcpGetBuf point Fevr)) (code 256) (0 ∷ 0 ∷ 0 ∷ 100 ∷ []) ≡ only_answered (code 256)
unfolding forward lines_passed rounds_passed
place_to_write = refl

-- ---- udp_rcv_dat: six bytes tell the sender, here 10.0.0.2:2000

abbrev hears : Line
hears = makes (UdpRcvDat point 9 Fevr)

heard : after_answer hears (code 2) (10 ∷ 0 ∷ 0 ∷ 2 ∷ 7 ∷ 208 ∷ 104 ∷ 105 ∷ []) ≡ (code 2, 104 ∷ 105 ∷ [], end_point 0x0a000002 2000)
unfolding forward lines_passed rounds_passed peer_in
heard = refl

heard_nothing : after_answer hears E_OK (10 ∷ 0 ∷ 0 ∷ 2 ∷ 7 ∷ 208 ∷ []) ≡ (E_OK, [], end_point 0x0a000002 2000)
unfolding forward lines_passed rounds_passed peer_in
heard_nothing = refl

heard_in_part : after_answer hears E_BOVR (10 ∷ 0 ∷ 0 ∷ 2 ∷ 7 ∷ 208 ∷ 104 ∷ []) ≡ (E_BOVR, 104 ∷ [], end_point 0x0a000002 2000)
unfolding forward lines_passed rounds_passed peer_in
heard_in_part = refl

hearing_refused : after_answer hears E_TMOUT no_bytes ≡ only_answered E_TMOUT
unfolding forward lines_passed rounds_passed
hearing_refused = refl

hearing_accepted : after_answer (makes (UdpRcvDat point 9 Nblk)) E_WBLK no_bytes ≡ only_answered E_WBLK
unfolding forward lines_passed rounds_passed
hearing_accepted = refl

-- fewer than six bytes tell of no peer
too_few : after_answer hears E_OK (10 ∷ 0 ∷ 0 ∷ 2 ∷ 7 ∷ []) ≡ (E_OK, [], the_peer)
unfolding forward lines_passed rounds_passed peer_in
too_few = refl

-- ---- tcp_acp_cep: six bytes tell who connects, here 10.0.0.2:49152

abbrev accepts : Line
accepts = makes (TcpAcpCep point (record { 0 = 1 }) Fevr)

connected : after_answer accepts E_OK (10 ∷ 0 ∷ 0 ∷ 2 ∷ 192 ∷ 0 ∷ []) ≡ (E_OK, the_bytes, end_point 0x0a000002 49152)
unfolding forward lines_passed rounds_passed peer_in
connected = refl

accept_refused : after_answer accepts E_TMOUT no_bytes ≡ only_answered E_TMOUT
unfolding forward lines_passed rounds_passed
accept_refused = refl

-- ---- a callback routine begins with the code and all bytes of the call that ended, and with no peer

abbrev udp_ended : Option Handler
udp_ended = Some (Cbr (record { 0 = 1 }) true point UdpRcv (code 2) (10 ∷ 0 ∷ 0 ∷ 2 ∷ 7 ∷ 208 ∷ 104 ∷ 105 ∷ []))

begins_with_all : kept (started [] (node 0) (task 3) udp_ended) ≡ (code 2, 10 ∷ 0 ∷ 0 ∷ 2 ∷ 7 ∷ 208 ∷ 104 ∷ 105 ∷ [], end_point 0 0)
begins_with_all = refl

abbrev answers_back : Line
answers_back = Call (UdpSndDat point no_peer no_bytes Pol) true true

sends_all_to_no_peer : wants_on (code 8 ∷ []) (started (answers_back ∷ []) (node 0) (task 3) udp_ended)
    ≡ wants.Call (UdpSndDat point (end_point 0 0) (10 ∷ 0 ∷ 0 ∷ 2 ∷ 7 ∷ 208 ∷ 104 ∷ 105 ∷ []) Pol) ∷ wants.Finish ∷ []
unfolding wants_on forward lines_passed rounds_passed
sends_all_to_no_peer = refl

-- its first answer is the one that until looks at
abbrev tells_end : Option Handler
tells_end = Some (Cbr (record { 0 = 1 }) true point UdpRcv E_OK no_bytes)

left_by_the_code : wants_on [] (started (Loop 2 ∷ UntilEnd ∷ hears ∷ Pool ∷ []) (node 0) (task 3) tells_end) ≡ wants.Finish ∷ []
unfolding wants_on forward lines_passed rounds_passed after_pool
left_by_the_code = refl

not_left_by_the_code : wants_on [] (started (Loop 2 ∷ UntilEnd ∷ hears ∷ Pool ∷ []) (node 0) (task 3) udp_ended) ≡ wants.Call (UdpRcvDat point 9 Fevr) ∷ []
unfolding wants_on forward lines_passed rounds_passed
not_left_by_the_code = refl

-- a cyclic handler begins as a task does
cyclic_begins : kept (started [] (node 0) (task 3) (Some (Cyc (record { 0 = 1 })))) ≡ (E_OK, [], end_point 0 0)
cyclic_begins = refl
