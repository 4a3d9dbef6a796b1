-- What a send leaves of the buffer, checked by computation. The body has 1, 2, 3 in its buffer and 10.0.0.1:7 as its peer.
use Rattle.std.proofs.Common.{◌≡◌, refl, ℕ, List, [], ◌∷◌, true, false}
use Rattle.it_types.specs.declared.er.Er.{Er}
use Rattle.it_types.specs.declared.er.TheConstants.{E_OK, E_TMOUT, E_CLS, E_WBLK}
use Rattle.it_types.specs.declared.id.EndPt.{EndPt}
use Rattle.it_types.specs.declared.timeout.Tmo.TheVariants.{Fevr, Nblk}
use Rattle.it_types.specs.declared.request.Req.TheVariants.{TcpSndDat, TcpSndBuf, UdpSndDat}
use Rattle.spec_script.specs.declared.decl.Line.{Line}
use Rattle.spec_script.specs.declared.decl.Line.TheVariants.{Call}
use Rattle.spec_script.specs.declared.want.Want.TheVariants as wants
use Rattle.spec_script.specs.Interpreter.{Interpreter, wanted, told, no_peer, forward, lines_passed, rounds_passed}
use Rattle.spec_script.proofs.Answers.{code, no_bytes, point, makes, sends_buffer}

abbrev the_peer : EndPt
the_peer = record { addr = 0x0a000001; port = 7 }

abbrev standing_at : Line → Interpreter
standing_at line = record { rest = line ∷ []; loops = []; answer = E_OK; buffer = 1 ∷ 2 ∷ 3 ∷ []; peer = the_peer; pattern = 0; is_handler = false }

-- the buffer after the answer to this line's call
abbrev left_by : Line → Er → List ℕ
left_by line answer = (told answer no_bytes (standing_at line)).buffer

-- ---- tcp_snd_dat

sent_in_part : left_by sends_buffer (code 2) ≡ 3 ∷ []
unfolding forward lines_passed rounds_passed
sent_in_part = refl

sent_whole : left_by sends_buffer (code 3) ≡ []
unfolding forward lines_passed rounds_passed
sent_whole = refl

nothing_sent : left_by sends_buffer E_OK ≡ 1 ∷ 2 ∷ 3 ∷ []
unfolding forward lines_passed rounds_passed
nothing_sent = refl

send_refused : left_by sends_buffer E_CLS ≡ 1 ∷ 2 ∷ 3 ∷ []
unfolding forward lines_passed rounds_passed
send_refused = refl

send_accepted : left_by (Call (TcpSndDat point no_bytes Nblk) true false) E_WBLK ≡ 1 ∷ 2 ∷ 3 ∷ []
unfolding forward lines_passed rounds_passed
send_accepted = refl

own_bytes_sent : left_by (makes (TcpSndDat point (7 ∷ 8 ∷ []) Fevr)) (code 2) ≡ 1 ∷ 2 ∷ 3 ∷ []
unfolding forward lines_passed rounds_passed
own_bytes_sent = refl

-- ---- tcp_snd_buf

abbrev hands_over : Line
hands_over = Call (TcpSndBuf point no_bytes) true false

handed_over_whole : left_by hands_over E_OK ≡ []
unfolding forward lines_passed rounds_passed
handed_over_whole = refl

handing_refused : left_by hands_over E_TMOUT ≡ 1 ∷ 2 ∷ 3 ∷ []
unfolding forward lines_passed rounds_passed
handing_refused = refl

own_bytes_handed_over : left_by (makes (TcpSndBuf point (7 ∷ []))) E_OK ≡ 1 ∷ 2 ∷ 3 ∷ []
unfolding forward lines_passed rounds_passed
own_bytes_handed_over = refl

-- ---- udp_snd_dat leaves the buffer

abbrev answers_back : Line
answers_back = Call (UdpSndDat point no_peer no_bytes Fevr) true true

datagram_sent : left_by answers_back (code 3) ≡ 1 ∷ 2 ∷ 3 ∷ []
unfolding forward lines_passed rounds_passed
datagram_sent = refl

-- ---- what is asked for

to_the_peer : wanted (standing_at answers_back) ≡ wants.Call (UdpSndDat point the_peer (1 ∷ 2 ∷ 3 ∷ []) Fevr)
unfolding forward lines_passed rounds_passed
to_the_peer = refl

own_bytes_to_the_peer : wanted (standing_at (Call (UdpSndDat point no_peer (7 ∷ []) Fevr) false true)) ≡ wants.Call (UdpSndDat point the_peer (7 ∷ []) Fevr)
unfolding forward lines_passed rounds_passed
own_bytes_to_the_peer = refl

all_in_a_borrowed_page : wanted (standing_at hands_over) ≡ wants.Call (TcpSndBuf point (1 ∷ 2 ∷ 3 ∷ []))
unfolding forward lines_passed rounds_passed
all_in_a_borrowed_page = refl
