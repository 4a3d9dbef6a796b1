-- Each refusal of the UDP calls: alone, and with every later one that can hold beside it, so that the order is seen.
use Rattle.std.proofs.Common.{◌≡◌, ℕ, List, [], ◌∷◌, None, replicate, refl}
use Rattle.it_types.specs.declared.id.EndPt.{EndPt}
use Rattle.it_types.specs.declared.context.Ctx.TheVariants.{Handler}
use Rattle.it_types.specs.declared.timeout.Tmo.TheVariants.{Pol, Nblk, Fevr}
use Rattle.it_types.proofs.CallWords.{creates, sends, receives}
use Rattle.spec_lists.specs.Refusal.{first_refusal}
use Rattle.spec_udp.specs.PlainUdps.{UdpSide}
use Rattle.spec_udp.specs.Settling.{settle, settled}
use Rattle.spec_udp.specs.Rows.{refusals, udp_call}
use Rattle.spec_udp.proofs.Examples.{first_addr, second_addr, end_point, point, two_points, side_of, receiving, task_3, number, minus, answers}

-- the ports 1000 and 1001 are taken, and nothing has come
abbrev side : UdpSide
side = side_of first_addr (two_points (point 1000 0 []) (point 1001 0 [])) [] 0

-- task 3 waits at end point 1
abbrev waiting_side : UdpSide
waiting_side = side_of first_addr (two_points (point 1000 5 []) (point 1001 0 [])) (receiving 6 1 ∷ []) 6

abbrev peer : EndPt
peer = end_point second_addr 2000

-- more data than a datagram may have
abbrev too_long : List ℕ
too_long = replicate 1473 0

-- ---- the creation of an end point

pub create_context : udp_call side Handler (creates 3 1002 0) (number 7) ≡ answers side (minus 25) []
unfolding udp_call settled settle
create_context = refl

pub create_context_first : udp_call side Handler (creates 1 1001 5) (number 7) ≡ answers side (minus 25) []
unfolding udp_call settled settle
create_context_first = refl

pub create_context_before_id : udp_call side Handler (creates 0 1001 5) (number 7) ≡ answers side (minus 25) []
unfolding udp_call settled settle
create_context_before_id = refl

pub create_id_zero : udp_call side task_3 (creates 0 1002 0) (number 7) ≡ answers side (minus 18) []
unfolding udp_call settled settle
create_id_zero = refl

pub create_id_above : udp_call side task_3 (creates 17 1002 0) (number 7) ≡ answers side (minus 18) []
unfolding udp_call settled settle
create_id_above = refl

pub create_id_first : udp_call side task_3 (creates 17 1001 5) (number 7) ≡ answers side (minus 18) []
unfolding udp_call settled settle
create_id_first = refl

pub create_exists : udp_call side task_3 (creates 1 1002 0) (number 7) ≡ answers side (minus 41) []
unfolding udp_call settled settle
create_exists = refl

pub create_exists_first : udp_call side task_3 (creates 1 1001 5) (number 7) ≡ answers side (minus 41) []
unfolding udp_call settled settle
create_exists_first = refl

pub create_port : udp_call side task_3 (creates 3 1001 0) (number 7) ≡ answers side (minus 17) []
unfolding udp_call settled settle
create_port = refl

pub create_port_first : udp_call side task_3 (creates 3 1001 5) (number 7) ≡ answers side (minus 17) []
unfolding udp_call settled settle
create_port_first = refl

pub create_routine : udp_call side task_3 (creates 3 1002 5) (number 7) ≡ answers side (minus 17) []
unfolding udp_call settled settle
create_routine = refl

-- ---- sending

pub send_context : udp_call side Handler (sends 1 peer (7 ∷ []) Fevr) (number 7) ≡ answers side (minus 25) []
unfolding udp_call settled settle
send_context = refl

pub send_context_first : udp_call side Handler (sends 0 (end_point first_addr 0) too_long Nblk) (number 7) ≡ answers side (minus 25) []
unfolding udp_call settled settle
send_context_first = refl

pub send_id_zero : udp_call side task_3 (sends 0 peer (7 ∷ []) Fevr) (number 7) ≡ answers side (minus 18) []
unfolding udp_call settled settle
send_id_zero = refl

pub send_id_above : udp_call side task_3 (sends 17 peer (7 ∷ []) Fevr) (number 7) ≡ answers side (minus 18) []
unfolding udp_call settled settle
send_id_above = refl

pub send_id_first : udp_call side task_3 (sends 17 (end_point first_addr 0) too_long Nblk) (number 7) ≡ answers side (minus 18) []
unfolding udp_call settled settle
send_id_first = refl

pub send_no_point : udp_call side task_3 (sends 3 peer (7 ∷ []) Fevr) (number 7) ≡ answers side (minus 42) []
unfolding udp_call settled settle
send_no_point = refl

pub send_no_point_first : udp_call side task_3 (sends 3 (end_point first_addr 0) too_long Nblk) (number 7) ≡ answers side (minus 42) []
unfolding udp_call settled settle
send_no_point_first = refl

pub send_own_address : udp_call side task_3 (sends 1 (end_point first_addr 2000) (7 ∷ []) Fevr) (number 7) ≡ answers side (minus 17) []
unfolding udp_call settled settle
send_own_address = refl

pub send_own_address_first : udp_call side task_3 (sends 1 (end_point first_addr 0) too_long Nblk) (number 7) ≡ answers side (minus 17) []
unfolding udp_call settled settle
send_own_address_first = refl

pub send_no_address : udp_call side task_3 (sends 1 (end_point 0 2000) (7 ∷ []) Fevr) (number 7) ≡ answers side (minus 17) []
unfolding udp_call settled settle
send_no_address = refl

pub send_no_address_first : udp_call side task_3 (sends 1 (end_point 0 0) too_long Nblk) (number 7) ≡ answers side (minus 17) []
unfolding udp_call settled settle
send_no_address_first = refl

pub send_no_port : udp_call side task_3 (sends 1 (end_point second_addr 0) (7 ∷ []) Fevr) (number 7) ≡ answers side (minus 17) []
unfolding udp_call settled settle
send_no_port = refl

pub send_no_port_first : udp_call side task_3 (sends 1 (end_point second_addr 0) too_long Nblk) (number 7) ≡ answers side (minus 17) []
unfolding udp_call settled settle
send_no_port_first = refl

pub send_too_long : udp_call side task_3 (sends 1 peer too_long Fevr) (number 7) ≡ answers side (minus 17) []
unfolding udp_call settled settle
send_too_long = refl

pub send_too_long_first : udp_call side task_3 (sends 1 peer too_long Nblk) (number 7) ≡ answers side (minus 17) []
unfolding udp_call settled settle
send_too_long_first = refl

pub send_untold : udp_call side task_3 (sends 1 peer (7 ∷ []) Nblk) (number 7) ≡ answers side (minus 17) []
unfolding udp_call settled settle
send_untold = refl

-- data of the greatest length is not refused, and an empty datagram isn't
pub send_longest : first_refusal (refusals side task_3 (sends 1 peer (replicate 1472 0) Fevr)) ≡ None
send_longest = refl

pub send_empty : first_refusal (refusals side task_3 (sends 1 peer [] Pol)) ≡ None
send_empty = refl

-- ---- receiving

pub receive_context : udp_call side Handler (receives 1 5 Fevr) (number 7) ≡ answers side (minus 25) []
unfolding udp_call settled settle
receive_context = refl

pub receive_context_first : udp_call waiting_side Handler (receives 1 65281 Nblk) (number 7) ≡ answers waiting_side (minus 25) []
unfolding udp_call settled settle
receive_context_first = refl

pub receive_context_before_id : udp_call waiting_side Handler (receives 0 65281 Nblk) (number 7) ≡ answers waiting_side (minus 25) []
unfolding udp_call settled settle
receive_context_before_id = refl

pub receive_id_zero : udp_call side task_3 (receives 0 5 Fevr) (number 7) ≡ answers side (minus 18) []
unfolding udp_call settled settle
receive_id_zero = refl

pub receive_id_above : udp_call side task_3 (receives 17 5 Fevr) (number 7) ≡ answers side (minus 18) []
unfolding udp_call settled settle
receive_id_above = refl

pub receive_id_in_handler : udp_call side Handler (receives 17 5 Pol) (number 7) ≡ answers side (minus 18) []
unfolding udp_call settled settle
receive_id_in_handler = refl

pub receive_id_first : udp_call waiting_side task_3 (receives 17 65281 Nblk) (number 7) ≡ answers waiting_side (minus 18) []
unfolding udp_call settled settle
receive_id_first = refl

pub receive_no_point : udp_call side task_3 (receives 3 5 Fevr) (number 7) ≡ answers side (minus 42) []
unfolding udp_call settled settle
receive_no_point = refl

pub receive_no_point_first : udp_call waiting_side task_3 (receives 3 65281 Nblk) (number 7) ≡ answers waiting_side (minus 42) []
unfolding udp_call settled settle
receive_no_point_first = refl

pub receive_too_long : udp_call side task_3 (receives 1 65281 Fevr) (number 7) ≡ answers side (minus 17) []
unfolding udp_call settled settle
receive_too_long = refl

pub receive_too_long_first : udp_call waiting_side task_3 (receives 1 65281 Nblk) (number 7) ≡ answers waiting_side (minus 17) []
unfolding udp_call settled settle
receive_too_long_first = refl

pub receive_untold : udp_call side task_3 (receives 1 5 Nblk) (number 7) ≡ answers side (minus 17) []
unfolding udp_call settled settle
receive_untold = refl

pub receive_untold_first : udp_call waiting_side task_3 (receives 1 5 Nblk) (number 7) ≡ answers waiting_side (minus 17) []
unfolding udp_call settled settle
receive_untold_first = refl

pub receive_twice : udp_call waiting_side task_3 (receives 1 5 Fevr) (number 7) ≡ answers waiting_side (minus 41) []
unfolding udp_call settled settle
receive_twice = refl

-- a receive of the greatest length is not refused, nor is a poll in a handler, nor one at an end point where no task waits
pub receive_longest : first_refusal (refusals side task_3 (receives 1 65280 Fevr)) ≡ None
receive_longest = refl

pub receive_in_handler : first_refusal (refusals side Handler (receives 1 5 Pol)) ≡ None
receive_in_handler = refl

pub receive_beside : first_refusal (refusals waiting_side task_3 (receives 2 5 Fevr)) ≡ None
receive_beside = refl
