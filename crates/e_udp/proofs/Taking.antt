-- What the code of a receive does is what the specification says, for the end points that it began with.
use Rattle.std.proofs.Common.{◌≡◌, ℕ, true, false, List, [], ◌∷◌, Option, None, Some, slice_get, refl, ap, sym, ◌∙◌, subst}
use Rattle.it_types.specs.declared.answer.Ans.TheVariants as answers
use Rattle.it_types.specs.declared.entry.Out.{Out}
use Rattle.it_types.specs.declared.er.Er.{Er}
use Rattle.it_types.specs.declared.er.TheConstants.{E_TMOUT}
use Rattle.it_types.specs.declared.handler.FnCode.TheVariants as functions
use Rattle.it_types.specs.declared.id.CallNo.{CallNo}
use Rattle.it_types.specs.declared.id.CepId.{CepId}
use Rattle.it_types.specs.declared.id.ObjId.{ObjId}
use Rattle.it_types.specs.declared.id.TaskId.{TaskId}
use Rattle.it_types.specs.declared.request.Req.TheVariants.{UdpRcvDat}
use Rattle.it_types.specs.declared.timeout.Tmo.{Tmo}
use Rattle.it_types.specs.Callers.{is_nblk, is_poll}
use Rattle.spec_lists.specs.Refusal.{first_refusal}
use Rattle.spec_lists.specs.Tables.{get, change}
use Rattle.spec_udp.specs.declared.point.Received.{Received}
use Rattle.spec_udp.specs.Receiving.{receive_bytes, receive_code}
use Rattle.spec_pend.specs.declared.answer.NetAnswer.TheVariants.{Later}
use Rattle.spec_pend.specs.declared.call.Who.TheVariants as whos
use Rattle.spec_pend.specs.declared.slot.Slot.{Slot}
use Rattle.spec_pend.specs.PlainPend.{PlainPend}
use Rattle.spec_pend.specs.Slots.{with_call}
use Rattle.spec_pend.specs.Slots as slots
use Rattle.spec_udp.specs.declared.point.UdpPoint.{UdpPoint}
use Rattle.spec_udp.specs.PlainUdps.{PlainUdps, UdpSide, UdpOutcome}
use Rattle.spec_udp.specs.Points.{queue_of, rest_of, routine_at, with_wanted, without_oldest}
use Rattle.spec_udp.specs.Settling.{UdpAtRest, settled}
use Rattle.spec_udp.specs.Rows.{answered, received, receiving, refusals, slot_of, udp_call, waiting, who_is_told, with_point}
use Rattle.spec_udp.proofs.Changes.{same_at, taken_nowhere}
use Rattle.spec_udp.proofs.RowCases.{taken_settles, waiting_settles}
use Rattle.spec_udp.proofs.Settling.{settled_none}
use Rattle.e_udp.specs.Contexts.{context_of}
use Rattle.e_udp.specs.Does.{Does, side}
use Rattle.e_udp.specs.Shows.{Shows, alone, begun_and_ended}
use Rattle.e_udp.proofs.Allowed.{IsThere, MayReceive, may_receive}
use Rattle.e_udp.proofs.Callers.{caller_is}
use Rattle.e_udp.proofs.Doing.{carried_out_does}
use Rattle.e_udp.proofs.NonBlocking.{receive_ends}
use Rattle.e_udp.proofs.Searches.{accepted_there}

oldest_there : (queue : List Received) (d : Received) → slice_get queue 0 ≡ Some d → queue ≡ d ∷ rest_of queue
oldest_there [] d e = cc
oldest_there (x ∷ xs) d e = ap (λ y. y ∷ xs) (same e)
  where
    same : Some x ≡ Some d → x ≡ d
    same e = cc

none_there : (queue : List Received) → slice_get queue 0 ≡ None → queue ≡ []
none_there [] e = refl
none_there (x ∷ xs) e = cc

module _ {before named : PlainUdps} (lent : PlainPend) (same : before ≡ named) (rest : UdpAtRest (side named lent)) (by : TaskId) (cep : CepId) (len : ℕ) (tmo : Tmo) (number : CallNo) (allowed : first_refusal (refusals (side named lent) (context_of by) (UdpRcvDat cep len tmo)) ≡ None) where
  at_rest : UdpAtRest (side before lent)
  at_rest = subst (λ u. UdpAtRest (side u lent)) (sym same) rest

  may : MayReceive (side before lent) cep len
  may = may_receive (side before lent) (context_of by) cep len tmo (subst (λ u. first_refusal (refusals (side u lent) (context_of by) (UdpRcvDat cep len tmo)) ≡ None) (sym same) allowed)

  receive_does : {after : PlainUdps} {left : PlainPend} {out : Out} (o : UdpOutcome)
      → settled (receiving (side before lent) by cep len tmo number) ≡ o
      → Does (side after left) number out o
      → Does (side after left) number out (udp_call (side named lent) (context_of by) (UdpRcvDat cep len tmo) number)
  receive_does o outcome does =
      carried_out_does lent same rest (context_of by) (UdpRcvDat cep len tmo) number o allowed (ap (λ t. settled (receiving (side before lent) t cep len tmo number)) (caller_is by) ∙ outcome) does

  now_is : is_nblk tmo ≡ false → receiving (side before lent) by cep len tmo number ≡ received (side before lent) by cep len tmo number (queue_of (get before.points cep.0))
  now_is waits = rw waits refl

  later_is : is_nblk tmo ≡ true → receiving (side before lent) by cep len tmo number ≡ waiting (side before lent) by cep len tmo number
  later_is later = rw later refl

  waits_is : is_poll tmo ≡ false → received (side before lent) by cep len tmo number [] ≡ waiting (side before lent) by cep len tmo number
  waits_is poll = rw poll refl

  over_is : is_poll tmo ≡ true → received (side before lent) by cep len tmo number [] ≡ answered (side before lent) E_TMOUT []
  over_is poll = rw poll refl

  -- the oldest datagram is taken
  pub taking_does : {points : List (Option UdpPoint)} {out : Out} (d : Received) (code : Er) (bytes : List ℕ)
      → is_nblk tmo ≡ false
      → Some d ≡ slice_get (queue_of (get before.points cep.0)) 0
      → points ≡ change before.points cep.0 without_oldest
      → code ≡ receive_code len d
      → bytes ≡ receive_bytes len d
      → out ≡ alone (answers.Now code bytes)
      → Does (side (record before { points = points }) lent) number out (udp_call (side named lent) (context_of by) (UdpRcvDat cep len tmo) number)
  taking_does {points} {out} d code bytes waits oldest e c b told =
      receive_does (answered taken (receive_code len d) (receive_bytes len d))
      (ap settled (now_is waits) ∙ ap (λ q. settled (received (side before lent) by cep len tmo number q)) (oldest_there (queue_of (get before.points cep.0)) d (sym oldest)) ∙ taken_settles (side before lent) cep (receive_code len d) (receive_bytes len d) at_rest)
      (record { state = ap (λ w. side (record before { points = w }) lent) e; told = told ∙ ap (λ k. alone (answers.Now k bytes)) c ∙ ap (λ k. alone (answers.Now (receive_code len d) k)) b })
    where
      taken : UdpSide
      taken = with_point (side before lent) cep without_oldest

  -- no datagram is there
  unmet : None ≡ slice_get (queue_of (get before.points cep.0)) 0 → queue_of (get before.points cep.0) ≡ []
  unmet none = none_there (queue_of (get before.points cep.0)) (sym none)

  -- a poll is over
  pub poll_does : {points : List (Option UdpPoint)} {out : Out}
      → is_nblk tmo ≡ false
      → None ≡ slice_get (queue_of (get before.points cep.0)) 0
      → points ≡ change before.points cep.0 without_oldest
      → is_poll tmo ≡ true
      → out ≡ alone (answers.Now E_TMOUT [])
      → Does (side (record before { points = points }) lent) number out (udp_call (side named lent) (context_of by) (UdpRcvDat cep len tmo) number)
  poll_does waits none e poll told =
      receive_does (answered (side before lent) E_TMOUT [])
      (ap settled (now_is waits) ∙ ap (λ q. settled (received (side before lent) by cep len tmo number q)) (unmet none) ∙ ap settled (over_is poll) ∙ settled_none (answered (side before lent) E_TMOUT []) at_rest)
      (record { state = ap (λ w. side (record before { points = w }) lent) (e ∙ taken_nowhere before.points cep.0 (unmet none)); told = told })

  -- the call waits
  pub waiting_does : {points between : List (Option UdpPoint)} {left : PlainPend} {slot : Slot} {out : Out} (code : Er)
      → slot ≡ slot_of cep functions.UdpRcv
      → is_nblk tmo ≡ false
      → None ≡ slice_get (queue_of (get before.points cep.0)) 0
      → between ≡ change before.points cep.0 without_oldest
      → points ≡ change between cep.0 (with_wanted len)
      → is_poll tmo ≡ false
      → (left, code) ≡ slots.accepted lent (whos.Task by) slot number
      → out ≡ alone (answers.Pends number)
      → Does (side (record before { points = points }) left) number out (udp_call (side named lent) (context_of by) (UdpRcvDat cep len tmo) number)
  waiting_does {points} {between} {left} {slot} {out} code at waits none e w poll accepted told =
      receive_does (waiting (side before lent) by cep len tmo number)
      (ap settled (now_is waits) ∙ ap (λ q. settled (received (side before lent) by cep len tmo number q)) (unmet none) ∙ ap settled (waits_is poll) ∙ waiting_settles (side before lent) by cep len tmo number (unmet none) at_rest)
      (record {
        state = ap (λ ps. side (record before { points = ps }) left) (w ∙ ap (λ ps. change ps cep.0 (with_wanted len)) (e ∙ taken_nowhere before.points cep.0 (unmet none)))
            ∙ ap (side (record before { points = change before.points cep.0 (with_wanted len) })) (accepted_there lent left (whos.Task by) (slot_of cep functions.UdpRcv) number code may.free (accepted ∙ ap (λ w. slots.accepted lent (whos.Task by) w number) at) ∙ ap (λ who. with_call lent who (slot_of cep functions.UdpRcv) number) task);
        told = rw waits told;
      })
    where
      task : whos.Task by ≡ who_is_told by (routine_at (get (change before.points cep.0 (with_wanted len)) cep.0)) tmo
      task = rw waits refl

  -- ---- non-blocking

  -- the wish changes neither the queue nor the routine
  queue_wished : (o : Option UdpPoint) → queue_of (with_wanted len o) ≡ queue_of o
  queue_wished None = refl
  queue_wished (Some p) = refl

  routine_wished : (o : Option UdpPoint) → routine_at (with_wanted len o) ≡ routine_at o
  routine_wished None = refl
  routine_wished (Some p) = refl

  as_queued : queue_of (get (change before.points cep.0 (with_wanted len)) cep.0) ≡ queue_of (get before.points cep.0)
  as_queued = same_at queue_of before.points cep.0 (with_wanted len) (queue_wished (get before.points cep.0))

  -- the call is accepted, and ends at once with the oldest datagram
  pub taking_later_does : {points between : List (Option UdpPoint)} {left : PlainPend} {slot : Slot} {out : Out} (cbr : ObjId) (d : Received) (code : Er) (bytes : List ℕ)
      → slot ≡ slot_of cep functions.UdpRcv
      → is_nblk tmo ≡ true
      → cbr ≡ routine_at (get before.points cep.0)
      → between ≡ change before.points cep.0 (with_wanted len)
      → Some d ≡ slice_get (queue_of (get between cep.0)) 0
      → points ≡ change between cep.0 without_oldest
      → code ≡ receive_code len d
      → bytes ≡ receive_bytes len d
      → Shows left out (answers.Later number) (begun_and_ended lent (whos.Callback by cbr) slot number code bytes)
      → Does (side (record before { points = points }) left) number out (udp_call (side named lent) (context_of by) (UdpRcvDat cep len tmo) number)
  taking_later_does {points} {between} {left} {slot} {out} cbr d code bytes at later routine w oldest e c b shows =
      receive_does (outcome taken (slot_of cep functions.UdpRcv) point.routine (receive_code len d) (receive_bytes len d)) settles
      (subst (λ (o : UdpOutcome). Does (side (record before { points = points }) left) number out o) with_those (record { state = ap (side (record before { points = points })) shows.left; told = shows.told }))
    where
      place : IsThere (side before lent) cep
      place = may.place

      point : UdpPoint
      point = place.point

      outcome : List (Option UdpPoint) → Slot → ObjId → Er → List ℕ → UdpOutcome
      outcome ps w r k bs = record { udps = record before { points = ps }; endings = begun_and_ended lent (whos.Callback by r) w number k bs; answer = Later; packets = [] }

      taken : List (Option UdpPoint)
      taken = change (change before.points cep.0 (with_wanted len)) cep.0 without_oldest

      with_those : outcome points slot cbr code bytes ≡ outcome taken (slot_of cep functions.UdpRcv) point.routine (receive_code len d) (receive_bytes len d)
      with_those =
          ap (λ ps. outcome ps slot cbr code bytes) (e ∙ ap (λ ps. change ps cep.0 without_oldest) w)
          ∙ ap (λ v. outcome taken v cbr code bytes) at
          ∙ ap (λ r. outcome taken (slot_of cep functions.UdpRcv) r code bytes) (routine ∙ ap routine_at place.there)
          ∙ ap (λ k. outcome taken (slot_of cep functions.UdpRcv) point.routine k bytes) c
          ∙ ap (outcome taken (slot_of cep functions.UdpRcv) point.routine (receive_code len d)) b

      queued : point.queue ≡ d ∷ rest_of point.queue
      queued = oldest_there point.queue d (ap (λ o. slice_get (queue_of o) 0) (sym place.there) ∙ ap (λ q. slice_get q 0) (sym as_queued) ∙ ap (λ ps. slice_get (queue_of (get ps cep.0)) 0) (sym w) ∙ sym oldest)

      settles : settled (receiving (side before lent) by cep len tmo number) ≡ outcome taken (slot_of cep functions.UdpRcv) point.routine (receive_code len d) (receive_bytes len d)
      settles = ap settled (later_is later) ∙ receive_ends (side before lent) by cep tmo number point place.there at_rest len d (rest_of point.queue) queued ∙ rw later refl

  -- the call waits, and a routine is told of its end
  pub waiting_later_does : {points between : List (Option UdpPoint)} {left : PlainPend} {slot : Slot} {out : Out} (cbr : ObjId) (code : Er)
      → slot ≡ slot_of cep functions.UdpRcv
      → is_nblk tmo ≡ true
      → cbr ≡ routine_at (get before.points cep.0)
      → between ≡ change before.points cep.0 (with_wanted len)
      → None ≡ slice_get (queue_of (get between cep.0)) 0
      → points ≡ change between cep.0 without_oldest
      → (left, code) ≡ slots.accepted lent (whos.Callback by cbr) slot number
      → out ≡ alone (answers.Later number)
      → Does (side (record before { points = points }) left) number out (udp_call (side named lent) (context_of by) (UdpRcvDat cep len tmo) number)
  waiting_later_does {points} {between} {left} {slot} {out} cbr code at later routine w none e accepted told =
      receive_does (waiting (side before lent) by cep len tmo number) (ap settled (later_is later) ∙ waiting_settles (side before lent) by cep len tmo number empty at_rest)
      (record {
        state = ap (λ ps. side (record before { points = ps }) left) unchanged
            ∙ ap (side (record before { points = change before.points cep.0 (with_wanted len) })) (accepted_there lent left (whos.Callback by cbr) (slot_of cep functions.UdpRcv) number code may.free (accepted ∙ ap (λ w. slots.accepted lent (whos.Callback by cbr) w number) at) ∙ ap (λ who. with_call lent who (slot_of cep functions.UdpRcv) number) who);
        told = rw later told;
      })
    where
      empty_after : queue_of (get (change before.points cep.0 (with_wanted len)) cep.0) ≡ []
      empty_after = none_there (queue_of (get (change before.points cep.0 (with_wanted len)) cep.0)) (ap (λ ps. slice_get (queue_of (get ps cep.0)) 0) (sym w) ∙ sym none)

      empty : queue_of (get before.points cep.0) ≡ []
      empty = sym as_queued ∙ empty_after

      unchanged : points ≡ change before.points cep.0 (with_wanted len)
      unchanged = e ∙ ap (λ ps. change ps cep.0 without_oldest) w ∙ taken_nowhere (change before.points cep.0 (with_wanted len)) cep.0 empty_after

      who : whos.Callback by cbr ≡ who_is_told by (routine_at (get (change before.points cep.0 (with_wanted len)) cep.0)) tmo
      who = rw later (ap (whos.Callback by) (routine ∙ sym (same_at routine_at before.points cep.0 (with_wanted len) (routine_wished (get before.points cep.0)))))
