-- What is known of a request that nothing refuses.
use Rattle.std.proofs.Common.{◌≡◌, ℕ, ◌≤◌, true, false, List, length, Option, None, Some, refl, inl, inr, arith}
use Rattle.std.specs.Prelude.{is_none}
use Rattle.std.proofs.lemmas.Bool.{cases_eq, eq-eqb, ltb-false, ne_eqb}
use Rattle.it_types.specs.declared.context.Ctx.{Ctx}
use Rattle.it_types.specs.declared.id.CepId.{CepId}
use Rattle.it_types.specs.declared.id.EndPt.{EndPt}
use Rattle.it_types.specs.declared.timeout.Tmo.{Tmo}
use Rattle.it_types.specs.declared.handler.FnCode.TheVariants as functions
use Rattle.it_types.specs.declared.request.Req.TheVariants.{UdpSndDat, UdpRcvDat}
use Rattle.spec_lists.specs.Tables.{get}
use Rattle.spec_lists.specs.Refusal.{first_refusal}
use Rattle.spec_lists.proofs.Refusing.{none_holds}
use Rattle.spec_udp.specs.Points.{is_wrong_id}
use Rattle.spec_pend.specs.Kept.{IsCep}
use Rattle.spec_pend.specs.Slots.{is_taken}
use Rattle.spec_udp.specs.declared.point.UdpPoint.{UdpPoint}
use Rattle.spec_udp.specs.PlainUdps.{UdpSide}
use Rattle.spec_udp.specs.Rows.{refusals, slot_of}

-- an end point is there
pub record IsThere (s : UdpSide) (cep : CepId) : Type 0 where
  pub id : IsCep cep
  pub point : UdpPoint
  pub there : get s.udps.points cep.0 ≡ Some point

cep_is : (cep : CepId) → is_wrong_id cep.0 ≡ false → IsCep cep
cep_is cep e = elim (cases_eq cep.0 0) [
  | inl none ↦ absurd (let wrong : true ≡ false = rw (eq-eqb cep.0 0 none) at e in cc)
  | inr some ↦ record { low = omega (arith, some); high = ltb-false 16 cep.0 (rw (ne_eqb cep.0 0 some) at e) }
]

point_there : (o : Option UdpPoint) → is_none o ≡ false → (p : UdpPoint) × (o ≡ Some p)
point_there None e = cc
point_there (Some p) e = (p, refl)

is_there : (s : UdpSide) (cep : CepId) → is_wrong_id cep.0 ≡ false → is_none (get s.udps.points cep.0) ≡ false → IsThere s cep
is_there s cep right some = let p = point_there (get s.udps.points cep.0) some in record { id = cep_is cep right; point = p.0; there = p.1 }

-- a send
pub record MaySend (s : UdpSide) (cep : CepId) (load : List ℕ) : Type 0 where
  pub place : IsThere s cep
  pub size : length load ≤ 1472

pub may_send : (s : UdpSide) (ctx : Ctx) (cep : CepId) (dest : EndPt) (load : List ℕ) (tmo : Tmo)
    → first_refusal (refusals s ctx (UdpSndDat cep dest load tmo)) ≡ None
    → MaySend s cep load
may_send s ctx cep dest load tmo allowed =
    let tests = none_holds (refusals s ctx (UdpSndDat cep dest load tmo)) allowed in
    record { place = is_there s cep tests.1.0 tests.1.1.0; size = ltb-false 1472 (length load) tests.1.1.1.1.1.1.0 }

-- a receive
pub record MayReceive (s : UdpSide) (cep : CepId) (len : ℕ) : Type 0 where
  pub place : IsThere s cep
  pub within : len ≤ 65280
  pub free : is_taken s.pend (slot_of cep functions.UdpRcv) ≡ false

pub may_receive : (s : UdpSide) (ctx : Ctx) (cep : CepId) (len : ℕ) (tmo : Tmo)
    → first_refusal (refusals s ctx (UdpRcvDat cep len tmo)) ≡ None
    → MayReceive s cep len
may_receive s ctx cep len tmo allowed =
    let tests = none_holds (refusals s ctx (UdpRcvDat cep len tmo)) allowed in
    record { place = is_there s cep tests.1.0 tests.1.1.0; within = ltb-false 65280 len tests.1.1.1.0; free = tests.1.1.1.1.1.0 }
