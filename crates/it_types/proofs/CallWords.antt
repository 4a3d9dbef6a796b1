-- Words for the calls of worked histories.
use Rattle.std.proofs.Common.{ℕ, List}
use Rattle.it_types.specs.declared.id.EndPt.{EndPt}
use Rattle.it_types.specs.declared.request.Req.{Req}
use Rattle.it_types.specs.declared.request.Req.TheVariants.{ExtTsk, DlyTsk, SigSem, TwaiSem, UdpCreCep, UdpSndDat, UdpRcvDat}
use Rattle.it_types.specs.declared.timeout.Tmo.{Tmo}

abbrev pub exits : Req
exits = ExtTsk

abbrev pub delays : ℕ → Req
delays ticks = DlyTsk ticks

abbrev pub signals : ℕ → Req
signals semaphore = SigSem (record { 0 = semaphore })

abbrev pub waits : ℕ → Tmo → Req
waits semaphore tmo = TwaiSem (record { 0 = semaphore }) tmo

abbrev pub creates : ℕ → ℕ → ℕ → Req
creates cep port routine = UdpCreCep (record { 0 = cep }) port (record { 0 = routine })

abbrev pub sends : ℕ → EndPt → List ℕ → Tmo → Req
sends cep dest load tmo = UdpSndDat (record { 0 = cep }) dest load tmo

abbrev pub receives : ℕ → ℕ → Tmo → Req
receives cep len tmo = UdpRcvDat (record { 0 = cep }) len tmo
