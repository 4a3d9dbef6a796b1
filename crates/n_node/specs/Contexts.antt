-- Which calls of the network part a handler may not make (ITRON TCP/IP API, callback routines), and which are UDP's.
use Rattle.std.specs.Prelude.{Bool, true, false, not}
use Rattle.it_types.specs.declared.request.Req.{Req}
use Rattle.it_types.specs.declared.request.Req.TheVariants.{UdpCreCep, UdpDelCep, UdpSndDat, UdpRcvDat, UdpCanCep}
use Rattle.it_types.specs.Callers.{is_poll}

abbrev pub needs_task : Req → Bool
needs_task (UdpCreCep cep port cbr) = true
needs_task (UdpDelCep cep) = true
needs_task (UdpSndDat cep dest load tmo) = true
needs_task (UdpRcvDat cep len tmo) = not (is_poll tmo)
needs_task _ = false

abbrev pub is_udp : Req → Bool
is_udp (UdpCreCep cep port cbr) = true
is_udp (UdpDelCep cep) = true
is_udp (UdpSndDat cep dest load tmo) = true
is_udp (UdpRcvDat cep len tmo) = true
is_udp (UdpCanCep cep func) = true
is_udp _ = false
