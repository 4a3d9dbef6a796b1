-- A user datagram of the code (RFC 768) as what an end point receives.
use Rattle.std.specs.Prelude.{ℕ, Option, Some, None}
use Rattle.net_udp.specs.declared.datagram.Udp.{Udp}
use Rattle.spec_udp.specs.Packets.{Arrived}

-- what is received of a datagram that came from an address
abbrev pub came_from : ℕ → Option Udp → Option Arrived
came_from src None = None
came_from src (Some u) = Some (record { port = u.to_port; received = record { from = record { addr = src; port = u.from_port }; load = u.load.now } })
