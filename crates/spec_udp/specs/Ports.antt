-- UDP ports of a node: which are taken, and which one an end point gets that asks for any. The dynamic ports begin at 49,152
-- (RFC 6335, section 6); that the least free one is chosen is this project's own.
use Rattle.std.specs.Prelude.{ℕ, zero, suc, ◌+◌, Bool, true, false, List, length, Option, ◌==◌, if◌then◌else◌}
use Rattle.std.specs.List.{list_any}
use Rattle.spec_udp.specs.declared.point.UdpPoint.{UdpPoint}
use Rattle.spec_udp.specs.Points.{has_port}

-- an end point has the port
abbrev pub is_taken : List (Option UdpPoint) → ℕ → Bool
is_taken points port = list_any (has_port port) points

abbrev pub first_dynamic_port : ℕ
first_dynamic_port = 49152

-- the least of so many ports from one on that aren't taken, or the port behind them
unfoldable pub first_free : ℕ → ℕ → (ℕ → Bool) → ℕ
first_free zero port taken = port
first_free (suc n) port taken = elim (taken port) [ true ↦ first_free n (port + 1) taken | false ↦ port ]

-- the least dynamic port that no end point has: there are no more end points than places in their table
abbrev pub free_port : List (Option UdpPoint) → ℕ
free_port points = first_free (length points) first_dynamic_port (is_taken points)

-- the port of a new end point: the one that was asked for, or with 0 any
abbrev pub port_for : List (Option UdpPoint) → ℕ → ℕ
port_for points port = if port == 0 then free_port points else port
