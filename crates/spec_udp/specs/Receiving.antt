-- Taking the oldest datagram of an end point (ITRON TCP/IP API, the reception of UDP packets): the answer has the sender's address and port
-- before the data. That a longer datagram gives its first bytes with E_BOVR is of the API; the six bytes are this project's
-- own.
use Rattle.std.specs.Prelude.{ℕ, pos, List, ◌++◌, length, take, nat_lt, if◌then◌else◌}
use Rattle.it_types.specs.declared.er.Er.{Er}
use Rattle.it_types.specs.declared.er.TheConstants.{E_BOVR}
use Rattle.spec_wire.specs.Octets.{u16_octets, u32_octets}
use Rattle.spec_udp.specs.declared.point.Received.{Received}

-- a number of bytes as the code of a success
abbrev pub count_code : ℕ → Er
count_code n = record { 0 = pos n }

-- the code of a receive of so many bytes: the datagram's length, or E_BOVR where it is longer
abbrev pub receive_code : ℕ → Received → Er
receive_code len d = if nat_lt len (length d.load) then E_BOVR else count_code (length d.load)

-- its bytes: the sender's address, 4, its port, 2, and the first bytes of the data
abbrev pub receive_bytes : ℕ → Received → List ℕ
receive_bytes len d = u32_octets d.from.addr ++ (u16_octets d.from.port ++ take len d.load)
