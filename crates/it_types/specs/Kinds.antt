-- The kinds of fields of a call: what the value of a field is, how it is spelled, its range, and what reads it. They are this
-- project's own.
use Rattle.std.specs.Prelude.{ℕ, Bool, true, false, ◌&&◌, List, [], Option, Some, None, nat_le, nat_lt, nat_eq, codes, decimal, if◌then◌else◌}
use Rattle.std.specs.List.{find}
use Rattle.std.specs.Option.{option_map}
use Rattle.std.specs.Cmp.Lexicographic.{pointwise}
use Rattle.it_types.specs.declared.id.TaskId.{TaskId}
use Rattle.it_types.specs.declared.id.ObjId.{ObjId}
use Rattle.it_types.specs.declared.id.RepId.{RepId}
use Rattle.it_types.specs.declared.id.CepId.{CepId}
use Rattle.it_types.specs.declared.id.EndPt.{EndPt}
use Rattle.it_types.specs.declared.handler.FnCode.{FnCode}
use Rattle.it_types.specs.declared.handler.FnCode.TheVariants as functions
use Rattle.it_types.specs.declared.handler.TheConstants.{TCP_FUNCTIONS, UDP_FUNCTIONS}
use Rattle.it_types.specs.declared.timeout.Tmo.{Tmo}
use Rattle.it_types.specs.declared.timeout.Tmo.TheVariants as timeouts
use Rattle.it_types.specs.Address.{end_point_text}
use Rattle.it_types.specs.Spelling.{timeout_text, data_text, mode_text, function_text}
use Rattle.it_types.specs.Cursor.{◌>>=◌, or_else, after, split_while, is_no_space}
use Rattle.it_types.specs.Numbers.{below, number_at, address_at}
use Rattle.it_types.specs.Data.{is_data, data_of}

pub data Kind : Type 0 where
  Task : Kind
  Object : Kind
  Reception : Kind
  Point : Kind
  Number : Kind
  Port : Kind
  Delay : Kind
  Time : Kind
  Mode : Kind
  Destination : Kind
  Load : Kind
  Timeout : Kind
  TcpFunction : Kind
  UdpFunction : Kind

abbrev pub Value : Kind → Type 0
Value Task = TaskId
Value Object = ObjId
Value Reception = RepId
Value Point = CepId
Value Number = ℕ
Value Port = ℕ
Value Delay = ℕ
Value Time = ℕ
Value Mode = Bool
Value Destination = EndPt
Value Load = List ℕ
Value Timeout = Tmo
Value TcpFunction = FnCode
Value UdpFunction = FnCode

-- ---- how a field is spelled

abbrev pub text_of : (k : Kind) → Value k → List ℕ
text_of Task id = decimal id.0
text_of Object id = decimal id.0
text_of Reception id = decimal id.0
text_of Point id = decimal id.0
text_of Number n = decimal n
text_of Port n = decimal n
text_of Delay n = decimal n
text_of Time n = decimal n
text_of Mode all = mode_text all
text_of Destination end = end_point_text end
text_of Load load = data_text load
text_of Timeout tmo = timeout_text tmo
text_of TcpFunction func = function_text func
text_of UdpFunction func = function_text func

-- ---- its range

-- the greatest number of ticks of a time-out or a delay
abbrev pub greatest_time : ℕ
greatest_time = 1000000

-- a time-out that can be written: a number of ticks is at least 1
abbrev pub is_written_timeout : Tmo → Bool
is_written_timeout timeouts.Pol = true
is_written_timeout timeouts.Nblk = true
is_written_timeout timeouts.Fevr = true
is_written_timeout (timeouts.Ms ticks) = nat_le 1 ticks && nat_le ticks greatest_time

-- the parts of an address with its port are below 2^32 and 2^16
abbrev pub is_end_point : EndPt → Bool
is_end_point e = nat_lt e.addr 4294967296 && nat_lt e.port 65536

-- a function of which calls at a TCP end point can be canceled
abbrev pub is_tcp_function : FnCode → Bool
is_tcp_function functions.All = true
is_tcp_function functions.AcpCep = true
is_tcp_function functions.ConCep = true
is_tcp_function functions.ClsCep = true
is_tcp_function functions.SndDat = true
is_tcp_function functions.RcvDat = true
is_tcp_function functions.GetBuf = true
is_tcp_function functions.RcvBuf = true
is_tcp_function functions.UdpSnd = false
is_tcp_function functions.UdpRcv = false
is_tcp_function functions.UdpEvent = false

-- a function of which calls at a UDP end point can be canceled
abbrev pub is_udp_function : FnCode → Bool
is_udp_function functions.All = true
is_udp_function functions.AcpCep = false
is_udp_function functions.ConCep = false
is_udp_function functions.ClsCep = false
is_udp_function functions.SndDat = false
is_udp_function functions.RcvDat = false
is_udp_function functions.GetBuf = false
is_udp_function functions.RcvBuf = false
is_udp_function functions.UdpSnd = true
is_udp_function functions.UdpRcv = true
is_udp_function functions.UdpEvent = false

-- a value is in the range of its kind, for data of at most so many bytes
abbrev pub is_in_range : ℕ → (k : Kind) → Value k → Bool
is_in_range limit Task id = nat_lt id.0 4294967296
is_in_range limit Object id = nat_lt id.0 4294967296
is_in_range limit Reception id = nat_lt id.0 4294967296
is_in_range limit Point id = nat_lt id.0 4294967296
is_in_range limit Number n = nat_lt n 4294967296
is_in_range limit Port n = nat_lt n 65536
is_in_range limit Delay n = nat_le n greatest_time
is_in_range limit Time n = nat_lt n 9223372036854775808
is_in_range limit Mode all = true
is_in_range limit Destination end = is_end_point end
is_in_range limit Load load = is_data limit load
is_in_range limit Timeout tmo = is_written_timeout tmo
is_in_range limit TcpFunction func = is_tcp_function func
is_in_range limit UdpFunction func = is_udp_function func

-- ---- what reads it: the value, or none where it is out of its range, and the bytes after it

abbrev pub task_of : Option ℕ → Option TaskId
task_of number = option_map (λ id. record { 0 = id }) (below 4294967296 number)

abbrev pub object_of : Option ℕ → Option ObjId
object_of number = option_map (λ id. record { 0 = id }) (below 4294967296 number)

abbrev pub reception_of : Option ℕ → Option RepId
reception_of number = option_map (λ id. record { 0 = id }) (below 4294967296 number)

abbrev pub point_of : Option ℕ → Option CepId
point_of number = option_map (λ id. record { 0 = id }) (below 4294967296 number)

-- a number of ticks of a delay
abbrev pub delay_of : Option ℕ → Option ℕ
delay_of None = None
delay_of (Some ticks) = if nat_le ticks greatest_time then Some ticks else None

-- a number of ticks of a time-out
abbrev pub ticks_of : Option ℕ → Option Tmo
ticks_of None = None
ticks_of (Some ticks) = if nat_le 1 ticks && nat_le ticks greatest_time then Some (timeouts.Ms ticks) else None

-- an address with its port, where both are there
abbrev pub end_point_of : Option ℕ → Option ℕ → Option EndPt
end_point_of (Some addr) (Some port) = Some (record { addr = addr; port = port })
end_point_of _ _ = None

-- a number, taken so
unfoldable pub number_as : {A : Type 0} → (Option ℕ → Option A) → List ℕ → Option (Option A × List ℕ)
number_as value bytes = do
  n ← number_at bytes
  Some (value n.0, n.1)

-- a word, which stands for a value
unfoldable pub word_as : {A : Type 0} → List ℕ → A → List ℕ → Option (Option A × List ℕ)
word_as word value bytes = do
  rest ← after word bytes
  Some (Some value, rest)

unfoldable pub mode_at : List ℕ → Option (Option Bool × List ℕ)
mode_at bytes = or_else (word_as (codes "and") true bytes) (word_as (codes "or") false bytes)

unfoldable pub timeout_at : List ℕ → Option (Option Tmo × List ℕ)
timeout_at bytes =
    or_else (word_as (codes "pol") timeouts.Pol bytes) (or_else (word_as (codes "nblk") timeouts.Nblk bytes) (or_else (word_as (codes "fevr") timeouts.Fevr bytes) (number_as ticks_of bytes)))

unfoldable pub destination_at : List ℕ → Option (Option EndPt × List ℕ)
destination_at bytes = do
  addr ← address_at bytes
  rest ← after (codes ":") addr.1
  port ← number_at rest
  Some (end_point_of addr.0 (below 65536 port.0), port.1)

-- data: one that is too long is none, whatever its digits
unfoldable pub load_at : ℕ → List ℕ → Option (Option (List ℕ) × List ℕ)
load_at limit bytes = do
  digits ← after (codes "x") bytes
  load ← data_of limit (split_while is_no_space digits).0
  Some (Some load, (split_while is_no_space digits).1)

-- the function of these whose word this is
abbrev pub function_in : List FnCode → List ℕ → Option FnCode
function_in functions word = find (λ f. pointwise nat_eq word (function_text f)) functions

-- one of these functions, by its word
unfoldable pub function_at : List FnCode → List ℕ → Option (Option FnCode × List ℕ)
function_at functions bytes = do
  func ← function_in functions (split_while is_no_space bytes).0
  Some (Some func, (split_while is_no_space bytes).1)

abbrev pub read : ℕ → (k : Kind) → List ℕ → Option (Option (Value k) × List ℕ)
read limit Task bytes = number_as task_of bytes
read limit Object bytes = number_as object_of bytes
read limit Reception bytes = number_as reception_of bytes
read limit Point bytes = number_as point_of bytes
read limit Number bytes = number_as (below 4294967296) bytes
read limit Port bytes = number_as (below 65536) bytes
read limit Delay bytes = number_as delay_of bytes
read limit Time bytes = number_as (below 9223372036854775808) bytes
read limit Mode bytes = mode_at bytes
read limit Destination bytes = destination_at bytes
read limit Load bytes = load_at limit bytes
read limit Timeout bytes = timeout_at bytes
read limit TcpFunction bytes = function_at TCP_FUNCTIONS bytes
read limit UdpFunction bytes = function_at UDP_FUNCTIONS bytes

-- what stands for a value that is out of its range
abbrev pub default : (k : Kind) → Value k
default Task = record { 0 = 0 }
default Object = record { 0 = 0 }
default Reception = record { 0 = 0 }
default Point = record { 0 = 0 }
default Number = 0
default Port = 0
default Delay = 0
default Time = 0
default Mode = false
default Destination = record { addr = 0; port = 0 }
default Load = []
default Timeout = timeouts.Pol
default TcpFunction = functions.All
default UdpFunction = functions.All
