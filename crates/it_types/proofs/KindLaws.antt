-- The two laws of each kind of field: what is read as a value is spelled so and in its range, and what is in its range is read
-- again.
use Rattle.std.proofs.Common.{◌≡◌, ℕ, ◌<◌, Bool, true, false, ◌&&◌, eqb, leb, ltb, List, [], ◌∷◌, ◌++◌, Option, Some, None, codes, refl, sym, ap, subst, ◌∙◌, append_assoc, inl, inr, arith}
use Rattle.std.specs.Option.{option_map}
use Rattle.std.specs.List.{list_all}
use Rattle.std.specs.Prelude.{nat_eq}
use Rattle.std.specs.Cmp.Lexicographic.{pointwise}
use Rattle.std.specs.Char.{is_ascii_digit}
use Rattle.std.specs.Fmt.{decimal}
use Rattle.std.proofs.lemmas.Bool.{cases_Bool, and_parts, ne_eqb, eqb-true, leb-true, ltb-true, lt-ltb}
use Rattle.hex.specs.Hex.{encode_lower}
use Rattle.it_types.specs.declared.id.EndPt.{EndPt}
use Rattle.it_types.specs.declared.handler.FnCode.{FnCode}
use Rattle.it_types.specs.declared.handler.FnCode.TheVariants as functions
use Rattle.it_types.specs.declared.handler.TheConstants.{TCP_FUNCTIONS, UDP_FUNCTIONS}
use Rattle.it_types.specs.declared.timeout.Tmo.{Tmo}
use Rattle.it_types.specs.declared.timeout.Tmo.TheVariants as timeouts
use Rattle.it_types.specs.Address.{address_text, end_point_text}
use Rattle.it_types.specs.Spelling.{timeout_text, data_text, mode_text, function_text}
use Rattle.it_types.specs.Cursor.{and_then, or_else, after, split_while, is_no_space}
use Rattle.it_types.specs.Numbers.{below}
use Rattle.it_types.specs.Data.{is_data}
use Rattle.it_types.specs.Kinds.{Kind, Task, Object, Reception, Point, Number, Port, Delay, Time, Mode, Destination, Load, Timeout, TcpFunction, UdpFunction, Value, text_of, greatest_time, is_written_timeout, is_end_point, is_tcp_function, is_udp_function, is_in_range, task_of, object_of, reception_of, point_of, delay_of, ticks_of, end_point_of, number_as, word_as, mode_at, timeout_at, destination_at, load_at, function_in, function_at, read}
use Rattle.it_types.proofs.ReadSteps.{read_step, found_is, after_takes}
use Rattle.it_types.proofs.Fronts.{stops, split_joins, split_again}
use Rattle.it_types.proofs.Numerals.{number_takes, below_is, decimal_digits, number_again, address_takes, address_again}
use Rattle.it_types.proofs.Finding.{found_text, found_passes}
use Rattle.it_types.proofs.HexWords.{hex_passes, data_is, data_again}

-- what was read of a kind: where it is a value, the bytes begin with its text, and it is in its range
pub record Took (limit : ℕ) (k : Kind) (bytes : List ℕ) (x : Option (Value k) × List ℕ) : Type 0 where
  pub fact : (v : Value k) → x.0 ≡ Some v → (bytes ≡ text_of k v ++ x.1) × (is_in_range limit k v ≡ true)

-- nothing is left, or a space is next
abbrev pub ends : List ℕ → Bool
ends [] = true
ends (b ∷ bs) = eqb b 32

-- no digit is next
ends_digits : (rest : List ℕ) → ends rest ≡ true → stops is_ascii_digit rest ≡ true
ends_digits [] e = refl
ends_digits (b ∷ bs) e = rw (eqb-true b 32 e) refl

-- no other byte of a word is next
pub ends_word : (rest : List ℕ) → ends rest ≡ true → stops is_no_space rest ≡ true
ends_word [] e = refl
ends_word (b ∷ bs) e = rw (eqb-true b 32 e) refl

-- ---- numbers

-- a number that is taken is what the bytes begin with
number_as_takes : {A : Type 0} (take : Option ℕ → Option A) (bytes : List ℕ) (x : Option A × List ℕ) → number_as take bytes ≡ Some x
    → (number : Option ℕ) × ((take number ≡ x.0) × ((n : ℕ) → number ≡ Some n → bytes ≡ decimal n ++ x.1))
unfolding number_as
number_as_takes take bytes x e =
    read_step e λ n p e1.
    let made : (take n.0, n.1) ≡ x = found_is (take n.0, n.1) x e1 in (
      n.0,
      (
        ap (λ (y : Option _ × List ℕ). y.0) made,
        λ m is. number_takes bytes n p (rw is refl) ∙ rw is refl ∙ ap (λ (y : Option _ × List ℕ). decimal m ++ y.1) made,
      ),
    )

-- a number is taken again
number_as_again : {A : Type 0} (take : Option ℕ → Option A) (n : ℕ) (rest : List ℕ) → n < 18446744073709551616 → ends rest ≡ true → number_as take (decimal n ++ rest) ≡ Some (take (Some n), rest)
unfolding number_as and_then
number_as_again take n rest fits e = rw (number_again n rest fits (ends_digits rest e)) refl

-- what a value that was made of a number comes from: the number passes a test
abbrev Comes : {A : Type 0} → (Option ℕ → Option A) → (ℕ → Bool) → (ℕ → A) → Type 0
Comes {A} take test make = (number : Option ℕ) (a : A) → take number ≡ Some a → (n : ℕ) × ((number ≡ Some n) × ((test n ≡ true) × (make n ≡ a)))

-- one that is made of a number below a limit does
below_comes : {A : Type 0} (make : ℕ → A) (limit : ℕ) → Comes (λ number. option_map make (below limit number)) (λ n. ltb n limit) make
below_comes make limit None a e = absurd cc
below_comes make limit (Some n) a e =
    elim (cases_Bool (ltb n limit)) [
      | inl t ↦ (n, (refl, (t, found_is (make n) a (rw t at e))))
      | inr f ↦ absurd (let none : None ≡ Some a = rw f at e in cc)
    ]

-- so does the number itself
number_comes : (limit : ℕ) → Comes (below limit) (λ n. ltb n limit) (λ n. n)
number_comes limit None a e = absurd cc
number_comes limit (Some n) a e =
    elim (cases_Bool (ltb n limit)) [
      | inl t ↦ (n, (refl, (t, found_is n a (rw t at e))))
      | inr f ↦ absurd (let none : None ≡ Some a = rw f at e in cc)
    ]

-- and the ticks of a delay and of a time-out
delay_comes : Comes delay_of (λ n. leb n greatest_time) (λ n. n)
delay_comes None a e = absurd cc
delay_comes (Some n) a e =
    elim (cases_Bool (leb n greatest_time)) [
      | inl t ↦ (n, (refl, (t, found_is n a (rw t at e))))
      | inr f ↦ absurd (let none : None ≡ Some a = rw f at e in cc)
    ]

ticks_come : Comes ticks_of (λ n. leb 1 n && leb n greatest_time) timeouts.Ms
ticks_come None a e = absurd cc
ticks_come (Some n) a e =
    elim (cases_Bool (leb 1 n && leb n greatest_time)) [
      | inl t ↦ (n, (refl, (t, found_is (timeouts.Ms n) a (rw t at e))))
      | inr f ↦ absurd (let none : None ≡ Some a = rw f at e in cc)
    ]

-- a field that is a number: what is made of it is spelled by its number, and its range is the test
number_kind_takes : (limit : ℕ) (k : Kind) (take : Option ℕ → Option (Value k)) (test : ℕ → Bool) (make : ℕ → Value k)
    → Comes take test make
    → ((n : ℕ) → text_of k (make n) ≡ decimal n)
    → ((n : ℕ) → is_in_range limit k (make n) ≡ test n)
    → (bytes : List ℕ) (x : Option (Value k) × List ℕ) → number_as take bytes ≡ Some x → Took limit k bytes x
number_kind_takes limit k take test make comes text range bytes x e = record {
  fact = λ v is.
      let t = number_as_takes take bytes x e in
      let b = comes t.0 v (t.1.0 ∙ is) in (
        t.1.1 b.0 b.1.0 ∙ ap (λ (s : List ℕ). s ++ x.1) (sym (text b.0) ∙ ap (text_of k) b.1.1.1),
        ap (is_in_range limit k) (sym b.1.1.1) ∙ range b.0 ∙ b.1.1.0,
      );
}

-- ---- words

either : {A P : Type 0} (first other : Option A) (x : A) → or_else first other ≡ Some x → (first ≡ Some x → P) → (other ≡ Some x → P) → P
either None other x e one two = two e
either (Some y) other x e one two = one e

-- a word that stands for a value of the kind
word_kind_takes : (limit : ℕ) (k : Kind) (word : List ℕ) (value : Value k) → text_of k value ≡ word → is_in_range limit k value ≡ true
    → (bytes : List ℕ) (x : Option (Value k) × List ℕ) → word_as word value bytes ≡ Some x → Took limit k bytes x
unfolding word_as
word_kind_takes limit k word value text range bytes x e =
    read_step e λ rest p e1.
    let made : (Some value, rest) ≡ x = found_is (Some value, rest) x e1 in
    subst (λ (y : Option (Value k) × List ℕ). Took limit k bytes y) made (record {
      fact = λ v is.
          let same : value ≡ v = found_is value v is in (
            after_takes word bytes rest p ∙ ap (λ (t : List ℕ). t ++ rest) (sym text ∙ ap (text_of k) same),
            ap (is_in_range limit k) (sym same) ∙ range,
          );
    })

-- ---- the first law, kind by kind

mode_takes : (limit : ℕ) (bytes : List ℕ) (x : Option Bool × List ℕ) → mode_at bytes ≡ Some x → Took limit Mode bytes x
unfolding mode_at
mode_takes limit bytes x e =
    either (word_as (codes "and") true bytes) (word_as (codes "or") false bytes) x e
    (λ a. word_kind_takes limit Mode (codes "and") true refl refl bytes x a)
    (λ b. word_kind_takes limit Mode (codes "or") false refl refl bytes x b)

timeout_takes : (limit : ℕ) (bytes : List ℕ) (x : Option Tmo × List ℕ) → timeout_at bytes ≡ Some x → Took limit Timeout bytes x
unfolding timeout_at
timeout_takes limit bytes x e =
    either (word_as (codes "pol") timeouts.Pol bytes) (or_else (word_as (codes "nblk") timeouts.Nblk bytes) (or_else (word_as (codes "fevr") timeouts.Fevr bytes) (number_as ticks_of bytes))) x e
    (λ a. word_kind_takes limit Timeout (codes "pol") timeouts.Pol refl refl bytes x a)
    (λ b. either (word_as (codes "nblk") timeouts.Nblk bytes) (or_else (word_as (codes "fevr") timeouts.Fevr bytes) (number_as ticks_of bytes)) x b
    (λ c. word_kind_takes limit Timeout (codes "nblk") timeouts.Nblk refl refl bytes x c)
    (λ d. either (word_as (codes "fevr") timeouts.Fevr bytes) (number_as ticks_of bytes) x d
    (λ f. word_kind_takes limit Timeout (codes "fevr") timeouts.Fevr refl refl bytes x f)
    (λ g. number_kind_takes limit Timeout ticks_of (λ n. leb 1 n && leb n greatest_time) timeouts.Ms ticks_come (λ n. refl) (λ n. refl) bytes x g)))

-- both parts of an end point are there
end_point_is : (addr port : Option ℕ) (v : EndPt) → end_point_of addr port ≡ Some v → (addr ≡ Some v.addr) × (port ≡ Some v.port)
end_point_is (Some addr) (Some port) v e =
    let same : record { addr = addr; port = port } ≡ v = found_is _ v e in
    (ap (λ (d : EndPt). Some d.addr) same, ap (λ (d : EndPt). Some d.port) same)
end_point_is (Some addr) None v e = absurd cc
end_point_is None port v e = absurd cc

destination_takes : (limit : ℕ) (bytes : List ℕ) (x : Option EndPt × List ℕ) → destination_at bytes ≡ Some x → Took limit Destination bytes x
unfolding destination_at
destination_takes limit bytes x e =
    read_step e λ addr p e1. read_step e1 λ rest q e2. read_step e2 λ port r e3.
    let made : (end_point_of addr.0 (below 65536 port.0), port.1) ≡ x = found_is (end_point_of addr.0 (below 65536 port.0), port.1) x e3 in
    subst (λ (y : Option EndPt × List ℕ). Took limit Destination bytes y) made (record {
      fact = λ v is.
          let parts = end_point_is addr.0 (below 65536 port.0) v is in
          let low = below_is 65536 port.0 v.port parts.1 in
          let a = address_takes bytes addr p (rw parts.0 refl) in
          let one : bytes ≡ address_text v.addr ++ addr.1 = a.0 ∙ rw parts.0 refl in
          let two : rest ≡ decimal v.port ++ port.1 = number_takes rest port r (rw low.0 refl) ∙ rw low.0 refl in
          let small : ltb v.addr 4294967296 ≡ true = lt-ltb v.addr 4294967296 (rw parts.0 at a.1) in (
            rw (one, after_takes (codes ":") addr.1 rest q, two) (simp append_assoc),
            rw (small, lt-ltb v.port 65536 low.1) refl,
          );
    })

load_takes : (limit : ℕ) (bytes : List ℕ) (x : Option (List ℕ) × List ℕ) → load_at limit bytes ≡ Some x → Took limit Load bytes x
unfolding load_at
load_takes limit bytes x e =
    read_step e λ digits p e1. read_step e1 λ load q e2.
    let front = (split_while is_no_space digits).0 in
    let last = (split_while is_no_space digits).1 in
    let made : (Some load, last) ≡ x = found_is (Some load, last) x e2 in
    let d = data_is limit front load q in
    let text : bytes ≡ data_text load ++ last = after_takes (codes "x") bytes digits p ∙ ap (λ (t : List ℕ). codes "x" ++ t) (split_joins is_no_space digits ∙ ap (λ (t : List ℕ). t ++ last) d.0) in
    subst (λ (y : Option (List ℕ) × List ℕ). Took limit Load bytes y) made (record {
      fact = λ v is. let same : load ≡ v = found_is load v is in (text ∙ ap (λ (l : List ℕ). data_text l ++ last) same, ap (is_data limit) (sym same) ∙ d.1);
    })

-- a function that is read is one of those that pass the test
function_takes : (functions : List FnCode) (pass : FnCode → Bool) → list_all pass functions ≡ true → (bytes : List ℕ) (x : Option FnCode × List ℕ) → function_at functions bytes ≡ Some x
    → (v : FnCode) → x.0 ≡ Some v → (bytes ≡ function_text v ++ x.1) × (pass v ≡ true)
unfolding function_at
function_takes functions pass all bytes x e v is =
    read_step e λ func p e1.
    let front = (split_while is_no_space bytes).0 in
    let last = (split_while is_no_space bytes).1 in
    let made : (Some func, last) ≡ x = found_is (Some func, last) x e1 in
    let same : func ≡ v = found_is func v (ap (λ (y : Option FnCode × List ℕ). y.0) made ∙ is) in
    let word : front ≡ function_text func = found_text function_text front functions func p in (
      split_joins is_no_space bytes ∙ ap (λ (t : List ℕ). t ++ last) (word ∙ ap function_text same) ∙ ap (λ (y : Option FnCode × List ℕ). function_text v ++ y.1) made,
      ap pass (sym same) ∙ found_passes (λ f. pointwise nat_eq front (function_text f)) pass functions func all p,
    )

-- what is read of a kind
pub kind_takes : (limit : ℕ) (k : Kind) (bytes : List ℕ) (x : Option (Value k) × List ℕ) → read limit k bytes ≡ Some x → Took limit k bytes x
kind_takes limit Task bytes x e = number_kind_takes limit Task task_of (λ n. ltb n 4294967296) (λ n. record { 0 = n }) (below_comes (λ n. record { 0 = n }) 4294967296) (λ n. refl) (λ n. refl) bytes x e
kind_takes limit Object bytes x e = number_kind_takes limit Object object_of (λ n. ltb n 4294967296) (λ n. record { 0 = n }) (below_comes (λ n. record { 0 = n }) 4294967296) (λ n. refl) (λ n. refl) bytes x e
kind_takes limit Reception bytes x e = number_kind_takes limit Reception reception_of (λ n. ltb n 4294967296) (λ n. record { 0 = n }) (below_comes (λ n. record { 0 = n }) 4294967296) (λ n. refl) (λ n. refl) bytes x e
kind_takes limit Point bytes x e = number_kind_takes limit Point point_of (λ n. ltb n 4294967296) (λ n. record { 0 = n }) (below_comes (λ n. record { 0 = n }) 4294967296) (λ n. refl) (λ n. refl) bytes x e
kind_takes limit Number bytes x e = number_kind_takes limit Number (below 4294967296) (λ n. ltb n 4294967296) (λ n. n) (number_comes 4294967296) (λ n. refl) (λ n. refl) bytes x e
kind_takes limit Port bytes x e = number_kind_takes limit Port (below 65536) (λ n. ltb n 65536) (λ n. n) (number_comes 65536) (λ n. refl) (λ n. refl) bytes x e
kind_takes limit Delay bytes x e = number_kind_takes limit Delay delay_of (λ n. leb n greatest_time) (λ n. n) delay_comes (λ n. refl) (λ n. refl) bytes x e
kind_takes limit Time bytes x e = number_kind_takes limit Time (below 9223372036854775808) (λ n. ltb n 9223372036854775808) (λ n. n) (number_comes 9223372036854775808) (λ n. refl) (λ n. refl) bytes x e
kind_takes limit Mode bytes x e = mode_takes limit bytes x e
kind_takes limit Destination bytes x e = destination_takes limit bytes x e
kind_takes limit Load bytes x e = load_takes limit bytes x e
kind_takes limit Timeout bytes x e = timeout_takes limit bytes x e
kind_takes limit TcpFunction bytes x e = record { fact = function_takes TCP_FUNCTIONS is_tcp_function refl bytes x e }
kind_takes limit UdpFunction bytes x e = record { fact = function_takes UDP_FUNCTIONS is_udp_function refl bytes x e }

-- ---- the second law, kind by kind

no_word_before : (letter : ℕ) (word front rest : List ℕ) → 57 < letter → list_all is_ascii_digit front ≡ true → ends rest ≡ true → after (letter ∷ word) (front ++ rest) ≡ None
unfolding after
no_word_before letter word [] [] high all e = refl
no_word_before letter word [] (b ∷ bs) high all e =
    let other : eqb b letter ≡ false = rw (eqb-true b 32 e) (ne_eqb 32 letter (λ same. omega (arith, same))) in
    rw other refl
no_word_before letter word (d ∷ digits) rest high all e =
    let digit = and_parts (is_ascii_digit d) (list_all is_ascii_digit digits) all in
    let other : eqb d letter ≡ false = ne_eqb d letter (λ same. omega (arith, leb-true d 57 (and_parts (leb 48 d) (leb d 57) digit.0).1)) in
    rw other refl

-- a number that passes is taken again
number_kind_again : {A : Type 0} (take : Option ℕ → Option A) (a : A) (n : ℕ) (rest : List ℕ) → n < 18446744073709551616 → take (Some n) ≡ Some a → ends rest ≡ true → number_as take (decimal n ++ rest) ≡ Some (Some a, rest)
number_kind_again take a n rest fits is e = number_as_again take n rest fits e ∙ ap (λ (o : Option _). Some (o, rest)) is

below_again : {A : Type 0} (make : ℕ → A) (limit n : ℕ) → ltb n limit ≡ true → option_map make (below limit (Some n)) ≡ Some (make n)
below_again make limit n low = rw low refl

mode_again : (all : Bool) (rest : List ℕ) → mode_at (mode_text all ++ rest) ≡ Some (Some all, rest)
unfolding mode_at word_as and_then after
mode_again true rest = refl
mode_again false rest = refl

ticks_again : (n : ℕ) (rest : List ℕ) → is_written_timeout (timeouts.Ms n) ≡ true → n < 18446744073709551616 → ends rest ≡ true → timeout_at (decimal n ++ rest) ≡ Some (Some (timeouts.Ms n), rest)
unfolding timeout_at word_as and_then
ticks_again n rest written fits e =
    let digits : list_all is_ascii_digit (decimal n) ≡ true = decimal_digits n fits in
    let again : number_as ticks_of (decimal n ++ rest) ≡ Some (Some (timeouts.Ms n), rest) = number_kind_again ticks_of (timeouts.Ms n) n rest fits (rw written refl) e in
    rw (
      no_word_before 112 (codes "ol") (decimal n) rest (omega arith) digits e,
      no_word_before 110 (codes "blk") (decimal n) rest (omega arith) digits e,
      no_word_before 102 (codes "evr") (decimal n) rest (omega arith) digits e,
      again,
    ) refl

timeout_again : (tmo : Tmo) (rest : List ℕ) → is_written_timeout tmo ≡ true → ends rest ≡ true → timeout_at (timeout_text tmo ++ rest) ≡ Some (Some tmo, rest)
unfolding timeout_at word_as and_then after
timeout_again timeouts.Pol rest written e = refl
timeout_again timeouts.Nblk rest written e = refl
timeout_again timeouts.Fevr rest written e = refl
timeout_again (timeouts.Ms n) rest written e = ticks_again n rest written (omega (arith, leb-true n greatest_time (and_parts (leb 1 n) (leb n greatest_time) written).1)) e

destination_again : (d : EndPt) (rest : List ℕ) → is_end_point d ≡ true → ends rest ≡ true → destination_at (end_point_text d ++ rest) ≡ Some (Some d, rest)
unfolding destination_at and_then after
destination_again d rest written e =
    let parts = and_parts (ltb d.addr 4294967296) (ltb d.port 65536) written in
    let grouped : end_point_text d ++ rest ≡ address_text d.addr ++ (codes ":" ++ (decimal d.port ++ rest)) = append_assoc (address_text d.addr) (codes ":" ++ decimal d.port) rest in
    rw (
      grouped,
      address_again d.addr (codes ":" ++ (decimal d.port ++ rest)) (omega (arith, ltb-true d.addr 4294967296 parts.0)) refl,
      number_again d.port rest (omega (arith, ltb-true d.port 65536 parts.1)) (ends_digits rest e),
      parts.1,
    ) refl

load_again : (limit : ℕ) (load rest : List ℕ) → is_data limit load ≡ true → ends rest ≡ true → load_at limit (data_text load ++ rest) ≡ Some (Some load, rest)
unfolding load_at and_then after
load_again limit load rest written e =
    rw (
      split_again is_no_space (encode_lower load) rest (hex_passes is_no_space refl refl load) (ends_word rest e),
      data_again limit load written,
    ) refl

-- a function that is found by its word, which has no space, is read again
function_again : (functions : List FnCode) (f : FnCode) (rest : List ℕ) → list_all is_no_space (function_text f) ≡ true → function_in functions (function_text f) ≡ Some f → ends rest ≡ true → function_at functions (function_text f ++ rest) ≡ Some (Some f, rest)
unfolding function_at and_then
function_again functions f rest whole there e = rw (split_again is_no_space (function_text f) rest whole (ends_word rest e), there) refl

no_spaces : (f : FnCode) → list_all is_no_space (function_text f) ≡ true
unfolding function_text
no_spaces functions.All = refl
no_spaces functions.AcpCep = refl
no_spaces functions.ConCep = refl
no_spaces functions.ClsCep = refl
no_spaces functions.SndDat = refl
no_spaces functions.RcvDat = refl
no_spaces functions.GetBuf = refl
no_spaces functions.RcvBuf = refl
no_spaces functions.UdpSnd = refl
no_spaces functions.UdpRcv = refl
no_spaces functions.UdpEvent = refl

tcp_there : (f : FnCode) → is_tcp_function f ≡ true → function_in TCP_FUNCTIONS (function_text f) ≡ Some f
unfolding function_text
tcp_there functions.All e = refl
tcp_there functions.AcpCep e = refl
tcp_there functions.ConCep e = refl
tcp_there functions.ClsCep e = refl
tcp_there functions.SndDat e = refl
tcp_there functions.RcvDat e = refl
tcp_there functions.GetBuf e = refl
tcp_there functions.RcvBuf e = refl
tcp_there functions.UdpSnd e = absurd (let none : false ≡ true = e in cc)
tcp_there functions.UdpRcv e = absurd (let none : false ≡ true = e in cc)
tcp_there functions.UdpEvent e = absurd (let none : false ≡ true = e in cc)

udp_there : (f : FnCode) → is_udp_function f ≡ true → function_in UDP_FUNCTIONS (function_text f) ≡ Some f
unfolding function_text
udp_there functions.All e = refl
udp_there functions.AcpCep e = absurd (let none : false ≡ true = e in cc)
udp_there functions.ConCep e = absurd (let none : false ≡ true = e in cc)
udp_there functions.ClsCep e = absurd (let none : false ≡ true = e in cc)
udp_there functions.SndDat e = absurd (let none : false ≡ true = e in cc)
udp_there functions.RcvDat e = absurd (let none : false ≡ true = e in cc)
udp_there functions.GetBuf e = absurd (let none : false ≡ true = e in cc)
udp_there functions.RcvBuf e = absurd (let none : false ≡ true = e in cc)
udp_there functions.UdpSnd e = refl
udp_there functions.UdpRcv e = refl
udp_there functions.UdpEvent e = absurd (let none : false ≡ true = e in cc)

-- what is in its range is read again where a space follows, or nothing
pub kind_again : (limit : ℕ) (k : Kind) (v : Value k) (rest : List ℕ) → is_in_range limit k v ≡ true → ends rest ≡ true → read limit k (text_of k v ++ rest) ≡ Some (Some v, rest)
kind_again limit Task v rest r e = number_kind_again task_of v v.0 rest (omega (arith, ltb-true v.0 4294967296 r)) (below_again (λ n. record { 0 = n }) 4294967296 v.0 r) e
kind_again limit Object v rest r e = number_kind_again object_of v v.0 rest (omega (arith, ltb-true v.0 4294967296 r)) (below_again (λ n. record { 0 = n }) 4294967296 v.0 r) e
kind_again limit Reception v rest r e = number_kind_again reception_of v v.0 rest (omega (arith, ltb-true v.0 4294967296 r)) (below_again (λ n. record { 0 = n }) 4294967296 v.0 r) e
kind_again limit Point v rest r e = number_kind_again point_of v v.0 rest (omega (arith, ltb-true v.0 4294967296 r)) (below_again (λ n. record { 0 = n }) 4294967296 v.0 r) e
kind_again limit Number v rest r e = number_kind_again (below 4294967296) v v rest (omega (arith, ltb-true v 4294967296 r)) (rw r refl) e
kind_again limit Port v rest r e = number_kind_again (below 65536) v v rest (omega (arith, ltb-true v 65536 r)) (rw r refl) e
kind_again limit Delay v rest r e = number_kind_again delay_of v v rest (omega (arith, leb-true v greatest_time r)) (rw r refl) e
kind_again limit Time v rest r e = number_kind_again (below 9223372036854775808) v v rest (omega (arith, ltb-true v 9223372036854775808 r)) (rw r refl) e
kind_again limit Mode v rest r e = mode_again v rest
kind_again limit Destination v rest r e = destination_again v rest r e
kind_again limit Load v rest r e = load_again limit v rest r e
kind_again limit Timeout v rest r e = timeout_again v rest r e
kind_again limit TcpFunction v rest r e = function_again TCP_FUNCTIONS v rest (no_spaces v) (tcp_there v r) e
kind_again limit UdpFunction v rest r e = function_again UDP_FUNCTIONS v rest (no_spaces v) (udp_there v r) e
