-- The port that an end point gets which asks for any is the least dynamic port that no end point has.
use Rattle.std.proofs.Common.{◌≡◌, ℕ, zero, suc, ◌+◌, ◌<◌, ◌≤◌, Bool, true, false, cond, leb, List, [], ◌∷◌, length, Option, Some, None, refl, sym, ap, ◌∙◌, inl, inr, arith}
use Rattle.std.proofs.lemmas.Bool.{cases_Bool, cases_eq, cases_lt, eq-eqb, ne_eqb, le-leb, lt-leb}
use Rattle.spec_udp.specs.Ports.{first_dynamic_port, is_taken, first_free, free_port}
use Rattle.spec_udp.specs.declared.point.UdpPoint.{UdpPoint}
use Rattle.spec_udp.specs.Points.{has_port}

-- the end point has a port from this one on
has_port_from : ℕ → Option UdpPoint → Bool
has_port_from port None = false
has_port_from port (Some p) = leb port p.port

-- how many end points have
ports_from : ℕ → List (Option UdpPoint) → ℕ
ports_from port [] = 0
ports_from port (o ∷ os) = cond (has_port_from port o) 1 0 + ports_from port os

from_next : (port : ℕ) (o : Option UdpPoint) → cond (has_port_from (port + 1) o) 1 0 + cond (has_port port o) 1 0 ≤ cond (has_port_from port o) 1 0
unfolding has_port_from
from_next port None = omega arith
from_next port (Some p) = elim (cases_eq p.port port) [
  | inl same ↦ rw (eq-eqb p.port port same, lt-leb (port + 1) p.port (omega (arith, same)), le-leb port p.port (omega (arith, same))) (omega arith)
  | inr other ↦ elim (cases_lt p.port port) [
    | inl lt ↦ rw (ne_eqb p.port port other, lt-leb (port + 1) p.port (omega (arith, lt)), lt-leb port p.port (omega (arith, lt))) (omega arith)
    | inr le ↦ rw (ne_eqb p.port port other, le-leb (port + 1) p.port (omega (arith, le, other)), le-leb port p.port (omega (arith, le))) (omega arith)
  ]
]

from_more : (port : ℕ) (points : List (Option UdpPoint)) → ports_from (port + 1) points ≤ ports_from port points
unfolding ports_from
from_more port [] = omega arith
from_more port (o ∷ os) = omega (arith, from_next port o, from_more port os)

-- where a port is taken, one end point more has a port from it on than from the next on
from_taken : (port : ℕ) (points : List (Option UdpPoint)) → is_taken points port ≡ true → ports_from (port + 1) points + 1 ≤ ports_from port points
unfolding ports_from
from_taken port [] e = cc
from_taken port (o ∷ os) e = elim (cases_Bool (has_port port o)) [
  | inl t ↦ (let one : ◌≡◌ {A = ℕ} (cond (has_port port o) 1 0) 1 = rw t refl in omega (arith, one, from_next port o, from_more port os))
  | inr t ↦ omega (arith, from_next port o, from_taken port os (rw t at e))
]

from_le : (port : ℕ) (points : List (Option UdpPoint)) → ports_from port points ≤ length points
unfolding ports_from
from_le port [] = omega arith
from_le port (o ∷ os) = elim (cases_Bool (has_port_from port o)) [
  | inl t ↦ rw t (omega (arith, from_le port os))
  | inr t ↦ rw t (omega (arith, from_le port os))
]

-- the search goes on past a taken port, and stays at a free one
pub goes_on : (n first : ℕ) (taken : ℕ → Bool) → taken first ≡ true → first_free (suc n) first taken ≡ first_free n (first + 1) taken
unfolding first_free
goes_on n first taken t = rw (t, first_free) refl

pub stays : (n first : ℕ) (taken : ℕ → Bool) → taken first ≡ false → first_free (suc n) first taken ≡ first
unfolding first_free
stays n first taken t = rw (t, first_free) refl

pub none_tried : (first : ℕ) (taken : ℕ → Bool) → first_free 0 first taken ≡ first
unfolding first_free
none_tried first taken = refl

-- were the port behind so many taken ones taken too, so many end points and one more would have them
all_taken : (n port : ℕ) (points : List (Option UdpPoint)) → is_taken points (first_free n port (is_taken points)) ≡ true → n + 1 ≤ ports_from port points
all_taken zero port points e = omega (arith, from_taken port points (sym (ap (is_taken points) (none_tried port (is_taken points))) ∙ e))
all_taken (suc n) port points e = elim (cases_Bool (is_taken points port)) [
  | inl t ↦ omega (arith, from_taken port points t, all_taken n (port + 1) points (sym (ap (is_taken points) (goes_on n port (is_taken points) t)) ∙ e))
  | inr t ↦ absurd (let f : true ≡ false = sym (sym (ap (is_taken points) (stays n port (is_taken points) t)) ∙ e) ∙ t in cc)
]

-- no end point has it
pub free_port_free : (points : List (Option UdpPoint)) → is_taken points (free_port points) ≡ false
free_port_free points = elim (cases_Bool (is_taken points (free_port points))) [
  | inl t ↦ absurd (omega (arith, all_taken (length points) first_dynamic_port points t, from_le first_dynamic_port points))
  | inr t ↦ t
]

lower_taken : (n first port : ℕ) (points : List (Option UdpPoint)) → first ≤ port → port < first_free n first (is_taken points) → is_taken points port ≡ true
lower_taken zero first port points le lt = absurd (omega (arith, le, lt, none_tried first (is_taken points)))
lower_taken (suc n) first port points le lt = elim (cases_Bool (is_taken points first)) [
  | inl t ↦ elim (cases_eq first port) [
    | inl same ↦ rw (← same) t
    | inr other ↦ lower_taken n (first + 1) port points (omega (arith, le, other)) (omega (arith, lt, goes_on n first (is_taken points) t))
  ]
  | inr t ↦ absurd (omega (arith, lt, le, stays n first (is_taken points) t))
]

-- each lower dynamic port is taken
pub free_port_least : (points : List (Option UdpPoint)) (port : ℕ) → first_dynamic_port ≤ port → port < free_port points → is_taken points port ≡ true
free_port_least points port le lt = lower_taken (length points) first_dynamic_port port points le lt
