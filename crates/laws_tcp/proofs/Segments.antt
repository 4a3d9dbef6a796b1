-- The segments of an emission carry what was committed.
use Rattle.std.proofs.Common.{◌≡◌, ℕ, ◌+◌, Bool, true, false, ◌||◌, List, [], ◌∷◌, map, Option, Some, None, refl, sym, ap, ◌∙◌, ◌==◌, bit_and, if◌then◌else◌}
use Rattle.std.proofs.lemmas.Bool.{eqb-true}
use Rattle.std.proofs.lemmas.List.Elements.{All-nil, All-cons, All-append, All-map, All-weaker}
use Rattle.std.specs.List.{All}
use Rattle.spec_tcp.specs.declared.part.Part.{Part}
use Rattle.spec_tcp.specs.declared.state.State.{State}
use Rattle.spec_tcp.specs.declared.state.State.TheVariants.{SynSent, SynReceived, Established, FinWait1, FinWait2, CloseWait, Closing, LastAck, TimeWait, Closed, Broken}
use Rattle.spec_tcp.specs.Connection.{Connection, data_end}
use Rattle.spec_tcp.specs.Emission.{Outgoing, part_segment, syn_segment, ack_segment, abort_segment, drawn, sends_data, sent_parts, aborts, sent_in, or_ack, sent, emitted}
use Rattle.laws_tcp.specs.Laws.{CarriesCommitted, PartWasCommitted, carries}
use Rattle.laws_tcp.proofs.Sides.{IsKept}
use Rattle.laws_tcp.proofs.Acting.{sends_of}
use Rattle.laws_tcp.proofs.Parts.{goes_out}

-- a segment that carries nothing
abbrev Empty : Outgoing → Type 0
Empty o = carries o ≡ false

empty_committed : (c : Connection) (o : Outgoing) → Empty o → CarriesCommitted c.snd o
empty_committed c o none some = absurd (let e : false ≡ true = sym none ∙ some in cc)

one : (c : Connection) (o : Outgoing) → Empty o → All (CarriesCommitted c.snd) (o ∷ [])
one c o none = All-cons (CarriesCommitted c.snd) o [] (empty_committed c o none) (All-nil (CarriesCommitted c.snd))

one_if : (c : Connection) (g : Bool) (o : Outgoing) → Empty o → All (CarriesCommitted c.snd) (if g then o ∷ [] else [])
one_if c true o none = one c o none
one_if c false o none = All-nil (CarriesCommitted c.snd)

drawn_committed : (c : Connection) (reset : Option ℕ) → All (CarriesCommitted c.snd) (drawn reset)
drawn_committed c None = All-nil (CarriesCommitted c.snd)
drawn_committed c (Some seq) = one c _ refl

-- ---- data and FIN

fin_alone : (empty last : Bool) (n : ℕ) → (n == 0) ≡ empty → (bit_and (if empty then 17 else (if last then 24 else 16)) 1 == 1) ≡ true → n ≡ 0
fin_alone true last n e f = eqb-true n 0 e
fin_alone false true n e f = absurd cc
fin_alone false false n e f = absurd cc

part_committed : (c : Connection) (p : Part) → PartWasCommitted c.snd p → CarriesCommitted c.snd (part_segment c p)
part_committed c p h some = record { at = p.at; seq = refl; committed = h; alone = λ f. fin_alone (p.len == 0) ((p.at + p.len) == data_end c.snd) p.len refl f }

parts_if : (c : Connection) (g : Bool) → (g ≡ true → All (PartWasCommitted c.snd) (sent_parts c.snd c.facts.expired))
    → All (CarriesCommitted c.snd) (if g then map (part_segment c) (sent_parts c.snd c.facts.expired) else [])
parts_if c false h = All-nil (CarriesCommitted c.snd)
parts_if c true h = All-map (CarriesCommitted c.snd) (part_segment c) (sent_parts c.snd c.facts.expired) (All-weaker (PartWasCommitted c.snd) (λ p. CarriesCommitted c.snd (part_segment c p)) (part_committed c) (sent_parts c.snd c.facts.expired) (h refl))

pub parts_out : (c : Connection) → IsKept c → sends_data c.state ≡ true → All (PartWasCommitted c.snd) (sent_parts c.snd c.facts.expired)
parts_out c h sends = (goes_out c.snd c.facts.expired (sends_of c.state c.snd sends h.snd)).committed

-- ---- by state

sent_by : (a : State) (c : Connection) → a ≡ c.state → IsKept c → All (CarriesCommitted c.snd) (sent_in a c)
sent_by SynSent c is h = one_if c (c.facts.started || c.facts.expired) (syn_segment c false) refl
sent_by SynReceived c is h = one_if c (c.facts.started || c.facts.expired) (syn_segment c true) refl
sent_by Established c is h = parts_if c true (λ e. parts_out c h (ap sends_data (sym is)))
sent_by FinWait1 c is h = parts_if c true (λ e. parts_out c h (ap sends_data (sym is)))
sent_by CloseWait c is h = parts_if c true (λ e. parts_out c h (ap sends_data (sym is)))
sent_by Closing c is h = parts_if c true (λ e. parts_out c h (ap sends_data (sym is)))
sent_by LastAck c is h = parts_if c true (λ e. parts_out c h (ap sends_data (sym is)))
sent_by FinWait2 c is h = All-nil (CarriesCommitted c.snd)
sent_by TimeWait c is h = All-nil (CarriesCommitted c.snd)
sent_by Closed c is h = All-nil (CarriesCommitted c.snd)
sent_by Broken c is h = All-nil (CarriesCommitted c.snd)

aborts_by : (a : State) (c : Connection) → All (CarriesCommitted c.snd) (aborts a c)
aborts_by SynSent c = All-nil (CarriesCommitted c.snd)
aborts_by SynReceived c = one c (abort_segment c) refl
aborts_by Established c = one c (abort_segment c) refl
aborts_by FinWait1 c = one c (abort_segment c) refl
aborts_by FinWait2 c = one c (abort_segment c) refl
aborts_by CloseWait c = one c (abort_segment c) refl
aborts_by Closing c = one c (abort_segment c) refl
aborts_by LastAck c = one c (abort_segment c) refl
aborts_by TimeWait c = one c (abort_segment c) refl
aborts_by Closed c = one c (abort_segment c) refl
aborts_by Broken c = one c (abort_segment c) refl

ack_otherwise : (c : Connection) (os : List Outgoing) → All (CarriesCommitted c.snd) os → All (CarriesCommitted c.snd) (or_ack c os)
ack_otherwise c [] h = one_if c c.facts.owes (ack_segment c) refl
ack_otherwise c (o ∷ os) h = h

sent_if : (c : Connection) (aborted : Bool) (os qs : List Outgoing) → All (CarriesCommitted c.snd) os → All (CarriesCommitted c.snd) qs
    → All (CarriesCommitted c.snd) (if aborted then os else qs)
sent_if c true os qs h k = h
sent_if c false os qs h k = k

pub emission_committed : (c : Connection) → IsKept c → All (CarriesCommitted c.snd) (emitted c)
unfolding emitted
emission_committed c h =
    All-append (CarriesCommitted c.snd) (drawn c.facts.reset) (sent c) (drawn_committed c c.facts.reset)
    (sent_if c c.facts.aborted (aborts c.state c) (or_ack c (sent_in c.state c)) (aborts_by c.state c) (ack_otherwise c (sent_in c.state c) (sent_by c.state c refl h)))
