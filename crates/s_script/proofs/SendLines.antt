-- The calls that send, in which buf and peer can stand: they are read as they are spelled, and are read again from their text.
use Rattle.std.proofs.Common.{◌≡◌, ℕ, ◌<◌, ◌/◌, Bool, true, false, eqb, leb, ltb, List, [], ◌∷◌, ◌++◌, Option, Some, None, is_some, codes, refl, sym, ap, subst, ◌∙◌, inl, inr, arith}
use Rattle.std.specs.Char.{is_ascii_digit}
use Rattle.std.specs.Fmt.{decimal}
use Rattle.std.specs.List.{list_all}
use Rattle.std.proofs.lemmas.Bool.{and_parts, leb-true, ltb-true, eqb-true, ne_eqb}
use Rattle.std.proofs.lemmas.List.{append-nil}
use Rattle.it_types.specs.declared.id.CepId.{CepId}
use Rattle.it_types.specs.declared.id.EndPt.{EndPt}
use Rattle.it_types.specs.declared.timeout.Tmo.{Tmo}
use Rattle.it_types.specs.declared.request.Req.TheVariants.{TcpSndDat, TcpSndBuf, UdpSndDat}
use Rattle.it_types.specs.Address.{address_text, end_point_text}
use Rattle.it_types.specs.Cursor.{and_then, or_else, after}
use Rattle.it_types.specs.Kinds.{Kind, Value, Point, Destination, Load, Timeout, is_end_point, default}
use Rattle.it_types.specs.Kinds as Kinds
use Rattle.it_types.specs.Data.{is_data}
use Rattle.it_types.specs.Fields.{field_text}
use Rattle.it_types.specs.Requests.{word_text}
use Rattle.it_types.specs.Lines.{is_writable}
use Rattle.it_types.proofs.ReadSteps.{some_or_none, read_step, found_is, after_takes}
use Rattle.it_types.proofs.Numerals.{decimal_digits}
use Rattle.it_types.proofs.KindLaws.{ends, kind_takes, kind_again}
use Rattle.spec_script.specs.declared.decl.Line.TheVariants.{Call}
use Rattle.spec_script.specs.declared.script_line.ScriptLine.{ScriptLine}
use Rattle.spec_script.specs.declared.script_line.ScriptLine.TheVariants.{Body}
use Rattle.spec_script.specs.Lines.{data_field, destination_field, call_text}
use Rattle.spec_script.specs.Ranges.{data_limit, leaves_data, leaves_destination}
use Rattle.s_script.specs.LineKinds.{call_field, OwnField, stood_for, spelled_out, load_field, target_field, value_or, send_of, hand_over_of, datagram_of, send_line, hand_over_line, datagram_line, line_of}
use Rattle.s_script.proofs.LineFields.{either}
use Rattle.s_script.proofs.LineTakes.{Takes, at_end_takes}

-- ---- fields that are read

-- a field that is read in its range is spelled there
call_field_takes : (k : Kind) (bytes : List ℕ) (x : Option (Value k) × List ℕ) → call_field k bytes ≡ Some x → is_some x.0 ≡ true
    → (bytes ≡ field_text k (value_or k x.0) ++ x.1) × (Kinds.is_in_range data_limit k (value_or k x.0) ≡ true)
unfolding call_field field_text
call_field_takes k bytes x e there =
    read_step e λ rest p e1.
    elim (some_or_none x.0) [
      | inl v ↦
          let took = (kind_takes data_limit k rest x e1).fact v.0 v.1 in
          rw v.1 (after_takes (codes " ") bytes rest p ∙ ap (λ (t : List ℕ). 32 ∷ t) took.0, took.1)
      | inr none ↦ absurd (let f : false ≡ true = rw none at there in cc)
    ]

-- a field for which a word can stand: where it is read in its range, it is spelled there
record OwnTakes (k : Kind) (text : Bool → Value k → List ℕ) (leaves : Bool → Value k → Bool) (bytes : List ℕ) (x : OwnField k) : Type 0 where
  fact : is_some x.0.1 ≡ true → (bytes ≡ text x.0.0 (value_or k x.0.1) ++ x.1) × ((leaves x.0.0 (value_or k x.0.1) ≡ true) × (Kinds.is_in_range data_limit k (value_or k x.0.1) ≡ true))

stood_is : (k : Kind) (found : Option (List ℕ)) (x : OwnField k) → stood_for k found ≡ Some x → (rest : List ℕ) × ((found ≡ Some rest) × (((true, Some (default k)), rest) ≡ x))
stood_is k None x e = absurd cc
stood_is k (Some rest) x e = (rest, (refl, found_is ((true, Some (default k)), rest) x e))

spelled_is : (k : Kind) (found : Option (Option (Value k) × List ℕ)) (x : OwnField k) → spelled_out k found ≡ Some x
    → (y : Option (Value k) × List ℕ) × ((found ≡ Some y) × (((false, y.0), y.1) ≡ x))
spelled_is k None x e = absurd cc
spelled_is k (Some y) x e = (y, (refl, found_is ((false, y.0), y.1) x e))

own_takes : (k : Kind) (text : Bool → Value k → List ℕ) (leaves : Bool → Value k → Bool) (word : List ℕ)
    → text true (default k) ≡ word
    → ((v : Value k) → text false v ≡ field_text k v)
    → leaves true (default k) ≡ true
    → ((v : Value k) → leaves false v ≡ true)
    → Kinds.is_in_range data_limit k (default k) ≡ true
    → (bytes : List ℕ) (x : OwnField k) → or_else (stood_for k (after word bytes)) (spelled_out k (call_field k bytes)) ≡ Some x → OwnTakes k text leaves bytes x
own_takes k text leaves word stands spelled left free range bytes x e =
    either (stood_for k (after word bytes)) (spelled_out k (call_field k bytes)) x e
    (λ f.
    let s = stood_is k (after word bytes) x f in
    subst (λ (z : OwnField k). OwnTakes k text leaves bytes z) s.1.1 (record {
      fact = λ there. (after_takes word bytes s.0 s.1.0 ∙ ap (λ (t : List ℕ). t ++ s.0) (sym stands), (left, range));
    }))
    (λ f.
    let s = spelled_is k (call_field k bytes) x f in
    subst (λ (z : OwnField k). OwnTakes k text leaves bytes z) s.1.1 (record {
      fact = λ there.
          let c = call_field_takes k bytes s.0 s.1.0 there in
          (c.0 ∙ ap (λ (t : List ℕ). t ++ s.0.1) (sym (spelled (value_or k s.0.0))), (free (value_or k s.0.0), c.1));
    }))

load_takes : (bytes : List ℕ) (x : OwnField Load) → load_field bytes ≡ Some x → OwnTakes Load data_field leaves_data bytes x
unfolding load_field
load_takes bytes x e = own_takes Load data_field leaves_data (codes " buf") refl (λ v. refl) refl (λ v. refl) refl bytes x e

target_takes : (bytes : List ℕ) (x : OwnField Destination) → target_field bytes ≡ Some x → OwnTakes Destination destination_field leaves_destination bytes x
unfolding target_field
target_takes bytes x e = own_takes Destination destination_field leaves_destination (codes " peer") refl (λ v. refl) refl (λ v. refl) refl bytes x e

-- ---- lines that are read

-- tcp_snd_dat C DATA TMO
pub send_takes : (bytes : List ℕ) (l : ScriptLine) → send_line bytes ≡ Some l → Takes (codes "tcp_snd_dat" ++ bytes) l
unfolding send_line send_of word_text
send_takes bytes l e =
    read_step e λ cep p e1. read_step e1 λ load q e2. read_step e2 λ tmo r e3.
    at_end_takes (codes "tcp_snd_dat" ++ bytes) tmo.1 (send_of cep.0 load.0 tmo.0) l e3 (λ nil. record {
      fact = λ range.
          let first = and_parts (is_some cep.0) _ range in
          let others = and_parts (is_some load.0.1) (is_some tmo.0) first.1 in
          let c = call_field_takes Point bytes cep p first.0 in
          let d = (load_takes cep.1 load q).fact others.0 in
          let t = call_field_takes Timeout load.1 tmo r others.1 in (
            rw (c.0, d.0, t.0, nil, append-nil (field_text Timeout (value_or Timeout tmo.0))) refl,
            rw (d.1.0, c.1, d.1.1, t.1) refl,
          );
    })

-- tcp_snd_buf C DATA
pub hand_over_takes : (bytes : List ℕ) (l : ScriptLine) → hand_over_line bytes ≡ Some l → Takes (codes "tcp_snd_buf" ++ bytes) l
unfolding hand_over_line hand_over_of word_text
hand_over_takes bytes l e =
    read_step e λ cep p e1. read_step e1 λ load q e2.
    at_end_takes (codes "tcp_snd_buf" ++ bytes) load.1 (hand_over_of cep.0 load.0) l e2 (λ nil. record {
      fact = λ range.
          let both = and_parts (is_some cep.0) (is_some load.0.1) range in
          let c = call_field_takes Point bytes cep p both.0 in
          let d = (load_takes cep.1 load q).fact both.1 in (
            rw (c.0, d.0, nil, append-nil (data_field load.0.0 (value_or Load load.0.1))) refl,
            rw (d.1.0, c.1, d.1.1) refl,
          );
    })

-- udp_snd_dat C DEST DATA TMO
pub datagram_takes : (bytes : List ℕ) (l : ScriptLine) → datagram_line bytes ≡ Some l → Takes (codes "udp_snd_dat" ++ bytes) l
unfolding datagram_line datagram_of word_text
datagram_takes bytes l e =
    read_step e λ cep p e1. read_step e1 λ dest q e2. read_step e2 λ load r e3. read_step e3 λ tmo s e4.
    at_end_takes (codes "udp_snd_dat" ++ bytes) tmo.1 (datagram_of cep.0 dest.0 load.0 tmo.0) l e4 (λ nil. record {
      fact = λ range.
          let first = and_parts (is_some cep.0) _ range in
          let second = and_parts (is_some dest.0.1) _ first.1 in
          let others = and_parts (is_some load.0.1) (is_some tmo.0) second.1 in
          let c = call_field_takes Point bytes cep p first.0 in
          let g = (target_takes cep.1 dest q).fact second.0 in
          let d = (load_takes dest.1 load r).fact others.0 in
          let t = call_field_takes Timeout load.1 tmo s others.1 in (
            rw (c.0, g.0, d.0, t.0, nil, append-nil (field_text Timeout (value_or Timeout tmo.0))) refl,
            rw (d.1.0, g.1.0, c.1, g.1.1, d.1.1, t.1) refl,
          );
    })

-- ---- fields that are read again

-- a field in its range
call_field_again : (k : Kind) (v : Value k) (rest : List ℕ) → Kinds.is_in_range data_limit k v ≡ true → ends rest ≡ true → call_field k (field_text k v ++ rest) ≡ Some (Some v, rest)
unfolding call_field field_text and_then after
call_field_again k v rest range e = kind_again data_limit k v rest range e

-- the last one
call_field_last : (k : Kind) (v : Value k) → Kinds.is_in_range data_limit k v ≡ true → call_field k (field_text k v) ≡ Some (Some v, [])
call_field_last k v range = ap (call_field k) (sym (append-nil (field_text k v))) ∙ call_field_again k v [] range refl

-- a number begins with no letter
is_low_first : List ℕ → Bool
is_low_first [] = false
is_low_first (b ∷ bs) = leb b 57

low_append : (front rest : List ℕ) → is_low_first front ≡ true → is_low_first (front ++ rest) ≡ true
unfolding is_low_first
low_append [] rest low = absurd (let f : false ≡ true = low in cc)
low_append (b ∷ bs) rest low = low

low_digits : (digits rest : List ℕ) → list_all is_ascii_digit digits ≡ true → is_low_first rest ≡ true → is_low_first (digits ++ rest) ≡ true
unfolding is_low_first
low_digits [] rest all low = low
low_digits (d ∷ digits) rest all low = (and_parts (leb 48 d) (leb d 57) (and_parts (is_ascii_digit d) (list_all is_ascii_digit digits) all).0).1

no_word : (letter : ℕ) (word bytes : List ℕ) → 57 < letter → is_low_first bytes ≡ true → after (letter ∷ word) bytes ≡ None
unfolding is_low_first after
no_word letter word [] high low = refl
no_word letter word (b ∷ bs) high low = let other : eqb b letter ≡ false = ne_eqb b letter (λ same. omega (arith, leb-true b 57 low, same)) in rw other refl

-- so does an end point
end_point_low : (d : EndPt) (rest : List ℕ) → is_end_point d ≡ true → is_low_first (end_point_text d ++ rest) ≡ true
unfolding is_low_first
end_point_low d rest range =
    let small = ltb-true d.addr 4294967296 (and_parts (ltb d.addr 4294967296) (ltb d.port 65536) range).0 in
    low_append (end_point_text d) rest (low_append (address_text d.addr) (codes ":" ++ decimal d.port)
    (low_digits (decimal (d.addr / 16777216)) _ (decimal_digits (d.addr / 16777216) (omega (arith, small))) refl))

-- the end point that the peer leaves
no_end_point : (addr port : ℕ) → addr ≡ 0 → port ≡ 0 → record { addr = addr; port = port } ≡ default Destination
no_end_point addr port a p = rw (a, p) refl

left_destination : (d : EndPt) → leaves_destination true d ≡ true → d ≡ default Destination
left_destination d left =
    let parts = and_parts (eqb d.addr 0) (eqb d.port 0) left in
    no_end_point d.addr d.port (eqb-true d.addr 0 parts.0) (eqb-true d.port 0 parts.1)

target_again : (peer : Bool) (d : EndPt) (rest : List ℕ) → leaves_destination peer d ≡ true → is_end_point d ≡ true → ends rest ≡ true
    → target_field (destination_field peer d ++ rest) ≡ Some ((peer, Some d), rest)
unfolding target_field after field_text
target_again true d rest left range e = rw (left_destination d left) refl
target_again false d rest left range e = rw (no_word 112 (codes "eer") (end_point_text d ++ rest) (omega arith) (end_point_low d rest range), call_field_again Destination d rest range e) refl

load_again : (buf : Bool) (load rest : List ℕ) → leaves_data buf load ≡ true → is_data data_limit load ≡ true → ends rest ≡ true → load_field (data_field buf load ++ rest) ≡ Some ((buf, Some load), rest)
unfolding load_field after field_text
load_again true [] rest left range e = refl
load_again true (b ∷ bs) rest left range e = absurd (let f : false ≡ true = left in cc)
load_again false load rest left range e = rw (call_field_again Load load rest range e) refl

-- the last one
load_last : (buf : Bool) (load : List ℕ) → leaves_data buf load ≡ true → is_data data_limit load ≡ true → load_field (data_field buf load) ≡ Some ((buf, Some load), [])
load_last buf load left range = ap load_field (sym (append-nil (data_field buf load))) ∙ load_again buf load [] left range refl

-- after a field a space is next
data_ends : (buf : Bool) (load rest : List ℕ) → ends (data_field buf load ++ rest) ≡ true
unfolding field_text
data_ends true load rest = refl
data_ends false load rest = refl

destination_ends : (peer : Bool) (d : EndPt) (rest : List ℕ) → ends (destination_field peer d ++ rest) ≡ true
unfolding field_text
destination_ends true d rest = refl
destination_ends false d rest = refl

-- ---- lines that are read again

-- tcp_snd_dat C DATA TMO
pub send_again : (cep : CepId) (load : List ℕ) (tmo : Tmo) (buf : Bool) → leaves_data buf load ≡ true → is_writable data_limit (TcpSndDat cep load tmo) ≡ true
    → line_of (call_text (TcpSndDat cep load tmo) buf false) ≡ Some (Body (Call (TcpSndDat cep load tmo) buf false) true)
unfolding line_of send_line send_of and_then word_text field_text
send_again cep load tmo buf left range =
    let c = and_parts (Kinds.is_in_range data_limit Point cep) _ range in
    let d = and_parts (Kinds.is_in_range data_limit Load load) _ c.1 in
    let t = and_parts (Kinds.is_in_range data_limit Timeout tmo) true d.1 in
    rw (
      call_field_again Point cep (data_field buf load ++ field_text Timeout tmo) c.0 (data_ends buf load (field_text Timeout tmo)),
      load_again buf load (field_text Timeout tmo) left d.0 refl,
      call_field_last Timeout tmo t.0,
    ) refl

-- tcp_snd_buf C DATA
pub hand_over_again : (cep : CepId) (load : List ℕ) (buf : Bool) → leaves_data buf load ≡ true → is_writable data_limit (TcpSndBuf cep load) ≡ true
    → line_of (call_text (TcpSndBuf cep load) buf false) ≡ Some (Body (Call (TcpSndBuf cep load) buf false) true)
unfolding line_of hand_over_line hand_over_of and_then word_text field_text
hand_over_again cep load buf left range =
    let c = and_parts (Kinds.is_in_range data_limit Point cep) _ range in
    let d = and_parts (Kinds.is_in_range data_limit Load load) true c.1 in
    let space : ends (data_field buf load) ≡ true = ap ends (sym (append-nil (data_field buf load))) ∙ data_ends buf load [] in
    rw (call_field_again Point cep (data_field buf load) c.0 space, load_last buf load left d.0) refl

-- udp_snd_dat C DEST DATA TMO
pub datagram_again : (cep : CepId) (dest : EndPt) (load : List ℕ) (tmo : Tmo) (buf peer : Bool) → leaves_data buf load ≡ true → leaves_destination peer dest ≡ true
    → is_writable data_limit (UdpSndDat cep dest load tmo) ≡ true
    → line_of (call_text (UdpSndDat cep dest load tmo) buf peer) ≡ Some (Body (Call (UdpSndDat cep dest load tmo) buf peer) true)
unfolding line_of datagram_line datagram_of and_then word_text field_text
datagram_again cep dest load tmo buf peer left free range =
    let c = and_parts (Kinds.is_in_range data_limit Point cep) _ range in
    let g = and_parts (Kinds.is_in_range data_limit Destination dest) _ c.1 in
    let d = and_parts (Kinds.is_in_range data_limit Load load) _ g.1 in
    let t = and_parts (Kinds.is_in_range data_limit Timeout tmo) true d.1 in
    rw (
      call_field_again Point cep (destination_field peer dest ++ (data_field buf load ++ field_text Timeout tmo)) c.0 (destination_ends peer dest (data_field buf load ++ field_text Timeout tmo)),
      target_again peer dest (data_field buf load ++ field_text Timeout tmo) free g.0 (data_ends buf load (field_text Timeout tmo)),
      load_again buf load (field_text Timeout tmo) left d.0 refl,
      call_field_last Timeout tmo t.0,
    ) refl
