-- The places of packets in a history, as it gets an entry more.
use Rattle.std.proofs.Common.{◌≡◌, ℕ, zero, suc, ◌+◌, ◌<◌, List, [], ◌∷◌, ◌++◌, length, map, drop, get_or, Option, Some, refl, ap, sym, ◌∙◌, append_assoc, add-one, drop-cons, arith}
use Rattle.std.specs.Prelude.{All, slice_get, slice_index_or}
use Rattle.std.proofs.lemmas.List.{length-append, map-append}
use Rattle.std.proofs.lemmas.List.Elements.{All-nil, All-cons, All-head, All-tail, All-append, All-weaker}
use Rattle.it_types.specs.declared.id.NodeId.{NodeId}
use Rattle.it_types.specs.declared.entry.Entry.{Entry}
use Rattle.spec_world.specs.PlainWorld.{packet_from}
use Rattle.w_world.specs.declared.sent.Sent.{Sent}
use Rattle.w_world.specs.Sending.{packs_in, bytes_in, packet_in, packets_in, IsWithin, places_from}

-- one packet more of an entry
pub place_more : (by : NodeId) (entry pack : ℕ) (packs : List (List ℕ)) (sent all : List Sent)
    → pack < length packs
    → sent ++ places_from by entry pack (drop pack packs) ≡ all
    → (sent ++ record { by = by; entry = entry; pack = pack } ∷ []) ++ places_from by entry (pack + 1) (drop (pack + 1) packs) ≡ all
place_more by entry pack packs sent all lt e =
    let one : Sent = record { by = by; entry = entry; pack = pack } in
    let later : List Sent = places_from by entry (pack + 1) (drop (pack + 1) packs) in
    append_assoc sent (one ∷ []) later ∙ sym (ap (λ ps. sent ++ places_from by entry pack ps) next) ∙ e
  where
    next : drop pack packs ≡ get_or packs pack [] ∷ drop (pack + 1) packs
    next = drop-cons packs pack [] lt ∙ ap (λ n. get_or packs pack [] ∷ drop n packs) (sym (add-one pack))

-- ---- what stands at the places

get_before : (log : List Entry) (e : Entry) (i : ℕ) → i < length log → slice_get (log ++ e ∷ []) i ≡ slice_get log i
get_before [] e i lt = absurd (omega arith)
get_before (x ∷ xs) e zero lt = refl
get_before (x ∷ xs) e (suc i) lt = get_before xs e i (omega arith)

get_last : (log : List Entry) (e : Entry) → slice_get (log ++ e ∷ []) (length log) ≡ Some e
get_last [] e = refl
get_last (x ∷ xs) e = get_last xs e

-- the packets that were sent before stand where they stood
packets_same : (log : List Entry) (e : Entry) (sent : List Sent) → All (IsWithin log) sent → packets_in (log ++ e ∷ []) sent ≡ packets_in log sent
packets_same log e [] within = refl
packets_same log e (s ∷ ss) within =
    let here : packet_in (log ++ e ∷ []) s ≡ packet_in log s = ap (λ (o : Option Entry). packet_from s.by (slice_index_or (packs_in o) s.pack [])) (get_before log e s.entry (All-head (IsWithin log) s ss within)) in
    let rest = packets_same log e ss (All-tail (IsWithin log) s ss within) in
    cc

get_middle : (front : List (List ℕ)) (p : List ℕ) (ps : List (List ℕ)) → get_or (front ++ p ∷ ps) (length front) [] ≡ p
get_middle [] p ps = refl
get_middle (x ∷ xs) p ps = get_middle xs p ps

-- those of the new entry stand there
packets_new : (log : List Entry) (e : Entry) (by : NodeId) (front rest : List (List ℕ)) (pack : ℕ)
    → e.packs ≡ front ++ rest
    → pack ≡ length front
    → packets_in (log ++ e ∷ []) (places_from by (length log) pack rest) ≡ map (packet_from by) rest
packets_new log e by front [] pack is at = refl
packets_new log e by front (p ∷ ps) pack is at =
    let found : bytes_in (log ++ e ∷ []) (record { by = by; entry = length log; pack = pack }) ≡ p =
    ap (λ (o : Option Entry). slice_index_or (packs_in o) pack []) (get_last log e) ∙ ap (λ (xs : List (List ℕ)). get_or xs pack []) is ∙ ap (λ n. get_or (front ++ p ∷ ps) n []) at ∙ get_middle front p ps in
    let here : packet_in (log ++ e ∷ []) (record { by = by; entry = length log; pack = pack }) ≡ packet_from by p = ap (packet_from by) found in
    let rest = packets_new log e by (front ++ p ∷ []) ps (pack + 1) (is ∙ sym (append_assoc front (p ∷ []) ps)) (omega (arith, length-append front (p ∷ []))) in
    cc

pub packets_more : (log : List Entry) (e : Entry) (sent : List Sent) (by : NodeId)
    → All (IsWithin log) sent
    → packets_in (log ++ e ∷ []) (sent ++ places_from by (length log) 0 e.packs) ≡ packets_in log sent ++ map (packet_from by) e.packs
packets_more log e sent by within =
    let old = packets_same log e sent within in
    let new = packets_new log e by [] e.packs 0 refl refl in
    map-append (packet_in (log ++ e ∷ [])) sent (places_from by (length log) 0 e.packs) ∙ cc

-- ---- all places are within the history

new_within : (log : List Entry) (by : NodeId) (entry pack : ℕ) (packs : List (List ℕ)) → entry < length log → All (IsWithin log) (places_from by entry pack packs)
new_within log by entry pack [] lt = All-nil (IsWithin log)
new_within log by entry pack (p ∷ ps) lt = All-cons (IsWithin log) _ (places_from by entry (pack + 1) ps) lt (new_within log by entry (pack + 1) ps lt)

pub places_within : (log : List Entry) (e : Entry) (sent : List Sent) (by : NodeId) (packs : List (List ℕ))
    → All (IsWithin log) sent
    → All (IsWithin (log ++ e ∷ [])) (sent ++ places_from by (length log) 0 packs)
places_within log e sent by packs within =
    All-append (IsWithin (log ++ e ∷ [])) sent (places_from by (length log) 0 packs)
    (All-weaker (IsWithin log) (IsWithin (log ++ e ∷ [])) (λ s lt. omega (arith, lt, length-append log (e ∷ []))) sent within)
    (new_within (log ++ e ∷ []) by (length log) 0 packs (omega (arith, length-append log (e ∷ []))))
