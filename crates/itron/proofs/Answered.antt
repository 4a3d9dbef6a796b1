-- How an input that the source tells is answered.
use Rattle.std.proofs.Common.{◌≡◌, ◌≢◌, ℕ, ◌<◌, ◌≤◌, ◌+◌, List, ◌++◌, length, take, Option, None, Some, Bool, true, false, Result, Ok, Err, subst, sym, ap, ◌∙◌, append-nil, length-append, arith, refl, inl, inr}
use mathlib.Core.Logic.{◌⊎◌}
use Rattle.std.specs.Io.KnownBytes.{Appends}
use Rattle.it_io.specs.declared.writing.WriteErr.{WriteErr}
use Rattle.it_io.specs.declared.writing.WriteErr.TheVariants.{Fault}
use Rattle.it_io.specs.Input.{ReadToEnd, TookPast}
use Rattle.s_script.specs.declared.read_bad.Why.{Why}
use Rattle.spec_script.specs.declared.script.Script.{Script}
use Rattle.spec_script.specs.Text.{IsReadAs}
use Rattle.s_script.specs.Reading.{read_text}
use Rattle.s_script.proofs.ReadBack.{read_back}
use Rattle.s_script.proofs.Led.{read_as as is_read}
use Rattle.spec_world.specs.History.{ends_with_stop}
use Rattle.spec_sim.specs.Serial.{serial}
use Rattle.itron.specs.declared.status.Status.{Status}
use Rattle.itron.specs.declared.status.Status.TheVariants as statuses
use Rattle.itron.specs.Top.{input_limit, IsAnswer, IsRefusal, ReadScript, RanToStop, RanToLimit, ReadWrong, WrotePart}

-- where the sink failed, the first bytes were written
pub part_of : (e : WriteErr) (before after : Option (List ℕ)) (bytes : List ℕ) → ((n : ℕ) → e ≡ Fault n → n < length bytes) → ((n : ℕ) → e ≡ Fault n → Appends before after (take n bytes)) → WrotePart before after bytes
part_of (Fault n) before after bytes part first = record { count = n; part = part n refl; wrote = first n refl }

-- what was read to the end is all that was left
pub whole : (a b : Option (List ℕ)) (bytes read : List ℕ) → a ≡ Some bytes → ReadToEnd a b read → read ≡ bytes
whole None b bytes read e r = absurd (let f : None ≡ Some bytes = e in cc)
whole (Some xs) None bytes read e r = absurd r.taken
whole (Some xs) (Some ys) bytes read e r =
    let same : xs ≡ bytes = cc in
    sym (sym same ∙ (r.taken ∙ (ap (λ l. read ++ l) r.at_end ∙ append-nil read)))

-- no more can be taken than is left
pub not_past : (a b : Option (List ℕ)) (bytes : List ℕ) (n : ℕ) → a ≡ Some bytes → length bytes ≤ n → TookPast a b n → ⊥
not_past None b bytes n e le r = absurd (let f : None ≡ Some bytes = e in cc)
not_past (Some xs) None bytes n e le r = absurd r.taken
not_past (Some xs) (Some ys) bytes n e le r =
    let same : xs ≡ bytes = cc in
    let long : length bytes ≡ length r.bytes + length ys = ap length (sym same ∙ r.taken) ∙ length-append r.bytes ys in
    omega (arith, long, r.count, le)

-- ---- a script

-- a text is read as one script
abbrev read_as : Script → Result Script (ℕ × Why)
read_as s = Ok s

one_script : (text : List ℕ) (s t : Script) → IsReadAs text s → IsReadAs text t → s ≡ t
one_script text s t first second = let same : read_as s ≡ read_as t = sym (read_back text s first) ∙ read_back text t second in cc

-- the script of an input that was read is the one that its bytes are read as
same_script : (left rest : Option (List ℕ)) (bytes : List ℕ) (s : Script) (input : ReadScript left rest) → left ≡ Some bytes → IsReadAs bytes s → input.script ≡ s
same_script left rest bytes s input known is =
    one_script bytes input.script s (subst (λ (t : List ℕ). IsReadAs t input.script) (whole left rest bytes input.bytes known input.whole) input.read) is

-- a script within the limit is run, where nothing fails: up to the stop, or until its history is full
run_or_memory : (r : Status) (left rest : Option (List ℕ)) (bytes : List ℕ) (s : Script) (F W : Type 0) → left ≡ Some bytes → length bytes ≤ input_limit → IsReadAs bytes s → (F → ⊥) → (W → ⊥)
    → (r ≢ statuses.Usage) → ((l : ℕ) (w : Why) → r ≡ statuses.Script l w → ReadWrong l w left rest) → (r ≡ statuses.ReadFault → F) → (r ≡ statuses.WriteFault → W)
    → (r ≡ statuses.TooBig → TookPast left rest input_limit) → (r ≡ statuses.Ok) ⊎ ((r ≡ statuses.TooLong) ⊎ (r ≡ statuses.NoMemory))
run_or_memory statuses.Ok left rest bytes s F W known le is no_f no_w usage script fault write big = inl refl
run_or_memory statuses.TooLong left rest bytes s F W known le is no_f no_w usage script fault write big = inr (inl refl)
run_or_memory statuses.NoMemory left rest bytes s F W known le is no_f no_w usage script fault write big = inr (inr refl)
run_or_memory statuses.Usage left rest bytes s F W known le is no_f no_w usage script fault write big = absurd (usage refl)
run_or_memory statuses.ReadFault left rest bytes s F W known le is no_f no_w usage script fault write big = absurd (no_f (fault refl))
run_or_memory statuses.WriteFault left rest bytes s F W known le is no_f no_w usage script fault write big = absurd (no_w (write refl))
run_or_memory statuses.TooBig left rest bytes s F W known le is no_f no_w usage script fault write big = absurd (not_past left rest bytes input_limit known le (big refl))
run_or_memory (statuses.Script l w) left rest bytes s F W known le is no_f no_w usage script fault write big =
    let none = script l w refl in
    absurd (none.none s (subst (λ (t : List ℕ). IsReadAs t s) (sym (whole left rest bytes none.bytes known none.whole)) is))

abbrev stops : Script → Bool
stops s = ends_with_stop (serial s)

without_limit : (r : Status) → (r ≡ statuses.TooLong → ⊥) → (r ≡ statuses.Ok) ⊎ ((r ≡ statuses.TooLong) ⊎ (r ≡ statuses.NoMemory)) → (r ≡ statuses.Ok) ⊎ (r ≡ statuses.NoMemory)
without_limit r none (inl e) = inl e
without_limit r none (inr (inl e)) = absurd (none e)
without_limit r none (inr (inr e)) = inr e

without_stop : (r : Status) → (r ≡ statuses.Ok → ⊥) → (r ≡ statuses.Ok) ⊎ ((r ≡ statuses.TooLong) ⊎ (r ≡ statuses.NoMemory)) → (r ≡ statuses.TooLong) ⊎ (r ≡ statuses.NoMemory)
without_stop r none (inl e) = absurd (none e)
without_stop r none (inr e) = e

-- one whose history ends with the stop is not told to be too long
pub complete : (r : Status) (left rest before after : Option (List ℕ)) (bytes : List ℕ) (s : Script) (F W : Type 0) → left ≡ Some bytes → length bytes ≤ input_limit → IsReadAs bytes s → (F → ⊥) → (W → ⊥)
    → (r ≢ statuses.Usage) → ((l : ℕ) (w : Why) → r ≡ statuses.Script l w → ReadWrong l w left rest) → (r ≡ statuses.ReadFault → F) → (r ≡ statuses.WriteFault → W)
    → (r ≡ statuses.TooBig → TookPast left rest input_limit) → (r ≡ statuses.TooLong → RanToLimit left rest before after) → stops s ≡ true → (r ≡ statuses.Ok) ⊎ (r ≡ statuses.NoMemory)
complete r left rest before after bytes s F W known le is no_f no_w usage script fault write big long stop =
    without_limit r
    (λ e. let ran = long e in let same : stops s ≡ false = sym (ap stops (same_script left rest bytes s ran.ran.input known is)) ∙ ran.goes_on in let wrong : true ≡ false = sym stop ∙ same in cc)
    (run_or_memory r left rest bytes s F W known le is no_f no_w usage script fault write big)

-- and one whose history doesn't end with it is told so
pub complete_to_limit : (r : Status) (left rest before after : Option (List ℕ)) (bytes : List ℕ) (s : Script) (F W : Type 0) → left ≡ Some bytes → length bytes ≤ input_limit → IsReadAs bytes s → (F → ⊥) → (W → ⊥)
    → (r ≢ statuses.Usage) → ((l : ℕ) (w : Why) → r ≡ statuses.Script l w → ReadWrong l w left rest) → (r ≡ statuses.ReadFault → F) → (r ≡ statuses.WriteFault → W)
    → (r ≡ statuses.TooBig → TookPast left rest input_limit) → (r ≡ statuses.Ok → RanToStop left rest before after) → stops s ≡ false → (r ≡ statuses.TooLong) ⊎ (r ≡ statuses.NoMemory)
complete_to_limit r left rest before after bytes s F W known le is no_f no_w usage script fault write big whole_run goes_on =
    without_stop r
    (λ e. let ran = whole_run e in let same : stops s ≡ true = sym (ap stops (same_script left rest bytes s ran.ran.input known is)) ∙ ran.stops in let wrong : true ≡ false = sym same ∙ goes_on in cc)
    (run_or_memory r left rest bytes s F W known le is no_f no_w usage script fault write big)

-- ---- what is no script

-- how it is answered
pub refusal_is : (r status : Status) → IsRefusal r → r ≡ status → IsRefusal status
refusal_is r status refusal e = subst IsRefusal e refusal

pub answer_is : (r status : Status) → IsAnswer r → r ≡ status → IsAnswer status
answer_is r status answer e = subst IsAnswer e answer

pub refusal_answers : (r : Status) → IsRefusal r → IsAnswer r
refusal_answers (statuses.Script line why) refusal = tt
refusal_answers statuses.NoMemory refusal = tt
refusal_answers statuses.Ok refusal = absurd refusal
refusal_answers statuses.Usage refusal = absurd refusal
refusal_answers statuses.ReadFault refusal = absurd refusal
refusal_answers statuses.WriteFault refusal = absurd refusal
refusal_answers statuses.TooLong refusal = absurd refusal
refusal_answers statuses.TooBig refusal = absurd refusal

abbrev wrong_at : ℕ → Why → Result Script (ℕ × Why)
wrong_at l w = Err (l, w)

-- how a text is answered that is read so
abbrev status_of : Result Script (ℕ × Why) → Status
status_of (Ok s) = statuses.Ok
status_of (Err wrong) = statuses.Script wrong.0 wrong.1

-- a text has one first wrong line, with one first cause
same_refusal : (text : List ℕ) (k l : ℕ) (v w : Why) → read_text text ≡ Err (k, v) → read_text text ≡ Err (l, w) → statuses.Script k v ≡ statuses.Script l w
same_refusal text k l v w first second = let same : wrong_at k v ≡ wrong_at l w = sym first ∙ second in ap status_of same

-- a text that is wrong is read as no script
pub read_not_refused : (text : List ℕ) (s : Script) (l : ℕ) (w : Why) → IsReadAs text s → read_text text ≡ Err (l, w) → ⊥
read_not_refused text s l w is wrong = let both : read_as s ≡ wrong_at l w = sym (read_back text s is) ∙ wrong in cc

input_not_refused : (left rest : Option (List ℕ)) (bytes : List ℕ) (l : ℕ) (w : Why) → left ≡ Some bytes → read_text bytes ≡ Err (l, w) → ReadScript left rest → ⊥
input_not_refused left rest bytes l w known wrong input =
    read_not_refused bytes input.script l w (subst (λ (t : List ℕ). IsReadAs t input.script) (whole left rest bytes input.bytes known input.whole) input.read) wrong

told_is : (left rest : Option (List ℕ)) (bytes : List ℕ) (k l : ℕ) (v w : Why) → left ≡ Some bytes → read_text bytes ≡ Err (l, w) → ReadWrong k v left rest → statuses.Script k v ≡ statuses.Script l w
told_is left rest bytes k l v w known wrong told =
    same_refusal bytes k l v w (subst (λ (t : List ℕ). read_text t ≡ Err (k, v)) (whole left rest bytes told.bytes known told.whole) told.wrong) wrong

-- what is no script is told so, by its first wrong line and the first cause, where the input can be read
pub refused : (r : Status) (left rest : Option (List ℕ)) (bytes : List ℕ) (l : ℕ) (w : Why) → left ≡ Some bytes → length bytes ≤ input_limit → read_text bytes ≡ Err (l, w)
    → (r ≢ statuses.Usage) → (r ≡ statuses.Ok → ReadScript left rest) → (r ≡ statuses.TooLong → ReadScript left rest) → (r ≡ statuses.WriteFault → ReadScript left rest)
    → ((k : ℕ) (v : Why) → r ≡ statuses.Script k v → ReadWrong k v left rest) → (r ≡ statuses.TooBig → TookPast left rest input_limit)
    → (r ≡ statuses.Script l w) ⊎ ((r ≡ statuses.NoMemory) ⊎ (r ≡ statuses.ReadFault))
refused statuses.NoMemory left rest bytes l w known le wrong usage ok long write script big = inr (inl refl)
refused statuses.ReadFault left rest bytes l w known le wrong usage ok long write script big = inr (inr refl)
refused statuses.Usage left rest bytes l w known le wrong usage ok long write script big = absurd (usage refl)
refused statuses.TooBig left rest bytes l w known le wrong usage ok long write script big = absurd (not_past left rest bytes input_limit known le (big refl))
refused statuses.Ok left rest bytes l w known le wrong usage ok long write script big = absurd (input_not_refused left rest bytes l w known wrong (ok refl))
refused statuses.TooLong left rest bytes l w known le wrong usage ok long write script big = absurd (input_not_refused left rest bytes l w known wrong (long refl))
refused statuses.WriteFault left rest bytes l w known le wrong usage ok long write script big = absurd (input_not_refused left rest bytes l w known wrong (write refl))
refused (statuses.Script k v) left rest bytes l w known le wrong usage ok long write script big = inl (told_is left rest bytes k l v w known wrong (script k v refl))

-- what is read as no script has a first wrong line
wrong_line : (text : List ℕ) (answer : Result Script (ℕ × Why)) → read_text text ≡ answer → ((s : Script) → IsReadAs text s → ⊥) → (l : ℕ) × (w : Why) × (read_text text ≡ Err (l, w))
wrong_line text (Ok s) e none = absurd (none s (is_read text s e))
wrong_line text (Err wrong) e none = (wrong.0, wrong.1, e)

some_line : (r : Status) (l : ℕ) (w : Why) → (r ≡ statuses.Script l w) ⊎ ((r ≡ statuses.NoMemory) ⊎ (r ≡ statuses.ReadFault))
    → ((k : ℕ) × (v : Why) × (r ≡ statuses.Script k v)) ⊎ ((r ≡ statuses.NoMemory) ⊎ (r ≡ statuses.ReadFault))
some_line r l w (inl e) = inl (l, w, e)
some_line r l w (inr e) = inr e

-- and is told by a line
pub no_script : (r : Status) (left rest : Option (List ℕ)) (bytes : List ℕ) → left ≡ Some bytes → length bytes ≤ input_limit → ((s : Script) → IsReadAs bytes s → ⊥)
    → (r ≢ statuses.Usage) → (r ≡ statuses.Ok → ReadScript left rest) → (r ≡ statuses.TooLong → ReadScript left rest) → (r ≡ statuses.WriteFault → ReadScript left rest)
    → ((k : ℕ) (v : Why) → r ≡ statuses.Script k v → ReadWrong k v left rest) → (r ≡ statuses.TooBig → TookPast left rest input_limit)
    → ((l : ℕ) × (w : Why) × (r ≡ statuses.Script l w)) ⊎ ((r ≡ statuses.NoMemory) ⊎ (r ≡ statuses.ReadFault))
no_script r left rest bytes known le none usage ok long write script big =
    let wrong = wrong_line bytes (read_text bytes) refl none in
    some_line r wrong.0 wrong.1 (refused r left rest bytes wrong.0 wrong.1 known le wrong.2 usage ok long write script big)
