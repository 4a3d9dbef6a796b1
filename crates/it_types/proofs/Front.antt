-- Texts to which words are appended, one after the other.
use Rattle.std.proofs.Common.{◌≡◌, ℕ, List, ◌++◌, Result, Ok, Err, OnOk, OnErr, append_assoc, ap, ◌∙◌}
use Rattle.std.proofs.Transfers.{starts_with_of_append, starts_with_trans}
use Rattle.std.proofs.lemmas.Result.{on_err_weaker}
use Rattle.std.specs.Io.{StartsWith}

-- a text that begins with one to which a word was appended begins with what stood before the word
pub front_before_word : (new mid old word : List ℕ) → mid ≡ old ++ word → StartsWith new mid → StartsWith new old
front_before_word new mid old word e front = starts_with_trans new mid old front (starts_with_of_append mid old word e)

-- the same where it is known of an error
pub front_before_step : {T E : Type 0} (r : Result T E) (new mid old word : List ℕ) → mid ≡ old ++ word → OnErr r (StartsWith new mid) → OnErr r (StartsWith new old)
front_before_step r new mid old word e front = on_err_weaker r (front_before_word new mid old word e) front

-- what holds in any case holds with an error
pub on_any_err : {T E P : Type 0} (r : Result T E) → P → OnErr r P
on_any_err (Ok x) p = tt
on_any_err (Err x) p = p

-- a word, and behind it what a last step appends
pub word_before_step : {T E : Type 0} (r : Result T E) (new mid old word rest : List ℕ) → mid ≡ old ++ word → OnOk r (new ≡ mid ++ rest) → OnOk r (new ≡ old ++ (word ++ rest))
word_before_step (Ok x) new mid old word rest e put = put ∙ ap (λ l. l ++ rest) e ∙ append_assoc old word rest
word_before_step (Err x) new mid old word rest e put = tt
