-- What holds of a script's history that was written.
use Rattle.std.proofs.Common.{◌≡◌, ℕ, true, false, List, Option, sym, ◌∙◌, inl, inr}
use mathlib.Core.Logic.{◌⊎◌}
use Rattle.std.specs.Io.KnownBytes.{Appends}
use Rattle.it_io.specs.Input.{ReadToEnd}
use Rattle.spec_script.specs.declared.script.Script.{Script}
use Rattle.spec_script.specs.Ranges.{IsGood}
use Rattle.spec_script.specs.Text.{IsReadAs}
use Rattle.spec_script.specs.Configuration.{conf_of}
use Rattle.spec_world.specs.Sizes.{is_full}
use Rattle.spec_world.specs.History.{ends_with_stop}
use Rattle.spec_sim.specs.Serial.{serial}
use Rattle.spec_sim.proofs.Declarable.{first_declarable, second_declarable}
use Rattle.laws_world.specs.Taken.{CanOpen}
use Rattle.laws_world.proofs.Rest.{log_rests}
use Rattle.laws_world.proofs.OnceInBoth.{log_once}
use Rattle.laws_world.proofs.CauseInBoth.{log_caused}
use Rattle.laws_sim.proofs.Ending.{serial_runs, serial_ending}
use Rattle.itron.specs.Top.{output_of, RanScript}

-- two nodes can be opened with what a good script declares
abbrev pub can_open : (s : Script) → IsGood s → CanOpen (conf_of s)
can_open s good = record { first = first_declarable s good; second = second_declarable s good }

abbrev pub ran : (left rest before after : Option (List ℕ)) (bytes : List ℕ) (s : Script) → ReadToEnd left rest bytes → IsReadAs bytes s → Appends before after (output_of s) → RanScript left rest before after
ran left rest before after bytes s whole read wrote = record {
  input = record { bytes = bytes; script = s; whole = whole; read = read };
  wrote = wrote;
  run = serial_runs s;
  rests = log_rests (conf_of s) (serial s);
  once = log_once (conf_of s) (serial s) (can_open s read.good) (serial_runs s);
  caused = log_caused (conf_of s) (serial s) (can_open s read.good) (serial_runs s);
}

full_or_not : (s : Script) → ends_with_stop (serial s) ≡ false → (ends_with_stop (serial s) ≡ true) ⊎ (is_full (serial s) ≡ true) → is_full (serial s) ≡ true
full_or_not s goes_on (inl stops) = absurd (let wrong : true ≡ false = sym stops ∙ goes_on in cc)
full_or_not s goes_on (inr full) = full

pub full_without_stop : (s : Script) → ends_with_stop (serial s) ≡ false → is_full (serial s) ≡ true
full_without_stop s goes_on = full_or_not s goes_on (serial_ending s)
