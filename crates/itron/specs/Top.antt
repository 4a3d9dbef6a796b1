-- What a run of the program reads and writes, which is this project's own.
use Rattle.std.specs.Prelude.{◌≡◌, ℕ, ◌<◌, true, false, List, [], ◌∷◌, ◌++◌, Option, Err, codes, length, take}
use Rattle.std.specs.Io.KnownBytes.{Appends}
use Rattle.it_io.specs.Input.{ReadToEnd}
use Rattle.s_script.specs.declared.read_bad.Why.{Why}
use Rattle.s_script.specs.Reading.{read_text}
use Rattle.spec_script.specs.declared.script.Script.{Script}
use Rattle.spec_script.specs.Lines.{script_text}
use Rattle.spec_script.specs.Text.{IsReadAs}
use Rattle.spec_trace.specs.Trace.{trace_text}
use Rattle.spec_script.specs.Configuration.{conf_of}
use Rattle.spec_world.specs.PlainWorld.{opened_world}
use Rattle.spec_world.specs.Sizes.{is_full}
use Rattle.spec_world.specs.History.{ends_with_stop, IsRun}
use Rattle.spec_sim.specs.Serial.{serial}
use Rattle.laws_world.specs.AtRest.{LogRests}
use Rattle.laws_world.specs.OnceInBoth.{LogOnce}
use Rattle.laws_world.specs.CauseInBoth.{LogCaused}
use Rattle.itron.specs.declared.status.Status.{Status}
use Rattle.itron.specs.declared.status.Status.TheVariants as statuses

-- the words of the command that runs a script
abbrev pub sim_words : List (List ℕ)
sim_words = codes "sim" ∷ []

-- the most bytes of an input
abbrev pub input_limit : ℕ
input_limit = 1048576

-- what is written of a script: its printed form, the line trace, and its history
abbrev pub output_of : Script → List ℕ
output_of s = script_text s ++ (codes "trace\n" ++ trace_text (serial s))

-- the input was read to its end, and is a script
pub record ReadScript (left_before left_after : Option (List ℕ)) : Type 0 where
  pub bytes : List ℕ
  pub script : Script
  pub whole : ReadToEnd left_before left_after bytes
  pub read : IsReadAs bytes script

-- and the whole output of that script was written; its history is a run of the machine of two nodes, both of which are at rest after each
-- entry of it; in either node each call is accepted once, ends once, and is returned from once; and each end has exactly one cause
pub record RanScript (left_before left_after written_before written_after : Option (List ℕ)) : Type 0 where
  pub input : ReadScript left_before left_after
  pub wrote : Appends written_before written_after (output_of input.script)
  pub run : IsRun (conf_of input.script) (serial input.script)
  pub rests : LogRests (opened_world (conf_of input.script)) (serial input.script)
  pub once : LogOnce (serial input.script)
  pub caused : LogCaused (conf_of input.script) (serial input.script)

-- and the history ends with the stop
pub record RanToStop (left_before left_after written_before written_after : Option (List ℕ)) : Type 0 where
  pub ran : RanScript left_before left_after written_before written_after
  pub stops : ends_with_stop (serial ran.input.script) ≡ true

-- and the history is full and does not end with the stop
pub record RanToLimit (left_before left_after written_before written_after : Option (List ℕ)) : Type 0 where
  pub ran : RanScript left_before left_after written_before written_after
  pub full : is_full (serial ran.input.script) ≡ true
  pub goes_on : ends_with_stop (serial ran.input.script) ≡ false

-- these bytes were written from the first on, and not all of them
pub record WrotePart (before after : Option (List ℕ)) (bytes : List ℕ) : Type 0 where
  pub count : ℕ
  pub part : count < length bytes
  pub wrote : Appends before after (take count bytes)

-- the input was read to its end, and is a script of whose output not all was written
pub record RanPart (left_before left_after written_before written_after : Option (List ℕ)) : Type 0 where
  pub input : ReadScript left_before left_after
  pub wrote : WrotePart written_before written_after (output_of input.script)

-- the input was read to its end, and is no script: this is its first wrong line, with the first cause
pub record ReadWrong (line : ℕ) (why : Why) (left_before left_after : Option (List ℕ)) : Type 0 where
  pub bytes : List ℕ
  pub whole : ReadToEnd left_before left_after bytes
  pub wrong : read_text bytes ≡ Err (line, why)
  pub none : (s : Script) → IsReadAs bytes s → ⊥

-- how an input is answered for which nothing is written
abbrev pub IsRefusal : Status → Type 0
IsRefusal (statuses.Script line why) = Unit {0}
IsRefusal statuses.NoMemory = Unit {0}
IsRefusal _ = ⊥

-- how an input is answered that was read
abbrev pub IsAnswer : Status → Type 0
IsAnswer statuses.Ok = Unit {0}
IsAnswer statuses.TooLong = Unit {0}
IsAnswer statuses.WriteFault = Unit {0}
IsAnswer status = IsRefusal status
