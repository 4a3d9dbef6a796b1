-- What the program makes of a script, which is this project's own.
use Rattle.std.specs.Prelude.{◌≡◌}
use Rattle.spec_script.specs.declared.script.Script.{Script}
use Rattle.spec_world.specs.History.{ends_with_stop}
use Rattle.spec_sim.specs.Serial.{serial}
use Rattle.itron.specs.declared.output.Output.{Output}
use Rattle.itron.specs.Top.{output_of}

-- the output is that of the script
pub record Prints (s : Script) (o : Output) : Type 0 where
  pub text : o.text.items ≡ output_of s
  pub stops : o.stops ≡ ends_with_stop (serial s)
