-- The call with which a task ends (µITRON4.0 section 4.1): this project's own.
use Rattle.std.specs.Prelude.{Bool, true, false}
use Rattle.it_types.specs.declared.request.Req.{Req}
use Rattle.it_types.specs.declared.request.Req.TheVariants.{ExtTsk}

-- ext_tsk
abbrev pub is_exit : Req → Bool
is_exit ExtTsk = true
is_exit _ = false
