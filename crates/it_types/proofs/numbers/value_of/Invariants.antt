use Rattle.std.proofs.Common.{◌≡◌, take}
use Rattle.it_types.specs.Numbers.{value_of}
use Rattle.it_types.proofs.numbers.value_of.Given as goal

abbrev pub invariant-loop-digit : goal.invariant-loop-digit
invariant-loop-digit l = l.value ≡ value_of (take l.digit-index l.digits)
