use Rattle.it_types.proofs.Numerals.{digits_until, digits_whole}
use Rattle.it_types.proofs.numbers.split_digits.Goals as goal

pub returns-in-Some : goal.returns-in-Some
returns-in-Some c =
    let split = digits_until c.args.bytes.now _ c.in-Some.ensures in
    rw (c.split_at.ensures.front, c.split_at.ensures.back) (record { parts = split.0; digits = split.1 })

pub returns-in-None : goal.returns-in-None
returns-in-None c = let split = digits_whole c.args.bytes.now c.in-None.ensures in record { parts = split.0; digits = split.1 }
