use Rattle.std.proofs.Common.{◌≡◌, ◌∙◌, sym, ap, IsTrue, arith}
use Rattle.std.specs.Prelude.{decimal, true, false}
use Rattle.std.proofs.lemmas.Fmt.{parse-decimal}
use Rattle.bench_ip4.proofs.count.count_of.Goals as goal

pub returns-in-Ok-clause-all : goal.returns-in-Ok-clause-all
returns-in-Ok-clause-all c n small spelled =
    let parsed = parse-decimal 32 n c.args.word.now _ small (omega arith) spelled c.parse.ensures.value.0 in
    cc (parsed, c.in-Ok.is)

pub returns-in_default-clause-all : goal.returns-in_default-clause-all
returns-in_default-clause-all c n small spelled =
    let parsed = parse-decimal 32 n c.args.word.now _ small (omega arith) spelled c.parse.ensures.value.0 in
    let same : c.in-Ok.number ≡ n = cc (parsed, c.in-Ok.is) in
    let is : IsTrue c.is_decimal.result = c.is_decimal.ensures.1 (spelled ∙ ap decimal (sym same)) in
    absurd (let both : false ≡ true = rw c.if-is_decimal.false at is in cc)

pub returns-in_default-2-clause-all : goal.returns-in_default-2-clause-all
returns-in_default-2-clause-all c n small spelled =
    let parsed = parse-decimal 32 n c.args.word.now _ small (omega arith) spelled c.parse.ensures.value.0 in
    cc (parsed, c.in_default.is)
