use Rattle.std.proofs.Common.{◌≤◌, subst, sym, arith}
use Rattle.frame.proofs.TableLaws.{value_at, worth_most}
use Rattle.frame.proofs.digits.value.Goals as goal

pub returns : goal.returns
returns c =
    let e = value_at c.args.digit c.from.result c.from.ensures (omega arith) in
    record { result = e; most = subst (λ n. n ≤ 4294967296) (sym e) (worth_most c.args.digit) }
