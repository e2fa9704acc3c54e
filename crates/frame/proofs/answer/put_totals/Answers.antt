use Rattle.std.proofs.Common.{◌*◌, rules, sym, ap}
use Rattle.frame.specs.Answer.{be8}
use Rattle.frame.proofs.AnswerLaws.{length_totals}
use Rattle.frame.proofs.answer.put_totals.Goals as goal

pub returns-clause-result : goal.returns-clause-result
returns-clause-result c = ap (λ n. 2 * n) (sym (length_totals c.args.totals))

pub returns-clause-after : goal.returns-clause-after
unfolding be8
returns-clause-after c = search rules
