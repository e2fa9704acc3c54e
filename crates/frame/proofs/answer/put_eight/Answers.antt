use Rattle.std.proofs.Common.{rules}
use Rattle.frame.specs.Answer.{be8}
use Rattle.frame.proofs.answer.put_eight.Goals as goal

pub returns : goal.returns
unfolding be8
returns c = search rules
