use Rattle.std.proofs.Common.{rules}
use Rattle.cindersim.proofs.HeldLaws.{added}
use Rattle.cindersim.proofs.Session.answer.Goals as goal

pub returns-in-Ok-clause-replies : goal.returns-in-Ok-clause-replies
returns-in-Ok-clause-replies g c =
    let s = c.args.self.now in
    added s.simulator c.args.line.now c.answer.result c.answer.new.self c.answer.new.out s.len _ s.buffer c.answer.ensures.answers (search rules) c.in-Ok.len c.in-Ok.is
