use Rattle.trials.proofs.Tallying.{further_more}
use Rattle.trials.proofs.line.grants.Goals as goal

pub returns : goal.returns
returns c = record { trials = further_more (_, c.session.ensures.trials) (_, c.session-2.ensures.trials) }
