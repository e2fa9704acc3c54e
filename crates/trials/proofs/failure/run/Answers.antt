use Rattle.trials.proofs.Tallying.{further_more}
use Rattle.trials.proofs.failure.run.Goals as goal

pub returns : goal.returns
returns c = record { trials = further_more (further_more (_, c.hold.ensures.trials) (_, c.hold-2.ensures.trials)) (_, c.hold-3.ensures.trials) }
