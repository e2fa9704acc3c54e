use Rattle.trials.proofs.Tallying.{further_more}
use Rattle.trials.proofs.rate.run.Goals as goal

pub loop-case-preserved : goal.loop-case-preserved
loop-case-preserved c = further_more c.loop-case.invariant (_, c.hold.ensures.trials)
