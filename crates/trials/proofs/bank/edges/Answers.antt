use Rattle.trials.proofs.Tallying.{further_more}
use Rattle.trials.proofs.bank.edges.Goals as goal

pub loop-capacities-preserved : goal.loop-capacities-preserved
loop-capacities-preserved c = further_more c.loop-capacities.invariant (_, c.hold.ensures.trials)
