use Rattle.trials.proofs.Tallying.{further_more}
use Rattle.trials.proofs.floor.run.Goals as goal

pub returns : goal.returns
returns c = record { trials = further_more (_, c.script.ensures.trials) (_, c.script-2.ensures.trials) }
