use Rattle.trials.proofs.Tallying.{further_more}
use Rattle.trials.proofs.capacitor.run.Goals as goal

pub returns : goal.returns
returns c = record { trials = further_more (further_more (_, c.script.ensures.trials) (_, c.script-2.ensures.trials)) (_, c.hold.ensures.trials) }
