use Rattle.trials.proofs.Tallying.{further_more}
use Rattle.trials.proofs.report.report.Goals as goal

pub returns-in-Some : goal.returns-in-Some
returns-in-Some c = record { trials = further_more (_, c.hold.ensures.trials) (_, c.hold-in-Some.ensures.trials) }
