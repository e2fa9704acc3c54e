use Rattle.trials.proofs.Tallying.{further_more}
use Rattle.trials.proofs.report.run.Goals as goal

pub returns : goal.returns
returns c = record { trials = further_more (further_more (further_more (_, c.made.ensures.trials) c.report.ensures.trials) c.report-2.ensures.trials) c.report-3.ensures.trials }
