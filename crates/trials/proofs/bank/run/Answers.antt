use Rattle.trials.proofs.Tallying.{further_more}
use Rattle.trials.proofs.bank.run.Goals as goal

pub returns : goal.returns
returns c = record { trials = further_more (further_more c.cells.ensures.trials (_, c.script.ensures.trials)) c.edges.ensures.trials }
