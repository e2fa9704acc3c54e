use Rattle.trials.proofs.Tallying.{further_more}
use Rattle.trials.proofs.bank.cells.Goals as goal

pub returns : goal.returns
returns c = record { trials = further_more (further_more (_, c.made.ensures.trials) (_, c.hold.ensures.trials)) (_, c.hold-2.ensures.trials) }
