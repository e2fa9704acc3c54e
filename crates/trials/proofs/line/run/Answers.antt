use Rattle.trials.proofs.Tallying.{further_more}
use Rattle.trials.proofs.line.run.Goals as goal

pub loop-lines-preserved : goal.loop-lines-preserved
loop-lines-preserved c = further_more c.loop-lines.invariant (_, c.session.ensures.trials)

pub returns : goal.returns
returns c = record { trials = further_more (further_more c.loop-lines.invariant c.grants.ensures.trials) (_, c.short.ensures.trials) }
