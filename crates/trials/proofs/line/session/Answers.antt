use Rattle.std.proofs.Common.{subst, arith}
use Rattle.trials.specs.Tally.{Adds}
use Rattle.trials.proofs.Tallying.{adds_more}
use Rattle.trials.proofs.line.session.Goals as goal

pub loop-line-preserved : goal.loop-line-preserved
loop-line-preserved c = adds_more c.loop-line.invariant c.hold.ensures.trials

pub returns : goal.returns
returns c = record { trials = subst (λ n. Adds n c.args.tally.now c.loop-line.tally) (omega arith) c.loop-line.invariant }
