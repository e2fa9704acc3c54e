use Rattle.trials.specs.Tally.{Further}
use Rattle.trials.proofs.rate.run.Given as goal

abbrev pub invariant-loop-case : goal.invariant-loop-case
invariant-loop-case l = Further l.initial.tally l.tally
