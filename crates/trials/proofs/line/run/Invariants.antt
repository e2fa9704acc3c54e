use Rattle.trials.specs.Tally.{Further}
use Rattle.trials.proofs.line.run.Given as goal

abbrev pub invariant-loop-lines : goal.invariant-loop-lines
invariant-loop-lines l = Further l.initial.tally l.tally
