use Rattle.trials.specs.Tally.{Adds}
use Rattle.trials.proofs.line.session.Given as goal

abbrev pub invariant-loop-line : goal.invariant-loop-line
invariant-loop-line l = Adds l.line-index l.initial.tally l.tally
