use Rattle.trials.specs.Tally.{Adds}
use Rattle.trials.proofs.call.script.Given as goal

abbrev pub invariant-loop-call : goal.invariant-loop-call
invariant-loop-call g l = Adds l.call-index l.initial.tally l.tally
