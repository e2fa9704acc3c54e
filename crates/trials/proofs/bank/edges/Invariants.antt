use Rattle.trials.specs.Tally.{Further}
use Rattle.trials.proofs.bank.edges.Given as goal

abbrev pub invariant-loop-capacities : goal.invariant-loop-capacities
invariant-loop-capacities l = Further l.initial.tally l.tally
