use Rattle.node.specs.Runs.{Reached}
use Rattle.radio.proofs.wait.Given as goal

abbrev pub invariant-loop : goal.invariant-loop
invariant-loop g l = Reached g.S.Store l.initial.node → Reached g.S.Store l.node
