use Rattle.node.proofs.Reaching.{called}
use Rattle.radio.proofs.wait.Goals as goal

pub returns-in_err-loss : goal.returns-in_err-loss
returns-in_err-loss g c = record { run = λ at. called c.in_err-loss.ensures.step (c.loop.invariant at) }

pub loop-preserved : goal.loop-preserved
loop-preserved g c at = called c.in_ok-loss.ensures.step (c.loop.invariant at)
