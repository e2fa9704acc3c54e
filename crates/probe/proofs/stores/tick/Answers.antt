use Rattle.node.proofs.Reaching.{called}
use Rattle.probe.proofs.stores.tick.Goals as goal

pub returns-in_err-println : goal.returns-in_err-println
returns-in_err-println g c = record { run = λ at. called c.in_ok-loss.ensures.step at }

pub returns : goal.returns
returns g c = record { run = λ at. called c.in_ok-loss.ensures.step at }
