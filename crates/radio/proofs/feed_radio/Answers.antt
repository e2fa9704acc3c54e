use Rattle.node.proofs.Reaching.{called}
use Rattle.radio.proofs.feed_radio.Goals as goal

pub returns : goal.returns
returns g c = record { run = λ at. called c.tap.ensures.step (called c.in_ok-open.ensures.step at) }
