use Rattle.node.proofs.Reaching.{called}
use Rattle.probe.proofs.probe.Probe.feed_radio.Goals as goal

pub returns-clause-run : goal.returns-clause-run
returns-clause-run g c at = called c.tap.ensures.step (called c.in_ok-open.ensures.step at)
