use Rattle.node.proofs.Reaching.{called}
use Rattle.probe.proofs.probe.Probe.request.Goals as goal

pub returns-in-Ok-clause-run : goal.returns-in-Ok-clause-run
returns-in-Ok-clause-run g c at = called c.in-Ok.ensures.step at
