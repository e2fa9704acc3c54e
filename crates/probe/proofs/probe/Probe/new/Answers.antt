use Rattle.std.proofs.Common.{[]}
use Rattle.node.specs.Runs.{new}
use Rattle.probe.proofs.probe.Probe.new.Goals as goal

pub returns-clause-run : goal.returns-clause-run
returns-clause-run g c sound = (c.args.store, [], new sound (c.new.ensures.new sound))
