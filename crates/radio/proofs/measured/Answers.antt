use Rattle.std.proofs.Common.{[]}
use Rattle.node.specs.Runs.{new}
use Rattle.radio.proofs.measured.Goals as goal

pub returns-in-Ok : goal.returns-in-Ok
returns-in-Ok c =
    let sound = c.in-Ok.ensures.sound in
    record { run = (c.in-Ok.store, [], new sound (c.new-in-Ok.ensures.new sound)) }
