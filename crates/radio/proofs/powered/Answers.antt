use Rattle.std.proofs.Common.{[], sym, subst}
use Rattle.node.specs.Runs.{new}
use Rattle.radio.specs.Supply.{supply_store}
use Rattle.radio.proofs.powered.Goals as goal

pub returns : goal.returns
returns c =
    let supply = c.over-supply.result in
    let sound : supply_store.sound supply = subst supply_store.sound (sym c.over-supply.ensures.result) (c.in_ok-battery.ensures.sound, tt) in
    record { run = (supply, [], new sound (c.new-node.ensures.new sound)) }
