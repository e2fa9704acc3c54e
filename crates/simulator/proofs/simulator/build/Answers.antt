use Rattle.std.proofs.Common.{sym}
use Rattle.store.specs.Capacitor.{new_capacitor, capacitor_store}
use Rattle.store.specs.Bank.{new_bank, bank_store}
use Rattle.simulator.specs.declared.simulator.Simulator.TheVariants.{Single, Layered, Cells}
use Rattle.simulator.specs.Simulator.{layered_of, layered_store}
use Rattle.simulator.proofs.Reach.{builds}
use Rattle.simulator.proofs.simulator.build.Goals as goal

pub returns-in_ok-capacitor-in-Capacitor : goal.returns-in_ok-capacitor-in-Capacitor
returns-in_ok-capacitor-in-Capacitor c =
    let made = c.in_ok-capacitor-in-Capacitor.ensures in
    rw c.in-Capacitor.is (record { built = builds capacitor_store Single (new_capacitor c.in-Capacitor.capacity) _ _ (sym made.result) made.sound (c.new-in-Capacitor.ensures.new made.sound) })

pub returns-in_ok-store-in-Layered : goal.returns-in_ok-store-in-Layered
returns-in_ok-store-in-Layered c =
    let made = c.in_ok-store-in-Layered.ensures in
    rw c.in-Layered.is (record { built = builds layered_store Layered (layered_of c.in-Layered.capacity c.in-Layered.floor c.in-Layered.part) _ _ (sym made.result) made.sound (c.new-in-Layered.ensures.new made.sound) })

pub returns-in_ok-bank-in-Bank : goal.returns-in_ok-bank-in-Bank
returns-in_ok-bank-in-Bank c =
    let made = c.in_ok-bank-in-Bank.ensures in
    rw c.in-Bank.is (record { built = builds bank_store Cells (new_bank c.in-Bank.capacities) _ _ (sym made.result) made.sound (c.new-in-Bank-2.ensures.new made.sound) })
