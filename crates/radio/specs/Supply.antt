-- The store that the radio's node stands over, and what holds of its totals. Assumes nothing.
--     supply_store     a standby current over a battery: its members as a store
--     Balanced t       what was received is held, open, spent or lost
use Rattle.std.specs.Prelude.{◌≡◌, ◌+◌}
use Rattle.store.specs.declared.store.Store.{Ghosts}
use Rattle.node.specs.declared.totals.Totals.{Totals}
use Rattle.layers.specs.declared.layered.Layered.{Layered}
use Rattle.guide.specs.declared.battery.Battery.{Battery}
use Rattle.guide.specs.declared.standby.Standby.{Standby}
use Rattle.guide.specs.Battery.{battery_store}
use Rattle.guide.specs.Standby.{standby_store}

abbrev pub supply_store : Ghosts (Layered Battery Standby)
supply_store = standby_store battery_store

abbrev pub Balanced : Totals → Type 0
Balanced t = t.received ≡ t.held + t.«open» + t.spent + t.lost
