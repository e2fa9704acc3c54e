-- Standby currents. Assumes nothing.
use Rattle.store.specs.declared.store.Store.{Ghosts}
use Rattle.layers.specs.declared.layer.Layer.{Ghosts as LayerGhosts}
use Rattle.layers.specs.declared.layered.Layered.{Layered}
use Rattle.layers.specs.Layered.{layered_store}
use Rattle.guide.specs.declared.standby.Standby.{Standby}

-- its kind is Y, it leaves what is available below, and its amount leaks at each tick
abbrev pub standby_layer : LayerGhosts Standby
standby_layer = record {
  leaves = λ y a. a;
  leak = λ y held. y.amount;
  after = λ y held. y;
  sound = λ y. Unit {0};
  KIND = 89;
}

-- its members as a store, over a store whose members are G
abbrev pub standby_store : {S : Type 0} → Ghosts S → Ghosts (Layered S Standby)
standby_store G = layered_store G standby_layer
