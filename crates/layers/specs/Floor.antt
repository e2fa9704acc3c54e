-- Floors. Assumes nothing.
use Rattle.std.specs.Prelude.{◌-◌}
use Rattle.store.specs.declared.store.Store.{Ghosts}
use Rattle.store.specs.Meaning.{Meaning, Change}
use Rattle.layers.specs.declared.layer.Layer.{Ghosts as LayerGhosts}
use Rattle.layers.specs.declared.layered.Layered.{Layered}
use Rattle.layers.specs.declared.floor.Floor.{Floor}
use Rattle.layers.specs.Layered.{layered_means, layered_after, layered_store}

-- its kind is R, it leaves what is available below less its amount, 0 where the amount is more, and nothing leaks
abbrev pub floor_layer : LayerGhosts Floor
floor_layer = record {
  leaves = λ f a. a - f.amount;
  leak = λ f held. 0;
  after = λ f held. f;
  sound = λ f. Unit {0};
  KIND = 82;
}

module _ {S : Type 0} (G : Ghosts S) where
  -- its meaning over a store whose members are G
  abbrev pub floor_means : Layered S Floor → Meaning
  floor_means f = layered_means G floor_layer f

  -- its members as a store
  abbrev pub floor_store : Ghosts (Layered S Floor)
  floor_store = layered_store G floor_layer

  -- what is told of its value after a change, over a store of which A tells
  abbrev pub floor_after : (Change → S → S → Type 0) → Change → Layered S Floor → Layered S Floor → Type 0
  floor_after A = layered_after G floor_layer A
