-- A layer over any store. The members of the store are G, those of the layer H. Assumes nothing.
use Rattle.std.specs.Prelude.{◌≡◌, ℕ, ◌+◌, ◌-◌, min}
use Rattle.store.specs.declared.store.Store.{Ghosts}
use Rattle.store.specs.Meaning.{Stage, Meaning, Change, charge, draw, drain, tick, meaning, with_stage, top, Drained, Ticked}
use Rattle.layers.specs.declared.layer.Layer.{Ghosts as LayerGhosts}
use Rattle.layers.specs.declared.layered.Layered.{Layered}

-- the layer m is l after a tick, where l is sound: over a store that then held some amount, be that store sound or not
abbrev pub AfterTick : {L : Type 0} → LayerGhosts L → L → L → Type 0
AfterTick H l m = H.sound l → (held : ℕ) × (m ≡ H.after l held)

module _ {S L : Type 0} (G : Ghosts S) (H : LayerGhosts L) where
  -- the meaning of the store below
  abbrev pub means : S → Meaning
  means s = meaning G.held G.capacity G.stages s

  -- the layer's own stage: its kind, with what it leaves of that below
  abbrev pub layer_stage : Layered S L → Stage
  layer_stage y = record { kind = H.KIND; available = H.leaves y.layer (top (G.stages y.below)) }

  -- the meaning of the whole: that of the store below, with this stage on top
  abbrev pub layered_means : Layered S L → Meaning
  layered_means y = with_stage (layer_stage y) (means y.below)

  -- the store below is sound, and so is the layer
  abbrev pub LayeredSound : Layered S L → Type 0
  LayeredSound y = G.sound y.below × H.sound y.layer

  -- what the store below holds after its tick
  abbrev pub left_below : Layered S L → ℕ
  left_below y = G.held y.below - G.coming_loss y.below

  -- what the layer lets leak of that
  abbrev pub leak_over : Layered S L → ℕ
  leak_over y = H.leak y.layer (left_below y)

  -- what a tick loses: what the store below loses and what is then drained from it, told as one number
  abbrev pub layered_loss : Layered S L → ℕ
  layered_loss y = G.coming_loss y.below + min (leak_over y) (left_below y)

  -- what is told of the value after a change, where A tells of the store below. All but a tick is passed on, and leaves
  -- the layer as it is. At a tick the store below ticks, and then the leak is drained from it
  abbrev pub layered_after : (Change → S → S → Type 0) → Change → Layered S L → Layered S L → Type 0
  layered_after A (charge q) y z = A (charge q) y.below z.below × (z.layer ≡ y.layer)
  layered_after A (draw q) y z = A (draw q) y.below z.below × (z.layer ≡ y.layer)
  layered_after A (drain q) y z = A (drain q) y.below z.below × (z.layer ≡ y.layer)
  layered_after A tick y z =
      (between : S) × A tick y.below between × A (drain (leak_over y)) between z.below
      × (z.layer ≡ H.after y.layer (left_below y))

  -- z is y after a tick that answered r, by the meaning of the store below alone: that store ticks, and is `between` then;
  -- the leak of what it then holds is drained from it; and both losses are told as one number
  pub record Leaked (y : Layered S L) (r : ℕ) (z : Layered S L) : Type 0 where
    pub between : S
    pub loss : ℕ
    pub gone : ℕ
    pub sound : G.sound between
    pub ticked : Ticked (means y.below) loss (means between)
    pub drained : Drained (H.leak y.layer (G.held between)) (means between) gone (means z.below)
    pub told : r ≡ loss + gone
    pub layer : z.layer ≡ H.after y.layer (G.held between)

  -- its members as a store
  abbrev pub layered_store : Ghosts (Layered S L)
  layered_store = record {
    held = λ y. (layered_means y).held;
    capacity = λ y. (layered_means y).capacity;
    stages = λ y. (layered_means y).stages;
    coming_loss = layered_loss;
    sound = LayeredSound;
    KIND = H.KIND;
  }
