-- Where what the store below tells leaves one value after each change, so does what a layer over it tells.
use Rattle.std.proofs.Common.{◌≡◌, ap, ◌∙◌, subst, refl}
use Rattle.store.specs.declared.store.Store.{Ghosts}
use Rattle.store.specs.Meaning.{Change, charge, draw, drain, tick, Determined}
use Rattle.layers.specs.declared.layer.Layer.{Ghosts as LayerGhosts}
use Rattle.layers.specs.declared.layered.Layered.{Layered}
use Rattle.layers.specs.Layered.{left_below, leak_over, layered_after}

module _ {S L : Type 0} (G : Ghosts S) (H : LayerGhosts L) (A : Change → S → S → Type 0) (one : Determined A) where
  abbrev over : S → L → Layered S L
  over s l = record { below = s; layer = l }

  both : (s : S) (l : L) (z : Layered S L) → z.below ≡ s → z.layer ≡ l → z ≡ over s l
  both s l z e d = ap (λ b. record { below = b; layer = z.layer }) e ∙ ap (λ m. record { below = s; layer = m }) d

  -- a change that is passed on
  passed : (x : Change) (y : Layered S L) → (z : Layered S L) × (A x y.below z.below × (z.layer ≡ y.layer)) × ((other : Layered S L) → A x y.below other.below × (other.layer ≡ y.layer) → other ≡ z)
  passed x y =
      let (s, is, only) = one x y.below in
      (over s y.layer, (is, refl), λ z told. both s y.layer z (only z.below told.0) told.1)

  pub layered_determined : Determined (layered_after G H A)
  layered_determined (charge q) y = passed (charge q) y
  layered_determined (draw q) y = passed (draw q) y
  layered_determined (drain q) y = passed (drain q) y
  layered_determined tick y =
      let ticked = one tick y.below in
      let drained = one (drain (leak_over G H y)) ticked.0 in
      let layer : L = H.after y.layer (left_below G H y) in (
        over drained.0 layer,
        (ticked.0, ticked.1, drained.1, refl),
        λ z (between, first, then, kept).
            both drained.0 layer z (drained.2 z.below (subst (λ b. A (drain (leak_over G H y)) b z.below) (ticked.2 between first) then)) kept,
      )
