-- The figures, worked out.
use Rattle.std.proofs.Common.{◌≡◌, ℕ, ◌+◌, ◌-◌, min, refl, ap, ◌∙◌}
use Rattle.store.specs.Meaning.{Meaning, tick, exactly, Determined}
use Rattle.store.specs.Capacitor.{capacitor_means, capacitor_after, capacitor_store}
use Rattle.store.proofs.Determined.{exactly_determined, determined_one}
use Rattle.layers.specs.Leakage.{leakage_layer}
use Rattle.layers.proofs.Determined.{layered_determined}
use Rattle.tables.specs.Reserves.{level_at, charge_loss}
use Rattle.node.specs.Calls.{settled}
use Rattle.node.specs.Steps.{State, Answers}
use Rattle.figures.specs.Figures.{Figures, holding, leaky, leaky_after, Becomes, three}

settling : (s : State) (m : Meaning) (serial lost : ℕ) → s.store ≡ capacitor_means (holding 10 9) → Answers s (settled serial 5 2 lost) m → (lost ≡ 2) × (5 - 2 - lost ≡ 1) × (m.held ≡ 10)
settling s m serial lost is (back, charged, told) =
    let one : back ≡ 1 = charged.told ∙ ap (λ x. min 3 (x.capacity - x.held)) is in
    let two : lost ≡ 2 = told ∙ ap (λ b. 5 - 2 - b) one in
    (two, ap (λ l. 5 - 2 - l) two, (charged.held ∙ ap (λ b. s.store.held + b) one ∙ ap (λ x. x.held + 1) is))

losing : (level_at (charge_loss 7 three) 0 ≡ 0) × (level_at (charge_loss 7 three) 4 ≡ 0) × (level_at (charge_loss 7 three) 1 ≡ 3)
unfolding charge_loss
losing = (refl, refl, refl)

leaky_determined : Determined leaky_after
leaky_determined = layered_determined capacitor_store leakage_layer (exactly capacitor_after) (exactly_determined capacitor_after)

-- a tick that leaks 2
becomes : (held left r r' : ℕ) → leaky_after tick (leaky held r) (leaky left r') → Becomes tick (leaky held r) (leaky left r')
becomes held left r r' told = (told, λ other also. determined_one leaky_determined tick (leaky held r) (leaky left r') other told also)

pub worked : Figures
worked = record {
  thirds = refl;
  halves = refl;
  first_leak = (refl, becomes 25 23 0 5000 (holding 100 25, refl, refl, refl));
  second_leak = (refl, becomes 23 21 5000 8000 (holding 100 23, refl, refl, refl));
  cells_charged = refl;
  cells_drawn = refl;
  faults = (refl, refl);
  settlement = settling;
  loss = losing;
}
