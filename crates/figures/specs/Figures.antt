-- The worked figures: what the definitions give for small numbers. Assumes nothing.
--     dues k n d r         the dues of k ticks at the rate n / d with the remainder r
--     holding c h          a capacitor of the capacity c that holds h
--     floored              a floor of 4 over a capacitor of 10 that holds 6
--     fault_at q           the fault of a draw of q from it
--     leaky h r            leakage of 1,000 parts, with the remainder r, over a capacitor of 100 that holds h
--     leaky_store          its members as a store
--     Becomes x y z        after the change x such a store y may be z, by what it tells, and nothing else
--     cells_of a b c       a bank of cells of 5, 3 and 2 that hold a, b and c
--     child level          a reserve under the root
--     three                a root and two reserves, with 3, 2 and 5
--     Figures              nine figures, each a field
use Rattle.std.specs.Prelude.{◌≡◌, ℕ, zero, suc, ◌-◌, List, [], ◌∷◌, Some, slice_set}
use Rattle.rates.specs.Rate.{due, remainder}
use Rattle.store.specs.declared.capacitor.Capacitor.{Capacitor}
use Rattle.store.specs.declared.fault.Fault.{Fault}
use Rattle.store.specs.Meaning.{Meaning, Change, charge, draw, tick, exactly, fault_from}
use Rattle.store.specs.Capacitor.{capacitor_means, capacitor_after, capacitor_store}
use Rattle.store.specs.Cell.{cell}
use Rattle.store.specs.declared.bank.Bank.{Bank}
use Rattle.store.specs.declared.store.Store.{Ghosts}
use Rattle.store.specs.Bank.{with_cells, bank_after}
use Rattle.layers.specs.declared.floor.Floor.{Floor}
use Rattle.layers.specs.declared.layered.Layered.{Layered}
use Rattle.layers.specs.Floor.{floor_means}
use Rattle.layers.specs.declared.leakage.Leakage.{Leakage}
use Rattle.layers.specs.Leakage.{leakage_store, leakage_after}
use Rattle.tables.specs.declared.reserves.Reserve.{Reserve}
use Rattle.tables.specs.Reserves.{ReserveRows, first_reserves, level_at, charge_loss}
use Rattle.node.specs.Calls.{settled}
use Rattle.node.specs.Steps.{State, Answers}

-- each tick takes the remainder that the one before kept
abbrev pub dues : ℕ → ℕ → ℕ → ℕ → List ℕ
dues zero n d r = []
dues (suc k) n d r = due n d r ∷ dues k n d (remainder n d r)

abbrev pub holding : ℕ → ℕ → Capacitor
holding capacity held = record { cell = cell capacity held }

abbrev pub floored : Layered Capacitor Floor
floored = record { below = holding 10 6; layer = record { amount = 4 } }

abbrev pub fault_at : ℕ → Fault
fault_at q = fault_from 0 q (floor_means capacitor_store floored).stages

-- leakage of 1,000 parts, with this remainder, over a capacitor that holds so much
abbrev pub leaky : ℕ → ℕ → Layered Capacitor Leakage
leaky held remainder = record { below = holding 100 held; layer = record { part = 1000; remainder = remainder } }

abbrev pub leaky_store : Ghosts (Layered Capacitor Leakage)
leaky_store = leakage_store capacitor_store

-- what such a store tells of its value after a change
abbrev pub leaky_after : Change → Layered Capacitor Leakage → Layered Capacitor Leakage → Type 0
leaky_after = leakage_after capacitor_store (exactly capacitor_after)

abbrev pub Becomes : Change → Layered Capacitor Leakage → Layered Capacitor Leakage → Type 0
Becomes x y z = leaky_after x y z × ((other : Layered Capacitor Leakage) → leaky_after x y other → other ≡ z)

-- a bank of cells of 5, 3 and 2 that hold so much
abbrev pub cells_of : ℕ → ℕ → ℕ → Bank
cells_of a b c = with_cells (cell 5 a ∷ cell 3 b ∷ cell 2 c ∷ [])

abbrev pub child : ℕ → Reserve
child level = record { owner = 7; parent = 0; limit = 10; level = level }

-- 3 at the root, 5 at reserve 1 and 2 at reserve 4
abbrev pub three : ReserveRows
three = slice_set (slice_set (first_reserves 3) 4 (Some (child 2))) 1 (Some (child 5))

pub record Figures : Type 0 where
  -- 1 quantum in 3 ticks, and 7 in 2
  pub thirds : dues 6 1 3 0 ≡ 0 ∷ 0 ∷ 1 ∷ 0 ∷ 0 ∷ 1 ∷ []
  pub halves : dues 4 7 2 0 ≡ 3 ∷ 4 ∷ 3 ∷ 4 ∷ []
  -- leakage of 1,000 parts at held 25, which leaves 23, and then at 23, which leaves 21
  pub first_leak : (leaky_store.coming_loss (leaky 25 0) ≡ 2) × Becomes tick (leaky 25 0) (leaky 23 5000)
  pub second_leak : (leaky_store.coming_loss (leaky 23 5000) ≡ 2) × Becomes tick (leaky 23 5000) (leaky 21 8000)
  -- cells of 5, 3 and 2: a charge of 7, and then a draw of 3
  pub cells_charged : bank_after (charge 7) (cells_of 0 0 0) ≡ cells_of 5 2 0
  pub cells_drawn : bank_after (draw 3) (cells_of 5 2 0) ≡ cells_of 4 0 0
  -- a draw that the floor refuses, and one that the capacitor does: R is 82, C is 67
  pub faults : (fault_at 3 ≡ record { height = 1; kind = 82; deficit = 1 }) × (fault_at 7 ≡ record { height = 0; kind = 67; deficit = 1 })
  -- a grant of 5 settled with 2 used, where a capacitor of 10 holds 9: 2 are lost, 1 returns, 10 are held
  pub settlement : (s : State) (m : Meaning) (serial lost : ℕ) → s.store ≡ capacitor_means (holding 10 9) → Answers s (settled serial 5 2 lost) m → (lost ≡ 2) × (5 - 2 - lost ≡ 1) × (m.held ≡ 10)
  -- a loss of 7
  pub loss : (level_at (charge_loss 7 three) 0 ≡ 0) × (level_at (charge_loss 7 three) 4 ≡ 0) × (level_at (charge_loss 7 three) 1 ≡ 3)
