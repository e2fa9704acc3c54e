-- Batteries. Assumes nothing.
use Rattle.std.specs.Prelude.{ℕ, ◌≤◌, min, cond, [], ◌∷◌, Ok, Err, Result, nat_le}
use Rattle.rates.specs.Amount.{bound}
use Rattle.rates.specs.declared.amount.OutOfRange.{OutOfRange}
use Rattle.store.specs.declared.store.Store.{Ghosts}
use Rattle.store.specs.Meaning.{Meaning, Change, charge, draw, drain, tick}
use Rattle.store.specs.Cell.{cell, CellSound, filled as filled_cell, emptied as emptied_cell}
use Rattle.guide.specs.declared.battery.Battery.{Battery}

-- a full battery, where the capacity is at most G
abbrev pub new_battery : ℕ → Result Battery OutOfRange
new_battery c = cond (nat_le c bound) (Ok (record { cell = cell c c })) (Err (record {}))

-- one stage, of kind B, with all that is held
abbrev pub battery_means : Battery → Meaning
battery_means b = record {
  held = b.cell.held;
  capacity = b.cell.capacity;
  stages = record { kind = 66; available = b.cell.held } ∷ [];
}

-- no more is held than the capacity, which is at most G
abbrev pub BatterySound : Battery → Type 0
BatterySound b = CellSound b.cell × (b.cell.capacity ≤ bound)

-- with q more, as far as it has room
abbrev pub filled : ℕ → Battery → Battery
filled q b = record { cell = filled_cell q b.cell }

-- with q less, as far as it holds that
abbrev pub emptied : ℕ → Battery → Battery
emptied q b = record { cell = emptied_cell q b.cell }

-- the value after a change: a tick loses 1 quantum
abbrev pub battery_after : Change → Battery → Battery
battery_after (charge q) b = filled q b
battery_after (draw q) b = emptied q b
battery_after (drain q) b = emptied q b
battery_after tick b = emptied 1 b

-- its members as a store
abbrev pub battery_store : Ghosts Battery
battery_store = record {
  held = λ b. (battery_means b).held;
  capacity = λ b. (battery_means b).capacity;
  stages = λ b. (battery_means b).stages;
  coming_loss = λ b. min 1 b.cell.held;
  sound = BatterySound;
  KIND = 66;
}
