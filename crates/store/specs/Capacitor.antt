-- Capacitors. Assumes nothing.
use Rattle.std.specs.Prelude.{ℕ, ◌≤◌, cond, [], ◌∷◌, Ok, Err, Result, nat_le}
use Rattle.rates.specs.Amount.{bound}
use Rattle.rates.specs.declared.amount.OutOfRange.{OutOfRange}
use Rattle.store.specs.declared.capacitor.Capacitor.{Capacitor}
use Rattle.store.specs.declared.store.Store.{Ghosts}
use Rattle.store.specs.Meaning.{Meaning, Change, charge, draw, drain, tick}
use Rattle.store.specs.Cell.{cell, CellSound, filled as filled_cell, emptied as emptied_cell}

-- an empty capacitor, where the capacity is at most G
abbrev pub new_capacitor : ℕ → Result Capacitor OutOfRange
new_capacitor c = cond (nat_le c bound) (Ok (record { cell = cell c 0 })) (Err (record {}))

-- one stage, of kind C, with all that is held
abbrev pub capacitor_means : Capacitor → Meaning
capacitor_means c = record {
  held = c.cell.held;
  capacity = c.cell.capacity;
  stages = record { kind = 67; available = c.cell.held } ∷ [];
}

-- no more is held than the capacity, which is at most G
abbrev pub CapacitorSound : Capacitor → Type 0
CapacitorSound c = CellSound c.cell × (c.cell.capacity ≤ bound)

-- with q more, as far as it has room
abbrev pub filled : ℕ → Capacitor → Capacitor
filled q c = record { cell = filled_cell q c.cell }

-- with q less, as far as it holds that
abbrev pub emptied : ℕ → Capacitor → Capacitor
emptied q c = record { cell = emptied_cell q c.cell }

-- the value after a change: a tick loses nothing
abbrev pub capacitor_after : Change → Capacitor → Capacitor
capacitor_after (charge q) c = filled q c
capacitor_after (draw q) c = emptied q c
capacitor_after (drain q) c = emptied q c
capacitor_after tick c = c

-- its members as a store
abbrev pub capacitor_store : Ghosts Capacitor
capacitor_store = record {
  held = λ c. (capacitor_means c).held;
  capacity = λ c. (capacitor_means c).capacity;
  stages = λ c. (capacitor_means c).stages;
  coming_loss = λ c. 0;
  sound = CapacitorSound;
  KIND = 67;
}
