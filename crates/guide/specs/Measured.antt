-- Stores whose losses are measured. Assumes nothing.
use Rattle.std.specs.Prelude.{ℕ, ◌≤◌, min, cond, [], ◌∷◌, Ok, Err, Result, nat_le}
use Rattle.rates.specs.Amount.{bound}
use Rattle.rates.specs.declared.amount.OutOfRange.{OutOfRange}
use Rattle.store.specs.declared.store.Store.{Ghosts}
use Rattle.store.specs.Meaning.{Meaning}
use Rattle.store.specs.Cell.{cell, CellSound}
use Rattle.guide.specs.declared.measured.Measured.{Measured}

module _ {M : Type 0} where
  -- a full store, of which nothing has leaked yet, where the capacity is at most G; otherwise the sensor comes back
  abbrev pub new_measured : ℕ → M → Result (Measured M) (OutOfRange × M)
  new_measured capacity sensor = cond (nat_le capacity bound) (Ok (record { cell = cell capacity capacity; sensor = sensor; reading = 0 })) (Err (record {}, sensor))

  -- one stage, of kind M, with all that is held
  abbrev pub measured_means : Measured M → Meaning
  measured_means s = record {
    held = s.cell.held;
    capacity = s.cell.capacity;
    stages = record { kind = 77; available = s.cell.held } ∷ [];
  }

  -- no more is held than the capacity, which is at most G; any reading will do
  abbrev pub MeasuredSound : Measured M → Type 0
  MeasuredSound s = CellSound s.cell × (s.cell.capacity ≤ bound)

  -- its members as a store: the next tick loses what was read, as far as it is held
  abbrev pub measured_store : Ghosts (Measured M)
  measured_store = record {
    held = λ s. (measured_means s).held;
    capacity = λ s. (measured_means s).capacity;
    stages = λ s. (measured_means s).stages;
    coming_loss = λ s. min s.reading s.cell.held;
    sound = MeasuredSound;
    KIND = 77;
  }
