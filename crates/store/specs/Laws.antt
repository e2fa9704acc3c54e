-- What a sound capacitor and a sound bank keep to, as every store does. Assumes nothing.
use Rattle.std.specs.Prelude.{◌≤◌, List, [], ◌∷◌}
use Rattle.std.specs.List.{AllByRecursion}
use Rattle.std.proofs.Common.{arith, rules}
use Rattle.std.proofs.lemmas.List.Sums.{sum_by-cons}
use Rattle.store.specs.declared.capacitor.Capacitor.{Capacitor}
use Rattle.store.specs.declared.cell.Cell.{Cell}
use Rattle.store.specs.declared.bank.Bank.{Bank}
use Rattle.store.specs.Meaning.{Sound}
use Rattle.store.specs.Cell.{CellSound}
use Rattle.store.specs.Capacitor.{capacitor_means, CapacitorSound}
use Rattle.store.specs.Bank.{held_in, capacity_of, bank_means, BankSound}

-- cells that hold no more than their capacities hold no more together than these
pub held_within : (xs : List Cell) → AllByRecursion CellSound xs → held_in xs ≤ capacity_of xs
held_within [] w = omega arith
held_within (x ∷ xs) w = omega (arith, w.0, held_within xs w.1, sum_by-cons (λ y. y.held) x xs, sum_by-cons (λ y. y.capacity) x xs)

-- a sound capacitor means a sound store
pub capacitor_laws : (c : Capacitor) → CapacitorSound c → Sound (capacitor_means c)
capacitor_laws c s = search rules

-- and so does a sound bank
pub bank_laws : (b : Bank) → BankSound b → Sound (bank_means b)
bank_laws b s = let within = held_within b.cells.items s.0 in search rules
