-- Banks of cells. Assumes nothing.
use Rattle.std.specs.Prelude.{ℕ, ◌-◌, ◌≤◌, Bool, cond, ◌&&◌, List, [], ◌∷◌, map, length, Ok, Err, sum, Result, nat_le, Option, Some}
use Rattle.std.specs.Fmt.{decimal, debug_list}
use Rattle.std.specs.List.{sum_by, AllByRecursion}
use Rattle.rates.specs.Amount.{bound}
use Rattle.rates.specs.declared.amount.OutOfRange.{OutOfRange}
use Rattle.store.specs.declared.bank.Bank.{Bank}
use Rattle.store.specs.declared.cell.Cell.{Cell}
use Rattle.store.specs.declared.store.Store.{Ghosts}
use Rattle.store.specs.Meaning.{Meaning, Change, charge, draw, drain, tick}
use Rattle.store.specs.Cell.{cell, room, CellSound, filled as filled_cell, emptied as emptied_cell}

-- what cells hold together
abbrev pub held_in : List Cell → ℕ
held_in xs = sum_by (λ x. x.held) xs

-- what they can hold together
abbrev pub capacity_of : List Cell → ℕ
capacity_of xs = sum_by (λ x. x.capacity) xs

-- there is a bank of these capacities: 1 to 8 of them, at most G together
abbrev pub fits : List ℕ → Bool
fits cs = nat_le 1 (length cs) && nat_le (length cs) 8 && nat_le (sum cs) bound

-- with q more: a cell takes what those before it left, up to its room, and leaves the rest
abbrev pub filled : ℕ → List Cell → List Cell
filled q [] = []
filled q (x ∷ xs) = filled_cell q x ∷ filled (q - room x) xs

-- with q less: a cell gives what those after it could not
abbrev pub emptied : ℕ → List Cell → List Cell
emptied q [] = []
emptied q (x ∷ xs) = emptied_cell (q - held_in xs) x ∷ emptied q xs

-- empty cells of these capacities
abbrev pub empty_cells : List ℕ → List Cell
empty_cells cs = map (λ c. cell c 0) cs

-- the bank of these cells
abbrev pub with_cells : List Cell → Bank
with_cells xs = record { cells = record { items = xs } }

-- an empty bank, where there is one of these capacities
abbrev pub new_bank : List ℕ → Result Bank OutOfRange
new_bank cs = cond (fits cs) (Ok (with_cells (empty_cells cs))) (Err (record {}))

-- one stage, of kind F, with all that the cells hold
abbrev pub bank_means : Bank → Meaning
bank_means b = record {
  held = held_in b.cells.items;
  capacity = capacity_of b.cells.items;
  stages = record { kind = 70; available = held_in b.cells.items } ∷ [];
}

-- each cell holds no more than its capacity, and the capacities are at most G together
abbrev pub BankSound : Bank → Type 0
BankSound b = AllByRecursion CellSound b.cells.items × (capacity_of b.cells.items ≤ bound)

-- the value after a change: a tick loses nothing
abbrev pub bank_after : Change → Bank → Bank
bank_after (charge q) b = with_cells (filled q b.cells.items)
bank_after (draw q) b = with_cells (emptied q b.cells.items)
bank_after (drain q) b = with_cells (emptied q b.cells.items)
bank_after tick b = b

-- its members as a store
abbrev pub bank_store : Ghosts Bank
bank_store = record {
  held = λ b. (bank_means b).held;
  capacity = λ b. (bank_means b).capacity;
  stages = λ b. (bank_means b).stages;
  coming_loss = λ b. 0;
  sound = BankSound;
  KIND = 70;
}

-- what it prints: what each cell holds, cell 0 first, as `[5, 2, 0]`
abbrev pub bank_text : Bank → Option (List ℕ)
bank_text b = debug_list (λ n. Some (decimal n)) (map (λ x. x.held) b.cells.items)
