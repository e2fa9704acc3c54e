use Rattle.std.proofs.Common.{◌≡◌, map, take}
use Rattle.store.proofs.bank.Bank.held_by_cell.Given as goal

abbrev pub invariant-loop-cell : goal.invariant-loop-cell
invariant-loop-cell l = l.held.items ≡ map (λ x. x.held) (take l.cell-index l.self.cells.items)
