use Rattle.std.proofs.Common.{◌≡◌, List, length, ap, arith, refl}
use Rattle.std.specs.List.{refill}
use Rattle.std.proofs.lemmas.Grind.{common_steps}
use Rattle.store.specs.declared.cell.Cell.{Cell}
use Rattle.store.specs.Bank.{filled, held_in}
use Rattle.store.proofs.Cells.{filled_held, filled_sound, filled_capacity}
use Rattle.store.proofs.bank.BankStore.charge.Goals as goal

after : (c : goal.After-self-1) → refill (length c.args.self.now.cells.items) c.args.self.now.cells.items c.loop-cell.cell-items ≡ filled c.args.q c.args.self.now.cells.items
after c = grind (arith, common_steps)

pub returns-clause-sound : goal.returns-clause-sound
returns-clause-sound c s =
    let xs : List Cell = c.args.self.now.cells.items in
    rw (after c) (filled_sound c.args.q xs s.0, omega (arith, filled_capacity c.args.q xs, s.1))

pub returns-clause-charged : goal.returns-clause-charged
returns-clause-charged c s =
    let xs : List Cell = c.args.self.now.cells.items in
    let all : c.loop-cell.cell-items ≡ filled c.args.q xs = grind (arith, common_steps) in
    let inv = c.loop-cell.invariant in
    rw (after c) (record {
      make = record { capacity = filled_capacity c.args.q xs; kinds = refl };
      told = omega (arith, inv.1, inv.2, ap held_in all, ap held_in c.deref_mut-cell-items.ensures.value, filled_held c.args.q xs s.0);
      held = omega (arith, inv.1, inv.2, ap held_in all, ap held_in c.deref_mut-cell-items.ensures.value);
    })
