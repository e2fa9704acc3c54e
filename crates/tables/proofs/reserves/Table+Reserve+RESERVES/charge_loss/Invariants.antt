use Rattle.std.proofs.Common.{◌≡◌, ◌-◌, ◌≤◌}
use Rattle.tables.proofs.ReserveLaws.{charge_down}
use Rattle.tables.proofs.reserves.Table+Reserve+RESERVES.charge_loss.Given as goal

abbrev pub invariant-loop-i : goal.invariant-loop-i
invariant-loop-i l = (1 ≤ l.i) × (charge_down (l.i - 1) l.left l.self.rows ≡ charge_down 31 l.initial.left l.initial.self.rows)
