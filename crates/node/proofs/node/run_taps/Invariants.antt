use Rattle.std.proofs.Common.{◌≡◌, ℕ, ◌<◌, ◌≤◌, get_or, take, drop}
use Rattle.tables.specs.Taps.{stepped, AllFit, after_moves, Figures}
use Rattle.tables.proofs.RowLaws.{Mapped}
use Rattle.node.proofs.node.run_taps.Given as goal

abbrev pub invariant-loop-k : goal.invariant-loop-k
invariant-loop-k l =
    (drop 96 l.report ≡ drop 96 l.initial.report)
    × ((j : ℕ) → l.k ≤ j → j < 96 → get_or l.report j 0 ≡ 0)
    × (AllFit l.initial.taps.rows
    → Mapped stepped l.initial.taps.rows l.taps.rows l.k
    × (l.reserves.rows ≡ after_moves l.initial.reserves.rows (take l.k l.initial.taps.rows) (take l.k l.report))
    × Figures l.initial.reserves.rows (take l.k l.initial.taps.rows) (take l.k l.report))
