use Rattle.std.proofs.Common.{◌≡◌, ℕ, ◌≤◌, List, length}
use Rattle.frame.specs.Prefix.{HasRead}
use Rattle.filter.proofs.CuttingLaws.{Feeding}
use Rattle.filter.proofs.cutting.Cutter.feed.Given as goal

abbrev pub invariant-loop-end : goal.invariant-loop-end
invariant-loop-end g l =
    (l.self.script.ghost_name ≡ l.initial.self.script.ghost_name)
    × (length l.rest ≤ length l.piece)
    × ((xs : List ℕ) → HasRead xs l.initial.self.line → Feeding g.S.Script l.initial.self.script.now xs l.piece l.self.script.now l.self.line l.rest)

abbrev pub decreases-loop-end : goal.decreases-loop-end
decreases-loop-end g l = length l.rest
