use Rattle.std.proofs.Common.{◌≡◌, ℕ, List, Some}
use Rattle.filter.proofs.TakingLaws.{Reading}
use Rattle.filter.proofs.program.take_all.Given as goal

abbrev pub invariant-loop : goal.invariant-loop
invariant-loop g l =
    (l.cutter.script.ghost_name ≡ l.initial.cutter.script.ghost_name)
    × ((bs : List ℕ) → g.R.Read.remaining l.initial.input ≡ Some bs
    → Reading g.S.Script l.initial.cutter.script.now bs (g.R.Read.remaining l.input) l.cutter.script.now l.cutter.line l.counter)
