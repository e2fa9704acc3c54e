use Rattle.std.proofs.Common.{◌≡◌, true, false, arith, ap, refl}
use Rattle.node.proofs.Reaching.{called}
use Rattle.probe.specs.Probe.{due_after, covers}
use Rattle.probe.proofs.Turning.{turned}
use Rattle.probe.proofs.probe.Probe.turn.Goals as goal

pub returns-then-covers-clause-run : goal.returns-then-covers-clause-run
returns-then-covers-clause-run g c at = c.send.ensures.run (called c.in_ok-tick.ensures.step at)

pub returns-then-covers-clause-tally : goal.returns-then-covers-clause-tally
returns-then-covers-clause-tally g c =
    let tally = c.tick-2.new.self in
    let test : true ≡ covers (due_after tally.ticks) tally.requested = cc in
    turned _ _ _ c.tick-2.ensures.after test (_, c.send.ensures.tally)

pub returns-else-covers-clause-run : goal.returns-else-covers-clause-run
returns-else-covers-clause-run g c at = called c.in_ok-tick.ensures.step at

pub returns-else-covers-clause-tally : goal.returns-else-covers-clause-tally
returns-else-covers-clause-tally g c =
    let tally = c.tick-2.new.self in
    let test : false ≡ covers (due_after tally.ticks) tally.requested = cc in
    turned _ _ _ c.tick-2.ensures.after test refl

pub returns-else-covers-clause-covered : goal.returns-else-covers-clause-covered
returns-else-covers-clause-covered g c is =
    let same : c.tick-2.new.self.requested ≡ c.args.self.now.tally.requested = ap (λ y. y.requested) c.tick-2.ensures.after in
    omega (arith, same, c.tick-2.ensures.later)
