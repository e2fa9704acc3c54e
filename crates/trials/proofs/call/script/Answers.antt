use Rattle.std.proofs.Common.{subst, arith}
use Rattle.trials.specs.Tally.{Adds}
use Rattle.trials.proofs.Tallying.{adds_more, adds_made}
use Rattle.trials.proofs.call.script.Goals as goal

pub loop-call-preserved : goal.loop-call-preserved
loop-call-preserved g c = adds_more c.loop-call.invariant c.hold.ensures.trials

pub returns : goal.returns
returns g c =
    let called = subst (λ n. Adds n c.made.new.tally c.loop-call.tally) (omega arith) c.loop-call.invariant in
    record { trials = adds_made c.args.new c.made.ensures.result c.in-Some.is c.made.ensures.trials called }
