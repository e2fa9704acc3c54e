use Rattle.std.proofs.Common.{arith}
use Rattle.node.specs.Node.{store_means}
use Rattle.node.proofs.Parking.{out_settles}
use Rattle.node.proofs.Reaching.{called}
use Rattle.probe.proofs.stores.spend.Goals as goal

pub unreachable-requires : goal.unreachable-requires
unreachable-requires g c =
    let m = store_means g.S.Store c.grant.new.self in
    let slip = c.in-Ok.ensures.slip in
    out_settles c.grant.new.self c.in-Ok.slip _ m _ slip.1 (omega (arith, slip.0)) (c.in-Err-settle.ensures.judged m)

pub returns-in_err-println-in-Ok-settle : goal.returns-in_err-println-in-Ok-settle
returns-in_err-println-in-Ok-settle g c = record { run = λ at. called c.settle.ensures.step (called c.in-Ok.ensures.step at) }

pub returns-in_ok-println-in-Ok-settle : goal.returns-in_ok-println-in-Ok-settle
returns-in_ok-println-in-Ok-settle g c = record { run = λ at. called c.settle.ensures.step (called c.in-Ok.ensures.step at) }
