use Rattle.std.proofs.Common.{arith}
use Rattle.node.specs.Node.{store_means}
use Rattle.node.proofs.Parking.{out_settles}
use Rattle.node.proofs.Reaching.{called}
use Rattle.probe.proofs.probe.Probe.send.Goals as goal

pub unreachable-requires : goal.unreachable-requires
unreachable-requires g c =
    let node = c.request.new.self.node in
    let slip = c.in_ok-slip.ensures.slip in
    let m = store_means g.S.Store node in
    out_settles node c.in_ok-slip.slip _ m _ slip.1 (omega (arith, slip.0)) (c.in-Err.ensures.judged m)

pub returns-clause-run : goal.returns-clause-run
returns-clause-run g c at = called c.in-Ok.ensures.step (c.in_ok-slip.ensures.run at)
