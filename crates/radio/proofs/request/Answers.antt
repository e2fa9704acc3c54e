use Rattle.node.specs.Node.{store_means}
use Rattle.node.proofs.Parking.{out_parks}
use Rattle.node.proofs.Reaching.{called}
use Rattle.radio.proofs.request.Goals as goal

pub unreachable-requires : goal.unreachable-requires
unreachable-requires g c =
    let m = store_means g.S.Store c.grant.new.self in
    out_parks c.grant.new.self c.in_ok-slip.slip m _ c.in_ok-slip.ensures.slip.1 (c.in-Err.ensures.judged m)

pub returns : goal.returns
returns g c = record { run = λ at. called c.park.ensures.step (called c.in_ok-slip.ensures.step at) }
