use Rattle.node.specs.Node.{store_means, IsOut}
use Rattle.node.proofs.Parking.{out_parks}
use Rattle.node.proofs.Reaching.{called}
use Rattle.radio.proofs.send.Goals as goal

-- the slip came back as it was, and the node too, so the slip is out
pub unreachable-requires : goal.unreachable-requires
unreachable-requires g c =
    let m = store_means g.S.Store c.settle.new.self in
    let same = c.in-Err.ensures.same in
    let out : IsOut c.in-Err.slip c.settle.new.self = rw (same.1, same.0) c.in_ok-slip.ensures.slip.1 in
    out_parks c.settle.new.self c.in-Err.slip m _ out (c.in-Err-park.ensures.judged m)

pub returns-in-Ok : goal.returns-in-Ok
returns-in-Ok g c = record { run = λ at. called c.settle.ensures.step (called c.in_ok-slip.ensures.step at) }

pub returns-in-Ok-park : goal.returns-in-Ok-park
returns-in-Ok-park g c = record { run = λ at. called c.park.ensures.step (called c.settle.ensures.step (called c.in_ok-slip.ensures.step at)) }
