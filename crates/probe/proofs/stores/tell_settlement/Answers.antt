use Rattle.std.proofs.Common.{arith}
use Rattle.store.specs.Bank.{bank_store}
use Rattle.node.specs.Node.{store_means}
use Rattle.node.proofs.Parking.{out_settles, stays_out}
use Rattle.probe.proofs.stores.tell_settlement.Goals as goal

pub unreachable-requires : goal.unreachable-requires
unreachable-requires g c =
    let node = c.tick-ticked.new.self in
    let slip = c.in_ok-slip.ensures.slip in
    let m = store_means bank_store node in
    let out = stays_out c.grant.new.self node c.in_ok-slip.slip c.tick-ticked.ensures.grants slip.1 in
    out_settles node c.in_ok-slip.slip _ m _ out (omega (arith, slip.0)) (c.in-Err.ensures.judged m)
