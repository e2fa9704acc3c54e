use Rattle.std.proofs.Common.{Ok, Err, refl, rules, ap}
use Rattle.node.specs.Node.{store_means}
use Rattle.node.proofs.Parking.{out_parks}
use Rattle.frame.specs.declared.answer.Answer.TheVariants.{Granted}
use Rattle.simulator.proofs.serve.grant.Goals as goal

pub unreachable-requires : goal.unreachable-requires
unreachable-requires g c =
    let m = store_means g.S.Store c.grant.new.self in
    out_parks c.grant.new.self c.in_ok-slip.slip m _ c.in_ok-slip.ensures.slip.1 (c.in-Err.ensures.judged m)

pub returns-in_err-slip-clause-calls : goal.returns-in_err-slip-clause-calls
returns-in_err-slip-clause-calls g c =
    (Err c.in_err-slip.field-0.0, c.grant.new.self, record { step = c.in_err-slip.ensures.step; stored = c.in_err-slip.ensures.stored }, (refl, search rules))

pub returns-clause-calls : goal.returns-clause-calls
returns-clause-calls g c =
    let grants = c.in_ok-slip.ensures in
    let parks = c.in-Ok.ensures in (
      Ok c.in_ok-slip.slip,
      c.grant.new.self,
      record { step = grants.step; stored = grants.stored },
      (record { step = parks.step; stored = parks.stored }, ap (λ serial. Ok (Granted serial)) parks.after.0),
    )
