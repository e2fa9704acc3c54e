use Rattle.std.proofs.Common.{true, Ok, Err, refl, rules, sym, ap, ◌∙◌, subst}
use Rattle.node.specs.Calls.{parked}
use Rattle.node.specs.Node.{store_means, IsOut, Called, Marked}
use Rattle.node.proofs.Parking.{out_parks, there_and_back}
use Rattle.simulator.proofs.serve.settle.Goals as goal

pub unreachable-requires : goal.unreachable-requires
unreachable-requires g c =
    let m = store_means g.S.Store c.settle.new.self in
    let same = c.in-Err.ensures.same in
    let out : IsOut c.in-Err.slip c.settle.new.self =
    subst (λ n. IsOut c.in-Err.slip n) (sym same.1) (subst (λ x. IsOut x c.recall.new.self) (sym same.0) c.in_ok-slip.ensures.slip.1) in
    out_parks c.settle.new.self c.in-Err.slip m _ out (c.in-Err-park.ensures.judged m)

pub returns-in-Ok-park : goal.returns-in-Ok-park
returns-in-Ok-park g c =
    let same = c.in-Err.ensures.same in
    let recalls = c.in_ok-slip.ensures in
    let parks = c.in-Ok-park.ensures in
    let serial = parks.after.0 ∙ ap (λ x. x.serial) same.0 ∙ recalls.slip.0 in
    record {
      calls = (
        Ok c.in_ok-slip.slip,
        c.recall.new.self,
        record { step = recalls.step; stored = recalls.stored },
        (
          recalls.slip.0,
          Err (c.in-Err.denial, c.in-Err.slip),
          c.settle.new.self,
          record { step = c.in-Err.ensures.step; stored = c.in-Err.ensures.stored },
          (subst (λ x. Called g.S.Store g.S.Told.after c.settle.new.self (parked x.serial x.amount) c.park.new.self) same.0 (record { step = parks.step; stored = parks.stored }), ap Err c.from.ensures),
        ),
      );
      same = λ s. there_and_back c.args.node.now c.recall.new.self c.park.new.self _ c.args.task c.args.serial (store_means g.S.Store c.args.node.now) s.whole.well
          (recalls.judged (store_means g.S.Store c.args.node.now)) recalls.after
          (subst (λ n. Marked true c.args.serial n c.park.new.self) same.1 (subst (λ x. Marked true x c.settle.new.self c.park.new.self) serial parks.after.1));
    }

pub returns-in_err-slip-clause-calls : goal.returns-in_err-slip-clause-calls
returns-in_err-slip-clause-calls g c =
    (Err c.in_err-slip.field-0.0, c.recall.new.self, record { step = c.in_err-slip.ensures.step; stored = c.in_err-slip.ensures.stored }, (refl, search rules))

pub returns-in-Ok-clause-calls : goal.returns-in-Ok-clause-calls
returns-in-Ok-clause-calls g c =
    let recalls = c.in_ok-slip.ensures in
    let settles = c.in-Ok.ensures in (
      Ok c.in_ok-slip.slip,
      c.recall.new.self,
      record { step = recalls.step; stored = recalls.stored },
      (recalls.slip.0, Ok c.in-Ok.lost, c.settle.new.self, record { step = settles.step; stored = settles.stored }, (refl, refl)),
    )
