use Rattle.std.proofs.Common.{sym, refl, ap}
use Rattle.std.proofs.lemmas.Result.{err_from_is_err_and}
use Rattle.node.specs.Calls.{open_tap, tapped}
use Rattle.node.specs.Rules.{with_taps}
use Rattle.node.specs.Node.{standing_of, store_means}
use Rattle.node.proofs.Goes.{turned_away, goes}
use Rattle.node.proofs.node.Node.tap.Goals as goal

pub returns-in_err-may_tap-clause-step : goal.returns-in_err-may_tap-clause-step
returns-in_err-may_tap-clause-step g c =
    let p = err_from_is_err_and c.from_residual.result c.from_residual.ensures.1 in
    rw (p.1, p.2) (turned_away g.S.Store c.args.self.now (open_tap c.args.task c.args.tap.number c.args.tap.source c.args.tap.sink c.args.tap.n c.args.tap.d) _ (sym (c.in_err-may_tap.ensures.judged (store_means g.S.Store c.args.self.now))))

pub returns-clause-step : goal.returns-clause-step
returns-clause-step g c s = goes g.S.Store g.met.S.Store.means c.args.self.now _ (tapped c.args.task c.args.tap.number c.args.tap.source c.args.tap.sink c.args.tap.n c.args.tap.d) s s.store
    (record {
      places = 0;
      judged = sym (c.in_ok-may_tap.ensures.judged (store_means g.S.Store c.args.self.now));
      answers = refl;
      standing = ap (with_taps (standing_of c.args.self.now)) c.open.ensures.after;
      books = refl;
    })
