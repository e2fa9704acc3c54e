use Rattle.std.proofs.Common.{refl}
use Rattle.store.proofs.Stages.{ticked_more}
use Rattle.layers.proofs.Leaks.{ticked_as_one}
use Rattle.layers.proofs.layered.LayeredStore.tick.Goals as goal

pub returns-clause-ticked : goal.returns-clause-ticked
returns-clause-ticked g c s =
    let between = c.tick-loss.ensures.sound s.0 in
    ticked_more _ _ _ _ refl _
    (ticked_as_one _ _ _ _ _ _ (c.tick-loss.ensures.ticked s.0) (c.drain-gone.ensures.drained between) (g.met.S.Store.means c.args.self.now.below s.0) _ c.saturating_add.ensures)
