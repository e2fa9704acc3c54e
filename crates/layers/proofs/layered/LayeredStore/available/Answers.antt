use Rattle.std.proofs.Common.{sym, ap, ◌∙◌}
use Rattle.store.proofs.Stages.{top_more}
use Rattle.layers.proofs.layered.LayeredStore.available.Goals as goal

pub returns : goal.returns
returns g c = record {
  result = λ s.
      c.leaves.ensures.result s.1 ∙ ap (g.L.Layer.leaves c.args.self.now.layer) (c.available.ensures.result s.0)
      ∙ sym (top_more (g.S.Store.stages c.args.self.now.below) _);
}
