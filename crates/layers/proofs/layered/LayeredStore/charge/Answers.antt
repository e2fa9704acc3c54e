use Rattle.std.proofs.Common.{refl}
use Rattle.store.proofs.Stages.{charged_more}
use Rattle.layers.proofs.layered.LayeredStore.charge.Goals as goal

pub returns-clause-charged : goal.returns-clause-charged
returns-clause-charged g c s = charged_more _ _ _ _ refl _ _ (c.charge.ensures.charged s.0)
