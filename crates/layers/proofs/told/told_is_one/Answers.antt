use Rattle.layers.proofs.Determined.{layered_determined}
use Rattle.layers.proofs.told.told_is_one.Goals as goal

pub returns-clause-layered : goal.returns-clause-layered
returns-clause-layered g c = layered_determined g.S.Store g.L.Layer g.S.Told.after
