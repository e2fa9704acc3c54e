use Rattle.std.proofs.Common.{refl}
use Rattle.figures.proofs.Worked.{worked}
use Rattle.figures.proofs.figures.Goals as goal

pub returns : goal.returns
returns c = record { result = refl; figures = worked }
