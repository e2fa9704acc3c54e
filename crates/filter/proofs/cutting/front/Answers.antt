use Rattle.frame.proofs.PrefixLaws.{take_least}
use Rattle.filter.proofs.cutting.front.Goals as goal

pub returns : goal.returns
returns c = record { result = take_least 81 c.min.result c.args.line.now c.min.ensures }
