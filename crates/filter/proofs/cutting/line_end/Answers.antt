use Rattle.filter.proofs.CuttingLaws.{place_is}
use Rattle.filter.proofs.cutting.line_end.Goals as goal

pub returns-clause-result : goal.returns-clause-result
returns-clause-result c = place_is c.args.bytes.now c.memchr.result c.memchr.ensures
