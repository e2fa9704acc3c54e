use Rattle.std.proofs.Common.{arith}
use Rattle.frame.proofs.TableLaws.{pair_at}
use Rattle.frame.proofs.digits.put_byte.Goals as goal

pub returns : goal.returns
returns c = record { after = pair_at c.args.out.now c.args.at c.args.b c.from-place.result c.from-place.ensures (omega arith) }
