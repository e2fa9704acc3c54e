use Rattle.std.proofs.Common.{rules}
use Rattle.frame.proofs.FrameLaws.{frame_from_cut}
use Rattle.frame.proofs.frame.Frame.of_line.Goals as goal

pub returns-in-Ok-clause-long : goal.returns-in-Ok-clause-long
returns-in-Ok-clause-long c = frame_from_cut _ c.args.line.now (search rules)

pub returns-in-Err-clause-long : goal.returns-in-Err-clause-long
returns-in-Err-clause-long c = frame_from_cut _ c.args.line.now (search rules)
