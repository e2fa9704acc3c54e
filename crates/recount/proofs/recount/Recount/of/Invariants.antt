use Rattle.std.proofs.Common.{take}
use Rattle.recount.specs.Recount.{Counts}
use Rattle.recount.proofs.recount.Recount.of.Given as goal

abbrev pub invariant-loop-reply : goal.invariant-loop-reply
invariant-loop-reply l = Counts (take l.reply-index l.replies) l.recount
