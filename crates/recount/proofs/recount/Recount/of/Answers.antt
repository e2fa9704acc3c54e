use Rattle.std.proofs.Common.{take, sym, subst}
use Rattle.std.proofs.lemmas.List.{take_all, take_more}
use Rattle.recount.specs.Recount.{Counts}
use Rattle.recount.proofs.recount.Recount.of.Goals as goal

pub loop-reply-preserved : goal.loop-reply-preserved
loop-reply-preserved c =
    subst (λ xs. Counts xs c.note.new.self) (sym (take_more c.args.replies.now c.loop-reply.reply-index _ c.loop-reply-test.true))
    (c.note.ensures.counts (take c.loop-reply.reply-index c.args.replies.now) c.loop-reply.invariant)

pub returns : goal.returns
returns c = record {
  counts = subst (λ xs. Counts xs c.loop-reply.recount) (take_all c.loop-reply.reply-index c.args.replies.now c.loop-reply-test.false) c.loop-reply.invariant;
}
