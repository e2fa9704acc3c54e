use Rattle.std.proofs.Common.{◌+◌, rules, arith, sym, ap, ◌∙◌}
use Rattle.frame.specs.Answer.{reply_bytes}
use Rattle.frame.proofs.DigitsLaws.{length_written, line_written}
use Rattle.frame.proofs.AnswerLaws.{length_reply}
use Rattle.frame.proofs.answer.write_answer.Goals as goal

pub bounds-out-end : goal.bounds-out-end
bounds-out-end c = let l = length_reply c.args.reply in omega (arith, c.put_reply-end.ensures.result)

pub returns : goal.returns
returns c =
    let bs = reply_bytes c.args.reply in
    let put = c.put_reply-end in
    let l = length_reply c.args.reply in
    let len = ap (λ n. n + 1) put.ensures.result ∙ sym (length_written bs) in
    let line = line_written bs c.args.out.now put.new.out put.result put.ensures.result put.ensures.after (omega (arith, put.ensures.result)) in
    record { result = search rules; after = search rules }
