use Rattle.std.proofs.Common.{◌≡◌, ℕ, ◌≤◌, Bool, true, false, cond, ltb, List, length, IfOk, Ok, Err, Result, sym, subst, arith}
use Rattle.frame.specs.declared.answer.Answer.{Answer}
use Rattle.frame.specs.declared.fault.FrameFault.{FrameFault}
use Rattle.frame.specs.declared.fault.FrameFault.TheVariants.{ShortAnswer}
use Rattle.frame.specs.Digits.{written}
use Rattle.frame.specs.Answer.{reply_bytes, answered}
use Rattle.frame.proofs.AnswerLaws.{fits}
use Rattle.simulator.proofs.Reach.{stays_reached}
use Rattle.simulator.proofs.simulator.Simulator.answer.Goals as goal

short_enough : (a : Result Answer FrameFault) (out : List ℕ) (r : Result ℕ FrameFault) → r ≡ answered a out → IfOk r (λ len. len ≤ 160)
short_enough a out r is = subst (λ x. IfOk x (λ len. len ≤ 160)) (sym is) (by_length (ltb (length out) 160))
  where
    by_length : (short : Bool) → IfOk (cond short (Err ShortAnswer) (Ok (length (written (reply_bytes a))))) (λ len. len ≤ 160)
    by_length true = tt
    by_length false = fits a

pub returns : goal.returns
returns c =
    record {
      run = stays_reached c.args.self.now c.args.line.now c.reply.result c.reply.new.self c.reply.ensures.replies;
      answers = record {
        short = λ less. absurd (omega arith);
        long = λ _. (c.reply.result, c.reply.ensures.replies, c.write_answer.ensures.result, c.write_answer.ensures.after, c.reply.ensures.same);
      };
      within = short_enough c.reply.result c.args.out.now c.write_answer.result c.write_answer.ensures.result;
    }
