-- What a line is answered, and the array that the answer is written to. Assumes nothing.
--     be8 n                  the eight bytes of n, high byte first
--     total_bytes t          the bytes of an audit's answer
--     told_bytes a           the bytes of the answer a to an accepted frame
--     reply_bytes r          the bytes of r, which is an answer or a refusal
--     answered r out         what is told of writing r into the array out: the length of its line, which ends in a line feed
--     after_answer r out     out after that: the line over its front, or no change where out is short
use Rattle.std.specs.Prelude.{ℕ, ◌/◌, ◌%◌, cond, List, [], ◌∷◌, ◌++◌, length, Ok, Err, Result, nat_lt}
use Rattle.node.specs.Denial.{be4}
use Rattle.node.specs.declared.totals.Totals.{Totals}
use Rattle.frame.specs.Digits.{written, over_front}
use Rattle.frame.specs.Fault.{number_of, values_of}
use Rattle.frame.specs.declared.answer.Answer.{Answer}
use Rattle.frame.specs.declared.answer.Answer.TheVariants.{Done, Granted, Settled, Ticked, Audited}
use Rattle.frame.specs.declared.fault.FrameFault.{FrameFault}
use Rattle.frame.specs.declared.fault.FrameFault.TheVariants.{ShortAnswer}

unfoldable pub be8 : ℕ → List ℕ
be8 n =
    (n / 72057594037927936 % 256) ∷ (n / 281474976710656 % 256) ∷ (n / 1099511627776 % 256) ∷ (n / 4294967296 % 256)
    ∷ (n / 16777216 % 256) ∷ (n / 65536 % 256) ∷ (n / 256 % 256) ∷ (n % 256) ∷ []

-- in this order: received, held, open, spent, lost, granted, settled
abbrev pub total_bytes : Totals → List ℕ
total_bytes t =
    (0 ∷ []) ++ be8 t.received ++ be8 t.held ++ be8 t.«open» ++ be8 t.spent ++ be8 t.lost ++ be8 t.granted ++ be8 t.settled

abbrev pub told_bytes : Answer → List ℕ
told_bytes Done = 0 ∷ []
told_bytes (Granted serial) = (0 ∷ []) ++ be4 serial
told_bytes (Settled lost) = (0 ∷ []) ++ be4 lost
told_bytes (Ticked loss intake) = (0 ∷ []) ++ be4 loss ++ be4 intake
told_bytes (Audited t) = total_bytes t

abbrev pub reply_bytes : Result Answer FrameFault → List ℕ
reply_bytes (Ok a) = told_bytes a
reply_bytes (Err f) = number_of f ∷ values_of f

abbrev pub answered : Result Answer FrameFault → List ℕ → Result ℕ FrameFault
answered r out = cond (nat_lt (length out) 160) (Err ShortAnswer) (Ok (length (written (reply_bytes r))))

abbrev pub after_answer : Result Answer FrameFault → List ℕ → List ℕ
after_answer r out = cond (nat_lt (length out) 160) out (over_front (written (reply_bytes r)) out)
