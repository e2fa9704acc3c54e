-- Every answer's line fits into 160 bytes. Assumes nothing.
use Rattle.std.proofs.Common.{◌≡◌, ◌≤◌, length, Ok, Err, Result, refl, arith}
use Rattle.node.specs.declared.denial.Denial.{Denial}
use Rattle.node.specs.declared.denial.Denial.TheVariants.{ShortReport, OutOfRange, Absent, AlreadyOpen, NoSuchGrant}
use Rattle.node.specs.declared.denial.Denial.TheVariants.{NotOwner, SameEnds, AboveLimit, InUse, Overused}
use Rattle.node.specs.declared.denial.Denial.TheVariants.{TooManyGrants, Exhausted, LevelTooLow, StoreRefused}
use Rattle.node.specs.declared.totals.Totals.{Totals}
use Rattle.node.specs.Denial.{values_of as denial_values}
use Rattle.frame.specs.declared.fault.FrameFault.{FrameFault}
use Rattle.frame.specs.declared.fault.FrameFault.TheVariants.{ShortAnswer, BadLine, UnknownFrame, OutOfTurn, Denied}
use Rattle.frame.specs.declared.answer.Answer.{Answer}
use Rattle.frame.specs.declared.answer.Answer.TheVariants.{Done, Granted, Settled, Ticked, Audited}
use Rattle.frame.specs.Digits.{written}
use Rattle.frame.specs.Fault.{values_of}
use Rattle.frame.specs.Answer.{be8, total_bytes, told_bytes, reply_bytes}
use Rattle.frame.proofs.DigitsLaws.{length_written}

pub length_totals : (t : Totals) → length (total_bytes t) ≡ 57
unfolding be8
length_totals t = refl

length_denial : (d : Denial) → length (denial_values d) ≤ 8
length_denial ShortReport = omega arith
length_denial OutOfRange = omega arith
length_denial Absent = omega arith
length_denial AlreadyOpen = omega arith
length_denial NoSuchGrant = omega arith
length_denial NotOwner = omega arith
length_denial SameEnds = omega arith
length_denial AboveLimit = omega arith
length_denial InUse = omega arith
length_denial Overused = omega arith
length_denial TooManyGrants = omega arith
length_denial Exhausted = omega arith
length_denial (LevelTooLow task reserve deficit) = omega arith
length_denial (StoreRefused o) = omega arith

length_fault : (f : FrameFault) → length (values_of f) ≤ 8
length_fault ShortAnswer = omega arith
length_fault BadLine = omega arith
length_fault UnknownFrame = omega arith
length_fault OutOfTurn = omega arith
length_fault (Denied d) = length_denial d

length_told : (a : Answer) → length (told_bytes a) ≤ 57
length_told Done = omega arith
length_told (Granted serial) = omega arith
length_told (Settled lost) = omega arith
length_told (Ticked loss intake) = omega arith
length_told (Audited t) = let e = length_totals t in omega arith

pub length_reply : (r : Result Answer FrameFault) → length (reply_bytes r) ≤ 57
length_reply (Ok a) = length_told a
length_reply (Err f) = let e = length_fault f in omega arith

pub fits : (r : Result Answer FrameFault) → length (written (reply_bytes r)) ≤ 160
fits r = let e = length_written (reply_bytes r) in let l = length_reply r in omega arith
