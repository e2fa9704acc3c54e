-- What the replies to a script come to, and what a recount has of them. Assumes nothing.
--     capped x                       x, or the largest 64-bit number where x is above it
--     Reply                          what a line is answered: an answer, or a refusal
--     lack_in d, lack_of a           what the denial d, or the reply a, tells to be lacking, under 16 or 17
--     shortage_number s              the number of the denials by such a shortage
--     lacks k, lacks_to n t i k      k tells that something is lacking;  under n, to the task t at the reserve i
--     quanta k                       the quanta that k tells to be lacking
--     accepted a                     a is no refusal
--     refused_with n a               a is the refusal with the number n
--     denied a                       a is a denial under 16 or 17
--     denied_to n task reserve a     a is the denial under n of this task at this reserve
--     deficit a                      the quanta that a tells to be lacking
--     how_many p xs                  how many of the replies xs pass the test p
--     lacking p xs                   the quanta that those of them which pass p tell to be lacking, in all
--     row_of p xs                    both, as a row
--     none, with_one row q           no denials; those of row and one more, which lacks q
--     place task reserve             where the row of a task and a reserve stands
--     rows_of t, row_at t task reserve      the rows of the table t, and that of a task and a reserve
--     row_in d n task reserve        the same row of the denials d under n
--     Judges xs v                    v has how many of the replies xs are accepted, and how many refused with each number
--     Denies xs d                    d has those that are denials under 16 and 17, in all and for each task and reserve
--     Counts xs r                    r has both: it is the recount of xs
use Rattle.std.specs.Prelude.{◌≡◌, ℕ, ◌+◌, ◌-◌, ◌*◌, ◌^◌, ◌<◌, min, Bool, true, false, cond, ◌&&◌, List, length, vec_items, sum_by, count_by, ◌==◌, slice_index, slice_index_or, Some, None, Option, Ok, Err, Result}
use Rattle.node.specs.declared.denial.Denial.{Denial}
use Rattle.node.specs.declared.denial.Denial.TheVariants.{ShortReport, OutOfRange, Absent, AlreadyOpen, NoSuchGrant}
use Rattle.node.specs.declared.denial.Denial.TheVariants.{NotOwner, SameEnds, AboveLimit, InUse, Overused}
use Rattle.node.specs.declared.denial.Denial.TheVariants.{TooManyGrants, Exhausted, LevelTooLow, StoreRefused}
use Rattle.frame.specs.declared.fault.FrameFault.{FrameFault}
use Rattle.frame.specs.declared.fault.FrameFault.TheVariants.{ShortAnswer, BadLine, UnknownFrame, OutOfTurn, Denied}
use Rattle.frame.specs.declared.answer.Answer.{Answer}
use Rattle.frame.specs.Fault.{number_of}
use Rattle.recount.specs.declared.row.Row.{Row}
use Rattle.recount.specs.declared.lack.Lack.{Lack}
use Rattle.recount.specs.declared.lack.Shortage.{Shortage}
use Rattle.recount.specs.declared.lack.Shortage.TheVariants.{Level, Store}
use Rattle.recount.specs.declared.table.Table.{Table}
use Rattle.recount.specs.declared.denials.Denials.{Denials}
use Rattle.recount.specs.declared.verdicts.Verdicts.{Verdicts}
use Rattle.recount.specs.declared.recount.Recount.{Recount}

abbrev pub capped : ℕ → ℕ
capped x = min x (2 ^ 64 - 1)

-- one reply

-- what a line is answered
abbrev pub Reply : Type 0
Reply = Result Answer FrameFault

abbrev pub lack_in : Denial → Option Lack
lack_in ShortReport = None
lack_in OutOfRange = None
lack_in Absent = None
lack_in AlreadyOpen = None
lack_in NoSuchGrant = None
lack_in NotOwner = None
lack_in SameEnds = None
lack_in AboveLimit = None
lack_in InUse = None
lack_in Overused = None
lack_in TooManyGrants = None
lack_in Exhausted = None
lack_in (LevelTooLow task reserve q) = Some (record { shortage = Level; task = task; reserve = reserve; deficit = q })
lack_in (StoreRefused o) = Some (record { shortage = Store; task = o.task; reserve = o.reserve; deficit = o.fault.deficit })

abbrev pub lack_of : Reply → Option Lack
lack_of (Ok a) = None
lack_of (Err ShortAnswer) = None
lack_of (Err BadLine) = None
lack_of (Err UnknownFrame) = None
lack_of (Err OutOfTurn) = None
lack_of (Err (Denied d)) = lack_in d

abbrev pub accepted : Reply → Bool
accepted (Ok a) = true
accepted (Err f) = false

abbrev pub refused_with : ℕ → Reply → Bool
refused_with n (Ok a) = false
refused_with n (Err f) = n == number_of f

abbrev pub shortage_number : Shortage → ℕ
shortage_number Level = 16
shortage_number Store = 17

abbrev pub lacks : Option Lack → Bool
lacks None = false
lacks (Some k) = true

abbrev pub lacks_to : ℕ → ℕ → ℕ → Option Lack → Bool
lacks_to n t i None = false
lacks_to n t i (Some k) = n == shortage_number k.shortage && (t == k.task && i == k.reserve)

abbrev pub quanta : Option Lack → ℕ
quanta None = 0
quanta (Some k) = k.deficit

abbrev pub denied : Reply → Bool
denied a = lacks (lack_of a)

abbrev pub denied_to : ℕ → ℕ → ℕ → Reply → Bool
denied_to n task reserve a = lacks_to n task reserve (lack_of a)

abbrev pub deficit : Reply → ℕ
deficit a = quanta (lack_of a)

-- all replies

abbrev pub how_many : (Reply → Bool) → List Reply → ℕ
how_many p xs = count_by p xs

abbrev pub lacking : (Reply → Bool) → List Reply → ℕ
lacking p xs = sum_by (λ a. cond (p a) (deficit a) 0) xs

abbrev pub row_of : (Reply → Bool) → List Reply → Row
row_of p xs = record { times = capped (how_many p xs); lacking = capped (lacking p xs) }

-- what a recount has

abbrev pub none : Row
none = record { times = 0; lacking = 0 }

abbrev pub with_one : Row → ℕ → Row
with_one row q = record { times = capped (row.times + 1); lacking = capped (row.lacking + q) }

abbrev pub place : ℕ → ℕ → ℕ
place task reserve = task * 256 + reserve

abbrev pub rows_of : Table → List Row
rows_of t = vec_items t.rows

abbrev pub row_at : Table → ℕ → ℕ → Row
row_at t task reserve = slice_index_or (rows_of t) (place task reserve) none

abbrev pub row_in : Denials → ℕ → ℕ → ℕ → Row
row_in d n task reserve = cond (n == 16) (row_at d.level task reserve) (cond (n == 17) (row_at d.store task reserve) none)

pub record Judges (xs : List Reply) (v : Verdicts) : Type 0 where
  pub lines : v.lines ≡ capped (length xs)
  pub accepted : v.accepted ≡ capped (how_many accepted xs)
  pub refused : (n : ℕ) → slice_index v.refused n ≡ capped (how_many (refused_with n) xs)

-- a task and a reserve are bytes
pub record Denies (xs : List Reply) (d : Denials) : Type 0 where
  pub all : d.all ≡ row_of denied xs
  pub rows : (n task reserve : ℕ) → task < 256 → reserve < 256 → row_in d n task reserve ≡ row_of (denied_to n task reserve) xs

pub record Counts (xs : List Reply) (r : Recount) : Type 0 where
  pub verdicts : Judges xs r.verdicts
  pub denials : Denies xs r.denials
