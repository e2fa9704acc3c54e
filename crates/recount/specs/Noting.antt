-- What one reply more leaves of the parts of a recount. Assumes nothing.
--     one_more ys n                       the counts ys, with one more at n
--     accepted_after a x                  how many lines are accepted after a, where x were before
--     refused_after a ys                  the refused lines by their number after a, where they were ys
--     Keyed k                             the task and the reserve of k are bytes
--     all_after k row                     the denials in all after what k tells to be lacking
--     noted rows k                        the rows, with one denial more of its task at its reserve, which lacks as much as k
--     rows_after n k rows                 the rows under n after what k tells to be lacking
use Rattle.std.specs.Prelude.{ℕ, ◌+◌, ◌<◌, cond, List, ◌==◌, slice_index, slice_index_or, slice_set, Some, None, Option, Ok, Err}
use Rattle.frame.specs.Fault.{number_of}
use Rattle.recount.specs.declared.row.Row.{Row}
use Rattle.recount.specs.declared.lack.Lack.{Lack}
use Rattle.recount.specs.Recount.{Reply, capped, accepted, shortage_number, none, with_one, place}

abbrev pub one_more : List ℕ → ℕ → List ℕ
one_more ys n = slice_set ys n (capped (slice_index ys n + 1))

abbrev pub accepted_after : Reply → ℕ → ℕ
accepted_after a x = cond (accepted a) (capped (x + 1)) x

abbrev pub refused_after : Reply → List ℕ → List ℕ
refused_after (Ok a) ys = ys
refused_after (Err f) ys = one_more ys (number_of f)

abbrev pub Keyed : Option Lack → Type 0
Keyed None = Unit {0}
Keyed (Some k) = (k.task < 256) × (k.reserve < 256)

abbrev pub all_after : Option Lack → Row → Row
all_after None row = row
all_after (Some k) row = with_one row k.deficit

abbrev pub noted : List Row → Lack → List Row
noted rows k = slice_set rows (place k.task k.reserve) (with_one (slice_index_or rows (place k.task k.reserve) none) k.deficit)

abbrev pub rows_after : ℕ → Option Lack → List Row → List Row
rows_after n None rows = rows
rows_after n (Some k) rows = cond (shortage_number k.shortage == n) (noted rows k) rows
