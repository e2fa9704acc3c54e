-- What one line does to a session. Assumes nothing.
--     tick_told a           a is the answer to a tick
--     ticked r              the same of the reply r
--     ticks_after r n       how many ticks are accepted after the reply r, where n were before
--     Logged s line s'      the simulator replies to the line, and that reply is counted, also where it is that of a tick
use Rattle.std.specs.Prelude.{◌≡◌, ℕ, ◌+◌, Bool, true, false, cond, List, [], ◌∷◌, ◌++◌, Ok, Err}
use Rattle.frame.specs.declared.answer.Answer.{Answer}
use Rattle.frame.specs.declared.answer.Answer.TheVariants.{Done, Granted, Settled, Ticked, Audited}
use Rattle.simulator.specs.Simulator.{Replies}
use Rattle.recount.specs.Recount.{Reply, Counts, capped}
use Rattle.cinderlog.specs.declared.session.Session.{Session}

abbrev pub tick_told : Answer → Bool
tick_told Done = false
tick_told (Granted serial) = false
tick_told (Settled lost) = false
tick_told (Ticked loss intake) = true
tick_told (Audited totals) = false

abbrev pub ticked : Reply → Bool
ticked (Ok a) = tick_told a
ticked (Err f) = false

abbrev pub ticks_after : Reply → ℕ → ℕ
ticks_after r n = cond (ticked r) (capped (n + 1)) n

abbrev pub Logged : Session → List ℕ → Session → Type 0
Logged s line s' =
    (r : Reply) × Replies s.simulator line r s'.simulator
    × ((xs : List Reply) → Counts xs s.recount → Counts (xs ++ r ∷ []) s'.recount)
    × (s'.ticks ≡ ticks_after r s.ticks)
