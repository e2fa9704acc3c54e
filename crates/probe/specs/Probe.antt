-- A probe whose radio sends whenever its dues cover a send. Assumes nothing.
--     due_after ticks       what the radio is due in so many ticks: 1 quantum in 3 ticks, the whole quanta alone
--     covers due asked      the dues cover a send, of 31, beyond what was asked for
--     Covered y             by the tally y no more was asked for than is due
--     requested r y         the tally y after a request for a send that came out as r
--     Sent y r y'           the tally y' is y after a send that came out as r
--     Asks b y y'           the tally y' is y after a send where b says that there is one, however it came out
--     Turned y r y'         the tally y' is y after a tick, and a send where the dues cover one
use Rattle.std.specs.Prelude.{◌≡◌, ℕ, ◌-◌, ◌/◌, ◌≤◌, Bool, true, false, nat_le, Ok, Err, Result}
use Rattle.node.specs.declared.denial.Denial.{Denial}
use Rattle.node.specs.declared.slip.Slip.{Slip}
use Rattle.node.specs.Denial.{number_of}
use Rattle.probe.specs.declared.tally.Tally.{Tally}
use Rattle.probe.specs.Tally.{count_tick, count_request, count_grant, count_denial, count_settled}

abbrev pub due_after : ℕ → ℕ
due_after ticks = ticks / 3

abbrev pub covers : ℕ → ℕ → Bool
covers due asked = nat_le 31 (due - asked)

abbrev pub Covered : Tally → Type 0
Covered y = y.requested ≤ due_after y.ticks

abbrev pub requested : Result Slip Denial → Tally → Tally
requested (Ok slip) y = count_grant (count_request 31 y)
requested (Err d) y = count_denial (number_of d) (count_request 31 y)

abbrev pub Sent : Tally → Result (Unit {0}) Denial → Tally → Type 0
Sent y (Ok u) y' = (lost : ℕ) × (y' ≡ count_settled 31 lost (count_grant (count_request 31 y)))
Sent y (Err d) y' = y' ≡ count_denial (number_of d) (count_request 31 y)

-- whether a send is granted changes nothing of the turn
abbrev pub Asks : Bool → Tally → Tally → Type 0
Asks true y y' = (r : Result (Unit {0}) Denial) × Sent y r y'
Asks false y y' = y' ≡ y

abbrev pub Turned : Tally → Result (Unit {0}) Denial → Tally → Type 0
Turned y (Ok u) y' = (moved : ℕ) × Asks (covers (due_after (count_tick moved y).ticks) y.requested) (count_tick moved y) y'
Turned y (Err d) y' = y' ≡ y
