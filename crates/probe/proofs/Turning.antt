-- What a turn leaves of a tally. Assumes nothing.
use Rattle.std.proofs.Common.{◌≡◌, ℕ, Bool, Ok, subst}
use Rattle.probe.specs.declared.tally.Tally.{Tally}
use Rattle.probe.specs.Tally.{count_tick}
use Rattle.probe.specs.Probe.{due_after, covers, Asks, Turned}

pub turned : (y y' : Tally) (moved : ℕ) {z : Tally} {b : Bool} → z ≡ count_tick moved y → b ≡ covers (due_after z.ticks) z.requested → Asks b z y' → Turned y (Ok tt) y'
turned y y' moved {z} {b} e test asks =
    (moved, subst (λ t. Asks (covers (due_after t.ticks) t.requested) t y') e (subst (λ b. Asks b z y') test asks))
