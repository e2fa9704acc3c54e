-- The dues of a rate. Assumes nothing.
--     DuesOf case s      s has the rate of the case, and as many ticks
use Rattle.std.specs.Prelude.{◌≡◌}
use Rattle.rates.specs.Rate.{is}
use Rattle.trials.specs.declared.rate.Case.{Case}
use Rattle.trials.specs.declared.rate.Dues.{Dues}

abbrev pub DuesOf : Case → Dues → Type 0
DuesOf case s = is case.n case.d case.r s.rate × (s.ticks ≡ case.ticks)
