-- Stores to run calls on. Assumes nothing.
--     charged_of c q       a capacitor of the capacity c that was charged with q, where there is such a capacitor
--     layered_of l s       the layer l over the store s, where there are both
--     unless_made x n      how many trials are told of the store x: n where it could be made, and else that it could not
use Rattle.std.specs.Prelude.{ℕ, Ok, Err, Result}
use Rattle.rates.specs.declared.amount.OutOfRange.{OutOfRange}
use Rattle.store.specs.declared.capacitor.Capacitor.{Capacitor}
use Rattle.store.specs.Capacitor.{new_capacitor, filled}
use Rattle.layers.specs.declared.layered.Layered.{Layered}

abbrev pub charged_of : ℕ → ℕ → Result Capacitor OutOfRange
charged_of c q = elim (new_capacitor c) [ Ok x ↦ Ok (filled q x) | Err e ↦ Err e ]

abbrev pub layered_of : {S L : Type 0} → Result L OutOfRange → Result S OutOfRange → Result (Layered S L) OutOfRange
layered_of (Ok l) (Ok s) = Ok (record { below = s; layer = l })
layered_of (Ok l) (Err e) = Err e
layered_of (Err e) s = Err e

abbrev pub unless_made : {S : Type 0} → Result S OutOfRange → ℕ → ℕ
unless_made (Ok s) n = n
unless_made (Err e) n = 1
