-- What a store is asked, and what it answers. Assumes nothing.
--     means G s            the meaning of the store s, whose members are G
--     Asked G s c r s'     the store s, whose members are G, answers the call c by r, and is then s'
use Rattle.std.specs.Prelude.{◌≡◌, ℕ, Result}
use Rattle.store.specs.declared.store.Store.{Ghosts}
use Rattle.store.specs.declared.fault.Fault.{Fault}
use Rattle.store.specs.Meaning.{Meaning, meaning, top, height_of, Charged, Drawn as DrawnFrom, Drained, Ticked}
use Rattle.trials.specs.declared.call.Call.{Call}
use Rattle.trials.specs.declared.call.Call.TheVariants.{Held, Capacity, Available, Height, Charge, Draw, Drain, Tick}
use Rattle.trials.specs.declared.call.Came.{Came}
use Rattle.trials.specs.declared.call.Came.TheVariants.{Number, Drawn}

module _ {S : Type 0} (G : Ghosts S) where
  abbrev pub means : S → Meaning
  means s = meaning G.held G.capacity G.stages s

  abbrev pub Asked : S → Call → Came → S → Type 0
  Asked s Held r s' = (r ≡ Number (G.held s)) × (s' ≡ s)
  Asked s Capacity r s' = (r ≡ Number (G.capacity s)) × (s' ≡ s)
  Asked s Available r s' = (r ≡ Number (top (G.stages s))) × (s' ≡ s)
  Asked s Height r s' = (r ≡ Number (height_of (G.stages s))) × (s' ≡ s)
  Asked s (Charge q) r s' = (n : ℕ) × (r ≡ Number n) × Charged q (means s) n (means s')
  Asked s (Draw q) r s' = (x : Result (Unit {0}) Fault) × (r ≡ Drawn x) × DrawnFrom q (means s) x (means s')
  Asked s (Drain q) r s' = (n : ℕ) × (r ≡ Number n) × Drained q (means s) n (means s')
  Asked s Tick r s' = (n : ℕ) × (r ≡ Number n) × Ticked (means s) n (means s')
