-- Leakage. Assumes nothing.
use Rattle.std.specs.Prelude.{ℕ, ◌+◌, ◌*◌, ◌/◌, ◌%◌, ◌<◌, ◌≤◌, cond, Ok, Err, Result, nat_le}
use Rattle.rates.specs.Amount.{whole}
use Rattle.rates.specs.declared.amount.OutOfRange.{OutOfRange}
use Rattle.store.specs.declared.store.Store.{Ghosts}
use Rattle.store.specs.Meaning.{Change}
use Rattle.layers.specs.declared.layer.Layer.{Ghosts as LayerGhosts}
use Rattle.layers.specs.declared.layered.Layered.{Layered}
use Rattle.layers.specs.declared.leakage.Leakage.{Leakage}
use Rattle.layers.specs.Layered.{layered_after, layered_store}

-- a leakage that has kept nothing, where the part is at most 10,000
abbrev pub new_leakage : ℕ → Result Leakage OutOfRange
new_leakage p = cond (nat_le p whole) (Ok (record { part = p; remainder = 0 })) (Err (record {}))

-- what leaks at a tick: t div 10,000, where t is held × p + r
abbrev pub leak_of : ℕ → ℕ → ℕ → ℕ
leak_of held p r = (held * p + r) / whole

-- the remainder after it: t mod 10,000
abbrev pub kept : ℕ → ℕ → ℕ → ℕ
kept held p r = (held * p + r) % whole

-- the part is at most 10,000, the remainder below 10,000
abbrev pub LeakSound : Leakage → Type 0
LeakSound l = (l.part ≤ whole) × (l.remainder < whole)

-- its kind is L, it leaves what is available below, and a tick lets leak_of leak and keeps the remainder
abbrev pub leakage_layer : LayerGhosts Leakage
leakage_layer = record {
  leaves = λ l a. a;
  leak = λ l held. leak_of held l.part l.remainder;
  after = λ l held. record { part = l.part; remainder = kept held l.part l.remainder };
  sound = LeakSound;
  KIND = 76;
}

-- its members as a store, over a store whose members are G
abbrev pub leakage_store : {S : Type 0} → Ghosts S → Ghosts (Layered S Leakage)
leakage_store G = layered_store G leakage_layer

-- what is told of its value after a change, over a store of which A tells
abbrev pub leakage_after : {S : Type 0} → Ghosts S → (Change → S → S → Type 0) → Change → Layered S Leakage → Layered S Leakage → Type 0
leakage_after G A = layered_after G leakage_layer A
