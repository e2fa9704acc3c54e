-- Laws of what a layer leaves, and what a floor and leakage over a sound store keep to. Assumes nothing.
use Rattle.std.specs.Prelude.{◌≡◌, ℕ, ◌-◌, ◌≤◌}
use Rattle.std.proofs.Common.{arith}
use Rattle.store.specs.Meaning.{Meaning, Sound, with_stage, top}
use Rattle.store.proofs.Stages.{sound_more}

-- a layer that leaves all leaves no more than there is
pub all_under : (a : ℕ) → a ≤ a
all_under a = omega arith

-- and so does one that keeps f back
pub less_under : (f a : ℕ) → a - f ≤ a
less_under f a = omega arith

-- what a draw takes is taken off what that one leaves
pub less_lowers : (f a q : ℕ) → a - q - f ≡ a - f - q
less_lowers f a q = omega arith

-- a sound store with the stage of a floor of f on top is sound
pub floor_laws : (m : Meaning) (f : ℕ) → Sound m → Sound (with_stage (record { kind = 82; available = top m.stages - f }) m)
floor_laws m f s = sound_more m _ s tt (less_under f (top m.stages))

-- and so with the stage of leakage on top
pub leakage_laws : (m : Meaning) → Sound m → Sound (with_stage (record { kind = 76; available = top m.stages }) m)
leakage_laws m s = sound_more m _ s tt (all_under (top m.stages))
