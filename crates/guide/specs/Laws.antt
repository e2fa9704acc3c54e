-- What stores and layers of the guide keep to, as every store does. Assumes nothing.
use Rattle.std.proofs.Common.{rules}
use Rattle.store.specs.Meaning.{Meaning, Sound, with_stage, top}
use Rattle.store.proofs.Stages.{sound_more}
use Rattle.layers.specs.Laws.{all_under}
use Rattle.guide.specs.declared.battery.Battery.{Battery}
use Rattle.guide.specs.Battery.{battery_means, BatterySound}
use Rattle.guide.specs.declared.measured.Measured.{Measured}
use Rattle.guide.specs.Measured.{measured_means, MeasuredSound}

-- a sound battery means a sound store
pub battery_laws : (b : Battery) → BatterySound b → Sound (battery_means b)
battery_laws b s = search rules

-- and so does a sound measured store
pub measured_laws : {M : Type 0} (s : Measured M) → MeasuredSound s → Sound (measured_means s)
measured_laws s w = search rules

-- a sound store with the stage of a standby current on top is sound
pub standby_laws : (m : Meaning) → Sound m → Sound (with_stage (record { kind = 89; available = top m.stages }) m)
standby_laws m s = sound_more m _ s tt (all_under (top m.stages))
