-- What a tick answers. Assumes nothing.
--     TicksOnce n report r m      the node n answers a tick with a harvest of 4 by r, which leaves the node m and the report
use Rattle.std.specs.Prelude.{◌≡◌, ℕ, List, Ok, Err, Result}
use Rattle.store.specs.declared.capacitor.Capacitor.{Capacitor}
use Rattle.store.specs.Meaning.{exactly}
use Rattle.store.specs.Capacitor.{capacitor_after, capacitor_store}
use Rattle.node.specs.declared.denial.Denial.{Denial}
use Rattle.node.specs.declared.node.Node.{Node}
use Rattle.node.specs.Node.{Called, ticking}
use Rattle.frame.specs.declared.fault.FrameFault.{FrameFault}
use Rattle.frame.specs.declared.fault.FrameFault.TheVariants.{Denied}
use Rattle.trials.specs.declared.report.Ticked.{Ticked}

abbrev pub TicksOnce : Node Capacitor → List ℕ → Result Ticked FrameFault → Node Capacitor → Type 0
TicksOnce n report (Ok t) m = Called capacitor_store (exactly capacitor_after) n (ticking 4 report (Ok (t.loss, t.intake))) m
TicksOnce n report (Err f) m = (d : Denial) × (f ≡ Denied d) × Called capacitor_store (exactly capacitor_after) n (ticking 4 report (Err d)) m
