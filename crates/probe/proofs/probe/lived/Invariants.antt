use Rattle.store.specs.Capacitor.{capacitor_store}
use Rattle.node.specs.Runs.{Reached}
use Rattle.probe.specs.Probe.{Covered}
use Rattle.probe.proofs.probe.lived.Given as goal

abbrev pub invariant-loop : goal.invariant-loop
invariant-loop l = record { reached : Reached capacitor_store l.probe.node; covered : Covered l.probe.tally }
