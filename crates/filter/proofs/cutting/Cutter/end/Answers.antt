use Rattle.std.proofs.Common.{rules}
use Rattle.filter.proofs.CuttingLaws.{led_last}
use Rattle.filter.proofs.cutting.Cutter.end.Goals as goal

pub returns-clause-heard : goal.returns-clause-heard
returns-clause-heard g c xs r =
    led_last g.S.Script c.finish.result c.args.self.now.script.now c.finish.new.self.script.now xs c.args.self.now.line r
    (search rules) c.finish.ensures.heard
