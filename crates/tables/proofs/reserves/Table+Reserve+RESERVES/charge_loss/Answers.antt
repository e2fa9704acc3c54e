use Rattle.std.proofs.Common.{◌-◌, arith}
use Rattle.tables.proofs.ReserveLaws.{charge_down_more, charge_down_none, charge_down_nothing, charge_loss_root}
use Rattle.tables.proofs.reserves.Table+Reserve+RESERVES.charge_loss.Goals as goal

pub loop-i-preserved : goal.loop-i-preserved
loop-i-preserved c = (omega arith, let h = charge_down_more (c.loop-i.i - 1) c.loop-i.left c.loop-i.self.rows (omega arith) in cc)

pub returns : goal.returns
returns c =
    let root = charge_loss_root c.args.q c.args.self.now.rows in
    let none = charge_down_none (c.loop-i.i - 1) c.loop-i.left c.loop-i.self.rows (omega arith) in
    record { after = cc }

pub returns-then-left-eq0 : goal.returns-then-left-eq0
returns-then-left-eq0 c =
    let root = charge_loss_root c.args.q c.args.self.now.rows in
    let nothing = charge_down_nothing (c.loop-i.i - 1) c.loop-i.left c.loop-i.self.rows c.if-left-eq0.true in
    record { after = cc }
