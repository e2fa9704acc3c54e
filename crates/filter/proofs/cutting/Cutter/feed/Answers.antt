use Rattle.std.proofs.Common.{◌+◌, length, sym, refl, ◌∙◌, arith}
use Rattle.filter.proofs.CuttingLaws.{shorter, feeding_start, feeding_more, feeding_end}
use Rattle.filter.proofs.cutting.Cutter.feed.Goals as goal

pub loop-end-init : goal.loop-end-init
loop-end-init g c =
    (refl, omega arith, λ xs r. feeding_start g.S.Script c.args.self.now.script.now xs c.args.piece.now c.args.self.now.line r)

pub loop-end-preserved : goal.loop-end-preserved
loop-end-preserved g c = (
  c.finish.ensures.same ∙ c.loop-end.invariant.0,
  shorter c.loop-end.rest.now (c.in-Some.end + 1) (length c.args.piece.now) c.loop-end.invariant.1,
  λ xs r. feeding_more g.S.Script c.args.self.now.script.now xs c.args.piece.now c.loop-end.self.script.now c.loop-end.self.line
      c.loop-end.rest.now (c.loop-end.invariant.2 xs r) c.in-Some.end (sym c.in-Some.ensures.result) c.finish.new.self.script.now
      c.in_ok-finish.ensures.heard c.finish.new.self.line c.in_ok-finish.ensures.after,
)

pub returns-clause-fed : goal.returns-clause-fed
returns-clause-fed g c xs r =
    feeding_end g.S.Script c.args.self.now.script.now xs c.args.piece.now c.loop-end.self.script.now c.loop-end.self.line
    c.loop-end.rest.now (c.loop-end.invariant.2 xs r) (sym c.in_default.ensures.result) c.extend.new.self c.extend.ensures.after
