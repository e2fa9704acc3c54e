use Rattle.std.proofs.Common.{◌≡◌, ◌<◌, ◌-◌, refl, sym, subst, ◌∙◌, arith, rules, length, take, Ok}
use Rattle.std.proofs.lemmas.List.{length-take}
use Rattle.std.specs.Io.{ReadsAtMost}
use Rattle.std.specs.Io.KnownBytes.{Consumes, ReadConsumes, IsAtEnd}
use Rattle.filter.specs.Taking.{Taken}
use Rattle.filter.proofs.TakingLaws.{consumed_none, reading_start, reading_more, reading_all, reading_done}
use Rattle.filter.proofs.program.take_all.Goals as goal
use Rattle.filter.proofs.program.take_all.Goals.{else-loop-test, then-loop-test+in_ok-len+then-len-eq0}

pub loop-init : goal.loop-init
loop-init g c = (refl, λ bs known. reading_start g.S.Script c.new-cutter.result.script.now bs (g.R.Read.remaining c.args.input) c.new-cutter.result.line known c.new-cutter.ensures.line)

pub loop-preserved : goal.loop-preserved
loop-preserved g c =
    let len = c.in_ok-len.len in
    let buf = c.read.new.buf in
    let ok : c.read.result ≡ Ok len = search rules in
    let bytes = subst (λ r. ReadConsumes (g.R.Read.remaining c.loop.input) (g.R.Read.remaining c.read.new.self) r buf) ok c.read.ensures.bytes in
    let bound = subst (λ r. ReadsAtMost r buf) ok c.read.ensures.bound in
    let e : len - 0 ≡ len = omega arith in
    let some : 0 < length (take (len - 0) buf) = omega (arith, length-take (len - 0) buf, bound, c.if-len-eq0.false) in (
      c.feed.ensures.same ∙ c.loop.invariant.0,
      λ bs known. reading_more g.S.Script c.new-cutter.result.script.now bs (g.R.Read.remaining c.loop.input) (g.R.Read.remaining c.read.new.self) c.loop.cutter.script.now c.feed.new.self.script.now
          c.flush.new.self c.loop.cutter.line c.feed.new.self.line c.loop.counter (take (len - 0) buf) (c.loop.invariant.1 bs known)
          (subst (λ n. Consumes (g.R.Read.remaining c.loop.input) (g.R.Read.remaining c.read.new.self) (take n buf)) (sym e) bytes.0) some c.in_ok-feed.ensures.fed c.in_ok-flush.ensures.flushed,
    )

pub returns : goal.returns
returns g c = record {
  taken = λ bs known short.
      let reading = c.loop.invariant.1 bs known in
      let at_end : IsAtEnd (g.R.Read.remaining c.loop.input) = elim c.loop-test.branch [
        | else-loop-test w ↦ reading_all g.S.Script _ bs _ _ _ c.loop.counter reading (omega (arith, short, w.loop-test.false))
        | then-loop-test+in_ok-len+then-len-eq0 w ↦
            let ok : w.read.result ≡ Ok w.in_ok-len.len = search rules in
            let bytes = subst (λ r. ReadConsumes (g.R.Read.remaining c.loop.input) (g.R.Read.remaining w.read.new.self) r w.read.new.buf) ok w.read.ensures.bytes in
            let nothing = subst (λ n. Consumes (g.R.Read.remaining c.loop.input) (g.R.Read.remaining w.read.new.self) (take n w.read.new.buf)) w.if-len-eq0.true bytes.0 in
            consumed_none (g.R.Read.remaining c.loop.input) (g.R.Read.remaining w.read.new.self) nothing (bytes.1 w.if-len-eq0.true (omega (arith, w.read.auto.buf)))
      ]
      in
      let done = subst (λ x. Taken g.S.Script x bs c.flush-2.new.self) c.new-cutter.ensures.script
      (reading_done g.S.Script _ bs _ _ _ _ _ _ _ reading at_end c.in_ok-end.ensures.heard c.in_ok-end-2.ensures.ended c.in_ok-flush-2.ensures.flushed) in
      -- the cutter's reference is the one that was handed in
      let same = sym (c.in_ok-end.ensures.same ∙ c.loop.invariant.0 ∙ c.new-cutter.ensures.same) in
      subst (λ x. Taken g.S.Script c.args.script.now bs x) (sym (search rules)) done;
}
