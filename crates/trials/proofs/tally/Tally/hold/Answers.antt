use Rattle.std.proofs.Common.{◌≡◌, Some, None, string_bytes, bytes_eq, not, ap, ◌∙◌}
use Rattle.trials.specs.Tally.{raised}
use Rattle.trials.proofs.Tallying.{counts_more, adds_one}
use Rattle.trials.proofs.tally.Tally.hold.Goals as goal

pub returns-in-Ok-clause-counts : goal.returns-in-Ok-clause-counts
returns-in-Ok-clause-counts g c ts is =
    let old = c.args.self.now in
    let same = c.print.ensures.same in
    let told : c.agrees.result ≡ bytes_eq c.args.expected.now (string_bytes c.in-Ok.text) = c.agrees.ensures.result ∙ ap (bytes_eq c.args.expected.now) c.as_str.ensures.value in
    let came = Some (string_bytes c.in-Ok.text) in (
      came,
      c.in-Ok.ensures.ok,
      counts_more ts (record { expected = c.args.expected.now; came = came }) old c.print.new.self
          (same.0 ∙ c.count.ensures.agreed ∙ ap (λ b. raised b old.agreed) told)
          (same.1 ∙ c.count.ensures.differed ∙ ap (λ b. raised (not b) old.differed) told) is,
    )

pub returns-in-Ok-clause-trials : goal.returns-in-Ok-clause-trials
returns-in-Ok-clause-trials g c = adds_one (λ ts is. let more = returns-in-Ok-clause-counts g c ts is in (_, more.2))

pub returns-in-Err-clause-trials : goal.returns-in-Err-clause-trials
returns-in-Err-clause-trials g c = adds_one (λ ts is.
    (record { expected = c.args.expected.now; came = None }, counts_more ts _ _ _ c.count-in-Err.ensures.agreed c.count-in-Err.ensures.differed is))
