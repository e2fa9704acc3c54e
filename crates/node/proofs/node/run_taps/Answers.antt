use Rattle.std.proofs.Common.{◌≡◌, ℕ, ◌+◌, ◌<◌, ◌≤◌, ◌++◌, length, get_or, take, drop, set, replicate, Some, None, Option, refl, sym, ap, ◌∙◌, subst, arith, length-append, length-drop}
use Rattle.std.specs.Option.{unwrap_or}
use Rattle.std.proofs.lemmas.List.{drop-set-lt, get_or-replicate, get_or_append_left, get_or-set_other, set-get_or, length-take}
use Rattle.std.proofs.Math.Seq.{drop-append_seam}
use Rattle.tables.specs.Taps.{stepped, after_moves, Figures, Turns}
use Rattle.tables.proofs.RowLaws.{Mapped}
use Rattle.node.proofs.Turns.{turn_more, all_turned, figures_reported}
use Rattle.node.proofs.node.run_taps.Goals as goal
use Rattle.node.proofs.node.run_taps.Goals.{in-Some, in_default}

pub loop-k-init : goal.loop-k-init
loop-k-init c =
    let count : length c.fill.new.self ≡ 96 = omega (arith, length-take 96 c.args.report.now, c.fill.ensures.len, c.requires) in
    let blank : c.fill.new.self ≡ replicate (length (take 96 c.args.report.now)) 0 = c.fill.ensures.after (λ y e. e) in (
      refl,
      λ j le lt. get_or_append_left c.fill.new.self (drop 96 c.args.report.now) 0 j (omega (arith, count, lt)) ∙ ap (λ xs. get_or xs j 0) blank
          ∙ get_or-replicate (length (take 96 c.args.report.now)) j 0 0 (omega (arith, length-take 96 c.args.report.now, c.requires, lt)),
      λ fit. ((refl, refl), refl, tt),
    )

none_told : (o : Option ℕ) → ((q : ℕ) → o ≡ Some q → ⊥) → unwrap_or o 0 ≡ 0
none_told None not = refl
none_told (Some q) not = absurd (not q refl)

pub loop-k-preserved : goal.loop-k-preserved
loop-k-preserved c =
    let inv = c.loop-k.invariant in
    let k = c.loop-k.k in
    let report = c.loop-k.report in
    let q : ℕ = unwrap_or c.run.result 0 in
    let within = c.args.taps.now.within in
    let end = c.end-k-end.ensures.result in
    let inside : k < 96 = omega (arith, within, end, c.loop-k-test.true) in
    let room : k < length report = omega (arith, inside, c.loop-k.auto.report, c.requires, length-append c.fill.new.self (drop 96 c.args.report.now), length-drop 96 c.args.report.now, c.fill.ensures.len, length-take 96 c.args.report.now) in
    let told : c.match-run.report ≡ set report k q = elim c.match-run.branch [
      | in-Some w ↦ w.report-is ∙ ap (λ o. set report k (unwrap_or o 0)) (sym w.in-Some.is)
      | in_default w ↦ w.report-is ∙ sym (set-get_or report k 0) ∙ ap (set report k) (inv.1 k (omega arith) inside ∙ sym (none_told c.run.result w.in_default.not-Some))
    ]
    in (
      ap (drop 96) told ∙ drop-set-lt 96 report k q inside ∙ inv.0,
      λ j le lt. ap (λ xs. get_or xs j 0) told ∙ get_or-set_other report k j q 0 (λ e. omega (arith, le, e)) ∙ inv.1 j (omega (arith, le)) lt,
      λ fit.
          let before = inv.2 fit in
          let more = turn_more c.args.reserves.now.rows c.args.taps.now.rows report k q _ _ _ _
          (omega (arith, fit.0, inside)) room (fit.1 k) before.0 before.1 before.2 c.run.ensures.ran in
          subst (λ xs. Mapped stepped c.args.taps.now.rows c.run.new.self.rows (k + 1)
          × (c.run.new.reserves.rows ≡ after_moves c.args.reserves.now.rows (take (k + 1) c.args.taps.now.rows) (take (k + 1) xs))
          × Figures c.args.reserves.now.rows (take (k + 1) c.args.taps.now.rows) (take (k + 1) xs)) (sym told) more,
    )

pub returns-clause-turns : goal.returns-clause-turns
returns-clause-turns c fit =
    let ran = c.loop-k.invariant.2 fit in
    let within : c.end-k-end.result ≤ 96 = omega (arith, c.args.taps.now.within, c.end-k-end.ensures.result) in
    let room : 96 ≤ length c.loop-k.report = omega (arith, c.loop-k.auto.report, c.requires, length-append c.fill.new.self (drop 96 c.args.report.now), length-drop 96 c.args.report.now, c.fill.ensures.len, length-take 96 c.args.report.now) in
    let last : c.loop-k.k ≡ c.end-k-end.result = omega (arith, c.loop-k-test.false, c.loop-k.auto.k-end) in
    let told = figures_reported 96 c.end-k-end.result c.loop-k.report within room (λ j le lt. c.loop-k.invariant.1 j (omega (arith, le, last)) lt) in
    let P : ℕ → Type 0 = λ k. Mapped stepped c.args.taps.now.rows c.loop-k.taps.rows k
    × (c.loop-k.reserves.rows ≡ after_moves c.args.reserves.now.rows (take k c.args.taps.now.rows) (take k c.loop-k.report))
    × Figures c.args.reserves.now.rows (take k c.args.taps.now.rows) (take k c.loop-k.report) in
    let turned : P c.end-k-end.result = subst P last ran in
    subst (λ qs. Turns c.args.reserves.now.rows c.args.taps.now.rows qs c.loop-k.reserves.rows c.loop-k.taps.rows) (sym told)
    (all_turned c.args.reserves.now.rows c.args.taps.now.rows c.loop-k.report c.end-k-end.result c.loop-k.reserves.rows c.loop-k.taps.rows fit.0 within
    (λ k le. c.args.taps.now.past k (omega (arith, le, c.end-k-end.ensures.result))) turned.0 turned.1 turned.2)

pub returns-clause-further : goal.returns-clause-further
returns-clause-further c =
    let count : length c.fill.new.self ≡ 96 = omega (arith, length-take 96 c.args.report.now, c.fill.ensures.len, c.requires) in
    c.loop-k.invariant.0 ∙ ap (λ n. drop n (c.fill.new.self ++ drop 96 c.args.report.now)) (sym count) ∙ drop-append_seam c.fill.new.self (drop 96 c.args.report.now)
