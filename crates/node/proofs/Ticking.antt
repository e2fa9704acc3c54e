-- A tick: the loss is charged whole, the intake always fits the root, and every tap has a rate.
use Rattle.std.proofs.Common.{◌≡◌, ℕ, ◌+◌, ◌<◌, ◌≤◌, cond, ltb, leb, List, length, map, get_or, take, Some, None, Option, refl, ap, ◌∙◌, subst, arith, le-ltb}
use borrow.Author.Tests.{lt-leb}
use Rattle.rates.specs.Amount.{bound}
use Rattle.store.specs.Meaning.{Meaning, Sound, Charged, Ticked}
use Rattle.tables.specs.declared.taps.Tap.{Tap}
use Rattle.tables.specs.declared.grant.Grant.{Grant}
use Rattle.tables.specs.declared.books.Books.{Books}
use Rattle.tables.specs.Reserves.{ReserveRows, fill, charge_loss}
use Rattle.tables.specs.Taps.{TapRows, TapFits, stepped, after_moves, Figures, AllFit, Turns}
use Rattle.tables.specs.Books.{count_tick}
use Rattle.node.specs.declared.denial.Denial.TheVariants.{ShortReport, OutOfRange, Exhausted}
use Rattle.node.specs.Standing.{Standing}
use Rattle.node.specs.Calls.{tick, ticked}
use Rattle.node.specs.Rules.{turned_down, before_taps}
use Rattle.node.specs.Steps.{Step}
use Rattle.node.specs.Sound.{TapWell, TapsWell, Well, Whole}
use Rattle.node.proofs.Levels.{levels_charge_loss}
use Rattle.node.proofs.Alike.{alike_charge_loss}
use Rattle.node.proofs.Filled.{root_filled}
use Rattle.node.proofs.Counting.{ticked_exact}

fits_row : (rs : ReserveRows) (o : Option Tap) → ((t : Tap) → o ≡ Some t → TapWell rs t) → TapFits o
fits_row rs None w = tt
fits_row rs (Some t) w = (w t refl).rate

pub taps_fit : (rs : ReserveRows) (ts : TapRows) → TapsWell rs ts → (k : ℕ) → TapFits (get_or ts k None)
taps_fit rs ts w k = fits_row rs (get_or ts k None) (w k)

tick_clear : (m : Meaning) (s : Standing) (harvest places : ℕ) → 96 ≤ places → harvest ≤ bound → s.ticks < bound → turned_down m s (tick harvest places) ≡ None
tick_clear m s harvest places room most count =
    ap (λ x. cond x (Some ShortReport) (cond (ltb bound harvest) (Some OutOfRange) (cond (leb bound s.ticks) (Some Exhausted) None))) (le-ltb places 96 room)
    ∙ ap (λ x. cond x (Some OutOfRange) (cond (leb bound s.ticks) (Some Exhausted) None)) (le-ltb bound harvest most)
    ∙ ap (λ x. cond x (Some Exhausted) None) (lt-leb bound s.ticks count)

-- the reserves as the taps find them
start_is : (m mid m' : Meaning) (s : Standing) (harvest loss intake : ℕ) → Sound m' → Well s m.held → Ticked m loss mid → Charged harvest mid intake m' → fill (charge_loss loss s.reserves) 0 intake ≡ before_taps s loss intake
start_is m mid m' s harvest loss intake sound w ticks charged =
    let lost = levels_charge_loss loss s.reserves w.reserves (omega (arith, w.levels, ticks.within)) in
    root_filled (charge_loss loss s.reserves) intake ((alike_charge_loss loss s.reserves).limits 0 ∙ w.root_limit)
    (omega (arith, lost, w.levels, ticks.within, ticks.held, charged.held, sound.within, sound.bounded))

pub tick_step : (m mid m' : Meaning) (s : Standing) (b b' : Books) (harvest loss intake : ℕ) (report : List ℕ) (start rs : ReserveRows) (ts : TapRows) (gs : List Grant) (serials ticks : ℕ) → Sound m → Sound m' → Whole (record { store = m; standing = s; books = b })
    → 96 ≤ length report → harvest ≤ bound → s.ticks < bound → Ticked m loss mid → Charged harvest mid intake m' → start ≡ fill (charge_loss loss s.reserves) 0 intake
    → (AllFit s.taps → Turns start s.taps (take 96 report) rs ts)
    → gs ≡ s.grants → serials ≡ s.serials → ticks ≡ s.ticks → b' ≡ count_tick harvest loss intake b
    → Step (record { store = m; standing = s; books = b }) (ticked harvest loss intake (take 96 report)) (record { store = m'; standing = record { reserves = rs; taps = ts; grants = gs; serials = serials; ticks = ticks + 1 }; books = b' })
tick_step m mid m' s b b' harvest loss intake report start rs ts gs serials ticks sound sound' w room most count lost charged begins turns same_grants same-serials same-ticks books =
    let ran = turns (w.well.taps, taps_fit s.reserves s.taps w.well.ends) in
    let from : start ≡ before_taps s loss intake = begins ∙ start_is m mid m' s harvest loss intake sound' w.well lost charged in
    let figures : Figures (before_taps s loss intake) s.taps (take 96 report) = subst (λ x. Figures x s.taps (take 96 report)) from ran.figures in
    let stands : rs ≡ after_moves (before_taps s loss intake) s.taps (take 96 report) = ran.reserves ∙ ap (λ x. after_moves x s.taps (take 96 report)) from in
    let steps : ts ≡ map stepped s.taps = ran.taps in
    record {
      places = length report;
      judged = tick_clear m s harvest (length report) room most count;
      answers = (mid, lost, charged, figures);
      standing = cc;
      books = books ∙ ticked_exact s b w.few w.well.serials w.well.ticks harvest loss intake (take 96 report) most (omega (arith, lost.within, sound.within, sound.bounded));
    }
