-- The root has what each tap from it is due where the intake is at least the declared minimum.
use Rattle.std.proofs.Common.{◌≡◌, ℕ, zero, suc, ◌+◌, ◌-◌, ◌/◌, ◌<◌, ◌≤◌, Bool, true, false, cond, eqb, List, [], ◌∷◌, get_or, take, Some, None, Option, refl, ap, ◌∙◌, le_trans, le-div_iff_mul-le, div-mul-le_self, arith}
use Rattle.std.proofs.lemmas.Bool.{eq-eqb, false≢true}
use Rattle.tables.specs.declared.taps.Tap.{Tap}
use Rattle.tables.specs.Rows.{present}
use Rattle.tables.specs.Reserves.{ReserveRows, level_at, give, lower, charge_loss}
use Rattle.tables.specs.Taps.{TapRows, tap_due, moved, after_moves, figure_of, Figures}
use Rattle.node.specs.Calls.{History, refused, opened, closed, tapped, shut, granted, settled, parked, recalled, ticked, audited}
use Rattle.node.specs.Rules.{before_taps}
use Rattle.node.specs.Law.{standing_after, Tick, ceiling_from_root, declared_minimum, RootSuffices, AtEveryTick}
use Rattle.node.proofs.Places.{none_some}
use Rattle.node.proofs.Tale.{Tale, well_told}
use Rattle.node.proofs.Alike.{alike_charge_loss}

-- what a new level of a reserve does to the root's
level_given_root : (rs : ReserveRows) (q : ℕ) → present rs 0 ≡ true → q ≤ level_at (give rs 0 q) 0
level_given_root [] q o = absurd (false≢true o)
level_given_root (None ∷ rs) q o = absurd (false≢true o)
level_given_root (Some x ∷ rs) q o = omega arith

level_lowered : (rs : ReserveRows) (i q : ℕ) → level_at rs 0 ≤ level_at (lower rs i q) 0 + cond (eqb i 0) q 0
level_lowered [] i q = omega arith
level_lowered (None ∷ rs) zero q = omega arith
level_lowered (Some x ∷ rs) zero q = omega arith
level_lowered (r ∷ rs) (suc i) q = omega arith

level_given : (rs : ReserveRows) (i q : ℕ) → level_at rs 0 ≤ level_at (give rs i q) 0
level_given [] i q = omega arith
level_given (None ∷ rs) zero q = omega arith
level_given (Some x ∷ rs) zero q = omega arith
level_given (r ∷ rs) (suc i) q = omega arith

-- a due is at most n / d rounded up
due_le_ceiling : (t : Tap) → t.r < t.d → tap_due t ≤ (t.n + t.d - 1) / t.d
due_le_ceiling t rest =
    let pos : 0 < t.d = omega arith in
    (le-div_iff_mul-le pos).1 (omega (arith, div-mul-le_self (t.n + t.r) t.d))

cond_le : (b : Bool) (q c : ℕ) → q ≤ c → cond b q 0 ≤ cond b c 0
cond_le true q c l = l
cond_le false q c l = omega arith

-- every tap of the list has a remainder below its divisor
abbrev Proper : TapRows → Type 0
Proper ts = (k : ℕ) (t : Tap) → get_or ts k None ≡ Some t → t.r < t.d

level_moved : (rs : ReserveRows) (o : Option Tap) (q : ℕ) → ((t : Tap) → o ≡ Some t → t.r < t.d) → q ≡ figure_of rs o → level_at rs 0 ≤ level_at (moved rs o q) 0 + ceiling_from_root o
level_moved rs None q proper is = omega arith
level_moved rs (Some t) q proper is =
    let most : q ≤ (t.n + t.d - 1) / t.d = le_trans (omega arith) (due_le_ceiling t (proper t refl)) in
    omega (arith, level_lowered rs t.source q, level_given (lower rs t.source q) t.sink q, cond_le (eqb t.source 0) q ((t.n + t.d - 1) / t.d) most)

ceiling_at_root : (t : Tap) → t.source ≡ 0 → ceiling_from_root (Some t) ≡ (t.n + t.d - 1) / t.d
ceiling_at_root t e = rw (eq-eqb t.source 0 e)

suffices : (rs : ReserveRows) (ts : TapRows) (qs : List ℕ) (k : ℕ) → Proper ts → Figures rs ts qs → declared_minimum ts ≤ level_at rs 0
    → (t : Tap) → get_or ts k None ≡ Some t → t.source ≡ 0 → tap_due t ≤ level_at (after_moves rs (take k ts) (take k qs)) 0
suffices rs [] qs k proper f enough t here root = absurd (none_some here)
suffices rs (o ∷ ts) [] k proper f enough t here root = absurd f
suffices rs (o ∷ ts) (q ∷ qs) zero proper f enough t here root = omega (arith, due_le_ceiling t (proper 0 t here), ceiling_at_root t root, ap ceiling_from_root here)
suffices rs (o ∷ ts) (q ∷ qs) (suc k) proper f enough t here root =
    suffices (moved rs o q) ts qs k (λ j. proper (suc j)) f.1 (omega (arith, level_moved rs o q (proper 0) f.0)) t here root

pub root_suffices : (birth : ℕ) (h : History) (held : ℕ) → Tale birth h held → (u : Tick)
    → Figures (before_taps (standing_after birth h) u.loss u.intake) (standing_after birth h).taps u.figures → RootSuffices (standing_after birth h) u
root_suffices birth h held tale u figures enough k t here root =
    let rs : ReserveRows = charge_loss u.loss (standing_after birth h).reserves in
    let has : u.intake ≤ level_at (give rs 0 u.intake) 0 = level_given_root rs u.intake ((alike_charge_loss u.loss (standing_after birth h).reserves).opens 0 ∙ (well_told birth h held tale).root) in
    suffices (give rs 0 u.intake) (standing_after birth h).taps u.figures k (λ j x at. ((well_told birth h held tale).ends j x at).rate.2) figures (le_trans enough has) t here root

pub at_every_tick : (birth : ℕ) (h : History) (held : ℕ) → Tale birth h held → AtEveryTick birth RootSuffices h
at_every_tick birth [] held t = tt
at_every_tick birth (refused call why ∷ h) held t = (tt, at_every_tick birth h t.0 t.1)
at_every_tick birth (opened task parent number owner limit amount ∷ h) held t = (tt, at_every_tick birth h t.0 t.1)
at_every_tick birth (closed task number ∷ h) held t = (tt, at_every_tick birth h t.0 t.1)
at_every_tick birth (tapped task tap source sink n d ∷ h) held t = (tt, at_every_tick birth h t.0 t.1)
at_every_tick birth (shut task tap ∷ h) held t = (tt, at_every_tick birth h t.0 t.1)
at_every_tick birth (granted task reserve amount serial ∷ h) held t = (tt, at_every_tick birth h t.0 t.1)
at_every_tick birth (settled serial amount used lost ∷ h) held t = (tt, at_every_tick birth h t.0 t.1)
at_every_tick birth (parked serial amount ∷ h) held t = (tt, at_every_tick birth h t.0 t.1)
at_every_tick birth (recalled task serial amount ∷ h) held t = (tt, at_every_tick birth h t.0 t.1)
at_every_tick birth (audited totals ∷ h) held t = (tt, at_every_tick birth h t.0 t.1)
at_every_tick birth (ticked harvest loss intake figures ∷ h) held t =
    let u : Tick = record { harvest = harvest; loss = loss; intake = intake; figures = figures } in
    (root_suffices birth h t.0 t.1 u t.2.figures, at_every_tick birth h t.0 t.1)
