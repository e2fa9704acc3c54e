-- The sum of the levels, and what each change of the reserves does to it.
use Rattle.std.proofs.Common.{◌≡◌, ℕ, zero, suc, ◌+◌, ◌-◌, ◌<◌, ◌≤◌, min, true, List, [], ◌∷◌, length, set, Some, None, Option, refl, ap, ◌∙◌, arith}
use Rattle.std.proofs.lemmas.Bool.{false≢true}
use Rattle.tables.specs.declared.reserves.Reserve.{Reserve}
use Rattle.tables.specs.Rows.{present}
use Rattle.tables.specs.Reserves.{ReserveRows, level_in, level_at, headroom, put_level, give, lower, return_to, down_from, charge_in_turn, charge_loss}
use Rattle.node.specs.Sound.{levels}
use Rattle.node.proofs.Places.{present_put_level}

pub level_le_levels : (rs : ReserveRows) (i : ℕ) → level_at rs i ≤ levels rs
level_le_levels [] i = omega arith
level_le_levels (r ∷ rs) zero = omega arith
level_le_levels (r ∷ rs) (suc i) = omega (arith, level_le_levels rs i)

pub levels_set : (rs : ReserveRows) (i : ℕ) (o : Option Reserve) → i < length rs → levels (set rs i o) + level_at rs i ≡ levels rs + level_in o
levels_set [] i o l = absurd (omega arith)
levels_set (r ∷ rs) zero o l = omega arith
levels_set (r ∷ rs) (suc i) o l = omega (arith, levels_set rs i o (omega arith))

pub levels_give : (rs : ReserveRows) (i q : ℕ) → present rs i ≡ true → levels (give rs i q) ≡ levels rs + q
levels_give [] i q o = absurd (false≢true o)
levels_give (None ∷ rs) zero q o = absurd (false≢true o)
levels_give (Some x ∷ rs) zero q o = omega arith
levels_give (r ∷ rs) (suc i) q o = omega (arith, levels_give rs i q o)

pub levels_lower : (rs : ReserveRows) (i q : ℕ) → q ≤ level_at rs i → levels (lower rs i q) + q ≡ levels rs
levels_lower [] i q l = omega arith
levels_lower (None ∷ rs) zero q l = omega arith
levels_lower (Some x ∷ rs) zero q l = omega arith
levels_lower (r ∷ rs) (suc i) q l = omega (arith, levels_lower rs i q l)

pub levels_return : (rs : ReserveRows) (i q : ℕ) → present rs i ≡ true → present rs 0 ≡ true → levels (return_to rs i q) ≡ levels rs + q
levels_return rs i q here root =
    let given : ReserveRows = give rs i (min q (headroom rs i)) in
    let open-still = present_put_level rs i (level_at rs i + min q (headroom rs i)) 0 ∙ root in
    levels_give given 0 (q - headroom rs i) open-still ∙ levels_after
  where
    levels_after : levels (give rs i (min q (headroom rs i))) + (q - headroom rs i) ≡ levels rs + q
    levels_after = omega (arith, levels_give rs i (min q (headroom rs i)) here)

-- another reserve's level
level_put_other : (rs : ReserveRows) (i v j : ℕ) → (j ≡ i → ⊥) → level_at (put_level rs i v) j ≡ level_at rs j
level_put_other [] i v j n = refl
level_put_other (r ∷ rs) zero v zero n = absurd (n refl)
level_put_other (r ∷ rs) zero v (suc j) n = refl
level_put_other (r ∷ rs) (suc i) v zero n = refl
level_put_other (r ∷ rs) (suc i) v (suc j) n = level_put_other rs i v j (λ e. n (ap suc e))

-- a loss, in turn over reserves no two of which are the same

abbrev Apart : ℕ → List ℕ → Type 0
Apart i [] = Unit {0}
Apart i (j ∷ js) = (j ≡ i → ⊥) × Apart i js

abbrev Distinct : List ℕ → Type 0
Distinct [] = Unit {0}
Distinct (i ∷ is) = Apart i is × Distinct is

abbrev sum_over : List ℕ → ReserveRows → ℕ
sum_over [] rs = 0
sum_over (i ∷ is) rs = level_at rs i + sum_over is rs

sum_over_apart : (is : List ℕ) (rs : ReserveRows) (i v : ℕ) → Apart i is → sum_over is (put_level rs i v) ≡ sum_over is rs
sum_over_apart [] rs i v a = refl
sum_over_apart (j ∷ js) rs i v a = ap (λ x. x + sum_over js (put_level rs i v)) (level_put_other rs i v j a.0) ∙ ap (λ x. level_at rs j + x) (sum_over_apart js rs i v a.1)

levels_in_turn : (is : List ℕ) (q : ℕ) (rs : ReserveRows) → Distinct is → levels (charge_in_turn is q rs) + min q (sum_over is rs) ≡ levels rs
levels_in_turn [] q rs d = omega arith
levels_in_turn (i ∷ is) q rs d =
    let taken : ℕ = min q (level_at rs i) in
    let least : taken ≤ level_at rs i = omega arith in
    let one = levels_lower rs i taken least in
    let rest = levels_in_turn is (q - level_at rs i) (lower rs i taken) d.1 in
    let same = sum_over_apart is rs i (level_at rs i - taken) d.0 in
    in_turn (levels (charge_in_turn is (q - level_at rs i) (lower rs i taken))) (levels (lower rs i taken)) (levels rs) q (level_at rs i) (sum_over is (lower rs i taken)) (sum_over is rs) one rest same
  where
    in_turn : (after mid before q l s' s : ℕ) → mid + min q l ≡ before → after + min (q - l) s' ≡ mid → s' ≡ s → after + min q (l + s) ≡ before
    in_turn after mid before q l s' s one rest same = omega arith

apart_above : (n i : ℕ) → n < i → Apart i (down_from n)
apart_above zero i l = tt
apart_above (suc n) i l = (λ e. omega arith, apart_above n i (omega arith))

apart_zero : (n : ℕ) → Apart 0 (down_from n)
apart_zero zero = tt
apart_zero (suc n) = (λ e. omega arith, apart_zero n)

distinct_down : (n : ℕ) → Distinct (down_from n)
distinct_down zero = tt
distinct_down (suc n) = (apart_above n (suc n) (omega arith), distinct_down n)

-- the sum over the reserves from 1 to n, and from below n
abbrev below : ℕ → ReserveRows → ℕ
below = elim [ zero ↦ λ rs. 0 | suc (n → sum) ↦ λ rs. level_at rs n + sum rs ]

sum_down : (n : ℕ) (r : Option Reserve) (rs : ReserveRows) → sum_over (down_from n) (r ∷ rs) ≡ below n rs
sum_down zero r rs = refl
sum_down (suc n) r rs = ap (λ x. level_at rs n + x) (sum_down n r rs)

below_cons : (n : ℕ) (r : Option Reserve) (rs : ReserveRows) → below (suc n) (r ∷ rs) ≡ level_in r + below n rs
below_cons zero r rs = refl
below_cons (suc n) r rs = omega (arith, below_cons n r rs)

below_nil : (n : ℕ) → below n [] ≡ 0
below_nil zero = refl
below_nil (suc n) = omega (arith, below_nil n)

below_all : (n : ℕ) (rs : ReserveRows) → length rs ≤ n → below n rs ≡ levels rs
below_all n [] l = below_nil n
below_all zero (r ∷ rs) l = absurd (omega arith)
below_all (suc n) (r ∷ rs) l = below_cons n r rs ∙ ap (λ x. level_in r + x) (below_all n rs (omega arith))

sum_all : (n : ℕ) (r : Option Reserve) (rs : ReserveRows) → length rs ≤ n → sum_over (0 ∷ down_from n) (r ∷ rs) ≡ levels (r ∷ rs)
sum_all n r rs l = ap (λ x. level_in r + x) (sum_down n r rs ∙ below_all n rs l)

levels_all_in_turn : (is : List ℕ) (q : ℕ) (rs : ReserveRows) → Distinct is → sum_over is rs ≡ levels rs → q ≤ levels rs → levels (charge_in_turn is q rs) + q ≡ levels rs
levels_all_in_turn is q rs d whole least = omega (arith, levels_in_turn is q rs d)

-- every loss of at most the sum is taken whole
pub levels_charge_loss : (q : ℕ) (rs : ReserveRows) → length rs ≡ 32 → q ≤ levels rs → levels (charge_loss q rs) + q ≡ levels rs
unfolding charge_loss
levels_charge_loss q [] all least = absurd (omega arith)
levels_charge_loss q (r ∷ rs) all least = levels_all_in_turn (0 ∷ down_from 31) q (r ∷ rs) (apart_zero 31, distinct_down 31) (sum_all 31 r rs (omega arith)) least
