-- Laws of the reserves.
use Rattle.std.proofs.Common.{◌≡◌, ℕ, zero, suc, ◌+◌, ◌-◌, ◌<◌, min, [], ◌∷◌, Some, None, Option, refl, ap, ◌∙◌, arith}
use Rattle.tables.specs.declared.reserves.Reserve.{Reserve}
use Rattle.tables.specs.Reserves.{ReserveRows, level_in, level_at, relevel, put_level, give, lower, down_from, charge_in_turn, charge_loss}

-- a loss taken from the reserves n down to 1
unfoldable pub charge_down : ℕ → ℕ → ReserveRows → ReserveRows
charge_down n q rs = charge_in_turn (down_from n) q rs

pub charge_down_more : (n q : ℕ) (rs : ReserveRows) → 0 < n → charge_down n q rs ≡ charge_down (n - 1) (q - level_at rs n) (lower rs n (min q (level_at rs n)))
unfolding charge_down
charge_down_more zero q rs h = absurd (omega arith)
charge_down_more (suc n) q rs h = let e : n ≡ suc n - 1 = omega arith in ap (λ k. charge_in_turn (down_from k) (q - level_at rs (suc n)) (lower rs (suc n) (min q (level_at rs (suc n))))) e

pub charge_down_none : (n q : ℕ) (rs : ReserveRows) → n ≡ 0 → charge_down n q rs ≡ rs
unfolding charge_down
charge_down_none zero q rs h = refl
charge_down_none (suc n) q rs h = absurd (omega arith)

level_same : (o : Option Reserve) → relevel (level_in o) o ≡ o
level_same None = refl
level_same (Some x) = refl

level_put : (rs : ReserveRows) (i : ℕ) → put_level rs i (level_at rs i) ≡ rs
level_put [] i = refl
level_put (r ∷ rs) zero = ap (λ o. o ∷ rs) (level_same r)
level_put (r ∷ rs) (suc i) = ap (λ xs. r ∷ xs) (level_put rs i)

-- nothing is left to take
pub lower_none : (rs : ReserveRows) (i : ℕ) → lower rs i 0 ≡ rs
lower_none rs i = let e : level_at rs i - 0 ≡ level_at rs i = omega arith in ap (put_level rs i) e ∙ level_put rs i

-- nothing moves
pub moved_none : (rs : ReserveRows) (i j : ℕ) → give (lower rs i 0) j 0 ≡ rs
moved_none rs i j =
    let e : level_at rs j + 0 ≡ level_at rs j = omega arith in
    ap (λ xs. give xs j 0) (lower_none rs i) ∙ ap (put_level rs j) e ∙ level_put rs j

pub charge_down_nothing : (n q : ℕ) (rs : ReserveRows) → q ≡ 0 → charge_down n q rs ≡ rs
unfolding charge_down
charge_down_nothing zero q rs e = refl
charge_down_nothing (suc n) q rs e =
    let left : q - level_at rs (suc n) ≡ 0 = omega (arith, e) in
    let taken : min q (level_at rs (suc n)) ≡ 0 = omega (arith, e) in
    ap (λ x. charge_in_turn (down_from n) (q - level_at rs (suc n)) (lower rs (suc n) x)) taken
    ∙ ap (λ xs. charge_in_turn (down_from n) (q - level_at rs (suc n)) xs) (lower_none rs (suc n))
    ∙ charge_down_nothing n (q - level_at rs (suc n)) rs left

-- the root first
pub charge_loss_root : (q : ℕ) (rs : ReserveRows) → charge_loss q rs ≡ charge_down 31 (q - level_at rs 0) (lower rs 0 (min q (level_at rs 0)))
unfolding charge_loss charge_down
charge_loss_root q rs = refl
