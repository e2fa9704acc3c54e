-- No reserve but the root ever stands above its limit (the root does not since all levels together are within it).
use Rattle.std.proofs.Common.{◌≡◌, ℕ, zero, suc, ◌+◌, ◌-◌, ◌≤◌, min, List, [], ◌∷◌, get_or, set, Some, None, Option, arith}
use Rattle.tables.specs.declared.reserves.Reserve.{Reserve}
use Rattle.tables.specs.declared.taps.Tap.{Tap}
use Rattle.tables.specs.Reserves.{ReserveRows, level_in, level_at, limit_in, headroom, relevel, put_level, give, lower, return_to, down_from, charge_in_turn, charge_loss}
use Rattle.tables.specs.Taps.{TapRows, moved, after_moves, figure_of, Figures}
use Rattle.node.specs.Sound.{Within}
use Rattle.node.proofs.Alike.{alike_lower}

abbrev AllWithin : ReserveRows → Type 0
AllWithin rs = (j : ℕ) → level_at rs j ≤ limit_in (get_or rs j None)

all_set : (rs : ReserveRows) (i : ℕ) (o : Option Reserve) → level_in o ≤ limit_in o → AllWithin rs → AllWithin (set rs i o)
all_set [] i o l w j = omega arith
all_set (r ∷ rs) zero o l w zero = l
all_set (r ∷ rs) zero o l w (suc j) = w (suc j)
all_set (r ∷ rs) (suc i) o l w zero = w zero
all_set (r ∷ rs) (suc i) o l w (suc j) = all_set rs i o l (λ k. w (suc k)) j

pub within_set : (rs : ReserveRows) (i : ℕ) (o : Option Reserve) → level_in o ≤ limit_in o → Within rs → Within (set rs i o)
within_set [] i o l w j = omega arith
within_set (r ∷ rs) zero o l w j = w j
within_set (r ∷ rs) (suc i) o l w j = all_set rs i o l w j

within_root : (rs : ReserveRows) (v : ℕ) → Within rs → Within (put_level rs 0 v)
within_root [] v w j = omega arith
within_root (r ∷ rs) v w j = w j

pub within_root_given : (rs : ReserveRows) (q : ℕ) → Within rs → Within (give rs 0 q)
within_root_given rs q w = within_root rs (level_at rs 0 + q) w

relevel_fits : (v : ℕ) (o : Option Reserve) → v ≤ limit_in o → level_in (relevel v o) ≤ limit_in (relevel v o)
relevel_fits v None l = omega arith
relevel_fits v (Some x) l = l

within_put : (rs : ReserveRows) (i v : ℕ) → v ≤ limit_in (get_or rs i None) → Within rs → Within (put_level rs i v)
within_put rs i v l w = within_set rs i (relevel v (get_or rs i None)) (relevel_fits v (get_or rs i None) l) w

pub within_lower : (rs : ReserveRows) (i q : ℕ) → Within rs → Within (lower rs i q)
within_lower rs zero q w = within_root rs (level_at rs 0 - q) w
within_lower rs (suc i) q w = within_put rs (suc i) (level_at rs (suc i) - q) (omega (arith, w i)) w

pub within_give : (rs : ReserveRows) (i q : ℕ) → q ≤ headroom rs i → Within rs → Within (give rs i q)
within_give rs zero q l w = within_root rs (level_at rs 0 + q) w
within_give rs (suc i) q l w = within_put rs (suc i) (level_at rs (suc i) + q) (omega (arith, w i)) w

pub within_return : (rs : ReserveRows) (i q : ℕ) → Within rs → Within (return_to rs i q)
within_return rs i q w =
    let given : ReserveRows = give rs i (min q (headroom rs i)) in
    within_root given (level_at given 0 + (q - headroom rs i)) (within_give rs i (min q (headroom rs i)) (omega arith) w)

within_in_turn : (is : List ℕ) (q : ℕ) (rs : ReserveRows) → Within rs → Within (charge_in_turn is q rs)
within_in_turn [] q rs w = w
within_in_turn (i ∷ is) q rs w = within_in_turn is (q - level_at rs i) (lower rs i (min q (level_at rs i))) (within_lower rs i (min q (level_at rs i)) w)

pub within_charge_loss : (q : ℕ) (rs : ReserveRows) → Within rs → Within (charge_loss q rs)
unfolding charge_loss
within_charge_loss q rs w = within_in_turn (0 ∷ down_from 31) q rs w

level_lower_le : (rs : ReserveRows) (i q j : ℕ) → level_at (lower rs i q) j ≤ level_at rs j
level_lower_le [] i q j = omega arith
level_lower_le (None ∷ rs) zero q zero = omega arith
level_lower_le (Some x ∷ rs) zero q zero = omega arith
level_lower_le (r ∷ rs) zero q (suc j) = omega arith
level_lower_le (r ∷ rs) (suc i) q zero = omega arith
level_lower_le (r ∷ rs) (suc i) q (suc j) = level_lower_le rs i q j

-- a move makes room nowhere smaller but at its sink
headroom_lowered : (rs : ReserveRows) (i q j : ℕ) → headroom rs j ≤ headroom (lower rs i q) j
headroom_lowered rs i q j = omega (arith, level_lower_le rs i q j, (alike_lower rs i q).limits j)

pub within_moved : (rs : ReserveRows) (o : Option Tap) (q : ℕ) → q ≡ figure_of rs o → Within rs → Within (moved rs o q)
within_moved rs None q e w = w
within_moved rs (Some t) q e w = within_give (lower rs t.source q) t.sink q (omega (arith, headroom_lowered rs t.source q t.sink)) (within_lower rs t.source q w)

pub within_after_moves : (rs : ReserveRows) (ts : TapRows) (qs : List ℕ) → Figures rs ts qs → Within rs → Within (after_moves rs ts qs)
within_after_moves rs [] qs f w = w
within_after_moves rs (t ∷ ts) [] f w = w
within_after_moves rs (t ∷ ts) (q ∷ qs) f w = within_after_moves (moved rs t q) ts qs f.1 (within_moved rs t q f.0 w)
