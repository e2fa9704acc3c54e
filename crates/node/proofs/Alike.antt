-- Rows of reserves that differ in their levels alone.
use Rattle.std.proofs.Common.{◌≡◌, ℕ, zero, suc, ◌+◌, ◌-◌, min, List, [], ◌∷◌, length, get_or, Some, None, Option, refl, ◌∙◌}
use Rattle.std.proofs.lemmas.List.{length-set}
use Rattle.tables.specs.declared.reserves.Reserve.{Reserve}
use Rattle.tables.specs.declared.taps.Tap.{Tap}
use Rattle.tables.specs.Rows.{present}
use Rattle.tables.specs.Reserves.{ReserveRows, level_at, limit_in, headroom, parent_of, relevel, put_level, give, lower, return_to, down_from, charge_in_turn, charge_loss}
use Rattle.tables.specs.Taps.{TapRows, moved, after_moves}
use Rattle.node.proofs.Places.{present_put_level}

pub record Alike (rs rs' : ReserveRows) : Type 0 where
  pub size : length rs' ≡ length rs
  pub opens : (j : ℕ) → present rs' j ≡ present rs j
  pub limits : (j : ℕ) → limit_in (get_or rs' j None) ≡ limit_in (get_or rs j None)
  pub parents : (j : ℕ) → parent_of rs' j ≡ parent_of rs j

pub alike_refl : (rs : ReserveRows) → Alike rs rs
alike_refl rs = record { size = refl; opens = λ j. refl; limits = λ j. refl; parents = λ j. refl }

pub alike_trans : {rs rs' rs'' : ReserveRows} → Alike rs rs' → Alike rs' rs'' → Alike rs rs''
alike_trans a b = record {
  size = b.size ∙ a.size;
  opens = λ j. b.opens j ∙ a.opens j;
  limits = λ j. b.limits j ∙ a.limits j;
  parents = λ j. b.parents j ∙ a.parents j;
}

limit_relevel : (v : ℕ) (o : Option Reserve) → limit_in (relevel v o) ≡ limit_in o
limit_relevel v None = refl
limit_relevel v (Some x) = refl

limit_put : (rs : ReserveRows) (i v j : ℕ) → limit_in (get_or (put_level rs i v) j None) ≡ limit_in (get_or rs j None)
limit_put [] i v j = refl
limit_put (r ∷ rs) zero v zero = limit_relevel v r
limit_put (r ∷ rs) zero v (suc j) = refl
limit_put (r ∷ rs) (suc i) v zero = refl
limit_put (r ∷ rs) (suc i) v (suc j) = limit_put rs i v j

parent_put : (rs : ReserveRows) (i v j : ℕ) → parent_of (put_level rs i v) j ≡ parent_of rs j
parent_put [] i v j = refl
parent_put (None ∷ rs) zero v zero = refl
parent_put (Some x ∷ rs) zero v zero = refl
parent_put (r ∷ rs) zero v (suc j) = refl
parent_put (r ∷ rs) (suc i) v zero = refl
parent_put (r ∷ rs) (suc i) v (suc j) = parent_put rs i v j

pub alike_put : (rs : ReserveRows) (i v : ℕ) → Alike rs (put_level rs i v)
alike_put rs i v = record {
  size = length-set rs i (relevel v (get_or rs i None));
  opens = present_put_level rs i v;
  limits = limit_put rs i v;
  parents = parent_put rs i v;
}

pub alike_lower : (rs : ReserveRows) (i q : ℕ) → Alike rs (lower rs i q)
alike_lower rs i q = alike_put rs i (level_at rs i - q)

pub alike_give : (rs : ReserveRows) (i q : ℕ) → Alike rs (give rs i q)
alike_give rs i q = alike_put rs i (level_at rs i + q)

pub alike_return : (rs : ReserveRows) (i q : ℕ) → Alike rs (return_to rs i q)
alike_return rs i q = alike_trans (alike_give rs i (min q (headroom rs i))) (alike_give (give rs i (min q (headroom rs i))) 0 (q - headroom rs i))

alike_in_turn : (is : List ℕ) (q : ℕ) (rs : ReserveRows) → Alike rs (charge_in_turn is q rs)
alike_in_turn [] q rs = alike_refl rs
alike_in_turn (i ∷ is) q rs = alike_trans (alike_lower rs i (min q (level_at rs i))) (alike_in_turn is (q - level_at rs i) (lower rs i (min q (level_at rs i))))

pub alike_charge_loss : (q : ℕ) (rs : ReserveRows) → Alike rs (charge_loss q rs)
unfolding charge_loss
alike_charge_loss q rs = alike_in_turn (0 ∷ down_from 31) q rs

pub alike_moved : (rs : ReserveRows) (o : Option Tap) (q : ℕ) → Alike rs (moved rs o q)
alike_moved rs None q = alike_refl rs
alike_moved rs (Some t) q = alike_trans (alike_lower rs t.source q) (alike_give (lower rs t.source q) t.sink q)

pub alike_after_moves : (rs : ReserveRows) (ts : TapRows) (qs : List ℕ) → Alike rs (after_moves rs ts qs)
alike_after_moves rs [] qs = alike_refl rs
alike_after_moves rs (t ∷ ts) [] = alike_refl rs
alike_after_moves rs (t ∷ ts) (q ∷ qs) = alike_trans (alike_moved rs t q) (alike_after_moves (moved rs t q) ts qs)
