-- Reserves, by their rows: reserve i stands at place i, and a place without a row is not open. Assumes nothing.
--     ReserveRows                  the 32 rows
--     first_reserves held          those of a new node: the root alone, with all that is held
--     owns rs task i               task owns the open reserve i
--     level_at rs i                the level of reserve i, 0 where it is not open
--     headroom rs i                how much more it may have, up to its limit
--     parent_of rs i               its parent
--     relevel v o                  the row o with the level v, if it is open
--     put_level rs i v             the same reserves with the level v at reserve i, if it is open
--     give rs i q, lower rs i q    q more, or less, at reserve i
--     fill rs i q                  q more at reserve i, up to its headroom
--     return_to rs i q             q more at reserve i up to its headroom, and the rest at the root
--     fill_up rs i q               the same with the root filled up to its headroom, which in a sound node is no less
--     charge_loss q rs             a loss of q: the root gives what it has, then reserve 31, and so on down to reserve 1
--     parent_is i o                the row o is that of a reserve whose parent is i
--     is_parent rs i               reserve i is the parent of an open reserve
use Rattle.std.specs.Prelude.{ℕ, zero, suc, ◌+◌, ◌-◌, min, Bool, false, List, [], ◌∷◌, drop, replicate, Some, None, Option, ◌==◌, slice_index_or, slice_set}
use Rattle.std.specs.List.{list_any}
use Rattle.rates.specs.Amount.{bound}
use Rattle.tables.specs.declared.reserves.Reserve.{Reserve}

abbrev pub ReserveRows : Type 0
ReserveRows = List (Option Reserve)

-- the root: owner task 0, limit G; it has no parent, and the field is not read
abbrev pub root_of : ℕ → Reserve
root_of held = record { owner = 0; parent = 0; limit = bound; level = held }

abbrev pub first_reserves : ℕ → ReserveRows
first_reserves held = Some (root_of held) ∷ replicate 31 None

abbrev pub owned_by : ℕ → Option Reserve → Bool
owned_by task None = false
owned_by task (Some x) = x.owner == task

abbrev pub owns : ReserveRows → ℕ → ℕ → Bool
owns rs task i = owned_by task (slice_index_or rs i None)

abbrev pub level_in : Option Reserve → ℕ
level_in None = 0
level_in (Some x) = x.level

abbrev pub limit_in : Option Reserve → ℕ
limit_in None = 0
limit_in (Some x) = x.limit

abbrev pub parent_in : Option Reserve → ℕ
parent_in None = 0
parent_in (Some x) = x.parent

abbrev pub level_at : ReserveRows → ℕ → ℕ
level_at rs i = level_in (slice_index_or rs i None)

abbrev pub headroom : ReserveRows → ℕ → ℕ
headroom rs i = limit_in (slice_index_or rs i None) - level_at rs i

abbrev pub parent_of : ReserveRows → ℕ → ℕ
parent_of rs i = parent_in (slice_index_or rs i None)

abbrev pub relevel : ℕ → Option Reserve → Option Reserve
relevel v None = None
relevel v (Some x) = Some (record { owner = x.owner; parent = x.parent; limit = x.limit; level = v })

abbrev pub put_level : ReserveRows → ℕ → ℕ → ReserveRows
put_level rs i v = slice_set rs i (relevel v (slice_index_or rs i None))

abbrev pub give : ReserveRows → ℕ → ℕ → ReserveRows
give rs i q = put_level rs i (level_at rs i + q)

abbrev pub lower : ReserveRows → ℕ → ℕ → ReserveRows
lower rs i q = put_level rs i (level_at rs i - q)

abbrev pub fill : ReserveRows → ℕ → ℕ → ReserveRows
fill rs i q = give rs i (min q (headroom rs i))

abbrev pub return_to : ReserveRows → ℕ → ℕ → ReserveRows
return_to rs i q = give (fill rs i q) 0 (q - headroom rs i)

abbrev pub fill_up : ReserveRows → ℕ → ℕ → ReserveRows
fill_up rs i q = fill (fill rs i q) 0 (q - headroom rs i)

-- n down to 1
abbrev pub down_from : ℕ → List ℕ
down_from = elim [ zero ↦ [] | suc (n → below) ↦ suc n ∷ below ]

-- from each in turn as far as that goes
abbrev pub charge_in_turn : List ℕ → ℕ → ReserveRows → ReserveRows
charge_in_turn [] q rs = rs
charge_in_turn (i ∷ is) q rs = charge_in_turn is (q - level_at rs i) (lower rs i (min q (level_at rs i)))

unfoldable pub charge_loss : ℕ → ReserveRows → ReserveRows
charge_loss q rs = charge_in_turn (0 ∷ down_from 31) q rs

-- the root is no reserve's child
abbrev pub parent_is : ℕ → Option Reserve → Bool
parent_is i None = false
parent_is i (Some x) = x.parent == i

abbrev pub is_parent : ReserveRows → ℕ → Bool
is_parent rs i = list_any (parent_is i) (drop 1 rs)
