-- Constant taps, by their rows: tap k stands at place k, and a place without a row is not open. Assumes nothing.
--     TapRows                 the 96 rows
--     first_taps              none is open
--     tap_due t               what the tap t is due at a tick
--     with_remainder r o      the row o with the remainder r, if it is open
--     stepped o               the row o after a tick: its remainder has advanced
--     ends_at i o             the tap o begins or ends at reserve i
--     figure_of rs o          what the tap o moves at its turn, where the reserves stand as rs
--     moved rs o q            the reserves after the tap o moved q
--     after_moves rs ts qs    the reserves after the taps ts, in their order, moved the figures qs
--     Figures rs ts qs        the figures are those of the taps, each at its turn
--     TapFits o               the row o, if one is there, has a rate
--     Moves rs o              a tap is at the row o, it has a rate, and both its ends are open where the reserves stand as rs
--     Ran k rs ts q rs' ts'   what tap k's turn moved, and what it left
--     AllFit ts               there are 96 rows, and every open tap has a rate
--     Turns rs ts qs rs' ts'  what the turns of all taps moved, and what they left
use Rattle.std.specs.Prelude.{◌≡◌, ℕ, min, Bool, true, false, ◌||◌, List, [], ◌∷◌, length, map, replicate, Some, None, Option, ◌==◌, slice_index_or, slice_set}
use Rattle.rates.specs.Rate.{Fits, due, remainder}
use Rattle.tables.specs.declared.taps.Tap.{Tap}
use Rattle.tables.specs.Rows.{present}
use Rattle.tables.specs.Reserves.{ReserveRows, level_at, headroom, give, lower}

abbrev pub TapRows : Type 0
TapRows = List (Option Tap)

abbrev pub first_taps : TapRows
first_taps = replicate 96 None

abbrev pub tap_due : Tap → ℕ
tap_due t = due t.n t.d t.r

abbrev pub with_remainder : ℕ → Option Tap → Option Tap
with_remainder r None = None
with_remainder r (Some t) = Some (record { source = t.source; sink = t.sink; n = t.n; d = t.d; r = r })

abbrev pub stepped : Option Tap → Option Tap
stepped None = None
stepped (Some t) = with_remainder (remainder t.n t.d t.r) (Some t)

abbrev pub ends_at : ℕ → Option Tap → Bool
ends_at i None = false
ends_at i (Some t) = t.source == i || t.sink == i

-- as much of the due as the source has and the sink has room for
abbrev pub moves_at : ReserveRows → Tap → ℕ
moves_at rs t = min (tap_due t) (min (level_at rs t.source) (headroom rs t.sink))

abbrev pub figure_of : ReserveRows → Option Tap → ℕ
figure_of rs None = 0
figure_of rs (Some t) = moves_at rs t

abbrev pub moved : ReserveRows → Option Tap → ℕ → ReserveRows
moved rs None q = rs
moved rs (Some t) q = give (lower rs t.source q) t.sink q

abbrev pub after_moves : ReserveRows → TapRows → List ℕ → ReserveRows
after_moves rs [] qs = rs
after_moves rs (t ∷ ts) [] = rs
after_moves rs (t ∷ ts) (q ∷ qs) = after_moves (moved rs t q) ts qs

-- one figure for each tap, on the levels that those before it left
abbrev pub Figures : ReserveRows → TapRows → List ℕ → Type 0
Figures rs [] [] = Unit {0}
Figures rs [] (q ∷ qs) = ⊥
Figures rs (t ∷ ts) [] = ⊥
Figures rs (t ∷ ts) (q ∷ qs) = (q ≡ figure_of rs t) × Figures (moved rs t q) ts qs

abbrev pub TapFits : Option Tap → Type 0
TapFits None = Unit {0}
TapFits (Some t) = Fits t.n t.d t.r

abbrev pub Moves : ReserveRows → Option Tap → Type 0
Moves rs None = ⊥
Moves rs (Some t) = Fits t.n t.d t.r × (present rs t.source ≡ true) × (present rs t.sink ≡ true)

-- the due moves as far as it can, and lapses otherwise; a row from which no rate can be made moves nothing
pub record Ran (k : ℕ) (rs : ReserveRows) (ts : TapRows) (q : ℕ) (rs' : ReserveRows) (ts' : TapRows) : Type 0 where
  pub figure : TapFits (slice_index_or ts k None) → q ≡ figure_of rs (slice_index_or ts k None)
  pub reserves : TapFits (slice_index_or ts k None) → rs' ≡ moved rs (slice_index_or ts k None) q
  pub taps : TapFits (slice_index_or ts k None) → ts' ≡ slice_set ts k (stepped (slice_index_or ts k None))
  pub idle : (TapFits (slice_index_or ts k None) → ⊥) → (q ≡ 0) × (rs' ≡ rs) × (ts' ≡ ts)

abbrev pub AllFit : TapRows → Type 0
AllFit ts = (length ts ≡ 96) × ((k : ℕ) → TapFits (slice_index_or ts k None))

pub record Turns (rs : ReserveRows) (ts : TapRows) (qs : List ℕ) (rs' : ReserveRows) (ts' : TapRows) : Type 0 where
  pub figures : Figures rs ts qs
  pub reserves : rs' ≡ after_moves rs ts qs
  pub taps : ts' ≡ map stepped ts
