-- When a node is well made. Assumes nothing.
--     levels rs          the sum of the levels
--     Within rs          no reserve but the root stands above its limit
--     Parents rs         the parent of every open reserve is open
--     TapsWell rs ts     every open tap has a rate, and leads from one open reserve to another
--     GrantsWell rs gs   every open grant is of an open reserve, and of at most G
--     Ledger low high gs  the serials of gs rise from above low up to high, and no amount is 0
--     Well s held        all of these of a node that stands at s over a store that holds so much, whose levels add up to that
--     Few s b            what is counted fits 64 bits
--     Whole s            the two together, of a state
use Rattle.std.specs.Prelude.{◌≡◌, ℕ, suc, ◌+◌, ◌-◌, ◌*◌, ◌<◌, ◌≤◌, true, List, [], ◌∷◌, length, Some, None, slice_index_or}
use Rattle.rates.specs.Amount.{bound}
use Rattle.rates.specs.Rate.{Fits}
use Rattle.tables.specs.Rows.{present}
use Rattle.tables.specs.Reserves.{ReserveRows, level_in, limit_in, level_at, parent_of}
use Rattle.tables.specs.Taps.{TapRows}
use Rattle.tables.specs.declared.taps.Tap.{Tap}
use Rattle.tables.specs.declared.grant.Grant.{Grant}
use Rattle.tables.specs.declared.books.Books.{Books}
use Rattle.node.specs.Standing.{Standing}
use Rattle.node.specs.Steps.{State}

abbrev pub levels : ReserveRows → ℕ
levels [] = 0
levels (r ∷ rs) = level_in r + levels rs

-- the root does not either, since all levels together are at most G
abbrev pub Within : ReserveRows → Type 0
Within rs = (j : ℕ) → level_at rs (suc j) ≤ limit_in (slice_index_or rs (suc j) None)

abbrev pub Parents : ReserveRows → Type 0
Parents rs = (j : ℕ) → present rs (suc j) ≡ true → present rs (parent_of rs (suc j)) ≡ true

pub record TapWell (rs : ReserveRows) (t : Tap) : Type 0 where
  pub from : present rs t.source ≡ true
  pub to : present rs t.sink ≡ true
  pub apart : t.source ≡ t.sink → ⊥
  pub rate : Fits t.n t.d t.r

abbrev pub TapsWell : ReserveRows → TapRows → Type 0
TapsWell rs ts = (k : ℕ) (t : Tap) → slice_index_or ts k None ≡ Some t → TapWell rs t

abbrev pub GrantsWell : ReserveRows → List Grant → Type 0
GrantsWell rs [] = Unit {0}
GrantsWell rs (g ∷ gs) = (present rs g.reserve ≡ true) × (g.amount ≤ bound) × GrantsWell rs gs

abbrev pub Ledger : ℕ → ℕ → List Grant → Type 0
Ledger low high [] = low ≤ high
Ledger low high (g ∷ gs) = (low < g.serial) × (1 ≤ g.amount) × Ledger g.serial high gs

pub record Well (s : Standing) (held : ℕ) : Type 0 where
  pub reserves : length s.reserves ≡ 32
  pub taps : length s.taps ≡ 96
  pub root : present s.reserves 0 ≡ true
  pub root_limit : limit_in (slice_index_or s.reserves 0 None) ≡ bound
  pub levels : levels s.reserves ≡ held
  pub within : Within s.reserves
  pub parents : Parents s.reserves
  pub ends : TapsWell s.reserves s.taps
  pub owners : GrantsWell s.reserves s.grants
  pub few : length s.grants ≤ 64
  pub given : length s.grants ≤ s.serials
  pub ledger : Ledger 0 s.serials s.grants
  pub serials : s.serials ≤ bound
  pub ticks : s.ticks ≤ bound

-- each tick adds at most G to what is received and at most twice G to what is lost, each grant at most G to the rest
pub record Few (s : Standing) (b : Books) : Type 0 where
  pub received : b.received ≤ bound * (s.ticks + 1)
  pub outstanding : b.«open» ≤ bound * s.serials
  pub granted : b.granted ≤ bound * s.serials
  pub settled : b.settled ≤ bound * (s.serials - length s.grants)
  pub spent : b.spent ≤ bound * (s.serials - length s.grants)
  pub lost : b.lost ≤ 2 * bound * s.ticks + bound * (s.serials - length s.grants)

pub record Whole (s : State) : Type 0 where
  pub well : Well s.standing s.store.held
  pub few : Few s.standing s.books
