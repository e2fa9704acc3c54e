-- The law: what holds of every node that was made and then called, whoever asked, and for what. It reads none of the
-- node's tables: from what was held when the node was made, and from the events since, it works out where the node stands,
-- and so each level, due and headroom. Assumes nothing.
--     standing_after birth h           where a node stands that was born over so much and then answered these calls so
--     Tick, tick_of e                  an accepted tick, and the one that the event e is, if it is one
--     opens k e                        the event e opens tap k
--     at_turn s t k                    the reserves at the turn of tap k, in the tick t of a node that stood at s
--     since_opened birth f k h         the sum of f over the accepted ticks since tap k last opened
--     ever_since_opened birth P k h    P held at each of these ticks
--     delivered, dues, ticks_since     what tap k moved, what it was due, and how many ticks there were, since it last opened
--     Enough k s t                     at its turn, tap k's source had the due and its sink had room for it
--     Delivery birth h k tap           the promise to an open tap
--     declared_minimum ts              what the open taps from the root are due at one tick at most, added up
--     RootSuffices s t                 a tick that took in the declared minimum found the root able to feed each of these taps
--     AtEveryTick birth P h            P held at every accepted tick
--     sum_of f h                       the sum of f over the whole list of calls
--     totals_of birth h held           the seven totals, each by a count of its own over the events
--     Law birth h held t               the whole law, of the totals t that an audit answers over a store that holds held
use Rattle.std.specs.Prelude.{◌≡◌, ℕ, ◌+◌, ◌-◌, ◌*◌, ◌/◌, ◌≤◌, Bool, false, cond, ◌↔◌, List, [], ◌∷◌, take, Some, None, Option, ◌==◌, slice_index, slice_index_or}
use Rattle.tables.specs.declared.taps.Tap.{Tap}
use Rattle.tables.specs.declared.grant.Grant.{Grant}
use Rattle.tables.specs.Reserves.{ReserveRows, level_at, headroom}
use Rattle.tables.specs.Taps.{TapRows, tap_due, after_moves}
use Rattle.node.specs.declared.totals.Totals.{Totals}
use Rattle.node.specs.Standing.{Standing, born}
use Rattle.node.specs.Calls.{Event, History, refused, opened, closed, tapped, shut, granted, settled, parked, recalled, ticked, audited}
use Rattle.node.specs.Rules.{after, before_taps}

-- where a node stands that was born over so much and then answered these calls so
abbrev pub standing_after : ℕ → History → Standing
standing_after birth [] = born birth
standing_after birth (e ∷ h) = after (standing_after birth h) e

-- an accepted tick
pub record Tick : Type 0 where
  pub harvest : ℕ
  pub loss : ℕ
  pub intake : ℕ
  pub figures : List ℕ

abbrev pub tick_of : Event → Option Tick
tick_of (refused call why) = None
tick_of (opened task parent number owner limit amount) = None
tick_of (closed task number) = None
tick_of (tapped task tap source sink n d) = None
tick_of (shut task tap) = None
tick_of (granted task reserve amount serial) = None
tick_of (settled serial amount used lost) = None
tick_of (parked serial amount) = None
tick_of (recalled task serial amount) = None
tick_of (ticked harvest loss intake figures) = Some (record { harvest = harvest; loss = loss; intake = intake; figures = figures })
tick_of (audited t) = None

abbrev pub opens : ℕ → Event → Bool
opens k (refused call why) = false
opens k (opened task parent number owner limit amount) = false
opens k (closed task number) = false
opens k (tapped task tap source sink n d) = tap == k
opens k (shut task tap) = false
opens k (granted task reserve amount serial) = false
opens k (settled serial amount used lost) = false
opens k (parked serial amount) = false
opens k (recalled task serial amount) = false
opens k (ticked harvest loss intake figures) = false
opens k (audited t) = false

-- the reserves at the turn of tap k in a tick
abbrev pub at_turn : Standing → Tick → ℕ → ReserveRows
at_turn s t k = after_moves (before_taps s t.loss t.intake) (take k s.taps) (take k t.figures)

abbrev pub sum_at_ticks : (Standing → Tick → ℕ) → Standing → Option Tick → ℕ
sum_at_ticks f s None = 0
sum_at_ticks f s (Some t) = f s t

abbrev pub all_at_ticks : (Standing → Tick → Type 0) → Standing → Option Tick → Type 0
all_at_ticks P s None = Unit {0}
all_at_ticks P s (Some t) = P s t

-- over the ticks since tap k last opened: the sum of f, and that P holds at each
abbrev pub since_opened : ℕ → (Standing → Tick → ℕ) → ℕ → History → ℕ
since_opened birth f k [] = 0
since_opened birth f k (e ∷ h) = cond (opens k e) 0 (sum_at_ticks f (standing_after birth h) (tick_of e) + since_opened birth f k h)

abbrev pub ever_since_opened : ℕ → (Standing → Tick → Type 0) → ℕ → History → Type 0
ever_since_opened birth P k [] = Unit {0}
ever_since_opened birth P k (e ∷ h) = cond (opens k e) (Unit {0}) (all_at_ticks P (standing_after birth h) (tick_of e) × ever_since_opened birth P k h)

abbrev pub due_of : Option Tap → ℕ
due_of None = 0
due_of (Some t) = tap_due t

abbrev pub due_at : ℕ → Standing → Tick → ℕ
due_at k s t = due_of (slice_index_or s.taps k None)

abbrev pub delivered : ℕ → ℕ → History → ℕ
delivered birth k h = since_opened birth (λ s t. slice_index t.figures k) k h

abbrev pub dues : ℕ → ℕ → History → ℕ
dues birth k h = since_opened birth (due_at k) k h

abbrev pub ticks_since : ℕ → ℕ → History → ℕ
ticks_since birth k h = since_opened birth (λ s t. 1) k h

-- at its turn the source has the due and the sink has room for it
abbrev pub Enough : ℕ → Standing → Tick → Type 0
Enough k s t = (tap : Tap) → slice_index_or s.taps k None ≡ Some tap → (tap_due tap ≤ level_at (at_turn s t k) tap.source) × (tap_due tap ≤ headroom (at_turn s t k) tap.sink)

pub record Delivery (birth : ℕ) (h : History) (k : ℕ) (tap : Tap) : Type 0 where
  pub sum : dues birth k h ≡ tap.n * ticks_since birth k h / tap.d
  pub at_most : delivered birth k h ≤ dues birth k h
  pub exact : (delivered birth k h ≡ dues birth k h) ↔ ever_since_opened birth (Enough k) k h

-- n / d, rounded up, of a tap from the root
abbrev pub ceiling_from_root : Option Tap → ℕ
ceiling_from_root None = 0
ceiling_from_root (Some t) = cond (t.source == 0) ((t.n + t.d - 1) / t.d) 0

abbrev pub declared_minimum : TapRows → ℕ
declared_minimum [] = 0
declared_minimum (t ∷ ts) = ceiling_from_root t + declared_minimum ts

-- where the intake is at least the declared minimum, the root has what each tap from it is due, at its turn
abbrev pub RootSuffices : Standing → Tick → Type 0
RootSuffices s t = declared_minimum s.taps ≤ t.intake → (k : ℕ) (tap : Tap) → slice_index_or s.taps k None ≡ Some tap → tap.source ≡ 0 → tap_due tap ≤ level_at (at_turn s t k) 0

abbrev pub AtEveryTick : ℕ → (Standing → Tick → Type 0) → History → Type 0
AtEveryTick birth P [] = Unit {0}
AtEveryTick birth P (e ∷ h) = all_at_ticks P (standing_after birth h) (tick_of e) × AtEveryTick birth P h

abbrev pub sum_of : (Event → ℕ) → History → ℕ
sum_of f [] = 0
sum_of f (e ∷ h) = f e + sum_of f h

abbrev pub of_tick : (Tick → ℕ) → Event → ℕ
of_tick f e = elim (tick_of e) [ None ↦ 0 | Some t ↦ f t ]

-- what each kind of event adds to the totals, over the whole list of calls
abbrev pub granted_by : Event → ℕ
granted_by (refused call why) = 0
granted_by (opened task parent number owner limit amount) = 0
granted_by (closed task number) = 0
granted_by (tapped task tap source sink n d) = 0
granted_by (shut task tap) = 0
granted_by (granted task reserve amount serial) = amount
granted_by (settled serial amount used lost) = 0
granted_by (parked serial amount) = 0
granted_by (recalled task serial amount) = 0
granted_by (ticked harvest loss intake figures) = 0
granted_by (audited t) = 0

pub record Settlement : Type 0 where
  pub amount : ℕ
  pub used : ℕ
  pub lost : ℕ

abbrev pub no_settlement : Settlement
no_settlement = record { amount = 0; used = 0; lost = 0 }

abbrev pub settlement_of : Event → Settlement
settlement_of (refused call why) = no_settlement
settlement_of (opened task parent number owner limit amount) = no_settlement
settlement_of (closed task number) = no_settlement
settlement_of (tapped task tap source sink n d) = no_settlement
settlement_of (shut task tap) = no_settlement
settlement_of (granted task reserve amount serial) = no_settlement
settlement_of (settled serial amount used lost) = record { amount = amount; used = used; lost = lost }
settlement_of (parked serial amount) = no_settlement
settlement_of (recalled task serial amount) = no_settlement
settlement_of (ticked harvest loss intake figures) = no_settlement
settlement_of (audited t) = no_settlement

abbrev pub outstanding : List Grant → ℕ
outstanding [] = 0
outstanding (g ∷ gs) = g.amount + outstanding gs

-- the seven totals, each by a count of its own over the events; what was received begins with what was held at first
abbrev pub totals_of : ℕ → History → ℕ → Totals
totals_of birth h held = record {
  received = birth + sum_of (of_tick (λ t. t.harvest)) h;
  held = held;
  «open» = outstanding (standing_after birth h).grants;
  spent = sum_of (λ e. (settlement_of e).used) h;
  lost = sum_of (of_tick (λ t. t.loss + (t.harvest - t.intake))) h + sum_of (λ e. (settlement_of e).lost) h;
  granted = sum_of granted_by h;
  settled = sum_of (λ e. (settlement_of e).amount) h;
}

pub record Law (birth : ℕ) (h : History) (held : ℕ) (t : Totals) : Type 0 where
  pub taps : (k : ℕ) (tap : Tap) → slice_index_or (standing_after birth h).taps k None ≡ Some tap → Delivery birth h k tap
  pub root : AtEveryTick birth RootSuffices h
  pub totals : t ≡ totals_of birth h held
  pub balance : t.received ≡ t.held + t.«open» + t.spent + t.lost
  pub settled : (t.granted ≡ t.settled) ↔ ((standing_after birth h).grants ≡ [])
