-- When a call is turned down, and where a node stands after one that is not. Assumes nothing.
--     between low x high        x is a number from low to high
--     first_of cs               the reason of the first test in cs that holds
--     request_tests s t i q     what a grant is tested for before the store is asked
--     tests m s call            what the call is tested for, in checking order, over a store of meaning m
--     turned_down m s call      why the call is turned down, if it is
--     before_taps s loss in     the reserves as the taps find them, at a tick that told this loss and this intake
--     after s e                 where a node that stood at s stands after the event e
use Rattle.std.specs.Prelude.{ℕ, ◌+◌, ◌-◌, Bool, true, false, cond, not, ◌&&◌, ◌||◌, List, [], ◌∷◌, ◌++◌, length, map, Some, None, Option, ◌==◌, nat_le, nat_lt, slice_index_or, slice_set}
use Rattle.std.specs.List.{list_any}
use Rattle.rates.specs.Amount.{bound}
use Rattle.store.specs.Meaning.{Meaning, top, fault_from}
use Rattle.tables.specs.Rows.{present}
use Rattle.tables.specs.Reserves.{ReserveRows, owns, level_at, parent_of, give, lower, return_to, charge_loss, is_parent}
use Rattle.tables.specs.Taps.{TapRows, ends_at, stepped, after_moves}
use Rattle.tables.specs.Grants.{reserve_of, fits_out, fits_parked, of_reserve, without, marked}
use Rattle.tables.specs.declared.taps.Tap.{Tap}
use Rattle.tables.specs.declared.grant.Grant.{Grant}
use Rattle.node.specs.declared.denial.Denial.{Denial}
use Rattle.node.specs.declared.denial.Denial.TheVariants.{ShortReport, OutOfRange, Absent, AlreadyOpen, NoSuchGrant, NotOwner, SameEnds}
use Rattle.node.specs.declared.denial.Denial.TheVariants.{AboveLimit, InUse, Overused, TooManyGrants, Exhausted, LevelTooLow, StoreRefused}
use Rattle.node.specs.Standing.{Standing}
use Rattle.node.specs.Calls.{Call, Event, open_reserve, close_reserve, open_tap, shut_tap, request, settle, park, recall, tick, audit}
use Rattle.node.specs.Calls.{refused, opened, closed, tapped, shut, granted, settled, parked, recalled, ticked, audited}

abbrev pub first_of : List (Bool × Denial) → Option Denial
first_of [] = None
first_of (c ∷ cs) = cond c.0 (Some c.1) (first_of cs)

abbrev pub between : ℕ → ℕ → ℕ → Bool
between low x high = nat_le low x && nat_le x high

abbrev pub source_in : Option Tap → ℕ
source_in None = 0
source_in (Some t) = t.source

-- what a grant is tested for before the store is asked
abbrev pub request_tests : Standing → ℕ → ℕ → ℕ → List (Bool × Denial)
request_tests s task reserve amount =
    (not (nat_le reserve 31 && between 1 amount bound), OutOfRange)
    ∷ (not (present s.reserves reserve), Absent)
    ∷ (not (owns s.reserves task reserve), NotOwner)
    ∷ (nat_le 64 (length s.grants), TooManyGrants)
    ∷ (nat_le bound s.serials, Exhausted)
    ∷ (nat_lt (level_at s.reserves reserve) amount, LevelTooLow task reserve (amount - level_at s.reserves reserve))
    ∷ []

-- in each call: the ranges first, then what is absent or open already, then the owner, then the rest
abbrev pub tests : Meaning → Standing → Call → List (Bool × Denial)
tests m s (open_reserve task parent number owner limit amount) =
    (not (nat_le parent 31 && between 1 number 31 && nat_le limit bound), OutOfRange)
    ∷ (not (present s.reserves parent), Absent)
    ∷ (present s.reserves number, AlreadyOpen)
    ∷ (not (owns s.reserves task parent), NotOwner)
    ∷ (nat_lt limit amount, AboveLimit)
    ∷ (nat_lt (level_at s.reserves parent) amount, LevelTooLow task parent (amount - level_at s.reserves parent))
    ∷ []
tests m s (close_reserve task number) =
    (not (between 1 number 31), OutOfRange)
    ∷ (not (present s.reserves number), Absent)
    ∷ (not (owns s.reserves task number), NotOwner)
    ∷ (is_parent s.reserves number || list_any (ends_at number) s.taps || list_any (of_reserve number) s.grants, InUse)
    ∷ []
tests m s (open_tap task tap source sink n d) =
    (not (nat_le tap 95 && nat_le source 31 && nat_le sink 31 && nat_le n 1000000 && between 1 d 65535), OutOfRange)
    ∷ (not (present s.reserves source && present s.reserves sink), Absent)
    ∷ (present s.taps tap, AlreadyOpen)
    ∷ (not (owns s.reserves task source), NotOwner)
    ∷ ((source == sink), SameEnds)
    ∷ []
tests m s (shut_tap task tap) =
    (not (nat_le tap 95), OutOfRange)
    ∷ (not (present s.taps tap), Absent)
    ∷ (not (owns s.reserves task (source_in (slice_index_or s.taps tap None))), NotOwner)
    ∷ []
tests m s (request task reserve amount) =
    request_tests s task reserve amount
    ++ (nat_lt (top m.stages) amount, StoreRefused (record { task = task; reserve = reserve; fault = fault_from 0 amount m.stages }))
    ∷ []
tests m s (settle serial amount used) =
    (not (fits_out serial amount s.grants), NoSuchGrant)
    ∷ (nat_lt amount used, Overused)
    ∷ []
tests m s (park serial amount) = (not (fits_out serial amount s.grants), NoSuchGrant) ∷ []
tests m s (recall task serial) =
    (not (fits_parked serial s.grants), NoSuchGrant)
    ∷ (not (owns s.reserves task (reserve_of serial s.grants)), NotOwner)
    ∷ []
tests m s (tick harvest places) =
    (nat_lt places 96, ShortReport)
    ∷ (nat_lt bound harvest, OutOfRange)
    ∷ (nat_le bound s.ticks, Exhausted)
    ∷ []
tests m s audit = []

abbrev pub turned_down : Meaning → Standing → Call → Option Denial
turned_down m s call = first_of (tests m s call)

abbrev pub with_reserves : Standing → ReserveRows → Standing
with_reserves s rs = record { reserves = rs; taps = s.taps; grants = s.grants; serials = s.serials; ticks = s.ticks }

abbrev pub with_taps : Standing → TapRows → Standing
with_taps s ts = record { reserves = s.reserves; taps = ts; grants = s.grants; serials = s.serials; ticks = s.ticks }

abbrev pub with_grants : Standing → List Grant → Standing
with_grants s gs = record { reserves = s.reserves; taps = s.taps; grants = gs; serials = s.serials; ticks = s.ticks }

-- the levels as the loss left them, and the root with the intake
abbrev pub before_taps : Standing → ℕ → ℕ → ReserveRows
before_taps s loss intake = give (charge_loss loss s.reserves) 0 intake

abbrev pub after : Standing → Event → Standing
after s (refused call why) = s
-- the new reserve begins with what its parent gives up
after s (opened task parent number owner limit amount) =
    with_reserves s (slice_set (lower s.reserves parent amount) number (Some (record { owner = owner; parent = parent; limit = limit; level = amount })))
-- the parent takes the level back, and the root what the parent has no room for
after s (closed task number) =
    with_reserves s (return_to (slice_set s.reserves number None) (parent_of s.reserves number) (level_at s.reserves number))
-- the first remainder is 0
after s (tapped task tap source sink n d) =
    with_taps s (slice_set s.taps tap (Some (record { source = source; sink = sink; n = n; d = d; r = 0 })))
after s (shut task tap) = with_taps s (slice_set s.taps tap None)
-- the level is lowered by the amount, and the grant is out
after s (granted task reserve amount serial) = record {
  reserves = lower s.reserves reserve amount;
  taps = s.taps;
  grants = s.grants ++ record { serial = serial; amount = amount; reserve = reserve; parked = false } ∷ [];
  serials = serial;
  ticks = s.ticks;
}
-- of the unused quanta those that the store took come back: to the reserve while it has room, and then to the root
after s (settled serial amount used lost) = record {
  reserves = return_to s.reserves (reserve_of serial s.grants) (amount - used - lost);
  taps = s.taps;
  grants = without serial s.grants;
  serials = s.serials;
  ticks = s.ticks;
}
after s (parked serial amount) = with_grants s (marked true serial s.grants)
after s (recalled task serial amount) = with_grants s (marked false serial s.grants)
-- the taps move their figures in ascending number, and each remainder advances, whatever was moved
after s (ticked harvest loss intake figures) = record {
  reserves = after_moves (before_taps s loss intake) s.taps figures;
  taps = map stepped s.taps;
  grants = s.grants;
  serials = s.serials;
  ticks = s.ticks + 1;
}
after s (audited totals) = s
