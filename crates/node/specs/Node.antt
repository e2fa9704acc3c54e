-- A node over any store, whose members are G. Assumes nothing.
--     standing_of n          where the node n stands, by its tables
--     IsOut slip n           the slip's grant is one of n's, and out
--     Marked p serial n m    m is n with the grant of this serial parked (p true) or out (p false)
--     state G n              its state: the store's meaning, where it stands, and its books
--     SoundNode G n          its store is sound, and its state is whole
--     Between G A s loss b   b is the sound store s after a tick that lost so much, of which A tells
--     Stored G A s e s'      s' is what the event e makes of the store s, where A tells of the value after a change
--     Extends G n e m        from a sound node n, the event e leads to m, which is sound
--     Called G A n e m       the same, and what became of the store
--     Newborn G s n          n is a new node over the store s
--     DrawnFor G t i q s r s'       s' is the store s after a draw of q for task t from reserve i that answered r
--     refusal_of r           why a call was refused, if it was
--     opening, closing, tapping, shutting, granting, settling, parking, recalling, ticking
--                            the event of each call, by its arguments and its answer
use Rattle.std.specs.Prelude.{◌≡◌, ℕ, ◌-◌, Bool, true, List, length, take, Some, None, Ok, Err, Option, Result}
use Rattle.store.specs.declared.store.Store.{Ghosts}
use Rattle.store.specs.Meaning.{Meaning, Change, charge, draw, tick as store_tick, meaning, Drawn, Ticked}
use Rattle.tables.specs.Grants.{open_in, fits_out, marked}
use Rattle.tables.specs.Books.{first_books}
use Rattle.node.specs.declared.denial.Denial.{Denial}
use Rattle.node.specs.declared.denial.Overdraw.{Overdraw}
use Rattle.node.specs.declared.slip.Slip.{Slip}
use Rattle.node.specs.declared.node.Node.{Node}
use Rattle.node.specs.Standing.{Standing, born}
use Rattle.node.specs.Calls.{Event, open_reserve, close_reserve, open_tap, shut_tap, request, settle, park, recall, tick}
use Rattle.node.specs.Calls.{refused, opened, closed, tapped, shut, granted, settled, parked, recalled, ticked, audited}
use Rattle.node.specs.Steps.{State, Step}
use Rattle.node.specs.Sound.{Whole}

abbrev pub refusal_of : {A : Type 0} → Result A Denial → Option Denial
refusal_of (Ok x) = None
refusal_of (Err d) = Some d

abbrev pub standing_of : {S : Type 0} → Node S → Standing
standing_of n = record { reserves = n.reserves.rows; taps = n.taps.rows; grants = open_in n.grants; serials = n.grants.serials; ticks = n.ticks }

-- so that it can be settled or parked
abbrev pub IsOut : {S : Type 0} → Slip → Node S → Type 0
IsOut slip n = fits_out slip.serial slip.amount (open_in n.grants) ≡ true

-- the grant with this serial is parked, or out, and nothing else has changed
pub record Marked {S : Type 0} (p : Bool) (serial : ℕ) (n m : Node S) : Type 0 where
  pub others : m ≡ record { store = n.store; reserves = n.reserves; taps = n.taps; grants = m.grants; books = n.books; ticks = n.ticks }
  pub grants : open_in m.grants ≡ marked p serial (open_in n.grants)
  pub serials : m.grants.serials ≡ n.grants.serials

module _ {S : Type 0} (G : Ghosts S) where
  abbrev pub store_means : Node S → Meaning
  store_means n = meaning G.held G.capacity G.stages n.store

  abbrev pub state : Node S → State
  state n = record { store = store_means n; standing = standing_of n; books = n.books }

  pub record SoundNode (n : Node S) : Type 0 where
    pub store : G.sound n.store
    pub whole : Whole (state n)

  abbrev pub Extends : Node S → Event → Node S → Type 0
  Extends n e m = SoundNode n → SoundNode m × Step (state n) e (state m)

  -- the root alone is open, with all that is held
  pub record Newborn (over : S) (n : Node S) : Type 0 where
    pub sound : SoundNode n
    pub store : n.store ≡ over
    pub standing : standing_of n ≡ born (G.held over)
    pub books : n.books ≡ first_books (G.held over)

  -- a fault is told with the task and the reserve that met it
  abbrev pub DrawnFor : ℕ → ℕ → ℕ → S → Result (Unit {0}) Overdraw → S → Type 0
  DrawnFor task reserve q s (Ok u) s' = (G.sound s → G.sound s' × Drawn q (meaning G.held G.capacity G.stages s) (Ok u) (meaning G.held G.capacity G.stages s'))
  DrawnFor task reserve q s (Err o) s' =
      (o.task ≡ task) × (o.reserve ≡ reserve) × (G.sound s → Drawn q (meaning G.held G.capacity G.stages s) (Err o.fault) (meaning G.held G.capacity G.stages s'))

-- which value a call makes of the store, where A tells which values may stand after a change
module _ {S : Type 0} (G : Ghosts S) (A : Change → S → S → Type 0) where
  -- a tick of the store has passed, and the harvest has not been charged yet
  pub record Between (s : S) (loss : ℕ) (b : S) : Type 0 where
    pub sound : G.sound b
    pub ticked : Ticked (meaning G.held G.capacity G.stages s) loss (meaning G.held G.capacity G.stages b)
    pub told : A store_tick s b

  -- a grant draws its amount, and a settlement charges what was not used; a tick ticks the store, tells the loss that was
  -- coming, and then charges the harvest; no other call touches the store
  abbrev pub Stored : S → Event → S → Type 0
  Stored s (refused call why) s' = s' ≡ s
  Stored s (opened task parent number owner limit amount) s' = s' ≡ s
  Stored s (closed task number) s' = s' ≡ s
  Stored s (tapped task tap source sink n d) s' = s' ≡ s
  Stored s (shut task tap) s' = s' ≡ s
  Stored s (granted task reserve amount serial) s' = G.sound s → A (draw amount) s s'
  Stored s (settled serial amount used lost) s' = G.sound s → A (charge (amount - used)) s s'
  Stored s (parked serial amount) s' = s' ≡ s
  Stored s (recalled task serial amount) s' = s' ≡ s
  Stored s (ticked harvest loss intake figures) s' =
      G.sound s → (loss ≡ G.coming_loss s) × ((b : S) × Between s loss b × A (charge harvest) b s')
  Stored s (audited t) s' = s' ≡ s

  -- all that a call of the node n says of the node m which it leaves
  pub record Called (n : Node S) (e : Event) (m : Node S) : Type 0 where
    pub step : Extends G n e m
    pub stored : Stored n.store e m.store

abbrev pub opening : ℕ → ℕ → ℕ → ℕ → ℕ → ℕ → Result (Unit {0}) Denial → Event
opening task parent number owner limit amount (Ok _) = opened task parent number owner limit amount
opening task parent number owner limit amount (Err d) = refused (open_reserve task parent number owner limit amount) d

abbrev pub closing : ℕ → ℕ → Result (Unit {0}) Denial → Event
closing task number (Ok _) = closed task number
closing task number (Err d) = refused (close_reserve task number) d

abbrev pub tapping : ℕ → ℕ → ℕ → ℕ → ℕ → ℕ → Result (Unit {0}) Denial → Event
tapping task tap source sink n d (Ok _) = tapped task tap source sink n d
tapping task tap source sink n d (Err x) = refused (open_tap task tap source sink n d) x

abbrev pub shutting : ℕ → ℕ → Result (Unit {0}) Denial → Event
shutting task tap (Ok _) = shut task tap
shutting task tap (Err d) = refused (shut_tap task tap) d

abbrev pub granting : ℕ → ℕ → ℕ → Result Slip Denial → Event
granting task reserve amount (Ok slip) = granted task reserve amount slip.serial
granting task reserve amount (Err d) = refused (request task reserve amount) d

abbrev pub settling : Slip → ℕ → Result ℕ (Denial × Slip) → Event
settling slip used (Ok lost) = settled slip.serial slip.amount used lost
settling slip used (Err e) = refused (settle slip.serial slip.amount used) e.0

abbrev pub parking : Slip → Result ℕ (Denial × Slip) → Event
parking slip (Ok serial) = parked slip.serial slip.amount
parking slip (Err e) = refused (park slip.serial slip.amount) e.0

abbrev pub recalling : ℕ → ℕ → Result Slip Denial → Event
recalling task serial (Ok slip) = recalled task serial slip.amount
recalling task serial (Err d) = refused (recall task serial) d

-- the figures are the first 96 places of the report
abbrev pub ticking : ℕ → List ℕ → Result (ℕ × ℕ) Denial → Event
ticking harvest report (Ok a) = ticked harvest a.0 a.1 (take 96 report)
ticking harvest report (Err d) = refused (tick harvest (length report)) d
