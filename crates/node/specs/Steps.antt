-- One call of a node, as a relation between the states before and after it. Assumes nothing.
--     State             the store's meaning, where the node stands, and what it has counted
--     counted b e       the books after the event e
--     asked n e         the call that the event e answers, for a report array of n places
--     verdict e         why that call was refused, if it was
--     totals_in held b  the seven totals, by the books and what the store holds
--     Answers s e m     what an accepted call answers, and what it leaves of the store
--     Step s e s'       one call: s is the state before, e the call with its answer, s' the state after
use Rattle.std.specs.Prelude.{◌≡◌, ℕ, ◌+◌, ◌-◌, Some, None, Option}
use Rattle.store.specs.Meaning.{Meaning, Charged, Ticked, after_draw}
use Rattle.tables.specs.Taps.{Figures}
use Rattle.tables.specs.Grants.{amount_of}
use Rattle.tables.specs.declared.books.Books.{Books}
use Rattle.node.specs.declared.denial.Denial.{Denial}
use Rattle.node.specs.declared.totals.Totals.{Totals}
use Rattle.node.specs.Standing.{Standing}
use Rattle.node.specs.Calls.{Call, Event, open_reserve, close_reserve, open_tap, shut_tap, request, settle, park, recall, tick, audit}
use Rattle.node.specs.Calls.{refused, opened, closed, tapped, shut, granted, settled, parked, recalled, ticked, audited}
use Rattle.node.specs.Rules.{turned_down, after, before_taps}

pub record State : Type 0 where
  pub store : Meaning
  pub standing : Standing
  pub books : Books

abbrev pub counted : Books → Event → Books
counted b (refused call why) = b
counted b (opened task parent number owner limit amount) = b
counted b (closed task number) = b
counted b (tapped task tap source sink n d) = b
counted b (shut task tap) = b
counted b (granted task reserve amount serial) = record {
  received = b.received;
  «open» = b.«open» + amount;
  spent = b.spent;
  lost = b.lost;
  granted = b.granted + amount;
  settled = b.settled;
}
counted b (settled serial amount used lost) = record {
  received = b.received;
  «open» = b.«open» - amount;
  spent = b.spent + used;
  lost = b.lost + lost;
  granted = b.granted;
  settled = b.settled + amount;
}
counted b (parked serial amount) = b
counted b (recalled task serial amount) = b
counted b (ticked harvest loss intake figures) = record {
  received = b.received + harvest;
  «open» = b.«open»;
  spent = b.spent;
  lost = b.lost + loss + (harvest - intake);
  granted = b.granted;
  settled = b.settled;
}
counted b (audited totals) = b

abbrev pub asked : ℕ → Event → Call
asked places (refused call why) = call
asked places (opened task parent number owner limit amount) = open_reserve task parent number owner limit amount
asked places (closed task number) = close_reserve task number
asked places (tapped task tap source sink n d) = open_tap task tap source sink n d
asked places (shut task tap) = shut_tap task tap
asked places (granted task reserve amount serial) = request task reserve amount
asked places (settled serial amount used lost) = settle serial amount used
asked places (parked serial amount) = park serial amount
asked places (recalled task serial amount) = recall task serial
asked places (ticked harvest loss intake figures) = tick harvest places
asked places (audited t) = audit

abbrev pub verdict : Event → Option Denial
verdict (refused call why) = Some why
verdict (opened task parent number owner limit amount) = None
verdict (closed task number) = None
verdict (tapped task tap source sink n d) = None
verdict (shut task tap) = None
verdict (granted task reserve amount serial) = None
verdict (settled serial amount used lost) = None
verdict (parked serial amount) = None
verdict (recalled task serial amount) = None
verdict (ticked harvest loss intake figures) = None
verdict (audited t) = None

-- the seven totals that an audit answers
abbrev pub totals_in : ℕ → Books → Totals
totals_in held b = record { received = b.received; held = held; «open» = b.«open»; spent = b.spent; lost = b.lost; granted = b.granted; settled = b.settled }

-- a grant draws its amount; a settlement charges the unused quanta, and what is not taken is lost;
-- in a tick the store ticks, and then the harvest is charged; no other call touches the store
abbrev pub Answers : State → Event → Meaning → Type 0
Answers s (refused call why) m = m ≡ s.store
Answers s (opened task parent number owner limit amount) m = m ≡ s.store
Answers s (closed task number) m = m ≡ s.store
Answers s (tapped task tap source sink n d) m = m ≡ s.store
Answers s (shut task tap) m = m ≡ s.store
Answers s (granted task reserve amount serial) m = (serial ≡ s.standing.serials + 1) × (m ≡ after_draw amount s.store)
Answers s (settled serial amount used lost) m = (back : ℕ) × Charged (amount - used) s.store back m × (lost ≡ amount - used - back)
Answers s (parked serial amount) m = m ≡ s.store
Answers s (recalled task serial amount) m = (amount ≡ amount_of serial s.standing.grants) × (m ≡ s.store)
Answers s (ticked harvest loss intake figures) m =
    (mid : Meaning) × Ticked s.store loss mid × Charged harvest mid intake m × Figures (before_taps s.standing loss intake) s.standing.taps figures
Answers s (audited t) m = (t ≡ totals_in s.store.held s.books) × (m ≡ s.store)

-- a call is turned down just where the rules say so, and then leaves all as it was
pub record Step (s : State) (e : Event) (s' : State) : Type 0 where
  pub places : ℕ
  pub judged : turned_down s.store s.standing (asked places e) ≡ verdict e
  pub answers : Answers s e s'.store
  pub standing : s'.standing ≡ after s.standing e
  pub books : s'.books ≡ counted s.books e
