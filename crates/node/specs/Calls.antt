-- What is asked of a node, and what it answered. Assumes nothing.
--     Call          a call with its arguments, one case for each of the ten; a tick's are the harvest and how many places
--                   the report has
--     Event         a call that was refused, with the reason, or one that was accepted, with its answer
--     History       the events of a node's life, the newest first
use Rattle.std.specs.Prelude.{ℕ, List}
use Rattle.node.specs.declared.denial.Denial.{Denial}
use Rattle.node.specs.declared.totals.Totals.{Totals}

pub data Call : Type 0 where
  open_reserve : (task parent number owner limit amount : ℕ) → Call
  close_reserve : (task number : ℕ) → Call
  open_tap : (task tap source sink n d : ℕ) → Call
  shut_tap : (task tap : ℕ) → Call
  request : (task reserve amount : ℕ) → Call
  settle : (serial amount used : ℕ) → Call
  park : (serial amount : ℕ) → Call
  recall : (task serial : ℕ) → Call
  tick : (harvest places : ℕ) → Call
  audit : Call

pub data Event : Type 0 where
  refused : Call → Denial → Event
  opened : (task parent number owner limit amount : ℕ) → Event
  closed : (task number : ℕ) → Event
  tapped : (task tap source sink n d : ℕ) → Event
  shut : (task tap : ℕ) → Event
  granted : (task reserve amount serial : ℕ) → Event
  settled : (serial amount used lost : ℕ) → Event
  parked : (serial amount : ℕ) → Event
  recalled : (task serial amount : ℕ) → Event
  ticked : (harvest loss intake : ℕ) → List ℕ → Event
  audited : Totals → Event

-- the newest first
abbrev pub History : Type 0
History = List Event
