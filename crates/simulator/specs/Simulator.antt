-- What a line is answered, which calls it stands for, and what stands after it. Assumes nothing.
--     layered_store              the members, as a store, of a capacitor under a floor under leakage
--     layered_told               what such a store tells of the value after a change
--     layered_of c f p           the capacitor under a floor under leakage that these numbers make, or its refusal
--     Reached s                  the node that stands, if one does, is reached by a run of calls from a new node over a sound store
--     done x, told x             the answer to a call that tells nothing, and to a tick
--     Grants G A n t i q r m      a grant and, where it is accepted, the parking of its slip
--     Settles G A n t s u r m     a recall, where it is accepted a settlement, and where that is refused a parking
--     Ticks G A n h r m          a tick with the harvest h, whose report is dropped
--     ServesOn G A n f r m       what the frame f is answered by the node n, and that m is where its calls lead
--     Builds G put x r           r is a new node over the store x, where x could be built, or its refusal
--     Built f r                  what the frame f builds, where no node stands
--     Stands made r s'           what a frame is answered where no node stood, and what stands after it
--     Serves s f r s'            what the frame f is answered, and what stands after it
--     Replies s line r s'        what the line is answered, and what stands after it
--     SameIfRefused r s s'       what stood is what stands, where r is a refusal
--     Answers s line out r s' out'      the same with the answer array before and after
use Rattle.std.specs.Prelude.{◌≡◌, ℕ, ◌<◌, ◌≤◌, List, length, Ok, Err, Result}
use Rattle.rates.specs.declared.amount.OutOfRange.{OutOfRange as Outside}
use Rattle.store.specs.declared.store.Store.{Ghosts}
use Rattle.store.specs.declared.capacitor.Capacitor.{Capacitor}
use Rattle.store.specs.Meaning.{Change, exactly}
use Rattle.store.specs.Capacitor.{new_capacitor, capacitor_after, capacitor_store}
use Rattle.store.specs.Bank.{new_bank, bank_after, bank_store}
use Rattle.layers.specs.declared.layered.Layered.{Layered as Over}
use Rattle.layers.specs.declared.floor.Floor.{Floor}
use Rattle.layers.specs.declared.leakage.Leakage.{Leakage}
use Rattle.layers.specs.Floor.{floor_store, floor_after}
use Rattle.layers.specs.Leakage.{new_leakage, leakage_store, leakage_after}
use Rattle.node.specs.declared.denial.Denial.{Denial}
use Rattle.node.specs.declared.denial.Denial.TheVariants.{OutOfRange}
use Rattle.node.specs.declared.slip.Slip.{Slip}
use Rattle.node.specs.declared.node.Node.{Node}
use Rattle.node.specs.declared.totals.Totals.{Totals}
use Rattle.node.specs.Calls.{parked, audited}
use Rattle.node.specs.Node.{Newborn, Called, opening, closing, tapping, shutting, granting, settling, recalling, ticking}
use Rattle.node.specs.Runs.{Reached as ReachedNode, Lawful}
use Rattle.frame.specs.declared.frame.Frame.{Frame}
use Rattle.frame.specs.declared.frame.Frame.TheVariants.{Capacitor as CapacitorFrame, Layered as LayeredFrame, Bank as BankFrame, Open, Close, Tap, Shut, Grant, Settle, Tick, Audit}
use Rattle.frame.specs.declared.fault.FrameFault.{FrameFault}
use Rattle.frame.specs.declared.fault.FrameFault.TheVariants.{ShortAnswer, OutOfTurn, Denied}
use Rattle.frame.specs.declared.answer.Answer.{Answer}
use Rattle.frame.specs.declared.answer.Answer.TheVariants.{Done, Granted, Settled, Ticked, Audited}
use Rattle.frame.specs.Answer.{answered, after_answer}
use Rattle.frame.specs.Frame.{frame_in}
use Rattle.simulator.specs.declared.simulator.Simulator.{Simulator}
use Rattle.simulator.specs.declared.simulator.Simulator.TheVariants.{Empty, Single, Layered, Cells}

abbrev pub Layers : Type 0
Layers = Over (Over Capacitor Floor) Leakage

abbrev pub layered_store : Ghosts Layers
layered_store = leakage_store (floor_store capacitor_store)

abbrev pub layered_told : Change → Layers → Layers → Type 0
layered_told = leakage_after (floor_store capacitor_store) (floor_after capacitor_store (exactly capacitor_after))

abbrev pub ReachedOn : {S : Type 0} → Ghosts S → Node S → Type 0
ReachedOn G n = ReachedNode G n

abbrev pub Reached : Simulator → Type 0
Reached Empty = Unit {0}
Reached (Single n) = ReachedOn capacitor_store n
Reached (Layered n) = ReachedOn layered_store n
Reached (Cells n) = ReachedOn bank_store n

-- the frames that build

abbrev pub with_leakage : ℕ → Capacitor → Result Leakage Outside → Result Layers Outside
with_leakage f x (Ok l) = Ok (record { below = record { below = x; layer = record { amount = f } }; layer = l })
with_leakage f x (Err e) = Err e

abbrev pub layered_of : ℕ → ℕ → ℕ → Result Layers Outside
layered_of c f p = elim (new_capacitor c) [ Ok x ↦ with_leakage f x (new_leakage p) | Err e ↦ Err e ]

-- a store that can be built is sound, and a new node stands over it
abbrev pub Builds : {S : Type 0} → Ghosts S → (Node S → Simulator) → Result S Outside → Result Simulator FrameFault → Type 0
Builds {S} G put (Ok x) r = (n : Node S) × (r ≡ Ok (put n)) × G.sound x × Newborn G x n
Builds G put (Err e) r = r ≡ Err (Denied OutOfRange)

-- what a frame builds; one that builds nothing is out of turn before a node stands
abbrev pub Built : Frame → Result Simulator FrameFault → Type 0
Built (CapacitorFrame c) r = Builds capacitor_store Single (new_capacitor c) r
Built (LayeredFrame c f p) r = Builds layered_store Layered (layered_of c f p) r
Built (BankFrame cs) r = Builds bank_store Cells (new_bank cs) r
Built (Open t x) r = r ≡ Err OutOfTurn
Built (Close t i) r = r ≡ Err OutOfTurn
Built (Tap t x) r = r ≡ Err OutOfTurn
Built (Shut t k) r = r ≡ Err OutOfTurn
Built (Grant t i q) r = r ≡ Err OutOfTurn
Built (Settle t s u) r = r ≡ Err OutOfTurn
Built (Tick h) r = r ≡ Err OutOfTurn
Built Audit r = r ≡ Err OutOfTurn

abbrev pub Stands : Result Simulator FrameFault → Result Answer FrameFault → Simulator → Type 0
Stands (Ok s) r s' = (r ≡ Ok Done) × (s' ≡ s)
Stands (Err f) r s' = (r ≡ Err f) × (s' ≡ Empty)

-- the frames that call a node

abbrev pub done : Result (Unit {0}) Denial → Result Answer FrameFault
done (Ok u) = Ok Done
done (Err d) = Err (Denied d)

abbrev pub told : Result (ℕ × ℕ) Denial → Result Answer FrameFault
told (Ok a) = Ok (Ticked a.0 a.1)
told (Err d) = Err (Denied d)

-- A tells which values a store may be after each change
module _ {S : Type 0} (G : Ghosts S) (A : Change → S → S → Type 0) where
  abbrev pub Parks : Result Slip Denial → Node S → Result Answer FrameFault → Node S → Type 0
  Parks (Ok slip) k r m = Called G A k (parked slip.serial slip.amount) m × (r ≡ Ok (Granted slip.serial))
  Parks (Err d) k r m = (m ≡ k) × (r ≡ Err (Denied d))

  abbrev pub Grants : Node S → ℕ → ℕ → ℕ → Result Answer FrameFault → Node S → Type 0
  Grants n task reserve amount r m = (x : Result Slip Denial) × (k : Node S) × Called G A n (granting task reserve amount x) k × Parks x k r m

  abbrev pub Ends : Slip → Result ℕ (Denial × Slip) → Node S → Result Answer FrameFault → Node S → Type 0
  Ends slip (Ok lost) j r m = (m ≡ j) × (r ≡ Ok (Settled lost))
  Ends slip (Err e) j r m = Called G A j (parked slip.serial slip.amount) m × (r ≡ Err (Denied e.0))

  abbrev pub SettledWith : ℕ → Result Slip Denial → ℕ → Node S → Result Answer FrameFault → Node S → Type 0
  SettledWith serial (Ok slip) used k r m = (slip.serial ≡ serial) × (y : Result ℕ (Denial × Slip)) × (j : Node S) × Called G A k (settling slip used y) j × Ends slip y j r m
  SettledWith serial (Err d) used k r m = (m ≡ k) × (r ≡ Err (Denied d))

  abbrev pub Settles : Node S → ℕ → ℕ → ℕ → Result Answer FrameFault → Node S → Type 0
  Settles n task serial used r m = (x : Result Slip Denial) × (k : Node S) × Called G A n (recalling task serial x) k × SettledWith serial x used k r m

  abbrev pub Ticks : Node S → ℕ → Result Answer FrameFault → Node S → Type 0
  Ticks n harvest r m = (report : List ℕ) × (length report ≡ 96) × (x : Result (ℕ × ℕ) Denial) × Called G A n (ticking harvest report x) m × (r ≡ told x)

  abbrev pub Turned : Node S → Result Answer FrameFault → Node S → Type 0
  Turned n r m = (r ≡ Err OutOfTurn) × (m ≡ n)

  -- what a frame is answered names the calls that it makes, in order, each from the node that the one before left
  abbrev pub ServesOn : Node S → Frame → Result Answer FrameFault → Node S → Type 0
  ServesOn n (CapacitorFrame c) r m = Turned n r m
  ServesOn n (LayeredFrame c f p) r m = Turned n r m
  ServesOn n (BankFrame cs) r m = Turned n r m
  ServesOn n (Open t i) r m = (x : Result (Unit {0}) Denial) × Called G A n (opening t i.parent i.number i.owner i.limit i.amount x) m × (r ≡ done x)
  ServesOn n (Close t i) r m = (x : Result (Unit {0}) Denial) × Called G A n (closing t i x) m × (r ≡ done x)
  ServesOn n (Tap t k) r m = (x : Result (Unit {0}) Denial) × Called G A n (tapping t k.number k.source k.sink k.n k.d x) m × (r ≡ done x)
  ServesOn n (Shut t k) r m = (x : Result (Unit {0}) Denial) × Called G A n (shutting t k x) m × (r ≡ done x)
  ServesOn n (Grant t i q) r m = Grants n t i q r m
  ServesOn n (Settle t s u) r m = Settles n t s u r m
  ServesOn n (Tick h) r m = Ticks n h r m
  ServesOn n Audit r m = (t : Totals) × Called G A n (audited t) n × Lawful G n t × (r ≡ Ok (Audited t)) × (m ≡ n)

abbrev pub ServesIn : {S : Type 0} → Ghosts S → (Change → S → S → Type 0) → (Node S → Simulator) → Node S → Frame → Result Answer FrameFault → Simulator → Type 0
ServesIn {S} G A put n f r s' = (m : Node S) × (s' ≡ put m) × ServesOn G A n f r m

abbrev pub Serves : Simulator → Frame → Result Answer FrameFault → Simulator → Type 0
Serves Empty f r s' = (made : Result Simulator FrameFault) × Built f made × Stands made r s'
Serves (Single n) f r s' = ServesIn capacitor_store (exactly capacitor_after) Single n f r s'
Serves (Layered n) f r s' = ServesIn layered_store layered_told Layered n f r s'
Serves (Cells n) f r s' = ServesIn bank_store (exactly bank_after) Cells n f r s'

-- a line: its digits, then its frame, then what is served

abbrev pub Replied : Simulator → Result Frame FrameFault → Result Answer FrameFault → Simulator → Type 0
Replied s (Ok f) r s' = Serves s f r s'
Replied s (Err f) r s' = (r ≡ Err f) × (s' ≡ s)

abbrev pub Replies : Simulator → List ℕ → Result Answer FrameFault → Simulator → Type 0
Replies s line r s' = Replied s (frame_in line) r s'

abbrev pub SameIfRefused : Result Answer FrameFault → Simulator → Simulator → Type 0
SameIfRefused (Ok a) s s' = Unit {0}
SameIfRefused (Err f) s s' = s' ≡ s

-- an array that is too short is told before the line is looked at; a line that is refused leaves what stood
pub record Answers (s : Simulator) (line out : List ℕ) (r : Result ℕ FrameFault) (s' : Simulator) (out' : List ℕ) : Type 0 where
  pub short : length out < 160 → (r ≡ Err ShortAnswer) × (s' ≡ s) × (out' ≡ out)
  pub long : 160 ≤ length out → (a : Result Answer FrameFault) × Replies s line a s' × (r ≡ answered a out) × (out' ≡ after_answer a out) × (Reached s → SameIfRefused a s s')
