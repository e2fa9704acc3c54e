-- What a store means: how much it holds, how much it can hold, and its stages from the bottom up; and what each call
-- makes of that. Assumes nothing.
use Rattle.std.specs.Prelude.{◌≡◌, ℕ, ◌+◌, ◌-◌, ◌<◌, ◌≤◌, min, Bool, cond, ◌&&◌, ◌||◌, T, List, [], ◌∷◌, ◌++◌, length, Ok, Err, Result, nat_le, nat_lt}
use Rattle.rates.specs.Amount.{bound}
use Rattle.store.specs.declared.fault.Fault.{Fault}

-- a stage of a store: the letter of its kind, and how much a draw finds there
pub record Stage : Type 0 where
  pub kind : ℕ
  pub available : ℕ

pub record Meaning : Type 0 where
  pub held : ℕ
  pub capacity : ℕ
  pub stages : List Stage

-- the calls that change a store
pub data Change : Type 0 where
  charge : (q : ℕ) → Change
  draw : (q : ℕ) → Change
  drain : (q : ℕ) → Change
  tick : Change

-- what a store tells of the value after a change: here, that it is the one which f gives
abbrev pub exactly : {S : Type 0} → (Change → S → S) → Change → S → S → Type 0
exactly f x before now = now ≡ f x before

-- here, nothing
abbrev pub nothing : {S : Type 0} → Change → S → S → Type 0
nothing x before now = Unit {0}

-- what is told leaves one value: there is such a value after each change, and no other
abbrev pub Determined : {S : Type 0} → (Change → S → S → Type 0) → Type 0
Determined {S} after = (x : Change) (before : S) → (now : S) × after x before now × ((other : S) → after x before other → other ≡ now)

-- the meaning of the store s, by its members
abbrev pub meaning : {S : Type 0} → (S → ℕ) → (S → ℕ) → (S → List Stage) → S → Meaning
meaning held capacity stages s = record { held = held s; capacity = capacity s; stages = stages s }

-- an ASCII letter
abbrev pub letter : ℕ → Bool
letter k = (nat_le 65 k && nat_le k 90) || (nat_le 97 k && nat_le k 122)

abbrev pub Lettered : List Stage → Type 0
Lettered [] = Unit {0}
Lettered (s ∷ ss) = T (letter s.kind) × Lettered ss

-- from the bottom up the stages never have more: the first of them at most what is given, each next at most the last
abbrev pub Falling : ℕ → List Stage → Type 0
Falling below [] = Unit {0}
Falling below (s ∷ ss) = (s.available ≤ below) × Falling s.available ss

-- how the three parts of a meaning hang together
pub record Sound (m : Meaning) : Type 0 where
  pub some : 0 < length m.stages
  pub lettered : Lettered m.stages
  pub falling : Falling m.held m.stages
  pub within : m.held ≤ m.capacity
  pub bounded : m.capacity ≤ bound

-- what is available of the whole store
abbrev pub top : List Stage → ℕ
top [] = 0
top (s ∷ []) = s.available
top (s ∷ t ∷ ss) = top (t ∷ ss)

-- the letter of the stage on top
abbrev pub top_kind : List Stage → ℕ
top_kind [] = 0
top_kind (s ∷ []) = s.kind
top_kind (s ∷ t ∷ ss) = top_kind (t ∷ ss)

-- m with one stage more on top
abbrev pub with_stage : Stage → Meaning → Meaning
with_stage s m = record { held = m.held; capacity = m.capacity; stages = m.stages ++ s ∷ [] }

-- one byte has to do for a height: the stages from height 255 on all show the same
abbrev pub shown : ℕ → ℕ
shown n = min n 255

abbrev pub height_of : List Stage → ℕ
height_of ss = shown (length ss - 1)

-- every stage with q less
abbrev pub lower : ℕ → Stage → Stage
lower q s = record { kind = s.kind; available = s.available - q }

abbrev pub lowered : ℕ → List Stage → List Stage
lowered q [] = []
lowered q (s ∷ ss) = lower q s ∷ lowered q ss

-- why a draw of q is refused: from the bottom up, the first stage that has too little, and what it lacks; the stages
-- given begin at the height n
abbrev pub fault_from : ℕ → ℕ → List Stage → Fault
fault_from n q [] = record { height = 0; kind = 0; deficit = 0 }
fault_from n q (s ∷ ss) =
    cond (nat_lt s.available q)
    (record { height = shown n; kind = s.kind; deficit = q - s.available })
    (fault_from (n + 1) q ss)

abbrev pub kinds : List Stage → List ℕ
kinds [] = []
kinds (s ∷ ss) = s.kind ∷ kinds ss

-- what no call changes
pub record SameMake (m n : Meaning) : Type 0 where
  pub capacity : n.capacity ≡ m.capacity
  pub kinds : kinds n.stages ≡ kinds m.stages

-- a charge of q takes in as much as there is room for; its answer r is the part taken in
pub record Charged (q : ℕ) (m : Meaning) (r : ℕ) (n : Meaning) : Type 0 where
  pub make : SameMake m n
  pub told : r ≡ min q (m.capacity - m.held)
  pub held : n.held ≡ m.held + r

-- q is gone from what is held and from every stage
abbrev pub after_draw : ℕ → Meaning → Meaning
after_draw q m = record { held = m.held - q; capacity = m.capacity; stages = lowered q m.stages }

-- a draw of q: all of it is given where the stage on top has so much; where not, nothing is, and the fault is told
abbrev pub Drawn : ℕ → Meaning → Result (Unit {0}) Fault → Meaning → Type 0
Drawn q m (Ok _) n = (q ≤ top m.stages) × (n ≡ after_draw q m)
Drawn q m (Err f) n = (top m.stages < q) × (f ≡ fault_from 0 q m.stages) × (n ≡ m)

-- a drain of q takes away as much of it as is held, available or not; its answer r is what went
pub record Drained (q : ℕ) (m : Meaning) (r : ℕ) (n : Meaning) : Type 0 where
  pub make : SameMake m n
  pub told : r ≡ min q m.held
  pub held : n.held ≡ m.held - r

-- a tick loses some of what is held, or nothing; its answer r is what is gone
pub record Ticked (m : Meaning) (r : ℕ) (n : Meaning) : Type 0 where
  pub make : SameMake m n
  pub within : r ≤ m.held
  pub held : n.held ≡ m.held - r
