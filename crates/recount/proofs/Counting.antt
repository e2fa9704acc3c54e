-- How one reply more changes each count. Assumes nothing.
use Rattle.std.proofs.Common.{◌≡◌, ℕ, zero, suc, Some, None, Option, Ok, Err, ◌+◌, ◌<◌, Bool, true, false, cond, ◌&&◌, eqb, List, [], ◌∷◌, ◌++◌, length, get_or, set, replicate, Decides, sym, refl, ap, ◌∙◌, arith, lit<, length-append}
use Rattle.std.proofs.lemmas.List.{get_or-set_same, get_or-set_other}
use Rattle.std.proofs.lemmas.Bool.{eqb-true, eq-eqb, ne_eqb}
use Rattle.std.proofs.lemmas.Bool.Decides.{nat_tests}
use Rattle.std.proofs.lemmas.List.Sums.{sum_by_push}
use Rattle.node.specs.Denial.{number_of as denial_number}
use Rattle.node.specs.declared.denial.Denial.{Denial}
use Rattle.node.specs.declared.denial.Denial.TheVariants.{ShortReport, OutOfRange, Absent, AlreadyOpen, NoSuchGrant}
use Rattle.node.specs.declared.denial.Denial.TheVariants.{NotOwner, SameEnds, AboveLimit, InUse, Overused}
use Rattle.node.specs.declared.denial.Denial.TheVariants.{TooManyGrants, Exhausted, LevelTooLow, StoreRefused}
use Rattle.frame.specs.Fault.{number_of}
use Rattle.frame.specs.declared.fault.FrameFault.{FrameFault}
use Rattle.frame.specs.declared.fault.FrameFault.TheVariants.{ShortAnswer, BadLine, UnknownFrame, OutOfTurn, Denied}
use Rattle.recount.specs.declared.row.Row.{Row}
use Rattle.recount.specs.declared.lack.Lack.{Lack}
use Rattle.recount.specs.declared.lack.Shortage.{Shortage}
use Rattle.recount.specs.declared.lack.Shortage.TheVariants.{Level, Store}
use Rattle.recount.specs.declared.table.Table.{Table}
use Rattle.recount.specs.declared.denials.Denials.{Denials}
use Rattle.recount.specs.declared.verdicts.Verdicts.{Verdicts}
use Rattle.recount.specs.Recount.{Reply, capped, accepted, refused_with, how_many, lacking, row_of, lack_of, lacks, lacks_to, shortage_number, quanta, denied, denied_to, deficit, none, with_one, place, rows_of, Judges, Denies}
use Rattle.recount.specs.Noting.{accepted_after, refused_after, Keyed, all_after, noted, rows_after}

pub get_d_replicate : {X : Type 0} (n k : ℕ) (x : X) → get_or (replicate n x) k x ≡ x
get_d_replicate zero k x = refl
get_d_replicate (suc n) zero x = refl
get_d_replicate (suc n) (suc k) x = get_d_replicate n k x

-- a count that is at the largest number stays there
pub capped_more : (x q : ℕ) → capped (capped x + q) ≡ capped (x + q)
capped_more x q = omega arith

capped_same : (x : ℕ) → capped (x + 0) ≡ capped x
capped_same x = omega arith

-- one more of the counted, or none
plus : (x q : ℕ) (b : Bool) → capped (x + cond b q 0) ≡ cond b (capped (capped x + q)) (capped x)
plus x q true = sym (capped_more x q)
plus x q false = capped_same x

pub lines_more : (xs : List Reply) (a : Reply) → capped (length (xs ++ a ∷ [])) ≡ capped (capped (length xs) + 1)
lines_more xs a = ap capped (length-append xs (a ∷ [])) ∙ sym (capped_more (length xs) 1)

pub how_many_more : (p : Reply → Bool) (xs : List Reply) (a : Reply) → capped (how_many p (xs ++ a ∷ [])) ≡ cond (p a) (capped (capped (how_many p xs) + 1)) (capped (how_many p xs))
how_many_more p xs a = ap capped (sum_by_push (λ x. cond (p x) 1 0) xs a) ∙ plus (how_many p xs) 1 (p a)

lacking_more : (p : Reply → Bool) (xs : List Reply) (a : Reply) → capped (lacking p (xs ++ a ∷ [])) ≡ cond (p a) (capped (capped (lacking p xs) + deficit a)) (capped (lacking p xs))
lacking_more p xs a = ap capped (sum_by_push (λ x. cond (p x) (deficit x) 0) xs a) ∙ plus (lacking p xs) (deficit a) (p a)

abbrev row : ℕ → ℕ → Row
row t l = record { times = t; lacking = l }

same_row : (b : Bool) (t l : ℕ) (r : Row) (q : ℕ) → t ≡ cond b (capped (r.times + 1)) r.times → l ≡ cond b (capped (r.lacking + q)) r.lacking → row t l ≡ cond b (with_one r q) r
same_row true t l r q e f = ap (λ x. row x l) e ∙ ap (λ x. row (capped (r.times + 1)) x) f
same_row false t l r q e f = ap (λ x. row x l) e ∙ ap (λ x. row r.times x) f

-- an answer that passes the test adds one to the row, and what it lacks
pub row_more : (p : Reply → Bool) (xs : List Reply) (a : Reply) → row_of p (xs ++ a ∷ []) ≡ cond (p a) (with_one (row_of p xs) (deficit a)) (row_of p xs)
row_more p xs a = same_row (p a) (capped (how_many p (xs ++ a ∷ []))) (capped (lacking p (xs ++ a ∷ []))) (row_of p xs) (deficit a) (how_many_more p xs a) (lacking_more p xs a)

-- one place is changed, and j is that place where b says so
changed : {X : Type 0} (l : List X) (i j : ℕ) (f : X → X) (d : X) (b : Bool) → Decides b (j ≡ i) → i < length l → get_or (set l i (f (get_or l i d))) j d ≡ cond b (f (get_or l j d)) (get_or l j d)
changed l i j f d true is h =
    let e : j ≡ i = is.0 refl in
    ap (λ k. get_or (set l i (f (get_or l i d))) k d) e ∙ get_or-set_same l i (f (get_or l i d)) d h ∙ ap (λ k. f (get_or l k d)) (sym e)
changed l i j f d false is h = get_or-set_other l i j (f (get_or l i d)) d (λ e. different (is.1 e))
  where
    different : false ≡ true → ⊥
    different e = grind arith

-- the number of every refusal is below 18
denial_small : (d : Denial) → denial_number d < 18
denial_small ShortReport = lit< tt
denial_small OutOfRange = lit< tt
denial_small Absent = lit< tt
denial_small AlreadyOpen = lit< tt
denial_small NoSuchGrant = lit< tt
denial_small NotOwner = lit< tt
denial_small SameEnds = lit< tt
denial_small AboveLimit = lit< tt
denial_small InUse = lit< tt
denial_small Overused = lit< tt
denial_small TooManyGrants = lit< tt
denial_small Exhausted = lit< tt
denial_small (LevelTooLow task reserve q) = lit< tt
denial_small (StoreRefused o) = lit< tt

small : (f : FrameFault) → number_of f < 18
small ShortAnswer = lit< tt
small BadLine = lit< tt
small UnknownFrame = lit< tt
small OutOfTurn = lit< tt
small (Denied d) = denial_small d

refused_step : (a : Reply) (ys : List ℕ) → length ys ≡ 18 → (n : ℕ) → get_or (refused_after a ys) n 0 ≡ cond (refused_with n a) (capped (get_or ys n 0 + 1)) (get_or ys n 0)
refused_step (Ok a) ys long n = refl
refused_step (Err f) ys long n = changed ys (number_of f) n (λ x. capped (x + 1)) 0 (eqb n (number_of f)) (eqb-true n (number_of f), eq-eqb n (number_of f)) (omega (arith, small f))

-- what was judged of some answers is judged of these and one more
pub judges_more : (xs : List Reply) (a : Reply) (v w : Verdicts) → length v.refused ≡ 18 → w.lines ≡ capped (v.lines + 1) → w.accepted ≡ accepted_after a v.accepted → w.refused ≡ refused_after a v.refused → Judges xs v → Judges (xs ++ a ∷ []) w
judges_more xs a v w long lines acc ref j = record {
  lines = lines ∙ ap (λ x. capped (x + 1)) j.lines ∙ sym (lines_more xs a);
  accepted = acc ∙ ap (accepted_after a) j.accepted ∙ sym (how_many_more accepted xs a);
  refused = λ n.
      ap (λ ys. get_or ys n 0) ref ∙ refused_step a v.refused long n
      ∙ ap (λ x. cond (refused_with n a) (capped (x + 1)) x) (j.refused n) ∙ sym (how_many_more (refused_with n) xs a);
}

-- the place of a task and a reserve is theirs alone
own_place : (t i u k : ℕ) → i < 256 → k < 256 → Decides (eqb u t && eqb k i) (place u k ≡ place t i)
own_place t i u k h m = (λ e. grind (arith, nat_tests), λ e. grind (arith, nat_tests))

noted_at : (rows : List Row) (l : Lack) (u k : ℕ) → length rows ≡ 65536 → Keyed (Some l) → k < 256 → get_or (noted rows l) (place u k) none ≡ cond (eqb u l.task && eqb k l.reserve) (with_one (get_or rows (place u k) none) l.deficit) (get_or rows (place u k) none)
noted_at rows l u k long w hk = changed rows (place l.task l.reserve) (place u k) (λ r. with_one r l.deficit) none (eqb u l.task && eqb k l.reserve) (own_place l.task l.reserve u k w.1 hk) (omega arith)

-- the first of two rows is changed, or the second
first_changed : (b m : Bool) (f : Row → Row) (x x' y : Row) → x' ≡ cond m (f x) x → cond b x' y ≡ cond (b && m) (f (cond b x y)) (cond b x y)
first_changed true m f x x' y e = e
first_changed false m f x x' y e = refl

second_changed : (b c m : Bool) (f : Row → Row) (x y y' z : Row) → (b ≡ true → c ≡ false) → y' ≡ cond m (f y) y → cond b x (cond c y' z) ≡ cond (c && m) (f (cond b x (cond c y z))) (cond b x (cond c y z))
second_changed true true m f x y y' z h e = absurd (grind (arith, h refl))
second_changed true false m f x y y' z h e = refl
second_changed false true m f x y y' z h e = e
second_changed false false m f x y y' z h e = refl

apart : (n : ℕ) → eqb n 16 ≡ true → eqb n 17 ≡ false
apart n e = ne_eqb n 17 (λ f. omega (arith, eqb-true n 16 e))

-- the row of a task and a reserve in two lists of rows
abbrev row_from : List Row → List Row → ℕ → ℕ → ℕ → Row
row_from l s n u k = cond (eqb n 16) (get_or l (place u k) none) (cond (eqb n 17) (get_or s (place u k) none) none)

row_by : (by : Shortage) (k : Lack) (l s : List Row) → length l ≡ 65536 → length s ≡ 65536 → Keyed (Some k) → (n t i : ℕ) → i < 256 → row_from (cond (eqb (shortage_number by) 16) (noted l k) l) (cond (eqb (shortage_number by) 17) (noted s k) s) n t i ≡ cond (eqb n (shortage_number by) && (eqb t k.task && eqb i k.reserve)) (with_one (row_from l s n t i) k.deficit) (row_from l s n t i)
row_by Level k l s ll ls w n t i hi =
    first_changed (eqb n 16) (eqb t k.task && eqb i k.reserve) (λ r. with_one r k.deficit) (get_or l (place t i) none) (get_or (noted l k) (place t i) none) (cond (eqb n 17) (get_or s (place t i) none) none)
    (noted_at l k t i ll w hi)
row_by Store k l s ll ls w n t i hi =
    second_changed (eqb n 16) (eqb n 17) (eqb t k.task && eqb i k.reserve) (λ r. with_one r k.deficit) (get_or l (place t i) none) (get_or s (place t i) none) (get_or (noted s k) (place t i) none) none (apart n)
    (noted_at s k t i ls w hi)

row_step : (k : Option Lack) (l s : List Row) → length l ≡ 65536 → length s ≡ 65536 → Keyed k → (n t i : ℕ) → i < 256 → row_from (rows_after 16 k l) (rows_after 17 k s) n t i ≡ cond (lacks_to n t i k) (with_one (row_from l s n t i) (quanta k)) (row_from l s n t i)
row_step None l s ll ls w n t i hi = refl
row_step (Some k) l s ll ls w n t i hi = row_by k.shortage k l s ll ls w n t i hi

all_step : (k : Option Lack) (row : Row) → all_after k row ≡ cond (lacks k) (with_one row (quanta k)) row
all_step None row = refl
all_step (Some k) row = refl

-- what was denied in some answers is denied in these and one more
pub denies_more : (xs : List Reply) (a : Reply) (d e : Denials) → Keyed (lack_of a) → e.all ≡ all_after (lack_of a) d.all → rows_of e.level ≡ rows_after 16 (lack_of a) (rows_of d.level) → rows_of e.store ≡ rows_after 17 (lack_of a) (rows_of d.store) → Denies xs d → Denies (xs ++ a ∷ []) e
denies_more xs a d e w all level store is = record {
  all = all ∙ all_step (lack_of a) d.all ∙ ap (λ r. cond (denied a) (with_one r (deficit a)) r) is.all ∙ sym (row_more denied xs a);
  rows = λ n t i ht hi.
      ap (λ l. row_from l (rows_of e.store) n t i) level
      ∙ ap (λ s. row_from (rows_after 16 (lack_of a) (rows_of d.level)) s n t i) store
      ∙ row_step (lack_of a) (rows_of d.level) (rows_of d.store) (full d.level) (full d.store) w n t i hi
      ∙ ap (λ r. cond (denied_to n t i a) (with_one r (deficit a)) r) (is.rows n t i ht hi)
      ∙ sym (row_more (denied_to n t i) xs a);
}
  where
    full : (t : Table) → length (rows_of t) ≡ 65536
    full t = sym t.rows.ok.0 ∙ t.full
