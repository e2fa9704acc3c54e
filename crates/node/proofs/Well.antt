-- Every call leaves a well-made node well made.
use Rattle.std.proofs.Common.{◌≡◌, ℕ, zero, suc, ◌+◌, ◌-◌, ◌<◌, ◌≤◌, Bool, true, false, cond, eqb, List, [], ◌∷◌, ◌++◌, length, get_or, map, not, is_some, set, Some, None, Option, sym, refl, ap, ◌∙◌, subst, ⊎_elim, zero-le, mod-lt, arith}
use Rattle.std.proofs.lemmas.List.{length-set, length-append, length-map, get_or-set_other}
use Rattle.std.proofs.lemmas.Bool.{cases_eq, eqb-true, eqb-false, and_parts, or_parts, false≢true, true≢false}
use Rattle.rates.specs.Amount.{bound}
use Rattle.tables.specs.declared.reserves.Reserve.{Reserve}
use Rattle.tables.specs.declared.taps.Tap.{Tap}
use Rattle.tables.specs.declared.grant.Grant.{Grant}
use Rattle.std.specs.List.{list_any}
use Rattle.std.specs.Option.{option_or}
use Rattle.tables.specs.Rows.{present}
use Rattle.tables.specs.Reserves.{ReserveRows, level_in, level_at, limit_in, parent_in, parent_of, give, lower, return_to, charge_loss, parent_is, is_parent}
use Rattle.tables.specs.Taps.{TapRows, stepped, ends_at, figure_of, moved, after_moves, Figures}
use Rattle.tables.specs.Grants.{grant_of, reserve_in, reserve_of, out_with, fits_out, of_reserve, without, mark, marked}
use Rattle.node.specs.Standing.{Standing, born}
use Rattle.node.specs.Calls.{Event, refused, opened, closed, tapped, shut, granted, settled, parked, recalled, ticked, audited}
use Rattle.node.specs.Rules.{after, before_taps}
use Rattle.node.specs.Sound.{levels, Within, Parents, TapWell, TapsWell, GrantsWell, Ledger, Well}
use Rattle.tables.proofs.RowLaws.{nothing_there}
use Rattle.node.proofs.Places.{none_some, some_same, read_written, read_elsewhere, read_empty, get_or_map}
use Rattle.node.proofs.Facts.{Facts, Opening, Closing, Ticking}
use Rattle.node.proofs.Ledger.{ledger_granted, ledger_without, ledger_marked}
use Rattle.node.proofs.Levels.{levels_set, levels_give, levels_lower, levels_return, levels_charge_loss}
use Rattle.node.proofs.Alike.{Alike, alike_trans, alike_lower, alike_give, alike_return, alike_charge_loss, alike_moved, alike_after_moves}
use Rattle.node.proofs.Within.{within_set, within_lower, within_return, within_charge_loss, within_after_moves, within_root_given}

-- what stays where reserves only open, or change their levels
abbrev Grows : ReserveRows → ReserveRows → Type 0
Grows rs rs' = (j : ℕ) → present rs j ≡ true → present rs' j ≡ true

grows_alike : (rs rs' : ReserveRows) → Alike rs rs' → Grows rs rs'
grows_alike rs rs' a j o = a.opens j ∙ o

grows_set : (rs : ReserveRows) (i : ℕ) (x : Reserve) → Grows rs (set rs i (Some x))
grows_set [] i x j o = o
grows_set (r ∷ rs) zero x zero o = refl
grows_set (r ∷ rs) zero x (suc j) o = o
grows_set (r ∷ rs) (suc i) x zero o = o
grows_set (r ∷ rs) (suc i) x (suc j) o = grows_set rs i x j o

tap_grows : (rs rs' : ReserveRows) (t : Tap) → Grows rs rs' → TapWell rs t → TapWell rs' t
tap_grows rs rs' t g w = record { from = g t.source w.from; to = g t.sink w.to; apart = w.apart; rate = w.rate }

taps_grow : (rs rs' : ReserveRows) (ts : TapRows) → Grows rs rs' → TapsWell rs ts → TapsWell rs' ts
taps_grow rs rs' ts g w k t here = tap_grows rs rs' t g (w k t here)

grants_grow : (rs rs' : ReserveRows) (gs : List Grant) → Grows rs rs' → GrantsWell rs gs → GrantsWell rs' gs
grants_grow rs rs' [] g w = tt
grants_grow rs rs' (x ∷ gs) g w = (g x.reserve w.0, w.1, grants_grow rs rs' gs g w.2)

parents_alike : (rs rs' : ReserveRows) → Alike rs rs' → Parents rs → Parents rs'
parents_alike rs rs' a p j o = subst (λ x. present rs' x ≡ true) (sym (a.parents (suc j))) (a.opens (parent_of rs (suc j)) ∙ p j (sym (a.opens (suc j)) ∙ o))

-- opening a reserve

parent_written : (rs : ReserveRows) (i : ℕ) (x : Reserve) → present (set rs i (Some x)) i ≡ true → parent_of (set rs i (Some x)) i ≡ x.parent
parent_written [] i x o = absurd (false≢true o)
parent_written (r ∷ rs) zero x o = refl
parent_written (r ∷ rs) (suc i) x o = parent_written rs i x o

parents_opened : (rs : ReserveRows) (i : ℕ) (x : Reserve) → present rs x.parent ≡ true → Parents rs → Parents (set rs i (Some x))
parents_opened rs i x from p j o = ⊎_elim
    (λ e.
    let up : parent_of (set rs i (Some x)) (suc j) ≡ x.parent = subst (λ k. present (set rs k (Some x)) (suc j) ≡ true → parent_of (set rs k (Some x)) (suc j) ≡ x.parent) e (parent_written rs (suc j) x) o in
    subst (λ y. present (set rs i (Some x)) y ≡ true) (sym up) (grows_set rs i x x.parent from))
    (λ e.
    let same = get_or-set_other rs i (suc j) (Some x) None e in
    subst (λ y. present (set rs i (Some x)) y ≡ true) (sym (ap parent_in same)) (grows_set rs i x (parent_of rs (suc j)) (p j (sym (ap is_some same) ∙ o))))
    (cases_eq (suc j) i)

-- closing one

any_false : {A : Type 0} (f : Option A → Bool) (xs : List (Option A)) (k : ℕ) → f None ≡ false → list_any f xs ≡ false → f (get_or xs k None) ≡ false
any_false f [] k n a = n
any_false f (x ∷ xs) zero n a = (or_parts (f x) (list_any f xs) a).0
any_false f (x ∷ xs) (suc k) n a = any_false f xs k n (or_parts (f x) (list_any f xs) a).1

stays_open : (rs : ReserveRows) (i j : ℕ) → (j ≡ i → ⊥) → present rs j ≡ true → present (set rs i None) j ≡ true
stays_open rs i j differ o = ap is_some (get_or-set_other rs i j None None differ) ∙ o

shut_now : (rs : ReserveRows) (i : ℕ) → present (set rs i None) i ≡ false
shut_now [] i = refl
shut_now (r ∷ rs) zero = refl
shut_now (r ∷ rs) (suc i) = shut_now rs i

other_parent : (o : Option Reserve) (i : ℕ) → is_some o ≡ true → parent_is i o ≡ false → parent_in o ≡ i → ⊥
other_parent None i o n e = absurd (false≢true o)
other_parent (Some x) i o n e = eqb-false x.parent i n e

not_parent : (rs : ReserveRows) (i j : ℕ) → is_parent rs i ≡ false → present rs (suc j) ≡ true → parent_of rs (suc j) ≡ i → ⊥
not_parent [] i j n o = absurd (false≢true o)
not_parent (r ∷ rs) i j n o = other_parent (get_or rs j None) i o (any_false (parent_is i) rs j refl n)

parents_closed : (rs : ReserveRows) (i : ℕ) → is_parent rs i ≡ false → Parents rs → Parents (set rs i None)
parents_closed rs i childless p j o = ⊎_elim
    (λ e. absurd (false≢true (sym (shut_now rs i) ∙ subst (λ k. present (set rs i None) k ≡ true) e o)))
    (λ e.
    let same = get_or-set_other rs i (suc j) None None e in
    let was : present rs (suc j) ≡ true = sym (ap is_some same) ∙ o in
    subst (λ y. present (set rs i None) y ≡ true) (sym (ap parent_in same)) (stays_open rs i (parent_of rs (suc j)) (not_parent rs i j childless was) (p j was)))
    (cases_eq (suc j) i)

-- the parent of a reserve that closes stays open
pub parent_open : (rs : ReserveRows) (i : ℕ) → 1 ≤ i → present rs i ≡ true → is_parent rs i ≡ false → Parents rs → present (set rs i None) (parent_of rs i) ≡ true
parent_open rs zero low here childless p = absurd (omega arith)
parent_open rs (suc j) low here childless p = stays_open rs (suc j) (parent_of rs (suc j)) (not_parent rs (suc j) j childless here) (p j here)

taps_closed : (rs : ReserveRows) (ts : TapRows) (i : ℕ) → list_any (ends_at i) ts ≡ false → TapsWell rs ts → TapsWell (set rs i None) ts
taps_closed rs ts i untapped w k t here =
    let was = w k t here in
    let ends = or_parts (eqb t.source i) (eqb t.sink i) (ap (ends_at i) (sym here) ∙ any_false (ends_at i) ts k refl untapped) in
    record {
      from = stays_open rs i t.source (eqb-false t.source i ends.0) was.from;
      to = stays_open rs i t.sink (eqb-false t.sink i ends.1) was.to;
      apart = was.apart;
      rate = was.rate;
    }

grants_closed : (rs : ReserveRows) (gs : List Grant) (i : ℕ) → list_any (of_reserve i) gs ≡ false → GrantsWell rs gs → GrantsWell (set rs i None) gs
grants_closed rs [] i n w = tt
grants_closed rs (g ∷ gs) i n w =
    let parts = or_parts (of_reserve i g) (list_any (of_reserve i) gs) n in
    (stays_open rs i g.reserve (eqb-false g.reserve i parts.0) w.0, w.1, grants_closed rs gs i parts.1 w.2)

-- taps

taps_tapped : (rs : ReserveRows) (ts : TapRows) (i : ℕ) (x : Tap) → TapWell rs x → TapsWell rs ts → TapsWell rs (set ts i (Some x))
taps_tapped rs ts i x new w k t here = ⊎_elim
    (λ e. subst (TapWell rs) (some_same (read_written ts k (Some x) t (subst (λ j. get_or (set ts j (Some x)) k None ≡ Some t) e here))) new)
    (λ e. w k t (read_elsewhere ts i k (Some x) t e here))
    (cases_eq i k)

taps_shut : (rs : ReserveRows) (ts : TapRows) (i : ℕ) → TapsWell rs ts → TapsWell rs (set ts i None)
taps_shut rs ts i w k t here = ⊎_elim
    (λ e. absurd (none_some (read_written ts k None t (subst (λ j. get_or (set ts j None) k None ≡ Some t) e here))))
    (λ e. w k t (read_elsewhere ts i k None t e here))
    (cases_eq i k)

tap_stepped : (rs : ReserveRows) (o : Option Tap) (t : Tap) → ((x : Tap) → o ≡ Some x → TapWell rs x) → stepped o ≡ Some t → TapWell rs t
tap_stepped rs None t w e = absurd (none_some e)
tap_stepped rs (Some x) t w e =
    let was = w x refl in
    let pos : 0 < x.d = omega (arith, was.rate.2) in
    subst (TapWell rs) (some_same e) (record { from = was.from; to = was.to; apart = was.apart; rate = (was.rate.0, was.rate.1, mod-lt (x.n + x.r) pos) })

taps_stepped : (rs : ReserveRows) (ts : TapRows) → TapsWell rs ts → TapsWell rs (map stepped ts)
taps_stepped rs ts w k t here = tap_stepped rs (get_or ts k None) t (w k) (sym (get_or_map stepped ts k refl) ∙ here)

-- grants

grants_more : (rs : ReserveRows) (gs : List Grant) (g : Grant) → present rs g.reserve ≡ true → g.amount ≤ bound → GrantsWell rs gs → GrantsWell rs (gs ++ g ∷ [])
grants_more rs [] g o q w = (o, q, tt)
grants_more rs (x ∷ gs) g o q w = (w.0, w.1, grants_more rs gs g o q w.2)

grants_cond : (rs : ReserveRows) (b : Bool) (g : Grant) (gs : List Grant) → present rs g.reserve ≡ true → g.amount ≤ bound → GrantsWell rs gs → GrantsWell rs (cond b (g ∷ gs) gs)
grants_cond rs true g gs o q w = (o, q, w)
grants_cond rs false g gs o q w = w

grants_without : (rs : ReserveRows) (serial : ℕ) (gs : List Grant) → GrantsWell rs gs → GrantsWell rs (without serial gs)
grants_without rs serial [] w = tt
grants_without rs serial (g ∷ gs) w = grants_cond rs (not (eqb g.serial serial)) g (without serial gs) w.0 w.1 (grants_without rs serial gs w.2)

grants_marked : (rs : ReserveRows) (p : Bool) (serial : ℕ) (gs : List Grant) → GrantsWell rs gs → GrantsWell rs (marked p serial gs)
grants_marked rs p serial [] w = tt
grants_marked rs p serial (g ∷ gs) w = (w.0, w.1, grants_marked rs p serial gs w.2)

length_cond : (b : Bool) (g : Grant) (gs : List Grant) → length (cond b (g ∷ gs) gs) ≤ suc (length gs)
length_cond true g gs = omega arith
length_cond false g gs = omega arith

length_without : (serial : ℕ) (gs : List Grant) → length (without serial gs) ≤ length gs
length_without serial [] = omega arith
length_without serial (g ∷ gs) = omega (arith, length_cond (not (eqb g.serial serial)) g (without serial gs), length_without serial gs)

-- a grant that is there goes
pub length_settled : (serial amount : ℕ) (gs : List Grant) → fits_out serial amount gs ≡ true → length (without serial gs) < length gs
length_settled serial amount [] f = absurd (false≢true f)
length_settled serial amount (g ∷ gs) f = go (grant_of serial gs) (length_settled serial amount gs) (eqb g.serial serial) f
  where
    go : (o : Option Grant) → (out_with amount o ≡ true → length (without serial gs) < length gs) → (b : Bool)
        → out_with amount (option_or o (cond b (Some g) None)) ≡ true → length (cond (not b) (g ∷ without serial gs) (without serial gs)) < suc (length gs)
    go (Some x) later true f = omega (arith, later f)
    go (Some x) later false f = omega (arith, later f)
    go None later true f = omega (arith, length_without serial gs)
    go None later false f = absurd (false≢true f)

-- the reserve of a grant that is out is open, and its amount is at most G
pub grant_well : (rs : ReserveRows) (serial amount : ℕ) (gs : List Grant) → fits_out serial amount gs ≡ true → GrantsWell rs gs → (present rs (reserve_of serial gs) ≡ true) × (amount ≤ bound)
grant_well rs serial amount [] f w = absurd (false≢true f)
grant_well rs serial amount (g ∷ gs) f w = go (grant_of serial gs) (λ later. grant_well rs serial amount gs later w.2) (eqb g.serial serial) f
  where
    go : (o : Option Grant) → (out_with amount o ≡ true → (present rs (reserve_in o) ≡ true) × (amount ≤ bound)) → (b : Bool)
        → out_with amount (option_or o (cond b (Some g) None)) ≡ true
        → (present rs (reserve_in (option_or o (cond b (Some g) None))) ≡ true) × (amount ≤ bound)
    go (Some x) later b f = later f
    go None later true f = (w.0, subst (λ q. q ≤ bound) (eqb-true g.amount amount (and_parts _ _ f).0) w.1)
    go None later false f = absurd (false≢true f)

-- levels

level_absent : (o : Option Reserve) → is_some o ≡ false → level_in o ≡ 0
level_absent None e = refl
level_absent (Some x) e = absurd (true≢false e)

levels_moved : (rs : ReserveRows) (o : Option Tap) (q : ℕ) → ((t : Tap) → o ≡ Some t → TapWell rs t) → q ≡ figure_of rs o → levels (moved rs o q) ≡ levels rs
levels_moved rs None q w e = refl
levels_moved rs (Some t) q w e =
    let least : q ≤ level_at rs t.source = omega arith in
    levels_give (lower rs t.source q) t.sink q ((alike_lower rs t.source q).opens t.sink ∙ (w t refl).to) ∙ levels_lower rs t.source q least

levels_after_moves : (rs : ReserveRows) (ts : TapRows) (qs : List ℕ) → TapsWell rs ts → Figures rs ts qs → levels (after_moves rs ts qs) ≡ levels rs
levels_after_moves rs [] qs w f = refl
levels_after_moves rs (t ∷ ts) [] w f = refl
levels_after_moves rs (t ∷ ts) (q ∷ qs) w f =
    levels_after_moves (moved rs t q) ts qs (taps_grow rs (moved rs t q) ts (grows_alike rs (moved rs t q) (alike_moved rs t q)) (λ k. w (suc k))) f.1
    ∙ levels_moved rs t q (w 0) f.0

-- one call

-- new levels alone
releveled : (s : Standing) (held held' : ℕ) (rs : ReserveRows) → Alike s.reserves rs → levels rs ≡ held' → Within rs → Well s held
    → Well (record { reserves = rs; taps = s.taps; grants = s.grants; serials = s.serials; ticks = s.ticks }) held'
releveled s held held' rs a sum within w = record {
  reserves = a.size ∙ w.reserves;
  taps = w.taps;
  root = a.opens 0 ∙ w.root;
  root_limit = a.limits 0 ∙ w.root_limit;
  levels = sum;
  within = within;
  parents = parents_alike s.reserves rs a w.parents;
  ends = taps_grow s.reserves rs s.taps (grows_alike s.reserves rs a) w.ends;
  owners = grants_grow s.reserves rs s.grants (grows_alike s.reserves rs a) w.owners;
  few = w.few;
  given = w.given;
  ledger = w.ledger;
  serials = w.serials;
  ticks = w.ticks;
}

well_same : (s : Standing) (held held' : ℕ) → held' ≡ held → Well s held → Well s held'
well_same s held held' e w = subst (Well s) (sym e) w

well_opened : (s : Standing) (held held' parent number owner limit amount : ℕ) → Opening s parent number limit amount held held' → Well s held
    → Well (record { reserves = set (lower s.reserves parent amount) number (Some (record { owner = owner; parent = parent; limit = limit; level = amount })); taps = s.taps; grants = s.grants; serials = s.serials; ticks = s.ticks }) held'
well_opened s held held' parent number owner limit amount f w =
    let rs : ReserveRows = lower s.reserves parent amount in
    let x : Reserve = record { owner = owner; parent = parent; limit = limit; level = amount } in
    let a = alike_lower s.reserves parent amount in
    let paid = levels_lower s.reserves parent amount f.enough in
    let placed : number < length rs = omega (arith, a.size, w.reserves, f.high) in
    let new = levels_set rs number (Some x) placed in
    let none = level_absent (get_or rs number None) (a.opens number ∙ f.free) in
    let grows : Grows s.reserves (set rs number (Some x)) = λ j o. grows_set rs number x j (grows_alike s.reserves rs a j o) in
    let other = get_or-set_other rs number 0 (Some x) None (λ e. omega (arith, f.low)) in
    record {
      reserves = length-set rs number (Some x) ∙ a.size ∙ w.reserves;
      taps = w.taps;
      root = grows 0 w.root;
      root_limit = ap limit_in other ∙ a.limits 0 ∙ w.root_limit;
      levels = opened_sum (levels (set rs number (Some x))) (levels rs) (levels s.reserves) (level_at rs number) new paid none ∙ w.levels ∙ sym f.held;
      within = within_set rs number (Some x) f.fits (within_lower s.reserves parent amount w.within);
      parents = parents_opened rs number x (a.opens parent ∙ f.from) (parents_alike s.reserves rs a w.parents);
      ends = taps_grow s.reserves (set rs number (Some x)) s.taps grows w.ends;
      owners = grants_grow s.reserves (set rs number (Some x)) s.grants grows w.owners;
      few = w.few;
      given = w.given;
      ledger = w.ledger;
      serials = w.serials;
      ticks = w.ticks;
    }
  where
    opened_sum : (after mid before old : ℕ) → after + old ≡ mid + amount → mid + amount ≡ before → old ≡ 0 → after ≡ before
    opened_sum after mid before old p q r = omega arith

well_closed : (s : Standing) (held held' number : ℕ) → Closing s number held held' → Well s held
    → Well (record { reserves = return_to (set s.reserves number None) (parent_of s.reserves number) (level_at s.reserves number); taps = s.taps; grants = s.grants; serials = s.serials; ticks = s.ticks }) held'
well_closed s held held' zero f w = absurd (omega (arith, f.low))
well_closed s held held' (suc j) f w =
    let rs : ReserveRows = s.reserves in
    let left : ReserveRows = set rs (suc j) None in
    let placed : suc j < length rs = omega (arith, w.reserves, f.high) in
    let gone = levels_set rs (suc j) None placed in
    let root : present left 0 ≡ true = stays_open rs (suc j) 0 (λ e. omega arith) w.root in
    let up : present left (parent_of rs (suc j)) ≡ true = parent_open rs (suc j) f.low f.here f.childless w.parents in
    let back = levels_return left (parent_of rs (suc j)) (level_at rs (suc j)) up root in
    let without-it : Well (record { reserves = left; taps = s.taps; grants = s.grants; serials = s.serials; ticks = s.ticks }) (levels left) = record {
      reserves = length-set rs (suc j) None ∙ w.reserves;
      taps = w.taps;
      root = root;
      root_limit = ap limit_in (get_or-set_other rs (suc j) 0 None None (λ e. omega arith)) ∙ w.root_limit;
      levels = refl;
      within = within_set rs (suc j) None (omega arith) w.within;
      parents = parents_closed rs (suc j) f.childless w.parents;
      ends = taps_closed rs s.taps (suc j) f.untapped w.ends;
      owners = grants_closed rs s.grants (suc j) f.ungranted w.owners;
      few = w.few;
      given = w.given;
      ledger = w.ledger;
      serials = w.serials;
      ticks = w.ticks;
    } in
    releveled (record { reserves = left; taps = s.taps; grants = s.grants; serials = s.serials; ticks = s.ticks }) (levels left) held'
    (return_to left (parent_of rs (suc j)) (level_at rs (suc j)))
    (alike_return left (parent_of rs (suc j)) (level_at rs (suc j)))
    (back ∙ closed_sum (levels left) (levels rs) (level_at rs (suc j)) gone ∙ w.levels ∙ sym f.held)
    (within_return left (parent_of rs (suc j)) (level_at rs (suc j)) without-it.within)
    without-it
  where
    closed_sum : (left all one : ℕ) → left + one ≡ all + 0 → left + one ≡ all
    closed_sum left all one e = omega arith

-- what the taps are, or the grants, or the counts
re_tapped : (s : Standing) (held : ℕ) (ts : TapRows) → length ts ≡ 96 → TapsWell s.reserves ts → Well s held
    → Well (record { reserves = s.reserves; taps = ts; grants = s.grants; serials = s.serials; ticks = s.ticks }) held
re_tapped s held ts size ends w = record {
  reserves = w.reserves;
  taps = size;
  root = w.root;
  root_limit = w.root_limit;
  levels = w.levels;
  within = w.within;
  parents = w.parents;
  ends = ends;
  owners = w.owners;
  few = w.few;
  given = w.given;
  ledger = w.ledger;
  serials = w.serials;
  ticks = w.ticks;
}

re_granted : (s : Standing) (held : ℕ) (gs : List Grant) (serials : ℕ) → GrantsWell s.reserves gs → length gs ≤ 64 → length gs ≤ serials → Ledger 0 serials gs → serials ≤ bound → Well s held
    → Well (record { reserves = s.reserves; taps = s.taps; grants = gs; serials = serials; ticks = s.ticks }) held
re_granted s held gs serials owners few given ledger most w = record {
  reserves = w.reserves;
  taps = w.taps;
  root = w.root;
  root_limit = w.root_limit;
  levels = w.levels;
  within = w.within;
  parents = w.parents;
  ends = w.ends;
  owners = owners;
  few = few;
  given = given;
  ledger = ledger;
  serials = most;
  ticks = w.ticks;
}

re_ticked : (s : Standing) (held ticks : ℕ) → ticks ≤ bound → Well s held
    → Well (record { reserves = s.reserves; taps = s.taps; grants = s.grants; serials = s.serials; ticks = ticks }) held
re_ticked s held ticks most w = record {
  reserves = w.reserves;
  taps = w.taps;
  root = w.root;
  root_limit = w.root_limit;
  levels = w.levels;
  within = w.within;
  parents = w.parents;
  ends = w.ends;
  owners = w.owners;
  few = w.few;
  given = w.given;
  ledger = w.ledger;
  serials = w.serials;
  ticks = most;
}

well_tick : (s : Standing) (held held' harvest loss intake : ℕ) (figures : List ℕ) → Ticking s harvest loss intake figures held held' → Well s held
    → Well (record { reserves = after_moves (before_taps s loss intake) s.taps figures; taps = map stepped s.taps; grants = s.grants; serials = s.serials; ticks = s.ticks + 1 }) held'
well_tick s held held' harvest loss intake figures f w =
    let rs : ReserveRows = charge_loss loss s.reserves in
    let mid : ReserveRows = give rs 0 intake in
    let least : loss ≤ levels s.reserves = omega (arith, f.loss, w.levels) in
    let lost = levels_charge_loss loss s.reserves w.reserves least in
    let charged = alike_charge_loss loss s.reserves in
    let given = levels_give rs 0 intake (charged.opens 0 ∙ w.root) in
    let start = alike_trans charged (alike_give rs 0 intake) in
    let ends = taps_grow s.reserves mid s.taps (grows_alike s.reserves mid start) w.ends in
    let moves = levels_after_moves mid s.taps figures ends f.figures in
    let within : Within (after_moves mid s.taps figures) = within_after_moves mid s.taps figures f.figures (λ j. within_root_given rs intake (within_charge_loss loss s.reserves w.within) j) in
    let one = releveled s held held' (after_moves mid s.taps figures) (alike_trans start (alike_after_moves mid s.taps figures))
    (moves ∙ given ∙ tick_sum (levels rs) (levels s.reserves) lost w.levels f.held) within w in
    let two = re_tapped _ held' (map stepped s.taps) (length-map s.taps stepped ∙ w.taps) (taps_stepped _ s.taps one.ends) one in
    re_ticked _ held' (s.ticks + 1) (omega (arith, f.count)) two
  where
    tick_sum : (rest all : ℕ) → rest + loss ≡ all → all ≡ held → held' ≡ held - loss + intake → rest + intake ≡ held'
    tick_sum rest all p q r = omega arith

pub well_after : (s : Standing) (held : ℕ) (e : Event) (held' : ℕ) → Facts held s e held' → Well s held → Well (after s e) held'
well_after s held (refused call why) held' f w = well_same s held held' f w
well_after s held (opened task parent number owner limit amount) held' f w = well_opened s held held' parent number owner limit amount f w
well_after s held (closed task number) held' f w = well_closed s held held' number f w
well_after s held (tapped task tap source sink n d) held' f w =
    let x : Tap = record { source = source; sink = sink; n = n; d = d; r = 0 } in
    re_tapped s held' (set s.taps tap (Some x)) (length-set s.taps tap (Some x) ∙ w.taps)
    (taps_tapped s.reserves s.taps tap x (record { from = f.from; to = f.to; apart = f.apart; rate = (f.part, f.most, f.some) }) w.ends)
    (well_same s held held' f.held w)
well_after s held (shut task tap) held' f w =
    re_tapped s held' (set s.taps tap None) (length-set s.taps tap None ∙ w.taps) (taps_shut s.reserves s.taps tap w.ends) (well_same s held held' f w)
well_after s held (granted task reserve amount serial) held' f w =
    let g : Grant = record { serial = serial; amount = amount; reserve = reserve; parked = false } in
    let rs : ReserveRows = lower s.reserves reserve amount in
    let a = alike_lower s.reserves reserve amount in
    let sum : levels rs ≡ held' = omega (arith, levels_lower s.reserves reserve amount f.level, w.levels, f.held) in
    let one = releveled s held held' rs a sum (within_lower s.reserves reserve amount w.within) w in
    let size = length-append s.grants (g ∷ []) in
    re_granted _ held' (s.grants ++ g ∷ []) serial (grants_more rs s.grants g (a.opens reserve ∙ f.here) f.most one.owners)
    (omega (arith, size, f.few)) (omega (arith, size, f.next, w.given)) (ledger_granted 0 s.serials s.grants g (omega (arith, f.next)) f.some w.ledger) (omega (arith, f.next, f.count)) one
well_after s held (settled serial amount used lost) held' f w =
    let back : ℕ = amount - used - lost in
    let i : ℕ = reserve_of serial s.grants in
    let rs : ReserveRows = return_to s.reserves i back in
    let sum = levels_return s.reserves i back (grant_well s.reserves serial amount s.grants f.fits w.owners).0 w.root in
    let one = releveled s held held' rs (alike_return s.reserves i back) (sum ∙ ap (λ x. x + back) w.levels ∙ sym f.held) (within_return s.reserves i back w.within) w in
    re_granted _ held' (without serial s.grants) s.serials (grants_without rs serial s.grants one.owners) (omega (arith, length_without serial s.grants, w.few)) (omega (arith, length_without serial s.grants, w.given)) (ledger_without 0 s.serials serial s.grants w.ledger) w.serials one
well_after s held (parked serial amount) held' f w =
    re_granted s held' (marked true serial s.grants) s.serials (grants_marked s.reserves true serial s.grants w.owners) (omega (arith, length-map s.grants (mark true serial), w.few)) (omega (arith, length-map s.grants (mark true serial), w.given)) (ledger_marked 0 s.serials serial true s.grants w.ledger) w.serials (well_same s held held' f w)
well_after s held (recalled task serial amount) held' f w =
    re_granted s held' (marked false serial s.grants) s.serials (grants_marked s.reserves false serial s.grants w.owners) (omega (arith, length-map s.grants (mark false serial), w.few)) (omega (arith, length-map s.grants (mark false serial), w.given)) (ledger_marked 0 s.serials serial false s.grants w.ledger) w.serials (well_same s held held' f w)
well_after s held (ticked harvest loss intake figures) held' f w = well_tick s held held' harvest loss intake figures f w
well_after s held (audited t) held' f w = well_same s held held' f w

pub well_born : (held : ℕ) → Well (born held) held
well_born held = record {
  reserves = refl;
  taps = refl;
  root = refl;
  root_limit = refl;
  levels = omega arith;
  within = λ j. subst (λ o. level_in o ≤ limit_in o) (sym (nothing_there {A = Reserve} 31 j)) zero-le;
  parents = λ j o. absurd (false≢true (sym (ap is_some (nothing_there {A = Reserve} 31 j)) ∙ o));
  ends = λ k t here. absurd (read_empty 96 k t here);
  owners = tt;
  few = omega arith;
  given = omega arith;
  ledger = omega arith;
  serials = omega arith;
  ticks = omega arith;
}
