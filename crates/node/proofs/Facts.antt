-- What an accepted call tells, in numbers: no test turned it down, and the store answered as it means.
--     Facts old s e left       what the event e tells of a node that stood at s, over a store that held old and then left
use Rattle.std.proofs.Common.{◌≡◌, ℕ, ◌+◌, ◌-◌, ◌<◌, ◌≤◌, Bool, true, false, cond, List, [], ◌∷◌, length, Some, None, Option, sym, refl, ap, le_trans, arith}
use Rattle.std.proofs.lemmas.Bool.{and_parts, or_parts, not-false, leb-true, leb-false, ltb-false, eqb-false}
use Rattle.std.specs.List.{list_any}
use Rattle.rates.specs.Amount.{bound}
use Rattle.store.specs.Meaning.{Meaning, Sound, top}
use Rattle.store.proofs.Stages.{top_falling}
use Rattle.tables.specs.Rows.{present}
use Rattle.tables.specs.Reserves.{level_at, is_parent}
use Rattle.tables.specs.Taps.{ends_at, Figures}
use Rattle.tables.specs.Grants.{of_reserve, fits_out}
use Rattle.tables.specs.declared.books.Books.{Books}
use Rattle.node.specs.declared.denial.Denial.{Denial}
use Rattle.node.specs.Standing.{Standing}
use Rattle.node.specs.Calls.{Event, open_reserve, close_reserve, open_tap, request, settle, tick}
use Rattle.node.specs.Calls.{refused, opened, closed, tapped, shut, granted, settled, parked, recalled, ticked, audited}
use Rattle.node.specs.Rules.{tests, turned_down, before_taps, first_of}
use Rattle.node.specs.Steps.{Answers, asked, verdict}
use Rattle.node.proofs.Places.{none_some}

pub record Opening (s : Standing) (parent number limit amount old left : ℕ) : Type 0 where
  pub low : 1 ≤ number
  pub high : number ≤ 31
  pub most : limit ≤ bound
  pub from : present s.reserves parent ≡ true
  pub free : present s.reserves number ≡ false
  pub fits : amount ≤ limit
  pub enough : amount ≤ level_at s.reserves parent
  pub held : left ≡ old

pub record Closing (s : Standing) (number old left : ℕ) : Type 0 where
  pub low : 1 ≤ number
  pub high : number ≤ 31
  pub here : present s.reserves number ≡ true
  pub childless : is_parent s.reserves number ≡ false
  pub untapped : list_any (ends_at number) s.taps ≡ false
  pub ungranted : list_any (of_reserve number) s.grants ≡ false
  pub held : left ≡ old

pub record Tapping (s : Standing) (tap source sink n d old left : ℕ) : Type 0 where
  pub place : tap ≤ 95
  pub part : n ≤ 1000000
  pub some : 1 ≤ d
  pub most : d ≤ 65535
  pub from : present s.reserves source ≡ true
  pub to : present s.reserves sink ≡ true
  pub free : present s.taps tap ≡ false
  pub apart : source ≡ sink → ⊥
  pub held : left ≡ old

pub record Granting (s : Standing) (reserve amount serial old left : ℕ) : Type 0 where
  pub some : 1 ≤ amount
  pub most : amount ≤ bound
  pub here : present s.reserves reserve ≡ true
  pub few : length s.grants < 64
  pub count : s.serials < bound
  pub next : serial ≡ s.serials + 1
  pub level : amount ≤ level_at s.reserves reserve
  pub enough : amount ≤ old
  pub held : left ≡ old - amount

pub record Settling (s : Standing) (serial amount spent loss old left : ℕ) : Type 0 where
  pub fits : fits_out serial amount s.grants ≡ true
  pub used : spent ≤ amount
  pub lost : loss ≤ amount - spent
  pub held : left ≡ old + (amount - spent - loss)

pub record Ticking (s : Standing) (harvest gone taken : ℕ) (moves : List ℕ) (old left : ℕ) : Type 0 where
  pub most : harvest ≤ bound
  pub count : s.ticks < bound
  pub loss : gone ≤ old
  pub intake : taken ≤ harvest
  pub held : left ≡ old - gone + taken
  pub figures : Figures (before_taps s gone taken) s.taps moves

abbrev pub Facts : ℕ → Standing → Event → ℕ → Type 0
Facts old s (refused call why) left = left ≡ old
Facts old s (opened task parent number owner limit amount) left = Opening s parent number limit amount old left
Facts old s (closed task number) left = Closing s number old left
Facts old s (tapped task tap source sink n d) left = Tapping s tap source sink n d old left
Facts old s (shut task tap) left = left ≡ old
Facts old s (granted task reserve amount serial) left = Granting s reserve amount serial old left
Facts old s (settled serial amount used lost) left = Settling s serial amount used lost old left
Facts old s (parked serial amount) left = left ≡ old
Facts old s (recalled task serial amount) left = left ≡ old
Facts old s (ticked harvest loss intake figures) left = Ticking s harvest loss intake figures old left
Facts old s (audited t) left = left ≡ old

-- no test turned the call down
abbrev pub Cleared : List (Bool × Denial) → Type 0
Cleared [] = Unit {0}
Cleared (c ∷ cs) = (c.0 ≡ false) × Cleared cs

passed : (b : Bool) (why : Denial) (rest : Option Denial) → cond b (Some why) rest ≡ None → (b ≡ false) × (rest ≡ None)
passed true why rest e = absurd (none_some (sym e))
passed false why rest e = (refl, e)

pub cleared : (cs : List (Bool × Denial)) → first_of cs ≡ None → Cleared cs
cleared [] e = tt
cleared (c ∷ cs) e = let p = passed c.0 c.1 (first_of cs) e in (p.0, cleared cs p.1)

same_held : {m m' : Meaning} → m' ≡ m → m'.held ≡ m.held
same_held e = ap (λ (x : Meaning). x.held) e

pub facts : (m : Meaning) (s : Standing) (b : Books) (e : Event) (m' : Meaning) (places : ℕ) → Sound m → turned_down m s (asked places e) ≡ verdict e → Answers (record { store = m; standing = s; books = b }) e m' → Facts m.held s e m'.held
facts m s b (refused call why) m' places ok j a = same_held a
facts m s b (opened task parent number owner limit amount) m' places ok j a =
    let c = cleared (tests m s (open_reserve task parent number owner limit amount)) j in
    let range = and_parts _ _ (not-false _ c.0) in
    let numbers = and_parts _ _ (and_parts _ _ range.0).1 in
    record {
      low = leb-true 1 number numbers.0;
      high = leb-true number 31 numbers.1;
      most = leb-true limit bound range.1;
      from = not-false _ c.1.0;
      free = c.1.1.0;
      fits = ltb-false limit amount c.1.1.1.1.0;
      enough = ltb-false (level_at s.reserves parent) amount c.1.1.1.1.1.0;
      held = same_held a;
    }
facts m s b (closed task number) m' places ok j a =
    let c = cleared (tests m s (close_reserve task number)) j in
    let numbers = and_parts _ _ (not-false _ c.0) in
    let used = or_parts _ _ c.1.1.1.0 in
    let ends = or_parts _ _ used.0 in
    record {
      low = leb-true 1 number numbers.0;
      high = leb-true number 31 numbers.1;
      here = not-false _ c.1.0;
      childless = ends.0;
      untapped = ends.1;
      ungranted = used.1;
      held = same_held a;
    }
facts m s b (tapped task tap source sink n d) m' places ok j a =
    let c = cleared (tests m s (open_tap task tap source sink n d)) j in
    let range = and_parts _ _ (not-false _ c.0) in
    let front = and_parts _ _ range.0 in
    let divisor = and_parts _ _ range.1 in
    let ends = and_parts _ _ (not-false _ c.1.0) in
    record {
      place = leb-true tap 95 (and_parts _ _ (and_parts _ _ front.0).0).0;
      part = leb-true n 1000000 front.1;
      some = leb-true 1 d divisor.0;
      most = leb-true d 65535 divisor.1;
      from = ends.0;
      to = ends.1;
      free = c.1.1.0;
      apart = eqb-false source sink c.1.1.1.1.0;
      held = same_held a;
    }
facts m s b (shut task tap) m' places ok j a = same_held a
facts m s b (granted task reserve amount serial) m' places ok j a =
    let c = cleared (tests m s (request task reserve amount)) j in
    let range = and_parts _ _ (and_parts _ _ (not-false _ c.0)).1 in
    record {
      some = leb-true 1 amount range.0;
      most = leb-true amount bound range.1;
      here = not-false _ c.1.0;
      few = leb-false 64 (length s.grants) c.1.1.1.0;
      count = leb-false bound s.serials c.1.1.1.1.0;
      next = a.0;
      level = ltb-false (level_at s.reserves reserve) amount c.1.1.1.1.1.0;
      enough = le_trans (ltb-false (top m.stages) amount c.1.1.1.1.1.1.0) (top_falling m.held m.stages ok.falling);
      held = same_held a.1;
    }
facts m s b (settled serial amount used lost) m' places ok j a =
    let c = cleared (tests m s (settle serial amount used)) j in
    record {
      fits = not-false _ c.0;
      used = ltb-false amount used c.1.0;
      lost = omega (arith, a.2, a.1.told);
      held = omega (arith, a.2, a.1.told, a.1.held);
    }
facts m s b (parked serial amount) m' places ok j a = same_held a
facts m s b (recalled task serial amount) m' places ok j a = same_held a.1
facts m s b (ticked harvest loss intake figures) m' places ok j a =
    let c = cleared (tests m s (tick harvest places)) j in
    record {
      most = ltb-false bound harvest c.1.0;
      count = leb-false bound s.ticks c.1.1.0;
      loss = a.1.within;
      intake = omega (arith, a.2.told);
      held = omega (arith, a.1.held, a.2.held);
      figures = a.3;
    }
facts m s b (audited t) m' places ok j a = same_held a.1
