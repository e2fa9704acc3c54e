-- A tap that is open since it last opened: its rate, its dues and what it delivered.
use Rattle.std.proofs.Common.{◌≡◌, ℕ, ◌+◌, ◌*◌, ◌/◌, ◌%◌, ◌<◌, ◌≤◌, min, Bool, true, false, cond, [], ◌∷◌, get_or, set, Some, None, Option, sym, refl, ap, ◌∙◌, subst, subst₂, ⊎_elim, mod-lt, arith}
use native.Mathlib.Nat.{div-add-mod}
use lib.Arith.{digits_div}
use Rattle.std.proofs.lemmas.Bool.{cases_eq, eq-eqb, ne_eqb}
use Rattle.tables.specs.declared.taps.Tap.{Tap}
use Rattle.tables.specs.Reserves.{ReserveRows, level_at, headroom}
use Rattle.tables.specs.Taps.{tap_due, stepped, figure_of, Figures}
use Rattle.node.specs.Calls.{Event, History, refused, opened, closed, tapped, shut, granted, settled, parked, recalled, ticked, audited}
use Rattle.node.specs.Rules.{before_taps}
use Rattle.node.specs.Law.{standing_after, Tick, tick_of, opens, at_turn, sum_at_ticks, all_at_ticks, ever_since_opened, due_of, due_at, delivered, dues, ticks_since, Enough, Delivery}
use Rattle.node.proofs.Places.{none_some, some_same, read_written, read_elsewhere, read_empty, get_or_map}
use Rattle.node.proofs.Turns.{figure_at}
use Rattle.node.proofs.Tale.{Tale}

-- a tap one step on
abbrev pub step : Tap → Tap
step t = record { source = t.source; sink = t.sink; n = t.n; d = t.d; r = (t.n + t.r) % t.d }

-- what a tap that is open has kept since it opened: it was due so much over so many ticks and delivered so much, and had enough at each if Ever
pub record Kept (t : Tap) (owed ticks got : ℕ) (Ever : Type 0) : Type 0 where
  pub rest : t.r < t.d
  pub sum : owed * t.d + t.r ≡ t.n * ticks
  pub at_most : got ≤ owed
  pub to : got ≡ owed → Ever
  pub from : Ever → got ≡ owed

kept_fresh : (source sink n d : ℕ) → 1 ≤ d → Kept (record { source = source; sink = sink; n = n; d = d; r = 0 }) 0 0 0 (Unit {0})
kept_fresh source sink n d some = record { rest = some; sum = omega arith; at_most = omega arith; to = λ _. tt; from = λ _. refl }

kept_quiet : (t : Tap) (owed ticks got : ℕ) (Ever : Type 0) → Kept t owed ticks got Ever → Kept t (0 + owed) (0 + ticks) (0 + got) (Unit {0} × Ever)
kept_quiet t owed ticks got Ever kept = record {
  rest = kept.rest;
  sum = omega (arith, kept.sum);
  at_most = omega (arith, kept.at_most);
  to = λ e. (tt, kept.to (omega arith));
  from = λ e. omega (arith, kept.from e.1);
}

-- a tick at which the tap moved as much of its due as the source had and the sink had room for
kept_tick : (t : Tap) (owed ticks got figure low room : ℕ) (Now Ever : Type 0) → figure ≡ min (tap_due t) (min low room)
    → (Now → (tap_due t ≤ low) × (tap_due t ≤ room)) → (tap_due t ≤ low → tap_due t ≤ room → Now)
    → Kept t owed ticks got Ever → Kept (step t) (tap_due t + owed) (1 + ticks) (figure + got) (Now × Ever)
kept_tick t owed ticks got figure low room Now Ever moves enough now kept =
    let pos : 0 < t.d = omega (arith, kept.rest) in
    let whole = div-add-mod (t.n + t.r) t.d in
    record {
      rest = mod-lt (t.n + t.r) pos;
      sum = omega (arith, kept.sum);
      at_most = omega (arith, kept.at_most);
      to = λ e. (now (omega (arith, kept.at_most)) (omega (arith, kept.at_most)), kept.to (omega (arith, kept.at_most)));
      from = λ e. omega (arith, enough e.0, kept.from e.1);
    }

-- of tap k, after these calls
abbrev pub KeptBy : ℕ → ℕ → History → Tap → Type 0
KeptBy birth k h t = Kept t (dues birth k h) (ticks_since birth k h) (delivered birth k h) (ever_since_opened birth (Enough k) k h)

-- the same, with what the newest call is to tap k still open
abbrev KeptAt : ℕ → ℕ → History → Tap → Bool → Option Tick → Type 0
KeptAt birth k h t fresh now = Kept t
    (cond fresh 0 (sum_at_ticks (due_at k) (standing_after birth h) now + dues birth k h))
    (cond fresh 0 (sum_at_ticks (λ s u. 1) (standing_after birth h) now + ticks_since birth k h))
    (cond fresh 0 (sum_at_ticks (λ s u. get_or u.figures k 0) (standing_after birth h) now + delivered birth k h))
    (cond fresh (Unit {0}) (all_at_ticks (Enough k) (standing_after birth h) now × ever_since_opened birth (Enough k) k h))

-- a call that neither opens tap k nor ticks
quiet : (birth k : ℕ) (e : Event) (h : History) (t : Tap) → opens k e ≡ false → tick_of e ≡ None → KeptBy birth k h t → KeptBy birth k (e ∷ h) t
quiet birth k e h t o q kept =
    subst₂ (KeptAt birth k h t) (sym o) (sym q) (kept_quiet t (dues birth k h) (ticks_since birth k h) (delivered birth k h) (ever_since_opened birth (Enough k) k h) kept)

-- a call that opens it
fresh : (birth k : ℕ) (e : Event) (h : History) (source sink n d : ℕ) → opens k e ≡ true → 1 ≤ d → KeptBy birth k (e ∷ h) (record { source = source; sink = sink; n = n; d = d; r = 0 })
fresh birth k e h source sink n d o some =
    let t : Tap = record { source = source; sink = sink; n = n; d = d; r = 0 } in
    subst (λ b. KeptAt birth k h t b (tick_of e)) (sym o) (kept_fresh source sink n d some)

-- a tick, with what the tap was before it
ticks_on : (birth k : ℕ) (h : History) (u : Tick) (t : Tap) → get_or (standing_after birth h).taps k None ≡ Some t
    → Figures (before_taps (standing_after birth h) u.loss u.intake) (standing_after birth h).taps u.figures
    → KeptBy birth k h t → KeptAt birth k h (step t) false (Some u)
ticks_on birth k h u t here figures kept =
    let rs : ReserveRows = at_turn (standing_after birth h) u k in
    let moves : get_or u.figures k 0 ≡ figure_of rs (Some t) = figure_at (before_taps (standing_after birth h) u.loss u.intake) (standing_after birth h).taps u.figures k figures ∙ ap (figure_of rs) here in
    subst (λ o. Kept (step t) (due_of o + dues birth k h) (1 + ticks_since birth k h) (get_or u.figures k 0 + delivered birth k h) (Enough k (standing_after birth h) u × ever_since_opened birth (Enough k) k h))
    (sym here)
    (kept_tick t (dues birth k h) (ticks_since birth k h) (delivered birth k h) (get_or u.figures k 0) (level_at rs t.source) (headroom rs t.sink)
    (Enough k (standing_after birth h) u) (ever_since_opened birth (Enough k) k h) moves
    (λ enough. enough t here)
    (λ low room other same. subst (λ x. (tap_due x ≤ level_at rs x.source) × (tap_due x ≤ headroom rs x.sink)) (some_same (sym here ∙ same)) (low, room))
    kept)

-- a tick, with what the tap is after it
ticked_to : (birth k : ℕ) (h : History) (u : Tick) (t : Tap) (o : Option Tap) → get_or (standing_after birth h).taps k None ≡ o → stepped o ≡ Some t
    → Figures (before_taps (standing_after birth h) u.loss u.intake) (standing_after birth h).taps u.figures
    → ((x : Tap) → get_or (standing_after birth h).taps k None ≡ Some x → KeptBy birth k h x) → KeptAt birth k h t false (Some u)
ticked_to birth k h u t None was is figures kept = absurd (none_some is)
ticked_to birth k h u t (Some x) was is figures kept = subst (λ y. KeptAt birth k h y false (Some u)) (some_same is) (ticks_on birth k h u x was figures (kept x was))

pub kept : (birth k : ℕ) (h : History) (held : ℕ) → Tale birth h held → (t : Tap) → get_or (standing_after birth h).taps k None ≡ Some t → KeptBy birth k h t
kept birth k [] held tale t here = absurd (read_empty 96 k t here)
kept birth k (refused call why ∷ h) held tale t here = quiet birth k (refused call why) h t refl refl (kept birth k h tale.0 tale.1 t here)
kept birth k (opened task parent number owner limit amount ∷ h) held tale t here = quiet birth k (opened task parent number owner limit amount) h t refl refl (kept birth k h tale.0 tale.1 t here)
kept birth k (closed task number ∷ h) held tale t here = quiet birth k (closed task number) h t refl refl (kept birth k h tale.0 tale.1 t here)
kept birth k (granted task reserve amount serial ∷ h) held tale t here = quiet birth k (granted task reserve amount serial) h t refl refl (kept birth k h tale.0 tale.1 t here)
kept birth k (settled serial amount used lost ∷ h) held tale t here = quiet birth k (settled serial amount used lost) h t refl refl (kept birth k h tale.0 tale.1 t here)
kept birth k (parked serial amount ∷ h) held tale t here = quiet birth k (parked serial amount) h t refl refl (kept birth k h tale.0 tale.1 t here)
kept birth k (recalled task serial amount ∷ h) held tale t here = quiet birth k (recalled task serial amount) h t refl refl (kept birth k h tale.0 tale.1 t here)
kept birth k (audited totals ∷ h) held tale t here = quiet birth k (audited totals) h t refl refl (kept birth k h tale.0 tale.1 t here)
kept birth k (tapped task tap source sink n d ∷ h) held tale t here = ⊎_elim
    (λ e.
    let new : Option Tap = Some (record { source = source; sink = sink; n = n; d = d; r = 0 }) in
    let is : new ≡ Some t = read_written (standing_after birth h).taps k new t (subst (λ i. get_or (set (standing_after birth h).taps i new) k None ≡ Some t) e here) in
    subst (KeptBy birth k (tapped task tap source sink n d ∷ h)) (some_same is) (fresh birth k (tapped task tap source sink n d) h source sink n d (eq-eqb tap k e) tale.2.some))
    (λ e. quiet birth k (tapped task tap source sink n d) h t (ne_eqb tap k e) refl (kept birth k h tale.0 tale.1 t (read_elsewhere (standing_after birth h).taps tap k _ t e here)))
    (cases_eq tap k)
kept birth k (shut task tap ∷ h) held tale t here = ⊎_elim
    (λ e. absurd (none_some (read_written (standing_after birth h).taps k None t (subst (λ i. get_or (set (standing_after birth h).taps i None) k None ≡ Some t) e here))))
    (λ e. quiet birth k (shut task tap) h t refl refl (kept birth k h tale.0 tale.1 t (read_elsewhere (standing_after birth h).taps tap k None t e here)))
    (cases_eq tap k)
kept birth k (ticked harvest loss intake figures ∷ h) held tale t here =
    let u : Tick = record { harvest = harvest; loss = loss; intake = intake; figures = figures } in
    ticked_to birth k h u t (get_or (standing_after birth h).taps k None) refl (sym (get_or_map stepped (standing_after birth h).taps k refl) ∙ here) tale.2.figures (kept birth k h tale.0 tale.1)

pub delivery : (birth : ℕ) (h : History) (held : ℕ) → Tale birth h held → (k : ℕ) (t : Tap) → get_or (standing_after birth h).taps k None ≡ Some t → Delivery birth h k t
delivery birth h held tale k t here =
    let was = kept birth k h held tale t here in
    record {
      sum = sym (digits_div (dues birth k h) was.rest) ∙ ap (λ x. x / t.d) was.sum;
      at_most = was.at_most;
      exact = (was.to, was.from);
    }
