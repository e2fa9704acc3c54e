-- Every call leaves a whole state whole: well made, and counted within 64 bits.
use Rattle.std.proofs.Common.{◌≡◌, ℕ, ◌≤◌, true, false, [], ◌∷◌, length, sym, refl, subst, arith, length-append}
use Rattle.std.proofs.lemmas.List.{length-map}
use Rattle.rates.specs.Amount.{bound}
use Rattle.store.specs.Meaning.{Sound}
use Rattle.tables.specs.declared.books.Books.{Books}
use Rattle.tables.specs.declared.grant.Grant.{Grant}
use Rattle.tables.specs.Grants.{mark}
use Rattle.node.specs.Standing.{Standing}
use Rattle.node.specs.Calls.{Event, refused, opened, closed, tapped, shut, granted, settled, parked, recalled, ticked, audited}
use Rattle.node.specs.Rules.{after}
use Rattle.node.specs.Steps.{State, Step, counted}
use Rattle.node.specs.Sound.{Well, Few, Whole}
use Rattle.node.proofs.Facts.{Facts, facts}
use Rattle.node.proofs.Well.{well_after, grant_well, length_settled}

few_marked : (s t : Standing) (b : Books) → t.ticks ≡ s.ticks → t.serials ≡ s.serials → length t.grants ≡ length s.grants → Few s b → Few t b
few_marked s t b ticks serials size f = record {
  received = omega (arith, f.received, ticks);
  outstanding = omega (arith, f.outstanding, serials);
  granted = omega (arith, f.granted, serials);
  settled = omega (arith, f.settled, serials, size);
  spent = omega (arith, f.spent, serials, size);
  lost = omega (arith, f.lost, ticks, serials, size);
}

few_after : (s : Standing) (held : ℕ) (b : Books) (e : Event) (held' : ℕ) → held ≤ bound → Facts held s e held' → Well s held → Few s b → Few (after s e) (counted b e)
few_after s held b (refused call why) held' most x w f = f
few_after s held b (audited t) held' most x w f = f
few_after s held b (opened task parent number owner limit amount) held' most x w f = record { received = f.received; outstanding = f.outstanding; granted = f.granted; settled = f.settled; spent = f.spent; lost = f.lost }
few_after s held b (closed task number) held' most x w f = record { received = f.received; outstanding = f.outstanding; granted = f.granted; settled = f.settled; spent = f.spent; lost = f.lost }
few_after s held b (tapped task tap source sink n d) held' most x w f = record { received = f.received; outstanding = f.outstanding; granted = f.granted; settled = f.settled; spent = f.spent; lost = f.lost }
few_after s held b (shut task tap) held' most x w f = record { received = f.received; outstanding = f.outstanding; granted = f.granted; settled = f.settled; spent = f.spent; lost = f.lost }
few_after s held b (granted task reserve amount serial) held' most x w f =
    let g : Grant = record { serial = serial; amount = amount; reserve = reserve; parked = false } in
    let size = length-append s.grants (g ∷ []) in
    record {
      received = f.received;
      outstanding = omega (arith, f.outstanding, x.next, x.most);
      granted = omega (arith, f.granted, x.next, x.most);
      settled = omega (arith, f.settled, x.next, size);
      spent = omega (arith, f.spent, x.next, size);
      lost = omega (arith, f.lost, x.next, size);
    }
few_after s held b (settled serial amount used lost) held' most x w f =
    let fewer = length_settled serial amount s.grants x.fits in
    let small = (grant_well s.reserves serial amount s.grants x.fits w.owners).1 in
    record {
      received = f.received;
      outstanding = omega (arith, f.outstanding);
      granted = f.granted;
      settled = omega (arith, f.settled, fewer, small, w.given);
      spent = omega (arith, f.spent, fewer, small, w.given, x.used);
      lost = omega (arith, f.lost, fewer, small, w.given, x.lost);
    }
few_after s held b (parked serial amount) held' most x w f = few_marked s (after s (parked serial amount)) b refl refl (length-map s.grants (mark true serial)) f
few_after s held b (recalled task serial amount) held' most x w f = few_marked s (after s (recalled task serial amount)) b refl refl (length-map s.grants (mark false serial)) f
few_after s held b (ticked harvest loss intake figures) held' most x w f = record {
  received = omega (arith, f.received, x.most);
  outstanding = f.outstanding;
  granted = f.granted;
  settled = f.settled;
  spent = f.spent;
  lost = omega (arith, f.lost, x.loss, x.most, most);
}

pub kept : (s : State) (e : Event) (s' : State) → Sound s.store → Whole s → Step s e s' → Whole s'
kept s e s' ok w step =
    let x = facts s.store s.standing s.books e s'.store step.places ok step.judged step.answers in
    record {
      well = subst (λ t. Well t s'.store.held) (sym step.standing) (well_after s.standing s.store.held e s'.store.held x w.well);
      few = subst (λ b. Few s'.standing b) (sym step.books) (subst (λ t. Few t (counted s.books e)) (sym step.standing)
          (few_after s.standing s.store.held s.books e s'.store.held (omega (arith, ok.within, ok.bounded)) x w.well w.few));
    }
