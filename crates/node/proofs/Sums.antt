-- The books are the sums over the list of calls.
use Rattle.std.proofs.Common.{◌≡◌, ℕ, ◌+◌, ◌-◌, [], ◌∷◌, arith}
use Rattle.node.specs.Calls.{History, refused, opened, closed, tapped, shut, granted, settled, parked, recalled, ticked, audited}
use Rattle.tables.specs.declared.books.Books.{Books}
use Rattle.node.specs.Law.{sum_of, of_tick, granted_by, settlement_of}
use Rattle.node.proofs.Tale.{books_of}

pub record Sums (birth : ℕ) (h : History) (b : Books) : Type 0 where
  pub received : b.received ≡ birth + sum_of (of_tick (λ t. t.harvest)) h
  pub spent : b.spent ≡ sum_of (λ e. (settlement_of e).used) h
  pub lost : b.lost ≡ sum_of (of_tick (λ t. t.loss + (t.harvest - t.intake))) h + sum_of (λ e. (settlement_of e).lost) h
  pub granted : b.granted ≡ sum_of granted_by h
  pub settled : b.settled ≡ sum_of (λ e. (settlement_of e).amount) h

pub sums : (birth : ℕ) (h : History) → Sums birth h (books_of birth h)
sums birth [] = omega arith
sums birth (refused call why ∷ h) = omega (arith, sums birth h)
sums birth (opened task parent number owner limit amount ∷ h) = omega (arith, sums birth h)
sums birth (closed task number ∷ h) = omega (arith, sums birth h)
sums birth (tapped task tap source sink n d ∷ h) = omega (arith, sums birth h)
sums birth (shut task tap ∷ h) = omega (arith, sums birth h)
sums birth (granted task reserve amount serial ∷ h) = omega (arith, sums birth h)
sums birth (settled serial amount used lost ∷ h) = omega (arith, sums birth h)
sums birth (parked serial amount ∷ h) = omega (arith, sums birth h)
sums birth (recalled task serial amount ∷ h) = omega (arith, sums birth h)
sums birth (ticked harvest loss intake figures ∷ h) = omega (arith, sums birth h)
sums birth (audited totals ∷ h) = omega (arith, sums birth h)
