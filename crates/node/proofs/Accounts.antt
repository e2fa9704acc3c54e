-- What the node counts, against the list of calls and what the store holds.
use Rattle.std.proofs.Common.{◌≡◌, ℕ, ◌+◌, true, false, List, [], ◌∷◌, sym, refl, ◌∙◌, subst, arith}
use Rattle.tables.specs.declared.grant.Grant.{Grant}
use Rattle.tables.specs.declared.books.Books.{Books}
use Rattle.node.specs.Calls.{History, refused, opened, closed, tapped, shut, granted, settled, parked, recalled, ticked, audited}
use Rattle.node.specs.Law.{standing_after, outstanding}
use Rattle.node.proofs.Tale.{Tale, books_of}
use Rattle.node.specs.Sound.{Ledger}
use Rattle.node.proofs.Ledger.{ledger_granted, ledger_without, ledger_marked, outstanding_granted, outstanding_marked, outstanding_settled}

-- the grants that are open, and the books, over a store that holds so much
pub record Accounts (serials : ℕ) (gs : List Grant) (b : Books) (held : ℕ) : Type 0 where
  pub ledger : Ledger 0 serials gs
  pub «open» : b.«open» ≡ outstanding gs
  pub balance : b.received ≡ held + b.«open» + b.spent + b.lost
  pub granted : b.granted ≡ b.settled + b.«open»

pub accounts : (birth : ℕ) (h : History) (held : ℕ) → Tale birth h held → Accounts (standing_after birth h).serials (standing_after birth h).grants (books_of birth h) held
accounts birth [] held t = record { ledger = omega arith; «open» = refl; balance = omega arith; granted = refl }
accounts birth (refused call why ∷ h) held t = subst (Accounts (standing_after birth h).serials (standing_after birth h).grants (books_of birth h)) (sym t.2) (accounts birth h t.0 t.1)
accounts birth (opened task parent number owner limit amount ∷ h) held t = subst (Accounts (standing_after birth h).serials (standing_after birth h).grants (books_of birth h)) (sym t.2.held) (accounts birth h t.0 t.1)
accounts birth (closed task number ∷ h) held t = subst (Accounts (standing_after birth h).serials (standing_after birth h).grants (books_of birth h)) (sym t.2.held) (accounts birth h t.0 t.1)
accounts birth (tapped task tap source sink n d ∷ h) held t = subst (Accounts (standing_after birth h).serials (standing_after birth h).grants (books_of birth h)) (sym t.2.held) (accounts birth h t.0 t.1)
accounts birth (shut task tap ∷ h) held t = subst (Accounts (standing_after birth h).serials (standing_after birth h).grants (books_of birth h)) (sym t.2) (accounts birth h t.0 t.1)
accounts birth (audited totals ∷ h) held t = subst (Accounts (standing_after birth h).serials (standing_after birth h).grants (books_of birth h)) (sym t.2) (accounts birth h t.0 t.1)
accounts birth (parked serial amount ∷ h) held t =
    let a = accounts birth h t.0 t.1 in
    let same = outstanding_marked true serial (standing_after birth h).grants in
    record {
      ledger = ledger_marked 0 (standing_after birth h).serials serial true (standing_after birth h).grants a.ledger;
      «open» = a.«open» ∙ sym same;
      balance = omega (arith, a.balance, t.2);
      granted = a.granted;
    }
accounts birth (recalled task serial amount ∷ h) held t =
    let a = accounts birth h t.0 t.1 in
    let same = outstanding_marked false serial (standing_after birth h).grants in
    record {
      ledger = ledger_marked 0 (standing_after birth h).serials serial false (standing_after birth h).grants a.ledger;
      «open» = a.«open» ∙ sym same;
      balance = omega (arith, a.balance, t.2);
      granted = a.granted;
    }
accounts birth (granted task reserve amount serial ∷ h) held t =
    let a = accounts birth h t.0 t.1 in
    let g : Grant = record { serial = serial; amount = amount; reserve = reserve; parked = false } in
    record {
      ledger = ledger_granted 0 (standing_after birth h).serials (standing_after birth h).grants g (omega (arith, t.2.next)) t.2.some a.ledger;
      «open» = omega (arith, a.«open», outstanding_granted (standing_after birth h).grants g);
      balance = omega (arith, a.balance, t.2.enough, t.2.held);
      granted = omega (arith, a.granted);
    }
accounts birth (settled serial amount used lost ∷ h) held t =
    let a = accounts birth h t.0 t.1 in
    let out = outstanding_settled 0 (standing_after birth h).serials serial amount (standing_after birth h).grants a.ledger t.2.fits in
    record {
      ledger = ledger_without 0 (standing_after birth h).serials serial (standing_after birth h).grants a.ledger;
      «open» = omega (arith, a.«open»);
      balance = omega (arith, a.balance, a.«open», t.2.used, t.2.lost, t.2.held);
      granted = omega (arith, a.granted, a.«open»);
    }
accounts birth (ticked harvest loss intake figures ∷ h) held t =
    let a = accounts birth h t.0 t.1 in
    record {
      ledger = a.ledger;
      «open» = a.«open»;
      balance = omega (arith, a.balance, t.2.loss, t.2.intake, t.2.held);
      granted = a.granted;
    }
