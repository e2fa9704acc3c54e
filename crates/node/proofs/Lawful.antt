-- The law of every run.
use Rattle.std.proofs.Common.{◌≡◌, ℕ, sym, ap, subst, arith}
use Rattle.store.specs.declared.store.Store.{Ghosts}
use Rattle.store.specs.Meaning.{meaning, Sound}
use Rattle.node.specs.declared.node.Node.{Node}
use Rattle.node.specs.declared.totals.Totals.{Totals}
use Rattle.node.specs.Calls.{History}
use Rattle.node.specs.Steps.{totals_in}
use Rattle.node.specs.Node.{SoundNode}
use Rattle.node.specs.Law.{Law, standing_after, outstanding}
use Rattle.node.specs.Runs.{Lawful}
use Rattle.node.proofs.Tale.{Tale, books_of, retold}
use Rattle.node.proofs.Ledger.{outstanding_none}
use Rattle.node.proofs.Accounts.{accounts}
use Rattle.node.proofs.Sums.{sums}
use Rattle.node.proofs.Pace.{delivery}
use Rattle.node.proofs.Root.{at_every_tick}

law_told : (birth : ℕ) (h : History) (held : ℕ) → Tale birth h held → Law birth h held (totals_in held (books_of birth h))
law_told birth h held tale =
    let a = accounts birth h held tale in
    let s = sums birth h in
    record {
      taps = delivery birth h held tale;
      root = at_every_tick birth h held tale;
      totals = λ i. record { received = s.received i; held = held; «open» = a.«open» i; spent = s.spent i; lost = s.lost i; granted = s.granted i; settled = s.settled i };
      balance = a.balance;
      settled = (
        λ e. outstanding_none 0 (standing_after birth h).serials (standing_after birth h).grants a.ledger (omega (arith, a.granted, a.«open»)),
        λ e. omega (arith, a.granted, a.«open», ap outstanding e),
      );
    }

-- totals that are right of every sound node are lawful
pub lawful : {S : Type 0} (G : Ghosts S) (means : (x : S) → G.sound x → Sound (meaning G.held G.capacity G.stages x)) (n : Node S) (t : Totals) → (SoundNode G n → t ≡ totals_in (G.held n.store) n.books) → Lawful G n t
lawful G means n t told birth h run =
    let r = retold G means birth h n run in
    subst (Law (G.held birth) h (G.held n.store)) (sym (told r.sound))
    (subst (λ b. Law (G.held birth) h (G.held n.store) (totals_in (G.held n.store) b)) (sym r.counts) (law_told (G.held birth) h (G.held n.store) r.tale))
