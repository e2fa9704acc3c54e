-- What trials change in a tally. Assumes nothing.
use Rattle.std.proofs.Common.{◌≡◌, ℕ, ◌+◌, ◌-◌, ◌^◌, min, Bool, true, false, cond, not, Option, List, [], ◌∷◌, ◌++◌, length, sym, refl, ap, subst, ◌∙◌, arith, append-nil, append_assoc, length-append, zero-add, Some, None, Ok, Err, Result, MatchResult}
use Rattle.std.proofs.lemmas.List.Sums.{sum_by_push}
use Rattle.std.specs.Prelude.{count_by}
use Rattle.rates.specs.declared.amount.OutOfRange.{OutOfRange}
use Rattle.trials.specs.Stack.{unless_made}
use Rattle.trials.specs.declared.tally.Tally.{Tally}
use Rattle.trials.specs.Tally.{Trial, agrees, differs, counted, raised, Counts, Adds, Further}

raised_more : (n : ℕ) (b : Bool) → min (n + cond b 1 0) (2 ^ 64 - 1) ≡ raised b (min n (2 ^ 64 - 1))
raised_more n true = omega arith
raised_more n false = omega arith

counted_more : (p : Trial → Bool) (ts : List Trial) (t : Trial) → counted p (ts ++ t ∷ []) ≡ raised (p t) (counted p ts)
counted_more p ts t = ap (λ n. min n (2 ^ 64 - 1)) (sum_by_push (λ x. cond (p x) 1 0) ts t) ∙ raised_more (count_by p ts) (p t)

pub counts_more : (ts : List Trial) (t : Trial) (y y' : Tally) → y'.agreed ≡ raised (agrees t) y.agreed → y'.differed ≡ raised (differs t) y.differed → Counts ts y → Counts (ts ++ t ∷ []) y'
counts_more ts t y y' a d is = record {
  agreed = a ∙ ap (raised (agrees t)) is.agreed ∙ sym (counted_more agrees ts t);
  differed = d ∙ ap (raised (differs t)) is.differed ∙ sym (counted_more differs ts t);
}

pub adds_more : {m n : ℕ} {x y z : Tally} → Adds m x y → Adds n y z → Adds (m + n) x z
adds_more {m} {n} {x} {y} {z} a b = record {
  counts = λ ts is.
      let u = a.counts ts is in
      let v = b.counts (ts ++ u.0) u.2 in
      (u.0 ++ v.0, length-append u.0 v.0 ∙ ap (λ k. k + length v.0) u.1 ∙ ap (λ k. m + k) v.1, subst (λ l. Counts l z) (append_assoc ts u.0 v.0) v.2);
}

pub adds_one : {y y' : Tally} → ((ts : List Trial) → Counts ts y → (t : Trial) × Counts (ts ++ t ∷ []) y') → Adds 1 y y'
adds_one one = record { counts = λ ts is. let u = one ts is in (u.0 ∷ [], refl, u.1) }

-- the trials of a store that was made
pub adds_made : {S : Type 0} {n : ℕ} {x y z : Tally} {o : Option S} {s : S} (new : Result S OutOfRange) → MatchResult new (λ a. o ≡ Some a) (λ _. o ≡ None) → o ≡ Some s → Adds (unless_made new 0) x y → Adds n y z → Adds (unless_made new n) x z
adds_made {S} {n} {x} {y} {z} (Ok a) m is p q = subst (λ k. Adds k x z) (zero-add n) (adds_more p q)
adds_made (Err e) m is p q = absurd (cc (m, is))

pub further_more : {x y z : Tally} → Further x y → Further y z → Further x z
further_more f g = (f.0 + g.0, adds_more f.1 g.1)
