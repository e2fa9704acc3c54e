-- What the tables of digits hold. Assumes nothing.
use Rattle.std.proofs.Common.{◌≡◌, ℕ, zero, suc, ◌+◌, ◌*◌, ◌/◌, ◌%◌, ◌<◌, ◌≤◌, Bool, true, eqb, ◌&&◌, List, get_or, set, refl, sym, ap, ◌∙◌, inl, inr, arith}
use Rattle.std.proofs.lemmas.Bool.{and_parts, cases_lt, eqb-true}
use Rattle.std.proofs.lemmas.Bool.Decides.{nat_tests}
use Rattle.frame.specs.declared.digits.TheConstants.{WORTHS, PAIRS}
use Rattle.frame.specs.Digits.{worth, digit_of, with_byte}

-- f and g agree below n, as a test that computes
abbrev agree : (ℕ → ℕ) → (ℕ → ℕ) → ℕ → Bool
agree f g zero = true
agree f g (suc n) = eqb (f n) (g n) && agree f g n

agree_at : (f g : ℕ → ℕ) (n k : ℕ) → agree f g n ≡ true → k < n → f k ≡ g k
agree_at f g zero k h lt = absurd (omega arith)
agree_at f g (suc n) k h lt =
    let parts = and_parts (eqb (f n) (g n)) (agree f g n) h in
    elim (cases_lt k n) [
      | inl below ↦ agree_at f g n k parts.1 below
      | inr top ↦
          let e : k ≡ n = omega arith in
          ap f e ∙ eqb-true (f n) (g n) parts.0 ∙ ap g (sym e)
    ]

pub value_at : (d p : ℕ) → p ≡ d → d < 256 → get_or WORTHS p 0 ≡ worth d
value_at d p e h = ap (λ k. get_or WORTHS k 0) e ∙ agree_at (λ k. get_or WORTHS k 0) worth 256 d refl h

pub worth_most : (d : ℕ) → worth d ≤ 4294967296
worth_most d = grind (arith, nat_tests)

pub pair_at :
    (out : List ℕ) (at b p : ℕ) → p ≡ b → b < 256
    → set (set out at (get_or PAIRS (2 * p) 0)) (at + 1) (get_or PAIRS (2 * p + 1) 0) ≡ with_byte at b out
pair_at out at b p e h =
    ap (λ k. set (set out at (get_or PAIRS (2 * k) 0)) (at + 1) (get_or PAIRS (2 * k + 1) 0)) e
    ∙ ap (λ k. set (set out at k) (at + 1) (get_or PAIRS (2 * b + 1) 0)) (agree_at (λ k. get_or PAIRS (2 * k) 0) (λ k. digit_of (k / 16)) 256 b refl h)
    ∙ ap (λ k. set (set out at (digit_of (b / 16))) (at + 1) k) (agree_at (λ k. get_or PAIRS (2 * k + 1) 0) (λ k. digit_of (k % 16)) 256 b refl h)
