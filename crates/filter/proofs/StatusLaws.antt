-- A status is 0 or 1. Assumes nothing.
use Rattle.std.proofs.Common.{◌≡◌, ℕ, ◌≤◌, Ok, Err, Result, inl, inr, arith}
use Rattle.std.proofs.lemmas.Bool.Decides.{leb_tells}
use Rattle.filter.specs.declared.program.Stop.{Stop}
use Rattle.filter.specs.declared.program.Stop.TheVariants.{Input, Output}
use Rattle.filter.specs.Status.{Ends}

pub ends_most : (r : Result (Unit {0}) Stop) (n : ℕ) → Ends r n → n ≤ 1
ends_most (Ok u) n e = omega (arith, e)
ends_most (Err (Input x)) n e = omega (arith, e)
ends_most (Err (Output x)) n e =
    elim (leb_tells n 1) [
      | inl h ↦ h.1
      | inr h ↦
          let broken : n ≡ 0 → ⊥ = λ z. omega (arith, z, h.1) in
          let other : n ≡ 1 → ⊥ = λ o. omega (arith, o, h.1) in
          absurd (other (e.1 (λ k. broken (e.0 k))))
    ]
