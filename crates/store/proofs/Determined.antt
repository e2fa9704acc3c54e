-- Where what a store tells leaves one value after each change.
use Rattle.std.proofs.Common.{◌≡◌, sym, refl, ◌∙◌}
use Rattle.store.specs.Meaning.{Change, exactly, Determined}

pub exactly_determined : {S : Type 0} (f : Change → S → S) → Determined (exactly f)
exactly_determined f x before = (f x before, refl, λ other told. told)

-- two values that agree with what is told are one
pub determined_one : {S : Type 0} {A : Change → S → S → Type 0} → Determined A → (x : Change) (before now other : S) → A x before now → A x before other → other ≡ now
determined_one one x before now other is also = let only = (one x before).2 in only other also ∙ sym (only now is)
