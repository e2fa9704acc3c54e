-- The answers that a session holds, which are not written yet. Assumes nothing.
--     Grows o xs o' ys bs      what a writer has been given and what is held grow by bs: what o' holds beyond o, and then ys, is xs and then bs
use Rattle.std.specs.Prelude.{◌≡◌, ℕ, List, ◌++◌, Option}
use Rattle.std.specs.Io.KnownBytes.{Appends}

abbrev pub Grows : Option (List ℕ) → List ℕ → Option (List ℕ) → List ℕ → List ℕ → Type 0
Grows o xs o' ys bs = (ws : List ℕ) × Appends o o' ws × (ws ++ ys ≡ xs ++ bs)
