-- A script, cut into lines at its line feeds and handed over line by line. Assumes nothing.
--     place bs               the place of the first line feed in bs
--     lines_from xs bs       the lines that end in bs, of which the first begins with xs
--     begun_from xs bs       what has then been read of the next
--     last xs                the last line, where xs has been read of it as the script ends; there is none where xs is empty
--     Led G s ls s'          the lines ls, the first 81 bytes of each, lead one after the other from s to s'
--     Fed G s xs bs s' l     where xs had been read of a line, the lines that end in bs lead from s to s', and l keeps what has been read of the next
use Rattle.std.specs.Prelude.{◌≡◌, ℕ, cond, List, [], ◌∷◌, ◌++◌, Option, ◌==◌, position}
use Rattle.frame.specs.declared.prefix.Prefix.{Prefix}
use Rattle.frame.specs.Prefix.{cut, HasRead}
use Rattle.filter.specs.declared.script.Script.{Ghosts}

-- a line feed is the byte 10
abbrev pub place : List ℕ → Option ℕ
place bs = position (λ b. b == 10) bs

abbrev pub lines_from : List ℕ → List ℕ → List (List ℕ)
lines_from xs [] = []
lines_from xs (b ∷ bs) = cond (b == 10) (xs ∷ lines_from [] bs) (lines_from (xs ++ b ∷ []) bs)

abbrev pub begun_from : List ℕ → List ℕ → List ℕ
begun_from xs [] = xs
begun_from xs (b ∷ bs) = cond (b == 10) (begun_from [] bs) (begun_from (xs ++ b ∷ []) bs)

abbrev pub last : List ℕ → List (List ℕ)
last [] = []
last (x ∷ xs) = (x ∷ xs) ∷ []

module _ {S : Type 0} (G : Ghosts S) where
  abbrev pub Led : S → List (List ℕ) → S → Type 0
  Led s [] s' = s' ≡ s
  Led s (l ∷ ls) s' = (m : S) × G.hears s (cut l) m × Led m ls s'

  pub record Fed (s : S) (xs bs : List ℕ) (s' : S) (l : Prefix 81) : Type 0 where
    pub led : Led s (lines_from xs bs) s'
    pub begun : HasRead (begun_from xs bs) l
