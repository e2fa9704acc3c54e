-- A script that is taken to its end: what its lines, its end and the flushes between do. Assumes nothing.
--     Passed G s ls s'      the lines ls, the first 81 bytes of each, lead in their order from s to s', with any number of flushes, or none, before, between and after them
--     lines_in bs           the lines of the script bs; a last one that is not empty may lack its line feed
--     Taken G s bs s'       the script bs leads from s to s': its lines, then its end, then a flush
use Rattle.std.specs.Prelude.{ℕ, List, [], ◌∷◌, ◌++◌}
use Rattle.frame.specs.Prefix.{cut}
use Rattle.filter.specs.Cutting.{lines_from, begun_from, last}
use Rattle.filter.specs.declared.script.Script.{Ghosts}

pub data Passed {S : Type 0} (G : Ghosts S) (s : S) : List (List ℕ) → S → Type 0 where
  none : Passed G s [] s
  line : {ls : List (List ℕ)} {m : S} → Passed G s ls m → (l : List ℕ) (s' : S) → G.hears m (cut l) s' → Passed G s (ls ++ l ∷ []) s'
  flush : {ls : List (List ℕ)} {m : S} → Passed G s ls m → (s' : S) → G.flushes m s' → Passed G s ls s'

abbrev pub lines_in : List ℕ → List (List ℕ)
lines_in bs = lines_from [] bs ++ last (begun_from [] bs)

pub record Taken {S : Type 0} (G : Ghosts S) (s : S) (bs : List ℕ) (s' : S) : Type 0 where
  pub heard : S
  pub ended : S
  pub passed : Passed G s (lines_in bs) heard
  pub ends : G.ends heard ended
  pub flushed : G.flushes ended s'
