-- With which status a program ends that takes a script. Assumes nothing.
--     Ends r n      n is the status where taking the script came out as r
use Rattle.std.specs.Prelude.{◌≡◌, ℕ, Ok, Err, Result}
use Rattle.std.specs.IoError.{error_kind}
use Rattle.std.specs.declared.io.ErrorKind.TheVariants.{BrokenPipe}
use Rattle.filter.specs.declared.program.Stop.{Stop}
use Rattle.filter.specs.declared.program.Stop.TheVariants.{Input, Output}

-- 0 where the script was taken to its end, or nobody reads on; 1 where it can't be read, or an answer can't be written
abbrev pub Ends : Result (Unit {0}) Stop → ℕ → Type 0
Ends (Ok u) n = n ≡ 0
Ends (Err (Input e)) n = n ≡ 1
Ends (Err (Output e)) n = (error_kind e ≡ BrokenPipe → n ≡ 0) × ((error_kind e ≡ BrokenPipe → ⊥) → n ≡ 1)
