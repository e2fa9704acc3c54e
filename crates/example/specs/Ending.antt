-- How a program ends. Assumes nothing.
--     status_of story     the status: 0 where the story came to its end, 1 where a failure ended it
use Rattle.std.specs.Prelude.{ℕ, Result, Ok, Err}
use Rattle.example.specs.declared.failure.Failure.{Failure}

abbrev pub status_of : {A : Type 0} → Result A Failure → ℕ
status_of (Ok x) = 0
status_of (Err f) = 1
