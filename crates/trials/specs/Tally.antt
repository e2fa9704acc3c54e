-- Trials, and what is counted of them. Assumes nothing.
--     Trial                     what is expected of a trial, and what came, if there was memory for its text
--     is_text bs text           the text that came is bs
--     agrees t, differs t       just what is expected came of the trial t; it did not
--     counted p ts              how many of the trials ts pass the test p, or the largest 64-bit number
--     raised b x                x and, where b says so, one more
--     Counts ts y               the tally y has how many of the trials ts agree, and how many differ
--     Shows out text            the text that came is what is printed, as far as its type says what that is
--     Adds n y y'               y' counts the trials that y counts, and n more
--     Further y y'              y' counts the trials that y counts, and some more
--     status_of told n          the status of the program: 0 where all was told and n, which is how many differed, is 0
use Rattle.std.specs.Prelude.{◌≡◌, ℕ, ◌^◌, ◌-◌, ◌==◌, min, Bool, false, cond, not, List, ◌++◌, length, count_by, bytes_eq, IfSome, Some, None, Option, Ok, Err, Result}
use Rattle.tables.specs.Books.{plus}
use Rattle.trials.specs.declared.tally.Tally.{Tally}

pub record Trial : Type 0 where
  pub expected : List ℕ
  pub came : Option (List ℕ)

abbrev pub is_text : List ℕ → Option (List ℕ) → Bool
is_text expected None = false
is_text expected (Some came) = bytes_eq expected came

abbrev pub agrees : Trial → Bool
agrees t = is_text t.expected t.came

abbrev pub differs : Trial → Bool
differs t = not (agrees t)

abbrev pub counted : (Trial → Bool) → List Trial → ℕ
counted p ts = min (count_by p ts) (2 ^ 64 - 1)

abbrev pub raised : Bool → ℕ → ℕ
raised b x = cond b (plus x 1) x

pub record Counts (ts : List Trial) (y : Tally) : Type 0 where
  pub agreed : y.agreed ≡ counted agrees ts
  pub differed : y.differed ≡ counted differs ts

abbrev pub Shows : Option (List ℕ) → Option (List ℕ) → Type 0
Shows out text = IfSome text (λ came. IfSome out (λ bs. came ≡ bs))

pub record Adds (n : ℕ) (y y' : Tally) : Type 0 where
  pub counts : (ts : List Trial) → Counts ts y → (us : List Trial) × (length us ≡ n) × Counts (ts ++ us) y'

abbrev pub Further : Tally → Tally → Type 0
Further y y' = (n : ℕ) × Adds n y y'

abbrev pub status_of : {E : Type 0} → Result (Unit {0}) E → ℕ → ℕ
status_of (Ok u) n = cond (n == 0) 0 1
status_of (Err e) n = 1
