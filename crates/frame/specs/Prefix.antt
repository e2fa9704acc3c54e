-- The first N bytes of what was given. Assumes nothing.
--     kept p             the bytes that p keeps
--     contents r         the same for a result
--     Begins xs p        p keeps just the first N bytes of xs
--     cut xs             the first 81 bytes of xs, enough to tell an over-long line by
--     HasRead xs l       the line l keeps just the first 81 bytes of xs
use Rattle.std.specs.Prelude.{◌≡◌, ℕ, List, take, Ok, Err, Result}
use Rattle.frame.specs.declared.fault.FrameFault.{FrameFault}
use Rattle.frame.specs.declared.prefix.Prefix.{Prefix}

abbrev pub kept : {N : ℕ} → Prefix N → List ℕ
kept p = take p.len p.array

abbrev pub contents : {N : ℕ} → Result (Prefix N) FrameFault → Result (List ℕ) FrameFault
contents (Ok p) = Ok (kept p)
contents (Err f) = Err f

abbrev pub Begins : {N : ℕ} → List ℕ → Prefix N → Type 0
Begins {N} xs p = kept p ≡ take N xs

abbrev pub cut : List ℕ → List ℕ
cut xs = take 81 xs

abbrev pub HasRead : List ℕ → Prefix 81 → Type 0
HasRead xs l = Begins xs l
