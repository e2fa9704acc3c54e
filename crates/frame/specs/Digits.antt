-- Hexadecimal digits, upper case, two for each byte, both ways. Assumes nothing.
--     value_of b            the value of the digit b
--     joined h l bs         the byte of the digits whose values are h and l, in front of the bytes bs
--     bytes_of ds           the bytes that the digits ds stand for
--     prepend bs r          r with the bytes bs in front of its own
--     front r xs            the first bytes of xs, as many as r tells
--     line_of ds            the bytes that ds stand for, where ds are 2 to 80 digits
--     worth b               what the byte b is worth: the value of the digit b, or 2 ^ 32, more than any eight digits, where it is none
--     digit_of n            the digit of the value n
--     digits_of bs          the digits of the bytes bs
--     with_byte i b out     the array out with the digits of the byte b at the places i and i + 1
--     with_bytes i bs out   the array out with the digits of the bytes bs from place i on
--     written bs            the line of bs: its digits and a line feed
--     over_front ws out     the array out with ws written over its front
use Rattle.std.specs.Prelude.{ℕ, ◌+◌, ◌-◌, ◌*◌, ◌/◌, ◌%◌, cond, List, [], ◌∷◌, ◌++◌, length, take, drop, Ok, Err, Result, ◌==◌, nat_le, nat_lt, slice_set}
use Rattle.frame.specs.declared.fault.FrameFault.{FrameFault}
use Rattle.frame.specs.declared.fault.FrameFault.TheVariants.{BadLine}

-- 0 to 9 are the bytes 48 to 57, and A to F the bytes 65 to 70
abbrev pub value_of : ℕ → Result ℕ FrameFault
value_of b =
    cond (nat_le 48 b)
    (cond (nat_le b 57) (Ok (b - 48)) (cond (nat_le 65 b) (cond (nat_le b 70) (Ok (b - 55)) (Err BadLine)) (Err BadLine)))
    (Err BadLine)

abbrev pub worth : ℕ → ℕ
worth b = elim (value_of b) [ Ok v ↦ v | Err f ↦ 4294967296 ]

abbrev pub joined : Result ℕ FrameFault → Result ℕ FrameFault → Result (List ℕ) FrameFault → Result (List ℕ) FrameFault
joined (Err e) l bs = Err e
joined (Ok h) (Err e) bs = Err e
joined (Ok h) (Ok l) (Err e) = Err e
joined (Ok h) (Ok l) (Ok bs) = Ok ((h * 16 + l) ∷ bs)

abbrev pub bytes_of : List ℕ → Result (List ℕ) FrameFault
bytes_of [] = Ok []
bytes_of (d ∷ []) = Err BadLine
bytes_of (d ∷ e ∷ ds) = joined (value_of d) (value_of e) (bytes_of ds)

abbrev pub prepend : List ℕ → Result (List ℕ) FrameFault → Result (List ℕ) FrameFault
prepend bs (Err e) = Err e
prepend bs (Ok cs) = Ok (bs ++ cs)

abbrev pub front : Result ℕ FrameFault → List ℕ → Result (List ℕ) FrameFault
front (Ok n) xs = Ok (take n xs)
front (Err e) xs = Err e

abbrev pub line_of : List ℕ → Result (List ℕ) FrameFault
line_of ds = cond (length ds == 0) (Err BadLine) (cond (nat_lt 80 (length ds)) (Err BadLine) (bytes_of ds))

abbrev pub digit_of : ℕ → ℕ
digit_of n = cond (nat_lt n 10) (48 + n) (55 + n)

abbrev pub digits_of : List ℕ → List ℕ
digits_of [] = []
digits_of (b ∷ bs) = digit_of (b / 16) ∷ digit_of (b % 16) ∷ digits_of bs

abbrev pub with_byte : ℕ → ℕ → List ℕ → List ℕ
with_byte i b out = slice_set (slice_set out i (digit_of (b / 16))) (i + 1) (digit_of (b % 16))

abbrev pub with_bytes : ℕ → List ℕ → List ℕ → List ℕ
with_bytes i [] out = out
with_bytes i (b ∷ bs) out = with_bytes (i + 2) bs (with_byte i b out)

abbrev pub written : List ℕ → List ℕ
written bs = digits_of bs ++ 10 ∷ []

abbrev pub over_front : List ℕ → List ℕ → List ℕ
over_front ws out = ws ++ drop (length ws) out
