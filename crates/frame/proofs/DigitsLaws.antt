-- What one turn of the loops over digits does to the lists, and over-long lines. Assumes nothing.
use Rattle.std.proofs.Common.{◌≡◌, ℕ, zero, suc, ◌+◌, ◌-◌, ◌*◌, ◌/◌, ◌%◌, ◌<◌, ◌≤◌, cond, eqb, ltb, List, [], ◌∷◌, ◌++◌, length, get_or, take, drop, set, Ok, Err, Result, sym, refl, ap, ◌∙◌, inl, inr, append_assoc, append-nil, arith, length-append}
use lib.Seq.{set_at}
use lib.Dec.{lit<}
use mir.Syntax.{w32}
use Rattle.std.specs.Int.{to_be_bytes}
use Rattle.std.proofs.lemmas.Nat.{be_bytes_4}
use Rattle.std.proofs.lemmas.List.{drop_more, length-take-le, take_all, take_rest}
use Rattle.std.proofs.lemmas.Bool.Decides.{nat_tests, leb_tells}
use Rattle.frame.specs.declared.fault.FrameFault.{FrameFault}
use Rattle.frame.specs.declared.fault.FrameFault.TheVariants.{BadLine}
use Rattle.frame.specs.Prefix.{cut}
use Rattle.frame.specs.Digits.{digit_of, digits_of, with_bytes, written, over_front, value_of, worth, prepend, joined, bytes_of, line_of}

pub prepend_none : (r : Result (List ℕ) FrameFault) → prepend [] r ≡ r
prepend_none (Err e) = refl
prepend_none (Ok ys) = refl

prepend_joined :
    (xs : List ℕ) (h l : ℕ) (o : Result (List ℕ) FrameFault)
    → prepend xs (joined (Ok h) (Ok l) o) ≡ prepend (xs ++ (h * 16 + l) ∷ []) o
prepend_joined xs h l (Err e) = refl
prepend_joined xs h l (Ok ys) = ap (λ t. Ok t) (sym (append_assoc xs ((h * 16 + l) ∷ []) ys))

-- a byte that is worth less than what is none is a digit, and one of 16
digit_is : (d n : ℕ) → n ≡ worth d → n < 4294967296 → value_of d ≡ Ok n
digit_is d n e h = value_worth (value_of d) n e h
  where
    value_worth : (r : Result ℕ FrameFault) (n : ℕ) → n ≡ elim r [ Ok v ↦ v | Err f ↦ 4294967296 ] → n < 4294967296 → r ≡ Ok n
    value_worth (Ok v) n e h = ap Ok (sym e)
    value_worth (Err f) n e h = absurd (omega arith)

worth_small : (d n : ℕ) → n ≡ worth d → n < 4294967296 → n ≤ 15
worth_small d n e h = grind (arith, nat_tests)

prepend_two :
    (xs t all : List ℕ) (a b h l : ℕ) → prepend xs (bytes_of (a ∷ b ∷ t)) ≡ bytes_of all → value_of a ≡ Ok h
    → value_of b ≡ Ok l → prepend (xs ++ (h * 16 + l) ∷ []) (bytes_of t) ≡ bytes_of all
prepend_two xs t all a b h l e ea eb =
    sym (prepend_joined xs h l (bytes_of t))
    ∙ ap (λ q. prepend xs (joined q (Ok l) (bytes_of t))) (sym ea)
    ∙ ap (λ q. prepend xs (joined (value_of a) q (bytes_of t))) (sym eb)
    ∙ e

-- one turn: two digits less to read, and their byte more
pub prepend_more :
    (xs ys rest all : List ℕ) (h l : ℕ) → prepend xs (bytes_of rest) ≡ bytes_of all
    → h ≡ worth (get_or rest 0 0) → l ≡ worth (get_or rest 1 0) → h ≤ 15 → l ≤ 15 → 2 ≤ length rest
    → ys ≡ xs ++ (h * 16 + l) ∷ [] → prepend ys (bytes_of (take (length rest - 2) (drop 2 rest))) ≡ bytes_of all
prepend_more xs ys [] all h l e ea eb hh hl two more = absurd (omega arith)
prepend_more xs ys (a ∷ []) all h l e ea eb hh hl two more = absurd (omega arith)
prepend_more xs ys (a ∷ b ∷ t) all h l e ea eb hh hl two more =
    rw take_rest (ap (λ q. prepend q (bytes_of t)) more ∙ prepend_two xs t all a b h l e (digit_is a h ea (omega arith)) (digit_is b l eb (omega arith)))

below : (a b c d : ℕ) → a < 256 → b < 256 → c < 256 → d < 256 → (i : ℕ) → get_or (a ∷ b ∷ c ∷ d ∷ []) i 0 < 256
below a b c d ha hb hc hd zero = ha
below a b c d ha hb hc hd (suc zero) = hb
below a b c d ha hb hc hd (suc (suc zero)) = hc
below a b c d ha hb hc hd (suc (suc (suc zero))) = hd
below a b c d ha hb hc hd (suc (suc (suc (suc i)))) = lit< tt

joined_four :
    (r : Result (List ℕ) FrameFault) (v0 v1 v2 v3 v4 v5 v6 v7 : ℕ)
    → prepend ((v0 * 16 + v1) ∷ (v2 * 16 + v3) ∷ (v4 * 16 + v5) ∷ (v6 * 16 + v7) ∷ []) r
    ≡ joined (Ok v0) (Ok v1) (joined (Ok v2) (Ok v3) (joined (Ok v4) (Ok v5) (joined (Ok v6) (Ok v7) r)))
joined_four (Err e) v0 v1 v2 v3 v4 v5 v6 v7 = refl
joined_four (Ok ys) v0 v1 v2 v3 v4 v5 v6 v7 = refl

eight_digits :
    (a b c d e f g h : ℕ) (t bs : List ℕ) (n v0 v1 v2 v3 v4 v5 v6 v7 : ℕ) → v0 ≡ worth a → v1 ≡ worth b → v2 ≡ worth c → v3 ≡ worth d → v4 ≡ worth e → v5 ≡ worth f → v6 ≡ worth g → v7 ≡ worth h
    → n ≡ ((((((v0 * 16 + v1) * 16 + v2) * 16 + v3) * 16 + v4) * 16 + v5) * 16 + v6) * 16 + v7 → n < 4294967296 → bs ≡ to_be_bytes w32 n → prepend bs (bytes_of t) ≡ bytes_of (a ∷ b ∷ c ∷ d ∷ e ∷ f ∷ g ∷ h ∷ t)
eight_digits a b c d e f g h t bs n v0 v1 v2 v3 v4 v5 v6 v7 e0 e1 e2 e3 e4 e5 e6 e7 is few told =
    let k0 : v0 < 4294967296 = omega arith in
    let s0 : v0 ≤ 15 = worth_small a v0 e0 k0 in
    let o0 : value_of a ≡ Ok v0 = digit_is a v0 e0 k0 in
    let k1 : v1 < 4294967296 = omega arith in
    let s1 : v1 ≤ 15 = worth_small b v1 e1 k1 in
    let o1 : value_of b ≡ Ok v1 = digit_is b v1 e1 k1 in
    let k2 : v2 < 4294967296 = omega arith in
    let s2 : v2 ≤ 15 = worth_small c v2 e2 k2 in
    let o2 : value_of c ≡ Ok v2 = digit_is c v2 e2 k2 in
    let k3 : v3 < 4294967296 = omega arith in
    let s3 : v3 ≤ 15 = worth_small d v3 e3 k3 in
    let o3 : value_of d ≡ Ok v3 = digit_is d v3 e3 k3 in
    let k4 : v4 < 4294967296 = omega arith in
    let s4 : v4 ≤ 15 = worth_small e v4 e4 k4 in
    let o4 : value_of e ≡ Ok v4 = digit_is e v4 e4 k4 in
    let k5 : v5 < 4294967296 = omega arith in
    let s5 : v5 ≤ 15 = worth_small f v5 e5 k5 in
    let o5 : value_of f ≡ Ok v5 = digit_is f v5 e5 k5 in
    let k6 : v6 < 4294967296 = omega arith in
    let s6 : v6 ≤ 15 = worth_small g v6 e6 k6 in
    let o6 : value_of g ≡ Ok v6 = digit_is g v6 e6 k6 in
    let k7 : v7 < 4294967296 = omega arith in
    let s7 : v7 ≤ 15 = worth_small h v7 e7 k7 in
    let o7 : value_of h ≡ Ok v7 = digit_is h v7 e7 k7 in
    let all : bs ≡ (v0 * 16 + v1) ∷ (v2 * 16 + v3) ∷ (v4 * 16 + v5) ∷ (v6 * 16 + v7) ∷ [] =
    told ∙ be_bytes_4 ((v0 * 16 + v1) ∷ (v2 * 16 + v3) ∷ (v4 * 16 + v5) ∷ (v6 * 16 + v7) ∷ []) n refl (below (v0 * 16 + v1) (v2 * 16 + v3) (v4 * 16 + v5) (v6 * 16 + v7) (omega arith) (omega arith) (omega arith) (omega arith)) (omega arith) in
    ap (λ q. prepend q (bytes_of t)) all ∙ joined_four (bytes_of t) v0 v1 v2 v3 v4 v5 v6 v7 ∙ cc

-- eight digits whose worths come to less than what is none
pub eight_front :
    (ds bs : List ℕ) (n v0 v1 v2 v3 v4 v5 v6 v7 : ℕ) → 8 ≤ length ds
    → v0 ≡ worth (get_or ds 0 0) → v1 ≡ worth (get_or ds 1 0) → v2 ≡ worth (get_or ds 2 0) → v3 ≡ worth (get_or ds 3 0) → v4 ≡ worth (get_or ds 4 0) → v5 ≡ worth (get_or ds 5 0) → v6 ≡ worth (get_or ds 6 0) → v7 ≡ worth (get_or ds 7 0)
    → n ≡ ((((((v0 * 16 + v1) * 16 + v2) * 16 + v3) * 16 + v4) * 16 + v5) * 16 + v6) * 16 + v7 → n < 4294967296 → bs ≡ to_be_bytes w32 n → prepend bs (bytes_of (drop 8 ds)) ≡ bytes_of ds
eight_front [] bs n v0 v1 v2 v3 v4 v5 v6 v7 eight e0 e1 e2 e3 e4 e5 e6 e7 is few told = absurd (omega arith)
eight_front (a ∷ []) bs n v0 v1 v2 v3 v4 v5 v6 v7 eight e0 e1 e2 e3 e4 e5 e6 e7 is few told = absurd (omega arith)
eight_front (a ∷ b ∷ []) bs n v0 v1 v2 v3 v4 v5 v6 v7 eight e0 e1 e2 e3 e4 e5 e6 e7 is few told = absurd (omega arith)
eight_front (a ∷ b ∷ c ∷ []) bs n v0 v1 v2 v3 v4 v5 v6 v7 eight e0 e1 e2 e3 e4 e5 e6 e7 is few told = absurd (omega arith)
eight_front (a ∷ b ∷ c ∷ d ∷ []) bs n v0 v1 v2 v3 v4 v5 v6 v7 eight e0 e1 e2 e3 e4 e5 e6 e7 is few told = absurd (omega arith)
eight_front (a ∷ b ∷ c ∷ d ∷ e ∷ []) bs n v0 v1 v2 v3 v4 v5 v6 v7 eight e0 e1 e2 e3 e4 e5 e6 e7 is few told = absurd (omega arith)
eight_front (a ∷ b ∷ c ∷ d ∷ e ∷ f ∷ []) bs n v0 v1 v2 v3 v4 v5 v6 v7 eight e0 e1 e2 e3 e4 e5 e6 e7 is few told = absurd (omega arith)
eight_front (a ∷ b ∷ c ∷ d ∷ e ∷ f ∷ g ∷ []) bs n v0 v1 v2 v3 v4 v5 v6 v7 eight e0 e1 e2 e3 e4 e5 e6 e7 is few told = absurd (omega arith)
eight_front (a ∷ b ∷ c ∷ d ∷ e ∷ f ∷ g ∷ h ∷ t) bs n v0 v1 v2 v3 v4 v5 v6 v7 eight e0 e1 e2 e3 e4 e5 e6 e7 is few told =
    eight_digits a b c d e f g h t bs n v0 v1 v2 v3 v4 v5 v6 v7 e0 e1 e2 e3 e4 e5 e6 e7 is few told

-- bytes in front of what bytes are in front of
prepend_twice : (xs bs : List ℕ) (r : Result (List ℕ) FrameFault) → prepend (xs ++ bs) r ≡ prepend xs (prepend bs r)
prepend_twice xs bs (Err e) = refl
prepend_twice xs bs (Ok ys) = ap Ok (append_assoc xs bs ys)

-- one turn of eight digits, whose bytes are bs
pub prepend_eight :
    (xs bs ys rest all : List ℕ) → prepend xs (bytes_of rest) ≡ bytes_of all → prepend bs (bytes_of (drop 8 rest)) ≡ bytes_of rest
    → ys ≡ xs ++ bs → prepend ys (bytes_of (take (length rest - 8) (drop 8 rest))) ≡ bytes_of all
prepend_eight xs bs ys rest all e first more =
    rw take_rest (ap (λ q. prepend q (bytes_of (drop 8 rest))) more ∙ prepend_twice xs bs (bytes_of (drop 8 rest)) ∙ ap (prepend xs) first ∙ e)

over_long :
    (n : ℕ) (r : Result (List ℕ) FrameFault) → 80 < n
    → cond (eqb n 0) (Err BadLine) (cond (ltb 80 n) (Err BadLine) r) ≡ Err BadLine
over_long n r h = grind (arith, nat_tests)

line_of_long : (ds : List ℕ) → 80 < length ds → line_of ds ≡ Err BadLine
line_of_long ds h = over_long (length ds) (bytes_of ds) h

line_of_cut : (xs : List ℕ) → line_of (cut xs) ≡ line_of xs
line_of_cut xs =
    elim (leb_tells (length xs) 80) [
      | inl h ↦ ap line_of (take_all 81 xs (omega arith))
      | inr h ↦
          let l : length (cut xs) ≡ 81 = length-take-le 81 xs (omega arith) in
          line_of_long (cut xs) (omega arith) ∙ sym (line_of_long xs h.1)
    ]

-- the first 81 bytes of a line tell as much as the whole of it
pub line_from_cut :
    (r : Result (List ℕ) FrameFault) (line : List ℕ) → r ≡ line_of line → (xs : List ℕ) → line ≡ cut xs
    → r ≡ line_of xs
line_from_cut r line e xs c = e ∙ ap line_of c ∙ line_of_cut xs

-- one byte more over the front of an array
set_over :
    (p out : List ℕ) (n x : ℕ) → length p ≡ n → n < length out
    → set (p ++ drop n out) n x ≡ (p ++ x ∷ []) ++ drop (n + 1) out
set_over p out n x e h =
    ap (λ q. set (p ++ q) n x) (drop_more out n 0 h)
    ∙ set_at p (get_or out n 0) (drop (n + 1) out) x n e
    ∙ sym (append_assoc p (x ∷ []) (drop (n + 1) out))

length_digits_of : (bs : List ℕ) → length (digits_of bs) ≡ 2 * length bs
length_digits_of [] = refl
length_digits_of (a ∷ bs) = let e = length_digits_of bs in omega arith

pub length_written : (bs : List ℕ) → length (written bs) ≡ 2 * length bs + 1
length_written bs = length-append (digits_of bs) (10 ∷ []) ∙ ap (λ n. n + 1) (length_digits_of bs)

-- the digits of more bytes, behind those of p
behind :
    (bs p out : List ℕ) (n : ℕ) → length p ≡ n → n + 2 * length bs ≤ length out
    → with_bytes n bs (p ++ drop n out) ≡ (p ++ digits_of bs) ++ drop (n + 2 * length bs) out
behind [] p out n e room = ap (λ q. q ++ drop n out) (sym (append-nil p)) ∙ ap (λ k. (p ++ []) ++ drop k out) (omega arith)
behind (b ∷ bs) p out n e room =
    let q : List ℕ = p ++ digit_of (b / 16) ∷ [] in
    let r : List ℕ = q ++ digit_of (b % 16) ∷ [] in
    let lq : length q ≡ n + 1 = length-append p (digit_of (b / 16) ∷ []) ∙ ap (λ k. k + 1) e in
    let lr : length r ≡ n + 2 = length-append q (digit_of (b % 16) ∷ []) ∙ ap (λ k. k + 1) lq ∙ omega arith in
    let two : n + 1 + 1 ≡ n + 2 = omega arith in
    ap (λ t. with_bytes (n + 2) bs (set t (n + 1) (digit_of (b % 16)))) (set_over p out n (digit_of (b / 16)) e (omega arith))
    ∙ ap (with_bytes (n + 2) bs) (set_over q out (n + 1) (digit_of (b % 16)) lq (omega arith))
    ∙ ap (λ k. with_bytes (n + 2) bs (r ++ drop k out)) two
    ∙ behind bs r out (n + 2) lr (omega arith)
    ∙ ap (λ t. t ++ drop (n + 2 + 2 * length bs) out) (append_assoc q (digit_of (b % 16) ∷ []) (digits_of bs) ∙ append_assoc p (digit_of (b / 16) ∷ []) (digit_of (b % 16) ∷ digits_of bs))
    ∙ ap (λ k. (p ++ digits_of (b ∷ bs)) ++ drop k out) (omega arith)

-- the line feed behind the digits of some bytes
pub line_written :
    (bs out now : List ℕ) (n : ℕ) → n ≡ 2 * length bs → now ≡ with_bytes 0 bs out → n < length out
    → set now n 10 ≡ over_front (written bs) out
line_written bs out now n e is room =
    let zero-more : 0 + 2 * length bs ≡ 2 * length bs = omega arith in
    let front : with_bytes 0 bs out ≡ digits_of bs ++ drop (2 * length bs) out = behind bs [] out 0 refl (omega arith) ∙ ap (λ k. digits_of bs ++ drop k out) zero-more in
    let len : length (digits_of bs) ≡ n = length_digits_of bs ∙ sym e in
    let more : n + 1 ≡ length (written bs) = ap (λ k. k + 1) e ∙ sym (length_written bs) in
    ap (λ t. set t n 10) (is ∙ front ∙ ap (λ k. digits_of bs ++ drop k out) (sym e))
    ∙ set_over (digits_of bs) out n 10 len room
    ∙ ap (λ k. written bs ++ drop k out) more
