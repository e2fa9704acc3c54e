-- What one byte more does to what is kept of the first N, and what more bytes do. Assumes nothing.
use Rattle.std.proofs.Common.{◌≡◌, ℕ, zero, suc, ◌+◌, ◌-◌, ◌≤◌, min, List, [], ◌∷◌, ◌++◌, length, take, sym, refl, ap, ◌∙◌, inl, inr, arith}
use Rattle.std.proofs.lemmas.List.{take_all, length-take-le}
use Rattle.std.proofs.lemmas.Bool.Decides.{leb_tells}
use borrow.Rule.Slice.PartMut.{put_mid}
use Rattle.std.proofs.lemmas.Slice.{take-put_mid}
use Rattle.frame.specs.Prefix.{kept, Begins}
use Rattle.frame.specs.declared.prefix.Prefix.{Prefix}

take_take_append : (n : ℕ) (xs ys : List ℕ) → take n (take n xs ++ ys) ≡ take n (xs ++ ys)
take_take_append zero xs ys = refl
take_take_append (suc n) [] ys = refl
take_take_append (suc n) (x ∷ xs) ys = ap (λ t. x ∷ t) (take_take_append n xs ys)

-- what is kept tells as much of what follows as all that was given
begins_more : (N : ℕ) (p : Prefix N) (xs ys : List ℕ) → Begins xs p → take N (kept p ++ ys) ≡ take N (xs ++ ys)
begins_more N p xs ys b = ap (λ t. take N (t ++ ys)) b ∙ take_take_append N xs ys

-- what should be kept of more bytes is what should be kept of all that was then given
pub begins_all :
    (N : ℕ) (p : Prefix N) (now ys : List ℕ) → now ≡ take N (kept p ++ ys) → (xs : List ℕ) → Begins xs p
    → now ≡ take N (xs ++ ys)
begins_all N p now ys e xs b = e ∙ begins_more N p xs ys b

take_past : (n : ℕ) (xs ys : List ℕ) → length xs ≤ n → take n (xs ++ ys) ≡ xs ++ take (n - length xs) ys
take_past n [] ys h = let e : n - 0 ≡ n = omega arith in ap (λ k. take k ys) (sym e)
take_past zero (x ∷ xs) ys h = absurd (omega arith)
take_past (suc n) (x ∷ xs) ys h =
    let e : suc n - suc (length xs) ≡ n - length xs = omega arith in
    let less : length xs ≤ n = omega arith in
    ap (λ t. x ∷ t) (take_past n xs ys less ∙ ap (λ k. xs ++ take k ys) (sym e))

-- as many as there are, at most k
pub take_least : (k n : ℕ) (ys : List ℕ) → n ≡ min (length ys) k → take n ys ≡ take k ys
take_least k n ys e =
    elim (leb_tells (length ys) k) [
      | inl h ↦ take_all n ys (omega arith) ∙ sym (take_all k ys (omega arith))
      | inr h ↦ let same : n ≡ k = omega arith in ap (λ i. take i ys) same
    ]

-- n bytes of ys, as many as there is room for, stand after those kept
pub kept_more :
    (N : ℕ) (p : Prefix N) (part ys : List ℕ) (n k : ℕ) → p.len ≤ N → length p.array ≡ N → n ≡ min (length ys) (N - p.len)
    → part ≡ take (n - 0) ys → take (p.len + n) (put_mid p.len k p.array part) ≡ take N (kept p ++ ys)
kept_more N p part ys n k h e least is =
    let lk : length (kept p) ≡ p.len = length-take-le p.len p.array (omega arith) in
    let lt : length (take n ys) ≡ n = length-take-le n ys (omega arith) in
    let z : n - 0 ≡ n = omega arith in
    ap (λ t. take (p.len + n) (put_mid p.len k p.array t)) (is ∙ ap (λ i. take i ys) z)
    ∙ take-put_mid p.len k p.array (take n ys) (p.len + n) (omega arith) (omega arith)
    ∙ ap (λ t. kept p ++ t) (take_least (N - p.len) n ys least)
    ∙ ap (λ i. kept p ++ take (N - i) ys) (sym lk)
    ∙ sym (take_past N (kept p) ys (omega arith))
