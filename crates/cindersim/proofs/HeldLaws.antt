-- An answer that is written behind the answers that are held. Assumes nothing.
use Rattle.std.proofs.Common.{◌≡◌, ℕ, ◌+◌, ◌≤◌, cond, ltb, List, ◌++◌, length, take, drop, Ok, Err, Result, sym, ap, ◌∙◌, append_assoc, min, arith, length-append, length-drop}
use Rattle.std.proofs.lemmas.List.{length-take, length-take-le, take-append-le, take_all}
use Rattle.std.proofs.lemmas.Bool.Decides.{nat_tests}
use borrow.Rule.Slice.PartMut.{put_mid, mid_of, post_of}
use Rattle.frame.specs.declared.answer.Answer.{Answer}
use Rattle.frame.specs.declared.fault.FrameFault.{FrameFault}
use Rattle.frame.specs.declared.fault.FrameFault.TheVariants.{ShortAnswer}
use Rattle.frame.specs.Digits.{written, over_front}
use Rattle.frame.specs.Answer.{reply_bytes}
use Rattle.simulator.specs.declared.simulator.Simulator.{Simulator}
use Rattle.simulator.specs.Simulator.{Replies, Answers}

-- where there is room for an answer, it is written
by_room : {X : Type 0} (n : ℕ) (x y : X) → 160 ≤ n → cond (ltb n 160) x y ≡ y
by_room n x y h = grind (arith, nat_tests)

take_front : (p q : List ℕ) (n : ℕ) → n ≡ length p → take n (p ++ q) ≡ p
take_front p q n e = take-append-le n p q (omega arith) ∙ take_all n p (omega arith)

-- a line that is written over the front of what lies behind the first a bytes
behind :
    (a k n : ℕ) (xs ys ws rest : List ℕ) → a ≤ length xs → ys ≡ ws ++ rest → n ≡ length ws
    → take (a + n) (put_mid a k xs ys) ≡ take a xs ++ ws
behind a k n xs ys ws rest h is e =
    let front : List ℕ = take a xs ++ ws in
    let la : length (take a xs) ≡ a = length-take-le a xs h in
    let len : a + n ≡ length front = ap (λ i. i + n) (sym la) ∙ ap (λ i. length (take a xs) + i) e ∙ sym (length-append (take a xs) ws) in
    ap (λ t. take (a + n) (take a xs ++ (t ++ post_of a k xs))) is
    ∙ ap (λ t. take (a + n) (take a xs ++ t)) (append_assoc ws rest (post_of a k xs))
    ∙ ap (λ t. take (a + n) t) (sym (append_assoc (take a xs) ws (rest ++ post_of a k xs)))
    ∙ take_front front (rest ++ post_of a k xs) (a + n) len

abbrev told : Result ℕ FrameFault → ℕ
told (Ok n) = n
told (Err f) = 0

within : (a k : ℕ) (xs : List ℕ) → 160 ≤ length (mid_of a k xs) → a ≤ length xs
within a k xs h = let e = length-take k (drop a xs) ∙ ap (min k) (length-drop a xs) in omega arith

-- the array that was passed is what lies behind the first a bytes
pub added :
    (s : Simulator) (line : List ℕ) (r : Result ℕ FrameFault) (s' : Simulator) (out' : List ℕ) (a k : ℕ) (xs : List ℕ)
    → Answers s line (mid_of a k xs) r s' out' → 160 ≤ length (mid_of a k xs) → (n : ℕ) → r ≡ Ok n
    → (x : Result Answer FrameFault) × Replies s line x s' × (take (a + n) (put_mid a k xs out') ≡ take a xs ++ written (reply_bytes x))
added s line r s' out' a k xs ans room n is =
    let out : List ℕ = mid_of a k xs in
    let x = ans.long room in
    let ws : List ℕ = written (reply_bytes x.0) in
    let len : n ≡ length ws = ap told (sym is ∙ x.2 ∙ by_room (length out) (Err ShortAnswer) (Ok (length ws)) room) in
    let front : out' ≡ ws ++ drop (length ws) out = x.3 ∙ by_room (length out) out (over_front ws out) room in
    (x.0, x.1, behind a k n xs out' ws (drop (length ws) out) (within a k xs room) front len)
