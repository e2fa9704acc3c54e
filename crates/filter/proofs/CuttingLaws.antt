-- What a search for a line feed answers, and what one turn of the loop over a script does. Assumes nothing.
use Rattle.std.proofs.Common.{◌≡◌, ℕ, zero, suc, ◌+◌, ◌-◌, ◌<◌, ◌≤◌, true, false, cond, eqb, List, [], ◌∷◌, ◌++◌, length, get_or, take, drop, IfOk, Some, None, Ok, Err, Option, Result, sym, refl, ap, ◌∙◌, subst, append_assoc, append-nil, add-one, arith, length-drop}
use Rattle.std.proofs.lemmas.Grind.{common_steps}
use Rattle.std.proofs.lemmas.List.{take_rest}
use Rattle.std.proofs.lemmas.List.Quantifiers.{position-Some}
use Rattle.std.proofs.lemmas.List.Sums.{position_or_len_is, fails_before_first}
use Rattle.std.specs.List.{position_or_len}
use Rattle.std.proofs.lemmas.Bool.{false_from_ne_true}
use Rattle.memchr.specs.Find.{IsFirstByte, is_byte}
use Rattle.frame.specs.declared.prefix.Prefix.{Prefix}
use Rattle.frame.specs.Prefix.{cut, kept, HasRead}
use Rattle.frame.proofs.PrefixLaws.{begins_all}
use Rattle.filter.specs.declared.script.Script.{Ghosts}
use Rattle.filter.specs.Cutting.{place, lines_from, begun_from, last, Led, Fed}

-- what a search for a line feed answers
pub place_is : (bs : List ℕ) (r : Option ℕ) → IsFirstByte (is_byte 10) bs r → r ≡ place bs
place_is bs None h =
    let past : position_or_len (is_byte 10) bs ≡ length bs =
    position_or_len_is (is_byte 10) bs (length bs) 0 (omega arith)
    (λ k l. false_from_ne_true (is_byte 10 (get_or bs k 0)) (h k (omega arith) l)) (λ l. absurd (omega arith)) in
    grind (arith, common_steps)
place_is bs (Some n) h =
    let at : position_or_len (is_byte 10) bs ≡ n =
    position_or_len_is (is_byte 10) bs n 0 (omega (arith, h.0.high))
    (λ k l. false_from_ne_true (is_byte 10 (get_or bs k 0)) (h.0.before k (omega arith) l)) (λ l. h.1) in
    let within : n < length bs = h.0.high in
    grind (arith, common_steps)

-- a text up to its first line feed, and after it
record Split (xs bs : List ℕ) (n : ℕ) : Type 0 where
  pub first : lines_from xs bs ≡ (xs ++ take n bs) ∷ lines_from [] (drop (suc n) bs)
  pub then : begun_from xs bs ≡ begun_from [] (drop (suc n) bs)

split :
    (xs bs : List ℕ) (n : ℕ) → n < length bs → eqb (get_or bs n 0) 10 ≡ true → ((k : ℕ) → k < n → eqb (get_or bs k 0) 10 ≡ false)
    → Split xs bs n
split xs [] n within is others = absurd (omega arith)
split xs (b ∷ bs) zero within is others =
    record {
      first = ap (λ t. cond t (xs ∷ lines_from [] bs) (lines_from (xs ++ b ∷ []) bs)) is ∙ ap (λ t. t ∷ lines_from [] bs) (sym (append-nil xs));
      then = ap (λ t. cond t (begun_from [] bs) (begun_from (xs ++ b ∷ []) bs)) is;
    }
split xs (b ∷ bs) (suc n) within is others =
    let s = split (xs ++ b ∷ []) bs n (omega arith) is (λ k l. others (suc k) (omega arith)) in
    let other : eqb b 10 ≡ false = others 0 (omega arith) in
    record {
      first = ap (λ t. cond t (xs ∷ lines_from [] bs) (lines_from (xs ++ b ∷ []) bs)) other
          ∙ s.first
          ∙ ap (λ t. t ∷ lines_from [] (drop (suc n) bs)) (append_assoc xs (b ∷ []) (take n bs));
      then = ap (λ t. cond t (begun_from [] bs) (begun_from (xs ++ b ∷ []) bs)) other ∙ s.then;
    }

-- a text without a line feed
record Unsplit (xs bs : List ℕ) : Type 0 where
  pub none : lines_from xs bs ≡ []
  pub whole : begun_from xs bs ≡ xs ++ bs

unsplit : (xs bs : List ℕ) → ((k : ℕ) → k < length bs → eqb (get_or bs k 0) 10 ≡ false) → Unsplit xs bs
unsplit xs [] others = record { none = refl; whole = sym (append-nil xs) }
unsplit xs (b ∷ bs) others =
    let u = unsplit (xs ++ b ∷ []) bs (λ k l. others (suc k) (omega arith)) in
    let other : eqb b 10 ≡ false = others 0 (omega arith) in
    record {
      none = ap (λ t. cond t (xs ∷ lines_from [] bs) (lines_from (xs ++ b ∷ []) bs)) other ∙ u.none;
      whole = ap (λ t. cond t (begun_from [] bs) (begun_from (xs ++ b ∷ []) bs)) other ∙ u.whole ∙ append_assoc xs (b ∷ []) bs;
    }

-- where there is no line feed, each byte is another
others_all : (bs : List ℕ) → place bs ≡ None → (k : ℕ) → k < length bs → eqb (get_or bs k 0) 10 ≡ false
others_all bs e k l =
    let past : length bs ≤ position_or_len (is_byte 10) bs = grind (arith, common_steps) in
    fails_before_first (is_byte 10) bs k 0 (omega arith)

pub shorter : (xs : List ℕ) (k n : ℕ) → length xs ≤ n → length (take (length xs - k) (drop k xs)) ≤ n
shorter xs k n h =
    let e : length (take (length xs - k) (drop k xs)) ≡ length xs - k = ap length (take_rest xs k) ∙ length-drop k xs in omega arith

module _ {S : Type 0} (G : Ghosts S) where
  -- the last line, of which something has been read
  pub led_last :
      {T E : Type 0} (r : Result T E) (s s' : S) (xs : List ℕ) (l : Prefix 81) → HasRead xs l → (length (kept l) ≡ 0 → ⊥)
      → IfOk r (λ _. G.hears s (cut (kept l ++ [])) s') → IfOk r (λ _. Led G s (last xs) s')
  led_last r s s' [] l read some h = absurd (some (ap length read))
  led_last (Err e) s s' (x ∷ xs) l read some h = tt
  led_last (Ok u) s s' (x ∷ xs) l read some h =
      let line : cut (kept l ++ []) ≡ cut (x ∷ xs) =
      begins_all 81 l (cut (kept l ++ [])) [] refl (x ∷ xs) read ∙ ap cut (append-nil (x ∷ xs)) in
      (s', subst (λ k. G.hears s k s') line h, refl)

  led_more : (s : S) (ls : List (List ℕ)) (m s' : S) (l : List ℕ) → Led G s ls m → G.hears m (cut l) s' → Led G s (ls ++ l ∷ []) s'
  led_more s [] m s' l e h = (s', subst (λ k. G.hears k (cut l) s') e h, refl)
  led_more s (x ∷ ls) m s' l p h = (p.0, p.1, led_more p.0 ls m s' l p.2 h)

  -- what holds before each turn: some lines have been handed over, and ys has been read of the next
  pub record Feeding (s : S) (xs bs : List ℕ) (s' : S) (l : Prefix 81) (rest : List ℕ) : Type 0 where
    pub ys : List ℕ
    pub done : List (List ℕ)
    pub read : HasRead ys l
    pub led_so : Led G s done s'
    pub lines_so : lines_from xs bs ≡ done ++ lines_from ys rest
    pub begun_so : begun_from xs bs ≡ begun_from ys rest

  pub feeding_start : (s : S) (xs bs : List ℕ) (l : Prefix 81) → HasRead xs l → Feeding s xs bs s l bs
  feeding_start s xs bs l r = record { ys = xs; done = []; read = r; led_so = refl; lines_so = refl; begun_so = refl }

  pub feeding_more :
      (s : S) (xs bs : List ℕ) (s' : S) (l : Prefix 81) (rest : List ℕ) → Feeding s xs bs s' l rest → (n : ℕ) → place rest ≡ Some n
      → (s'' : S) → G.hears s' (cut (kept l ++ take (n - 0) rest)) s'' → (l' : Prefix 81) → kept l' ≡ []
      → Feeding s xs bs s'' l' (take (length rest - (n + 1)) (drop (n + 1) rest))
  feeding_more s xs bs s' l rest f n e s'' h l' fresh =
      let at = position-Some (is_byte 10) rest n 0 e in
      let sp : Split f.ys rest n = split f.ys rest n at.0 at.1 at.2 in
      let z : n - 0 ≡ n = omega arith in
      let line : List ℕ = f.ys ++ take n rest in
      let heard : cut (kept l ++ take (n - 0) rest) ≡ cut line =
      begins_all 81 l (cut (kept l ++ take (n - 0) rest)) (take (n - 0) rest) refl f.ys f.read ∙ ap (λ k. cut (f.ys ++ take k rest)) z in
      let left : take (length rest - (n + 1)) (drop (n + 1) rest) ≡ drop (suc n) rest =
      take_rest rest (n + 1) ∙ ap (λ k. drop k rest) (add-one n) in
      record {
        ys = [];
        done = f.done ++ line ∷ [];
        read = fresh;
        led_so = led_more s f.done s' s'' line f.led_so (subst (λ t. G.hears s' t s'') heard h);
        lines_so = f.lines_so
            ∙ ap (λ t. f.done ++ t) sp.first
            ∙ sym (append_assoc f.done (line ∷ []) (lines_from [] (drop (suc n) rest)))
            ∙ ap (λ t. (f.done ++ line ∷ []) ++ lines_from [] t) (sym left);
        begun_so = f.begun_so ∙ sp.then ∙ ap (λ t. begun_from [] t) (sym left);
      }

  pub feeding_end :
      (s : S) (xs bs : List ℕ) (s' : S) (l : Prefix 81) (rest : List ℕ) → Feeding s xs bs s' l rest → place rest ≡ None
      → (l' : Prefix 81) → kept l' ≡ cut (kept l ++ rest) → Fed G s xs bs s' l'
  feeding_end s xs bs s' l rest f e l' k =
      let u : Unsplit f.ys rest = unsplit f.ys rest (others_all rest e) in
      let all : lines_from xs bs ≡ f.done = f.lines_so ∙ ap (λ t. f.done ++ t) u.none ∙ append-nil f.done in
      record {
        led = subst (λ ls. Led G s ls s') (sym all) f.led_so;
        begun = begins_all 81 l (kept l') rest k f.ys f.read ∙ ap cut (sym (f.begun_so ∙ u.whole));
      }
