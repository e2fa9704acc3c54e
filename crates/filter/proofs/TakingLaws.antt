-- What the turns of the loop over a script come to. Assumes nothing.
use Rattle.std.proofs.Common.{◌≡◌, ℕ, ◌+◌, ◌<◌, ◌≤◌, cond, eqb, true, false, Bool, List, [], ◌∷◌, ◌++◌, length, Some, None, Option, sym, refl, ap, ◌∙◌, subst, append_assoc, append-nil, arith, length-append}
use Rattle.std.specs.Io.KnownBytes.{Consumes, IsAtEnd}
use Rattle.frame.specs.declared.prefix.Prefix.{Prefix}
use Rattle.frame.specs.Prefix.{HasRead}
use Rattle.filter.specs.declared.script.Script.{Ghosts}
use Rattle.filter.specs.Cutting.{lines_from, begun_from, last, Led, Fed}
use Rattle.filter.specs.Taking.{Passed, lines_in, Taken}
use Rattle.filter.specs.Taking.Passed.{none, line, flush}

-- a script in two parts
begun_append : (xs bs cs : List ℕ) → begun_from xs (bs ++ cs) ≡ begun_from (begun_from xs bs) cs
begun_append xs [] cs = refl
begun_append xs (b ∷ bs) cs = go (eqb b 10) (begun_append [] bs cs) (begun_append (xs ++ b ∷ []) bs cs)
  where
    go : (t : Bool) → begun_from [] (bs ++ cs) ≡ begun_from (begun_from [] bs) cs → begun_from (xs ++ b ∷ []) (bs ++ cs) ≡ begun_from (begun_from (xs ++ b ∷ []) bs) cs
        → cond t (begun_from [] (bs ++ cs)) (begun_from (xs ++ b ∷ []) (bs ++ cs)) ≡ begun_from (cond t (begun_from [] bs) (begun_from (xs ++ b ∷ []) bs)) cs
    go true ends on = ends
    go false ends on = on

lines_append : (xs bs cs : List ℕ) → lines_from xs (bs ++ cs) ≡ lines_from xs bs ++ lines_from (begun_from xs bs) cs
lines_append xs [] cs = refl
lines_append xs (b ∷ bs) cs = go (eqb b 10) (lines_append [] bs cs) (lines_append (xs ++ b ∷ []) bs cs)
  where
    go : (t : Bool) → lines_from [] (bs ++ cs) ≡ lines_from [] bs ++ lines_from (begun_from [] bs) cs
        → lines_from (xs ++ b ∷ []) (bs ++ cs) ≡ lines_from (xs ++ b ∷ []) bs ++ lines_from (begun_from (xs ++ b ∷ []) bs) cs
        → cond t (xs ∷ lines_from [] (bs ++ cs)) (lines_from (xs ++ b ∷ []) (bs ++ cs))
        ≡ cond t (xs ∷ lines_from [] bs) (lines_from (xs ++ b ∷ []) bs) ++ lines_from (cond t (begun_from [] bs) (begun_from (xs ++ b ∷ []) bs)) cs
    go true ends on = ap (λ ls. xs ∷ ls) ends
    go false ends on = on

-- a read that gives nothing at the end was at the end before
pub consumed_none : (left left' : Option (List ℕ)) → Consumes left left' [] → IsAtEnd left' → IsAtEnd left
consumed_none None left' c e = tt
consumed_none (Some xs) None c e = absurd c
consumed_none (Some xs) (Some ys) c e = c ∙ e

module _ {S : Type 0} (G : Ghosts S) (s : S) where
  passed_led : (ls : List (List ℕ)) (m : S) (ks : List (List ℕ)) (s' : S) → Passed G s ls m → Led G m ks s' → Passed G s (ls ++ ks) s'
  passed_led ls m [] s' p e = subst (λ x. Passed G s (ls ++ []) x) (sym e) (subst (λ xs. Passed G s xs m) (sym (append-nil ls)) p)
  passed_led ls m (k ∷ ks) s' p h = subst (λ xs. Passed G s xs s') (append_assoc ls (k ∷ []) ks) (passed_led (ls ++ k ∷ []) h.0 ks s' (line p k h.0 h.1) h.2)

  -- what holds before each turn: so much has been read, and its lines have been handed over
  pub record Reading (bs : List ℕ) (left : Option (List ℕ)) (m : S) (l : Prefix 81) (turns : ℕ) : Type 0 where
    pub given : List ℕ
    pub rest : List ℕ
    pub whole : bs ≡ given ++ rest
    pub remains : left ≡ Some rest
    pub passed : Passed G s (lines_from [] given) m
    pub begun : HasRead (begun_from [] given) l
    pub count : turns ≤ length given

  pub reading_start : (bs : List ℕ) (left : Option (List ℕ)) (l : Prefix 81) → left ≡ Some bs → HasRead [] l → Reading bs left s l 0
  reading_start bs left l known fresh = record { given = []; rest = bs; whole = refl; remains = known; passed = none; begun = fresh; count = omega arith }

  pub reading_more :
      (bs : List ℕ) (left left' : Option (List ℕ)) (m m' m'' : S) (l l' : Prefix 81) (turns : ℕ) (piece : List ℕ) → Reading bs left m l turns
      → Consumes left left' piece → 0 < length piece → ((xs : List ℕ) → HasRead xs l → Fed G m xs piece m' l') → G.flushes m' m'' → Reading bs left' m'' l' (turns + 1)
  reading_more bs left left' m m' m'' l l' turns piece r consumes some fed flushes =
      go left' (subst (λ o. Consumes o left' piece) r.remains consumes)
    where
      f : Fed G m (begun_from [] r.given) piece m' l'
      f = fed (begun_from [] r.given) r.begun

      go : (o : Option (List ℕ)) → Consumes (Some r.rest) o piece → Reading bs o m'' l' (turns + 1)
      go None c = absurd c
      go (Some rest') c = record {
        given = r.given ++ piece;
        rest = rest';
        whole = r.whole ∙ ap (λ xs. r.given ++ xs) c ∙ sym (append_assoc r.given piece rest');
        remains = refl;
        passed = flush (subst (λ ls. Passed G s ls m') (sym (lines_append [] r.given piece)) (passed_led (lines_from [] r.given) m (lines_from (begun_from [] r.given) piece) m' r.passed f.led)) m'' flushes;
        begun = subst (λ xs. HasRead xs l') (sym (begun_append [] r.given piece)) f.begun;
        count = omega (arith, r.count, some, length-append r.given piece);
      }

  pub reading_done :
      (bs : List ℕ) (left : Option (List ℕ)) (m m' e s' : S) (l : Prefix 81) (turns : ℕ) → Reading bs left m l turns
      → IsAtEnd left → ((xs : List ℕ) → HasRead xs l → Led G m (last xs) m') → G.ends m' e → G.flushes e s' → Taken G s bs s'
  reading_done bs left m m' e s' l turns r at_end led ends flushes =
      let none_left : r.rest ≡ [] = subst IsAtEnd r.remains at_end in
      let all : bs ≡ r.given = r.whole ∙ ap (λ xs. r.given ++ xs) none_left ∙ append-nil r.given in
      record {
        heard = m';
        ended = e;
        passed = subst (λ xs. Passed G s (lines_in xs) m') (sym all) (passed_led (lines_from [] r.given) m (last (begun_from [] r.given)) m' r.passed (led (begun_from [] r.given) r.begun));
        ends = ends;
        flushed = flushes;
      }

  -- so many turns have read all of a script that is no longer
  pub reading_all : (bs : List ℕ) (left : Option (List ℕ)) (m : S) (l : Prefix 81) (turns : ℕ) → Reading bs left m l turns → length bs ≤ turns → IsAtEnd left
  reading_all bs left m l turns r le = subst IsAtEnd (sym r.remains) (empty r.rest (omega (arith, le, r.count, ap length r.whole, length-append r.given r.rest)))
    where
      empty : (xs : List ℕ) → length xs ≤ 0 → xs ≡ []
      empty [] h = refl
      empty (x ∷ xs) h = absurd (omega (arith, h))
