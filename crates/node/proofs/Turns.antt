-- The turns of the taps in one tick, one after the other.
use Rattle.std.proofs.Common.{◌≡◌, ℕ, zero, suc, ◌+◌, ◌-◌, ◌<◌, ◌≤◌, false, List, [], ◌∷◌, ◌++◌, length, get_or, map, take, drop, set, replicate, is_some, Some, None, sym, refl, ap, ◌∙◌, subst, arith}
use Rattle.std.proofs.lemmas.List.{take_more, take_more_set, take-append-drop, length-drop, get_or-drop, map-append}
use Rattle.std.proofs.lemmas.Bool.{true≢false}
use Rattle.tables.specs.Rows.{present}
use Rattle.tables.specs.Reserves.{ReserveRows}
use Rattle.tables.proofs.RowLaws.{Mapped, mapped_here, mapped_more}
use Rattle.tables.specs.Taps.{TapRows, stepped, figure_of, moved, after_moves, Figures, TapFits, Ran, Turns}

-- the turns of some taps, and then those of others
pub moves_append : (rs : ReserveRows) (ts us : TapRows) (qs ps : List ℕ) → Figures rs ts qs → after_moves rs (ts ++ us) (qs ++ ps) ≡ after_moves (after_moves rs ts qs) us ps
moves_append rs [] us [] ps f = refl
moves_append rs [] us (q ∷ qs) ps f = absurd f
moves_append rs (t ∷ ts) us [] ps f = absurd f
moves_append rs (t ∷ ts) us (q ∷ qs) ps f = moves_append (moved rs t q) ts us qs ps f.1

pub figures_append : (rs : ReserveRows) (ts us : TapRows) (qs ps : List ℕ) → Figures rs ts qs → Figures (after_moves rs ts qs) us ps → Figures rs (ts ++ us) (qs ++ ps)
figures_append rs [] us [] ps f g = g
figures_append rs [] us (q ∷ qs) ps f g = absurd f
figures_append rs (t ∷ ts) us [] ps f g = absurd f
figures_append rs (t ∷ ts) us (q ∷ qs) ps f g = (f.0, figures_append (moved rs t q) ts us qs ps f.1 g)

-- where no tap is open, nothing moves
idle_figures : (rs : ReserveRows) (ts : TapRows) → ((k : ℕ) → present ts k ≡ false) → Figures rs ts (replicate (length ts) 0)
idle_figures rs [] none = tt
idle_figures rs (None ∷ ts) none = (refl, idle_figures rs ts (λ k. none (suc k)))
idle_figures rs (Some t ∷ ts) none = absurd (true≢false (none 0))

idle_moves : (rs : ReserveRows) (ts : TapRows) (qs : List ℕ) → ((k : ℕ) → present ts k ≡ false) → after_moves rs ts qs ≡ rs
idle_moves rs [] qs none = refl
idle_moves rs (t ∷ ts) [] none = refl
idle_moves rs (None ∷ ts) (q ∷ qs) none = idle_moves rs ts qs (λ k. none (suc k))
idle_moves rs (Some t ∷ ts) (q ∷ qs) none = absurd (true≢false (none 0))

idle_steps : (ts : TapRows) → ((k : ℕ) → present ts k ≡ false) → map stepped ts ≡ ts
idle_steps [] none = refl
idle_steps (None ∷ ts) none = ap (λ xs. None ∷ xs) (idle_steps ts (λ k. none (suc k)))
idle_steps (Some t ∷ ts) none = absurd (true≢false (none 0))

-- what tap k's turn makes of the turns before it
pub turn_more : (start : ReserveRows) (ts : TapRows) (report : List ℕ) (k q : ℕ) (rs rs' : ReserveRows) (now now' : TapRows) → k < length ts → k < length report → TapFits (get_or ts k None)
    → Mapped stepped ts now k → rs ≡ after_moves start (take k ts) (take k report) → Figures start (take k ts) (take k report) → Ran k rs now q rs' now'
    → Mapped stepped ts now' (k + 1) × (rs' ≡ after_moves start (take (k + 1) ts) (take (k + 1) (set report k q))) × Figures start (take (k + 1) ts) (take (k + 1) (set report k q))
turn_more start ts report k q rs rs' now now' lt room fits tapped stands figures ran =
    let row : get_or now k None ≡ get_or ts k None = mapped_here stepped ts now k tapped None lt in
    let fit : TapFits (get_or now k None) = subst TapFits (sym row) fits in
    let figure : q ≡ figure_of (after_moves start (take k ts) (take k report)) (get_or ts k None) = ran.figure fit ∙ ap (figure_of rs) row ∙ ap (λ x. figure_of x (get_or ts k None)) stands in
    let front : take (k + 1) ts ≡ take k ts ++ get_or ts k None ∷ [] = take_more ts k None lt in
    let told : take (k + 1) (set report k q) ≡ take k report ++ q ∷ [] = take_more_set report k q room in (
      subst (λ xs. Mapped stepped ts xs (k + 1)) (sym (ran.taps fit)) (mapped_more stepped ts now k tapped None lt),
      ran.reserves fit ∙ ap (λ o. moved rs o q) row ∙ ap (λ x. moved x (get_or ts k None) q) stands
          ∙ sym (moves_append start (take k ts) (get_or ts k None ∷ []) (take k report) (q ∷ []) figures)
          ∙ ap (λ xs. after_moves start xs (take k report ++ q ∷ [])) (sym front) ∙ ap (after_moves start (take (k + 1) ts)) (sym told),
      subst (λ xs. Figures start xs (take (k + 1) (set report k q))) (sym front)
          (subst (Figures start (take k ts ++ get_or ts k None ∷ [])) (sym told) (figures_append start (take k ts) (get_or ts k None ∷ []) (take k report) (q ∷ []) figures (figure, tt))),
    )

-- the turns of the taps below the end are those of all
pub all_turned : (start : ReserveRows) (ts : TapRows) (report : List ℕ) (end : ℕ) (rs : ReserveRows) (now : TapRows) → length ts ≡ 96 → end ≤ 96 → ((k : ℕ) → end ≤ k → present ts k ≡ false)
    → Mapped stepped ts now end → rs ≡ after_moves start (take end ts) (take end report) → Figures start (take end ts) (take end report)
    → Turns start ts (take end report ++ replicate (96 - end) 0) rs now
all_turned start ts report end rs now size within past tapped stands figures =
    let rest : TapRows = drop end ts in
    let none : (k : ℕ) → present rest k ≡ false = λ k. ap is_some (get_or-drop end ts k None) ∙ past (end + k) (omega arith) in
    let count : length rest ≡ 96 - end = omega (arith, length-drop end ts, size) in
    let zeros : List ℕ = replicate (96 - end) 0 in
    let whole : take end ts ++ rest ≡ ts = take-append-drop end ts in
    let idle : Figures (after_moves start (take end ts) (take end report)) rest zeros = subst (λ n. Figures (after_moves start (take end ts) (take end report)) rest (replicate n 0)) count (idle_figures (after_moves start (take end ts) (take end report)) rest none) in
    record {
      figures = subst (λ xs. Figures start xs (take end report ++ zeros)) whole (figures_append start (take end ts) rest (take end report) zeros figures idle);
      reserves = stands ∙ sym (idle_moves (after_moves start (take end ts) (take end report)) rest zeros none)
          ∙ sym (moves_append start (take end ts) rest (take end report) zeros figures) ∙ ap (λ xs. after_moves start xs (take end report ++ zeros)) whole;
      taps = sym (take-append-drop end now) ∙ ap (λ xs. xs ++ drop end now) tapped.0 ∙ ap (λ xs. map stepped (take end ts) ++ xs) (tapped.1 ∙ sym (idle_steps rest none))
          ∙ sym (map-append stepped (take end ts) rest) ∙ ap (map stepped) whole;
    }

-- a report in which 0 stands from the end on
pub figures_reported : (n end : ℕ) (report : List ℕ) → end ≤ n → n ≤ length report → ((j : ℕ) → end ≤ j → j < n → get_or report j 0 ≡ 0) → take n report ≡ take end report ++ replicate (n - end) 0
figures_reported zero zero report within room zeros = refl
figures_reported zero (suc end) report within room zeros = absurd (omega (arith, within))
figures_reported (suc n) end [] within room zeros = absurd (omega (arith, room))
figures_reported (suc n) zero (q ∷ report) within room zeros =
    let rest : take n report ≡ replicate (n - 0) 0 = figures_reported n 0 report (omega arith) (omega (arith, room)) (λ j le lt. zeros (suc j) (omega arith) (omega (arith, lt))) in
    let count : suc (n - 0) ≡ suc n - 0 = omega arith in
    ap (λ (x : ℕ). x ∷ take n report) (zeros 0 (omega arith) (omega arith)) ∙ ap (λ xs. 0 ∷ xs) rest ∙ ap (λ k. replicate k 0) count
figures_reported (suc n) (suc end) (q ∷ report) within room zeros =
    let rest : take n report ≡ take end report ++ replicate (n - end) 0 = figures_reported n end report (omega (arith, within)) (omega (arith, room)) (λ j le lt. zeros (suc j) (omega (arith, le)) (omega (arith, lt))) in
    let count : n - end ≡ suc n - suc end = omega arith in
    ap (λ xs. q ∷ xs) (rest ∙ ap (λ k. take end report ++ replicate k 0) count)

-- the figure of tap k is what it moves at its turn
pub figure_at : (rs : ReserveRows) (ts : TapRows) (qs : List ℕ) (k : ℕ) → Figures rs ts qs → get_or qs k 0 ≡ figure_of (after_moves rs (take k ts) (take k qs)) (get_or ts k None)
figure_at rs [] [] k f = refl
figure_at rs [] (q ∷ qs) k f = absurd f
figure_at rs (t ∷ ts) [] k f = absurd f
figure_at rs (t ∷ ts) (q ∷ qs) zero f = f.0
figure_at rs (t ∷ ts) (q ∷ qs) (suc k) f = figure_at (moved rs t q) ts qs k f.1
