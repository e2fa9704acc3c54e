-- Laws of a stage on top of others, for the layers.
use Rattle.std.proofs.Common.{◌≡◌, ℕ, ◌+◌, ◌-◌, ◌<◌, ◌≤◌, min, cond, T, ltb, List, [], ◌∷◌, ◌++◌, length, IfErr, Ok, Err, Result, sym, refl, ap, ◌∙◌, arith, length-append, le-ltb, lt-ltb}
use Rattle.store.specs.declared.fault.Fault.{Fault}
use Rattle.store.specs.Meaning.{Stage, Meaning, Sound, Lettered, Falling, letter, top, top_kind, shown, height_of, lower, lowered, with_stage, fault_from, kinds, SameMake, Charged, after_draw, Drawn, Drained, Ticked}

pub top_more : (ss : List Stage) (s : Stage) → top (ss ++ s ∷ []) ≡ s.available
top_more [] s = refl
top_more (x ∷ []) s = refl
top_more (x ∷ y ∷ ss) s = top_more (y ∷ ss) s

pub top_kind_more : (ss : List Stage) (s : Stage) → top_kind (ss ++ s ∷ []) ≡ s.kind
top_kind_more [] s = refl
top_kind_more (x ∷ []) s = refl
top_kind_more (x ∷ y ∷ ss) s = top_kind_more (y ∷ ss) s

pub kinds_more : (ss : List Stage) (s : Stage) → kinds (ss ++ s ∷ []) ≡ kinds ss ++ s.kind ∷ []
kinds_more [] s = refl
kinds_more (x ∷ ss) s = ap (λ ks. x.kind ∷ ks) (kinds_more ss s)

pub lowered_more : (q : ℕ) (ss : List Stage) (s : Stage) → lowered q (ss ++ s ∷ []) ≡ lowered q ss ++ lower q s ∷ []
lowered_more q [] s = refl
lowered_more q (x ∷ ss) s = ap (λ ts. lower q x ∷ ts) (lowered_more q ss s)

pub top_lowered : (q : ℕ) (ss : List Stage) → top (lowered q ss) ≡ top ss - q
top_lowered q [] = omega arith
top_lowered q (x ∷ []) = refl
top_lowered q (x ∷ y ∷ ss) = top_lowered q (y ∷ ss)

lettered_more : (ss : List Stage) (s : Stage) → Lettered ss → T (letter s.kind) → Lettered (ss ++ s ∷ [])
lettered_more [] s l t = (t, tt)
lettered_more (x ∷ ss) s l t = (l.0, lettered_more ss s l.1 t)

falling_more : (held : ℕ) (ss : List Stage) (s : Stage) → 0 < length ss → Falling held ss → s.available ≤ top ss → Falling held (ss ++ s ∷ [])
falling_more held [] s some f le = absurd (omega arith)
falling_more held (x ∷ []) s some f le = (f.0, (le, tt))
falling_more held (x ∷ y ∷ ss) s some f le = (f.0, falling_more x.available (y ∷ ss) s (omega arith) f.1 le)

pub top_falling : (held : ℕ) (ss : List Stage) → Falling held ss → top ss ≤ held
top_falling held [] f = omega arith
top_falling held (x ∷ []) f = f.0
top_falling held (x ∷ y ∷ ss) f = omega (arith, f.0, top_falling x.available (y ∷ ss) f.1)

-- a stage on top, of a kind that is a letter and with no more than is available below, keeps a meaning sound
pub sound_more : (m : Meaning) (s : Stage) → Sound m → T (letter s.kind) → s.available ≤ top m.stages → Sound (with_stage s m)
sound_more m s sound t le = record {
  some = omega (arith, length-append m.stages (s ∷ []));
  lettered = lettered_more m.stages s sound.lettered t;
  falling = falling_more m.held m.stages s sound.some sound.falling le;
  within = sound.within;
  bounded = sound.bounded;
}

pub height_more : (m : Meaning) (s : Stage) → Sound m → height_of (with_stage s m).stages ≡ min (height_of m.stages + 1) 255
height_more m s sound = omega (arith, sound.some, length-append m.stages (s ∷ []))

make_more : (m n : Meaning) (s t : Stage) → t.kind ≡ s.kind → SameMake m n → SameMake (with_stage s m) (with_stage t n)
make_more m n s t k make = record {
  capacity = make.capacity;
  kinds = kinds_more n.stages t ∙ ap (λ ks. ks ++ t.kind ∷ []) make.kinds ∙ ap (λ x. kinds m.stages ++ x ∷ []) k ∙ sym (kinds_more m.stages s);
}

-- what a layer passes on to the store below is a call of the whole
module _ (m n : Meaning) (s t : Stage) (k : t.kind ≡ s.kind) where
  pub charged_more : (q r : ℕ) → Charged q m r n → Charged q (with_stage s m) r (with_stage t n)
  charged_more q r c = record { make = make_more m n s t k c.make; told = c.told; held = c.held }

  pub drained_more : (q r : ℕ) → Drained q m r n → Drained q (with_stage s m) r (with_stage t n)
  drained_more q r c = record { make = make_more m n s t k c.make; told = c.told; held = c.held }

  pub ticked_more : (r : ℕ) → Ticked m r n → Ticked (with_stage s m) r (with_stage t n)
  ticked_more r c = record { make = make_more m n s t k c.make; within = c.within; held = c.held }

-- a fault below the top stage is the fault of the whole
fault_below : (n q : ℕ) (ss : List Stage) (s : Stage) → top ss < q → 0 < length ss → fault_from n q (ss ++ s ∷ []) ≡ fault_from n q ss
fault_below n q [] s lt some = absurd (omega arith)
fault_below n q (x ∷ []) s lt some = rw (lt-ltb x.available q lt)
fault_below n q (x ∷ y ∷ ss) s lt some = ap (λ f. cond (ltb x.available q) (record { height = shown n; kind = x.kind; deficit = q - x.available }) f) (fault_below (n + 1) q (y ∷ ss) s lt (omega arith))

-- a draw that is passed on, under a top stage whose available amount is f of that below: it gives whatever the
-- stage below it can, so its own fault does not come up
pub drawn_more : (f : ℕ → ℕ) (k q : ℕ) (m n : Meaning) (r : Result (Unit {0}) Fault) → Sound m → f (top m.stages) ≤ top m.stages → (q ≤ f (top m.stages) → f (top m.stages - q) ≡ f (top m.stages) - q) → (q ≤ top m.stages → q ≤ f (top m.stages)) → Drawn q m r n → Drawn q (with_stage (record { kind = k; available = f (top m.stages) }) m) r (with_stage (record { kind = k; available = f (top n.stages) }) n)
drawn_more f k q m n (Ok u) sound under lowers gives d =
    let s : Stage = record { kind = k; available = f (top m.stages) } in
    let made : (x : Meaning) → x ≡ after_draw q m → with_stage (record { kind = k; available = f (top x.stages) }) x ≡ after_draw q (with_stage s m) = λ x e.
    ap (λ y. with_stage (record { kind = k; available = f (top y.stages) }) y) e
    ∙ ap (λ a. with_stage (record { kind = k; available = a }) (after_draw q m)) (ap f (top_lowered q m.stages) ∙ lowers (gives d.0))
    ∙ ap (λ ss. record { held = m.held - q; capacity = m.capacity; stages = ss }) (sym (lowered_more q m.stages s)) in
    (omega (arith, gives d.0, top_more m.stages s), made n d.1)
drawn_more f k q m n (Err e) sound under lowers gives d =
    let s : Stage = record { kind = k; available = f (top m.stages) } in (
      omega (arith, d.0, under, top_more m.stages s),
      d.1 ∙ sym (fault_below 0 q m.stages s d.0 sound.some),
      ap (λ x. with_stage (record { kind = k; available = f (top x.stages) }) x) d.2,
    )

-- where every stage below has enough, the fault is the top stage's own
fault_top : (n q held : ℕ) (ss : List Stage) (s : Stage) → Falling held ss → q ≤ top ss → s.available < q → 0 < length ss → fault_from n q (ss ++ s ∷ []) ≡ record { height = shown (n + length ss); kind = s.kind; deficit = q - s.available }
fault_top n q held [] s f le lt some = absurd (omega arith)
fault_top n q held (x ∷ []) s f le lt some = rw (le-ltb x.available q le, lt-ltb s.available q lt)
fault_top n q held (x ∷ y ∷ ss) s f le lt some =
    let enough : q ≤ x.available = omega (arith, le, top_falling x.available (y ∷ ss) f.1) in
    rw (le-ltb x.available q enough) (fault_top (n + 1) q x.available (y ∷ ss) s f.1 le lt (omega arith) ∙ ap (λ h. record { height = shown h; kind = s.kind; deficit = q - s.available }) (omega arith))

same_fault : (f : Fault) (h k d : ℕ) → f.height ≡ h → f.kind ≡ k → f.deficit ≡ d → f ≡ record { height = h; kind = k; deficit = d }
same_fault f h k d eh ek ed =
    ap (λ x. record { height = x; kind = f.kind; deficit = f.deficit }) eh
    ∙ ap (λ x. record { height = h; kind = x; deficit = f.deficit }) ek
    ∙ ap (λ x. record { height = h; kind = k; deficit = x }) ed

pub refused_top : (q : ℕ) (m : Meaning) (s : Stage) (f : Fault) → Sound m → q ≤ top m.stages → s.available < q → f.height ≡ height_of (with_stage s m).stages → f.kind ≡ s.kind → f.deficit ≡ q - s.available → Drawn q (with_stage s m) (Err f) (with_stage s m)
refused_top q m s f sound le lt height kind deficit = (
  omega (arith, lt, top_more m.stages s),
  same_fault f (shown (0 + length m.stages)) s.kind (q - s.available) (omega (arith, height, length-append m.stages (s ∷ []))) kind deficit
      ∙ sym (fault_top 0 q m.held m.stages s sound.falling le lt sound.some),
  refl,
)

-- what holds of every refusal, made weaker
pub refused_weaker : {X Y : Type 0} (r : Result X Y) {P Q : Type 0} → (P → Q) → IfErr r (λ _. P) → IfErr r (λ _. Q)
refused_weaker (Ok x) f p = tt
refused_weaker (Err y) f p = f p
