-- Runs of the rule over any kind of number: one command more, the need, what a run keeps, and the lemma on fuel that bounds it.
use Rattle.std.proofs.Common.{◌≡◌, ℕ, zero, suc, ◌+◌, ◌-◌, ◌≤◌, true, false, [], ◌∷◌, ◌++◌, refl, ap, subst, inl, inr, arith}
use Rattle.std.proofs.lemmas.Bool.{cases_Bool}
use Rattle.rule.specs.Kind.{Kind}
use Rattle.rule.specs.Rule.{State, command, next, after, told, Running, Need}

-- ---- one command more, at the end of the run so far
pub after_more : {K : Type 0} (k : Kind K) (m : ℕ) (s : State K) → after k (suc m) s ≡ next k (after k m s)
unfolding after
after_more k zero s = refl
after_more k (suc m) s = after_more k m (next k s)

pub told_more : {K : Type 0} (k : Kind K) (m : ℕ) (s : State K) → told k (suc m) s ≡ told k m s ++ (command k (after k m s) ∷ [])
unfolding after told
told_more k zero s = refl
told_more k (suc m) s = ap (λ cs. command k s ∷ cs) (told_more k m (next k s))

-- ---- count counts
pub count_next : {K : Type 0} (k : Kind K) (s : State K) → (next k s).count ≡ suc s.count
unfolding next command
count_next k s = grind arith

pub count-after : {K : Type 0} (k : Kind K) (m : ℕ) (s : State K) → (after k m s).count ≡ m + s.count
unfolding after
count-after k zero s = omega arith
count-after k (suc m) s = omega (arith, count-after k m (next k s), count_next k s)

-- ---- the need
pub running_more : {K : Type 0} (k : Kind K) (s : State K) (m : ℕ) → Running k s m → k.is_zero (after k m s).b ≡ false → Running k s (suc m)
running_more k s m h n j l = grind (arith, h j)

pub need_none : {K : Type 0} (k : Kind K) (s : State K) → k.is_zero s.b ≡ true → Need k s 0
unfolding after
need_none k s e = grind arith

pub need_more : {K : Type 0} (k : Kind K) (s : State K) (m : ℕ) → k.is_zero s.b ≡ false → Need k (next k s) m → Need k s (suc m)
unfolding after
need_more k s m n h = record { over = h.over; before = λ j l. grind (arith, h.before) }

-- a state within the run of its need
pub need_above : {K : Type 0} (k : Kind K) (s : State K) (m j : ℕ) → Need k s m → Running k s j → j ≤ m
need_above k s m j h r = grind (arith, r m, h.over)

pub need_unique : {K : Type 0} (k : Kind K) (s : State K) (m n : ℕ) → Need k s m → Need k s n → m ≡ n
need_unique k s m n h i = omega (arith, need_above k s m n h i.before, need_above k s n m i h.before)

-- ---- a fact on states that each command keeps while b is not 0
abbrev pub Keeps : {K : Type 0} → Kind K → (State K → Type 0) → Type 0
Keeps {K = K} k Fits = (s : State K) → Fits s → k.is_zero s.b ≡ false → Fits (next k s)

pub kept_after : {K : Type 0} (k : Kind K) (Fits : State K → Type 0) → Keeps k Fits → (m : ℕ) (s : State K) → Fits s → Running k s m → Fits (after k m s)
unfolding after
kept_after k Fits keeps zero s h r = h
kept_after k Fits keeps (suc m) s h r = kept_after k Fits keeps m (next k s) (keeps s h (r 0 (omega arith))) (λ j l. r (suc j) (omega arith))

-- ---- fuel: a family of facts that holds of a state with so much fuel, and burns one with each command while b is not 0
abbrev pub Burns : {K : Type 0} → Kind K → (ℕ → State K → Type 0) → Type 0
Burns {K = K} k Fits = (e : ℕ) (s : State K) → Fits e s → k.is_zero s.b ≡ false → (d : ℕ) × (e ≡ suc d) × Fits d (next k s)

-- from a state with fuel e the run ends, within e commands
abbrev Ends : {K : Type 0} → Kind K → ℕ → State K → Type 0
Ends k e s = (m : ℕ) × Need k s m × (m ≤ e)

ends_now : {K : Type 0} (k : Kind K) (e : ℕ) (s : State K) → k.is_zero s.b ≡ true → Ends k e s
ends_now k e s z = (0, need_none k s z, omega arith)

ends_later : {K : Type 0} (k : Kind K) (e : ℕ) (s : State K) → k.is_zero s.b ≡ false → Ends k e (next k s) → Ends k (suc e) s
ends_later k e s n h = (suc h.0, need_more k s h.0 n h.1, omega (arith, h.2))

pub ends_within : {K : Type 0} (k : Kind K) (Fits : ℕ → State K → Type 0) → Burns k Fits → (e : ℕ) (s : State K) → Fits e s → (m : ℕ) × Need k s m × (m ≤ e)
ends_within k Fits burns zero s h =
    elim (cases_Bool (k.is_zero s.b)) [ inl z ↦ ends_now k 0 s z | inr n ↦ absurd (omega (arith, (burns 0 s h n).1)) ]
ends_within k Fits burns (suc e) s h =
    elim (cases_Bool (k.is_zero s.b)) [
      | inl z ↦ ends_now k (suc e) s z
      | inr n ↦
          let w = burns (suc e) s h n in
          let l : w.0 ≡ e = omega (arith, w.1) in
          ends_later k e s n (ends_within k Fits burns e (next k s) (subst (λ (d : ℕ). Fits d (next k s)) l w.2))
    ]

-- ---- where a fact that each command keeps bounds the count by n, the run ends by the count n: what the count leaves of n is the fuel
pub ends_by_count : {K : Type 0} (k : Kind K) (Fits : State K → Type 0) → Keeps k Fits → (n : ℕ) → ((s : State K) → Fits s → s.count ≤ n) → (s : State K) → Fits s → (m : ℕ) × Need k s m × (m + s.count ≤ n)
ends_by_count k Fits keeps n most s h =
    let w = ends_within k (λ e t. Fits t × (e + t.count ≡ n)) counted (n - s.count) s (h, omega (arith, most s h)) in
    (w.0, w.1, omega (arith, w.2, most s h))
  where
    counted : Burns k (λ e t. Fits t × (e + t.count ≡ n))
    counted e t f z =
        let kept = keeps t f.0 z in
        let more : suc t.count ≤ n = omega (arith, count_next k t, most (next k t) kept) in
        (e - 1, omega (arith, more, f.1), (kept, omega (arith, count_next k t, more, f.1)))
