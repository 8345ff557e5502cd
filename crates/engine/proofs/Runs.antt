-- A run that is under way, one command more of it, and its end.
use Rattle.std.proofs.Common.{◌≡◌, ℕ, suc, ◌+◌, ◌*◌, ◌^◌, ◌<◌, ◌≤◌, List, [], ◌∷◌, ◌++◌, length, ℤ, nat_abs, Some, Result, Ok, Err, sym, refl, ap, ◌∙◌, subst, ap₂, arith, length-append, pow_mono}
use Rattle.std.proofs.lemmas.Bool.Decides.{nat_tests}
use Rattle.rule.specs.Rule.{after, told, Running, Need}
use Rattle.rule.specs.Whole.{whole}
use Rattle.rule.specs.Divisor.{Greatest, divisor, scaled}
use Rattle.rule.specs.Theorems.{Narrow}
use Rattle.rule.specs.declared.command.Command.{Command}
use Rattle.rule.specs.declared.fault.Fault.{Fault}
use Rattle.rule.specs.declared.pair.AdmittedPair.{AdmittedPair}
use Rattle.rule.proofs.Fuel.{after_more, told_more, running_more, count-after}
use Rattle.rule.proofs.Whole.{running_narrow}
use Rattle.rule.proofs.Divisor.{divisor_greatest, greatest_most}
use Rattle.engine.specs.Listed.{listed}
use Rattle.rule.specs.Pairs.{order_of, start_of}
use Rattle.engine.specs.Meaning.{Meaning, held, Advances, a_of, twos_of}
use Rattle.engine.specs.Runs.{spent, Finished}
use Rattle.engine.specs.declared.run.Run.{Run}

-- The commands told so far are those of the pair's run, b was not 0 before any of them, and the engine stands after them.
pub record Underway (p : AdmittedPair) (cs : List Command) (m : Meaning) : Type 0 where
  pub told : cs ≡ told whole (length cs) (start_of p)
  pub running : Running whole (start_of p) (length cs)
  pub stands : m ≡ held (order_of p) (after whole (length cs) (start_of p))

pub underway_start : {p : AdmittedPair} {cs : List Command} {m : Meaning} → cs ≡ [] → m ≡ held (order_of p) (start_of p) → Underway p cs m
unfolding after told
underway_start n e = rw n (record { told = refl; running = λ j l. absurd (omega arith); stands = e })

-- what advance answered, of an engine under way
there : {p : AdmittedPair} {cs : List Command} {m : Meaning} (r : Result Command Fault) (m' : Meaning) → Underway p cs m → Advances m r m' → Advances (held (order_of p) (after whole (length cs) (start_of p))) r m'
there r m' u h = subst (λ x. Advances x r m') u.stands h

pub underway_more : {p : AdmittedPair} {cs cs' : List Command} {m : Meaning} (c : Command) (m' : Meaning) → Underway p cs m → Advances m (Ok c) m' → cs' ≡ cs ++ c ∷ [] → Underway p cs' m'
underway_more {p = p} {cs = cs} c m' u h more =
    let a = there (Ok c) m' u h in
    let k = length cs in
    let e : length (cs ++ c ∷ []) ≡ suc k = simp length-append (omega arith) in
    rw more
    (record {
      told = rw e (ap (λ (l : List Command). l ++ c ∷ []) u.told ∙ ap (λ (x : Command). told whole k (start_of p) ++ x ∷ []) a.1 ∙ sym (told_more whole k (start_of p)));
      running = rw e (running_more whole (start_of p) k u.running a.0);
      stands = rw e (a.2 ∙ ap (held (order_of p)) (sym (after_more whole k (start_of p))));
    })

underway_narrow : (p : AdmittedPair) (k : ℕ) → Running whole (start_of p) k → Narrow (order_of p) (after whole k (start_of p))
underway_narrow p k r = running_narrow (order_of p) p.a p.b p.admitted.0 p.admitted.1 k r

running_short : (p : AdmittedPair) (k : ℕ) → Running whole (start_of p) k → k ≤ 4 * order_of p + 1
running_short p k r = omega (arith, (underway_narrow p k r).count, count-after whole k (start_of p))

-- while it can advance, there is room for the command that it tells
pub underway_room : {p : AdmittedPair} {cs : List Command} {m : Meaning} (c : Command) (m' : Meaning) → Underway p cs m → Advances m (Ok c) m' → length cs < 225
underway_room {p = p} {cs = cs} c m' u h =
    omega (arith, running_short p (suc (length cs)) (running_more whole (start_of p) (length cs) u.running (there (Ok c) m' u h).0), p.order.admitted.1)

-- ---- the end, where the engine refuses to advance
need_there : {p : AdmittedPair} {cs : List Command} {m : Meaning} (f : Fault) (m' : Meaning) → Underway p cs m → Advances m (Err f) m' → Need whole (start_of p) (length cs)
need_there f m' u h = record { over = (there (Err f) m' u h).0; before = u.running }

greatest_there : (p : AdmittedPair) (k : ℕ) → Need whole (start_of p) k → Greatest (divisor (after whole k (start_of p))) p.a p.b
greatest_there p k n = divisor_greatest p.a p.b p.admitted.2 k n

-- the divisor that a and twos give there fits a word
pub divisor_fits : {p : AdmittedPair} {cs : List Command} {m : Meaning} {a : ℤ} {t : ℕ} (f : Fault) (m' : Meaning) → Underway p cs m → Advances m (Err f) m' → a ≡ a_of m' → t ≡ twos_of m' → (nat_abs a * 2 ^ t < 2 ^ 56) × (t < 64)
divisor_fits {p = p} {cs = cs} f m' u h x y =
    let g = greatest_there p (length cs) (need_there f m' u h) in
    let w : 2 ^ order_of p ≤ 2 ^ 56 = pow_mono p.order.admitted.1 in
    simp (x, y, (there (Err f) m' u h).2) (omega (arith, w, p.admitted.1, greatest_most _ p.a p.b p.admitted.2 g), omega (arith, (underway_narrow p (length cs) u.running).twos, p.order.admitted.1))

pub scaled_there : {p : AdmittedPair} {cs : List Command} {m : Meaning} {a : ℤ} {t : ℕ} (f : Fault) (m' : Meaning) → Underway p cs m → Advances m (Err f) m' → a ≡ a_of m' → t ≡ twos_of m' → scaled a t ≡ Some (nat_abs a * 2 ^ t)
scaled_there f m' u h x y = let d = divisor_fits f m' u h x y in grind (arith, nat_tests)

pub finished : {p : AdmittedPair} {r : Run} {m m' : Meaning} {a : ℤ} (f : Fault) → Underway p (listed r.commands) m → Advances m (Err f) m' → r.pair ≡ p → a ≡ a_of m' → r.twos ≡ twos_of m' → r.gcd ≡ nat_abs a * 2 ^ r.twos → Finished p r m'
finished {p = p} {r = r} {m' = m'} f u h i x t d =
    let e = (there (Err f) m' u h).2 in
    let n = need_there f m' u h in
    let twos = t ∙ ap twos_of e in
    let gcd = d ∙ ap₂ (λ (z : ℤ) (y : ℕ). nat_abs z * 2 ^ y) (x ∙ ap a_of e) twos in
    record {
      pair = i;
      told = u.told;
      need = n;
      bound = running_short p (spent r) u.running;
      stands = e;
      twos = twos;
      gcd = gcd;
      greatest = subst (λ (x : ℕ). Greatest x p.a p.b) (sym gcd) (greatest_there p (spent r) n);
    }
