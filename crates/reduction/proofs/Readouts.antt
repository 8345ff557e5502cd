-- What is read out at the end of a run is there, fits, and is right.
use Rattle.std.proofs.Common.{◌≡◌, ℕ, ◌^◌, ◌<◌, ◌≤◌, true, ℤ, Some, None, Option, sym, refl, ap, ◌∙◌, subst, arith, pow_mono}
use Rattle.std.proofs.lemmas.Bool.Decides.{nat_tests}
use Rattle.rule.specs.Divisor.{scaled, Greatest, divisor}
use Rattle.rule.specs.Pairs.{order_of, start_of}
use Rattle.rule.specs.Rule.{told, Need}
use Rattle.rule.specs.Whole.{is_zero, whole}
use Rattle.rule.specs.declared.command.Command.{Command}
use Rattle.rule.specs.declared.pair.AdmittedPair.{AdmittedPair}
use Rattle.rule.proofs.Divisor.{divisor_greatest, greatest_most}
use Rattle.rule.proofs.Fuel.{count-after}
use Rattle.rule.proofs.Whole.{run_narrow}
use Rattle.engine.specs.Meaning.{Meaning, is_over, a_of, twos_of, count_of}
use Rattle.follower.specs.Following.{table_at}
use Rattle.follower.specs.Cofactor.{CofactorRows, cofactor_first, cofactor_turns}
use Rattle.follower.specs.Fraction.{FractionRows, fraction_first, fraction_turns, numerator_of, denominator_of, Reduced, TableReduced}
use Rattle.follower.specs.FractionTable.{read_out}
use Rattle.follower.specs.Readout.{u_of, v_of, cofactors_at, Bezout, TableCofactors}
use Rattle.follower.specs.declared.entries.Cofactors.{Cofactors}
use Rattle.follower.specs.declared.fraction.Ratio.{Ratio}
use Rattle.follower.specs.FollowingLemmas.{turned_beside}
use Rattle.follower.proofs.Readout.{cofactors_right}
use Rattle.follower.specs.Fractions.{fraction_reduced}
use Rattle.frame.specs.Fits.{Fit}
use Rattle.frame.specs.declared.reduction.Reduction.{Reduction}
use Rattle.reduction.specs.Followers.{first_tables, next_tables}
use Rattle.reduction.specs.Results.{state_at, Along, ReadsOut, fitting}

-- the test on sizes and the fact
pub fitting_fits : (n g : ℕ) (c : Cofactors) (q : Ratio) → fitting n g c q ≡ true → Fit n g c.u c.v q.numerator q.denominator
fitting_fits n g c q e = grind (arith, nat_tests)

-- the commands that an engine on the run of a pair has counted
pub count_stands : (p : AdmittedPair) (k : ℕ) → (state_at p k).count ≡ k
count_stands p k = omega (arith, count-after whole k (start_of p))

-- the numbers at the end of the run of p, k commands from its start
pub record Reads (p : AdmittedPair) (k : ℕ) : Type 0 where
  pub f : Cofactors
  pub q : Ratio
  pub scale : scaled (state_at p k).a (state_at p k).twos ≡ Some (divisor (state_at p k))
  pub cofactors : cofactors_at (state_at p k).a (table_at cofactor_first cofactor_turns p k) ≡ Some f
  pub ratio : read_out (table_at fraction_first fraction_turns p k) ≡ Some q
  pub fit : fitting (order_of p) (divisor (state_at p k)) f q ≡ true
  pub greatest : Greatest (divisor (state_at p k)) p.a p.b
  pub bezout : Bezout p.a p.b (divisor (state_at p k)) f.u f.v
  pub reduced : Reduced p.a p.b q.numerator q.denominator

reads_by : (p : AdmittedPair) (k : ℕ) (c : Option CofactorRows) (t : Option FractionRows) → Need whole (start_of p) k → table_at cofactor_first cofactor_turns p k ≡ c → table_at fraction_first fraction_turns p k ≡ t → TableCofactors p (state_at p k) c → TableReduced p t → Reads p k
reads_by p k None t need e f h i = absurd h
reads_by p k (Some r) None need e f h i = absurd i
reads_by p k (Some r) (Some t) need e f h i =
    let g = divisor_greatest p.a p.b p.admitted.2 k need in
    let below : divisor (state_at p k) < 2 ^ order_of p = omega (arith, p.admitted.1, greatest_most _ p.a p.b p.admitted.2 g) in
    let word : 2 ^ order_of p ≤ 2 ^ 56 = pow_mono p.order.admitted.1 in
    let narrow = run_narrow (order_of p) p.a p.b p.admitted.0 p.admitted.1 k need k (omega arith) in
    record {
      f = record { u = u_of (state_at p k).a r; v = v_of (state_at p k).a r };
      q = record { numerator = numerator_of t; denominator = denominator_of t };
      scale = grind (arith, nat_tests, narrow.twos, p.order.admitted.1);
      cofactors = ap (cofactors_at (state_at p k).a) e;
      ratio = ap read_out f;
      fit = grind (arith, nat_tests, h.u, h.v, i.numerator, i.denominator);
      greatest = g;
      bezout = h.bezout;
      reduced = i.reduced;
    }

pub reads : (p : AdmittedPair) (k : ℕ) → Need whole (start_of p) k → Reads p k
reads p k need = reads_by p k _ _ need refl refl (cofactors_right p k need) (fraction_reduced p k need)

-- where the engine and both followers stand there
pub over_along : {T : Type 0} (first : AdmittedPair → T) (turns : T → Command → T) (p : AdmittedPair) (k : ℕ) (m : Meaning) (t : T) → Along first turns p k m t → is_over m ≡ is_zero (state_at p k).b
over_along first turns p k m t a = ap is_over a.engine

pub record Ended (p : AdmittedPair) (k : ℕ) (m : Meaning) (c : Option CofactorRows) (t : Option FractionRows) : Type 0 where
  pub over : is_zero (state_at p k).b ≡ true
  pub a : a_of m ≡ (state_at p k).a
  pub twos : twos_of m ≡ (state_at p k).twos
  pub count : count_of m ≡ k
  pub cofactors : c ≡ table_at cofactor_first cofactor_turns p k
  pub ratio : t ≡ table_at fraction_first fraction_turns p k
  pub reads : Reads p k

pub ended : (p : AdmittedPair) (k : ℕ) (m : Meaning) (c : Option CofactorRows) (t : Option FractionRows) → Along first_tables next_tables p k m (c, t) → is_over m ≡ true → Ended p k m c t
ended p k m c t a e =
    let tables = a.table ∙ turned_beside cofactor_turns fraction_turns (cofactor_first p) (fraction_first p) (told whole k (start_of p)) in
    let over = sym (over_along first_tables next_tables p k m (c, t) a) ∙ e in
    record {
      over = over;
      a = ap a_of a.engine;
      twos = ap twos_of a.engine;
      count = ap count_of a.engine ∙ count_stands p k;
      cofactors = ap (λ x. x.0) tables;
      ratio = ap (λ x. x.1) tables;
      reads = reads p k (record { over = over; before = a.running });
    }

-- the numbers that are read out there
pub result_of : (p : AdmittedPair) (k : ℕ) (m : Meaning) (c : Option CofactorRows) (t : Option FractionRows) → Ended p k m c t
    → (z : ℤ) (f : Cofactors) (q : Ratio) (n : Reduction) → z ≡ a_of m → scaled z n.twos ≡ Some n.g → cofactors_at z c ≡ Some f → read_out t ≡ Some q
    → n.order ≡ p.order → n.count ≡ count_of m → n.twos ≡ twos_of m → ◌≡◌ {A = Cofactors} (record { u = n.u; v = n.v }) f → ◌≡◌ {A = Ratio} (record { numerator = n.numerator; denominator = n.denominator }) q → ReadsOut p k (Some n)
result_of p k m c t e z f q n a scale cofactors ratio order count twos same-f same-q =
    let r = e.reads in
    let g : n.g ≡ divisor (state_at p k) = cc in
    let fs : ◌≡◌ {A = Cofactors} (record { u = n.u; v = n.v }) r.f = cc in
    let qs : ◌≡◌ {A = Ratio} (record { numerator = n.numerator; denominator = n.denominator }) r.q = cc in (
      e.over,
      record { order = order; count = cc; twos = cc; g = g; cofactors = cc; ratio = cc },
      record {
        greatest = rw g r.greatest;
        bezout = rw g (subst (λ (c : Cofactors). Bezout p.a p.b (divisor (state_at p k)) c.u c.v) (sym fs) r.bezout);
        reduced = subst (λ (c : Ratio). Reduced p.a p.b c.numerator c.denominator) (sym qs) r.reduced;
      },
    )
