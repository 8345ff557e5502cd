-- The fraction follower: its table, kept modulo 2^(n+2), its relation to the rule, and its read-out.
use Rattle.std.specs.Prelude.{◌≡◌, ℕ, ◌+◌, ◌-◌, ◌%◌, ◌^◌, ◌<◌, Bool, true, false, cond, ℤ, pos, ◌+ℤ◌, ◌-ℤ◌, ◌*ℤ◌, ◌<ℤ◌, Some, None, Option, nat_lt}
use Rattle.rule.specs.Divisor.{Divides}
use Rattle.rule.specs.Pairs.{order_of, start_of}
use Rattle.rule.specs.Rule.{State, Need}
use Rattle.rule.specs.Whole.{whole, Below}
use Rattle.rule.specs.declared.command.Command.{Command}
use Rattle.rule.specs.declared.command.Command.TheVariants.{Both, Cross, Shift, PlusMinus}
use Rattle.rule.specs.declared.command.Sign.{Sign}
use Rattle.rule.specs.declared.command.Sign.TheVariants.{Plus, Minus}
use Rattle.rule.specs.declared.pair.AdmittedPair.{AdmittedPair}
use Rattle.follower.specs.Following.{table_at, begun_first, begun_turns}
use Rattle.follower.specs.Signs.{is_negative, negated_by}
use Rattle.follower.specs.declared.row.Row.{Row}

-- Entries of order n are kept from 0 to 2^(n+2) - 1.
abbrev pub modulus : ℕ → ℕ
modulus n = 2 ^ (n + 2)

-- x + y modulo w.
abbrev pub sum_in : ℕ → ℕ → ℕ → ℕ
sum_in w x y = (x + y) % w

-- x - y modulo w, of a y up to w.
abbrev pub difference_in : ℕ → ℕ → ℕ → ℕ
difference_in w x y = (x + (w - y)) % w

-- A row by its two entries.
abbrev pub row : ℕ → ℕ → Row ℕ
row x y = record { left = x; right = y }

-- The columns change places where the mark is set.
abbrev pub columns_exchanged : Bool → Row ℕ → Row ℕ
columns_exchanged false r = r
columns_exchanged true r = row r.right r.left

-- The second column is doubled.
abbrev pub column_doubled : ℕ → Row ℕ → Row ℕ
column_doubled w r = row r.left (sum_in w r.right r.right)

-- Plus takes the second column from the first and doubles the second; minus adds it, and the second becomes minus its double.
abbrev pub columns_combined : ℕ → Sign → Row ℕ → Row ℕ
columns_combined w Plus r = row (difference_in w r.left r.right) (sum_in w r.right r.right)
columns_combined w Minus r = row (sum_in w r.left r.right) (difference_in w 0 (sum_in w r.right r.right))

-- What a command does to a row, modulo w.
abbrev pub row_after : ℕ → Command → Row ℕ → Row ℕ
row_after w Both r = r
row_after w Cross r = column_doubled w (columns_exchanged true r)
row_after w Shift r = column_doubled w r
row_after w (PlusMinus g x) r = columns_combined w g (columns_exchanged x r)

-- The table of a pair of order n: the first row, c and d, and the second row, e and f.
pub record FractionRows : Type 0 where
  pub order : ℕ
  pub first : Row ℕ
  pub second : Row ℕ

-- The entries of a row are from 0 to w - 1.
abbrev pub Kept : ℕ → Row ℕ → Type 0
Kept w r = (r.left < w) × (r.right < w)

-- A command does the same to both rows.
abbrev pub rows_after : Command → FractionRows → FractionRows
rows_after c t = record { order = t.order; first = row_after (modulus t.order) c t.first; second = row_after (modulus t.order) c t.second }

-- It begins with the rows 1, 0 and 0, 1.
abbrev pub first_table : AdmittedPair → FractionRows
first_table p = record { order = order_of p; first = row 1 0; second = row 0 1 }

-- A follower holds no table before it is begun.
abbrev pub fraction_first : AdmittedPair → Option FractionRows
fraction_first = begun_first first_table

abbrev pub fraction_turns : Option FractionRows → Command → Option FractionRows
fraction_turns = begun_turns (λ t c. rows_after c t)

-- u and v are equal modulo w.
pub record Same (w u v : ℤ) : Type 0 where
  pub times : ℤ
  pub is : u ≡ v +ℤ w *ℤ times

-- Modulo w, left·a + right·b is z without the twos counted so far.
pub record RowRelated (w : ℕ) (r : Row ℕ) (s : State ℤ) (z : ℤ) : Type 0 where
  pub bare : ℤ
  pub whole : bare *ℤ pos (2 ^ s.twos) ≡ z
  pub same : Same (pos w) (pos r.left *ℤ s.a +ℤ pos r.right *ℤ s.b) bare

-- So it is of the first row, with a of the pair, and of the second, with b.
pub record FractionRowsRelated (p : AdmittedPair) (t : FractionRows) (s : State ℤ) : Type 0 where
  pub order : t.order ≡ order_of p
  pub first : RowRelated (modulus (order_of p)) t.first s p.a
  pub second : RowRelated (modulus (order_of p)) t.second s p.b

-- An entry, read as a signed number of n + 2 bits.
abbrev pub read_signed : ℕ → ℕ → ℤ
read_signed n z = cond (nat_lt z (2 ^ (n + 1))) (pos z) (pos z -ℤ pos (2 ^ (n + 2)))

-- c so read, negated if e is negative.
abbrev pub numerator_of : FractionRows → ℤ
numerator_of t = negated_by (is_negative (read_signed t.order t.second.left)) (read_signed t.order t.first.left)

-- e so read, negated if it is negative.
abbrev pub denominator_of : FractionRows → ℤ
denominator_of t = negated_by (is_negative (read_signed t.order t.second.left)) (read_signed t.order t.second.left)

-- nu/de is a/b in lowest terms, and de is positive.
pub record Reduced (a b nu de : ℤ) : Type 0 where
  pub positive : pos 0 <ℤ de
  pub equal : nu *ℤ b ≡ de *ℤ a
  pub lowest : (d : ℕ) → Divides (pos d) nu → Divides (pos d) de → d ≡ 1

-- The read-out of a table is the fraction of a pair in lowest terms, and both parts are below 2^n in size.
pub record ReadsReduced (p : AdmittedPair) (t : FractionRows) : Type 0 where
  pub reduced : Reduced p.a p.b (numerator_of t) (denominator_of t)
  pub numerator : Below (order_of p) (numerator_of t)
  pub denominator : Below (order_of p) (denominator_of t)

-- So it is of a table that was begun, and of no other.
abbrev pub TableReduced : AdmittedPair → Option FractionRows → Type 0
TableReduced p None = ⊥
TableReduced p (Some t) = ReadsReduced p t

-- At the end of the run of every admitted pair the table reads so.
abbrev pub FractionIsReduced : Type 0
FractionIsReduced = (p : AdmittedPair) (m : ℕ) → Need whole (start_of p) m → TableReduced p (table_at fraction_first fraction_turns p m)
