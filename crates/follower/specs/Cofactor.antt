-- The cofactor follower: its table, what it takes, its next table and its relation.
use Rattle.std.specs.Prelude.{◌≡◌, ℕ, ◌+◌, ◌^◌, Bool, true, false, cond, not, ◌&&◌, ◌||◌, ℤ, pos, ◌+ℤ◌, ◌-ℤ◌, ◌*ℤ◌, neg_ℤ, Option, int_le, int_lt}
use Rattle.rule.specs.Kind.{summed}
use Rattle.rule.specs.Pairs.{order_of}
use Rattle.rule.specs.Rule.{State}
use Rattle.rule.specs.Whole.{odd, half, whole}
use Rattle.rule.specs.declared.command.Sign.{Sign}
use Rattle.rule.specs.declared.command.Command.{Command}
use Rattle.rule.specs.declared.command.Command.TheVariants.{Both, Cross, Shift, PlusMinus}
use Rattle.rule.specs.declared.pair.AdmittedPair.{AdmittedPair}
use Rattle.follower.specs.Following.{begun_first, begun_turns}

-- The first row c, d and the second row e, f; the order n; and x, y, the pair without the twos told so far.
pub record CofactorRows : Type 0 where
  pub n : ℕ
  pub x : ℤ
  pub y : ℤ
  pub c : ℤ
  pub d : ℤ
  pub e : ℤ
  pub f : ℤ

-- The rows of a pair before any command.
abbrev pub first_rows : AdmittedPair → CofactorRows
first_rows p = record { n = order_of p; x = p.a; y = p.b; c = pos 1; d = pos 0; e = pos 0; f = pos 1 }

-- x and y are halved.
abbrev pub halved_pair : CofactorRows → CofactorRows
halved_pair r = record { n = r.n; x = half r.x; y = half r.y; c = r.c; d = r.d; e = r.e; f = r.f }

-- The rows change places where the mark is set.
abbrev pub swapped : Bool → CofactorRows → CofactorRows
swapped false r = r
swapped true r = record { n = r.n; x = r.x; y = r.y; c = r.e; d = r.f; e = r.c; f = r.d }

-- The second row becomes the first plus or minus the second.
abbrev pub combined : Sign → CofactorRows → CofactorRows
combined g r = record { n = r.n; x = r.x; y = r.y; c = r.c; d = r.d; e = summed whole g r.c r.e; f = summed whole g r.d r.f }

-- y is added to e and x taken from f where the mark is set.
abbrev pub corrected : Bool → CofactorRows → CofactorRows
corrected o r = record { n = r.n; x = r.x; y = r.y; c = r.c; d = r.d; e = cond o (r.e +ℤ r.y) r.e; f = cond o (r.f -ℤ r.x) r.f }

-- The second row is corrected if one of its entries is odd.
abbrev pub evened : CofactorRows → CofactorRows
evened r = corrected (odd r.e || odd r.f) r

-- The second row is halved.
abbrev pub halved_row : CofactorRows → CofactorRows
halved_row r = record { n = r.n; x = r.x; y = r.y; c = r.c; d = r.d; e = half r.e; f = half r.f }

-- The rows that a command makes ready for halving the second.
abbrev pub readied : Command → CofactorRows → CofactorRows
readied Both r = r
readied Cross r = evened (swapped true r)
readied Shift r = evened r
readied (PlusMinus g x) r = evened (combined g (swapped x r))

-- z lies from -2^(n+2) to 2^(n+2) - 1.
abbrev pub in_range : ℕ → ℤ → Bool
in_range n z = int_le (neg_ℤ (pos (2 ^ (n + 2)))) z && int_lt z (pos (2 ^ (n + 2)))

-- Both entries of the second row are even, and in range once halved.
abbrev pub row_fits : CofactorRows → Bool
row_fits r = not (odd r.e) && not (odd r.f) && in_range r.n (half r.e) && in_range r.n (half r.f)

-- Whether a command is taken.
abbrev pub rows_take : CofactorRows → Command → Bool
rows_take r Both = not (odd r.x) && not (odd r.y)
rows_take r Cross = row_fits (readied Cross r)
rows_take r Shift = row_fits (readied Shift r)
rows_take r (PlusMinus g x) = row_fits (readied (PlusMinus g x) r)

-- The rows after a command that is taken.
abbrev pub rows_turn : CofactorRows → Command → CofactorRows
rows_turn r Both = halved_pair r
rows_turn r Cross = halved_row (readied Cross r)
rows_turn r Shift = halved_row (readied Shift r)
rows_turn r (PlusMinus g x) = halved_row (readied (PlusMinus g x) r)

-- c·x + d·y = a and e·x + f·y = b, and x and y times 2^twos are the pair.
pub record CofactorRowsRelated (p : AdmittedPair) (r : CofactorRows) (s : State ℤ) : Type 0 where
  pub first : r.c *ℤ r.x +ℤ r.d *ℤ r.y ≡ s.a
  pub second : r.e *ℤ r.x +ℤ r.f *ℤ r.y ≡ s.b
  pub of_a : r.x *ℤ pos (2 ^ s.twos) ≡ p.a
  pub of_b : r.y *ℤ pos (2 ^ s.twos) ≡ p.b

-- The same of a follower, which holds no rows before it is begun.
abbrev pub cofactor_first : AdmittedPair → Option CofactorRows
cofactor_first = begun_first first_rows

abbrev pub cofactor_turns : Option CofactorRows → Command → Option CofactorRows
cofactor_turns = begun_turns rows_turn
