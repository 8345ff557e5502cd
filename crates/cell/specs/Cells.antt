-- The rule of a cell: what it gives for a link, and what it is afterwards.
use Rattle.std.specs.Prelude.{ℕ, zero, suc, ◌+◌, ◌%◌, ◌^◌, true, cond, ℤ, pos, ◌+ℤ◌, ◌-ℤ◌, neg_ℤ, unsigned_abs, Bool}
use Rattle.std.specs.Int.{w16, int_wrap}
use Rattle.rule.specs.declared.command.Command.{Command}
use Rattle.rule.specs.declared.command.Command.TheVariants.{Both, Cross, Shift, PlusMinus}
use Rattle.cell.specs.Links.{blank}
use Rattle.cell.specs.Runs.{begun, place, bits, run_after}
use Rattle.cell.specs.declared.link.Link.{Link}
use Rattle.cell.specs.declared.run.Run.{Run}
use Rattle.cell.specs.declared.cell.Cell.{Cell}
use Rattle.cell.specs.declared.cell.Cell.TheVariants.{Idle, Started, Running}

-- δ once the command is done. A δ that leaves 16 bits comes in at the other end.
abbrev pub delta_after : Command → ℤ → ℤ
delta_after Both d = d
delta_after Cross d = int_wrap w16 (pos 1 -ℤ d)
delta_after Shift d = int_wrap w16 (d +ℤ pos 1)
delta_after (PlusMinus g x) d = neg_ℤ (pos (unsigned_abs d))

-- The halvings of both once the command is done, counted in 16 bits: after the largest count comes 0.
abbrev pub twos_after : Command → ℕ → ℕ
twos_after Both t = (t + 1) % 2 ^ 16
twos_after Cross t = t
twos_after Shift t = t
twos_after (PlusMinus g x) t = t

-- What a cell gives, and the cell afterwards.
pub record Taken : Type 0 where
  pub given : Link
  pub cell : Cell

-- A run that takes the first bits after the start gives the start of the new state.
abbrev pub opened : Link → Run → Bool → Bool → Taken
opened first r a b =
    let p = place r.command r a b in
    record {
      given = record { start = true; a = p.a; b = p.b; delta = delta_after r.command first.delta; twos = twos_after r.command first.twos };
      cell = Running (run_after r a b);
    }

-- A cell takes a link: without a start it waits for one, the link after the start fixes the command, and each later link is one place of it.
abbrev pub taken : Cell → Link → Taken
taken Idle l = record { given = blank; cell = cond l.start (Started l) Idle }
taken (Started first) l = opened first (begun first l.a l.b) l.a l.b
taken (Running r) l = record { given = bits (place r.command r l.a l.b); cell = Running (run_after r l.a l.b) }

-- Link k of those that a cell gives for a stream of links.
unfoldable pub gives : Cell → (ℕ → Link) → ℕ → Link
gives c f zero = (taken c (f 0)).given
gives c f (suc k) = gives (taken c (f 0)).cell (λ j. f (suc j)) k
