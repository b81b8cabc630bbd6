-- A generator between two polls: what a poll and an event are of it (this project's rules for inputs).
use Rattle.std.specs.Prelude.{ℕ, suc, ◌-◌, ℤ, pos, Bool, not, ◌&&◌, nat_lt, List, Option, Some, None, if◌then◌else◌}
use Rattle.event_tree.specs.Events.{Ev}
use Rattle.in_lines.specs.Generators.{events_from, gave_all, generated}
use Rattle.in_lines.specs.Inputs.{poll_limit}
use Rattle.in_lines.specs.declared.generator.Generator.{Generator}
use Rattle.in_lines.specs.declared.poll_outcome.Got.{Got}
use Rattle.in_lines.specs.declared.poll_outcome.Got.TheVariants as got

-- A generator, as contracts see it: how many events it gave, how many more its last poll may make, and the moment of that.
pub record Generating : Type 0 where
  pub generator : Generator
  pub given : ℕ
  pub left : ℕ
  pub moment : ℤ

-- one of which no poll was made
abbrev pub begun : Generator → Generating
begun g = record { generator = g; given = 0; left = 0; moment = pos 0 }

-- it gave all its events
abbrev pub is_over : Generating → Bool
is_over g = gave_all g.generator g.given

-- whether it has an event of its last poll still to give
abbrev pub holds : Generating → Bool
holds g = nat_lt 0 g.left && not (is_over g)

-- the events of its last poll that it has still to give
abbrev pub events_held : Generating → List Ev
events_held g = events_from g.generator g.moment g.given g.left

-- A poll at a moment: where it has none of those to give and didn't give all, it makes up to 125.
abbrev pub polled : ℤ → Generating → Generating
polled moment g = if holds g then g else (if is_over g then g else record g { left = poll_limit; moment = moment })

abbrev pub got_of : Generating → Got
got_of g = if holds g then got.Lines else got.End

-- the next event, and what is left behind it
abbrev pub next_event : Generating → Option Ev
next_event g = if holds g then Some (generated g.generator g.moment g.given) else None

abbrev pub passed : Generating → Generating
passed g = if holds g then record g { given = suc g.given; left = g.left - 1 } else g
