use Rattle.std.proofs.Common.{◌≡◌, ◌++◌, ◌-◌, ℕ, List, Option, Result, length}
use Rattle.std.specs.declared.alloc.AllocError.{AllocError}
use Rattle.line_links.specs.Answers.{numbers_from}
use Rattle.line_links.specs.Listening.{PollsInTurn, states}
use Rattle.line_links.specs.Takers.{TakeState}
use Rattle.line_links.proofs.address_input.poll_from.Given as goal

abbrev pub invariant-loop-place : goal.invariant-loop-place
invariant-loop-place l = (length l.takers.items ≡ length l.fn.takers.items)
    × ((more : List ℕ) (answer : Result (Option ℕ) AllocError) (last : List TakeState) → PollsInTurn (numbers_from l.place (l.end - l.place) ++ more) answer (states l.takers.items) last
    → PollsInTurn (numbers_from l.from (l.end - l.from) ++ more) answer (states l.fn.takers.items) last)
