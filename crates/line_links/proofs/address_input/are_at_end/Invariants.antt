use Rattle.std.proofs.Common.{◌≡◌, ◌++◌, ◌-◌, [], true, Bool, List, length}
use Rattle.line_links.specs.Answers.{numbers_from}
use Rattle.line_links.specs.Listening.{InTurn, StopsAtOne, events_left, states}
use Rattle.line_links.specs.Takers.{EndsBy, TakeState}
use Rattle.line_links.proofs.address_input.are_at_end.Given as goal

abbrev pub invariant-loop-place : goal.invariant-loop-place
invariant-loop-place l = (length l.takers.items ≡ length l.fn.takers.items) × ((events_left (states l.takers.items) ≡ events_left (states l.fn.takers.items))
    × ((answer : Bool) (last : List TakeState) → InTurn (EndsBy true) StopsAtOne true (numbers_from l.place (length l.fn.takers.items - l.place) ++ []) answer (states l.takers.items) last
    → InTurn (EndsBy true) StopsAtOne true (numbers_from 0 (length l.fn.takers.items - 0) ++ []) answer (states l.fn.takers.items) last))
