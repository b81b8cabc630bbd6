use Rattle.std.proofs.Common.{arith, ap, ◌∙◌, []}
use Rattle.monitor_core.specs.Kept.{all_but_four, last_four}
use Rattle.monitor_core.proofs.Keeping.{splits, front_unused, four_unused}
use Rattle.monitor_core.proofs.monitor.CountSeat.split_off.Goals as goal

pub split_seat-seat-requires : goal.split_seat-seat-requires
split_seat-seat-requires c = (c.requires.table, omega (arith, c.requires.within, ap (λ t. t.words) c.requires.table), splits _ _)

pub returns-clause-left : goal.returns-clause-left
returns-clause-left c = c.split_seat-seat.ensures.2 ∙ ap (λ m. (all_but_four m.0, m.1)) c.requires.unused ∙ ap (λ v. (v, [])) (front_unused c.args.number)

pub returns-clause-nothing : goal.returns-clause-nothing
returns-clause-nothing c = ap (λ m. m.0.counts) c.split_seat-seat.ensures.4 ∙ ap (λ m. (last_four m.0).counts) c.requires.unused ∙ ap (λ v. v.counts) (four_unused c.args.number)
