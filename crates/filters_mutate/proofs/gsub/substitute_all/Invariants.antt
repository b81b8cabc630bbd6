use Rattle.std.proofs.Common.{◌≡◌, drop}
use Rattle.filter_settings.specs.Trying.{all_tried}
use Rattle.filters_mutate.specs.Operations.{substituted_at}
use Rattle.filters_mutate.proofs.gsub.substitute_all.Given as goal

abbrev pub invariant-loop-index : goal.invariant-loop-index
invariant-loop-index l =
    (all_tried substituted_at (drop l.index l.fn.gsubs) l.event ≡ all_tried substituted_at l.fn.gsubs l.fn.event) × (l.gsubs ≡ l.fn.gsubs)
