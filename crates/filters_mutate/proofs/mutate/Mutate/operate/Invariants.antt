use Rattle.std.proofs.Common.{◌≡◌, drop}
use Rattle.filter_settings.specs.Trying.{all_tried}
use Rattle.filters_mutate.specs.Operations.{operated}
use Rattle.filters_mutate.proofs.mutate.Mutate.operate.Given as goal

abbrev pub invariant-loop-operation : goal.invariant-loop-operation
invariant-loop-operation l =
    (all_tried (operated l.fn.self) (drop l.operation-index l.order) l.event ≡ all_tried (operated l.fn.self) l.fn.order l.fn.event) × (l.self ≡ l.fn.self)
