use Rattle.std.proofs.Common.{◌≡◌, ◌+◌, drop, length}
use Rattle.std.specs.List.{sum_by}
use Rattle.built_plugins.proofs.counting.in_fields.Given as goal

abbrev pub invariant-loop-field : goal.invariant-loop-field
invariant-loop-field l = l.count + sum_by (λ f. length f.1) (drop l.field-index l.fields) ≡ sum_by (λ f. length f.1) l.fields
