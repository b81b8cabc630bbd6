use Rattle.std.proofs.Common.{◌≡◌, length, map}
use Rattle.std.specs.Vec.Iter.{into_iter_len}
use Rattle.event_flow.specs.Parts.{arm_of, branch, parts_of}
use Rattle.built_plugins.specs.Flats.{with_part}
use Rattle.built_plugins.proofs.flat.+flatten.Given as goal

abbrev pub invariant-add_statements-loop-statement : goal.invariant-add_statements-loop-statement
invariant-add_statements-loop-statement l = record {
  so_far : with_part l.to (parts_of l.statement-iterator.rest.items) ≡ with_part l.fn.to (parts_of l.fn.statements);
  counted : into_iter_len l.statement-iterator ≡ length l.statement-iterator.rest.items;
}

abbrev pub invariant-add_arms-loop-arm : goal.invariant-add_arms-loop-arm
invariant-add_arms-loop-arm l = record {
  so_far : with_part l.to (branch (map arm_of l.arm-iterator.rest.items)) ≡ with_part l.fn.to (branch (map arm_of l.fn.arms));
  counted : into_iter_len l.arm-iterator ≡ length l.arm-iterator.rest.items;
}
