use Rattle.std.proofs.Common.{◌≡◌, ◌++◌, length}
use Rattle.std.specs.Vec.Iter.{into_iter_len}
use Rattle.filters_mutate.specs.Gsub.{are_patterns}
use Rattle.filters_mutate.proofs.gsub.compiled.Given as goal

abbrev pub invariant-loop-one : goal.invariant-loop-one
invariant-loop-one l = record {
  rest : l.gsubs ++ l.one-iterator.rest.items ≡ l.fn.says;
  patterns : are_patterns l.one-iterator.rest.items ≡ are_patterns l.fn.says;
  counted : into_iter_len l.one-iterator ≡ length l.one-iterator.rest.items;
}
