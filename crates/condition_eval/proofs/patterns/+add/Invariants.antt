use Rattle.std.proofs.Common.{take}
use Rattle.condition_eval.specs.Made.{Added, texts_behind}
use Rattle.condition_eval.proofs.patterns.+add.Given as goal

abbrev pub invariant-add_conjoined-loop-part : goal.invariant-add_conjoined-loop-part
invariant-add_conjoined-loop-part l = Added (texts_behind (take l.part-index l.rest)) l.fn.patterns l.patterns

abbrev pub invariant-add_disjoined-loop-part : goal.invariant-add_disjoined-loop-part
invariant-add_disjoined-loop-part l = Added (texts_behind (take l.part-index l.rest)) l.fn.patterns l.patterns
