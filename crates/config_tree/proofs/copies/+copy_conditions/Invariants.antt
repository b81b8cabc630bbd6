use Rattle.std.proofs.Common.{◌≡◌, take}
use Rattle.config_tree.proofs.copies.+copy_conditions.Given as goal

abbrev pub invariant-copy_conjoined-loop-part : goal.invariant-copy_conjoined-loop-part
invariant-copy_conjoined-loop-part l = l.copies ≡ take l.part-index l.row

abbrev pub invariant-copy_disjoined-loop-part : goal.invariant-copy_disjoined-loop-part
invariant-copy_disjoined-loop-part l = l.copies ≡ take l.part-index l.row
