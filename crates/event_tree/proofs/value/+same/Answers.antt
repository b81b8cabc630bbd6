use Rattle.std.proofs.Common.{rules, ◌≡◌, ◌<◌, length, Some, refl, arith, slice_get}
use Rattle.std.proofs.lemmas.Option.{slice_get_read}
use Rattle.event_tree.proofs.Depths.{falls_member}
use Rattle.event_tree.proofs.ListLemmas.{same_step}
use Rattle.event_tree.proofs.value.+same.Goals as goal

pub same_members-same_value-requires : goal.same_members-same_value-requires
same_members-same_value-requires t c =
    let lt : c.loop-i.i < length c.args.left.now = omega (arith, c.loop-i-test.true) in
    (omega (arith, falls_member c.args.left.now c.loop-i.i c.index-left-i.result c.index-left-i.is lt), tt)

pub same_members-loop-i-preserved : goal.same_members-loop-i-preserved
same_members-loop-i-preserved t c =
    let xs = c.args.left.now in
    let ys = c.args.right.now in
    let i = c.loop-i.i in
    let a = c.index-left-i.result in
    let b = c.index-right-i.result in
    let lx : i < length xs = omega (arith, c.loop-i-test.true) in
    let ly : i < length ys = search rules in
    let hx : slice_get xs i ≡ Some a = slice_get_read xs (length xs) i a refl lx c.index-left-i.is in
    let hy : slice_get ys i ≡ Some b = slice_get_read ys (length ys) i b refl ly c.index-right-i.is in
    let k : a.0 ≡ b.0 = search rules in
    let e : a.1 ≡ b.1 = search rules in
    same_step xs ys i a b c.loop-i.invariant hx hy k e
