use Rattle.std.proofs.Common.{◌≡◌, List, sym, ◌∙◌, ap, subst, arith, length, get_or, slice_set, true}
use Rattle.queue_files.specs.declared.marking.Mark.{Mark}
use Rattle.queue_core.specs.Calls.{mark_of, marks_of}
use Rattle.queue_core.proofs.EachPlace.{head_marked, long_marks}
use Rattle.queue_core.proofs.marking.set_marks.Goals as goal

pub index_mut-requires : goal.index_mut-requires
index_mut-requires c = omega (arith, c.requires, ap length c.set_tails.ensures, long_marks c.args.tails.now c.args.marks.now.items)

pub returns : goal.returns
returns c =
    let tails = c.args.tails.now in
    let old = c.args.marks.now.items in
    let m = c.index_mut.result.now in
    ap (slice_set c.set_tails.new.marks.items (length tails)) c.set_mark.ensures
    ∙ subst (λ (l : List Mark). m ≡ get_or l (length tails) m → slice_set l (length tails) (mark_of c.args.top.now true m) ≡ marks_of tails c.args.top.now old) (sym c.set_tails.ensures)
    (head_marked tails c.args.top.now old m c.requires) c.index_mut.ensures.value
