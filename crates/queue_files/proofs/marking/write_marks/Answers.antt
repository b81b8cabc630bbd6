use Rattle.std.proofs.Common.{◌≡◌, ◌++◌, List, [], drop, refl, sym, ◌∙◌, ap, subst, append_assoc, ◌+◌}
use Rattle.io_traits.specs.Moments.{EachMoment}
use Rattle.queue_files.specs.Others.{IsMarked}
use Rattle.queue_files.specs.Writes.{Write, due_of, writes_of, CanWrite, MayLeave}
use Rattle.queue_files.proofs.WriteLemmas.{left_none, left_more, left_cut, wrote_append, can_still, marks_on}
use Rattle.queue_files.proofs.OtherFiles.{others_stay, marked_then}
use Rattle.queue_files.proofs.marking.write_marks.Goals as goal

pub loop-mark-init : goal.loop-mark-init
loop-mark-init g c = record {
  done = [];
  whole = refl;
  images = left_none g.S.Store c.args.store.now;
  wrote = λ told name. refl;
  can = λ told. c.requires told;
  beside = others_stay g.S.Store g.met.S.Store.images_tell (IsMarked c.args.marks.now) c.args.store.now;
  same = refl;
}

pub returns-in-Err-clause-images : goal.returns-in-Err-clause-images
returns-in-Err-clause-images g c =
    let i = c.loop-mark.invariant in
    let xs = c.args.marks.now in
    let at = c.loop-mark.mark-index in
    let m = c.mark-item.result in
    let rest = writes_of (drop (at + 1) xs) in
    let next : writes_of (drop at xs) ≡ due_of m ++ rest = marks_on xs at m c.mark-item.is c.loop-mark-test.true in
    let run = left_more g.S.Store g.met.S.Store.images_tell i.done c.args.store.now c.loop-mark.store i.images (due_of m) c.write_mark.new.store c.write_mark.ensures.images in
    let cut = left_cut g.S.Store g.met.S.Store.images_tell (i.done ++ due_of m) c.args.store.now c.write_mark.new.store run rest in
    subst (λ (ws : List Write). EachMoment g.S.Store c.args.store.now c.write_mark.new.store (MayLeave g.S.Store c.args.store.now ws))
    (append_assoc i.done (due_of m) rest ∙ ap (λ ws. i.done ++ ws) (sym next) ∙ sym i.whole) cut

pub loop-mark-preserved : goal.loop-mark-preserved
loop-mark-preserved g c =
    let i = c.loop-mark.invariant in
    let xs = c.args.marks.now in
    let at = c.loop-mark.mark-index in
    let m = c.mark-item.result in
    let rest = writes_of (drop (at + 1) xs) in
    let next : writes_of (drop at xs) ≡ due_of m ++ rest = marks_on xs at m c.mark-item.is c.loop-mark-test.true in
    record {
      done = i.done ++ due_of m;
      whole = i.whole ∙ ap (λ ws. i.done ++ ws) next ∙ sym (append_assoc i.done (due_of m) rest);
      images = left_more g.S.Store g.met.S.Store.images_tell i.done c.args.store.now c.loop-mark.store i.images (due_of m) c.write_mark.new.store c.write_mark.ensures.images;
      wrote = λ told. wrote_append i.done (due_of m) (g.S.Store.seen c.args.store.now) (g.S.Store.seen c.loop-mark.store) (g.S.Store.seen c.write_mark.new.store) (i.wrote told) (c.in-Ok.ensures.wrote told);
      can = λ told. can_still (due_of m) rest (g.S.Store.seen c.loop-mark.store) (g.S.Store.seen c.write_mark.new.store) (c.in-Ok.ensures.wrote told) (subst (CanWrite (g.S.Store.seen c.loop-mark.store)) next (i.can told));
      beside = marked_then g.S.Store g.met.S.Store.images_tell xs m c.args.store.now c.loop-mark.store c.write_mark.new.store (at, c.loop-mark-test.true, sym c.mark-item.is) i.beside
          c.write_mark.ensures.beside;
      same = c.in-Ok.ensures.cause.same (λ f. absurd cc) ∙ i.same;
    }

pub returns-in-Err-clause-beside : goal.returns-in-Err-clause-beside
returns-in-Err-clause-beside g c =
    marked_then g.S.Store g.met.S.Store.images_tell c.args.marks.now c.mark-item.result c.args.store.now c.loop-mark.store c.write_mark.new.store (c.loop-mark.mark-index, c.loop-mark-test.true, sym c.mark-item.is) c.loop-mark.invariant.beside
    c.write_mark.ensures.beside

pub returns-clause-beside : goal.returns-clause-beside
returns-clause-beside g c = c.loop-mark.invariant.beside
