use Rattle.std.proofs.Common.{sym}
use Rattle.std.proofs.lemmas.List.{drop_more}
use Rattle.queue_files.specs.Folders.{checkpoint, names_in}
use Rattle.queue_files.specs.declared.marking.Mark.{Mark}
use Rattle.queue_files.specs.declared.sealed_pages.SealedPage.{SealedPage}
use Rattle.queue_files.proofs.Fallings.{no_tail}
use Rattle.queue_files.proofs.KnownPages.{mapped_more, mapped_end}
use Rattle.queue_core.proofs.opening.tail_marks.Goals as goal

pub loop-tail-preserved : goal.loop-tail-preserved
loop-tail-preserved c = record {
  so_far = mapped_more (λ (t : SealedPage). names_in c.args.folder.now (checkpoint t.number)) (λ (m : Mark). m.file) c.args.tails.now c.loop-tail.marks.items c.push.new.self.items c.loop-tail.tail-index _ _
      (drop_more c.args.tails.now c.loop-tail.tail-index no_tail c.loop-tail-test.true) c.in_ok-push.ensures.items c.in_ok-file.ensures c.loop-tail.invariant.so_far;
}

pub returns : goal.returns
returns c = sym (mapped_end (λ (t : SealedPage). names_in c.args.folder.now (checkpoint t.number)) (λ (m : Mark). m.file) c.args.tails.now c.loop-tail.marks.items c.loop-tail.tail-index c.loop-tail-test.false c.loop-tail.invariant.so_far)
