use Rattle.std.proofs.Common.{◌≡◌, ◌==◌, if◌then◌else◌, List, sym, ap, ◌∙◌, subst}
use Rattle.io_traits.specs.Reads.{bytes_of}
use Rattle.queue_files.specs.Folders.{page, names_in}
use Rattle.queue_core.specs.Calls.{end_of}
use Rattle.queue_core.specs.Kept.{StandsIn}
use Rattle.queue_core.specs.Keeping.{kept_row, place_between, KeepsOne}
use Rattle.queue_core.specs.Opens.{Opens}
use Rattle.queue_core.specs.Views.{QueueView}
use Rattle.queue_core.specs.Writing.{frame_size, with_written}
use Rattle.queue_core.specs.declared.kept.KeptRow.{KeptRow}
use Rattle.queue_core.proofs.KeptLemmas.{opens_kept, ready_kept}
use Rattle.queue_core.proofs.KeptWrites.{write_keeps, written_stands}
use Rattle.queue_core.proofs.queue.Queue.write_and_keep.Goals as goal

pub returns-in-Ok-clause-ready : goal.returns-in-Ok-clause-ready
returns-in-Ok-clause-ready g c = ready_kept g.S.Store c.write.new.self c.write.new.store c.keep.new.self c.keep.new.self.cursor.kept c.keep.ensures.same c.in-Ok.ensures.ready

pub returns-in-Ok-clause-kept : goal.returns-in-Ok-clause-kept
returns-in-Ok-clause-kept g c = subst (λ (kept : List KeptRow). KeepsOne kept c.keep.new.self.cursor.kept)
    (ap (λ (x : QueueView). x.cursor.kept) c.in-Ok.ensures.written ∙ write_keeps (frame_size c.args.origin.now c.args.event) c.args.self.now) c.keep.ensures.kept

pub returns-in-Ok-clause-adds : goal.returns-in-Ok-clause-adds
returns-in-Ok-clause-adds g c = λ q opens.
    let v = c.args.self.now in
    let w = c.write.new.self in
    let o = c.args.origin.now in
    let e = c.args.event in
    let s = c.write.new.store in
    let queue = with_written v o e q in
    let now = c.in-Ok.ensures.adds q opens in
    let place : c.place_of-place.result ≡ place_between v w = c.place_of-place.ensures
    ∙ (λ i. if (c.self-in-Ok.view_is i).top.number == c.number-page.ensures i then c.length-length.ensures i else 1)
    ∙ (λ i. if w.top.number == (c.self.view_is i).top.number then (c.self.view_is i).top.page.state.length else 1) in
    opens_kept g.S.Store w queue s c.keep.new.self c.keep.new.self.cursor.kept c.keep.ensures.same
    (λ told. c.keep.ensures.stands (g.S.Store.seen s) (now.files told)
    (subst (λ n. StandsIn w.top.page.version (bytes_of (g.S.Store.seen s (names_in w.folder (page w.top.number)))) (kept_row w n c.place_of-place.result o e)) (sym c.in-Ok.ensures.number)
    (subst (λ n. StandsIn w.top.page.version (bytes_of (g.S.Store.seen s (names_in w.folder (page w.top.number)))) (kept_row w (end_of v.top) n o e)) (sym place)
    (subst (λ (x : QueueView). Opens g.S.Store x queue s → StandsIn x.top.page.version (bytes_of (g.S.Store.seen s (names_in x.folder (page x.top.number)))) (kept_row x (end_of v.top) (place_between v x) o e)) (sym c.in-Ok.ensures.written)
    (written_stands g.S.Store v q c.args.store.now s o e told opens) now))))
    now
