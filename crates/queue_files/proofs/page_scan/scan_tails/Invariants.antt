use Rattle.std.proofs.Common.{◌≡◌, ◌++◌, IsTrue, map, drop}
use Rattle.io_traits.specs.Calls.{ChangesNothing}
use Rattle.queue_files.specs.Folders.{names_in}
use Rattle.queue_files.specs.Marks.{read_in}
use Rattle.queue_files.specs.Collected.{in_front}
use Rattle.queue_files.specs.Opening.{views_of}
use Rattle.queue_files.specs.Queues.{HaveBytes}
use Rattle.queue_page.specs.Views.{PageView}
use Rattle.queue_files.specs.declared.sealed_pages.SealedPage.{SealedPage}
use Rattle.queue_files.proofs.page_scan.scan_tails.Given as goal

abbrev pub invariant-loop-tail : goal.invariant-loop-tail
invariant-loop-tail g l = record {
  same : ChangesNothing g.S.Store.tells g.S.Store.seen g.S.Store.moment g.S.Store.may_leave l.fn.store l.store;
  states : map (λ (t : SealedPage). t.state) l.tails ≡ map (λ (p : PageView). p.state) l.pages.items ++ map (λ (t : SealedPage). t.state) (drop l.tail-index l.tails);
  bytes : IsTrue g.S.Store.tells → HaveBytes (read_in (names_in l.fn.folder) (g.S.Store.seen l.fn.store)) (drop l.tail-index l.tails) → HaveBytes (read_in (names_in l.fn.folder) (g.S.Store.seen l.fn.store)) l.tails;
  faults : g.S.Store.faults l.store ≡ g.S.Store.faults l.fn.store;
  so_far : IsTrue g.S.Store.tells → views_of (read_in (names_in l.fn.folder) (g.S.Store.seen l.fn.store)) l.tails
      ≡ in_front (map (λ (page : PageView). page) l.pages.items) (views_of (read_in (names_in l.fn.folder) (g.S.Store.seen l.fn.store)) (drop l.tail-index l.tails));
}
