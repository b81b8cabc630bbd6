use Rattle.std.proofs.Common.{◌≡◌, ◌∙◌, false, get_or, sym, subst}
use Rattle.std.proofs.lemmas.List.{drop_more, drop_all}
use Rattle.io_traits.proofs.Looking.{nothing_then}
use Rattle.io_traits.specs.Folders.{Content}
use Rattle.io_traits.specs.Reads.{bytes_of}
use Rattle.queue_page.specs.Blocks.{AreBytesIn}
use Rattle.queue_page.specs.Views.{PageView}
use Rattle.queue_files.specs.Folders.{Names, page, names_in}
use Rattle.queue_files.specs.Marks.{read_in}
use Rattle.queue_files.specs.Opening.{held_tail, view_at, views_of}
use Rattle.queue_files.specs.Queues.{HaveBytes}
use Rattle.queue_files.specs.declared.sealed_pages.SealedPage.{SealedPage}
use Rattle.queue_files.proofs.Fallings.{no_tail, bounded_at}
use Rattle.queue_files.proofs.KnownPages.{mapped_more, mapped_end}
use Rattle.queue_files.proofs.Collecting.{collect_end, item_lost, item_read}
use Rattle.queue_files.proofs.page_scan.scan_tails.Goals as goal

-- what was read of a page is what reads gave at first
read_at_first : (names : Names) (old now : Content) → now ≡ old → (t : SealedPage) → AreBytesIn 0 t.state.length (bytes_of (now (names (page t.number)))) → AreBytesIn 0 t.state.length (bytes_of (old (names (page t.number))))
read_at_first names old now same t are = subst (λ (c : Content). AreBytesIn 0 t.state.length (bytes_of (c (names (page t.number))))) same are

pub returns-in-Err-clause-pages : goal.returns-in-Err-clause-pages
returns-in-Err-clause-pages g c told =
    let inv = c.loop-tail.invariant in
    let names = names_in c.args.folder.now in
    let at = c.loop-tail.tail-index in
    item_lost (λ content t. view_at false (held_tail (read_in names content) t)) (λ content (page : PageView). page) names (g.S.Store.seen c.args.store.now) (g.S.Store.seen c.loop-tail.store) (inv.same.reads told)
    c.loop-tail.pages.items c.args.tails.now at _ (drop_more c.args.tails.now at _ c.loop-tail-test.true) (inv.so_far told) c.in-Err.fault (c.in-Err.ensures.page told)

pub loop-tail-preserved : goal.loop-tail-preserved
loop-tail-preserved g c =
    let inv = c.loop-tail.invariant in
    let names = names_in c.args.folder.now in
    let at = c.loop-tail.tail-index in
    record {
      same = nothing_then g.S.Store c.args.store.now c.loop-tail.store c.scan_tail.new.store inv.same c.scan_tail.ensures.same;
      states = mapped_more (λ (t : SealedPage). t.state) (λ (p : PageView). p.state) c.args.tails.now c.loop-tail.pages.items c.push.new.self.items at _ c.in-Ok.page (drop_more c.args.tails.now at _ c.loop-tail-test.true) c.in-Ok-push.ensures.items c.in-Ok.ensures.state inv.states;
      bytes = λ told rest. inv.bytes told
          (subst (HaveBytes (read_in names (g.S.Store.seen c.args.store.now))) (sym (drop_more c.args.tails.now at no_tail c.loop-tail-test.true))
          (read_at_first names (g.S.Store.seen c.args.store.now) (g.S.Store.seen c.loop-tail.store) (inv.same.reads told) (get_or c.args.tails.now at no_tail) (c.in-Ok.ensures.bytes told), rest));
      faults = c.in-Ok.ensures.cause.same (λ is. absurd cc) ∙ inv.faults;
      so_far = λ told. item_read (λ content t. view_at false (held_tail (read_in names content) t)) (λ content (page : PageView). page) names (g.S.Store.seen c.args.store.now) (g.S.Store.seen c.loop-tail.store) (inv.same.reads told)
          c.loop-tail.pages.items c.args.tails.now at _ (drop_more c.args.tails.now at _ c.loop-tail-test.true) (inv.so_far told) c.in-Ok.page c.push.new.self.items c.in-Ok-push.ensures.items (c.in-Ok.ensures.page told);
    }

pub scan_tail-requires : goal.scan_tail-requires
scan_tail-requires g c = bounded_at c.args.tails.now c.loop-tail.tail-index _ (drop_more c.args.tails.now c.loop-tail.tail-index no_tail c.loop-tail-test.true) c.requires

pub returns-clause-pages : goal.returns-clause-pages
returns-clause-pages g c told =
    let folder = read_in (names_in c.args.folder.now) (g.S.Store.seen c.args.store.now) in
    collect_end (λ t. view_at false (held_tail folder t)) (views_of folder c.args.tails.now) c.loop-tail.pages.items c.args.tails.now c.loop-tail.tail-index c.loop-tail-test.false (c.loop-tail.invariant.so_far told)

pub returns-clause-states : goal.returns-clause-states
returns-clause-states g c = mapped_end (λ (t : SealedPage). t.state) (λ (p : PageView). p.state) c.args.tails.now c.loop-tail.pages.items c.loop-tail.tail-index c.loop-tail-test.false c.loop-tail.invariant.states

pub returns-clause-bytes : goal.returns-clause-bytes
returns-clause-bytes g c told =
    let folder = read_in (names_in c.args.folder.now) (g.S.Store.seen c.args.store.now) in
    c.loop-tail.invariant.bytes told (subst (HaveBytes folder) (sym (drop_all c.loop-tail.tail-index c.args.tails.now c.loop-tail-test.false)) tt)
