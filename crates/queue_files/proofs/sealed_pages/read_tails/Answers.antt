use Rattle.std.proofs.Common.{◌∙◌, subst}
use Rattle.std.proofs.lemmas.List.{drop_more}
use Rattle.io_traits.specs.Folders.{Content}
use Rattle.io_traits.specs.Reads.{bytes_of}
use Rattle.io_traits.proofs.Looking.{nothing_then}
use Rattle.queue_files.specs.Folders.{checkpoint, names_in}
use Rattle.queue_files.specs.Marks.{read_in}
use Rattle.queue_files.specs.Opening.{held_tail, held_at}
use Rattle.queue_files.specs.Queues.{IsNewest}
use Rattle.queue_files.proofs.QueueReads.{newest_more}
use Rattle.queue_files.proofs.Fallings.{bounded_more}
use Rattle.queue_files.proofs.Collecting.{item_lost, item_read}
use Rattle.queue_files.proofs.sealed_pages.read_tails.Goals as goal

pub returns-in-Err-clause-tails : goal.returns-in-Err-clause-tails
returns-in-Err-clause-tails g c told =
    let inv = c.loop-number.invariant in
    let names = names_in c.args.folder.now in
    let at = c.loop-number.number-index in
    item_lost (λ content. held_at (read_in names content)) (λ content. held_tail (read_in names content)) names (g.S.Store.seen c.args.store.now) (g.S.Store.seen c.loop-number.store) (inv.same.reads told)
    c.loop-number.tails.items c.args.numbers.now at _ (drop_more c.args.numbers.now at _ c.loop-number-test.true) (inv.so_far told) c.in-Err.fault (c.in-Err.ensures.tail told)

pub loop-number-preserved : goal.loop-number-preserved
loop-number-preserved g c =
    let inv = c.loop-number.invariant in
    let names = names_in c.args.folder.now in
    let at = c.loop-number.number-index in
    record {
      bounded = bounded_more c.loop-number.tails.items c.push.new.self.items c.in-Ok.tail c.in-Ok-push.ensures.items inv.bounded c.in-Ok.ensures.bounded;
      newest = λ told. newest_more (read_in names (g.S.Store.seen c.args.store.now)) c.loop-number.tails.items c.push.new.self.items c.in-Ok.tail c.in-Ok-push.ensures.items (inv.newest told)
          (subst (λ (content : Content). IsNewest (bytes_of (content (names (checkpoint c.in-Ok.tail.number)))) c.in-Ok.tail.turn c.in-Ok.tail.state) (inv.same.reads told) (c.in-Ok.ensures.newest told));
      same = nothing_then g.S.Store c.args.store.now c.loop-number.store c.read_tail.new.store inv.same c.read_tail.ensures.same;
      faults = c.in-Ok.ensures.cause.same (λ is. absurd cc) ∙ inv.faults;
      so_far = λ told. item_read (λ content. held_at (read_in names content)) (λ content. held_tail (read_in names content)) names (g.S.Store.seen c.args.store.now) (g.S.Store.seen c.loop-number.store) (inv.same.reads told)
          c.loop-number.tails.items c.args.numbers.now at _ (drop_more c.args.numbers.now at _ c.loop-number-test.true) (inv.so_far told) c.in-Ok.tail c.push.new.self.items c.in-Ok-push.ensures.items (c.in-Ok.ensures.tail told);
    }
