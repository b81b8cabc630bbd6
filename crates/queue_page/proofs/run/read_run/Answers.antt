use Rattle.std.proofs.Common.{◌≡◌, ◌≤◌, ◌+◌, length, Some, Ok, Err, ap, ◌∙◌, arith, sym}
use Rattle.io_traits.specs.Reads.{bytes_of}
use Rattle.io_traits.proofs.Looking.{nothing_then}
use Rattle.queue_page.specs.Answers.{Tells}
use Rattle.queue_page.specs.Blocks.{AreBytesIn, IsPart, left_of}
use Rattle.queue_page.specs.Elements.{element_at, next_of}
use Rattle.queue_page.specs.declared.element.ElementPosition.{ElementPosition}
use Rattle.queue_page.proofs.ElementReads.{next_row, next_misfit}
use Rattle.queue_page.proofs.Told.{over}
use Rattle.queue_page.proofs.FileBytes.{and_behind}
use Rattle.queue_page.proofs.RunReads.{read_at, turn, ended_at_limit, ended_at_end, ended_at_fault, ran}
use Rattle.queue_page.proofs.run.read_run.Goals as goal

pub loop-count-preserved : goal.loop-count-preserved
loop-count-preserved g c =
    let inv = c.loop-count.invariant in
    let now = c.loop-count.spot in
    let name = c.args.name.now in
    record {
      few = omega arith;
      number = omega (arith, inv.number);
      version = inv.version;
      end = inv.end;
      behind = omega (arith, inv.behind, c.in-Ok.ensures.within.0);
      within = c.in-Ok.ensures.within.1;
      same = nothing_then g.S.Store c.args.store.now c.loop-count.store c.test_element.new.store inv.same c.test_element.ensures.same;
      faults = c.in-Ok.ensures.cause.same (λ is. cc) ∙ inv.faults;
      part = λ told part. over (g.S.Store.seen c.loop-count.store) (g.S.Store.seen c.args.store.now) name c.loop-count.block (λ file. IsPart file c.test_element.new.block) (inv.same.reads told) (c.test_element.ensures.part told) (inv.part told part);
      bytes = λ told part within.
          let file = bytes_of (g.S.Store.seen c.args.store.now name) in
          and_behind file c.args.first.place now.place c.in-Ok.next (inv.bytes told part within)
          (over (g.S.Store.seen c.loop-count.store) (g.S.Store.seen c.args.store.now) name c.loop-count.block (λ f. now.end ≤ length f → AreBytesIn now.place c.in-Ok.next f) (inv.same.reads told) (c.in-Ok.ensures.bytes told)
          (inv.part told part) (omega (arith, inv.end, within)));
      so_far = λ told part within.
          let read = over (g.S.Store.seen c.loop-count.store) (g.S.Store.seen c.args.store.now) name c.loop-count.block
          (λ file. now.end ≤ length file → next_of (element_at now.version now.number now.place (left_of file now.place now.end)) ≡ Ok c.in-Ok.next) (inv.same.reads told) (c.in-Ok.ensures.next told) (inv.part told part) (omega (arith, inv.end, within)) in
          let file = bytes_of (g.S.Store.seen c.args.store.now name) in
          let took = next_row (element_at now.version now.number now.place (left_of file now.place now.end)) c.in-Ok.next read in
          let next : ElementPosition = record { version = now.version; number = now.number + 1; place = c.in-Ok.next; end = now.end } in
          turn c.args.limit c.args.first c.loop-count.count now file took.0 next (inv.so_far told part within) c.loop-count-test.true (omega (arith, inv.end, c.if-spot.true)) within
          (read_at c.args.first now c.loop-count.count file (Ok took.0) inv.version inv.number inv.end took.1) took.2;
    }

pub returns-in-Err-Mismatch-clause-run : goal.returns-in-Err-Mismatch-clause-run
returns-in-Err-Mismatch-clause-run g c = λ told part within.
    let inv = c.loop-count.invariant in
    let now = c.loop-count.spot in
    let name = c.args.name.now in
    let file = bytes_of (g.S.Store.seen c.args.store.now name) in
    let h = over (g.S.Store.seen c.loop-count.store) (g.S.Store.seen c.args.store.now) name c.loop-count.block
    (λ f. now.end ≤ length f → Tells (λ next. next) (Err c.in-Err-Mismatch.field-0) (next_of (element_at now.version now.number now.place (left_of f now.place now.end)))) (inv.same.reads told)
    (c.in-Err-Mismatch.ensures.next told) (inv.part told part) (omega (arith, inv.end, within)) in
    let read = next_misfit (element_at now.version now.number now.place (left_of file now.place now.end)) c.in-Err-Mismatch.misfit (rw c.in-Err-Mismatch.field-0-is at h) in
    ended_at_fault c.args.limit c.args.first c.loop-count.count now file c.in-Err-Mismatch.misfit (inv.so_far told part within) c.loop-count-test.true (omega (arith, inv.end, c.if-spot.true)) within
    (read_at c.args.first now c.loop-count.count file (Err c.in-Err-Mismatch.misfit) inv.version inv.number inv.end read)
    ∙ ap (λ m. ran (record { count = c.loop-count.count; end = now.place; stop = Some m })) (sym c.in-Err-Mismatch.misfit-is)

pub returns-else-spot-clause-run : goal.returns-else-spot-clause-run
returns-else-spot-clause-run g c = λ told part within.
    let inv = c.loop-count.invariant in
    ended_at_end c.args.limit c.args.first c.loop-count.count c.loop-count.spot (bytes_of (g.S.Store.seen c.args.store.now c.args.name.now)) (inv.so_far told part within) (omega (arith, inv.end, c.if-spot.false)) within

pub returns-after-loop-count-clause-run : goal.returns-after-loop-count-clause-run
returns-after-loop-count-clause-run g c = λ told part within.
    let inv = c.loop-count.invariant in
    ended_at_limit c.args.limit c.args.first c.loop-count.count c.loop-count.spot (bytes_of (g.S.Store.seen c.args.store.now c.args.name.now)) (inv.so_far told part within) c.loop-count-test.false
