use Rattle.std.proofs.Common.{rules, ◌≡◌, [], Err, Option, refl, ap, subst}
use Rattle.io_traits.specs.Reads.{bytes_of}
use Rattle.queue_page.specs.declared.row.PageRow.{PageRow}
use Rattle.queue_files.specs.Folders.{IsOwn, names_in}
use Rattle.queue_files.proofs.OtherFiles.{others_looked, others_then}
use Rattle.pq_tools.specs.PageRuns.{GivesRow}
use Rattle.pq_tools.specs.Repairs.{row_if}
use Rattle.pq_tools.specs.declared.fault.RepairFault.TheVariants as r
use Rattle.pq_tools.proofs.Takings.{adds_same, adds_then, spends_row}
use Rattle.pq_tools.proofs.taking.take_row.Goals as goal

pub returns-in_ok-write_given-in-Some-clause-step : goal.returns-in_ok-write_given-in-Some-clause-step
returns-in_ok-write_given-in-Some-clause-step g c =
    let file = bytes_of (g.S.Store.seen c.args.store.now c.args.name.now) in
    let row = c.in-Some.row in
    record {
      done = row_if c.is_given-given.result row;
      adds = adds_then g.S.Store [] (row_if c.is_given-given.result row) c.args.queue.now c.args.queue.now c.write_given.new.queue c.args.store.now c.next_row.new.store c.write_given.new.store
          (adds_same g.S.Store c.args.queue.now c.args.store.now c.next_row.new.store c.next_row.ensures.same) c.in_ok-write_given-in-Some.ensures.adds;
      step = λ told is. (
        row,
        subst (λ (o : Option PageRow). GivesRow file c.args.run.now c.next_row.new.run o) c.in-Some.is (c.in_ok-row.ensures.row told) is,
        ap (λ b. row_if b row) c.is_given-given.ensures,
      );
    }

pub returns-in-None-clause-step : goal.returns-in-None-clause-step
returns-in-None-clause-step g c =
    let file = bytes_of (g.S.Store.seen c.args.store.now c.args.name.now) in
    record {
      done = [];
      adds = adds_same g.S.Store c.args.queue.now c.args.store.now c.next_row.new.store c.next_row.ensures.same;
      step = λ told is. (subst (λ (o : Option PageRow). GivesRow file c.args.run.now c.next_row.new.run o) c.in-None.is (c.in_ok-row.ensures.row told) is, refl);
    }

pub returns-in_err-write_given-in-Some-clause-spent : goal.returns-in_err-write_given-in-Some-clause-spent
returns-in_err-write_given-in-Some-clause-spent g c same is told =
    let out : c.write_given.result ≡ Err r.NumbersSpent = search (same, c.in_err-write_given-in-Some.was, c.from_residual-in_err-write_given-in-Some.ensures, rules) in
    let file = bytes_of (g.S.Store.seen c.args.store.now c.args.name.now) in
    let row = c.in-Some.row in
    spends_row g.S.Store c.args.queue.now file c.args.gives c.args.from c.args.run.now c.next_row.new.run row c.is_given-given.result
    (subst (λ (o : Option PageRow). GivesRow file c.args.run.now c.next_row.new.run o) c.in-Some.is (c.in_ok-row.ensures.row told) is) c.is_given-given.ensures (c.write_given.ensures.spent out) told

pub returns-in_err-write_given-in-Some-clause-beside : goal.returns-in_err-write_given-in-Some-clause-beside
returns-in_err-write_given-in-Some-clause-beside g c =
    let Mine = IsOwn (names_in c.args.queue.now.folder) in
    others_then g.S.Store g.met.S.Store.images_tell Mine c.args.store.now c.next_row.new.store c.write_given.new.store
    (others_looked g.S.Store g.met.S.Store.images_tell Mine c.args.store.now c.next_row.new.store c.next_row.ensures.same) c.write_given.ensures.beside

pub returns-in_ok-write_given-in-Some-clause-beside : goal.returns-in_ok-write_given-in-Some-clause-beside
returns-in_ok-write_given-in-Some-clause-beside g c =
    let Mine = IsOwn (names_in c.args.queue.now.folder) in
    others_then g.S.Store g.met.S.Store.images_tell Mine c.args.store.now c.next_row.new.store c.write_given.new.store
    (others_looked g.S.Store g.met.S.Store.images_tell Mine c.args.store.now c.next_row.new.store c.next_row.ensures.same) c.write_given.ensures.beside
