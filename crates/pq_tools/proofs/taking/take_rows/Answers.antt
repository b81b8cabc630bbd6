use Rattle.std.proofs.Common.{rules, ◌≡◌, [], ◌++◌, Bool, Err, List, ℕ, refl, ◌∙◌, subst, arith}
use Rattle.io_traits.specs.Reads.{bytes_of}
use Rattle.io_traits.proofs.Looking.{nothing_yet}
use Rattle.queue_files.specs.Folders.{IsOwn, names_in}
use Rattle.queue_files.specs.Others.{KeepsOthers}
use Rattle.queue_files.proofs.OtherFiles.{others_looked, others_then}
use Rattle.pq_tools.specs.PageRuns.{IsRun, rows_left}
use Rattle.pq_tools.specs.Repairs.{Spends, Stepped, given}
use Rattle.pq_tools.specs.declared.fault.RepairFault.TheVariants as r
use Rattle.pq_tools.proofs.Takings.{adds_by, adds_same, adds_then, all_counted, all_written, at_last, none_behind, same_file, so_far_first, so_far_taken, spends_by, spends_then}
use Rattle.pq_tools.proofs.taking.take_rows.Goals as goal

pub loop-init : goal.loop-init
loop-init g c = record {
  ready = c.requires.ready;
  folder = refl;
  beside = others_looked g.S.Store g.met.S.Store.images_tell (IsOwn (names_in c.args.queue.now.folder)) c.args.store.now c.args.store.now (nothing_yet g.S.Store c.args.store.now);
  faults = refl;
  few = omega arith;
  done = [];
  adds = adds_same g.S.Store c.args.queue.now c.args.store.now c.args.store.now (nothing_yet g.S.Store c.args.store.now);
  so_far = λ told is. so_far_first (bytes_of (g.S.Store.seen c.args.store.now c.args.name.now)) c.args.gives c.args.from c.args.first is;
}

pub loop-preserved : goal.loop-preserved
loop-preserved g c =
    let i = c.loop.invariant in
    let name = c.args.name.now in
    let Mine = IsOwn (names_in c.args.queue.now.folder) in
    let s = c.in_ok-more.ensures.step in
    record {
      ready = c.in_ok-more.ensures.ready;
      folder = c.take_row.ensures.folder ∙ i.folder;
      beside = others_then g.S.Store g.met.S.Store.images_tell Mine c.args.store.now c.loop.store c.take_row.new.store i.beside
          (subst (λ (n : List ℕ). KeepsOthers g.S.Store (IsOwn (names_in n)) c.loop.store c.take_row.new.store) i.folder c.take_row.ensures.beside);
      faults = c.in_ok-more.ensures.cause.same (λ f. absurd cc) ∙ i.faults;
      few = omega (arith, i.few);
      done = i.done ++ s.done;
      adds = adds_then g.S.Store i.done s.done c.args.queue.now c.loop.queue c.take_row.new.queue c.args.store.now c.loop.store c.take_row.new.store i.adds s.adds;
      so_far = λ told is.
          let file = bytes_of (g.S.Store.seen c.args.store.now name) in
          let sf = i.so_far told is in
          let here = same_file g.S.Store Mine name c.args.store.now c.loop.store c.requires.apart i.beside told in
          let step = subst (λ (f : List ℕ). IsRun f c.loop.run → Stepped f c.args.gives c.args.from c.loop.run c.take_row.new.run s.done c.in_ok-more.more) here (s.step told) sf.is in
          so_far_taken file c.args.gives c.args.from c.args.first c.loop.run c.take_row.new.run c.loop.count c.loop.counter i.done s.done sf
          (subst (λ (b : Bool). Stepped file c.args.gives c.args.from c.loop.run c.take_row.new.run s.done b) c.if-more.true step);
    }

pub returns-else-more-clause-adds : goal.returns-else-more-clause-adds
returns-else-more-clause-adds g c is =
    let i = c.loop.invariant in
    let name = c.args.name.now in
    let file = bytes_of (g.S.Store.seen c.args.store.now name) in
    let Mine = IsOwn (names_in c.args.queue.now.folder) in
    let s = c.in_ok-more.ensures.step in
    adds_by g.S.Store (i.done ++ s.done) (given c.args.gives c.args.from (rows_left file c.args.first)) c.args.queue.now c.take_row.new.queue c.args.store.now c.take_row.new.store
    (λ told.
    let sf = i.so_far told is in
    let here = same_file g.S.Store Mine name c.args.store.now c.loop.store c.requires.apart i.beside told in
    let step = subst (λ (f : List ℕ). IsRun f c.loop.run → Stepped f c.args.gives c.args.from c.loop.run c.take_row.new.run s.done c.in_ok-more.more) here (s.step told) sf.is in
    none_behind file c.args.gives c.args.from c.args.first c.loop.run c.take_row.new.run c.loop.count c.loop.counter i.done s.done sf
    (subst (λ (b : Bool). Stepped file c.args.gives c.args.from c.loop.run c.take_row.new.run s.done b) c.if-more.false step))
    (adds_then g.S.Store i.done s.done c.args.queue.now c.loop.queue c.take_row.new.queue c.args.store.now c.loop.store c.take_row.new.store i.adds s.adds)

pub returns-else-more-clause-count : goal.returns-else-more-clause-count
returns-else-more-clause-count g c told is =
    let i = c.loop.invariant in
    let name = c.args.name.now in
    let file = bytes_of (g.S.Store.seen c.args.store.now name) in
    let Mine = IsOwn (names_in c.args.queue.now.folder) in
    let s = c.in_ok-more.ensures.step in
    let sf = i.so_far told is in
    let here = same_file g.S.Store Mine name c.args.store.now c.loop.store c.requires.apart i.beside told in
    let step = subst (λ (f : List ℕ). IsRun f c.loop.run → Stepped f c.args.gives c.args.from c.loop.run c.take_row.new.run s.done c.in_ok-more.more) here (s.step told) sf.is in
    all_counted file c.args.gives c.args.from c.args.first c.loop.run c.loop.count c.loop.counter i.done sf
    (subst (λ (b : Bool). Stepped file c.args.gives c.args.from c.loop.run c.take_row.new.run s.done b) c.if-more.false step).0

pub returns-else-more-clause-folder : goal.returns-else-more-clause-folder
returns-else-more-clause-folder g c = c.take_row.ensures.folder ∙ c.loop.invariant.folder

pub returns-in_err-more-clause-folder : goal.returns-in_err-more-clause-folder
returns-in_err-more-clause-folder g c = c.take_row.ensures.folder ∙ c.loop.invariant.folder

pub returns-else-more-clause-beside : goal.returns-else-more-clause-beside
returns-else-more-clause-beside g c =
    others_then g.S.Store g.met.S.Store.images_tell (IsOwn (names_in c.args.queue.now.folder)) c.args.store.now c.loop.store c.take_row.new.store c.loop.invariant.beside
    (subst (λ (n : List ℕ). KeepsOthers g.S.Store (IsOwn (names_in n)) c.loop.store c.take_row.new.store) c.loop.invariant.folder c.take_row.ensures.beside)

pub returns-in_err-more-clause-beside : goal.returns-in_err-more-clause-beside
returns-in_err-more-clause-beside g c =
    others_then g.S.Store g.met.S.Store.images_tell (IsOwn (names_in c.args.queue.now.folder)) c.args.store.now c.loop.store c.take_row.new.store c.loop.invariant.beside
    (subst (λ (n : List ℕ). KeepsOthers g.S.Store (IsOwn (names_in n)) c.loop.store c.take_row.new.store) c.loop.invariant.folder c.take_row.ensures.beside)

pub returns-clause-adds : goal.returns-clause-adds
returns-clause-adds g c is =
    let i = c.loop.invariant in
    let file = bytes_of (g.S.Store.seen c.args.store.now c.args.name.now) in
    adds_by g.S.Store i.done (given c.args.gives c.args.from (rows_left file c.args.first)) c.args.queue.now c.loop.queue c.args.store.now c.loop.store
    (λ told.
    let sf = i.so_far told is in
    all_written file c.args.gives c.args.from c.args.first c.loop.run c.loop.count c.loop.counter i.done sf
    (at_last file c.args.gives c.args.from c.args.first c.loop.run c.loop.count c.loop.counter i.done sf (omega (arith, c.loop-test.false))))
    i.adds

pub returns-clause-count : goal.returns-clause-count
returns-clause-count g c told is =
    let i = c.loop.invariant in
    let file = bytes_of (g.S.Store.seen c.args.store.now c.args.name.now) in
    let sf = i.so_far told is in
    all_counted file c.args.gives c.args.from c.args.first c.loop.run c.loop.count c.loop.counter i.done sf
    (at_last file c.args.gives c.args.from c.args.first c.loop.run c.loop.count c.loop.counter i.done sf (omega (arith, c.loop-test.false)))

pub returns-in_err-more-clause-spent : goal.returns-in_err-more-clause-spent
returns-in_err-more-clause-spent g c same is told =
    let out_is : c.take_row.result ≡ Err r.NumbersSpent = search (same, c.in_err-more.was, c.from_residual.ensures, rules) in
    let i = c.loop.invariant in
    let name = c.args.name.now in
    let file = bytes_of (g.S.Store.seen c.args.store.now name) in
    let v = c.args.queue.now in
    let sf = i.so_far told is in
    let here = same_file g.S.Store (IsOwn (names_in v.folder)) name c.args.store.now c.loop.store c.requires.apart i.beside told in
    let rest = given c.args.gives c.args.from (rows_left file c.loop.run) in
    let out = subst (λ (f : List ℕ). IsRun f c.loop.run → Spends g.S.Store (given c.args.gives c.args.from (rows_left f c.loop.run)) c.loop.queue) here (c.take_row.ensures.spent out_is) sf.is in
    spends_by g.S.Store (i.done ++ rest) (given c.args.gives c.args.from (rows_left file c.args.first)) v (λ t. sf.rows) (spends_then g.S.Store i.done rest v c.loop.queue c.args.store.now c.loop.store i.adds out) told
