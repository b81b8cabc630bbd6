use Rattle.std.proofs.Common.{◌≡◌, ◌-◌, ℕ, List, sym, ap, ◌∙◌, subst}
use Rattle.queue_core.specs.Batching.{end_of, rows_read}
use Rattle.queue_core.specs.Taking.{KeptIn}
use Rattle.queue_core.specs.Views.{OpenPageView}
use Rattle.queue_core.proofs.KeptReads.{kept_closes, kept_more}
use Rattle.queue_core.proofs.RowReads.{closed_over}
use Rattle.queue_core.proofs.page_rows.BatchReader.add_kept.Goals as goal

pub returns-in_default-clause-kept : goal.returns-in_default-clause-kept
returns-in_default-clause-kept c = λ file kept. let was = c.loop-self.invariant.left file kept in record { long = was.long; are = c.take.ensures.kept c.args.held.now.number c.args.held.now.page.version file was.are }

pub returns-in_err-add-clause-kept : goal.returns-in_err-add-clause-kept
returns-in_err-add-clause-kept c = λ file kept. let was = c.loop-self.invariant.left file kept in record { long = was.long; are = c.take.ensures.kept c.args.held.now.number c.args.held.now.page.version file was.are }

pub returns-then-not-branch-clause-kept : goal.returns-then-not-branch-clause-kept
returns-then-not-branch-clause-kept c = λ file kept. let was = c.loop-self.invariant.left file kept in record { long = was.long; are = c.take.ensures.kept c.args.held.now.number c.args.held.now.page.version file was.are }

pub returns-then-not-branch-clause-rows : goal.returns-then-not-branch-clause-rows
returns-then-not-branch-clause-rows c =
    let p = c.held.inside in
    let q : OpenPageView = record { number = p.number; file = p.file; page = p.page; acknowledged = p.acknowledged; from = p.from; turn = p.turn } in
    let r = c.loop-self.self in
    let next = c.add.new.self in
    let inv = c.loop-self.invariant in
    let end = c.end-end.result in
    let so_far = subst (λ (x : OpenPageView). (file : List ℕ) → KeptIn x file c.args.kept.now → rows_read x.file x.page x.from file (end - c.args.self.now.number) c.args.self.now ≡ rows_read x.file x.page x.from file (end - r.number) r) (sym c.held.view_is) inv.so_far in
    let left = subst (λ (x : OpenPageView). (file : List ℕ) → KeptIn x file c.args.kept.now → KeptIn x file c.loop-self.kept) (sym c.held.view_is) inv.left in
    let over = closed_over c.in_ok-add.field-0 next c.in_ok-add.ensures.closed c.if-not-branch.true in
    subst (λ (x : OpenPageView). (file : List ℕ) → KeptIn x file c.args.kept.now → rows_read x.file x.page x.from file (end_of x.page - c.args.self.now.number) c.args.self.now ≡ rows_read x.file x.page x.from file (end_of x.page - next.number) next) c.held.view_is
    (λ file kept.
    let was = left file kept in
    let ends = c.end-end.ensures ∙ ap (λ (x : OpenPageView). end_of x.page) (sym c.held.view_is) in
    subst (λ n. rows_read q.file q.page q.from file (n - c.args.self.now.number) c.args.self.now ≡ rows_read q.file q.page q.from file (n - next.number) next) ends
    (so_far file kept ∙ kept_closes q file end c.place_in-place.result r next c.in-Some.row c.place_in-place.ensures.place c.loop-self-test.true (sym c.is_over.ensures ∙ c.if-is_over.false) c.in-Some.ensures.number was.long (c.in-Some.ensures.stands q.page.version file was.are) c.in_ok-add.ensures.reading over))

pub loop-self-preserved : goal.loop-self-preserved
loop-self-preserved c =
    let p = c.held.inside in
    let q : OpenPageView = record { number = p.number; file = p.file; page = p.page; acknowledged = p.acknowledged; from = p.from; turn = p.turn } in
    let r = c.loop-self.self in
    let next = c.add.new.self in
    let inv = c.loop-self.invariant in
    let end = c.end-end.result in
    let so_far = subst (λ (x : OpenPageView). (file : List ℕ) → KeptIn x file c.args.kept.now → rows_read x.file x.page x.from file (end - c.args.self.now.number) c.args.self.now ≡ rows_read x.file x.page x.from file (end - r.number) r) (sym c.held.view_is) inv.so_far in
    let left = subst (λ (x : OpenPageView). (file : List ℕ) → KeptIn x file c.args.kept.now → KeptIn x file c.loop-self.kept) (sym c.held.view_is) inv.left in
    record {
      so_far = subst (λ (x : OpenPageView). (file : List ℕ) → KeptIn x file c.args.kept.now → rows_read x.file x.page x.from file (end - c.args.self.now.number) c.args.self.now ≡ rows_read x.file x.page x.from file (end - next.number) next) c.held.view_is
          (λ file kept.
          let was = left file kept in
          so_far file kept ∙ kept_more q file end c.place_in-place.result r next c.in-Some.row c.place_in-place.ensures.place c.loop-self-test.true (sym c.is_over.ensures ∙ c.if-is_over.false) c.in-Some.ensures.number was.long (c.in-Some.ensures.stands q.page.version file was.are) c.in_ok-add.ensures.reading (c.in_ok-add.ensures.more c.if-not-branch.false));
      left = λ file kept. let was = c.loop-self.invariant.left file kept in record { long = was.long; are = c.take.ensures.kept c.args.held.now.number c.args.held.now.page.version file was.are };
    }
