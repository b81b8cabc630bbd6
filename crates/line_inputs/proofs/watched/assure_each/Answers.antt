use Rattle.std.proofs.Common.{rules, ◌<◌, length, arith}
use Rattle.io_traits.proofs.Causes.{cause_from, no_cause}
use Rattle.line_inputs.specs.Rows.{assured}
use Rattle.line_inputs.proofs.Together.{all_changed, moments_then, no_err, none_yet, on_err, one_assured, part_assured, reads_then, ready_at, same_long}
use Rattle.line_inputs.proofs.watched.assure_each.Goals as goal

pub loop-place-init : goal.loop-place-init
loop-place-init g c = none_yet g.S.Store c.args.front c.args.files.now.items c.args.store.now c.requires

pub assure-requires : goal.assure-requires
assure-requires g c =
    let l = c.loop-place in
    let lt : l.place < length l.files.items = omega (arith, c.loop-place-test.true, c.len-place-end.ensures, c.args.files.now.ok.0, same_long (assured c.args.front) c.args.files.now.items l.files.items l.place l.invariant.changed) in
    ready_at g.S.Store l.files.items l.place c.index_mut.result.now l.store lt c.index_mut.ensures.value l.invariant.ready

pub returns-in_err-assure-clause-err : goal.returns-in_err-assure-clause-err
returns-in_err-assure-clause-err g c =
    let l = c.loop-place in
    let lt : l.place < length l.files.items = omega (arith, c.loop-place-test.true, c.len-place-end.ensures, c.args.files.now.ok.0, same_long (assured c.args.front) c.args.files.now.items l.files.items l.place l.invariant.changed) in
    on_err c.from_residual.result _ (part_assured g.S.Store c.args.front g.met.S.Store.images_tell c.args.files.now.items l.files.items l.place c.args.store.now l.store c.assure.new.store l.invariant c.index_mut.result.now c.assure.new.self lt c.index_mut.ensures.value
    c.assure.ensures.any_moment c.assure.ensures.beside c.in_err-assure.ensures.err)

pub returns-in_err-assure-clause-any_moment : goal.returns-in_err-assure-clause-any_moment
returns-in_err-assure-clause-any_moment g c =
    let l = c.loop-place in
    let lt : l.place < length l.files.items = omega (arith, c.loop-place-test.true, c.len-place-end.ensures, c.args.files.now.ok.0, same_long (assured c.args.front) c.args.files.now.items l.files.items l.place l.invariant.changed) in
    moments_then g.S.Store c.args.front g.met.S.Store.images_tell c.args.files.now.items l.files.items l.place c.args.store.now l.store c.assure.new.store l.invariant c.index_mut.result.now c.assure.new.self lt c.index_mut.ensures.value
    c.assure.ensures.any_moment c.assure.ensures.beside

pub returns-in_err-assure-clause-beside : goal.returns-in_err-assure-clause-beside
returns-in_err-assure-clause-beside g c =
    let l = c.loop-place in
    let lt : l.place < length l.files.items = omega (arith, c.loop-place-test.true, c.len-place-end.ensures, c.args.files.now.ok.0, same_long (assured c.args.front) c.args.files.now.items l.files.items l.place l.invariant.changed) in
    reads_then g.S.Store c.args.front g.met.S.Store.images_tell c.args.files.now.items l.files.items l.place c.args.store.now l.store c.assure.new.store l.invariant c.index_mut.result.now c.assure.new.self lt c.index_mut.ensures.value
    c.assure.ensures.any_moment c.assure.ensures.beside

pub returns-in_err-assure-clause-cause : goal.returns-in_err-assure-clause-cause
returns-in_err-assure-clause-cause g c =
    let cause = cause_from c.loop-place.invariant.faults c.assure.ensures.cause in
    record {
      later = cause.later;
      rose = λ failed. cause.rose (search rules);
      same = λ none. absurd (none (search (c.from_residual.ensures, rules)));
    }

pub loop-place-preserved : goal.loop-place-preserved
loop-place-preserved g c =
    let l = c.loop-place in
    let lt : l.place < length l.files.items = omega (arith, c.loop-place-test.true, c.len-place-end.ensures, c.args.files.now.ok.0, same_long (assured c.args.front) c.args.files.now.items l.files.items l.place l.invariant.changed) in
    one_assured g.S.Store c.args.front g.met.S.Store.images_tell c.args.files.now.items l.files.items l.place c.args.store.now l.store c.assure.new.store l.invariant c.index_mut.result.now c.assure.new.self lt c.index_mut.ensures.value
    c.assure.ensures.any_moment c.assure.ensures.beside c.in_ok-assure.ensures.ok c.in_ok-assure.ensures.ready (c.assure.ensures.cause.same (λ is. no_err c.assure.result c.in_ok-assure.field-0 c.in_ok-assure.was is))

pub returns-clause-ok : goal.returns-clause-ok
returns-clause-ok g c =
    let l = c.loop-place in
    all_changed (assured c.args.front) c.args.files.now.items l.files.items l.place l.invariant.changed
    (omega (arith, c.loop-place-test.false, c.len-place-end.ensures, c.args.files.now.ok.0, same_long (assured c.args.front) c.args.files.now.items l.files.items l.place l.invariant.changed))

pub returns-clause-ready : goal.returns-clause-ready
returns-clause-ready g c = c.loop-place.invariant.ready

pub returns-clause-any_moment : goal.returns-clause-any_moment
returns-clause-any_moment g c = c.loop-place.invariant.moments

pub returns-clause-beside : goal.returns-clause-beside
returns-clause-beside g c = c.loop-place.invariant.reads

pub returns-clause-cause : goal.returns-clause-cause
returns-clause-cause g c = no_cause c.loop-place.invariant.faults (λ is. cc)
