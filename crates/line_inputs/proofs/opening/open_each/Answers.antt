use Rattle.std.proofs.Common.{rules, ◌∙◌, arith, subst}
use Rattle.io_traits.proofs.Causes.{cause_from, cause_of, no_cause}
use Rattle.io_traits.specs.Reads.{bytes_of}
use Rattle.slot_files.specs.Positions.{recorded_in}
use Rattle.in_file.specs.Openings.{IsDamaged}
use Rattle.line_inputs.proofs.Opened.{all_opened, moments_then, none_yet, one_opened}
use Rattle.line_inputs.proofs.opening.open_each.Goals as goal

pub loop-place-init : goal.loop-place-init
loop-place-init g c = none_yet g.S.Store g.F.Files c.args.folder.now c.args.plan c.args.paths.now c.new-opened.result.items c.new-slots.result c.args.store.now c.args.files.now (search (c.new-opened.ensures, rules)) (search (c.new-slots.ensures, rules))

pub open_one-requires-clause-ready : goal.open_one-requires-clause-ready
open_one-requires-clause-ready g c = c.loop-place.invariant.ready

pub open_one-requires-clause-slots : goal.open_one-requires-clause-slots
open_one-requires-clause-slots g c = c.loop-place.invariant.slots_are

pub returns-in_err-open_one-clause-reads : goal.returns-in_err-open_one-clause-reads
returns-in_err-open_one-clause-reads g c = λ told. c.open_one.ensures.reads told ∙ c.loop-place.invariant.reads told

pub returns-in_err-open_one-clause-any_moment : goal.returns-in_err-open_one-clause-any_moment
returns-in_err-open_one-clause-any_moment g c =
    let l = c.loop-place in
    moments_then g.S.Store g.F.Files c.args.folder.now c.args.plan c.args.paths.now l.place l.opened.items l.slots c.args.store.now l.store c.open_one.new.store c.args.files.now l.files c.open_one.new.files l.invariant
    c.open_one.ensures.reads c.open_one.ensures.any_moment g.met.S.Store.images_tell

pub returns-in_err-open_one-clause-store_cause : goal.returns-in_err-open_one-clause-store_cause
returns-in_err-open_one-clause-store_cause g c =
    cause_of (λ q. search (q, c.in_err-open_one.was, c.from_residual.ensures, rules)) (λ p. search (p, c.in_err-open_one.was, c.from_residual.ensures, rules)) (cause_from c.loop-place.invariant.store_faults c.open_one.ensures.store_cause)

pub returns-in_err-open_one-clause-files_cause : goal.returns-in_err-open_one-clause-files_cause
returns-in_err-open_one-clause-files_cause g c =
    cause_of (λ q. search (q, c.in_err-open_one.was, c.from_residual.ensures, rules)) (λ p. search (p, c.in_err-open_one.was, c.from_residual.ensures, rules)) (cause_from c.loop-place.invariant.files_faults c.open_one.ensures.files_cause)

pub loop-place-preserved : goal.loop-place-preserved
loop-place-preserved g c =
    let l = c.loop-place in
    one_opened g.S.Store g.F.Files c.args.folder.now c.args.plan c.args.paths.now l.place l.opened.items l.slots c.args.store.now l.store c.open_one.new.store c.args.files.now l.files c.open_one.new.files l.invariant
    c.open_one.ensures.reads c.open_one.ensures.any_moment g.met.S.Store.images_tell c.as_str-path.result.now c.open_one.new.opened.items c.open_one.new.slots (omega (arith, c.loop-place-test.true))
    (search (c.as_str-path.ensures, c.index-paths-place.is, rules)) c.in_ok-open_one.ensures.slots c.in_ok-open_one.ensures.paths c.in_ok-open_one.ensures.opened c.in_ok-open_one.ensures.ready
    (c.open_one.ensures.store_cause.same (λ is. search (is, c.in_ok-open_one.was, rules))) (c.open_one.ensures.files_cause.same (λ is. search (is, c.in_ok-open_one.was, rules)))

pub returns-clause-paths : goal.returns-clause-paths
returns-clause-paths g c =
    let l = c.loop-place in
    all_opened g.S.Store g.F.Files c.args.folder.now c.args.plan c.args.paths.now l.place l.opened.items l.slots c.args.store.now l.store c.args.files.now l.files l.invariant (omega (arith, c.loop-place-test.false))

pub returns-clause-open : goal.returns-clause-open
returns-clause-open g c = c.loop-place.invariant.open_are

pub returns-clause-ready : goal.returns-clause-ready
returns-clause-ready g c = c.loop-place.invariant.ready

pub returns-clause-reads : goal.returns-clause-reads
returns-clause-reads g c = c.loop-place.invariant.reads

pub returns-clause-any_moment : goal.returns-clause-any_moment
returns-clause-any_moment g c = c.loop-place.invariant.moments

pub returns-clause-store_cause : goal.returns-clause-store_cause
returns-clause-store_cause g c = no_cause c.loop-place.invariant.store_faults (λ is. cc)

pub returns-clause-files_cause : goal.returns-clause-files_cause
returns-clause-files_cause g c = no_cause c.loop-place.invariant.files_faults (λ is. cc)

pub returns-in_err-open_one-clause-damaged : goal.returns-in_err-open_one-clause-damaged
returns-in_err-open_one-clause-damaged g c = λ damage is told.
    subst (λ seen. IsDamaged damage.file (recorded_in (bytes_of (seen damage.file))) damage) (c.loop-place.invariant.reads told)
    (c.open_one.ensures.damaged damage (search (is, c.in_err-open_one.was, c.from_residual.ensures, rules)) told)
