use Rattle.std.proofs.Common.{◌≡◌, IsTrue, Err, sym, ap, subst, ◌∙◌, rules}
use Rattle.io_traits.specs.Folders.{Content}
use Rattle.io_traits.specs.Reads.{bytes_of}
use Rattle.io_traits.specs.declared.queue_faults.QueueFault.TheVariants as f
use Rattle.dead_letters.specs.Segments.{counted_in}
use Rattle.dead_letter_reader.specs.Names.{place_file}
use Rattle.dead_letter_reader.specs.Opening.{IsDamaged}
use Rattle.dead_letter_reader.specs.Places.{Passes, Rise}
use Rattle.dead_letter_reader.specs.Ready.{Says}
use Rattle.dead_letter_reader.specs.declared.opening.OpenedReader.{OpenedReader}
use Rattle.dead_letter_reader.proofs.Passing.{behind_rise, letters_rise, passes_none}
use Rattle.dead_letter_reader.proofs.Opened.{not_begun, opening_leaves, place_damaged, still_says}
use Rattle.dead_letter_reader.proofs.opening.open_folder.Goals as goal

pub returns-in_err-file-clause-any_moment : goal.returns-in_err-file-clause-any_moment
returns-in_err-file-clause-any_moment g c = not_begun g.S.Store c.args.folder.now c.args.store.now

pub returns-in_err-address-clause-any_moment : goal.returns-in_err-address-clause-any_moment
returns-in_err-address-clause-any_moment g c = not_begun g.S.Store c.args.folder.now c.args.store.now

pub returns-in_err-all-in-Ok-clause-damaged : goal.returns-in_err-all-in-Ok-clause-damaged
returns-in_err-all-in-Ok-clause-damaged g c = λ damage is told.
    let lost : c.open_letters.result ≡ Err (f.Damaged damage) = search (is, c.in_err-all-in-Ok.was, c.from_residual-in_err-all-in-Ok.ensures, rules) in
    subst (λ (k : Content). IsDamaged c.args.folder.now k damage) (c.settle_and_read.ensures.reads told) (c.open_letters.ensures.damaged damage lost told)

pub returns-in_err-all-in-Ok-clause-any_moment : goal.returns-in_err-all-in-Ok-clause-any_moment
returns-in_err-all-in-Ok-clause-any_moment g c =
    opening_leaves g.S.Store g.met.S.Store.images_tell c.args.folder.now c.args.store.now c.settle_and_read.new.store c.settle_and_read.ensures.reads c.settle_and_read.ensures.any_moment c.open_letters.new.store c.open_letters.ensures.any_moment
    c.open_letters.ensures.beside

pub returns-in_err-rows-in-Ok-clause-any_moment : goal.returns-in_err-rows-in-Ok-clause-any_moment
returns-in_err-rows-in-Ok-clause-any_moment g c =
    opening_leaves g.S.Store g.met.S.Store.images_tell c.args.folder.now c.args.store.now c.settle_and_read.new.store c.settle_and_read.ensures.reads c.settle_and_read.ensures.any_moment c.open_letters.new.store c.open_letters.ensures.any_moment
    c.open_letters.ensures.beside

pub returns-in_ok-rows-in-Ok-clause-any_moment : goal.returns-in_ok-rows-in-Ok-clause-any_moment
returns-in_ok-rows-in-Ok-clause-any_moment g c =
    opening_leaves g.S.Store g.met.S.Store.images_tell c.args.folder.now c.args.store.now c.settle_and_read.new.store c.settle_and_read.ensures.reads c.settle_and_read.ensures.any_moment c.open_letters.new.store c.open_letters.ensures.any_moment
    c.open_letters.ensures.beside

pub returns-in_ok-rows-in-Ok-clause-rise : goal.returns-in_ok-rows-in-Ok-clause-rise
returns-in_ok-rows-in-Ok-clause-rise g c = λ told.
    let all = c.in_ok-all-in-Ok.all in
    let a = c.in_ok-all-in-Ok.ensures.all told in
    subst Rise (sym c.in_ok-rows-in-Ok.ensures) (behind_rise c.in-Ok.place all (letters_rise c.args.folder.now a.held all a.are))

pub returns-in_ok-rows-in-Ok-clause-passes : goal.returns-in_ok-rows-in-Ok-clause-passes
returns-in_ok-rows-in-Ok-clause-passes g c = λ told.
    subst (λ rows. Passes rows 0 c.in_ok-recorded.recorded) (sym c.in_ok-rows-in-Ok.ensures) (passes_none c.in_ok-recorded.recorded c.in-Ok.place c.in_ok-all-in-Ok.all (sym c.in-Ok.ensures))

pub returns-in_ok-rows-in-Ok-clause-file : goal.returns-in_ok-rows-in-Ok-clause-file
returns-in_ok-rows-in-Ok-clause-file g c =
    let recorded = c.in_ok-recorded.recorded in
    let named = c.as_str.ensures ∙ c.in_ok-file.ensures in
    let is : IsTrue g.S.Store.tells → recorded ≡ counted_in (bytes_of (g.S.Store.seen c.args.store.now (place_file c.args.folder.now)))
    = λ told. c.in_ok-recorded.ensures.counted told ∙ ap (λ n. counted_in (bytes_of (g.S.Store.seen c.args.store.now n))) named in
    subst (λ n. Says g.S.Store n recorded c.open_letters.new.store) (sym c.in_ok-file.ensures)
    (still_says g.S.Store g.met.S.Store.images_tell c.args.folder.now c.args.store.now c.settle_and_read.new.store c.settle_and_read.ensures.reads c.settle_and_read.ensures.any_moment c.open_letters.new.store c.open_letters.ensures.any_moment
    c.open_letters.ensures.beside c.requires c.in_ok-recorded.ensures.settled recorded is)

pub returns-in-Err-clause-damaged : goal.returns-in-Err-clause-damaged
returns-in-Err-clause-damaged g c = λ damage is told.
    let recorded = c.in_ok-recorded.recorded in
    let named = c.as_str.ensures ∙ c.in_ok-file.ensures in
    let says : recorded ≡ counted_in (bytes_of (g.S.Store.seen c.args.store.now (place_file c.args.folder.now)))
    = c.in_ok-recorded.ensures.counted told ∙ ap (λ n. counted_in (bytes_of (g.S.Store.seen c.args.store.now n))) named in
    place_damaged OpenedReader c.args.folder.now c.in_ok-file.file (g.S.Store.seen c.args.store.now) recorded (c.in-Err.found, c.in-Err.expected) c.damaged.result damage c.in_ok-file.ensures says (sym c.in-Err.ensures) c.damaged.ensures is
