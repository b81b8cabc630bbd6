use Rattle.std.proofs.Common.{◌≡◌, ◌∙◌, sym, ap, subst}
use Rattle.io_traits.specs.Folders.{Content}
use Rattle.io_traits.specs.Reads.{file_length}
use Rattle.slot_files.proofs.LookedRuns.{length_told}
use Rattle.dead_letters.specs.Trimming.{IsFirst, StaysHeld}
use Rattle.dead_letters.proofs.OpeningRun.{untouched, then_looked, rests_still}
use Rattle.dead_letters.proofs.FirstVersion.{was_opened, has_opened, opening, opened_rests, is_first}
use Rattle.dead_letters.proofs.opening.first_length.Goals as goal

pub returns-in_err-name-clause-any_moment : goal.returns-in_err-name-clause-any_moment
returns-in_err-name-clause-any_moment g c = untouched g.S.Store g.met.S.Store.images_tell c.args.folder.now c.args.store.now c.requires.rests

pub returns-in_err-position-clause-any_moment : goal.returns-in_err-position-clause-any_moment
returns-in_err-position-clause-any_moment g c = untouched g.S.Store g.met.S.Store.images_tell c.args.folder.now c.args.store.now c.requires.rests

pub returns-in_err-_file-clause-any_moment : goal.returns-in_err-_file-clause-any_moment
returns-in_err-_file-clause-any_moment g c =
    let was = was_opened g.S.Store c.args.folder.now c.args.store.now c.open_on.new.store c.as_str.result.now c.as_str-2.result.now (c.as_str.ensures ∙ c.in_ok-name.ensures) (c.as_str-2.ensures ∙ c.in_ok-position.ensures)
    (record { moments = c.open_on.ensures.any_moment; beside = c.open_on.ensures.beside }) in
    opening c.args.folder.now g.S.Store g.met.S.Store.images_tell c.args.store.now c.requires.rests c.requires.nothing c.open_on.new.store was

pub returns-in_err-length-clause-any_moment : goal.returns-in_err-length-clause-any_moment
returns-in_err-length-clause-any_moment g c =
    let was = was_opened g.S.Store c.args.folder.now c.args.store.now c.open_on.new.store c.as_str.result.now c.as_str-2.result.now (c.as_str.ensures ∙ c.in_ok-name.ensures) (c.as_str-2.ensures ∙ c.in_ok-position.ensures)
    (record { moments = c.open_on.ensures.any_moment; beside = c.open_on.ensures.beside }) in
    let run = opening c.args.folder.now g.S.Store g.met.S.Store.images_tell c.args.store.now c.requires.rests c.requires.nothing c.open_on.new.store was in
    then_looked g.S.Store g.met.S.Store.images_tell c.args.folder.now c.args.store.now c.open_on.new.store c.length.new.self (StaysHeld g.S.Store c.args.folder.now c.args.store.now) run c.length.ensures.same

pub returns-clause-any_moment : goal.returns-clause-any_moment
returns-clause-any_moment g c =
    let was = was_opened g.S.Store c.args.folder.now c.args.store.now c.open_on.new.store c.as_str.result.now c.as_str-2.result.now (c.as_str.ensures ∙ c.in_ok-name.ensures) (c.as_str-2.ensures ∙ c.in_ok-position.ensures)
    (record { moments = c.open_on.ensures.any_moment; beside = c.open_on.ensures.beside }) in
    let run = opening c.args.folder.now g.S.Store g.met.S.Store.images_tell c.args.store.now c.requires.rests c.requires.nothing c.open_on.new.store was in
    then_looked g.S.Store g.met.S.Store.images_tell c.args.folder.now c.args.store.now c.open_on.new.store c.length.new.self (StaysHeld g.S.Store c.args.folder.now c.args.store.now) run c.length.ensures.same

pub returns-in_err-length-clause-beside : goal.returns-in_err-length-clause-beside
returns-in_err-length-clause-beside g c = λ told name other.
    let was = was_opened g.S.Store c.args.folder.now c.args.store.now c.open_on.new.store c.as_str.result.now c.as_str-2.result.now (c.as_str.ensures ∙ c.in_ok-name.ensures) (c.as_str-2.ensures ∙ c.in_ok-position.ensures)
    (record { moments = c.open_on.ensures.any_moment; beside = c.open_on.ensures.beside }) in
    ap (λ (s : Content). s name) (c.length.ensures.same.reads told) ∙ was.beside told name other

pub returns-clause-beside : goal.returns-clause-beside
returns-clause-beside g c = λ told name other.
    let was = was_opened g.S.Store c.args.folder.now c.args.store.now c.open_on.new.store c.as_str.result.now c.as_str-2.result.now (c.as_str.ensures ∙ c.in_ok-name.ensures) (c.as_str-2.ensures ∙ c.in_ok-position.ensures)
    (record { moments = c.open_on.ensures.any_moment; beside = c.open_on.ensures.beside }) in
    ap (λ (s : Content). s name) (c.length.ensures.same.reads told) ∙ was.beside told name other

pub returns-clause-first : goal.returns-clause-first
returns-clause-first g c = λ told.
    let mid = c.open_on.new.store in
    let was = was_opened g.S.Store c.args.folder.now c.args.store.now mid c.as_str.result.now c.as_str-2.result.now (c.as_str.ensures ∙ c.in_ok-name.ensures) (c.as_str-2.ensures ∙ c.in_ok-position.ensures)
    (record { moments = c.open_on.ensures.any_moment; beside = c.open_on.ensures.beside }) in
    let h = c.in_ok-_file.ensures in
    let has = has_opened g.S.Store c.args.folder.now c.args.store.now mid c.as_str.result.now c.as_str-2.result.now (c.as_str.ensures ∙ c.in_ok-name.ensures) (c.as_str-2.ensures ∙ c.in_ok-position.ensures) c.in_ok-_file._file
    (record { names = h.names; ready = h.ready; content = h.content; counted = h.counted }) in
    let long = length_told (g.S.Store.seen mid c.as_str-3.result.now) c.in_ok-length.field-0 c.unwrap_or-length.result (c.in_ok-length.ensures.length told) c.unwrap_or-length.ensures in
    subst (IsFirst c.args.folder.now c.unwrap_or-length.result (g.S.Store.seen c.args.store.now)) (sym (c.length.ensures.same.reads told))
    (is_first c.args.folder.now g.S.Store g.met.S.Store.images_tell c.args.store.now c.requires.rests c.requires.nothing mid was c.in_ok-_file._file has c.unwrap_or-length.result told
    (subst (λ n. c.unwrap_or-length.result ≡ file_length (g.S.Store.seen mid n)) (c.as_str-3.ensures ∙ c.in_ok-name.ensures) long))

pub returns-clause-settled : goal.returns-clause-settled
returns-clause-settled g c =
    let mid = c.open_on.new.store in
    let was = was_opened g.S.Store c.args.folder.now c.args.store.now mid c.as_str.result.now c.as_str-2.result.now (c.as_str.ensures ∙ c.in_ok-name.ensures) (c.as_str-2.ensures ∙ c.in_ok-position.ensures)
    (record { moments = c.open_on.ensures.any_moment; beside = c.open_on.ensures.beside }) in
    let h = c.in_ok-_file.ensures in
    let has = has_opened g.S.Store c.args.folder.now c.args.store.now mid c.as_str.result.now c.as_str-2.result.now (c.as_str.ensures ∙ c.in_ok-name.ensures) (c.as_str-2.ensures ∙ c.in_ok-position.ensures) c.in_ok-_file._file
    (record { names = h.names; ready = h.ready; content = h.content; counted = h.counted }) in
    rests_still g.S.Store g.met.S.Store.images_tell c.args.folder.now mid c.length.new.self (opened_rests c.args.folder.now g.S.Store g.met.S.Store.images_tell c.args.store.now c.requires.rests c.requires.nothing mid was c.in_ok-_file._file has) c.length.ensures.same
