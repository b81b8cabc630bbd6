use Rattle.std.proofs.Common.{sym, ap, ◌∙◌}
use Rattle.line_outputs.proofs.Finding.{none_without}
use Rattle.line_outputs.specs.OpenFiles.{file_of}
use Rattle.line_outputs.proofs.Keeping.{its_ready, others_ready}
use Rattle.line_outputs.proofs.Opening.{counts, not_begun, whole}
use Rattle.line_outputs.proofs.files.found.Goals as goal

pub returns-in_err-file-clause-files : goal.returns-in_err-file-clause-files
returns-in_err-file-clause-files g c = c.in_err-file.ensures.same ∙ sym (none_without c.args.path.now c.args.files.now.items c.in_err-file.ensures.none)

pub returns-in_err-file-clause-any_moment : goal.returns-in_err-file-clause-any_moment
returns-in_err-file-clause-any_moment g c = not_begun g.S.Store g.met.S.Store.images_tell c.args.folder.now c.args.path.now c.args.store.now

pub returns-in-Some-clause-path : goal.returns-in-Some-clause-path
returns-in-Some-clause-path g c = (its_ready g.S.Store c.args.folder.now c.args.store.now c.args.path.now c.args.files.now.items c.in-Some.file c.requires.ready (sym c.in_ok-file.ensures.file ∙ c.in-Some.is)).1

pub returns-in-Some-clause-file : goal.returns-in-Some-clause-file
returns-in-Some-clause-file g c = (its_ready g.S.Store c.args.folder.now c.args.store.now c.args.path.now c.args.files.now.items c.in-Some.file c.requires.ready (sym c.in_ok-file.ensures.file ∙ c.in-Some.is)).0

pub returns-in-Some-clause-counted : goal.returns-in-Some-clause-counted
returns-in-Some-clause-counted g c = λ told.
    let its = its_ready g.S.Store c.args.folder.now c.args.store.now c.args.path.now c.args.files.now.items c.in-Some.file c.requires.ready (sym c.in_ok-file.ensures.file ∙ c.in-Some.is) in
    counts g.S.Store g.met.S.Store.images_tell c.args.folder.now c.args.path.now c.args.store.now c.in-Some.file its.0 its.1 told

pub returns-in-Some-clause-content : goal.returns-in-Some-clause-content
returns-in-Some-clause-content g c = λ told.
    let its = its_ready g.S.Store c.args.folder.now c.args.store.now c.args.path.now c.args.files.now.items c.in-Some.file c.requires.ready (sym c.in_ok-file.ensures.file ∙ c.in-Some.is) in
    whole g.S.Store g.met.S.Store.images_tell c.args.folder.now c.args.path.now c.args.store.now c.in-Some.file its.0 its.1 told

pub returns-in-Some-clause-any_moment : goal.returns-in-Some-clause-any_moment
returns-in-Some-clause-any_moment g c = not_begun g.S.Store g.met.S.Store.images_tell c.args.folder.now c.args.path.now c.args.store.now

pub returns-in_err-file-clause-gone : goal.returns-in_err-file-clause-gone
returns-in_err-file-clause-gone g c = ap (file_of c.args.path.now) c.in_err-file.ensures.same ∙ c.in_err-file.ensures.none

pub returns-in-Some-clause-gone : goal.returns-in-Some-clause-gone
returns-in-Some-clause-gone g c =
    ap (file_of c.args.path.now) c.in_ok-file.ensures.rest ∙ (others_ready g.S.Store c.args.folder.now c.args.store.now c.args.path.now c.args.files.now.items c.requires.ready).1

pub returns-in-None-clause-gone : goal.returns-in-None-clause-gone
returns-in-None-clause-gone g c =
    ap (file_of c.args.path.now) c.in_ok-file.ensures.rest ∙ (others_ready g.S.Store c.args.folder.now c.args.store.now c.args.path.now c.args.files.now.items c.requires.ready).1
