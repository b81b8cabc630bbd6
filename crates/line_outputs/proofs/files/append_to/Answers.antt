use Rattle.std.proofs.Common.{◌≡◌, None, [], ◌∷◌, ◌++◌, List, sym, ap, subst, ◌∙◌, arith}
use Rattle.slot_files.proofs.Staying.{has_room}
use Rattle.slot_files.specs.Views.{Output}
use Rattle.line_outputs.specs.OpenFiles.{EachReady, SameOthers, file_of, without}
use Rattle.line_outputs.proofs.Keeping.{same_with, same_without}
use Rattle.line_outputs.proofs.Delivering.{and_one, is_delivered, opening_leaves, rest_stays, run_leaves, run_reads, still_ready}
use Rattle.line_outputs.proofs.files.append_to.Goals as goal

pub append_batch-requires : goal.append_batch-requires
append_batch-requires g c = λ told. has_room g.S.Store c.in_ok-file.file c.found.new.store c.in_ok-file.ensures.file.ready told

pub returns-in_err-file-clause-ready : goal.returns-in_err-file-clause-ready
returns-in_err-file-clause-ready g c =
    let run = opening_leaves g.S.Store c.args.folder.now c.args.path.now c.args.bytes.now c.args.store.now g.met.S.Store.images_tell c.found.new.store c.found.ensures.any_moment in
    subst (λ fs. EachReady g.S.Store c.args.folder.now fs c.found.new.store) (sym {A = List Output} c.found.ensures.files)
    (rest_stays g.S.Store c.args.folder.now c.args.path.now c.args.bytes.now c.args.store.now g.met.S.Store.images_tell c.requires.outside (λ i. omega (arith, c.type_inv.path i)) c.found.new.store run c.found.ensures.beside c.args.files.now.items c.requires.ready)

pub returns-in_err-file-clause-any_moment : goal.returns-in_err-file-clause-any_moment
returns-in_err-file-clause-any_moment g c = opening_leaves g.S.Store c.args.folder.now c.args.path.now c.args.bytes.now c.args.store.now g.met.S.Store.images_tell c.found.new.store c.found.ensures.any_moment

pub returns-in_err-append_batch-clause-any_moment : goal.returns-in_err-append_batch-clause-any_moment
returns-in_err-append_batch-clause-any_moment g c =
    let e = c.in_ok-file.ensures in
    run_leaves g.S.Store c.args.folder.now c.args.path.now c.args.bytes.now c.args.store.now g.met.S.Store.images_tell c.found.new.store c.in_ok-file.file e.file e.path c.found.ensures.any_moment c.found.ensures.beside e.counted e.content
    c.append_batch.new.store (c.append_batch.ensures.any_moment e.file.ready) c.append_batch.ensures.beside

pub returns-in_err-append_batch-clause-beside : goal.returns-in_err-append_batch-clause-beside
returns-in_err-append_batch-clause-beside g c =
    let e = c.in_ok-file.ensures in
    run_reads g.S.Store c.args.folder.now c.args.path.now c.args.bytes.now c.args.store.now g.met.S.Store.images_tell c.found.new.store c.in_ok-file.file e.file e.path c.found.ensures.any_moment c.found.ensures.beside e.counted e.content
    c.append_batch.new.store (c.append_batch.ensures.any_moment e.file.ready) c.append_batch.ensures.beside

pub returns-in_err-append_batch-clause-ready : goal.returns-in_err-append_batch-clause-ready
returns-in_err-append_batch-clause-ready g c =
    let e = c.in_ok-file.ensures in
    let run = run_leaves g.S.Store c.args.folder.now c.args.path.now c.args.bytes.now c.args.store.now g.met.S.Store.images_tell c.found.new.store c.in_ok-file.file e.file e.path c.found.ensures.any_moment c.found.ensures.beside e.counted e.content
    c.append_batch.new.store (c.append_batch.ensures.any_moment e.file.ready) c.append_batch.ensures.beside in
    let reads = run_reads g.S.Store c.args.folder.now c.args.path.now c.args.bytes.now c.args.store.now g.met.S.Store.images_tell c.found.new.store c.in_ok-file.file e.file e.path c.found.ensures.any_moment c.found.ensures.beside e.counted e.content
    c.append_batch.new.store (c.append_batch.ensures.any_moment e.file.ready) c.append_batch.ensures.beside in
    subst (λ fs. EachReady g.S.Store c.args.folder.now fs c.append_batch.new.store) (sym {A = List Output} c.found.ensures.files)
    (rest_stays g.S.Store c.args.folder.now c.args.path.now c.args.bytes.now c.args.store.now g.met.S.Store.images_tell c.requires.outside (λ i. omega (arith, c.type_inv.path i)) c.append_batch.new.store run reads c.args.files.now.items c.requires.ready)

pub returns-clause-any_moment : goal.returns-clause-any_moment
returns-clause-any_moment g c =
    let e = c.in_ok-file.ensures in
    run_leaves g.S.Store c.args.folder.now c.args.path.now c.args.bytes.now c.args.store.now g.met.S.Store.images_tell c.found.new.store c.in_ok-file.file e.file e.path c.found.ensures.any_moment c.found.ensures.beside e.counted e.content
    c.append_batch.new.store (c.append_batch.ensures.any_moment e.file.ready) c.append_batch.ensures.beside

pub returns-clause-beside : goal.returns-clause-beside
returns-clause-beside g c =
    let e = c.in_ok-file.ensures in
    run_reads g.S.Store c.args.folder.now c.args.path.now c.args.bytes.now c.args.store.now g.met.S.Store.images_tell c.found.new.store c.in_ok-file.file e.file e.path c.found.ensures.any_moment c.found.ensures.beside e.counted e.content
    c.append_batch.new.store (c.append_batch.ensures.any_moment e.file.ready) c.append_batch.ensures.beside

pub returns-clause-ready : goal.returns-clause-ready
returns-clause-ready g c =
    let e = c.in_ok-file.ensures in
    let run = run_leaves g.S.Store c.args.folder.now c.args.path.now c.args.bytes.now c.args.store.now g.met.S.Store.images_tell c.found.new.store c.in_ok-file.file e.file e.path c.found.ensures.any_moment c.found.ensures.beside e.counted e.content
    c.append_batch.new.store (c.append_batch.ensures.any_moment e.file.ready) c.append_batch.ensures.beside in
    let reads = run_reads g.S.Store c.args.folder.now c.args.path.now c.args.bytes.now c.args.store.now g.met.S.Store.images_tell c.found.new.store c.in_ok-file.file e.file e.path c.found.ensures.any_moment c.found.ensures.beside e.counted e.content
    c.append_batch.new.store (c.append_batch.ensures.any_moment e.file.ready) c.append_batch.ensures.beside in
    let appended = c.in_ok-append_batch.ensures.appended e.file.ready in
    let still = still_ready g.S.Store c.args.folder.now c.args.path.now c.args.bytes.now c.args.store.now g.met.S.Store.images_tell c.found.new.store c.in_ok-file.file e.file e.path c.found.ensures.any_moment c.found.ensures.beside e.counted e.content
    c.append_batch.new.store (c.append_batch.ensures.any_moment e.file.ready) c.append_batch.ensures.beside c.append_batch.new.self c.append_batch.ensures.names.0 c.append_batch.ensures.names.1 appended in
    subst (λ fs. EachReady g.S.Store c.args.folder.now fs c.append_batch.new.store) (sym {A = List Output} (c.push_reserved.ensures.items ∙ ap (λ fs. fs ++ c.append_batch.new.self ∷ []) c.found.ensures.files))
    (and_one g.S.Store c.args.folder.now c.args.path.now c.args.bytes.now c.args.store.now g.met.S.Store.images_tell c.requires.outside (λ i. omega (arith, c.type_inv.path i)) c.append_batch.new.store run reads c.args.files.now.items c.requires.ready
    c.append_batch.new.self still (c.append_batch.ensures.names.0 ∙ e.path))

pub returns-clause-delivered : goal.returns-clause-delivered
returns-clause-delivered g c =
    let e = c.in_ok-file.ensures in
    let appended = c.in_ok-append_batch.ensures.appended e.file.ready in
    is_delivered g.S.Store c.args.folder.now c.args.path.now c.args.bytes.now c.args.store.now g.met.S.Store.images_tell c.found.new.store c.in_ok-file.file e.file e.path c.found.ensures.any_moment c.found.ensures.beside e.counted e.content
    c.append_batch.new.store (c.append_batch.ensures.any_moment e.file.ready) c.append_batch.ensures.beside c.append_batch.new.self c.append_batch.ensures.names.0 c.append_batch.ensures.names.1 appended
    c.args.files.now.items c.push_reserved.new.self.items (subst (λ fs. file_of c.args.path.now fs ≡ None) c.found.ensures.files c.found.ensures.gone) (c.push_reserved.ensures.items ∙ ap (λ fs. fs ++ c.append_batch.new.self ∷ []) c.found.ensures.files)

pub returns-in_err-file-clause-others : goal.returns-in_err-file-clause-others
returns-in_err-file-clause-others g c = subst (SameOthers c.args.path.now c.args.files.now.items) (sym {A = List Output} c.found.ensures.files) (same_without c.args.path.now c.args.files.now.items)

pub returns-in_err-append_batch-clause-others : goal.returns-in_err-append_batch-clause-others
returns-in_err-append_batch-clause-others g c = subst (SameOthers c.args.path.now c.args.files.now.items) (sym {A = List Output} c.found.ensures.files) (same_without c.args.path.now c.args.files.now.items)

pub returns-clause-others : goal.returns-clause-others
returns-clause-others g c = λ other differs.
    let grown = c.append_batch.new.self in
    let left = without c.args.path.now c.args.files.now.items in
    ap (file_of other) (c.push_reserved.ensures.items ∙ ap (λ fs. fs ++ grown ∷ []) c.found.ensures.files)
    ∙ same_with c.args.path.now grown left (c.append_batch.ensures.names.0 ∙ c.in_ok-file.ensures.path) other differs
    ∙ same_without c.args.path.now c.args.files.now.items other differs
