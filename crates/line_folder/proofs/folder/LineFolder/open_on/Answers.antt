use Rattle.std.proofs.Common.{inr, refl, sym, ◌∙◌, subst}
use Rattle.queue_files.specs.Folders.{names_in}
use Rattle.queue_files.specs.Marks.{read_in}
use Rattle.queue_core.specs.Opening.{IsQueueOpened, OpensFolder}
use Rattle.line_folder.proofs.Opened.{both_moments, both_reads, letters_kept, letters_read, letters_stay, not_begun, on_value, opens_then}
use Rattle.line_folder.proofs.folder.LineFolder.open_on.Goals as goal

pub returns-in-Ok-clause-queue : goal.returns-in-Ok-clause-queue
returns-in-Ok-clause-queue g c =
    on_value c.open_outputs.result
    (λ l same told. subst (IsQueueOpened c.args.folder.now c.args.limits (read_in (names_in c.args.folder.now) (g.S.Store.seen c.args.store.now))) (sym same) (c.in-Ok.ensures.found told))
    c.open_outputs.ensures.queue

pub returns-in-Ok-clause-opens : goal.returns-in-Ok-clause-opens
returns-in-Ok-clause-opens g c =
    let e = c.open_on.ensures in
    let t = c.open_outputs.ensures in
    on_value c.open_outputs.result
    (λ l same. subst (OpensFolder g.S.Store c.args.folder.now c.args.limits c.args.store.now c.open_outputs.new.store) (sym same)
    (opens_then g.S.Store g.met.S.Store.images_tell c.args.folder.now c.args.store.now c.open_on.new.store e.beside_moments e.beside c.open_outputs.new.store t.any_moment t.beside c.args.limits c.in-Ok.queue c.in-Ok.ensures.opens))
    t.queue

pub returns-in-Ok-clause-held : goal.returns-in-Ok-clause-held
returns-in-Ok-clause-held g c =
    let e = c.open_on.ensures in
    on_value c.open_outputs.result (λ l held told. sym (letters_read g.S.Store g.met.S.Store.images_tell c.args.folder.now c.args.store.now c.open_on.new.store e.beside_moments e.beside told) ∙ held told) c.open_outputs.ensures.held

pub returns-in-Ok-clause-damaged : goal.returns-in-Ok-clause-damaged
returns-in-Ok-clause-damaged g c = λ damage is told. let e = c.open_on.ensures in inr (sym (letters_read g.S.Store g.met.S.Store.images_tell c.args.folder.now c.args.store.now c.open_on.new.store e.beside_moments e.beside told) ∙ c.open_outputs.ensures.damaged damage is told)

pub returns-in-Ok-clause-letters_kept : goal.returns-in-Ok-clause-letters_kept
returns-in-Ok-clause-letters_kept g c =
    let e = c.open_on.ensures in
    let t = c.open_outputs.ensures in
    letters_kept g.S.Store g.met.S.Store.images_tell c.args.folder.now c.args.store.now c.open_on.new.store e.beside_moments e.beside c.open_outputs.new.store t.any_moment t.beside

pub returns-in-Ok-clause-beside : goal.returns-in-Ok-clause-beside
returns-in-Ok-clause-beside g c =
    let e = c.open_on.ensures in
    let t = c.open_outputs.ensures in
    both_reads g.S.Store g.met.S.Store.images_tell c.args.folder.now c.args.store.now c.open_on.new.store e.beside_moments e.beside c.open_outputs.new.store t.any_moment t.beside

pub returns-in-Ok-clause-beside_moments : goal.returns-in-Ok-clause-beside_moments
returns-in-Ok-clause-beside_moments g c =
    let e = c.open_on.ensures in
    let t = c.open_outputs.ensures in
    both_moments g.S.Store g.met.S.Store.images_tell c.args.folder.now c.args.store.now c.open_on.new.store e.beside_moments e.beside c.open_outputs.new.store t.any_moment t.beside

pub returns-in-Ok-clause-memory : goal.returns-in-Ok-clause-memory
returns-in-Ok-clause-memory g c = λ is told. let e = c.open_on.ensures in c.open_outputs.ensures.memory is told ∙ letters_read g.S.Store g.met.S.Store.images_tell c.args.folder.now c.args.store.now c.open_on.new.store e.beside_moments e.beside told

pub returns-in-Err-clause-in_turn : goal.returns-in-Err-clause-in_turn
returns-in-Err-clause-in_turn g c =
    let e = c.open_on.ensures in
    record {
      between = c.open_on.new.store;
      queue = e.any_moment;
      queue_kept = e.keeps;
      queue_beside = e.beside_moments;
      queue_reads = e.beside;
      letters = not_begun g.S.Store c.args.folder.now c.open_on.new.store;
      letters_reads = λ told name other. refl;
    }

pub returns-in-Err-clause-letters_kept : goal.returns-in-Err-clause-letters_kept
returns-in-Err-clause-letters_kept g c = let e = c.open_on.ensures in letters_stay g.S.Store g.met.S.Store.images_tell c.args.folder.now c.args.store.now c.open_on.new.store e.beside_moments e.beside

pub returns-in-Err-clause-memory : goal.returns-in-Err-clause-memory
returns-in-Err-clause-memory g c = λ is told. let e = c.open_on.ensures in letters_read g.S.Store g.met.S.Store.images_tell c.args.folder.now c.args.store.now c.open_on.new.store e.beside_moments e.beside told
