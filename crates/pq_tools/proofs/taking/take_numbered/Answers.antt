use Rattle.std.proofs.Common.{[], ◌∷◌, ◌++◌, refl, List, ℕ, Option, sym, ◌∙◌, ap, subst}
use Rattle.io_traits.specs.Folders.{Content}
use Rattle.io_traits.specs.Reads.{bytes_of}
use Rattle.io_traits.specs.declared.pages.PageState.{PageState}
use Rattle.slot_files.specs.Checkpoints.{newest_in}
use Rattle.queue_files.specs.Folders.{IsOwn, checkpoint, names_in, page}
use Rattle.queue_files.specs.Marks.{read_in}
use Rattle.queue_files.proofs.OtherFiles.{others_looked, others_then}
use Rattle.pq_tools.specs.Salvage.{by_head, by_own, end_with, rows_in, taken}
use Rattle.pq_tools.specs.Repairs.{salvaged_of}
use Rattle.pq_tools.proofs.Takings.{adds_same, adds_then, if_ok_on, listed_more, spends_by}
use Rattle.pq_tools.proofs.Numbers.{spent_more}
use Rattle.pq_tools.proofs.taking.take_numbered.Goals as goal

pub take_page-requires-clause-apart : goal.take_page-requires-clause-apart
take_page-requires-clause-apart g c own =
    c.requires.apart (page c.args.number) (subst (IsOwn (names_in c.args.queue.now.folder)) (c.as_str.ensures ∙ c.in_ok-name.ensures) own)

pub returns-clause-taken : goal.returns-clause-taken
returns-clause-taken g c =
    let folder = c.args.folder.now in
    let old = c.args.store.now in
    let mid = c.open_from.new.store in
    let new = c.take_page.new.store in
    let v = c.args.queue.now in
    let same = c.open_from.ensures.same in
    let f = read_in (names_in folder) (g.S.Store.seen old) in
    let named = c.as_str.ensures ∙ c.in_ok-name.ensures in
    let file = bytes_of (g.S.Store.seen mid c.as_str.result.now) in
    let rows = taken c.args.end c.in_ok-from.from (rows_in file) in
    if_ok_on _ _ _ c.take_page.result c.take_page.ensures.end c.take_page.ensures.adds
    (λ behind end adds. record {
      done = rows;
      adds = adds_then g.S.Store [] rows v v c.take_page.new.queue old mid new (adds_same g.S.Store v old mid same) adds;
      is = λ told newest numbers.
          listed_more f c.args.end c.args.number c.in_ok-from.from behind numbers file
          (ap (λ (content : Content). bytes_of (content c.as_str.result.now)) (same.reads told) ∙ ap (λ (n : List ℕ). bytes_of (g.S.Store.seen old n)) named)
          (c.in_ok-from.ensures.from told ∙ ap (λ (o : Option (ℕ × PageState)). by_own (newest_in (bytes_of (f (checkpoint c.args.number)))) (by_head c.args.number o)) (sym newest))
          (end told);
    })

pub returns-clause-beside : goal.returns-clause-beside
returns-clause-beside g c =
    let Mine = IsOwn (names_in c.args.queue.now.folder) in
    others_then g.S.Store g.met.S.Store.images_tell Mine c.args.store.now c.open_from.new.store c.take_page.new.store (others_looked g.S.Store g.met.S.Store.images_tell Mine c.args.store.now c.open_from.new.store c.open_from.ensures.same) c.take_page.ensures.beside

pub returns-in_err-from-clause-beside : goal.returns-in_err-from-clause-beside
returns-in_err-from-clause-beside g c = others_looked g.S.Store g.met.S.Store.images_tell (IsOwn (names_in c.args.queue.now.folder)) c.args.store.now c.open_from.new.store c.open_from.ensures.same

pub returns-in_err-name-clause-beside : goal.returns-in_err-name-clause-beside
returns-in_err-name-clause-beside g c = others_looked g.S.Store g.met.S.Store.images_tell (IsOwn (names_in c.args.queue.now.folder)) c.args.store.now c.open_from.new.store c.open_from.ensures.same

pub returns-clause-spent : goal.returns-clause-spent
returns-clause-spent g c err newest numbers =
    let folder = c.args.folder.now in
    let old = c.args.store.now in
    let v = c.args.queue.now in
    let same = c.open_from.ensures.same in
    let f = read_in (names_in folder) (g.S.Store.seen old) in
    let named = c.as_str.ensures ∙ c.in_ok-name.ensures in
    let file = bytes_of (g.S.Store.seen c.open_from.new.store c.as_str.result.now) in
    let rows = taken c.args.end c.in_ok-from.from (rows_in file) in
    let behind = end_with c.args.end (rows_in file) in
    spends_by g.S.Store (rows ++ salvaged_of f behind numbers) (salvaged_of f c.args.end (c.args.number ∷ numbers)) v
    (λ told.
    sym (listed_more f c.args.end c.args.number c.in_ok-from.from behind numbers file
    (ap (λ (content : Content). bytes_of (content c.as_str.result.now)) (same.reads told) ∙ ap (λ (n : List ℕ). bytes_of (g.S.Store.seen old n)) named)
    (c.in_ok-from.ensures.from told ∙ ap (λ (o : Option (ℕ × PageState)). by_own (newest_in (bytes_of (f (checkpoint c.args.number)))) (by_head c.args.number o)) (sym newest)) refl))
    (λ told. spent_more v rows (salvaged_of f behind numbers) (c.take_page.ensures.spent err told))
