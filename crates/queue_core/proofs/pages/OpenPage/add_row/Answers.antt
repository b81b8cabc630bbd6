use Rattle.std.proofs.Common.{◌≡◌, List, ℕ, sym, ◌∙◌, ap, subst}
use Rattle.queue_page.specs.Grammar.{IsNext}
use Rattle.queue_files.specs.Others.{KeepsOthers}
use Rattle.queue_files.specs.Ready.{RowKept}
use Rattle.queue_files.proofs.OtherFiles.{others_stay}
use Rattle.queue_core.specs.Views.{OpenPageView}
use Rattle.queue_core.specs.Writing.{RowAdded}
use Rattle.queue_core.proofs.pages.OpenPage.add_row.Goals as goal

pub add_row-requires-clause-element : goal.add_row-requires-clause-element
add_row-requires-clause-element g c = let next = c.requires.element in (next.0, subst (λ (o : OpenPageView). IsNext o.page next.0 c.args.frame.now) (sym c.self.view_is) next.1)

pub returns-in-Ok-clause-keeps : goal.returns-in-Ok-clause-keeps
returns-in-Ok-clause-keeps g c ok =
    subst (λ (n : List ℕ). RowKept g.S.Store n c.args.frame.now c.args.store.now c.add_row.new.store) (c.as_str.ensures ∙ ap (λ (o : OpenPageView). o.file) c.self.view_is) c.add_row.ensures.keeps

pub returns-in-Ok-clause-ready : goal.returns-in-Ok-clause-ready
returns-in-Ok-clause-ready g c =
    subst (λ (n : List ℕ). RowAdded g.S.Store n c.args.frame.now c.args.store.now c.add_row.new.store) (c.as_str.ensures ∙ ap (λ (o : OpenPageView). o.file) c.self.view_is)
    (record { ready = c.in-Ok.ensures.ready; longer = c.in-Ok.ensures.longer; written = c.in-Ok.ensures.written; beside = c.add_row.ensures.beside.reads })

pub returns-in-Err-clause-keeps : goal.returns-in-Err-clause-keeps
returns-in-Err-clause-keeps g c fault =
    subst (λ (n : List ℕ). RowKept g.S.Store n c.args.frame.now c.args.store.now c.add_row.new.store) (c.as_str.ensures ∙ ap (λ (o : OpenPageView). o.file) c.self.view_is) c.add_row.ensures.keeps

pub returns-in-Ok-clause-beside : goal.returns-in-Ok-clause-beside
returns-in-Ok-clause-beside g c =
    subst (λ (n : List ℕ). KeepsOthers g.S.Store (λ (x : List ℕ). x ≡ n) c.args.store.now c.add_row.new.store) (c.as_str.ensures ∙ ap (λ (o : OpenPageView). o.file) c.self.view_is) c.add_row.ensures.beside

pub returns-in-Err-clause-beside : goal.returns-in-Err-clause-beside
returns-in-Err-clause-beside g c =
    subst (λ (n : List ℕ). KeepsOthers g.S.Store (λ (x : List ℕ). x ≡ n) c.args.store.now c.add_row.new.store) (c.as_str.ensures ∙ ap (λ (o : OpenPageView). o.file) c.self.view_is) c.add_row.ensures.beside

pub returns-in_err-push-clause-beside : goal.returns-in_err-push-clause-beside
returns-in_err-push-clause-beside g c = others_stay g.S.Store g.met.S.Store.images_tell (λ n. n ≡ c.args.self.now.file) c.args.store.now
