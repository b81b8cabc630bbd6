use Rattle.std.proofs.Common.{◌≡◌, take, ap, ◌∙◌, subst}
use Rattle.store_memory.specs.Leaving.{IsLeftAfter}
use Rattle.store_memory.proofs.Choosing.{image_if}
use Rattle.store_memory.proofs.stores.MemoryStore.images.Goals as goal

pub returns-clause-image : goal.returns-clause-image
returns-clause-image c =
    let calls : take c.args.moment c.deref.result.now ≡ take c.args.moment c.args.self.now.calls = ap (take c.args.moment) (c.deref.ensures.value ∙ ap (λ k. k.calls) c.self.view_is) in
    let base : c.self.inside.base ≡ c.args.self.now.base = ap (λ k. k.base) c.self.view_is in
    let left : IsLeftAfter c.args.choice c.args.self.now.base (take c.args.moment c.args.self.now.calls) c.in_ok-files.files =
    subst (λ l. IsLeftAfter c.args.choice c.args.self.now.base l c.in_ok-files.files) calls (subst (λ b. IsLeftAfter c.args.choice b (take c.args.moment c.deref.result.now) c.in_ok-files.files) base c.in_ok-files.ensures) in
    image_if c.args.self.now c.args.choice c.args.moment _ c.in_ok-files.files _ c.new.result c.requires left c.new.ensures
