use Rattle.std.proofs.Common.{◌<◌, ◌^◌, ◌++◌, ℕ, List, codes, refl, subst}
use Rattle.std.specs.Prelude.{Contains, ◌↔◌}
use Rattle.std.specs.Fmt.{decimal}
use Rattle.queue_files.specs.Folders.{page, checkpoint}
use Rattle.queue_files.proofs.Listings.{are_numbers}
use Rattle.queue_files.proofs.listing.list_folder.Goals as goal

pub returns-clause-listed : goal.returns-clause-listed
returns-clause-listed g c told =
    let folder = c.args.folder.now in
    let names = c.in_ok-names.names in
    let lists = c.in_ok-names.ensures.names told in
    let content = g.S.Store.seen c.args.store.now in
    record {
      pages = are_numbers folder content names (codes "page.") page c.in_ok-pages.pages.items c.requires lists refl (λ n. refl) c.in_ok-pages.ensures.rises
          (subst (λ (l : List (List ℕ)). (n : ℕ) → Contains c.in_ok-pages.pages.items n ↔ ((n < 2 ^ 32) × Contains l (codes "page." ++ decimal n))) c.as_slice.ensures c.in_ok-pages.ensures.each);
      checkpoints = are_numbers folder content names (codes "checkpoint.") checkpoint c.in_ok-checkpoints.checkpoints.items c.requires lists refl (λ n. refl) c.in_ok-checkpoints.ensures.rises
          (subst (λ (l : List (List ℕ)). (n : ℕ) → Contains c.in_ok-checkpoints.checkpoints.items n ↔ ((n < 2 ^ 32) × Contains l (codes "checkpoint." ++ decimal n))) c.as_slice-2.ensures c.in_ok-checkpoints.ensures.each);
    }
