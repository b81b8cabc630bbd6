-- The file of a path that is found among those that are open, or opened.
use Rattle.std.proofs.Common.{◌≡◌, ◌≢◌, ℕ, IsTrue, List, take, Ok, sym, ap, ◌∙◌, subst, arith}
use Rattle.std.proofs.lemmas.List.{take_all}
use Rattle.io_traits.specs.Reads.{bytes_of, file_length}
use Rattle.io_traits.specs.Moments.{ImagesTell, EachMoment}
use Rattle.io_traits.specs.declared.stores.Store.{Ghosts as StoreWords}
use Rattle.slot_files.specs.Names.{position_name}
use Rattle.slot_files.specs.declared.name.PositionOf.TheVariants.{Output as OfOutput}
use Rattle.slot_files.specs.Views.{Output}
use Rattle.slot_files.specs.Contents.{counted_by, counted_in}
use Rattle.slot_files.specs.Outputs.{LeavesHeld}
use Rattle.slot_files.proofs.Holding.{reached}
use Rattle.slot_files.proofs.OpeningRun as run
use Rattle.line_outputs.specs.OpenFiles.{IsFileReady, IsOutside, slot_in}

pub differ : (folder path : List ℕ) → IsOutside folder path → path ≢ slot_in folder path
differ folder path outside same = outside (position_name OfOutput path) same

module _ {S : Type 0} (store : StoreWords S) (tell : ImagesTell store) (folder path : List ℕ) (s : S) where
  -- nothing was called
  pub not_begun : EachMoment store s s (LeavesHeld store path (slot_in folder path) s)
  not_begun = run.not_begun store tell path (slot_in folder path) s s

  module _ (f : Output) (is : IsFileReady store folder f s) (at : f.path ≡ path) (told : IsTrue store.tells) where
    counts_here : counted_in f.path f.slot (store.seen s) ≡ Ok f.position
    counts_here =
        ap (counted_by f.path f.slot (file_length (store.seen s f.path))) (is.ready.recorded told)
        ∙ reached f.path f.slot (file_length (store.seen s f.path)) f.turn f.position (let e = is.ready.ends told in omega (arith, e))

    -- what counts of a file that is open
    pub counts : counted_in path (slot_in folder path) (store.seen s) ≡ Ok f.position
    counts = subst (λ p. counted_in p (slot_in folder p) (store.seen s) ≡ Ok f.position) at (subst (λ n. counted_in f.path n (store.seen s) ≡ Ok f.position) is.slot counts_here)

    -- and that it is all of it
    pub whole : bytes_of (store.seen s path) ≡ take f.position (bytes_of (store.seen s path))
    whole =
        subst (λ p. bytes_of (store.seen s p) ≡ take f.position (bytes_of (store.seen s p))) at
        (sym (take_all f.position (bytes_of (store.seen s f.path)) (let e = is.ready.ends told in omega (arith, e))))

    pub counts_whole : counted_in path (slot_in folder path) (store.seen s) ≡ Ok (file_length (store.seen s path))
    counts_whole = counts ∙ ap Ok (sym (is.ready.ends told) ∙ ap (λ p. file_length (store.seen s p)) at)
