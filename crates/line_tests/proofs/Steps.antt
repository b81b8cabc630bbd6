-- What stands behind a step of a line, where it leaves the store as it was.
use Rattle.std.proofs.Common.{◌≡◌, ◌<◌, ℕ, zero, suc, List, [], ◌∷◌, length, get_or, refl, sym, subst, arith, Result, Ok, Err}
use Rattle.std.specs.Prelude.{OnOk}
use Rattle.io_traits.specs.declared.stores.Store.{Ghosts as StoreWords}
use Rattle.line_folder.specs.Readiness.{IsFolderReady}
use Rattle.line_core.specs.Parts.{folder_of, inputs_of, path_of}
use Rattle.line_core.specs.Readiness.{InputsReady, IsReady}
use Rattle.line_core.specs.declared.line.Line.{Line}
use Rattle.line_core.specs.declared.line.LineInput.{LineInput}

-- what holds anyway holds behind a success
pub ok_always : {A E P : Type 0} (r : Result A E) → P → OnOk r P
ok_always (Ok x) p = p
ok_always (Err e) p = tt

-- a list has an element at each place within it
pub element_at : {X : Type 0} (xs : List X) (at : ℕ) → at < length xs → (x : X) × (x ≡ get_or xs at x)
element_at [] at lt = absurd (omega (arith, lt))
element_at (x ∷ xs) zero lt = (x, refl)
element_at (x ∷ xs) (suc at) lt = element_at xs at (omega (arith, lt))

module _ {S F O : Type 0} (store : StoreWords S) (old new : Line F O) (s : S) where
  -- what stands on the store is ready, where the folder is, and its path and the inputs stay
  pub still_ready : IsFolderReady store (folder_of new) s → path_of new ≡ path_of old → inputs_of new ≡ inputs_of old → IsReady store old s → IsReady store new s
  still_ready folder path inputs ready = record {
    folder = folder;
    inputs =
        subst (λ (p : List ℕ). InputsReady store p (inputs_of new) s) (sym path)
        (subst (λ (i : List LineInput). InputsReady store (path_of old) i s) (sym inputs) ready.inputs);
  }
