-- What is recorded of a watched file at each moment of its assurance.
use Rattle.std.proofs.Common.{inl, ℕ, None, refl, ap}
use Rattle.io_traits.specs.Images.{FileImage}
use Rattle.io_traits.specs.Moments.{EachMoment}
use Rattle.io_traits.specs.Reads.{bytes_of}
use Rattle.io_traits.specs.declared.stores.Store.{Ghosts as StoreWords}
use Rattle.io_traits.proofs.Moments.{started}
use Rattle.slot_files.specs.Positions.{recorded_in}
use Rattle.in_file.specs.Positions.{IsReady, LeavesOldOrNew}
use Rattle.in_file.specs.Views.{Watched}
use Rattle.line_inputs.specs.Positions.{LeavesReached}

module _ {S : Type 0} (store : StoreWords S) (w : Watched) (s : S) (ready : IsReady store w s) where
  -- nothing is written
  pub stands_still : (place : ℕ) → EachMoment store s s (LeavesOldOrNew store w place s)
  stands_still place = started store s (LeavesOldOrNew store w place s) (λ i left. record {
    own = λ no_chance. inl (ap (λ (f : FileImage). recorded_in (bytes_of f.file)) (ready.settled i left w.slot refl));
    beside = (i, inl left, λ name other. refl);
  })

  pub none_reached : EachMoment store s s (LeavesReached store None w s)
  none_reached = started store s (LeavesReached store None w s) (λ i left. (ap (λ (f : FileImage). recorded_in (bytes_of f.file)) (ready.settled i left w.slot refl), (i, inl left, λ name other. refl)))
