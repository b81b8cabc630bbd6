-- What a read of a source gives and leaves.
use Rattle.std.proofs.Common.{◌≡◌, ◌≢◌, ℕ, List, [], ◌∷◌, ◌++◌, Result, Ok, Err, Some, length, take, drop, take_at, take-append-drop, length-take, refl, sym, ap, ◌∙◌, arith}
use Rattle.std.proofs.lemmas.Option.{same_Some}
use Rattle.io_traits.specs.Pieces.{Came, End, bytes_in, piece_list, gave, IfBytes}
use Rattle.io_traits.specs.Telling.{Grows, Shrinks, IsAtEnd}
use Rattle.io_traits.proofs.Growth.{grows_same, grows_some, shrinks_same}
use Rattle.io_traits.specs.declared.faults.Failed.{Failed}
use Rattle.io_traits.specs.declared.sources.Step.{Step}
use Rattle.io_traits.specs.declared.sources.Step.TheVariants.{Bytes, NotYet}
use Rattle.io_traits.specs.declared.sources.Step.TheVariants.{End as AtEnd}
use Rattle.io_memory.specs.Sources.{Reading, next_count, bytes_taken, after_read, written_over}

-- these were taken from the front of a list that is told
pub shrinks : (old new taken : List ℕ) → old ≡ taken ++ new → Shrinks (Some old) (Some new) taken
shrinks old new taken is = record { each = λ rest told. ap Some (is ∙ ap (λ t. taken ++ t) (same_Some _ _ told)) }

-- the bytes at the front of the room are the next ones of those that were left
front_is : (old : Reading) (n : ℕ) (room into : List ℕ) → into ≡ written_over (take n old.left) room → n ≡ next_count old (length room) → take n into ≡ take n old.left
front_is old n room into wrote count = ap (take n) wrote ∙ take_at (take n old.left) _ n (omega (arith, length-take n old.left, count))

module _ (old : Reading) (room into : List ℕ) where
  pub read_gives : (result : Result Step Failed) → into ≡ written_over (bytes_taken old result) room → IfBytes result (λ n. (n ≡ next_count old (length room)) × (old.left ≢ []))
      → Grows (Some old.given) (Some (after_read old result).given) (piece_list (gave result into))
  read_gives (Ok (Bytes n)) wrote bytes = grows_some (Came (take n into) ∷ []) (ap (λ b. old.given ++ Came b ∷ []) (sym (front_is old n room into wrote bytes.0)))
  read_gives (Ok NotYet) wrote bytes = grows_same (Some old.given)
  read_gives (Ok AtEnd) wrote bytes = grows_some (End ∷ []) refl
  read_gives (Err e) wrote bytes = grows_same (Some old.given)

  pub read_takes : (result : Result Step Failed) → into ≡ written_over (bytes_taken old result) room → IfBytes result (λ n. (n ≡ next_count old (length room)) × (old.left ≢ []))
      → Shrinks (Some old.left) (Some (after_read old result).left) (bytes_in (gave result into))
  read_takes (Ok (Bytes n)) wrote bytes = shrinks old.left (drop n old.left) (take n into) (sym (take-append-drop n old.left) ∙ ap (λ t. t ++ drop n old.left) (sym (front_is old n room into wrote bytes.0)))
  read_takes (Ok NotYet) wrote bytes = shrinks_same (Some old.left)
  read_takes (Ok AtEnd) wrote bytes = shrinks_same (Some old.left)
  read_takes (Err e) wrote bytes = shrinks_same (Some old.left)

  pub read_ends : (result : Result Step Failed) → result ≡ Ok AtEnd → old.left ≡ [] → IsAtEnd (Some (after_read old result).left)
  read_ends (Ok (Bytes n)) is none = absurd cc
  read_ends (Ok NotYet) is none = record { none = λ rest told. sym (same_Some _ _ told) ∙ none }
  read_ends (Ok AtEnd) is none = record { none = λ rest told. sym (same_Some _ _ told) ∙ none }
  read_ends (Err e) is none = record { none = λ rest told. sym (same_Some _ _ told) ∙ none }
