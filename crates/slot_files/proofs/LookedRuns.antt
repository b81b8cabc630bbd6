-- Calls that look at a store, and a change of one file behind them.
use Rattle.std.proofs.Common.{◌≡◌, inl, inr, ⊎_elim, ℕ, IsTrue, List, length, Option, Some, None, option_map, unwrap_or, refl, ap, ◌∙◌}
use Rattle.io_traits.specs.Reads.{bytes_of, file_length}
use Rattle.io_traits.specs.Images.{Image, FileImage, at_rest}
use Rattle.io_traits.specs.Moments.{MayLeaveNow, EachMoment, ImagesTell}
use Rattle.io_traits.specs.declared.stores.Store.{Ghosts as StoreWords}
use Rattle.io_traits.proofs.Moments.{by_call, one_then_other}
use Rattle.io_traits.proofs.Looking.{Nothing}
use Rattle.slot_files.specs.Changes.{Alters}
use Rattle.slot_files.specs.Positions.{recorded_in}
use Rattle.slot_files.specs.PositionWrites.{OldOrNewPosition}

-- what is told of a length
pub length_told : (file : Option (List ℕ)) (told : Option ℕ) (n : ℕ) → told ≡ option_map length file → n ≡ unwrap_or told 0 → n ≡ file_length file
length_told None told n is same = same ∙ ap (λ l. unwrap_or l 0) is
length_told (Some bytes) told n is same = same ∙ ap (λ l. unwrap_or l 0) is

pub same_position : (turn position : ℕ) (f : FileImage) → OldOrNewPosition turn position f f
same_position turn position f file rest is_next chance = inl (ap (λ (h : FileImage). recorded_in (bytes_of h.file)) rest)

module _ {S : Type 0} (store : StoreWords S) (tell : ImagesTell store) (old mid : S) where
  module _ (name : List ℕ) (may_differ : FileImage → FileImage → Type 0) (same : (f : FileImage) → may_differ f f) (looked : Nothing store old mid) where
    abbrev Now : Image → Type 0
    Now = Alters store name may_differ old

    -- a look
    pub looked_only : EachMoment store old mid Now
    looked_only = by_call store old mid Now looked.time (still λ i left. left) (still looked.images)
      where
        still : {s : S} → ((i : Image) → MayLeaveNow store s i → MayLeaveNow store old i) → (i : Image) → MayLeaveNow store s i → Now i
        still was i left = (i, inl (was i left), record { here = same (i name); there = λ other differ. refl })

    -- and a change behind it
    pub looked_then : (new : S) (differs : FileImage → FileImage → Type 0) → EachMoment store mid new (Alters store name differs mid) → (IsTrue store.tells → (f g : FileImage) → differs f g → may_differ f g)
        → EachMoment store old new Now
    looked_then new differs run follows = one_then_other store tell old mid new Now (Alters store name differs mid) Now looked_only run (λ i told a. a)
        (λ i told a. (
          a.0,
          ⊎_elim (λ left. inl (looked.images a.0 left)) (λ synced. inr (told, λ n. synced.1 n ∙ ap (λ c. at_rest (c n)) (looked.reads told))) a.1,
          record { here = follows told (a.0 name) (i name) a.2.here; there = a.2.there },
        ))
