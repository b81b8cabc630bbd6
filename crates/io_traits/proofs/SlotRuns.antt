-- A sync, a slot that says how another file stands, and a sync.
use Rattle.std.proofs.Common.{◌≡◌, ◌≢◌, inl, inr, ⊎_elim, ℕ, IsTrue, List, Some, Option, ◌∙◌, ap, subst}
use Rattle.io_traits.specs.Reads.{bytes_of}
use Rattle.io_traits.specs.Images.{Image, FileImage, TornFile, IsAtRest, at_rest}
use Rattle.io_traits.specs.Chance.{StandsAt}
use Rattle.io_traits.specs.Moments.{MayLeaveNow, EachMoment, ImagesTell}
use Rattle.io_traits.specs.Tails.{SlotIsTrue}
use Rattle.io_traits.specs.declared.stores.Store.{Ghosts as StoreWords}
use Rattle.io_traits.proofs.Moments.{by_call, goes_on}
use Rattle.io_traits.proofs.TailRuns.{Changes, Settles}

module _ {S : Type 0} (store : StoreWords S) (tell : ImagesTell store) (page rows head : List ℕ) (at : ℕ) (slot : List ℕ) (slots : Option (List ℕ)) where
  abbrev Says : Image → Type 0
  Says = SlotIsTrue page rows head at slot slots

  at_rest_says : (i : Image) → i page ≡ at_rest (Some rows) → Says i
  at_rest_says i is = record { each = λ stands. inr is }

  module _ (old : S) (reads : IsTrue store.tells → store.seen old page ≡ Some rows) (rest : (i : Image) → MayLeaveNow store old i → i head ≡ at_rest slots) where
    before : (i : Image) → MayLeaveNow store old i → Says i
    before i left = record { each = λ stands. inl (subst (λ (f : FileImage). StandsAt at slot (bytes_of f.file)) (rest i left) stands) }

    module _ (first : S) (settles : Settles store old first) where
      -- the sync
      pub slot_synced : EachMoment store old first Says
      slot_synced = by_call store old first Says settles.time before
          (λ i left. ⊎_elim (λ still. before i still) (λ rests. at_rest_says i (rests page ∙ ap at_rest (reads (tell first (store.moment first) i left)))) (settles.images i left))

      module _ (apart : page ≢ head) (durable : (i : Image) → MayLeaveNow store first i → IsAtRest (store.seen old) i) (mid : S) (change : Changes store first mid head (TornFile at slot)) where
        at_write : (i : Image) → MayLeaveNow store mid i → Says i
        at_write i left =
            let d = change.images i left in
            at_rest_says i (d.2.there page apart ∙ durable d.0 d.1 page ∙ ap at_rest (reads (tell mid (store.moment mid) i left)))

        -- the write behind it
        pub slot_written : EachMoment store old mid Says
        slot_written = goes_on store old first mid Says slot_synced change.time at_write

        -- and the sync behind that
        pub slot_settled : (new : S) → Settles store mid new → EachMoment store old new Says
        slot_settled new again = goes_on store old mid new Says slot_written again.time
            (λ i left. ⊎_elim
            (λ still. at_write i still)
            (λ rests.
            let told = tell new (store.moment new) i left in
            at_rest_says i (rests page ∙ ap at_rest (change.beside told page apart ∙ ap (λ c. c page) (settles.reads told) ∙ reads told)))
            (again.images i left))
