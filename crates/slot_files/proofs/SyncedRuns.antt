-- A sync of a store, and a look behind it.
use Rattle.std.proofs.Common.{inl, inr, ⊎_elim, sym, ap, ◌∙◌}
use Rattle.io_traits.specs.Images.{Image, IsAtRest, at_rest}
use Rattle.io_traits.specs.Moments.{MayLeaveNow, NowOrSynced, EachMoment, ImagesTell}
use Rattle.io_traits.specs.declared.stores.Store.{Ghosts as StoreWords}
use Rattle.io_traits.proofs.Moments.{by_call, goes_on}
use Rattle.io_traits.proofs.TailRuns.{Settles}
use Rattle.io_traits.proofs.Looking.{Nothing}
use Rattle.slot_files.specs.Changes.{AllRest}

module _ {S : Type 0} (store : StoreWords S) (tell : ImagesTell store) (old mid : S) where
  -- a sync
  module _ (settles : Settles store old mid) where
    was_synced : (i : Image) → MayLeaveNow store mid i → NowOrSynced store old i
    was_synced i left = ⊎_elim (λ still. inl still) (λ rests. inr (tell mid (store.moment mid) i left, rests)) (settles.images i left)

    pub synced_only : EachMoment store old mid (NowOrSynced store old)
    synced_only = by_call store old mid (NowOrSynced store old) settles.time (λ i left. inl left) was_synced

    -- and a look behind it
    module _ (new : S) (looked : Nothing store mid new) where
      pub synced_looked : EachMoment store old new (NowOrSynced store old)
      synced_looked = goes_on store old mid new (NowOrSynced store old) synced_only looked.time (λ i left. was_synced i (looked.images i left))

      pub rests_looked : ((i : Image) → MayLeaveNow store mid i → IsAtRest (store.seen old) i) → AllRest store new
      rests_looked durable i left n =
          let told = tell new (store.moment new) i left in
          durable i (looked.images i left) n ∙ sym (ap (λ c. at_rest (c n)) (looked.reads told ∙ settles.reads told))
