-- What a run that changes one file leaves of the others.
use Rattle.std.proofs.Common.{◌≡◌, inl, inr, ⊎_elim, IsTrue, ℕ, List, refl, ◌∙◌, ap}
use Rattle.io_traits.specs.Images.{Image, FileImage, at_rest}
use Rattle.io_traits.specs.Moments.{MayLeaveNow, NowOrSynced, EachMoment, LeavesBeside, ReadsBeside, ImagesTell}
use Rattle.io_traits.specs.declared.stores.Store.{Ghosts as StoreWords}
use Rattle.io_traits.proofs.Moments.{by_call, goes_on}
use Rattle.io_traits.proofs.Beside.{beside_none, beside_call, resting}
use Rattle.io_traits.proofs.TailRuns.{Changes, Settles}

module _ {S : Type 0} (store : StoreWords S) (tell : ImagesTell store) (name : List ℕ) (step : FileImage → FileImage → Type 0) where
  abbrev Other : S → Image → Type 0
  Other old = LeavesBeside store (λ n. n ≡ name) old

  -- a sync behind a run
  synced_beside : (old mid new : S) → ((i : Image) → MayLeaveNow store mid i → Other old i) → ReadsBeside store (λ n. n ≡ name) old mid → Settles store mid new → (i : Image) → MayLeaveNow store new i → Other old i
  synced_beside old mid new before same settles i left = ⊎_elim
      (λ still. before i still)
      (λ rests.
      let told = tell new (store.moment new) i left in
      (resting (store.seen old), inr (told, λ n. refl), λ n other. rests n ∙ ap at_rest (same told n other)))
      (settles.images i left)

  -- a change
  pub changed_beside : (old mid : S) → Changes store old mid name step → EachMoment store old mid (Other old)
  changed_beside old mid change =
      by_call store old mid (Other old) change.time (λ i left. beside_none store (λ n. n ≡ name) old i (inl left)) (beside_call store old mid name step change.images)

  -- and a sync behind it
  pub changed_synced_beside : (old mid new : S) → Changes store old mid name step → Settles store mid new → EachMoment store old new (Other old)
  changed_synced_beside old mid new change settles =
      goes_on store old mid new (Other old) (changed_beside old mid change) settles.time
      (synced_beside old mid new (beside_call store old mid name step change.images) (λ told n other. change.beside told n other) settles)

  module _ (old first mid : S) (settles : Settles store old first) (change : Changes store first mid name step) where
    now_or_synced : (i : Image) → MayLeaveNow store first i → NowOrSynced store old i
    now_or_synced i left = ⊎_elim (λ still. inl still) (λ rests. inr (tell first (store.moment first) i left, rests)) (settles.images i left)

    at_change : (i : Image) → MayLeaveNow store mid i → Other old i
    at_change i left = let d = change.images i left in (d.0, now_or_synced d.0 d.1, λ n other. d.2.there n other)

    same_reads : ReadsBeside store (λ n. n ≡ name) old mid
    same_reads told n other = change.beside told n other ∙ ap (λ c. c n) (settles.reads told)

    -- a sync
    pub beside_synced : EachMoment store old first (Other old)
    beside_synced = by_call store old first (Other old) settles.time (λ i left. beside_none store (λ n. n ≡ name) old i (inl left)) (λ i left. beside_none store (λ n. n ≡ name) old i (now_or_synced i left))

    -- a change behind it, and a sync behind that
    pub beside_changed : EachMoment store old mid (Other old)
    beside_changed = goes_on store old first mid (Other old) beside_synced change.time at_change

    pub beside_settled : (new : S) → Settles store mid new → EachMoment store old new (Other old)
    beside_settled new again = goes_on store old mid new (Other old) beside_changed again.time (synced_beside old mid new at_change same_reads again)
