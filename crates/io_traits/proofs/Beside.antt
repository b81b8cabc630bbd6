-- What holds of an object's own files, beside the calls of other objects.
use Rattle.std.proofs.Common.{◌≡◌, ◌⊎◌, inl, inr, ⊎_elim, ℕ, IsTrue, List, refl, ◌∙◌, ap}
use Rattle.io_traits.specs.Folders.{Content}
use Rattle.io_traits.specs.Images.{Image, FileImage, On, Follows, IsAtRest, at_rest}
use Rattle.io_traits.specs.Moments.{MayLeaveNow, NowOrSynced, LeavesBeside, ReadsBeside}
use Rattle.io_traits.specs.declared.stores.Store.{Ghosts as StoreWords}

-- an image with each file at rest
abbrev pub resting : Content → Image
resting content name = at_rest (content name)

module _ {S : Type 0} (store : StoreWords S) where
  -- a stop before the first call
  pub beside_none : (Mine : List ℕ → Type 0) (s : S) (i : Image) → NowOrSynced store s i → LeavesBeside store Mine s i
  beside_none Mine s i now = (i, now, λ name other. refl)

  -- a call that changes one file, by what its clause says of images
  pub beside_call : (old new : S) (name : List ℕ) (step : FileImage → FileImage → Type 0) → Follows (On name step) (MayLeaveNow store old) (MayLeaveNow store new)
      → (i : Image) → MayLeaveNow store new i → LeavesBeside store (λ n. n ≡ name) old i
  beside_call old new name step follows i left = let d = follows i left in (d.0, inl d.1, λ n other. d.2.there n other)

  -- a sync that succeeded
  pub beside_sync : (Mine : List ℕ → Type 0) (old : S) (i : Image) → IsTrue store.tells → IsAtRest (store.seen old) i → LeavesBeside store Mine old i
  beside_sync Mine old i told rests = (i, inr (told, rests), λ name other. refl)

  -- files that are fewer
  pub beside_more : (Mine All : List ℕ → Type 0) → ((name : List ℕ) → Mine name → All name) → (s : S) (i : Image) → LeavesBeside store Mine s i → LeavesBeside store All s i
  beside_more Mine All among s i beside = (beside.0, beside.1, λ name other. beside.2 name (λ mine. other (among name mine)))

  -- a run that changes Mine, and then one that changes Mine2, change both
  pub both_beside : (Mine Mine2 : List ℕ → Type 0) (old mid : S) → ((i : Image) → MayLeaveNow store mid i → LeavesBeside store Mine old i) → ReadsBeside store Mine old mid
      → (i : Image) → LeavesBeside store Mine2 mid i → LeavesBeside store (λ name. Mine name ⊎ Mine2 name) old i
  both_beside Mine Mine2 old mid before same i beside = ⊎_elim
      (λ now.
      let earlier = before beside.0 now in
      let all : LeavesBeside store (λ name. Mine name ⊎ Mine2 name) old i = (earlier.0, earlier.1, λ name other. beside.2 name (λ m. other (inr m)) ∙ earlier.2 name (λ m. other (inl m))) in
      all)
      (λ synced. (resting (store.seen old), inr (synced.0, λ name. refl), λ name other. beside.2 name (λ m. other (inr m)) ∙ synced.1 name ∙ ap at_rest (same synced.0 name (λ m. other (inl m)))))
      beside.1

  pub both_read : (Mine Mine2 : List ℕ → Type 0) (old mid new : S) → ReadsBeside store Mine old mid → ReadsBeside store Mine2 mid new → ReadsBeside store (λ name. Mine name ⊎ Mine2 name) old new
  both_read Mine Mine2 old mid new one other told name others = other told name (λ m. others (inr m)) ∙ one told name (λ m. others (inl m))

  -- a fact of the files that are Own, which reads nothing else
  module _ (Fact : Image → Type 0) (Own Mine : List ℕ → Type 0) (apart : (name : List ℕ) → Own name → Mine name → ⊥)
      (local : (c d : Image) → ((name : List ℕ) → Own name → c name ≡ d name) → Fact d → Fact c) (old : S)
      (holds : (d : Image) → NowOrSynced store old d → Fact d) where
    -- holds at any moment of a run that changes Mine
    pub fact_beside : (i : Image) → LeavesBeside store Mine old i → Fact i
    fact_beside i beside = local i beside.0 (λ name own. beside.2 name (apart name own)) (holds beside.0 beside.1)

    -- and after it
    pub holds_beside : (new : S) → ((i : Image) → MayLeaveNow store new i → LeavesBeside store Mine old i) → ReadsBeside store Mine old new → (d : Image) → NowOrSynced store new d → Fact d
    holds_beside new beside same d (inl now) = fact_beside d (beside d now)
    holds_beside new beside same d (inr synced) =
        local d (resting (store.seen old)) (λ name own. synced.1 name ∙ ap at_rest (same synced.0 name (apart name own))) (holds (resting (store.seen old)) (inr (synced.0, λ name. refl)))
