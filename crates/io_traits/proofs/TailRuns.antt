-- Appends, cuts and syncs of a file with a settled front and a tail behind it.
use Rattle.std.proofs.Common.{◌≡◌, ◌⊎◌, ⊎_elim, ℕ, ◌+◌, Bool, IsTrue, List, ◌++◌, length, take, Some, Option, option_map, Result, Ok, Err, OnOk, refl, sym, ◌∙◌, ap, subst, length-append, append_assoc}
use Rattle.std.proofs.lemmas.List.{take_at}
use Rattle.io_traits.specs.Reads.{bytes_of, file_length}
use Rattle.io_traits.specs.Images.{Image, FileImage, TornFile, CutFile, On, Follows, IsAtRest, Beside, at_rest}
use Rattle.io_traits.specs.Moments.{MayLeaveNow, NowOrSynced, EachMoment, LeavesBeside, ImagesTell}
use Rattle.io_traits.specs.Calls.{ChangesOne, MaySettle}
use Rattle.io_traits.specs.Tails.{TailImage, HasTail, IsSettled, HoldsNamed}
use Rattle.io_traits.specs.declared.stores.Store.{Ghosts as StoreWords}
use Rattle.io_traits.proofs.Moments.{by_call, goes_on, started}
use Rattle.io_traits.proofs.Beside.{beside_none, beside_call, both_beside, resting}
use Rattle.io_traits.proofs.TailImages.{holds_tail, at_rest_tail, at_rest_front, longer_tail, appended_tail, cut_tail}

pub on_ok_so : {T E P Q : Type 0} (result : Result T E) → OnOk result P → (P → Q) → OnOk result Q
on_ok_so (Ok x) p so = so p
on_ok_so (Err e) p so = tt

module _ {S : Type 0} (store : StoreWords S) where
  -- what a call says of one file that it changes, and what a sync says, by a store's words
  abbrev pub Changes : S → S → List ℕ → (FileImage → FileImage → Type 0) → Type 0
  Changes old new name step = ChangesOne store.tells store.seen store.moment store.may_leave old new name step

  abbrev pub Settles : S → S → Type 0
  Settles old new = MaySettle store.tells store.seen store.moment store.may_leave old new

module _ {S : Type 0} (store : StoreWords S) (tell : ImagesTell store) (name front tail : List ℕ) where
  -- what holds of each image of a file with a tail holds of each moment
  pub holds : (is_frame : ℕ → List ℕ → Bool) (s : S) → ((i : Image) → MayLeaveNow store s i → TailImage front tail (i name)) → (i : Image) → MayLeaveNow store s i → HoldsNamed store is_frame name front tail i
  holds is_frame s images i left chance = holds_tail front tail is_frame (i name) (images i left) chance

  -- a sync, of a tail that reads give
  pub images_synced : (old new : S) → (IsTrue store.tells → store.seen old name ≡ Some (front ++ tail)) → ((i : Image) → MayLeaveNow store old i → TailImage front tail (i name)) → Settles store old new
      → (i : Image) → MayLeaveNow store new i → TailImage front tail (i name)
  images_synced old new seen images settles i left = ⊎_elim
      (λ still. images i still)
      (λ rests. subst (TailImage front tail) (sym (rests name ∙ ap at_rest (seen (tell new (store.moment new) i left)))) (at_rest_tail front tail))
      (settles.images i left)

  pub settled_by : (old new : S) (bytes : List ℕ) → (IsTrue store.tells → store.seen old name ≡ Some bytes) → Settles store old new → ((i : Image) → MayLeaveNow store new i → IsAtRest (store.seen old) i)
      → IsSettled store new name bytes
  settled_by old new bytes seen settles durable = record {
    images = λ i left. durable i left name ∙ ap at_rest (seen (tell new (store.moment new) i left));
    seen = λ told. ap (λ c. c name) (settles.reads told) ∙ seen told;
  }

  module _ (more : List ℕ) (old mid : S) (has : HasTail store old name front tail) (change : Changes store old mid name (TornFile (file_length (store.seen old name)) more)) where
    images_appended : (i : Image) → MayLeaveNow store mid i → TailImage front (tail ++ more) (i name)
    images_appended i left =
        let d = change.images i left in
        let told = tell mid (store.moment mid) i left in
        appended_tail front tail more (file_length (store.seen old name)) (d.0 name) (i name) (ap file_length (has.seen told) ∙ length-append front tail) (has.images d.0 d.1) d.2.here

    seen_appended : (IsTrue store.tells → store.seen mid name ≡ Some (bytes_of (store.seen old name) ++ more)) → IsTrue store.tells → store.seen mid name ≡ Some (front ++ (tail ++ more))
    seen_appended written told = written told ∙ ap (λ (o : Option (List ℕ)). Some (bytes_of o ++ more)) (has.seen told) ∙ ap Some (append_assoc front tail more)

    pub tail_appended : (IsTrue store.tells → store.seen mid name ≡ Some (bytes_of (store.seen old name) ++ more)) → HasTail store mid name front (tail ++ more)
    tail_appended written = record { images = images_appended; seen = seen_appended written }

-- an append
pub appended_run : {S : Type 0} (store : StoreWords S) → ImagesTell store → (name front tail more : List ℕ) (old mid : S) → HasTail store old name front tail
    → Changes store old mid name (TornFile (file_length (store.seen old name)) more) → (is_frame : ℕ → List ℕ → Bool) → EachMoment store old mid (HoldsNamed store is_frame name front (tail ++ more))
appended_run store tell name front tail more old mid has change is_frame =
    by_call store old mid (HoldsNamed store is_frame name front (tail ++ more)) change.time
    (holds store tell name front (tail ++ more) is_frame old (λ i left. longer_tail front tail more (i name) (has.images i left)))
    (holds store tell name front (tail ++ more) is_frame mid (images_appended store tell name front tail more old mid has change))

-- and a sync behind it
pub appended_synced_run : {S : Type 0} (store : StoreWords S) → ImagesTell store → (name front tail more : List ℕ) (old mid new : S) → HasTail store old name front tail
    → Changes store old mid name (TornFile (file_length (store.seen old name)) more) → (IsTrue store.tells → store.seen mid name ≡ Some (bytes_of (store.seen old name) ++ more)) → Settles store mid new
    → (is_frame : ℕ → List ℕ → Bool) → EachMoment store old new (HoldsNamed store is_frame name front (tail ++ more))
appended_synced_run store tell name front tail more old mid new has change written settles is_frame =
    let now = tail_appended store tell name front tail more old mid has change written in
    goes_on store old mid new (HoldsNamed store is_frame name front (tail ++ more)) (appended_run store tell name front tail more old mid has change is_frame) settles.time
    (holds store tell name front (tail ++ more) is_frame new (images_synced store tell name front (tail ++ more) mid new now.seen now.images settles))

module _ {S : Type 0} (store : StoreWords S) (tell : ImagesTell store) (name front tail : List ℕ) (len : ℕ) (is : len ≡ length front) (old mid : S) (has : HasTail store old name front tail)
    (change : Changes store old mid name (CutFile len)) where
  images_cut : (i : Image) → MayLeaveNow store mid i → TailImage front tail (i name)
  images_cut i left = let d = change.images i left in cut_tail front tail len (d.0 name) (i name) is (has.images d.0 d.1) d.2.here

  -- a cut
  pub cut_run : (is_frame : ℕ → List ℕ → Bool) → EachMoment store old mid (HoldsNamed store is_frame name front tail)
  cut_run is_frame = by_call store old mid (HoldsNamed store is_frame name front tail) change.time (holds store tell name front tail is_frame old has.images) (holds store tell name front tail is_frame mid images_cut)

  module _ (cut : IsTrue store.tells → store.seen mid name ≡ option_map (take len) (store.seen old name)) (new : S) (settles : Settles store mid new) where
    pub seen_cut : IsTrue store.tells → store.seen mid name ≡ Some front
    seen_cut told = cut told ∙ ap (option_map (take len)) (has.seen told) ∙ ap Some (take_at front tail len (sym is))

    images_cut_synced : (i : Image) → MayLeaveNow store new i → TailImage front tail (i name)
    images_cut_synced i left = ⊎_elim
        (λ still. images_cut i still)
        (λ rests. subst (TailImage front tail) (sym (rests name ∙ ap at_rest (seen_cut (tell new (store.moment new) i left)))) (at_rest_front front tail))
        (settles.images i left)

    -- and a sync behind it
    pub cut_synced_run : (is_frame : ℕ → List ℕ → Bool) → EachMoment store old new (HoldsNamed store is_frame name front tail)
    cut_synced_run is_frame = goes_on store old mid new (HoldsNamed store is_frame name front tail) (cut_run is_frame) settles.time (holds store tell name front tail is_frame new images_cut_synced)

    pub front_settled : ((i : Image) → MayLeaveNow store new i → IsAtRest (store.seen mid) i) → IsSettled store new name front
    front_settled durable = settled_by store tell name front tail mid new front seen_cut settles durable
