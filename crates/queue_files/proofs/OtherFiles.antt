-- Calls one behind the other, and the files that they aren't for.
use Rattle.std.proofs.Common.{◌≡◌, ◌⊎◌, inl, inr, ⊎_elim, ℕ, nat_lt, not, List, [], ◌∷◌, map, filter, refl, sym, ◌∙◌, ap, subst}
use Rattle.std.specs.Prelude.{All, Contains}
use Rattle.std.proofs.lemmas.List.Elements.{All-append, All-cons, All-contains, All-nil}
use Rattle.io_traits.specs.Images.{Image, FileImage, at_rest}
use Rattle.io_traits.specs.Moments.{MayLeaveNow, NowOrSynced, EachMoment, LeavesBeside, ReadsBeside, ImagesTell}
use Rattle.io_traits.specs.declared.stores.Store.{Ghosts as StoreWords}
use Rattle.io_traits.proofs.Moments.{started, by_call, weaker, one_then_other, holds_now}
use Rattle.io_traits.proofs.Beside.{beside_none, beside_more, resting}
use Rattle.io_traits.proofs.TailRuns.{Changes, Settles}
use Rattle.io_traits.proofs.Looking.{Nothing}
use Rattle.queue_files.specs.Folders.{Role, page, checkpoint, IsOwn, names_in}
use Rattle.queue_files.specs.Others.{IsMarked, KeepsOthers}
use Rattle.queue_files.specs.declared.marking.Mark.{Mark}
use Rattle.queue_files.specs.Unread.{is_paired, pages_above, unpaired, unread_names}
use Rattle.queue_files.specs.declared.listing.Listing.{Listing}
use Rattle.queue_files.proofs.Members.{map_has}

module _ {S : Type 0} (store : StoreWords S) (tell : ImagesTell store) where
  module _ (Mine : List ℕ → Type 0) where
    -- no call
    pub others_stay : (s : S) → KeepsOthers store Mine s s
    others_stay s = record { reads = λ told name other. refl; moments = started store s (LeavesBeside store Mine s) (λ i left. beside_none store Mine s i (inl left)) }

    -- a call that only looks
    pub others_looked : (old new : S) → Nothing store old new → KeepsOthers store Mine old new
    others_looked old new nothing = record {
      reads = λ told name other. ap (λ c. c name) (nothing.reads told);
      moments = by_call store old new (LeavesBeside store Mine old) nothing.time (λ i left. beside_none store Mine old i (inl left)) (λ i left. beside_none store Mine old i (inl (nothing.images i left)));
    }

    -- a sync
    pub others_synced : (old new : S) → Settles store old new → KeepsOthers store Mine old new
    others_synced old new settles = record {
      reads = λ told name other. ap (λ c. c name) (settles.reads told);
      moments = by_call store old new (LeavesBeside store Mine old) settles.time (λ i left. beside_none store Mine old i (inl left)) (λ i left. beside_none store Mine old i (now i left));
    }
      where
        now : (i : Image) → MayLeaveNow store new i → NowOrSynced store old i
        now i left = ⊎_elim (λ still. inl still) (λ rests. inr (tell new (store.moment new) i left, rests)) (settles.images i left)

    -- a change of one file that is Mine
    pub others_changed : (old new : S) (own name : List ℕ) (step : FileImage → FileImage → Type 0) → name ≡ own → Mine own → Changes store old new name step → KeepsOthers store Mine old new
    others_changed old new own name step is_own mine change = record {
      reads = λ told n other. change.beside told n (differs n other);
      moments = by_call store old new (LeavesBeside store Mine old) change.time
          (λ i left. beside_none store Mine old i (inl left))
          (λ i left. let d = change.images i left in (d.0, inl d.1, λ n other. d.2.there n (differs n other)));
    }
      where
        differs : (n : List ℕ) → (Mine n → ⊥) → n ≡ name → ⊥
        differs n other is = other (subst Mine (sym (is ∙ is_own)) mine)

    -- two calls
    pub others_then : (old mid new : S) → KeepsOthers store Mine old mid → KeepsOthers store Mine mid new → KeepsOthers store Mine old new
    others_then old mid new one other = record {
      reads = λ told name none. other.reads told name none ∙ one.reads told name none;
      moments = one_then_other store tell old mid new (LeavesBeside store Mine old) (LeavesBeside store Mine mid) (LeavesBeside store Mine old) one.moments other.moments (λ i told beside. beside) (λ i told beside. from_first i beside);
    }
      where
        from_first : (i : Image) → LeavesBeside store Mine mid i → LeavesBeside store Mine old i
        from_first i beside = ⊎_elim
            (λ left.
            let d = holds_now store old mid (LeavesBeside store Mine old) one.moments beside.0 left in
            let all : LeavesBeside store Mine old i = (d.0, d.1, λ name none. beside.2 name none ∙ d.2 name none) in
            all)
            (λ synced. (resting (store.seen old), inr (synced.0, λ name. refl), λ name none. beside.2 name none ∙ synced.1 name ∙ ap at_rest (one.reads synced.0 name none)))
            beside.1

  -- of more files that are Mine less is said
  pub others_of : (Mine All : List ℕ → Type 0) → ((name : List ℕ) → Mine name → All name) → (old new : S) → KeepsOthers store Mine old new → KeepsOthers store All old new
  others_of Mine All among old new one = record {
    reads = λ told name none. one.reads told name (λ mine. none (among name mine));
    moments = weaker store tell old new (LeavesBeside store Mine old) (LeavesBeside store All old) one.moments (λ i told beside. beside_more store Mine All among old i beside);
  }

  -- a call that is for one file alone
  pub others_of_one : (Mine : List ℕ → Type 0) (old new : S) (own name : List ℕ) → name ≡ own → Mine own → ReadsBeside store (λ n. n ≡ name) old new
      → EachMoment store old new (LeavesBeside store (λ n. n ≡ name) old) → KeepsOthers store Mine old new
  others_of_one Mine old new own name is_own mine reads moments =
      others_of (λ n. n ≡ name) Mine (λ n is. subst Mine (sym (is ∙ is_own)) mine) old new (record { reads = reads; moments = moments })

-- one call more
module _ {S : Type 0} (store : StoreWords S) (tell : ImagesTell store) {Mine : List ℕ → Type 0} {old mid : S} (so_far : KeepsOthers store Mine old mid) where
  pub then_others : {new : S} → KeepsOthers store Mine mid new → KeepsOthers store Mine old new
  then_others {new} more = others_then store tell Mine old mid new so_far more

  pub then_only_looked : (new : S) → Nothing store mid new → KeepsOthers store Mine old new
  then_only_looked new nothing = then_others (others_looked store tell Mine mid new nothing)

  pub then_synced : (new : S) → Settles store mid new → KeepsOthers store Mine old new
  then_synced new settles = then_others (others_synced store tell Mine mid new settles)

  pub then_changed : (new : S) (own name : List ℕ) (step : FileImage → FileImage → Type 0) → name ≡ own → Mine own → Changes store mid new name step → KeepsOthers store Mine old new
  then_changed new own name step is_own mine change = then_others (others_changed store tell Mine mid new own name step is_own mine change)

-- the checkpoint of one of these marks
pub is_marked : (marks : List Mark) (m : Mark) → Contains marks m → IsMarked marks m.file
is_marked marks m among = map_has (λ (m : Mark). m.file) marks m among

-- one mark more
pub marked_then : {S : Type 0} (store : StoreWords S) (tell : ImagesTell store) (marks : List Mark) (m : Mark) (old mid new : S) → Contains marks m → KeepsOthers store (IsMarked marks) old mid
    → KeepsOthers store (λ n. n ≡ m.file) mid new → KeepsOthers store (IsMarked marks) old new
marked_then store tell marks m old mid new among one other =
    others_then store tell (IsMarked marks) old mid new one (others_of store tell (λ n. n ≡ m.file) (IsMarked marks) (λ n is. subst (IsMarked marks) (sym is) (is_marked marks m among)) mid new other)

-- the files of which nothing is found are those of the folder
own_named : (folder : List ℕ) (kind : ℕ → Role) (numbers : List ℕ) → All (IsOwn (names_in folder)) (map (λ n. names_in folder (kind n)) numbers)
own_named folder kind [] = All-nil (IsOwn (names_in folder))
own_named folder kind (n ∷ numbers) = All-cons (IsOwn (names_in folder)) (names_in folder (kind n)) (map (λ n. names_in folder (kind n)) numbers) (kind n, refl) (own_named folder kind numbers)

own_unread : (folder : List ℕ) (top : ℕ) (l : Listing) → All (IsOwn (names_in folder)) (unread_names folder top l)
own_unread folder top l = All-append (IsOwn (names_in folder)) (pages_above folder top l.pages.items) (unpaired folder top l.pages.items l.checkpoints.items)
    (own_named folder page (filter (nat_lt top) l.pages.items)) (own_named folder checkpoint (filter (λ n. not (is_paired top l.pages.items n)) l.checkpoints.items))

pub unread_are_own : {S : Type 0} (store : StoreWords S) (tell : ImagesTell store) (folder : List ℕ) (top : ℕ) (l : Listing) (old new : S) (gone : List (List ℕ)) → gone ≡ unread_names folder top l
    → KeepsOthers store (Contains gone) old new → KeepsOthers store (IsOwn (names_in folder)) old new
unread_are_own store tell folder top l old new gone is kept =
    others_of store tell (Contains gone) (IsOwn (names_in folder)) (λ name among. All-contains (IsOwn (names_in folder)) (unread_names folder top l) name (own_unread folder top l) (subst (λ names. Contains names name) is among)) old new kept

-- a file of the folder
pub file_is_own : {S : Type 0} (store : StoreWords S) (tell : ImagesTell store) (folder : List ℕ) (role : Role) (file : List ℕ) (old new : S) → file ≡ names_in folder role → KeepsOthers store (λ n. n ≡ file) old new
    → KeepsOthers store (IsOwn (names_in folder)) old new
file_is_own store tell folder role file old new is_file kept = others_of store tell (λ n. n ≡ file) (IsOwn (names_in folder)) (λ n is. (role, is ∙ is_file)) old new kept

-- and two of them
pub files_are_own : {S : Type 0} (store : StoreWords S) (tell : ImagesTell store) (folder : List ℕ) (one other : Role) (file slots : List ℕ) (old new : S) → file ≡ names_in folder one → slots ≡ names_in folder other
    → KeepsOthers store (λ n. (n ≡ file) ⊎ (n ≡ slots)) old new → KeepsOthers store (IsOwn (names_in folder)) old new
files_are_own store tell folder one other file slots old new is_file are_slots kept =
    others_of store tell (λ n. (n ≡ file) ⊎ (n ≡ slots)) (IsOwn (names_in folder)) (λ n of. ⊎_elim (λ is. (one, is ∙ is_file)) (λ is. (other, is ∙ are_slots)) of) old new kept
