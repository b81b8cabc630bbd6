-- The files of which nothing is found, and the folder without them.
use Rattle.std.proofs.Common.{◌≡◌, ◌⊎◌, inl, inr, ⊎_elim, ℕ, ◌<◌, ◌≤◌, ◌^◌, ◌&&◌, ◌==◌, not, nat_lt, Bool, true, false, List, [], ◌∷◌, filter, Option, Some, None, IsSome, Ok, if◌then◌else◌, refl, sym, ◌∙◌, ap, subst, arith}
use Rattle.std.proofs.lemmas.Bool.{cond-true, false≢true, not-true, not_from_false}
use Rattle.std.proofs.lemmas.Bool.Decides.{nat_tests}
use Rattle.std.proofs.lemmas.List.Elements.{Contains-append_cases, Contains-append_left, Contains-append_right}
use Rattle.std.proofs.lemmas.Slice.Eq.{bytes_eq-Decides}
use Rattle.std.specs.List.{list_any}
use Rattle.std.specs.Prelude.{Contains}
use Rattle.std.specs.Str.{bytes_eq}
use Rattle.io_traits.specs.Folders.{Content}
use Rattle.io_traits.specs.Images.{Image, FileImage, IsAtRest}
use Rattle.io_traits.specs.Moments.{ImagesTell}
use Rattle.io_traits.specs.declared.stores.Store.{Ghosts as StoreWords}
use Rattle.io_traits.proofs.Moments.{started, weaker}
use Rattle.io_traits.specs.declared.pages.PageState.{PageState}
use Rattle.queue_files.specs.Folders.{Role, head, page, checkpoint, Folder, Names, names_in, folder_in}
use Rattle.queue_files.specs.Checkpoints.{told}
use Rattle.queue_files.specs.Found.{found}
use Rattle.queue_files.proofs.ApartNames.{names_apart}
use Rattle.queue_files.specs.Listing.{IsListed}
use Rattle.queue_files.specs.Marks.{read_in}
use Rattle.queue_files.specs.Removing.{without, LacksSome, files_of, IsUnread, RemovalLeaves, RemovesAll}
use Rattle.queue_files.specs.Unread.{is_paired, pages_above, unpaired, unread_names, IsTidied, IsRead, StaysFound, LeavesTidy}
use Rattle.queue_files.specs.declared.listing.Listing.{Listing}
use Rattle.queue_files.proofs.Members.{any_decides, first_or_later, filter_has, has_filtered, map_has, has_mapped}
use Rattle.queue_files.proofs.Removals.{unread_may_go, without_lacks}

pub none_if_not : {X : Type 0} (o : Option X) → (IsSome o → ⊥) → o ≡ None
none_if_not None none = refl
none_if_not (Some x) none = absurd (none refl)

some_or_none : {X : Type 0} (o : Option X) → IsSome o ⊎ (o ≡ None)
some_or_none None = inr refl
some_or_none (Some x) = inl refl

-- ---- folders at rest

same_folder : (a b : Folder) → ((role : Role) → b role ≡ a role) → b ≡ a
same_folder a b same = λ i role. same role i

pub rest_found : (names : Names) (content : Content) (i : Image) → IsAtRest content i → found (folder_in names i) ≡ found (read_in names content)
rest_found names content i rest = ap found (same_folder (read_in names content) (folder_in names i) (λ role. ap (λ (f : FileImage). f.file) (rest (names role))))

-- ---- names that are gone

without_none : (names : List (List ℕ)) (content : Content) (name : List ℕ) → content name ≡ None → without names content name ≡ None
without_none [] content name none = none
without_none (x ∷ names) content name none = without_none names (λ n. if bytes_eq n x then None else content n) name (by (bytes_eq name x))
  where
    by : (b : Bool) → (if b then None else content name) ≡ None
    by true = refl
    by false = none

without_gone : (names : List (List ℕ)) (content : Content) (name : List ℕ) → Contains names name → without names content name ≡ None
without_gone [] content name c = absurd (omega (arith, c.1))
without_gone (x ∷ names) content name c = ⊎_elim
    (λ (same : x ≡ name). without_none names (λ n. if bytes_eq n x then None else content n) name (cond-true (bytes_eq name x) None (content name) ((bytes_eq-Decides name x).1 (sym same))))
    (λ later. without_gone names (λ n. if bytes_eq n x then None else content n) name later)
    (first_or_later x names name c)

-- ---- which files go

module _ (text : List ℕ) (folder : Folder) (s : PageState) (l : Listing) (listed : IsListed folder l) where
  abbrev pages : List ℕ
  pages = l.pages.items

  unread_page : (n : ℕ) → Contains (filter (nat_lt s.page) pages) n → s.page < n
  unread_page n c = grind (arith, nat_tests, (has_filtered (nat_lt s.page) pages n c).1)

  no_page : (n : ℕ) → n < 2 ^ 32 → list_any (λ m. m == n) pages ≡ false → folder (page n) ≡ None
  no_page n fits none = none_if_not (folder (page n)) (λ some. false≢true (sym none ∙ (any_decides pages n).1 ((listed.pages.each n).1 (fits, some))))

  unread_checkpoint : (n : ℕ) → Contains (filter (λ n. not (is_paired s.page pages n)) l.checkpoints.items) n → IsUnread folder s (checkpoint n)
  unread_checkpoint n c =
      let has = has_filtered (λ n. not (is_paired s.page pages n)) l.checkpoints.items n c in
      let fits = ((listed.checkpoints.each n).0 has.0).0 in
      by_tests (nat_lt n s.page) (list_any (λ m. m == n) pages) (λ is. grind (arith, nat_tests, is)) (no_page n fits) (not-true (is_paired s.page pages n) has.1)
    where
      by_tests : (x y : Bool) → (x ≡ false → s.page ≤ n) → (y ≡ false → folder (page n) ≡ None) → (x && y) ≡ false → IsUnread folder s (checkpoint n)
      by_tests false y above none is = inl (above refl)
      by_tests true y above none is = inr (none is)

  pub all_unread : (role : Role) → Contains (unread_names text s.page l) (names_in text role) → IsUnread folder s role
  all_unread role c = ⊎_elim
      (λ above. let m = has_mapped (λ n. names_in text (page n)) (filter (nat_lt s.page) pages) (names_in text role) above in
      subst (IsUnread folder s) (names_apart text (page m.0) role m.2) (unread_page m.0 m.1))
      (λ alone. let m = has_mapped (λ n. names_in text (checkpoint n)) (filter (λ n. not (is_paired s.page pages n)) l.checkpoints.items) (names_in text role) alone in
      subst (IsUnread folder s) (names_apart text (checkpoint m.0) role m.2) (unread_checkpoint m.0 m.1))
      (Contains-append_cases (pages_above text s.page pages) (unpaired text s.page pages l.checkpoints.items) (names_in text role) c)

  page_goes : (n : ℕ) → s.page < n → n < 2 ^ 32 → IsSome (folder (page n)) → Contains (unread_names text s.page l) (names_in text (page n))
  page_goes n above fits some =
      Contains-append_left (pages_above text s.page pages) (unpaired text s.page pages l.checkpoints.items) (names_in text (page n))
      (map_has (λ n. names_in text (page n)) (filter (nat_lt s.page) pages) n (filter_has (nat_lt s.page) pages n ((listed.pages.each n).1 (fits, some)) (grind (arith, nat_tests, above))))

  checkpoint_goes : (n : ℕ) → s.page ≤ n → n < 2 ^ 32 → IsSome (folder (checkpoint n)) → Contains (unread_names text s.page l) (names_in text (checkpoint n))
  checkpoint_goes n from fits some =
      let not_below : nat_lt n s.page ≡ false = grind (arith, nat_tests, from) in
      let unpaired_is : not (is_paired s.page pages n) ≡ true = not_from_false (is_paired s.page pages n) (ap (λ (b : Bool). b && list_any (λ m. m == n) pages) not_below) in
      Contains-append_right (pages_above text s.page pages) (unpaired text s.page pages l.checkpoints.items) (names_in text (checkpoint n))
      (map_has (λ n. names_in text (checkpoint n)) (filter (λ n. not (is_paired s.page pages n)) l.checkpoints.items) n
      (filter_has (λ n. not (is_paired s.page pages n)) l.checkpoints.items n ((listed.checkpoints.each n).1 (fits, some)) unpaired_is))

-- ---- the folder without them

module _ (text : List ℕ) (old new : Content) (s : PageState) (l : Listing) (listed : IsListed (read_in (names_in text) old) l) (tells : told (old (names_in text head)) ≡ Ok s)
    (reads : (name : List ℕ) → new name ≡ without (unread_names text s.page l) old name) where
  abbrev gone : List (List ℕ)
  gone = unread_names text s.page l

  unread : (role : Role) → Contains gone (names_in text role) → IsUnread (read_in (names_in text) old) s role
  unread = all_unread text (read_in (names_in text) old) s l listed

  lacks : LacksSome gone old new
  lacks name = ⊎_elim (λ same. inl (reads name ∙ same)) (λ none. inr (reads name ∙ none.0, none.1)) (without_lacks gone old name)

  none_left : (role : Role) → (IsSome (old (names_in text role)) → Contains gone (names_in text role)) → new (names_in text role) ≡ None
  none_left role goes = ⊎_elim (λ some. reads (names_in text role) ∙ without_gone gone old (names_in text role) (goes some)) (λ none. reads (names_in text role) ∙ without_none gone old (names_in text role) none)
      (some_or_none (old (names_in text role)))

  paired : (n : ℕ) → n < s.page → IsSome (old (names_in text (page n))) → IsUnread (read_in (names_in text) old) s (checkpoint n) → ⊥
  paired n below some is = ⊎_elim (λ above. omega (arith, below, above)) (λ none. false≢true (subst (λ (o : Option (List ℕ)). IsSome o) none some)) is

  pub tidied : IsTidied s (read_in (names_in text) old) (read_in (names_in text) new)
  tidied = record {
    pages = λ n within. ⊎_elim (λ same. same) (λ none. absurd (omega (arith, within, unread (page n) none.1))) (lacks (names_in text (page n)));
    slots = λ n below some. ⊎_elim (λ same. same) (λ none. absurd (paired n below some (unread (checkpoint n) none.1))) (lacks (names_in text (checkpoint n)));
    head_is = ⊎_elim (λ same. same) (λ none. absurd (unread head none.1)) (lacks (names_in text head));
    found_is = unread_may_go (names_in text) gone old new s tells unread lacks;
    no_pages = λ n above fits. none_left (page n) (page_goes text (read_in (names_in text) old) s l listed n above fits);
    no_checkpoints = λ n from fits. none_left (checkpoint n) (checkpoint_goes text (read_in (names_in text) old) s l listed n from fits);
  }

-- ---- the call

module _ {S : Type 0} (store : StoreWords S) (tell : ImagesTell store) (text : List ℕ) (l : Listing) (s : PageState) (old new : S) (read : IsRead store (names_in text) l s old) where
  pub none_goes : StaysFound store (names_in text) old old
  none_goes = started store old (λ i. found (folder_in (names_in text) i) ≡ found (read_in (names_in text) (store.seen old))) (λ i left. rest_found (names_in text) (store.seen old) i (read.rests i left))

  pub unread_go : (names : List (List ℕ)) → names ≡ unread_names text s.page l → RemovalLeaves store names old new → StaysFound store (names_in text) old new
  unread_go names are leaves = weaker store tell old new (λ i. LacksSome names (store.seen old) (files_of i)) (λ i. found (folder_in (names_in text) i) ≡ found (read_in (names_in text) (store.seen old)))
      (leaves read.rests)
      (λ i told lacks. unread_may_go (names_in text) (unread_names text s.page l) (store.seen old) (files_of i) s (read.tells told) (all_unread text (read_in (names_in text) (store.seen old)) s l (read.listed told))
      (subst (λ gone. LacksSome gone (store.seen old) (files_of i)) are lacks))

  pub unread_are_gone : (names : List (List ℕ)) → names ≡ unread_names text s.page l → RemovesAll store names old new → LeavesTidy store (names_in text) s old new
  unread_are_gone names are removes = record {
    rests = removes.rests;
    tidied = λ told. tidied text (store.seen old) (store.seen new) s l (read.listed told) (read.tells told)
        (λ name. removes.reads told name ∙ ap (λ gone. without gone (store.seen old) name) are);
  }
