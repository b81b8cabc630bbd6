-- Files that are removed, one by one.
use Rattle.std.proofs.Common.{◌≡◌, ◌≢◌, ◌⊎◌, inl, inr, ⊎_elim, ℕ, zero, suc, ◌+◌, ◌<◌, ◌≤◌, Bool, true, false, IsTrue, List, [], ◌∷◌, length, drop, get_or, Option, None, if◌then◌else◌, Result, Ok, Err, OnOk, refl, sym, ◌∙◌, ap, subst, arith}
use Rattle.std.specs.Prelude.{Contains}
use Rattle.std.specs.Str.{bytes_eq}
use Rattle.std.proofs.lemmas.Bool.{cond-true, cond-false, false≢true}
use Rattle.std.proofs.lemmas.List.{drop_more}
use Rattle.std.proofs.lemmas.Slice.Eq.{bytes_eq-Decides}
use Rattle.io_traits.specs.Folders.{Content}
use Rattle.io_traits.specs.Reads.{bytes_of}
use Rattle.io_traits.specs.Images.{Image, FileImage, RemovedFile, IsAtRest, Beside}
use Rattle.io_traits.specs.Moments.{MayLeaveNow, ImagesTell}
use Rattle.io_traits.specs.declared.stores.Store.{Ghosts as StoreWords}
use Rattle.io_traits.proofs.Moments.{started, goes_on, holds_now}
use Rattle.io_traits.proofs.TailRuns.{Changes, Settles}
use Rattle.queue_page.specs.Pages.{opened}
use Rattle.queue_files.specs.Folders.{head, page, checkpoint}
use Rattle.queue_files.specs.Checkpoints.{told}
use Rattle.queue_files.proofs.Others.{found_goes_by_pages}
use Rattle.queue_files.specs.Marks.{read_in}
use Rattle.queue_files.specs.Removing.{without, LacksSome, files_of, UnreadFilesMayGo, RemovalLeaves, RemovesAll}

-- ---- names

pub split_at : (names : List (List ℕ)) (i : ℕ) (x : List ℕ) → x ≡ get_or names i x → i < length names → drop i names ≡ x ∷ drop (i + 1) names
split_at names i x is within = drop_more names i x within ∙ ap (λ n. n ∷ drop (i + 1) names) (sym is)

pub is_or_not : (name x : List ℕ) → (name ≡ x) ⊎ ((name ≢ x) × (bytes_eq name x ≡ false))
is_or_not name x = by (bytes_eq name x) refl
  where
    by : (b : Bool) → bytes_eq name x ≡ b → (name ≡ x) ⊎ ((name ≢ x) × (bytes_eq name x ≡ false))
    by true is = inl ((bytes_eq-Decides name x).0 is)
    by false is = inr ((λ same. absurd (false≢true (sym is ∙ (bytes_eq-Decides name x).1 same))), is)

contains_later : (x name : List ℕ) (names : List (List ℕ)) → Contains names name → Contains (x ∷ names) name
contains_later x name names c = (suc c.0, omega (arith, c.1), c.2)

contains_first : (x name : List ℕ) (names : List (List ℕ)) → name ≡ x → Contains (x ∷ names) name
contains_first x name names is = (0, omega arith, sym is)

pub contains_at : (names : List (List ℕ)) (i : ℕ) (x : List ℕ) → drop i names ≡ x ∷ drop (i + 1) names → Contains names x
contains_at names i x split = from names i (drop (i + 1) names) split
  where
    from : (names : List (List ℕ)) (i : ℕ) (rest : List (List ℕ)) → drop i names ≡ x ∷ rest → Contains names x
    from names zero rest is = subst (λ l. Contains l x) (sym is) (contains_first x x rest refl)
    from [] (suc i) rest is = absurd cc
    from (y ∷ names) (suc i) rest is = contains_later y x names (from names i rest is)

-- ---- what reads give

without_same : (names : List (List ℕ)) (a b : Content) → ((name : List ℕ) → a name ≡ b name) → (name : List ℕ) → without names a name ≡ without names b name
without_same [] a b same name = same name
without_same (x ∷ names) a b same name =
    without_same names (λ n. if bytes_eq n x then None else a n) (λ n. if bytes_eq n x then None else b n) (λ n. ap (λ (o : Option (List ℕ)). if bytes_eq n x then None else o) (same n)) name

pub without_lacks : (names : List (List ℕ)) (content : Content) → LacksSome names content (without names content)
without_lacks [] content name = inl refl
without_lacks (x ∷ names) content name =
    let now : Content = λ n. if bytes_eq n x then None else content n in
    ⊎_elim
    (λ same. ⊎_elim
    (λ (is : name ≡ x). inr (same ∙ cond-true (bytes_eq name x) None (content name) ((bytes_eq-Decides name x).1 is), contains_first x name names is))
    (λ other. inl (same ∙ cond-false (bytes_eq name x) None (content name) other.1))
    (is_or_not name x))
    (λ gone. inr (gone.0, contains_later x name names gone.1))
    (without_lacks names now name)

-- one more is gone
pub without_more : (names : List (List ℕ)) (i : ℕ) (x : List ℕ) (old now new : Content) → drop i names ≡ x ∷ drop (i + 1) names
    → ((name : List ℕ) → without names old name ≡ without (drop i names) now name) → new x ≡ None → Beside x now new → (name : List ℕ) → without names old name ≡ without (drop (i + 1) names) new name
without_more names i x old now new split so_far removed beside name =
    so_far name ∙ ap (λ l. without l now name) split ∙ without_same (drop (i + 1) names) (λ n. if bytes_eq n x then None else now n) new is_new name
  where
    is_new : (n : List ℕ) → (if bytes_eq n x then None else now n) ≡ new n
    is_new n = ⊎_elim
        (λ (is : n ≡ x). cond-true (bytes_eq n x) None (now n) ((bytes_eq-Decides n x).1 is) ∙ sym (ap new is ∙ removed))
        (λ other. cond-false (bytes_eq n x) None (now n) other.1 ∙ sym (beside n other.0))
        (is_or_not n x)

-- ---- what a stop leaves

module _ {S : Type 0} (store : StoreWords S) (tell : ImagesTell store) (names : List (List ℕ)) (old : S) where
  abbrev pub Lacks : Image → Type 0
  Lacks i = LacksSome names (store.seen old) (files_of i)

  pub none_removed : RemovalLeaves store names old old
  none_removed rests = started store old Lacks (λ i left name. inl (ap (λ (f : FileImage). f.file) (rests i left name)))

  pub one_removed : (now new : S) (x name : List ℕ) → name ≡ x → Contains names x → RemovalLeaves store names old now → Changes store now new name RemovedFile → RemovalLeaves store names old new
  one_removed now new x name is_name among so_far change rests = goes_on store old now new Lacks (so_far rests) change.time
      (λ i left n.
      let d = change.images i left in
      let was = holds_now store old now Lacks (so_far rests) d.0 d.1 n in
      ⊎_elim
      (λ (is : n ≡ name). ⊎_elim
      (λ gone. inr (ap (λ k. (i k).file) is ∙ gone, subst (Contains names) (sym (is ∙ is_name)) among))
      (λ same. still n (ap (λ k. (i k).file) is ∙ same ∙ ap (λ k. (d.0 k).file) (sym is)) was)
      d.2.here.gone)
      (λ other. still n (ap (λ (f : FileImage). f.file) (d.2.there n other.0)) was)
      (is_or_not n name))
    where
      still : (n : List ℕ) {a b : Option (List ℕ)} → b ≡ a → (a ≡ store.seen old n) ⊎ ((a ≡ None) × Contains names n) → (b ≡ store.seen old n) ⊎ ((b ≡ None) × Contains names n)
      still n same was = ⊎_elim (λ is. inl (same ∙ is)) (λ gone. inr (same ∙ gone.0, gone.1)) was

  pub all_settled : (mid new : S) → RemovalLeaves store names old mid → (IsTrue store.tells → (name : List ℕ) → store.seen mid name ≡ without names (store.seen old) name) → Settles store mid new
      → RemovalLeaves store names old new
  all_settled mid new so_far gone settles rests = goes_on store old mid new Lacks (so_far rests) settles.time
      (λ i left. ⊎_elim
      (λ still. holds_now store old mid Lacks (so_far rests) i still)
      (λ rest n.
      let is = ap (λ (f : FileImage). f.file) (rest n) ∙ gone (tell new (store.moment new) i left) n in
      ⊎_elim (λ same. inl (is ∙ same)) (λ none. inr (is ∙ none.0, none.1)) (without_lacks names (store.seen old) n))
      (settles.images i left))

  pub all_removed : {A E : Type 0} (mid new : S) (result : Result A E) → (IsTrue store.tells → (name : List ℕ) → store.seen mid name ≡ without names (store.seen old) name) → Settles store mid new
      → OnOk result ((i : Image) → MayLeaveNow store new i → IsAtRest (store.seen mid) i) → OnOk result (RemovesAll store names old new)
  all_removed mid new (Ok x) gone settles durable = record {
    reads = λ told name. ap (λ (c : Content). c name) (settles.reads told) ∙ gone told name;
    rests = λ i left. subst (λ (c : Content). IsAtRest c i) (sym (settles.reads (tell new (store.moment new) i left))) (durable i left);
  }
  all_removed mid new (Err e) gone settles durable = tt

-- ---- what is found

pub unread_may_go : UnreadFilesMayGo
unread_may_go names gone old new s tells unread lacks =
    let same_page : (n : ℕ) → n ≤ s.page → new (names (page n)) ≡ old (names (page n)) = λ n within. ⊎_elim (λ same. same) (λ none. absurd (omega (arith, within, unread (page n) none.1))) (lacks (names (page n))) in
    let same_head : new (names head) ≡ old (names head) = ⊎_elim (λ same. same) (λ none. absurd (unread head none.1)) (lacks (names head)) in
    found_goes_by_pages (read_in names old) (read_in names new) s tells (ap told same_head ∙ tells) (λ n less. same_page n (omega (arith, less)))
    (λ n less. ⊎_elim (λ same. inl same)
    (λ none. ⊎_elim (λ above. absurd (omega (arith, less, above))) (λ missing. inr missing) (unread (checkpoint n) none.1)) (lacks (names (checkpoint n))))
    (ap (λ (o : Option (List ℕ)). opened true s (bytes_of o)) (same_page s.page (omega arith)))
