-- Several files are changed, one after the other.
use Rattle.std.proofs.Common.{◌≡◌, ◌≢◌, ◌⊎◌, inl, inr, ⊎_elim, ℕ, ◌+◌, ◌<◌, ◌≤◌, min, Bool, true, false, IsTrue, List, [], ◌∷◌, ◌++◌, length, take, drop, get_or, Option, Some, None, if◌then◌else◌, refl, sym, ◌∙◌, ap, subst, arith, length-append, take-take}
use Rattle.std.specs.Prelude.{Contains}
use Rattle.std.specs.Str.{bytes_eq}
use Rattle.std.specs.List.{sum}
use Rattle.std.proofs.lemmas.Bool.{cond-true, cond-false, false≢true}
use Rattle.std.proofs.lemmas.List.{drop_more, drop-drop, take_at}
use Rattle.std.proofs.lemmas.List.Sums.{sum_by-drop_more}
use Rattle.std.proofs.lemmas.Slice.Eq.{bytes_eq-Decides}
use Rattle.io_traits.specs.Folders.{Content}
use Rattle.io_traits.specs.Reads.{bytes_of, file_length}
use Rattle.io_traits.specs.Images.{Image, FileImage, TornFile, RemovedFile, Beside, at_rest}
use Rattle.io_traits.specs.Moments.{MayLeaveNow, EachMoment, ReadsBeside, ImagesTell}
use Rattle.io_traits.specs.declared.stores.Store.{Ghosts as StoreWords}
use Rattle.io_traits.proofs.Beside.{resting}
use Rattle.io_traits.proofs.Moments.{started, goes_on, holds_now}
use Rattle.io_traits.proofs.TailRuns.{Changes, Settles}
use Rattle.slot_files.specs.Changes.{HasFirst, KeepsFirst}
use Rattle.slot_files.specs.Each.{with_more, laid, without, KeepsBytes, GoneOrSame, AltersEach, Grows}
use Rattle.slot_files.proofs.Altering.{keeps_same}

-- ---- names

is_or_not : (name x : List ℕ) → ((name ≡ x) × (bytes_eq name x ≡ true)) ⊎ ((name ≢ x) × (bytes_eq name x ≡ false))
is_or_not name x = by (bytes_eq name x) refl
  where
    by : (b : Bool) → bytes_eq name x ≡ b → ((name ≡ x) × (bytes_eq name x ≡ true)) ⊎ ((name ≢ x) × (bytes_eq name x ≡ false))
    by true is = inl ((bytes_eq-Decides name x).0 is, is)
    by false is = inr ((λ same. absurd (false≢true (sym is ∙ (bytes_eq-Decides name x).1 same))), is)

pub split_at : (names : List (List ℕ)) (i : ℕ) (x : List ℕ) → x ≡ get_or names i x → i < length names → drop i names ≡ x ∷ drop (i + 1) names
split_at names i x is within = drop_more names i x within ∙ ap (λ n. n ∷ drop (i + 1) names) (sym is)

pub contains_at : (names : List (List ℕ)) (i : ℕ) (x : List ℕ) → x ≡ get_or names i x → i < length names → Contains names x
contains_at names i x is within = (i, within, sym is)

-- ---- what a stop leaves

module _ {S : Type 0} (store : StoreWords S) (tell : ImagesTell store) (names : List (List ℕ)) (may_differ : List ℕ → FileImage → FileImage → Type 0) (old : S) where
  abbrev Now : Image → Type 0
  Now = AltersEach store names may_differ old

  pub none_altered : EachMoment store old old Now
  none_altered = started store old Now (λ i left. (i, inl left, λ name. inl refl))

  -- one file more
  pub one_altered : (now new : S) (x name : List ℕ) (step : FileImage → FileImage → Type 0) → name ≡ x → Contains names x
      → (IsTrue store.tells → (f g h : FileImage) → (g ≡ f) ⊎ may_differ x f g → step g h → may_differ x f h) → EachMoment store old now Now → Changes store now new name step → EachMoment store old new Now
  one_altered now new x name step is_name among stepped so_far change = goes_on store old now new Now so_far change.time (λ i left. after i left)
    where
      differs : (f g : FileImage) → (g ≡ f) ⊎ (Contains names x × may_differ x f g) → (g ≡ f) ⊎ may_differ x f g
      differs f g was = ⊎_elim (λ same. inl same) (λ c. inr c.1) was

      after : (i : Image) → MayLeaveNow store new i → Now i
      after i left =
          let d = change.images i left in
          let was = holds_now store old now Now so_far d.0 d.1 in
          let told = tell new (store.moment new) i left in (
            was.0,
            was.1,
            λ n. ⊎_elim
                (λ (is : (n ≡ name) × (bytes_eq n name ≡ true)).
                let here : n ≡ x = is.0 ∙ is_name in
                let at_x : (i x ≡ was.0 x) ⊎ (Contains names x × may_differ x (was.0 x) (i x)) =
                inr (among, stepped told (was.0 x) (d.0 x) (i x) (differs (was.0 x) (d.0 x) (was.2 x)) (subst (λ m. step (d.0 m) (i m)) is_name d.2.here)) in
                subst (λ m. (i m ≡ was.0 m) ⊎ (Contains names m × may_differ m (was.0 m) (i m))) (sym here) at_x)
                (λ other.
                let same = d.2.there n other.0 in
                ⊎_elim (λ still. inl (same ∙ still)) (λ c. inr (c.0, subst (may_differ n (was.0 n)) (sym same) c.1)) (was.2 n))
                (is_or_not n name),
          )

  -- and a sync behind them
  pub each_settled : (mid new : S) → EachMoment store old mid Now → Settles store mid new
      → (IsTrue store.tells → (name : List ℕ) → (store.seen mid name ≡ store.seen old name) ⊎ (Contains names name × may_differ name (at_rest (store.seen old name)) (at_rest (store.seen mid name))))
      → EachMoment store old new Now
  each_settled mid new so_far settles reads = goes_on store old mid new Now so_far settles.time
      (λ i left. ⊎_elim
      (λ still. holds_now store old mid Now so_far i still)
      (λ rests.
      let told = tell new (store.moment new) i left in (
        resting (store.seen old),
        inr (told, λ n. refl),
        λ n. ⊎_elim
            (λ same. inl (rests n ∙ ap at_rest same))
            (λ c. inr (c.0, subst (may_differ n (at_rest (store.seen old n))) (sym (rests n)) c.1))
            (reads told n),
      ))
      (settles.images i left))

-- ---- appends

-- an append behind bytes that stay
pub more_keeps : (file now : Option (List ℕ)) (bytes : List ℕ) (f g h : FileImage) → file_length file ≤ file_length now → (g ≡ f) ⊎ KeepsFirst (file_length file) file f g → TornFile (file_length now) bytes g h
    → KeepsFirst (file_length file) file f h
more_keeps file now bytes f g h le was torn rest =
    let n = file_length file in
    let m = min (file_length now) (length (bytes_of g.file)) in
    let has : HasFirst n file g = ⊎_elim (λ same. subst (HasFirst n file) (sym same) (keeps_same n file f rest)) (λ keeps. keeps rest) was in
    let within : n ≤ m = omega (arith, le, has.no_shorter) in
    record {
      no_shorter = omega (arith, has.no_shorter, torn.torn.no_shorter);
      front = sym (take-take n m (bytes_of h.file) within) ∙ ap (take n) torn.torn.before ∙ take-take n m (bytes_of g.file) within ∙ has.front;
    }

-- bytes behind a file that has others in front
longer_has : (n : ℕ) (file now : Option (List ℕ)) (bytes : List ℕ) → n ≡ file_length file → (now ≡ file) ⊎ HasFirst n file (at_rest now) → HasFirst n file (at_rest (Some (bytes_of now ++ bytes)))
longer_has n file now bytes is was =
    let has : HasFirst n file (at_rest now) = ⊎_elim (λ same. subst (λ o. HasFirst n file (at_rest o)) (sym same) (keeps_same n file (at_rest file) refl)) (λ h. h) was in
    let within : n ≤ length (bytes_of now) = omega (arith, has.no_shorter, is) in
    record {
      no_shorter = omega (arith, has.no_shorter, length-append (bytes_of now) bytes);
      front = sym (take-take n (length (bytes_of now)) (bytes_of now ++ bytes) within) ∙ ap (take n) (take_at (bytes_of now) bytes (length (bytes_of now)) refl) ∙ has.front;
    }

same_laid : (names : List (List ℕ)) (sizes : List ℕ) (bytes : List ℕ) (a b : Content) → ((name : List ℕ) → a name ≡ b name) → (name : List ℕ) → laid names sizes bytes a name ≡ laid names sizes bytes b name
same_laid [] sizes bytes a b same name = same name
same_laid (x ∷ names) [] bytes a b same name = same name
same_laid (x ∷ names) (n ∷ sizes) bytes a b same name =
    same_laid names sizes (drop n bytes) (with_more x (take n bytes) a) (with_more x (take n bytes) b) (λ m. ap (λ (o : Option (List ℕ)). if bytes_eq m x then Some (bytes_of o ++ take n bytes) else o) (same m)) name

-- one more file has taken its part
pub laid_more : (names : List (List ℕ)) (sizes bytes : List ℕ) (i at n : ℕ) (x : List ℕ) (old now new : Content) → drop i names ≡ x ∷ drop (i + 1) names → drop i sizes ≡ n ∷ drop (i + 1) sizes
    → ((name : List ℕ) → laid names sizes bytes old name ≡ laid (drop i names) (drop i sizes) (drop at bytes) now name) → new x ≡ Some (bytes_of (now x) ++ take n (drop at bytes)) → Beside x now new
    → (name : List ℕ) → laid names sizes bytes old name ≡ laid (drop (i + 1) names) (drop (i + 1) sizes) (drop (at + n) bytes) new name
laid_more names sizes bytes i at n x old now new names_split sizes_split so_far written beside name =
    so_far name
    ∙ ap (λ l. laid l (drop i sizes) (drop at bytes) now name) names_split
    ∙ ap (λ l. laid (x ∷ drop (i + 1) names) l (drop at bytes) now name) sizes_split
    ∙ same_laid (drop (i + 1) names) (drop (i + 1) sizes) (drop n (drop at bytes)) (with_more x (take n (drop at bytes)) now) new is_new name
    ∙ ap (λ l. laid (drop (i + 1) names) (drop (i + 1) sizes) l new name) (drop-drop n at bytes)
  where
    is_new : (m : List ℕ) → with_more x (take n (drop at bytes)) now m ≡ new m
    is_new m = ⊎_elim
        (λ is. cond-true (bytes_eq m x) _ _ is.1 ∙ ap (λ (k : List ℕ). Some (bytes_of (now k) ++ take n (drop at bytes))) is.0 ∙ sym written ∙ ap new (sym is.0))
        (λ other. cond-false (bytes_eq m x) _ _ other.1 ∙ sym (beside m other.0))
        (is_or_not m x)

module _ {S : Type 0} (store : StoreWords S) (names : List (List ℕ)) (old : S) where
  pub none_grown : Grows store names old old
  none_grown told name = inl refl

  pub grown_long : (now : S) → Grows store names old now → IsTrue store.tells → (name : List ℕ) → file_length (store.seen old name) ≤ file_length (store.seen now name)
  grown_long now grows told name = ⊎_elim
      (λ same. let e : file_length (store.seen now name) ≡ file_length (store.seen old name) = ap file_length same in omega (arith, e))
      (λ c. let n = c.1.no_shorter in omega (arith, n))
      (grows told name)

  pub one_grown : (now new : S) (x name bytes : List ℕ) → name ≡ x → Contains names x → Grows store names old now → (IsTrue store.tells → store.seen new name ≡ Some (bytes_of (store.seen now name) ++ bytes))
      → (IsTrue store.tells → Beside name (store.seen now) (store.seen new)) → Grows store names old new
  one_grown now new x name bytes is_name among so_far written beside told n = ⊎_elim
      (λ is.
      let has = longer_has (file_length (store.seen old n)) (store.seen old n) (store.seen now n) bytes refl (⊎_elim (λ same. inl same) (λ c. inr c.1) (so_far told n)) in
      let here : store.seen new n ≡ Some (bytes_of (store.seen now n) ++ bytes) = ap (store.seen new) is.0 ∙ written told ∙ ap (λ (m : List ℕ). Some (bytes_of (store.seen now m) ++ bytes)) (sym is.0) in
      inr (subst (Contains names) (sym (is.0 ∙ is_name)) among, subst (λ o. HasFirst (file_length (store.seen old n)) (store.seen old n) (at_rest o)) (sym here) has))
      (λ other.
      let same = beside told n other.0 in
      ⊎_elim (λ still. inl (same ∙ still)) (λ c. inr (c.0, subst (λ o. HasFirst (file_length (store.seen old n)) (store.seen old n) (at_rest o)) (sym same) c.1)) (so_far told n))
      (is_or_not n name)

  -- other files read as before
  pub grows_beside : (now : S) → Grows store names old now → ReadsBeside store (Contains names) old now
  grows_beside now grows told name other = ⊎_elim (λ same. same) (λ c. absurd (other c.0)) (grows told name)

  pub grown_keeps : (mid : S) → Grows store names old mid → IsTrue store.tells → (name : List ℕ)
      → (store.seen mid name ≡ store.seen old name) ⊎ (Contains names name × KeepsBytes (store.seen old) name (at_rest (store.seen old name)) (at_rest (store.seen mid name)))
  grown_keeps mid grows told name = ⊎_elim (λ same. inl same) (λ c. inr (c.0, λ rest. c.1)) (grows told name)

-- a change of one of these files leaves all others
pub changed_beside : {S : Type 0} (store : StoreWords S) (names : List (List ℕ)) (old now new : S) (x name : List ℕ) → name ≡ x → Contains names x → ReadsBeside store (Contains names) old now
    → (IsTrue store.tells → Beside name (store.seen now) (store.seen new)) → ReadsBeside store (Contains names) old new
changed_beside store names old now new x name is_name among so_far beside told n other =
    beside told n (λ is. other (subst (Contains names) (sym (is ∙ is_name)) among)) ∙ so_far told n other

pub size_left : (sizes : List ℕ) (i : ℕ) → i < length sizes → sum (drop i sizes) ≡ get_or sizes i 0 + sum (drop (i + 1) sizes)
size_left sizes i less = sum_by-drop_more (λ x. x) sizes i 0 less

-- ---- removals

same_without : (names : List (List ℕ)) (a b : Content) → ((name : List ℕ) → a name ≡ b name) → (name : List ℕ) → without names a name ≡ without names b name
same_without [] a b same name = same name
same_without (x ∷ names) a b same name =
    same_without names (λ n. if bytes_eq n x then None else a n) (λ n. if bytes_eq n x then None else b n) (λ n. ap (λ (o : Option (List ℕ)). if bytes_eq n x then None else o) (same n)) name

pub without_more : (names : List (List ℕ)) (i : ℕ) (x : List ℕ) (old now new : Content) → drop i names ≡ x ∷ drop (i + 1) names
    → ((name : List ℕ) → without names old name ≡ without (drop i names) now name) → new x ≡ None → Beside x now new → (name : List ℕ) → without names old name ≡ without (drop (i + 1) names) new name
without_more names i x old now new split so_far removed beside name =
    so_far name ∙ ap (λ l. without l now name) split ∙ same_without (drop (i + 1) names) (λ n. if bytes_eq n x then None else now n) new is_new name
  where
    is_new : (n : List ℕ) → (if bytes_eq n x then None else now n) ≡ new n
    is_new n = ⊎_elim
        (λ is. cond-true (bytes_eq n x) None (now n) is.1 ∙ sym (ap new is.0 ∙ removed))
        (λ other. cond-false (bytes_eq n x) None (now n) other.1 ∙ sym (beside n other.0))
        (is_or_not n x)

pub removed_more : (x : List ℕ) (f g h : FileImage) → (g ≡ f) ⊎ GoneOrSame x f g → RemovedFile g h → GoneOrSame x f h
removed_more x f g h was step = ⊎_elim
    (λ gone. inl gone)
    (λ same. ⊎_elim (λ is. inr (same ∙ ap (λ (k : FileImage). k.file) is)) (λ w. ⊎_elim (λ gone. inl (same ∙ gone)) (λ still. inr (same ∙ still)) w) was)
    step.gone
