-- Where a key stands among keys that rise, and what that says of a change there.
use Rattle.std.proofs.Common.{◌≡◌, ℕ, zero, suc, ◌<◌, ◌≤◌, List, [], ◌∷◌, length, Some, None, Result, Ok, Err, refl, sym, ap, subst, ◌∙◌, arith, slice_get, rules}
use Rattle.std.specs.Map.{keys_of}
use Rattle.std.specs.Ordering.{match_ordering}
use Rattle.std.specs.declared.cmp.Ordering.TheVariants.{Less, Equal, Greater}
use Rattle.plain_data.specs.Keys.{text_cmp}
use Rattle.plain_data.specs.Members.{Rises, get_member}
use Rattle.plain_data.specs.Find.{IsFoundAt, IsAbsentAt}
use Rattle.plain_data.proofs.KeyLemmas.{order_cases, same_from_Equal, text_cmp-flip, text_cmp-trans, Below-trans}
use Rattle.plain_data.proofs.MemberLemmas.{Below-get, get_member-below, remove_member-absent}

-- a place one further on
abbrev pub further : Result ℕ ℕ → Result ℕ ℕ
further (Ok i) = Ok (suc i)
further (Err i) = Err (suc i)

-- the place of the key k, as `Ok`, or as `Err` the place where it would go
abbrev pub find_member : {V : Type 0} → List ℕ → List (List ℕ × V) → Result ℕ ℕ
find_member k [] = Err 0
find_member k (m ∷ ms) = match_ordering (text_cmp k m.0) (Err 0) (Ok 0) (further (find_member k ms))

-- the first place that is not below the key
abbrev pub first_not_below : Result ℕ ℕ → ℕ
first_not_below (Ok i) = i
first_not_below (Err i) = i

-- the first place that is above the key
abbrev pub first_above : Result ℕ ℕ → ℕ
first_above (Ok i) = suc i
first_above (Err i) = i

first_not_below-further : (r : Result ℕ ℕ) → first_not_below (further r) ≡ suc (first_not_below r)
first_not_below-further (Ok i) = refl
first_not_below-further (Err i) = refl

first_above-further : (r : Result ℕ ℕ) → first_above (further r) ≡ suc (first_above r)
first_above-further (Ok i) = refl
first_above-further (Err i) = refl

further-Ok : (r : Result ℕ ℕ) (i : ℕ) → further r ≡ Ok i → (j : ℕ) × (r ≡ Ok j) × (suc j ≡ i)
further-Ok (Ok j) i is = (j, refl, search (is, rules))
further-Ok (Err j) i is = absurd (search (is, rules))

further-Err : (r : Result ℕ ℕ) (i : ℕ) → further r ≡ Err i → (j : ℕ) × (r ≡ Err j) × (suc j ≡ i)
further-Err (Ok j) i is = absurd (search (is, rules))
further-Err (Err j) i is = (j, refl, search (is, rules))

-- a search that has nothing left between its ends has its answer
pub find_member-end : (r : Result ℕ ℕ) (low high : ℕ) → low ≤ first_not_below r → first_above r ≤ high → high ≤ low → r ≡ Err low
find_member-end (Ok i) low high front back done = absurd (omega arith)
find_member-end (Err i) low high front back done = let e : i ≡ low = omega arith in ap Err e

module _ {V : Type 0} (k : List ℕ) where
  pub find_member-within : (ms : List (List ℕ × V)) → first_above (find_member k ms) ≤ length ms
  find_member-within [] = omega arith
  find_member-within (m ∷ ms) = order_cases (text_cmp k m.0)
      (λ e. rw e (omega arith))
      (λ e. rw e (omega arith))
      (λ e. rw e (omega (arith, first_above-further (find_member k ms), find_member-within ms)))

  -- a member below the key stands before its place
  pub find_member-above : (ms : List (List ℕ × V)) (i : ℕ) (m : List ℕ × V) → Rises ms → slice_get ms i ≡ Some m → text_cmp k m.0 ≡ Greater → i < first_not_below (find_member k ms)
  find_member-above [] i m rises is e = absurd (search (is, rules))
  find_member-above (n ∷ ms) zero m rises is e =
      let same : n ≡ m = search (is, rules) in
      let greater : text_cmp k n.0 ≡ Greater = ap (λ (x : List ℕ × V). text_cmp k x.0) same ∙ e in
      rw greater (omega (arith, first_not_below-further (find_member k ms)))
  find_member-above (n ∷ ms) (suc i) m rises is e =
      let less : text_cmp n.0 k ≡ Less = text_cmp-trans n.0 m.0 k (Below-get n.0 ms i m rises.0 is) (text_cmp-flip k m.0 Greater e) in
      let greater : text_cmp k n.0 ≡ Greater = text_cmp-flip n.0 k Less less in
      rw greater (omega (arith, first_not_below-further (find_member k ms), find_member-above ms i m rises.1 is e))

  -- a member above the key stands past its place
  pub find_member-below : (ms : List (List ℕ × V)) (i : ℕ) (m : List ℕ × V) → slice_get ms i ≡ Some m → text_cmp k m.0 ≡ Less → first_above (find_member k ms) ≤ i
  find_member-below [] i m is e = absurd (search (is, rules))
  find_member-below (n ∷ ms) zero m is e =
      let same : n ≡ m = search (is, rules) in
      let less : text_cmp k n.0 ≡ Less = ap (λ (x : List ℕ × V). text_cmp k x.0) same ∙ e in
      rw less (omega arith)
  find_member-below (n ∷ ms) (suc i) m is e = order_cases (text_cmp k n.0)
      (λ o. rw o (omega arith))
      (λ o. rw o (omega arith))
      (λ o. rw o (omega (arith, first_above-further (find_member k ms), find_member-below ms i m is e)))

  -- a member at the key stands at its place
  pub find_member-at : (ms : List (List ℕ × V)) (i : ℕ) (m : List ℕ × V) → Rises ms → slice_get ms i ≡ Some m → text_cmp k m.0 ≡ Equal → find_member k ms ≡ Ok i
  find_member-at [] i m rises is e = absurd (search (is, rules))
  find_member-at (n ∷ ms) zero m rises is e =
      let same : n ≡ m = search (is, rules) in
      let equal : text_cmp k n.0 ≡ Equal = ap (λ (x : List ℕ × V). text_cmp k x.0) same ∙ e in
      rw equal
  find_member-at (n ∷ ms) (suc i) m rises is e =
      let less : text_cmp n.0 k ≡ Less = ap (text_cmp n.0) (same_from_Equal k m.0 e) ∙ Below-get n.0 ms i m rises.0 is in
      let greater : text_cmp k n.0 ≡ Greater = text_cmp-flip n.0 k Less less in
      rw greater (ap further (find_member-at ms i m rises.1 is e))

  found_first : (n : List ℕ × V) (ms : List (List ℕ × V)) → text_cmp k n.0 ≡ Equal → IsFoundAt k (n ∷ ms) 0
  found_first n ms e = record {
    within = omega arith;
    get = λ m is. rw e (ap (λ (x : List ℕ × V). Some x.1) (sym is));
    set = λ m v is. rw e (ap (λ (x : List ℕ × V). (x.0, v) ∷ ms) is);
    inserted = λ m v is. rw e (ap (λ (l : List ℕ). (l, v) ∷ ms) (ap (λ (x : List ℕ × V). x.0) is ∙ sym (same_from_Equal k n.0 e)));
    removed = rw e refl;
  }

  found_later : (n : List ℕ × V) (ms : List (List ℕ × V)) (i : ℕ) → text_cmp k n.0 ≡ Greater → IsFoundAt k ms i → IsFoundAt k (n ∷ ms) (suc i)
  found_later n ms i e found = record {
    within = omega (arith, found.within);
    get = λ m is. rw e (found.get m is);
    set = λ m v is. rw e (ap (λ ns. n ∷ ns) (found.set m v is));
    inserted = λ m v is. rw e (ap (λ ns. n ∷ ns) (found.inserted m v is));
    removed = rw e (ap (λ ns. n ∷ ns) found.removed);
  }

  pub found_at : (ms : List (List ℕ × V)) (i : ℕ) → find_member k ms ≡ Ok i → IsFoundAt k ms i
  found_at [] i is = absurd (search (is, rules))
  found_at (n ∷ ms) i is = order_cases (text_cmp k n.0)
      (λ e. absurd (search ((rw e at is), rules)))
      (λ e. let first : 0 ≡ i = search ((rw e at is), rules) in subst (IsFoundAt k (n ∷ ms)) first (found_first n ms e))
      (λ e. let later = further-Ok (find_member k ms) i (rw e at is) in
      subst (IsFoundAt k (n ∷ ms)) later.2 (found_later n ms later.0 e (found_at ms later.0 later.1)))

  absent_first : (n : List ℕ × V) (ms : List (List ℕ × V)) → Rises (n ∷ ms) → text_cmp k n.0 ≡ Less → IsAbsentAt k (n ∷ ms) 0
  absent_first n ms rises e =
      let none : get_member k (n ∷ ms) ≡ None = rw e (get_member-below k ms (Below-trans k n.0 (keys_of ms) e rises.0)) in
      record { within = omega arith; get = none; inserted = λ v. rw e refl; removed = remove_member-absent k (n ∷ ms) none }

  absent_later : (n : List ℕ × V) (ms : List (List ℕ × V)) (i : ℕ) → text_cmp k n.0 ≡ Greater → IsAbsentAt k ms i → IsAbsentAt k (n ∷ ms) (suc i)
  absent_later n ms i e absent = record {
    within = omega (arith, absent.within);
    get = rw e absent.get;
    inserted = λ v. rw e (ap (λ ns. n ∷ ns) (absent.inserted v));
    removed = rw e (ap (λ ns. n ∷ ns) absent.removed);
  }

  pub absent_at : (ms : List (List ℕ × V)) (i : ℕ) → Rises ms → find_member k ms ≡ Err i → IsAbsentAt k ms i
  absent_at [] i rises is =
      let first : 0 ≡ i = search (is, rules) in
      subst (IsAbsentAt k []) first (record { within = omega arith; get = refl; inserted = λ v. refl; removed = refl })
  absent_at (n ∷ ms) i rises is = order_cases (text_cmp k n.0)
      (λ e. let first : 0 ≡ i = search ((rw e at is), rules) in subst (IsAbsentAt k (n ∷ ms)) first (absent_first n ms rises e))
      (λ e. absurd (search ((rw e at is), rules)))
      (λ e. let later = further-Err (find_member k ms) i (rw e at is) in
      subst (IsAbsentAt k (n ∷ ms)) later.2 (absent_later n ms later.0 e (absent_at ms later.0 rises.1 later.1)))
