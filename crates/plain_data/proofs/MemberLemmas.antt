-- Members at keys that rise.
use Rattle.std.proofs.Common.{◌≡◌, ℕ, zero, suc, List, [], ◌∷◌, ◌++◌, take, slice_index_or, ◌<◌, Some, None, refl, sym, ap, subst, ◌∙◌, slice_get, length, ◌-◌, Bool, IsTrue, ◌↔◌, arith, rules}
use Rattle.std.proofs.lemmas.Option.{slice_get_read}
use Rattle.std.specs.Map.{keys_of}
use Rattle.std.specs.Ordering.{is_lt}
use Rattle.std.specs.declared.cmp.Ordering.TheVariants.{Less, Greater}
use Rattle.plain_data.specs.Keys.{text_cmp, Below, Ascends}
use Rattle.plain_data.specs.Members.{Rises, AllBelow, get_member, set_member, insert_member, remove_member}
use Rattle.plain_data.proofs.KeyLemmas.{order_cases, Less-from_is_lt, same_from_Equal, text_cmp-flip, text_cmp-trans, Below-trans}

module _ {V : Type 0} (k : List ℕ) where
  -- a key below all others is no member's
  pub get_member-below : (ms : List (List ℕ × V)) → Below k (keys_of ms) → get_member k ms ≡ None
  get_member-below [] below = refl
  get_member-below (m ∷ ms) below = let less : text_cmp k m.0 ≡ Less = below.0 in rw less (get_member-below ms below.1)

  pub keys_of-set_member : (v : V) (ms : List (List ℕ × V)) → keys_of (set_member k v ms) ≡ keys_of ms
  keys_of-set_member v [] = refl
  keys_of-set_member v (m ∷ ms) = order_cases (text_cmp k m.0)
      (λ e. rw e (ap (λ ks. m.0 ∷ ks) (keys_of-set_member v ms)))
      (λ e. rw e refl)
      (λ e. rw e (ap (λ ks. m.0 ∷ ks) (keys_of-set_member v ms)))

  pub Rises-set_member : (v : V) (ms : List (List ℕ × V)) → Rises ms → Rises (set_member k v ms)
  Rises-set_member v ms rises = subst Ascends (sym (keys_of-set_member v ms)) rises

  Below-insert_member : (l : List ℕ) (v : V) (ms : List (List ℕ × V)) → text_cmp l k ≡ Less → Below l (keys_of ms) → Below l (keys_of (insert_member k v ms))
  Below-insert_member l v [] less below = (less, tt)
  Below-insert_member l v (m ∷ ms) less below = order_cases (text_cmp k m.0)
      (λ e. rw e (less, below))
      (λ e. rw e (less, below.1))
      (λ e. rw e (below.0, Below-insert_member l v ms less below.1))

  pub Rises-insert_member : (v : V) (ms : List (List ℕ × V)) → Rises ms → Rises (insert_member k v ms)
  Rises-insert_member v [] rises = (tt, tt)
  Rises-insert_member v (m ∷ ms) rises = order_cases (text_cmp k m.0)
      (λ e. rw e ((e, Below-trans k m.0 (keys_of ms) e rises.0), rises))
      (λ e. rw e (subst (λ l. Below l (keys_of ms)) (sym (same_from_Equal k m.0 e)) rises.0, rises.1))
      (λ e. rw e (Below-insert_member m.0 v ms (text_cmp-flip k m.0 Greater e) rises.0, Rises-insert_member v ms rises.1))

  Below-remove_member : (l : List ℕ) (ms : List (List ℕ × V)) → Below l (keys_of ms) → Below l (keys_of (remove_member k ms))
  Below-remove_member l [] below = tt
  Below-remove_member l (m ∷ ms) below = order_cases (text_cmp k m.0)
      (λ e. rw e (below.0, Below-remove_member l ms below.1))
      (λ e. rw e below.1)
      (λ e. rw e (below.0, Below-remove_member l ms below.1))

  pub Rises-remove_member : (ms : List (List ℕ × V)) → Rises ms → Rises (remove_member k ms)
  Rises-remove_member [] rises = tt
  Rises-remove_member (m ∷ ms) rises = order_cases (text_cmp k m.0)
      (λ e. rw e (Below-remove_member m.0 ms rises.0, Rises-remove_member ms rises.1))
      (λ e. rw e rises.1)
      (λ e. rw e (Below-remove_member m.0 ms rises.0, Rises-remove_member ms rises.1))

  -- where no member has the key, nothing is removed
  pub remove_member-absent : (ms : List (List ℕ × V)) → get_member k ms ≡ None → remove_member k ms ≡ ms
  remove_member-absent [] absent = refl
  remove_member-absent (m ∷ ms) absent = order_cases (text_cmp k m.0)
      (λ e. rw e (ap (λ ns. m ∷ ns) (remove_member-absent ms (rw e at absent))))
      (λ e. absurd (search ((rw e at absent), rules)))
      (λ e. rw e (ap (λ ns. m ∷ ns) (remove_member-absent ms (rw e at absent))))

module _ {V : Type 0} where
  Below-push : (l : List ℕ) (ms : List (List ℕ × V)) (m : List ℕ × V) → text_cmp l m.0 ≡ Less → Below l (keys_of ms) → Below l (keys_of (ms ++ m ∷ []))
  Below-push l [] m less below = (less, tt)
  Below-push l (n ∷ ms) m less below = (below.0, Below-push l ms m less below.1)

  -- a member above all others may go behind them
  pub Rises-push : (ms : List (List ℕ × V)) (m : List ℕ × V) → Rises ms → AllBelow ms m.0 → Rises (ms ++ m ∷ [])
  Rises-push [] m rises below = (tt, tt)
  Rises-push (n ∷ ms) m rises below = (Below-push n.0 ms m below.0 rises.0, Rises-push ms m rises.1 below.1)

  -- the key of a member is above those that the members are all above
  pub Below-get : (l : List ℕ) (ms : List (List ℕ × V)) (i : ℕ) (m : List ℕ × V) → Below l (keys_of ms) → slice_get ms i ≡ Some m → text_cmp l m.0 ≡ Less
  Below-get l [] i m below is = absurd (search (is, rules))
  Below-get l (n ∷ ms) zero m below is = let e : n ≡ m = search (is, rules) in ap (λ (x : List ℕ × V). text_cmp l x.0) (sym e) ∙ below.0
  Below-get l (n ∷ ms) (suc i) m below is = Below-get l ms i m below.1 is

  -- the members before a member are below it
  AllBelow-take : (ms : List (List ℕ × V)) (i : ℕ) (m : List ℕ × V) → Rises ms → slice_get ms i ≡ Some m → AllBelow (take i ms) m.0
  AllBelow-take [] i m rises is = absurd (search (is, rules))
  AllBelow-take (n ∷ ms) zero m rises is = tt
  AllBelow-take (n ∷ ms) (suc i) m rises is = (Below-get n.0 ms i m rises.0 is, AllBelow-take ms i m rises.1 is)

  -- so where they are made anew in order, the next may be pushed
  pub below_next : (ms made : List (List ℕ × V)) (i : ℕ) (m : List ℕ × V) (k : List ℕ) → Rises ms → made ≡ take i ms → i < length ms → m ≡ slice_index_or ms i m → k ≡ m.0 → AllBelow made k
  below_next ms made i m k rises same within is key =
      subst (AllBelow made) (sym key) (subst (λ l. AllBelow l m.0) (sym same) (AllBelow-take ms i m rises (slice_get_read ms (length ms) i m refl within is)))

  -- the key of each member is below a key that all are below
  pub AllBelow-get : (ms : List (List ℕ × V)) (k : List ℕ) (i : ℕ) (m : List ℕ × V) → AllBelow ms k → slice_get ms i ≡ Some m → text_cmp m.0 k ≡ Less
  AllBelow-get [] k i m below is = absurd (search (is, rules))
  AllBelow-get (n ∷ ms) k zero m below is = let e : n ≡ m = search (is, rules) in ap (λ (x : List ℕ × V). text_cmp x.0 k) (sym e) ∙ below.0
  AllBelow-get (n ∷ ms) k (suc i) m below is = AllBelow-get ms k i m below.1 is

  AllBelow-last : (ms : List (List ℕ × V)) (k : List ℕ) (i : ℕ) (m : List ℕ × V) → Rises ms → slice_get ms i ≡ Some m → length ms ≡ suc i → text_cmp m.0 k ≡ Less → AllBelow ms k
  AllBelow-last [] k i m rises is last less = tt
  AllBelow-last (n ∷ []) k zero m rises is last less = let e : n ≡ m = search (is, rules) in (ap (λ (x : List ℕ × V). text_cmp x.0 k) e ∙ less, tt)
  AllBelow-last (n ∷ o ∷ ms) k zero m rises is last less = absurd (omega arith)
  AllBelow-last (n ∷ ms) k (suc i) m rises is last less =
      (text_cmp-trans n.0 m.0 k (Below-get n.0 ms i m rises.0 is) less, AllBelow-last ms k i m rises.1 is (omega arith) less)

  -- the last member decides whether all are below a key
  pub AllBelow-decided : (ms : List (List ℕ × V)) (k : List ℕ) (m : List ℕ × V) (b : Bool) → Rises ms → slice_get ms (length ms - 1) ≡ Some m → b ≡ is_lt (text_cmp m.0 k) → IsTrue b ↔ AllBelow ms k
  AllBelow-decided [] k m b rises is tested = absurd (search (is, rules))
  AllBelow-decided (n ∷ ms) k m b rises is tested =
      let long : length (n ∷ ms) ≡ suc (length (n ∷ ms) - 1) = omega arith in
      (λ t. AllBelow-last (n ∷ ms) k _ m rises is long (Less-from_is_lt (text_cmp m.0 k) (sym tested ∙ t)), λ below. tested ∙ ap is_lt (AllBelow-get (n ∷ ms) k _ m below is))
