-- What a change at a key leaves at that key and at the others, and that members are told apart by what `get` answers.
use Rattle.std.proofs.Common.{◌≡◌, ◌≢◌, ℕ, false, cond, List, [], ◌∷◌, ◌++◌, Some, None, refl, sym, ap, subst, ◌∙◌, IsTrue, ◌↔◌, rules}
use Rattle.std.specs.Map.{keys_of}
use Rattle.std.specs.Option.{option_map}
use Rattle.std.specs.Ordering.{is_eq}
use Rattle.std.specs.declared.cmp.Ordering.TheVariants.{Less, Equal, Greater}
use Rattle.plain_data.specs.Keys.{text_cmp, same_key, Below}
use Rattle.plain_data.specs.Members.{Rises, AllBelow, get_member, set_member, insert_member, remove_member}
use Rattle.plain_data.proofs.KeyLemmas.{order_cases, same_from_Equal, text_cmp-self, text_cmp-flip, same_key-other, Below-trans}
use Rattle.plain_data.proofs.MemberLemmas.{get_member-below, Rises-insert_member, Rises-set_member, Rises-remove_member, Rises-push}

module _ {V : Type 0} (k : List ℕ) where
  pub get_member-insert_member : (v : V) (ms : List (List ℕ × V)) → get_member k (insert_member k v ms) ≡ Some v
  get_member-insert_member v [] = rw (text_cmp-self k) refl
  get_member-insert_member v (m ∷ ms) = order_cases (text_cmp k m.0)
      (λ e. rw e (rw (text_cmp-self k) refl))
      (λ e. rw e (rw (text_cmp-self k) refl))
      (λ e. rw e (rw e (get_member-insert_member v ms)))

  pub get_member-set_member : (v : V) (ms : List (List ℕ × V)) → get_member k (set_member k v ms) ≡ option_map (λ _. v) (get_member k ms)
  get_member-set_member v [] = refl
  get_member-set_member v (m ∷ ms) = order_cases (text_cmp k m.0)
      (λ e. rw e (rw e (get_member-set_member v ms)))
      (λ e. rw e (rw e refl))
      (λ e. rw e (rw e (get_member-set_member v ms)))

  pub get_member-remove_member : (ms : List (List ℕ × V)) → Rises ms → get_member k (remove_member k ms) ≡ None
  get_member-remove_member [] rises = refl
  get_member-remove_member (m ∷ ms) rises = order_cases (text_cmp k m.0)
      (λ e. rw e (rw e (get_member-remove_member ms rises.1)))
      (λ e. rw e (get_member-below k ms (subst (λ l. Below l (keys_of ms)) (sym (same_from_Equal k m.0 e)) rises.0)))
      (λ e. rw e (rw e (get_member-remove_member ms rises.1)))

  -- where the key stands, to insert is to set
  pub insert_member-found : (v : V) (ms : List (List ℕ × V)) (x : V) → Rises ms → get_member k ms ≡ Some x → insert_member k v ms ≡ set_member k v ms
  insert_member-found v [] x rises found = absurd (search (found, rules))
  insert_member-found v (m ∷ ms) x rises found = order_cases (text_cmp k m.0)
      (λ e. let none : get_member k ms ≡ None = get_member-below k ms (Below-trans k m.0 (keys_of ms) e rises.0) in
      absurd (search (sym none ∙ (rw e at found), rules)))
      (λ e. rw e (ap (λ (l : List ℕ). (l, v) ∷ ms) (same_from_Equal k m.0 e)))
      (λ e. rw e (ap (λ ns. m ∷ ns) (insert_member-found v ms x rises.1 (rw e at found))))

  -- above all others, to insert is to push
  pub insert_member-above : (v : V) (ms : List (List ℕ × V)) → AllBelow ms k → insert_member k v ms ≡ ms ++ (k, v) ∷ []
  insert_member-above v [] below = refl
  insert_member-above v (m ∷ ms) below =
      let greater : text_cmp k m.0 ≡ Greater = text_cmp-flip m.0 k Less below.0 in
      rw greater (ap (λ ns. m ∷ ns) (insert_member-above v ms below.1))

  module _ (l : List ℕ) (other : k ≢ l) where
    pub get_member-insert_member-other : (v : V) (ms : List (List ℕ × V)) → get_member l (insert_member k v ms) ≡ get_member l ms
    get_member-insert_member-other v [] = rw (same_key-other l k (λ e. other (sym e))) refl
    get_member-insert_member-other v (m ∷ ms) = order_cases (text_cmp k m.0)
        (λ e. rw e (rw (same_key-other l k (λ s. other (sym s))) refl))
        (λ e. rw e (rw (same_key-other l k (λ s. other (sym s))) (rw (same_key-other l m.0 (λ s. other (same_from_Equal k m.0 e ∙ sym s))) refl)))
        (λ e. rw e (ap (cond (same_key l m.0) (Some m.1)) (get_member-insert_member-other v ms)))

    pub get_member-set_member-other : (v : V) (ms : List (List ℕ × V)) → get_member l (set_member k v ms) ≡ get_member l ms
    get_member-set_member-other v [] = refl
    get_member-set_member-other v (m ∷ ms) = order_cases (text_cmp k m.0)
        (λ e. rw e (ap (cond (same_key l m.0) (Some m.1)) (get_member-set_member-other v ms)))
        (λ e. rw e (rw (same_key-other l m.0 (λ s. other (same_from_Equal k m.0 e ∙ sym s))) refl))
        (λ e. rw e (ap (cond (same_key l m.0) (Some m.1)) (get_member-set_member-other v ms)))

    pub get_member-remove_member-other : (ms : List (List ℕ × V)) → get_member l (remove_member k ms) ≡ get_member l ms
    get_member-remove_member-other [] = refl
    get_member-remove_member-other (m ∷ ms) = order_cases (text_cmp k m.0)
        (λ e. rw e (ap (cond (same_key l m.0) (Some m.1)) (get_member-remove_member-other ms)))
        (λ e. rw e (rw (same_key-other l m.0 (λ s. other (same_from_Equal k m.0 e ∙ sym s))) refl))
        (λ e. rw e (ap (cond (same_key l m.0) (Some m.1)) (get_member-remove_member-other ms)))

module _ {V : Type 0} where
  first_not_in : (m : List ℕ × V) (ms ns : List (List ℕ × V)) {P : Type 0} → Below m.0 (keys_of ns) → get_member m.0 (m ∷ ms) ≡ get_member m.0 ns → P
  first_not_in m ms ns below same =
      let there : Some m.1 ≡ get_member m.0 ns = rw (text_cmp-self m.0) at same in
      absurd (search (there ∙ get_member-below m.0 ns below, rules))

  tails_same : (m n : List ℕ × V) (ms ns : List (List ℕ × V)) → m.0 ≡ n.0 → Below m.0 (keys_of ms) → Below n.0 (keys_of ns)
      → (k : List ℕ) → get_member k (m ∷ ms) ≡ get_member k (n ∷ ns) → get_member k ms ≡ get_member k ns
  tails_same m n ms ns key below below' k same =
      let beyond : same_key k m.0 ≡ false → get_member k ms ≡ get_member k ns = λ o. let p : same_key k n.0 ≡ false = ap (same_key k) (sym key) ∙ o in rw p at (rw o at same) in
      order_cases (text_cmp k m.0)
      (λ e. beyond (ap is_eq e))
      (λ e. let at : k ≡ m.0 = same_from_Equal k m.0 e in
      get_member-below k ms (subst (λ l. Below l (keys_of ms)) (sym at) below) ∙ sym (get_member-below k ns (subst (λ l. Below l (keys_of ns)) (sym (at ∙ key)) below')))
      (λ e. beyond (ap is_eq e))

  -- members at keys that rise are the same where `get` answers the same at each key
  pub same_members : (ms ns : List (List ℕ × V)) → Rises ms → Rises ns → ((k : List ℕ) → get_member k ms ≡ get_member k ns) → ms ≡ ns
  same_members [] [] rises rises' same = refl
  same_members [] (n ∷ ns) rises rises' same = first_not_in n ns [] tt (sym (same n.0))
  same_members (m ∷ ms) [] rises rises' same = first_not_in m ms [] tt (same m.0)
  same_members (m ∷ ms) (n ∷ ns) rises rises' same = order_cases (text_cmp m.0 n.0)
      (λ e. first_not_in m ms (n ∷ ns) (e, Below-trans m.0 n.0 (keys_of ns) e rises'.0) (same m.0))
      (λ e.
      let key : m.0 ≡ n.0 = same_from_Equal m.0 n.0 e in
      let there : Some m.1 ≡ Some n.1 = rw e at (rw (text_cmp-self m.0) at (same m.0)) in
      let value : m.1 ≡ n.1 = search (there, rules) in
      let rest = same_members ms ns rises.1 rises'.1 (λ k. tails_same m n ms ns key rises.0 rises'.0 k (same k)) in
      λ i. (key i, value i) ∷ rest i)
      (λ e.
      let less : text_cmp n.0 m.0 ≡ Less = text_cmp-flip m.0 n.0 Greater e in
      first_not_in n ns (m ∷ ms) (less, Below-trans n.0 m.0 (keys_of ms) less rises.0) (sym (same n.0)))

pub text_cmp-decides : (k l : List ℕ) → (text_cmp k l ≡ Equal) ↔ (k ≡ l)
text_cmp-decides k l = (same_from_Equal k l, λ same. subst (λ m. text_cmp k m ≡ Equal) same (text_cmp-self k))

pub same_key-decides : (k l : List ℕ) → IsTrue (same_key k l) ↔ (k ≡ l)
same_key-decides k l = (
  λ test. order_cases (text_cmp k l) (λ e. absurd (search ((rw e at test), rules))) (same_from_Equal k l) (λ e. absurd (search ((rw e at test), rules))),
  λ same. ap is_eq ((text_cmp-decides k l).1 same),
)

pub ruleset laws = (text_cmp-decides, same_key-decides, get_member-insert_member, get_member-insert_member-other, get_member-set_member, get_member-set_member-other, get_member-remove_member, get_member-remove_member-other, insert_member-found, insert_member-above, same_members, Rises-insert_member, Rises-set_member, Rises-remove_member, Rises-push)
