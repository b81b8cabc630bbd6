-- Members as those before a key, at it and behind it. What is made of all members one by one, as a sum, is known after a change from these parts.
use Rattle.std.proofs.Common.{◌≡◌, ℕ, List, [], ◌∷◌, ◌++◌, Some, None, refl, sym, ap, ◌∙◌, rules}
use Rattle.std.specs.Map.{keys_of}
use Rattle.std.specs.declared.cmp.Ordering.TheVariants.{Equal, Greater}
use Rattle.plain_data.specs.Keys.{text_cmp}
use Rattle.plain_data.specs.Members.{Rises, get_member, set_member, insert_member, remove_member}
use Rattle.plain_data.proofs.KeyLemmas.{order_cases, same_from_Equal, Below-trans}
use Rattle.plain_data.proofs.MemberLemmas.{get_member-below}

-- the key k stands among ms, with the value x
pub record StandsIn {V : Type 0} (k : List ℕ) (x : V) (ms : List (List ℕ × V)) : Type 0 where
  pub front : List (List ℕ × V)
  pub back : List (List ℕ × V)
  pub is : ms ≡ front ++ (k, x) ∷ back
  pub set : (v : V) → set_member k v ms ≡ front ++ (k, v) ∷ back
  pub inserted : (v : V) → insert_member k v ms ≡ front ++ (k, v) ∷ back
  pub removed : remove_member k ms ≡ front ++ back

-- the key k stands nowhere in ms, and would go behind the front
pub record GoesIn {V : Type 0} (k : List ℕ) (ms : List (List ℕ × V)) : Type 0 where
  pub front : List (List ℕ × V)
  pub back : List (List ℕ × V)
  pub is : ms ≡ front ++ back
  pub inserted : (v : V) → insert_member k v ms ≡ front ++ (k, v) ∷ back

module _ {V : Type 0} (k : List ℕ) where
  stands_first : (m : List ℕ × V) (ms : List (List ℕ × V)) (x : V) → text_cmp k m.0 ≡ Equal → m.1 ≡ x → StandsIn k x (m ∷ ms)
  stands_first m ms x e value = let key : k ≡ m.0 = same_from_Equal k m.0 e in record {
    front = [];
    back = ms;
    is = λ i. (sym key i, value i) ∷ ms;
    set = λ v. rw e (ap (λ (l : List ℕ). (l, v) ∷ ms) (sym key));
    inserted = λ v. rw e refl;
    removed = rw e refl;
  }

  stands_later : (m : List ℕ × V) (ms : List (List ℕ × V)) (x : V) → text_cmp k m.0 ≡ Greater → StandsIn k x ms → StandsIn k x (m ∷ ms)
  stands_later m ms x e stands = record {
    front = m ∷ stands.front;
    back = stands.back;
    is = ap (λ ns. m ∷ ns) stands.is;
    set = λ v. rw e (ap (λ ns. m ∷ ns) (stands.set v));
    inserted = λ v. rw e (ap (λ ns. m ∷ ns) (stands.inserted v));
    removed = rw e (ap (λ ns. m ∷ ns) stands.removed);
  }

  pub stands : (ms : List (List ℕ × V)) (x : V) → Rises ms → get_member k ms ≡ Some x → StandsIn k x ms
  stands [] x rises found = absurd (search (found, rules))
  stands (m ∷ ms) x rises found = order_cases (text_cmp k m.0)
      (λ e. let none : get_member k ms ≡ None = get_member-below k ms (Below-trans k m.0 (keys_of ms) e rises.0) in
      absurd (search (sym none ∙ (rw e at found), rules)))
      (λ e. stands_first m ms x e (search ((rw e at found), rules)))
      (λ e. stands_later m ms x e (stands ms x rises.1 (rw e at found)))

  goes_later : (m : List ℕ × V) (ms : List (List ℕ × V)) → text_cmp k m.0 ≡ Greater → GoesIn k ms → GoesIn k (m ∷ ms)
  goes_later m ms e goes = record {
    front = m ∷ goes.front;
    back = goes.back;
    is = ap (λ ns. m ∷ ns) goes.is;
    inserted = λ v. rw e (ap (λ ns. m ∷ ns) (goes.inserted v));
  }

  pub goes : (ms : List (List ℕ × V)) → get_member k ms ≡ None → GoesIn k ms
  goes [] absent = record { front = []; back = []; is = refl; inserted = λ v. refl }
  goes (m ∷ ms) absent = order_cases (text_cmp k m.0)
      (λ e. record { front = []; back = m ∷ ms; is = refl; inserted = λ v. rw e refl })
      (λ e. absurd (search ((rw e at absent), rules)))
      (λ e. goes_later m ms e (goes ms (rw e at absent)))
