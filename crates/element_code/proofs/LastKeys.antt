-- A key is above all keys that rise exactly where it is above the last of them.
use Rattle.std.proofs.Common.{◌≡◌, ◌↔◌, ℕ, List, [], ◌∷◌, ◌++◌, Bool, true, false, Some, refl, sym, ap, IsTrue}
use Rattle.std.specs.Ordering.{is_lt}
use Rattle.plain_data.specs.Members.{Rises, AllBelow}
use Rattle.plain_data.specs.Keys.{text_cmp}
use Rattle.plain_data.proofs.KeyLemmas.{Less-from_is_lt, text_cmp-trans}
use Rattle.event_tree.specs.Values.{Members}
use Rattle.event_tree.specs.declared.value.Value.{Value}
use Rattle.element_code.specs.Reading.{is_above, last_key}

pub all_below : (ms : Members) (k : List ℕ) → Rises ms → is_above (last_key ms) k ≡ true → AllBelow ms k
all_below [] k rises t = tt
all_below (m ∷ []) k rises t = (Less-from_is_lt (text_cmp m.0 k) t, tt)
all_below (m ∷ n ∷ ms) k rises t = let rest = all_below (n ∷ ms) k rises.1 t in (text_cmp-trans m.0 n.0 k rises.0.0 rest.0, rest)

above_last : (ms : Members) (k : List ℕ) → AllBelow ms k → is_above (last_key ms) k ≡ true
above_last [] k below = refl
above_last (m ∷ []) k below = ap is_lt below.0
above_last (m ∷ n ∷ ms) k below = above_last (n ∷ ms) k below.1

same_truth : (a b : Bool) → (a ≡ true → b ≡ true) → (b ≡ true → a ≡ true) → a ≡ b
same_truth true b f g = sym (f refl)
same_truth false true f g = g refl
same_truth false false f g = refl

pub decided : (ms : Members) (k : List ℕ) (b : Bool) → Rises ms → IsTrue b ↔ AllBelow ms k → b ≡ is_above (last_key ms) k
decided ms k b rises is = same_truth b (is_above (last_key ms) k) (λ t. above_last ms k (is.0 t)) (λ t. is.1 (all_below ms k rises t))

pub last_key-push : (ms : Members) (m : List ℕ × Value) → last_key (ms ++ m ∷ []) ≡ Some m.0
last_key-push [] m = refl
last_key-push (n ∷ []) m = refl
last_key-push (n ∷ o ∷ ms) m = last_key-push (o ∷ ms) m
