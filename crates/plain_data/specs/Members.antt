-- Members, each a key and its value, in the order of their keys.
use Rattle.std.specs.Prelude.{◌≡◌, ℕ, List, [], ◌∷◌, Option, ⊤}
use Rattle.std.specs.declared.cmp.Ordering.TheVariants.{Less}
use Rattle.std.specs.Ordering.{match_ordering}
use Rattle.std.specs.Map.{keys_of, lookup, set_value, remove_entry}
use Rattle.plain_data.specs.Keys.{text_cmp, same_key, Ascends}

-- members, each a key and its value
abbrev pub Members : Type 0 → Type 0
Members V = List (List ℕ × V)

module _ {V : Type 0} where
  -- the keys rise strictly, each below all that come after it
  abbrev pub Rises : List (List ℕ × V) → Type 0
  Rises ms = Ascends (keys_of ms)

  -- each of these keys is below k
  abbrev pub AllBelow : List (List ℕ × V) → List ℕ → Type 0
  AllBelow [] k = ⊤
  AllBelow (m ∷ ms) k = (text_cmp m.0 k ≡ Less) × AllBelow ms k

  -- the value at the key k
  abbrev pub get_member : List ℕ → List (List ℕ × V) → Option V
  get_member k ms = lookup (same_key k) ms

  -- v in place of the value at the key k, if there is one
  abbrev pub set_member : List ℕ → V → List (List ℕ × V) → List (List ℕ × V)
  set_member k v ms = set_value (same_key k) ms v

  -- without the member at the key k
  abbrev pub remove_member : List ℕ → List (List ℕ × V) → List (List ℕ × V)
  remove_member k ms = remove_entry (same_key k) ms

  -- with v at the key k, in the key's place in the order: in place of the value there, if there is one
  abbrev pub insert_member : List ℕ → V → List (List ℕ × V) → List (List ℕ × V)
  insert_member k v [] = (k, v) ∷ []
  insert_member k v (m ∷ ms) = match_ordering (text_cmp k m.0) ((k, v) ∷ m ∷ ms) ((k, v) ∷ ms) (m ∷ insert_member k v ms)
