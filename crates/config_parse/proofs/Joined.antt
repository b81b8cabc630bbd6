-- What insertion into a table does to its entries, and to what they stand for.
use Rattle.std.proofs.Common.{◌≡◌, ℕ, map, List, [], ◌∷◌, ◌++◌, Bool, true, false, ◌||◌, Option, Some, None, refl, ap, sym, subst, ◌∙◌, cond, bytes_eq, is_some, if◌then◌else◌}
use Rattle.std.specs.List.{list_any}
use Rattle.std.specs.Map.{lookup}
use Rattle.std.proofs.lemmas.Slice.Eq.{bytes_eq-Decides}
use Rattle.indexmap.specs.IndexMap.{insert_entry}
use Rattle.config_tree.specs.declared.tree.SettingValue.{SettingValue}
use Rattle.config_tree.specs.Joining.{Entries, with_entry, with_setting, joined_value}
use Rattle.config_parse.specs.Machine.{fresh}
use Rattle.config_parse.proofs.Taken.{fresh_ok}
use Rattle.config_parse.specs.declared.joining.ReadValue.{ReadValue}
use Rattle.config_parse.specs.Tables.{value_of, values_of, held_at, JoinsTo, IsSameElsewhere, HasSetting}
use Rattle.config_parse.specs.Read.{keys_of}

same : (a b : List ℕ) → bytes_eq a b ≡ bytes_eq b a
same a b = at (bytes_eq a b) (bytes_eq b a) refl refl
  where
    at : (p q : Bool) → bytes_eq a b ≡ p → bytes_eq b a ≡ q → p ≡ q
    at true q h g = sym ((bytes_eq-Decides b a).1 (sym ((bytes_eq-Decides a b).0 h))) ∙ g
    at false true h g = sym h ∙ (bytes_eq-Decides a b).1 (sym ((bytes_eq-Decides b a).0 g))
    at false false h g = refl

pub entry_is : (k : List ℕ) (x : SettingValue) (es : Entries) → insert_entry bytes_eq es k x ≡ with_entry k x es
entry_is k x [] = refl
entry_is k x (e ∷ es) = ap (λ b. if b then (e.0, x) ∷ es else e ∷ insert_entry bytes_eq es k x) (same k e.0) ∙ at (bytes_eq e.0 k) refl (entry_is k x es)
  where
    at : (b : Bool) → bytes_eq e.0 k ≡ b → insert_entry bytes_eq es k x ≡ with_entry k x es → (if b then (e.0, x) ∷ es else e ∷ insert_entry bytes_eq es k x) ≡ (if b then (k, x) ∷ es else e ∷ with_entry k x es)
    at true h g = ap (λ n. (n, x) ∷ es) ((bytes_eq-Decides e.0 k).0 h)
    at false h g = ap (λ l. e ∷ l) g

-- a key that is found
pub found_is : {V : Type 0} (k : List ℕ) (es : List (List ℕ × V)) → is_some (lookup (bytes_eq k) es) ≡ list_any (λ n. bytes_eq n k) (map (λ e. e.0) es)
found_is k [] = refl
found_is k (e ∷ es) = ap (λ b. is_some (cond b (Some e.1) (lookup (bytes_eq k) es))) (same k e.0) ∙ at (bytes_eq e.0 k) (found_is k es)
  where
    at : (b : Bool) → is_some (lookup (bytes_eq k) es) ≡ list_any (λ n. bytes_eq n k) (map (λ e. e.0) es) → is_some (cond b (Some e.1) (lookup (bytes_eq k) es)) ≡ (b || list_any (λ n. bytes_eq n k) (map (λ e. e.0) es))
    at true g = refl
    at false g = g

-- a new key goes last
new_entry : (k : List ℕ) (x : SettingValue) (es : Entries) → list_any (λ n. bytes_eq n k) (keys_of es) ≡ false → with_entry k x es ≡ es ++ (k, x) ∷ []
new_entry k x [] h = refl
new_entry k x (e ∷ es) h = at (bytes_eq e.0 k) (new_entry k x es) h
  where
    at : (b : Bool) → (list_any (λ n. bytes_eq n k) (keys_of es) ≡ false → with_entry k x es ≡ es ++ (k, x) ∷ []) → (b || list_any (λ n. bytes_eq n k) (keys_of es)) ≡ false → (if b then (k, x) ∷ es else e ∷ with_entry k x es) ≡ e ∷ (es ++ (k, x) ∷ [])
    at true again g = absurd (cc)
    at false again g = ap (λ l. e ∷ l) (again g)

pub fresh_entry : (k : List ℕ) (x : SettingValue) (es : Entries) (o : Option (List ℕ)) → fresh (keys_of es) o ≡ Some k → with_entry k x es ≡ es ++ (k, x) ∷ []
fresh_entry k x es o h = new_entry k x es (fresh_ok (keys_of es) k o h).1

-- a value in the place of another
twice : (k : List ℕ) (x z : ReadValue) (es : List (List ℕ × ReadValue)) → insert_entry bytes_eq (insert_entry bytes_eq es k x) k z ≡ insert_entry bytes_eq es k z
twice k x z [] = ap (λ b. if b then (k, z) ∷ [] else (k, x) ∷ (k, z) ∷ []) ((bytes_eq-Decides k k).1 refl)
twice k x z (e ∷ es) = at (bytes_eq k e.0) refl (twice k x z es)
  where
    at : (b : Bool) → bytes_eq k e.0 ≡ b → insert_entry bytes_eq (insert_entry bytes_eq es k x) k z ≡ insert_entry bytes_eq es k z → insert_entry bytes_eq (if b then (e.0, x) ∷ es else e ∷ insert_entry bytes_eq es k x) k z ≡ (if b then (e.0, z) ∷ es else e ∷ insert_entry bytes_eq es k z)
    at true h g = ap (λ b. if b then (e.0, z) ∷ es else (e.0, x) ∷ insert_entry bytes_eq es k z) h
    at false h g = ap (λ b. if b then (e.0, z) ∷ insert_entry bytes_eq es k x else e ∷ insert_entry bytes_eq (insert_entry bytes_eq es k x) k z) h ∙ ap (λ l. e ∷ l) g

setting_is : (k : List ℕ) (x made : ReadValue) (es : List (List ℕ × ReadValue)) → JoinsTo (lookup (bytes_eq k) es) x made → values_of (insert_entry bytes_eq es k made) ≡ with_setting k (value_of x) (values_of es)
setting_is k x made [] h = ap (λ m. (k, value_of m) ∷ []) h
setting_is k x made (e ∷ es) h = at (bytes_eq k e.0) refl h (setting_is k x made es) ∙ ap (λ b. if b then (k, joined_value (value_of e.1) (value_of x)) ∷ values_of es else (e.0, value_of e.1) ∷ with_setting k (value_of x) (values_of es)) (same k e.0)
  where
    at : (b : Bool) → bytes_eq k e.0 ≡ b → JoinsTo (cond b (Some e.1) (lookup (bytes_eq k) es)) x made → (JoinsTo (lookup (bytes_eq k) es) x made → values_of (insert_entry bytes_eq es k made) ≡ with_setting k (value_of x) (values_of es)) → values_of (if b then (e.0, made) ∷ es else e ∷ insert_entry bytes_eq es k made)
        ≡ (if b then (k, joined_value (value_of e.1) (value_of x)) ∷ values_of es else (e.0, value_of e.1) ∷ with_setting k (value_of x) (values_of es))
    at true g j again = ap (λ y. (e.0, y) ∷ values_of es) j ∙ ap (λ n. (n, joined_value (value_of e.1) (value_of x)) ∷ values_of es) (sym ((bytes_eq-Decides k e.0).0 g))
    at false g j again = ap (λ l. (e.0, value_of e.1) ∷ l) (again j)

pub replaced : (es : List (List ℕ × ReadValue)) {made : List (List ℕ × ReadValue)} {k n : List ℕ} (p : ReadValue) → made ≡ insert_entry bytes_eq es n p → n ≡ k → (x : ReadValue) → insert_entry bytes_eq made k x ≡ insert_entry bytes_eq es k x
replaced es {k = k} p h e x = ap (λ l. insert_entry bytes_eq l k x) (h ∙ ap (λ n. insert_entry bytes_eq es n p) e) ∙ twice k p x es

pub set_is : (old mid : List (List ℕ × ReadValue)) {new : List (List ℕ × ReadValue)} {k n : List ℕ} (x made : ReadValue) {earlier : Option ReadValue} → new ≡ insert_entry bytes_eq mid n made → n ≡ k → IsSameElsewhere k old mid
    → earlier ≡ held_at k old → JoinsTo earlier x made → HasSetting k x old new
set_is old mid {k = k} x made h e rest is j =
    ap values_of (h ∙ ap (λ n. insert_entry bytes_eq mid n made) e ∙ rest made) ∙ setting_is k x made old (subst (λ e. JoinsTo e x made) is j)

-- a key that a hash has, and one that it hasn't
pub fresh_old : (k : List ℕ) (es : Entries) {o : Option (List ℕ)} → o ≡ Some k → is_some (lookup (bytes_eq k) es) ≡ true → None ≡ fresh (keys_of es) o
fresh_old k es h g = sym (ap (fresh (keys_of es)) h ∙ ap (λ b. cond b None (Some k)) (sym (found_is k es) ∙ g))

pub fresh_new : (k : List ℕ) (es : Entries) {o : Option (List ℕ)} → o ≡ Some k → is_some (lookup (bytes_eq k) es) ≡ false → Some k ≡ fresh (keys_of es) o
fresh_new k es h g = sym (ap (fresh (keys_of es)) h ∙ ap (λ b. cond b None (Some k)) (sym (found_is k es) ∙ g))
