-- Names that stand once, behind those in front.
use Rattle.std.proofs.Common.{◌≡◌, ℕ, List, [], ◌∷◌, ◌++◌, map, Bool, true, false, ◌||◌, if◌then◌else◌, refl, ap, sym, ◌∙◌, bytes_eq}
use Rattle.std.proofs.lemmas.Slice.Eq.{bytes_eq-Decides}
use Rattle.std.specs.List.{list_any}
use Rattle.config_tree.specs.declared.tree.SettingValue.{SettingValue}
use Rattle.config_print.specs.Once.{Fresh}
use Rattle.config_tree.specs.Joining.{Entries, has, with_entry, with_entries, with_setting, joined_value}

abbrev names : Entries → List (List ℕ)
names es = map (λ e. e.0) es

names_end : (front : Entries) (k : List ℕ) (x : SettingValue) → names (front ++ (k, x) ∷ []) ≡ names front ++ k ∷ []
names_end [] k x = refl
names_end (e ∷ front) k x = ap (λ l. e.0 ∷ l) (names_end front k x)

-- only the names tell whether one stands there
has_by_names : (k : List ℕ) (front : Entries) → has k front ≡ list_any (λ n. bytes_eq n k) (names front)
has_by_names k [] = refl
has_by_names k (e ∷ front) = ap (λ b. bytes_eq e.0 k || b) (has_by_names k front)

has_like : (k : List ℕ) (front other : Entries) → names front ≡ names other → has k front ≡ false → has k other ≡ false
has_like k front other same h = has_by_names k other ∙ ap (λ l. list_any (λ n. bytes_eq n k) l) (sym same) ∙ sym (has_by_names k front) ∙ h

fresh_like : (front other es : Entries) → names front ≡ names other → Fresh front es → Fresh other es
fresh_like front other [] same f = tt
fresh_like front other (e ∷ es) same f = (
  has_like e.0 front other same f.0,
  fresh_like (front ++ e ∷ []) (other ++ e ∷ []) es (names_end front e.0 e.1 ∙ ap (λ l. l ++ e.0 ∷ []) same ∙ sym (names_end other e.0 e.1)) f.1,
)

has_end : (k : List ℕ) (front : Entries) (e : List ℕ × SettingValue) → has k front ≡ false → bytes_eq e.0 k ≡ false → has k (front ++ e ∷ []) ≡ false
has_end k [] e h u = ap (λ b. b || false) u
has_end k (z ∷ front) e h u = at (bytes_eq z.0 k) h (λ r. has_end k front e r u)
  where
    at : (b : Bool) → (b || has k front) ≡ false → (has k front ≡ false → has k (front ++ e ∷ []) ≡ false) → (b || has k (front ++ e ∷ [])) ≡ false
    at true r again = absurd (cc)
    at false r again = again r

-- the name of the entry that is there stays in its place
replaced : (front es : Entries) (k : List ℕ) (e : List ℕ × SettingValue) (x : SettingValue) → bytes_eq e.0 k ≡ true → has k front ≡ false → Fresh (front ++ e ∷ []) es → Fresh front ((k, x) ∷ es)
replaced front es k e x same h f =
    (h, fresh_like (front ++ e ∷ []) (front ++ (k, x) ∷ []) es (names_end front e.0 e.1 ∙ ap (λ n. names front ++ n ∷ []) ((bytes_eq-Decides e.0 k).0 same) ∙ sym (names_end front k x)) f)

fresh_setting_behind : (front es : Entries) (k : List ℕ) (x : SettingValue) → has k front ≡ false → Fresh front es → Fresh front (with_setting k x es)
fresh_setting_behind front [] k x h f = (h, tt)
fresh_setting_behind front (e ∷ es) k x h f = at (bytes_eq e.0 k) refl (λ u. fresh_setting_behind (front ++ e ∷ []) es k x u f.1)
  where
    at : (b : Bool) → bytes_eq e.0 k ≡ b → (has k (front ++ e ∷ []) ≡ false → Fresh (front ++ e ∷ []) (with_setting k x es)) → Fresh front (if b then (k, joined_value e.1 x) ∷ es else e ∷ with_setting k x es)
    at true is again = replaced front es k e (joined_value e.1 x) is h f.1
    at false is again = (f.0, again (has_end k front e h is))

fresh_entry_behind : (front es : Entries) (k : List ℕ) (x : SettingValue) → has k front ≡ false → Fresh front es → Fresh front (with_entry k x es)
fresh_entry_behind front [] k x h f = (h, tt)
fresh_entry_behind front (e ∷ es) k x h f = at (bytes_eq e.0 k) refl (λ u. fresh_entry_behind (front ++ e ∷ []) es k x u f.1)
  where
    at : (b : Bool) → bytes_eq e.0 k ≡ b → (has k (front ++ e ∷ []) ≡ false → Fresh (front ++ e ∷ []) (with_entry k x es)) → Fresh front (if b then (k, x) ∷ es else e ∷ with_entry k x es)
    at true is again = replaced front es k e x is h f.1
    at false is again = (f.0, again (has_end k front e h is))

pub fresh_setting : (es : Entries) (k : List ℕ) (x : SettingValue) → Fresh [] es → Fresh [] (with_setting k x es)
fresh_setting es k x f = fresh_setting_behind [] es k x refl f

pub fresh_entries : (es later : Entries) → Fresh [] es → Fresh [] (with_entries es later)
fresh_entries es [] f = f
fresh_entries es (e ∷ later) f = fresh_entries (with_entry e.0 e.1 es) later (fresh_entry_behind [] es e.0 e.1 refl f)

-- one more at the end
fresh_end_behind : (front es : Entries) (k : List ℕ) (x : SettingValue) → has k front ≡ false → has k es ≡ false → Fresh front es → Fresh front (es ++ (k, x) ∷ [])
fresh_end_behind front [] k x h u f = (h, tt)
fresh_end_behind front (e ∷ es) k x h u f = at (bytes_eq e.0 k) refl u (λ r q. fresh_end_behind (front ++ e ∷ []) es k x r q f.1)
  where
    at : (b : Bool) → bytes_eq e.0 k ≡ b → (b || has k es) ≡ false → (has k (front ++ e ∷ []) ≡ false → has k es ≡ false → Fresh (front ++ e ∷ []) (es ++ (k, x) ∷ [])) → Fresh front (e ∷ (es ++ (k, x) ∷ []))
    at true is r again = absurd (cc)
    at false is r again = (f.0, again (has_end k front e h is) r)

pub fresh_end : (es : Entries) (k : List ℕ) (x : SettingValue) → has k es ≡ false → Fresh [] es → Fresh [] (es ++ (k, x) ∷ [])
fresh_end es k x u f = fresh_end_behind [] es k x refl u f

-- an entry that isn't there comes at the end
pub set_end : (front : Entries) (k : List ℕ) (x : SettingValue) → has k front ≡ false → with_setting k x front ≡ front ++ (k, x) ∷ []
set_end [] k x h = refl
set_end (e ∷ front) k x h = at (bytes_eq e.0 k) h (set_end front k x)
  where
    at : (b : Bool) → (b || has k front) ≡ false → (has k front ≡ false → with_setting k x front ≡ front ++ (k, x) ∷ []) → (if b then (k, joined_value e.1 x) ∷ front else e ∷ with_setting k x front) ≡ e ∷ (front ++ (k, x) ∷ [])
    at true r again = absurd (cc)
    at false r again = ap (λ l. e ∷ l) (again r)
