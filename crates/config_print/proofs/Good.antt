-- What was read holds only what its printed tokens give again: names stand once, and each token that is printed passes a test that
-- the tokens read passed.
use Rattle.std.proofs.Common.{◌≡◌, ℕ, suc, List, [], ◌∷◌, ◌++◌, Some, Bool, true, false, if◌then◌else◌, ap, sym, subst, ◌∙◌, bytes_eq}
use Rattle.event_tree.specs.Number.{Num}
use Rattle.config_lex.specs.declared.token.Token.{Token}
use Rattle.config_lex.specs.declared.token.Token.TheVariants as t
use Rattle.config_lex.specs.declared.token.Word.{Word}
use Rattle.config_lex.specs.declared.token.Word.TheVariants as w
use Rattle.config_tree.specs.declared.tree.SettingValue.{SettingValue, out-SettingValue, roll-SettingValue}
use Rattle.config_tree.specs.declared.tree.SettingValue.TheVariants as v
use Rattle.config_tree.specs.declared.tree.SettingValue.TheOpen.{SettingValue-F}
use Rattle.config_tree.specs.declared.tree.SettingValue.TheViews.{out-roll-SettingValue}
use Rattle.config_tree.specs.declared.tree.Plugin.{Plugin}
use Rattle.config_tree.specs.declared.tree.Settings.{Settings}
use Rattle.config_parse.specs.Grammar as g
use Rattle.config_parse.specs.Words.{spelling, bareword, setting_name, plugin_name, key, scalar}
use Rattle.config_lex.specs.Lexemes.{word_of}
use Rattle.config_tree.specs.Joining.{Entries, with_setting, with_entry, with_entries, joined_value, plugin_of}
use Rattle.config_print.specs.Tokens.{name_token, plugin_token, number_token}
use Rattle.config_print.proofs.Pieces.{AllOf, first_of_all, last_of_all}
use Rattle.config_print.specs.Once.{Fresh}
use Rattle.config_print.proofs.Fresh.{fresh_setting, fresh_entries, fresh_end}

-- a token that is always written alike
abbrev pub is_sign : Token → Bool
is_sign (t.Word (w.Other s)) = false
is_sign (t.Word a) = true
is_sign (t.Dashed s) = false
is_sign (t.Quoted s) = false
is_sign (t.Number n s) = false
is_sign (t.Regexp s) = false
is_sign (t.Selector parts) = false
is_sign t.Unreadable = false
is_sign y = true

-- a test that tokens which are printed pass where those that were read do
pub record Lawful (Ok : Token → Type 0) : Type 0 where
  pub sign : (y : Token) → is_sign y ≡ true → Ok y
  pub text : (a : Word) → Ok (t.Word a) → Ok (t.Quoted (spelling a))
  pub word : (a : Word) → Ok (t.Word a) → Ok (t.Word (word_of (spelling a)))
  pub number : (n : Num) (s : List ℕ) → Ok (t.Number n s) → Ok (number_token n)
  pub number_key : (n : Num) (s : List ℕ) → Ok (t.Number n s) → Ok (t.Quoted s)
  pub name : (y : Token) (k : List ℕ) → setting_name y ≡ Some k → Ok y → Ok (name_token k)
  pub plugin : (y : Token) (k : List ℕ) → plugin_name y ≡ Some k → Ok y → Ok (plugin_token k)

-- the name of a setting, or the key of a hash
abbrev pub entry_token : Bool → List ℕ → Token
entry_token is_setting k = if is_setting then name_token k else t.Quoted k

mutual
  pub data GoodValue (Ok : Token → Type 0) : ℕ → SettingValue → Type 0 where
    good_text : {d : ℕ} {s : List ℕ} → Ok (t.Quoted s) → GoodValue Ok d (v.Text s)
    good_number : {d : ℕ} {n : Num} → Ok (number_token n) → GoodValue Ok d (v.Number n)
    good_nested : {d : ℕ} {name : List ℕ} {es : Entries} → Ok (t.Word (word_of name)) → GoodEntries Ok true d es → Fresh [] es → GoodValue Ok (suc d) (v.Nested (plugin_of name es))
    good_array : {d : ℕ} {xs : List SettingValue} → GoodItems Ok d xs → GoodValue Ok (suc d) (v.Array xs)
    good_hash : {d : ℕ} {es : Entries} → GoodEntries Ok false d es → Fresh [] es → GoodValue Ok (suc d) (v.Hash es)

  pub data GoodItems (Ok : Token → Type 0) : ℕ → List SettingValue → Type 0 where
    no_items : {d : ℕ} → GoodItems Ok d []
    item : {d : ℕ} {x : SettingValue} {xs : List SettingValue} → GoodValue Ok d x → GoodItems Ok d xs → GoodItems Ok d (x ∷ xs)

  pub data GoodEntries (Ok : Token → Type 0) : Bool → ℕ → Entries → Type 0 where
    no_entries : {is_setting : Bool} {d : ℕ} → GoodEntries Ok is_setting d []
    entry : {is_setting : Bool} {d : ℕ} {k : List ℕ} {x : SettingValue} {es : Entries} → Ok (entry_token is_setting k) → GoodValue Ok d x → GoodEntries Ok is_setting d es
        → GoodEntries Ok is_setting d ((k, x) ∷ es)

-- the two values of a setting, by what they are seen as
abbrev step : SettingValue → SettingValue-F SettingValue Plugin Settings → SettingValue-F SettingValue Plugin Settings → SettingValue
step y (SettingValue-F.Array xs) (SettingValue-F.Array ys) = v.Array (xs ++ ys)
step y (SettingValue-F.Hash xs) (SettingValue-F.Hash ys) = v.Hash (with_entries xs ys)
step y _ _ = y

joined_seen : (x y : SettingValue) (a b : SettingValue-F SettingValue Plugin Settings) → out-SettingValue x ≡ a → out-SettingValue y ≡ b → joined_value x y ≡ step y a b
joined_seen x y a b h u = ap (λ l. step y l (out-SettingValue y)) h ∙ ap (λ l. step y a l) u

abbrev Seen : SettingValue → Type 0
Seen x = (a : SettingValue-F SettingValue Plugin Settings) × (out-SettingValue x ≡ a)

-- what a value is made of
made : (a : SettingValue-F SettingValue Plugin Settings) (x : SettingValue) → roll-SettingValue a ≡ x → Seen x
made a x e = (a, ap out-SettingValue (sym e) ∙ out-roll-SettingValue a)

module _ (Ok : Token → Type 0) where
  items_end : {d : ℕ} {xs ys : List SettingValue} → GoodItems Ok d xs → GoodItems Ok d ys → GoodItems Ok d (xs ++ ys)
  items_end no_items q = q
  items_end (item h p) q = item h (items_end p q)

  entries_end : {is_setting : Bool} {d : ℕ} {es : Entries} (k : List ℕ) (x : SettingValue) → GoodEntries Ok is_setting d es → Ok (entry_token is_setting k) → GoodValue Ok d x
      → GoodEntries Ok is_setting d (es ++ (k, x) ∷ [])
  entries_end k x no_entries o h = entry o h no_entries
  entries_end k x (entry r q p) o h = entry r q (entries_end k x p o h)

  with_entry_good : {d : ℕ} {es : Entries} (k : List ℕ) (x : SettingValue) → GoodEntries Ok false d es → Ok (t.Quoted k) → GoodValue Ok d x → GoodEntries Ok false d (with_entry k x es)
  with_entry_good k x no_entries o h = entry o h no_entries
  with_entry_good {d} k x (entry {k = j} {x = z} {es} r q p) o h = at (bytes_eq j k) (with_entry_good k x p o h)
    where
      at : (b : Bool) → GoodEntries Ok false d (with_entry k x es) → GoodEntries Ok false d (if b then (k, x) ∷ es else (j, z) ∷ with_entry k x es)
      at true again = entry o h p
      at false again = entry r q again

  with_entries_good : {d : ℕ} {es later : Entries} → GoodEntries Ok false d es → GoodEntries Ok false d later → GoodEntries Ok false d (with_entries es later)
  with_entries_good p no_entries = p
  with_entries_good p (entry {k} {x} r q o) = with_entries_good (with_entry_good k x p r q) o

  seen : {d : ℕ} {x : SettingValue} → GoodValue Ok d x → Seen x
  seen (good_text {s} o) = made (SettingValue-F.Text s) (v.Text s) (v.rolls-Text s)
  seen (good_number {n} o) = made (SettingValue-F.Number n) (v.Number n) (v.rolls-Number n)
  seen (good_nested {name} {es} o p f) = made (SettingValue-F.Nested (plugin_of name es)) (v.Nested (plugin_of name es)) (v.rolls-Nested (plugin_of name es))
  seen (good_array {xs} p) = made (SettingValue-F.Array xs) (v.Array xs) (v.rolls-Array xs)
  seen (good_hash {es} p f) = made (SettingValue-F.Hash es) (v.Hash es) (v.rolls-Hash es)

  joined_is : {d : ℕ} {x y : SettingValue} (p : GoodValue Ok d x) (q : GoodValue Ok d y) → GoodValue Ok d (step y (seen p).0 (seen q).0) → GoodValue Ok d (joined_value x y)
  joined_is {d} {x} {y} p q = subst (GoodValue Ok d) (sym (joined_seen x y (seen p).0 (seen q).0 (seen p).1 (seen q).1))

  joined_good : {d : ℕ} {x y : SettingValue} → GoodValue Ok d x → GoodValue Ok d y → GoodValue Ok d (joined_value x y)
  unfolding seen made
  joined_good (good_array p) (good_array q) = joined_is (good_array p) (good_array q) (good_array (items_end p q))
  joined_good (good_hash {es} p f) (good_hash {es = later} q h) = joined_is (good_hash p f) (good_hash q h) (good_hash (with_entries_good p q) (fresh_entries es later f))
  joined_good p q = joined_is p q q

  with_setting_good : {d : ℕ} {es : Entries} (k : List ℕ) (x : SettingValue) → GoodEntries Ok true d es → Ok (name_token k) → GoodValue Ok d x → GoodEntries Ok true d (with_setting k x es)
  with_setting_good k x no_entries o h = entry o h no_entries
  with_setting_good {d} k x (entry {k = j} {x = z} {es} r q p) o h = at (bytes_eq j k) (with_setting_good k x p o h)
    where
      at : (b : Bool) → GoodEntries Ok true d (with_setting k x es) → GoodEntries Ok true d (if b then (k, joined_value z x) ∷ es else (j, z) ∷ with_setting k x es)
      at true again = entry o (joined_good q h) p
      at false again = entry r q again

  module _ (law : Lawful Ok) where
    scalar_good : (d : ℕ) (y : Token) (x : SettingValue) → scalar y ≡ Some x → Ok y → GoodValue Ok d x
    scalar_good d (t.Quoted s) x e o = let is : v.Text s ≡ x = cc in subst (GoodValue Ok d) is (good_text o)
    scalar_good d (t.Number n s) x e o = let is : v.Number n ≡ x = cc in subst (GoodValue Ok d) is (good_number (law.number n s o))
    scalar_good d y x e o = absurd (cc)

    bare_good : (y : Token) (name : List ℕ) → bareword y ≡ Some name → Ok y → Ok (t.Quoted name) × Ok (t.Word (word_of name))
    bare_good (t.Word a) name e o = let is : spelling a ≡ name = cc in subst (λ l. Ok (t.Quoted l) × Ok (t.Word (word_of l))) is (law.text a o, law.word a o)
    bare_good y name e o = absurd (cc)

    key_good : (y : Token) (k : List ℕ) → key y ≡ Some k → Ok y → Ok (t.Quoted k)
    key_good (t.Quoted s) k e o = let is : s ≡ k = cc in subst (λ l. Ok (t.Quoted l)) is o
    key_good (t.Number n s) k e o = let is : s ≡ k = cc in subst (λ l. Ok (t.Quoted l)) is (law.number_key n s o)
    key_good (t.Word a) k e o = let is : spelling a ≡ k = cc in subst (λ l. Ok (t.Quoted l)) is (law.text a o)
    key_good y k e o = absurd (cc)

    mutual
      good_value : {d : ℕ} {ts : List Token} {x : SettingValue} → g.ReadsValue d ts x → AllOf Ok ts → GoodValue Ok d x
      good_value (g.scalar_value {d} {y} {x} e) o = scalar_good d y x e o.0
      good_value (g.bare {name} {y} e q) o = good_nest q (bare_good y name e o.0) o.1
      good_value (g.array q) o = good_array (good_items q o.1)
      good_value (g.hash q) o = let r = good_pairs q o.1 no_entries tt in good_hash r.0 r.1

      good_nest : {d : ℕ} {name : List ℕ} {ts : List Token} {x : SettingValue} → g.ReadsNest d name ts x → Ok (t.Quoted name) × Ok (t.Word (word_of name)) → AllOf Ok ts → GoodValue Ok d x
      good_nest g.no_nest h o = good_text h.0
      good_nest (g.nested q) h o = let r = good_settings q o.1 no_entries tt in good_nested h.1 r.0 r.1

      good_items : {d : ℕ} {ts : List Token} {xs : List SettingValue} → g.ReadsItems d ts xs → AllOf Ok ts → GoodItems Ok d xs
      good_items g.no_item o = no_items
      good_items (g.items {a} {b} p q) o = good_more q (last_of_all Ok a b o) (item (good_value p (first_of_all Ok a b o)) no_items)

      good_more : {d : ℕ} {front : List SettingValue} {ts : List Token} {xs : List SettingValue} → g.ReadsMore d front ts xs → AllOf Ok ts → GoodItems Ok d front → GoodItems Ok d xs
      good_more g.no_more o h = h
      good_more (g.more {a} {b} p q) o h = good_more q (last_of_all Ok a b o.1) (items_end h (item (good_value p (first_of_all Ok a b o.1)) no_items))

      pub good_pairs : {d : ℕ} {front : Entries} {ts : List Token} {xs : Entries} → g.ReadsPairs d front ts xs → AllOf Ok ts → GoodEntries Ok false d front → Fresh [] front
          → GoodEntries Ok false d xs × Fresh [] xs
      good_pairs g.no_pair o h f = (h, f)
      good_pairs (g.pair {k} {front} {y} {a} {b} {x} e u p q) o h f =
          good_pairs q (last_of_all Ok a b o.1.1) (entries_end k x h (key_good y k e o.0) (good_value p (first_of_all Ok a b o.1.1))) (fresh_end front k x u f)

      pub good_settings : {d : ℕ} {front : Entries} {ts : List Token} {xs : Entries} → g.ReadsSettings d front ts xs → AllOf Ok ts → GoodEntries Ok true d front → Fresh [] front
          → GoodEntries Ok true d xs × Fresh [] xs
      good_settings g.no_setting o h f = (h, f)
      good_settings (g.setting {k} {front} {y} {a} {b} {x} e p q) o h f =
          good_settings q (last_of_all Ok a b o.1.1) (with_setting_good k x h (law.name y k e o.0) (good_value p (first_of_all Ok a b o.1.1))) (fresh_setting front k x f)
