-- What a reader takes of its tokens, a turn of a loop at a time.
use Rattle.std.specs.Bool.{MatchBool}
use Rattle.std.specs.Prelude.{MatchResult}
use Rattle.std.proofs.Common.{◌≡◌, ℕ, ◌+◌, ◌-◌, ◌<◌, ◌≤◌, List, [], ◌∷◌, length, ◌⊎◌, inl, inr, Bool, true, false, Result, Ok, Err, Option, Some, None, option_map, option_and_then, refl, sym, subst, ap, ap₂, ◌∙◌, arith}
use Rattle.json.specs.Token.{Token}
use Rattle.json.specs.Json as json
use Rattle.json.specs.Reads.{Yields, token_of}
use Rattle.json.specs.declared.token.Token.{Token as Handed}
use Rattle.json.specs.Json.{after_end_array, read_key, parse_map, items, members, value, if_last}
use Rattle.json.proofs.Grammar.{left, value_is, value-begin_array, value-begin_object, skip_value-shorter, read_key-shorter, items_end, items_fail, items_more, members_end, members_fail, members_more, members_no_key}
use Rattle.serde_json.specs.Data.{Num, Data, boolean, null, number, string, array, object, Items, no_items, item, Members, no_members, put}
use Rattle.serde_json.specs.Find.{as_u64}
use Rattle.serde_json.specs.Read.{converted, number_of, of_items, of_json, of_members}
use Rattle.bulk_replies.specs.Passed.{IsPassed}
use Rattle.bulk_replies.specs.Taken.{Reads, Refuses, TakesOr}
use Rattle.bulk_replies.specs.declared.tokens.PassedToken.{PassedToken}
use Rattle.bulk_replies.specs.declared.tokens.PassedToken.TheVariants as passed

-- what was read, and what of it was converted
through : {A B C : Type 0} (f : B → Option C) (g : A → B) (o : Option (A × List Token)) → converted f (parse_map g o) ≡ converted (λ a. f (g a)) o
through f g None = refl
through f g (Some p) = refl

alike : {A B : Type 0} (f g : A → Option B) (o : Option (A × List Token)) → ((a : A) → f a ≡ g a) → converted f o ≡ converted g o
alike f g None same = refl
alike f g (Some p) same = ap (option_map (λ b. (b, p.1))) (same p.0)

never : {A B : Type 0} (o : Option (A × List Token)) → converted {A = A} {B = B} (λ a. None) o ≡ None
never None = refl
never (Some p) = refl

lost : {B : Type 0} (r : List Token) (x : Option B) → option_map {U = B × List Token} (λ b. (b, r)) x ≡ None → x ≡ None
lost r None is = refl
lost r (Some b) is = absurd (cc)

abbrev pick : {A : Type 0} → A → Option A → A
pick d None = d
pick d (Some a) = a

kept : {B : Type 0} (r s : List Token) (x : Option B) (b : B) → option_map {U = B × List Token} (λ y. (y, r)) x ≡ Some (b, s) → (r ≡ s) × (x ≡ Some b)
kept r s None b is = absurd (cc)
kept r s (Some y) b is = let same = ap (pick (y, r)) is in (ap (λ p. p.1) same, ap (λ p. Some p.0) same)

got : (o : Option (json.Json × List Token)) (d : Data) (r : List Token) → converted of_json o ≡ Some (d, r) → (j : json.Json) × (o ≡ Some (j, r)) × (of_json j ≡ Some d)
got None d r is = absurd (cc)
got (Some p) d r is = let both = kept p.1 r (of_json p.0) d is in (p.0, ap (λ s. Some (p.0, s)) both.0, both.1)

-- the first token alone
pub reads_nothing : (depth : ℕ) (ts : List Token) → ts ≡ [] → Refuses depth ts
reads_nothing depth ts is = ap (converted of_json) (ap (value depth) is ∙ value_is depth [])

pub reads_string : (depth : ℕ) (s : List ℕ) (ts old : List Token) → old ≡ Token.string s ∷ ts → Reads depth old (string s) ts
reads_string depth s ts old is = ap (λ all. converted of_json (value depth all)) is ∙ ap (converted of_json) (value_is depth (Token.string s ∷ ts))

pub reads_boolean : (depth : ℕ) (b : Bool) (ts old : List Token) → old ≡ Token.boolean b ∷ ts → Reads depth old (boolean b) ts
reads_boolean depth b ts old is = ap (λ all. converted of_json (value depth all)) is ∙ ap (converted of_json) (value_is depth (Token.boolean b ∷ ts))

pub reads_null : (depth : ℕ) (ts old : List Token) → old ≡ Token.null ∷ ts → Reads depth old null ts
reads_null depth ts old is = ap (λ all. converted of_json (value depth all)) is ∙ ap (converted of_json) (value_is depth (Token.null ∷ ts))

number_case : (ts : List Token) (o : Option Num) (w : Option ℕ) → Some w ≡ option_map as_u64 o → (n : Num) × (option_map {U = Data × List Token} (λ d. (d, ts)) (option_map number o) ≡ Some (number n, ts)) × (w ≡ as_u64 n)
number_case ts None w is = absurd (cc)
number_case ts (Some n) w is = (n, refl, cc)

pub reads_number : (depth : ℕ) (s : List ℕ) (ts old : List Token) (w : Option ℕ) → old ≡ Token.number s ∷ ts → Some w ≡ option_map as_u64 (number_of s) → (n : Num) × Reads depth old (number n) ts × (w ≡ as_u64 n)
reads_number depth s ts old w is says =
    let n = number_case ts (number_of s) w says in
    (n.0, ap (λ all. converted of_json (value depth all)) is ∙ ap (converted of_json) (value_is depth (Token.number s ∷ ts)) ∙ n.1, n.2)

no_number : (ts : List Token) (o : Option Num) → None ≡ option_map as_u64 o → option_map {U = Data × List Token} (λ d. (d, ts)) (option_map number o) ≡ None
no_number ts None is = refl
no_number ts (Some n) is = absurd (cc)

pub refuses_number : (depth : ℕ) (s : List ℕ) (ts old : List Token) → old ≡ Token.number s ∷ ts → None ≡ option_map as_u64 (number_of s) → Refuses depth old
refuses_number depth s ts old is says =
    ap (λ all. converted of_json (value depth all)) is ∙ ap (converted of_json) (value_is depth (Token.number s ∷ ts)) ∙ no_number ts (number_of s) says

-- a token that was handed out
pub yields_first : (old new : List Token) (o : Option Handed) (t : Handed) → o ≡ Some t → Yields old o new → old ≡ token_of t ∷ new
yields_first old new o t is first = subst (λ x. Yields old x new) is first

pub yields_none : (old new : List Token) (o : Option Handed) → o ≡ None → Yields old o new → old ≡ []
yields_none old new o is none = (subst (λ x. Yields old x new) is none).0

-- a bracket that was passed
pub passed_list : (old new : List Token) (p : PassedToken) → p ≡ passed.List → IsPassed p old new → old ≡ Token.begin_array ∷ new
passed_list old new p is by = subst (λ x. IsPassed x old new) is by

pub passed_object : (old new : List Token) (p : PassedToken) → p ≡ passed.Object → IsPassed p old new → old ≡ Token.begin_object ∷ new
passed_object old new p is by = subst (λ x. IsPassed x old new) is by

-- a key that was passed
abbrev Keyed : List Token → Bool → List Token → Type 0
Keyed old goes_on new = MatchBool goes_on ((key : List ℕ) × (read_key old ≡ Some (Some key, new))) (read_key old ≡ Some (None, new))

pub key_passed : (old new : List Token) (b : Bool) → b ≡ true → Keyed old b new → (key : List ℕ) × (read_key old ≡ Some (Some key, new))
key_passed old new b is passed = subst (λ x. Keyed old x new) is passed

pub no_key_left : (old new : List Token) (b : Bool) → b ≡ false → Keyed old b new → read_key old ≡ Some (None, new)
no_key_left old new b is passed = subst (λ x. Keyed old x new) is passed

-- a number, for every depth
pub reads_number_deep : (s : List ℕ) (ts old : List Token) (w : Option ℕ) → old ≡ Token.number s ∷ ts → Some w ≡ option_map as_u64 (number_of s) → (n : Num) × ((depth : ℕ) → Reads depth old (number n) ts)
reads_number_deep s ts old w is says =
    let n = number_case ts (number_of s) w says in
    (n.0, λ depth. ap (λ all. converted of_json (value depth all)) is ∙ ap (converted of_json) (value_is depth (Token.number s ∷ ts)) ∙ n.1)

pub no_level : (depth : ℕ) (t : Token) (ts old : List Token) → depth ≡ 0 → old ≡ t ∷ ts → (t ≡ Token.begin_array) ⊎ (t ≡ Token.begin_object) → Refuses depth old
unfolding value
no_level depth t ts old none is (inl list) = ap₂ (λ n all. converted of_json (value n all)) none (is ∙ ap (λ x. x ∷ ts) list)
no_level depth t ts old none is (inr brace) = ap₂ (λ n all. converted of_json (value n all)) none (is ∙ ap (λ x. x ∷ ts) brace)

-- a value takes at least one token
pub reads_shorter : (depth : ℕ) (old new : List Token) (d : Data) → Reads depth old d new → length new < length old
reads_shorter depth old new d is = skip_value-shorter depth old new (ap left (got (value depth old) d new is).1)

-- these are the members so far of an object
abbrev goes_on : Members → json.Members → Option Data
goes_on ms x = option_map object (of_members x ms)

pub record Within (depth : ℕ) (old now : List Token) (ms : Members) : Type 0 where
  pub n : ℕ
  pub enough : length now ≤ n
  pub same : converted of_json (value (depth + 1) old) ≡ converted (goes_on ms) (members (value depth) n now)

pub object_opens : (depth : ℕ) (old now : List Token) → old ≡ Token.begin_object ∷ now → Within depth old now no_members
object_opens depth old now is =
    let inner : depth + 1 - 1 ≡ depth = omega arith in
    record {
      n = length now;
      enough = omega arith;
      same = ap (λ ts. converted of_json (value (depth + 1) ts)) is ∙ ap (converted of_json) (value-begin_object (depth + 1) now (omega arith)) ∙ through of_json json.object (members (value (depth + 1 - 1)) (length now) now)
          ∙ ap (λ k. converted (goes_on no_members) (members (value k) (length now) now)) inner;
    }

module _ (depth : ℕ) (old now : List Token) (ms : Members) (w : Within depth old now ms) where
  -- one more, with what its value is converted to
  one_read : (k : List ℕ) (s r : List Token) (j : json.Json) (x : Option Data) → read_key now ≡ Some (Some k, s) → value depth s ≡ Some (j, r) → of_json j ≡ x
      → converted of_json (value (depth + 1) old) ≡ converted (λ y. option_map object (option_and_then (λ d. of_members y (put k d ms)) x)) (members (value depth) (w.n - 1) r)
  one_read k s r j x key is made =
      let some = read_key-shorter now (Some k) s key in
      w.same ∙ ap (converted (goes_on ms)) (members_more (value depth) w.n k now s r j (omega (arith, some, w.enough)) key is) ∙ through (goes_on ms) (json.member k j) _
      ∙ ap (λ o. converted (λ y. option_map object (option_and_then (λ d. of_members y (put k d ms)) o)) (members (value depth) (w.n - 1) r)) made

  pub member_passed : (k : List ℕ) (s r : List Token) (d : Data) → read_key now ≡ Some (Some k, s) → Reads depth s d r → Within depth old r (put k d ms)
  member_passed k s r d key is =
      let j = got (value depth s) d r is in
      record { n = w.n - 1; enough = omega (arith, w.enough, read_key-shorter now (Some k) s key, reads_shorter depth s r d is); same = one_read k s r j.0 (Some d) key j.1 j.2 }

  pub object_ends : (r : List Token) → read_key now ≡ Some (None, r) → Reads (depth + 1) old (object ms) r
  object_ends r key = w.same ∙ ap (converted (goes_on ms)) (members_end (value depth) w.n now r w.enough key)

  pub no_key : read_key now ≡ None → Refuses (depth + 1) old
  no_key key = w.same ∙ ap (converted (goes_on ms)) (members_no_key (value depth) w.n now key)

  member_lost : (k : List ℕ) (s : List Token) (o : Option (json.Json × List Token)) → read_key now ≡ Some (Some k, s) → value depth s ≡ o → converted of_json o ≡ None → Refuses (depth + 1) old
  member_lost k s None key is none = w.same ∙ ap (converted (goes_on ms)) (members_fail (value depth) w.n k now s key is)
  member_lost k s (Some p) key is none = one_read k s p.1 p.0 None key is (lost p.1 (of_json p.0) none) ∙ never _

  pub no_member : (k : List ℕ) (s : List Token) → read_key now ≡ Some (Some k, s) → Refuses depth s → Refuses (depth + 1) old
  no_member k s key none = member_lost k s (value depth s) key refl none

-- with any further items, a list has these before them
abbrev list_goes_on : (Items → Items) → json.Items → Option Data
list_goes_on before x = option_map (λ ds. array (before ds)) (of_items x)

pub record ListWithin (depth : ℕ) (old now : List Token) (before : Items → Items) : Type 0 where
  pub n : ℕ
  pub enough : length now ≤ n
  pub same : converted of_json (value (depth + 1) old) ≡ converted (list_goes_on before) (items (value depth) n now)

pub list_opens : (depth : ℕ) (old now : List Token) → old ≡ Token.begin_array ∷ now → ListWithin depth old now (λ ds. ds)
list_opens depth old now is =
    let inner : depth + 1 - 1 ≡ depth = omega arith in
    record {
      n = length now;
      enough = omega arith;
      same = ap (λ ts. converted of_json (value (depth + 1) ts)) is ∙ ap (converted of_json) (value-begin_array (depth + 1) now (omega arith)) ∙ through of_json json.array (items (value (depth + 1 - 1)) (length now) now)
          ∙ ap (λ k. converted (list_goes_on (λ ds. ds)) (items (value k) (length now) now)) inner;
    }

with_item : (before : Items → Items) (d : Data) (o : Option Items) → option_map (λ ds. array (before ds)) (option_map (item d) o) ≡ option_map (λ ds. array (before (item d ds))) o
with_item before d None = refl
with_item before d (Some ds) = refl

module _ (depth : ℕ) (old now : List Token) (before : Items → Items) (w : ListWithin depth old now before) (going : after_end_array now ≡ None) where
  one_item : (r : List Token) (j : json.Json) (x : Option Data) → length r < length now → value depth now ≡ Some (j, r) → of_json j ≡ x
      → converted of_json (value (depth + 1) old) ≡ converted (λ y. option_map (λ ds. array (before ds)) (option_and_then (λ d. option_map (item d) (of_items y)) x)) (items (value depth) (w.n - 1) r)
  one_item r j x less is made =
      w.same ∙ ap (converted (list_goes_on before)) (items_more (value depth) w.n now r j (omega (arith, less, w.enough)) going is) ∙ through (list_goes_on before) (json.item j) _
      ∙ ap (λ o. converted (λ y. option_map (λ ds. array (before ds)) (option_and_then (λ d. option_map (item d) (of_items y)) o)) (items (value depth) (w.n - 1) r)) made

  pub item_passed : (r : List Token) (d : Data) → Reads depth now d r → ListWithin depth old r (λ ds. before (item d ds))
  item_passed r d is =
      let j = got (value depth now) d r is in
      let less = reads_shorter depth now r d is in
      record {
        n = w.n - 1;
        enough = omega (arith, w.enough, less);
        same = one_item r j.0 (Some d) less j.1 j.2
            ∙ alike _ (list_goes_on (λ ds. before (item d ds))) (items (value depth) (w.n - 1) r) (λ y. with_item before d (of_items y));
      }

  item_lost : (o : Option (json.Json × List Token)) → value depth now ≡ o → converted of_json o ≡ None → Refuses (depth + 1) old
  item_lost None is none = w.same ∙ ap (converted (list_goes_on before)) (items_fail (value depth) w.n now going is)
  item_lost (Some p) is none = one_item p.1 p.0 None (skip_value-shorter depth now p.1 (ap left is)) is (lost p.1 (of_json p.0) none) ∙ never _

  pub no_item : Refuses depth now → Refuses (depth + 1) old
  no_item none = item_lost (value depth now) refl none

pub list_ends : (depth : ℕ) (old now r : List Token) (before : Items → Items) → ListWithin depth old now before → after_end_array now ≡ Some r → Reads (depth + 1) old (array (before no_items)) r
list_ends depth old now r before w end = w.same ∙ ap (converted (list_goes_on before)) (items_end (value depth) w.n now r w.enough end)

-- the whole text
abbrev whole : Option (json.Json × List Token) → Option Data
whole o = option_and_then of_json (option_and_then (λ p. if_last p.0 p.1) o)

pub whole_read : (depth : ℕ) (ts : List Token) (d : Data) → Reads depth ts d [] → whole (value depth ts) ≡ Some d
whole_read depth ts d is = let j = got (value depth ts) d [] is in ap whole j.1 ∙ j.2

pub more_left : (depth : ℕ) (ts r : List Token) (t : Token) (d : Data) → Reads depth ts d (t ∷ r) → whole (value depth ts) ≡ None
more_left depth ts r t d is = ap whole (got (value depth ts) d (t ∷ r) is).1

whole_lost : (o : Option (json.Json × List Token)) → converted of_json o ≡ None → whole o ≡ None
whole_lost None none = refl
whole_lost (Some (j, [])) none = lost [] (of_json j) none
whole_lost (Some (j, t ∷ r)) none = refl

pub whole_refused : (depth : ℕ) (ts : List Token) → Refuses depth ts → whole (value depth ts) ≡ None
whole_refused depth ts none = whole_lost (value depth ts) none

-- what an error says, where it is sure
pub if_sure : {E : Type 0} (sure : Type 0) (old new : List Token) (r : Result PassedToken E) → MatchResult r (λ p. IsPassed p old new) (λ _. (depth : ℕ) → Refuses depth old)
    → MatchResult r (λ p. IsPassed p old new) (λ _. sure → (depth : ℕ) → Refuses depth old)
if_sure sure old new (Ok p) is = is
if_sure sure old new (Err e) is = λ _. is

pub takes_more : {A E : Type 0} (fault : E) (sure : Type 0) (depth : ℕ) (old new : List Token) (P Q : Data → A → Type 0) (r : Result A E) → TakesOr fault sure depth old new P r → ((d : Data) (a : A) → P d a → Q d a) → TakesOr fault sure depth old new Q r
takes_more fault sure depth old new P Q (Ok a) t more = (t.0, t.1, more t.0 a t.2)
takes_more fault sure depth old new P Q (Err e) t more = t

pub refuses_but : {A E : Type 0} (fault : E) (sure : Type 0) (depth : ℕ) (old new : List Token) (P : Data → A → Type 0) (r : Result A E) (e : E) → r ≡ Err e → ((e ≡ fault → ⊥) → sure → Refuses depth old) → TakesOr fault sure depth old new P r
refuses_but fault sure depth old new P r e is none = subst (TakesOr fault sure depth old new P) (sym is) none
