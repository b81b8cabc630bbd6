-- The equations of sound, what it says of each part, and that each change of a list or of an object keeps it.
use Rattle.std.proofs.Common.{◌≡◌, ℕ, zero, suc, ◌+◌, ◌<◌, ◌⊎◌, inl, inr, List, [], ◌∷◌, ◌++◌, Bool, true, false, ◌&&◌, ◌==◌, ℤ, pos, negsuc, ◌≤ℤ◌, Some, refl, sym, ap, subst, ◌∙◌, rules, arith, slice_get, slice_set, remove, length, drop, get_or}
use Rattle.std.proofs.lemmas.List.{at_drop_more}
use Rattle.std.specs.Prelude.{◌||◌, not, nat_le, int_le, int_rem}
use Rattle.std.specs.Str.{IsUtf8}
use Rattle.std.proofs.lemmas.Str.{IsUtf8-from_is_utf8, is_utf8-from_IsUtf8}
use Rattle.std.proofs.lemmas.Bool.Decides.{nat_tests}
use Rattle.std.proofs.lemmas.Int.{ints}
use Rattle.std.specs.Map.{keys_of}
use Rattle.std.specs.Ordering.{is_lt, int_eq}
use Rattle.plain_data.specs.Keys.{text_cmp, Below, Ascends}
use Rattle.plain_data.specs.Members.{Rises, get_member, set_member, insert_member, remove_member}
use Rattle.plain_data.proofs.KeyLemmas.{order_cases, Less-from_is_lt}
use Rattle.plain_data.proofs.MemberLemmas.{Rises-insert_member, Rises-set_member, Rises-remove_member}
use Rattle.plain_data.specs.Calendar.{IsMoment, first_moment, last_moment}
use Rattle.event_tree.specs.Number.{Num, IsLeast}
use Rattle.event_tree.specs.NumberTexts.{IsI64}
use Rattle.event_tree.specs.Values.{Members, on_values}
use Rattle.event_tree.specs.Sound.{sound, sound_step, is_i64, is_least, is_number, is_moment, is_text, are_texts, is_below, ascend, items_sound, members_sound}
use Rattle.event_tree.specs.Paths.{wrap}
use Rattle.event_tree.specs.declared.value.Value.{Value}
use Rattle.event_tree.specs.declared.value.Value.TheVariants as v
use Rattle.event_tree.proofs.Folds.{IsFold, fold_is}

sound_equations : IsFold Bool sound_step sound
unfolding sound
sound_equations = fold_is Bool sound_step

pub sound-Null : sound v.Null ≡ true
sound-Null = sound_equations.null

pub sound-Bool : (b : Bool) → sound (v.Bool b) ≡ true
sound-Bool b = sound_equations.bool b

pub sound-Num : (n : Num) → sound (v.Num n) ≡ is_number n
sound-Num n = sound_equations.number n

pub sound-Text : (s : List ℕ) → sound (v.Text s) ≡ is_text s
sound-Text s = sound_equations.text s

pub sound-Time : (t : ℤ) → sound (v.Time t) ≡ is_moment t
sound-Time t = sound_equations.time t

pub sound-List : (vs : List Value) → sound (v.List vs) ≡ items_sound vs
sound-List vs = sound_equations.list vs

pub sound-Object : (ms : Members) → sound (v.Object ms) ≡ (ascend (keys_of (on_values sound ms)) && members_sound ms)
sound-Object ms = sound_equations.object ms

pub both_true : (a b : Bool) → a ≡ true → b ≡ true → (a && b) ≡ true
both_true a b h k = rw h k

pub first : (a b : Bool) → (a && b) ≡ true → a ≡ true
first true b h = refl
first false b h = h

pub second : (a b : Bool) → (a && b) ≡ true → b ≡ true
second true b h = h
second false b h = absurd (search (h, rules))

le_true : (a b : ℤ) → a ≤ℤ b → int_le a b ≡ true
le_true a b h = grind (arith, ints)

le_is : (a b : ℤ) → int_le a b ≡ true → a ≤ℤ b
le_is a b h = grind (arith, ints, h)

-- ---- what the tests of a number, of a time and of a text say

abbrev has_rest : ℤ → Bool
has_rest mantissa = not (int_eq (int_rem mantissa (pos 10)) (pos 0))

or_true : (a b : Bool) → b ≡ true → (a || b) ≡ true
or_true true b h = refl
or_true false b h = h

not_true : (t : Bool) → not t ≡ true → t ≡ false
not_true true e = sym e
not_true false e = refl

trimmed_true : (m : ℤ) (s : ℕ) → (s ≡ 0) ⊎ (int_eq (int_rem m (pos 10)) (pos 0) ≡ false) → ((s == 0) || has_rest m) ≡ true
trimmed_true m s h = elim h [
  | inl none ↦ let z : (s == 0) ≡ true = grind (arith, nat_tests, none) in rw z refl
  | inr e ↦ or_true (s == 0) (has_rest m) (ap not e)
]

trimmed_is : (m : ℤ) (s : ℕ) → ((s == 0) || has_rest m) ≡ true → (s ≡ 0) ⊎ (int_eq (int_rem m (pos 10)) (pos 0) ≡ false)
trimmed_is m s h = by (s == 0) refl h
  where
    by : (t : Bool) → (s == 0) ≡ t → (t || has_rest m) ≡ true → (s ≡ 0) ⊎ (int_eq (int_rem m (pos 10)) (pos 0) ≡ false)
    by true e k = inl (grind (arith, nat_tests, e))
    by false e k = inr (not_true (int_eq (int_rem m (pos 10)) (pos 0)) k)

pub number_true : (n : Num) → IsI64 n.mantissa → IsLeast n.mantissa n.scale → is_number n ≡ true
unfolding is_number
number_true n fits is = both_true _ _
    (both_true _ _ (le_true (negsuc 9223372036854775807) n.mantissa fits.0) (le_true n.mantissa (pos 9223372036854775807) fits.1))
    (both_true _ _ (grind (arith, nat_tests, is.few)) (trimmed_true n.mantissa n.scale is.trimmed))

pub number_is : (n : Num) → is_number n ≡ true → IsI64 n.mantissa × IsLeast n.mantissa n.scale
unfolding is_number
number_is n h =
    let low = int_le (negsuc 9223372036854775807) n.mantissa in
    let high = int_le n.mantissa (pos 9223372036854775807) in
    let fits = first (is_i64 n.mantissa) (is_least n.mantissa n.scale) h in
    let least = second (is_i64 n.mantissa) (is_least n.mantissa n.scale) h in
    let few : nat_le n.scale 18 ≡ true = first (nat_le n.scale 18) ((n.scale == 0) || has_rest n.mantissa) least in (
      (le_is (negsuc 9223372036854775807) n.mantissa (first low high fits), le_is n.mantissa (pos 9223372036854775807) (second low high fits)),
      record {
        few = grind (arith, nat_tests, few);
        trimmed = trimmed_is n.mantissa n.scale (second (nat_le n.scale 18) ((n.scale == 0) || has_rest n.mantissa) least);
      },
    )

pub moment_true : (nanos : ℤ) → IsMoment nanos → is_moment nanos ≡ true
unfolding is_moment
moment_true nanos is = both_true _ _ (le_true first_moment nanos is.from_first) (le_true nanos last_moment is.to_last)

pub moment_is : (nanos : ℤ) → is_moment nanos ≡ true → IsMoment nanos
unfolding is_moment
moment_is nanos h = record {
  from_first = le_is first_moment nanos (first (int_le first_moment nanos) (int_le nanos last_moment) h);
  to_last = le_is nanos last_moment (second (int_le first_moment nanos) (int_le nanos last_moment) h);
}

pub text_true : (bytes : List ℕ) → IsUtf8 bytes → is_text bytes ≡ true
unfolding is_text
text_true bytes u = is_utf8-from_IsUtf8 bytes u

pub text_is : (bytes : List ℕ) → is_text bytes ≡ true → IsUtf8 bytes
unfolding is_text
text_is bytes h = IsUtf8-from_is_utf8 bytes h

-- a value of one of these kinds
pub sound_number : (n : Num) → is_number n ≡ true → sound (v.Num n) ≡ true
sound_number n h = sound-Num n ∙ h

pub sound_text : (s : List ℕ) → IsUtf8 s → sound (v.Text s) ≡ true
sound_text s u = sound-Text s ∙ text_true s u

pub sound_time : (t : ℤ) → IsMoment t → sound (v.Time t) ≡ true
sound_time t is = sound-Time t ∙ moment_true t is

-- ---- keys that rise

keys_of-on_values : {A B : Type 0} (f : A → B) (ms : List (List ℕ × A)) → keys_of (on_values f ms) ≡ keys_of ms
keys_of-on_values f [] = refl
keys_of-on_values f (m ∷ ms) = ap (λ ks. m.0 ∷ ks) (keys_of-on_values f ms)

below_true : (k : List ℕ) (ls : List (List ℕ)) → Below k ls → is_below k ls ≡ true
below_true k [] b = refl
below_true k (l ∷ ls) b = both_true _ _ (ap is_lt b.0) (below_true k ls b.1)

ascend_true : (ks : List (List ℕ)) → Ascends ks → ascend ks ≡ true
ascend_true [] s = refl
ascend_true (k ∷ ks) s = both_true _ _ (below_true k ks s.0) (ascend_true ks s.1)

below_is : (k : List ℕ) (ls : List (List ℕ)) → is_below k ls ≡ true → Below k ls
below_is k [] h = tt
below_is k (l ∷ ls) h = (Less-from_is_lt (text_cmp k l) (first (is_lt (text_cmp k l)) (is_below k ls) h), below_is k ls (second (is_lt (text_cmp k l)) (is_below k ls) h))

ascend_is : (ks : List (List ℕ)) → ascend ks ≡ true → Ascends ks
ascend_is [] h = tt
ascend_is (k ∷ ks) h = (below_is k ks (first (is_below k ks) (ascend ks) h), ascend_is ks (second (is_below k ks) (ascend ks) h))

-- where its keys rise and its values are sound, an object is, and the other way round
pub sound_rises : (ms : Members) → Rises ms → members_sound ms ≡ true → sound (v.Object ms) ≡ true
sound_rises ms s h = sound-Object ms ∙ both_true _ _ (ap ascend (keys_of-on_values sound ms) ∙ ascend_true (keys_of ms) s) h

pub rises_of : (ms : Members) → sound (v.Object ms) ≡ true → Rises ms
rises_of ms h =
    let e : (ascend (keys_of (on_values sound ms)) && members_sound ms) ≡ true = sym (sound-Object ms) ∙ h in
    subst Ascends (keys_of-on_values sound ms) (ascend_is (keys_of (on_values sound ms)) (first (ascend (keys_of (on_values sound ms))) (members_sound ms) e))

pub values_of : (ms : Members) → sound (v.Object ms) ≡ true → members_sound ms ≡ true
values_of ms h = second (ascend (keys_of (on_values sound ms))) (members_sound ms) (sym (sound-Object ms) ∙ h)

pub ruleset sounds = (sound-Null, sound-Bool, sound_number, sound_text, sound_time, sound-List, sound_rises, text_true)

-- ---- changes

pub items_sound-get : (vs : List Value) (i : ℕ) (x : Value) → items_sound vs ≡ true → slice_get vs i ≡ Some x → sound x ≡ true
items_sound-get [] i x a h = absurd (search (h, rules))
items_sound-get (y ∷ vs) zero x a h = let e : y ≡ x = search (h, rules) in ap sound (sym e) ∙ first (sound y) (items_sound vs) a
items_sound-get (y ∷ vs) (suc i) x a h = items_sound-get vs i x (second (sound y) (items_sound vs) a) h

pub items_sound-set : (vs : List Value) (i : ℕ) (x : Value) → items_sound vs ≡ true → sound x ≡ true → items_sound (slice_set vs i x) ≡ true
items_sound-set [] i x a h = refl
items_sound-set (y ∷ vs) zero x a h = both_true _ _ h (second (sound y) (items_sound vs) a)
items_sound-set (y ∷ vs) (suc i) x a h = both_true _ _ (first (sound y) (items_sound vs) a) (items_sound-set vs i x (second (sound y) (items_sound vs) a) h)

pub items_sound-push : (vs : List Value) (x : Value) → items_sound vs ≡ true → sound x ≡ true → items_sound (vs ++ x ∷ []) ≡ true
items_sound-push [] x a h = both_true _ _ h refl
items_sound-push (y ∷ vs) x a h = both_true _ _ (first (sound y) (items_sound vs) a) (items_sound-push vs x (second (sound y) (items_sound vs) a) h)

pub items_sound-remove : (vs : List Value) (i : ℕ) (x : Value) → items_sound vs ≡ true → slice_get vs i ≡ Some x → items_sound (remove vs i) ≡ true
items_sound-remove [] i x a h = absurd (search (h, rules))
items_sound-remove (y ∷ vs) zero x a h = second (sound y) (items_sound vs) a
items_sound-remove (y ∷ vs) (suc i) x a h = both_true _ _ (first (sound y) (items_sound vs) a) (items_sound-remove vs i x (second (sound y) (items_sound vs) a) h)

-- where all parts are UTF-8, the first is, and the others are
pub first_text : (p : List ℕ) (ps : List (List ℕ)) → are_texts (p ∷ ps) ≡ true → is_text p ≡ true
first_text p ps t = first (is_text p) (are_texts ps) t

pub other_texts : (p : List ℕ) (ps : List (List ℕ)) → are_texts (p ∷ ps) ≡ true → are_texts ps ≡ true
other_texts p ps t = second (is_text p) (are_texts ps) t

-- what holds of a member and of those behind it
abbrev member_sound : List ℕ × Value → Bool
member_sound m = is_text m.0 && sound m.1

pub key_of : (m : List ℕ × Value) (ms : Members) → members_sound (m ∷ ms) ≡ true → is_text m.0 ≡ true
key_of m ms a = first (is_text m.0) (sound m.1) (first (member_sound m) (members_sound ms) a)

pub value_of : (m : List ℕ × Value) (ms : Members) → members_sound (m ∷ ms) ≡ true → sound m.1 ≡ true
value_of m ms a = second (is_text m.0) (sound m.1) (first (member_sound m) (members_sound ms) a)

pub rest_of : (m : List ℕ × Value) (ms : Members) → members_sound (m ∷ ms) ≡ true → members_sound ms ≡ true
rest_of m ms a = second (member_sound m) (members_sound ms) a

-- parts of which the first is UTF-8
pub texts_on : (p : List ℕ) (ps : List (List ℕ)) → IsUtf8 p → are_texts ps ≡ true → are_texts (p ∷ ps) ≡ true
texts_on p ps u t = both_true _ _ (text_true p u) t

pub ruleset texts = (text_true, texts_on)

-- behind a part that is UTF-8, behind a sound item and behind a sound member, as much is still to be shown
pub texts_behind : (ps : List (List ℕ)) (i : ℕ) (p : List ℕ) → i < length ps → p ≡ get_or ps i p → IsUtf8 p → are_texts (drop (i + 1) ps) ≡ are_texts (drop i ps)
texts_behind ps i p within is u =
    let t : is_text (get_or ps i p) ≡ true = ap is_text (sym is) ∙ text_true p u in
    sym (at_drop_more are_texts ps i p within ∙ rw t refl)

pub items_behind : (vs : List Value) (i : ℕ) (d : Value) → i < length vs → d ≡ get_or vs i d → sound d ≡ true → items_sound (drop (i + 1) vs) ≡ items_sound (drop i vs)
items_behind vs i d within is h =
    let t : sound (get_or vs i d) ≡ true = ap sound (sym is) ∙ h in
    sym (at_drop_more items_sound vs i d within ∙ rw t refl)

pub members_behind : (ms : Members) (i : ℕ) (m : List ℕ × Value) → i < length ms → m ≡ get_or ms i m → IsUtf8 m.0 → sound m.1 ≡ true → members_sound (drop (i + 1) ms) ≡ members_sound (drop i ms)
members_behind ms i m within is u h =
    let t : member_sound (get_or ms i m) ≡ true = ap member_sound (sym is) ∙ both_true _ _ (text_true m.0 u) h in
    sym (at_drop_more members_sound ms i m within ∙ rw t refl)

module _ (p : List ℕ) where
  members_sound-get : (ms : Members) (x : Value) → members_sound ms ≡ true → get_member p ms ≡ Some x → sound x ≡ true
  members_sound-get [] x a h = absurd (search (h, rules))
  members_sound-get (m ∷ ms) x a h = order_cases (text_cmp p m.0)
      (λ e. members_sound-get ms x (rest_of m ms a) (rw e at h))
      (λ e. let y : m.1 ≡ x = search ((rw e at h), rules) in ap sound (sym y) ∙ value_of m ms a)
      (λ e. members_sound-get ms x (rest_of m ms a) (rw e at h))

  members_sound-set : (ms : Members) (x : Value) → members_sound ms ≡ true → sound x ≡ true → members_sound (set_member p x ms) ≡ true
  members_sound-set [] x a h = refl
  members_sound-set (m ∷ ms) x a h =
      let f = first (member_sound m) (members_sound ms) a in
      let s = rest_of m ms a in
      order_cases (text_cmp p m.0) (λ e. rw e (both_true _ _ f (members_sound-set ms x s h))) (λ e. rw e (both_true _ _ (both_true _ _ (key_of m ms a) h) s)) (λ e. rw e (both_true _ _ f (members_sound-set ms x s h)))

  members_sound-insert : (ms : Members) (x : Value) → is_text p ≡ true → members_sound ms ≡ true → sound x ≡ true → members_sound (insert_member p x ms) ≡ true
  members_sound-insert [] x t a h = both_true _ _ (both_true _ _ t h) refl
  members_sound-insert (m ∷ ms) x t a h =
      let f = first (member_sound m) (members_sound ms) a in
      let s = rest_of m ms a in
      order_cases (text_cmp p m.0) (λ e. rw e (both_true _ _ (both_true _ _ t h) a)) (λ e. rw e (both_true _ _ (both_true _ _ t h) s)) (λ e. rw e (both_true _ _ f (members_sound-insert ms x t s h)))

  members_sound-remove : (ms : Members) → members_sound ms ≡ true → members_sound (remove_member p ms) ≡ true
  members_sound-remove [] a = refl
  members_sound-remove (m ∷ ms) a =
      let f = first (member_sound m) (members_sound ms) a in
      let s = rest_of m ms a in
      order_cases (text_cmp p m.0) (λ e. rw e (both_true _ _ f (members_sound-remove ms s))) (λ e. rw e s) (λ e. rw e (both_true _ _ f (members_sound-remove ms s)))

  pub sound-get_member : (ms : Members) (x : Value) → sound (v.Object ms) ≡ true → get_member p ms ≡ Some x → sound x ≡ true
  sound-get_member ms x a h = members_sound-get ms x (values_of ms a) h

  pub sound-set_member : (ms : Members) (x : Value) → sound (v.Object ms) ≡ true → sound x ≡ true → sound (v.Object (set_member p x ms)) ≡ true
  sound-set_member ms x a h = sound_rises (set_member p x ms) (Rises-set_member p x ms (rises_of ms a)) (members_sound-set ms x (values_of ms a) h)

  pub sound-insert_member : (ms : Members) (x : Value) → is_text p ≡ true → sound (v.Object ms) ≡ true → sound x ≡ true → sound (v.Object (insert_member p x ms)) ≡ true
  sound-insert_member ms x t a h = sound_rises (insert_member p x ms) (Rises-insert_member p x ms (rises_of ms a)) (members_sound-insert ms x t (values_of ms a) h)

  pub sound-remove_member : (ms : Members) → sound (v.Object ms) ≡ true → sound (v.Object (remove_member p ms)) ≡ true
  sound-remove_member ms a = sound_rises (remove_member p ms) (Rises-remove_member p ms (rises_of ms a)) (members_sound-remove ms (values_of ms a))

pub sound-wrap : (ps : List (List ℕ)) (d : Value) → are_texts ps ≡ true → sound d ≡ true → sound (wrap ps d) ≡ true
sound-wrap [] d t h = h
sound-wrap (p ∷ ps) d t h = sound_rises ((p, wrap ps d) ∷ []) (tt, tt) (both_true _ _ (both_true _ _ (first_text p ps t) (sound-wrap ps d (other_texts p ps t) h)) refl)
