-- What holds of every sound value: where it holds of a value whenever it holds of its parts.
use Rattle.std.proofs.Common.{◌≡◌, ℕ, ℤ, zero, suc, ◌≤◌, List, [], ◌∷◌, Bool, true, sym, ap, subst, ◌∙◌, arith}
use Rattle.std.specs.Bool.{⊤}
use Rattle.std.specs.Str.{IsUtf8}
use Rattle.plain_data.specs.Calendar.{IsMoment}
use Rattle.plain_data.specs.Members.{Rises}
use Rattle.event_tree.specs.Number.{Num, IsLeast}
use Rattle.event_tree.specs.NumberTexts.{IsI64}
use Rattle.event_tree.specs.Values.{Members, depth, items_depth, members_depth}
use Rattle.event_tree.specs.Sound.{sound, items_sound, members_sound}
use Rattle.event_tree.specs.declared.value.Value.{Value}
use Rattle.event_tree.specs.declared.value.Value.TheVariants as v
use Rattle.event_tree.proofs.Depths.{depth-List, depth-Object}
use Rattle.event_tree.proofs.Shapes.{Shape, is_null, is_bool, is_number, is_text, is_time, is_list, is_object, shape_of}
use Rattle.event_tree.proofs.Sounds.{sound-Num, sound-Text, sound-Time, sound-List, number_is, text_is, moment_is, rises_of, values_of, key_of, value_of, rest_of, first, second}

abbrev pub EachItem : (Value → Type 0) → List Value → Type 0
EachItem P [] = ⊤
EachItem P (d ∷ ds) = P d × EachItem P ds

-- UTF-8 at each key, and so of each value
abbrev pub EachMember : (Value → Type 0) → Members → Type 0
EachMember P [] = ⊤
EachMember P (m ∷ ms) = IsUtf8 m.0 × P m.1 × EachMember P ms

-- P holds of a sound value whenever it holds of what the value has
pub record GoesUp (P : Value → Type 0) : Type 0 where
  pub null : P v.Null
  pub bool : (b : Bool) → P (v.Bool b)
  pub number : (n : Num) → IsI64 n.mantissa → IsLeast n.mantissa n.scale → P (v.Num n)
  pub text : (s : List ℕ) → IsUtf8 s → P (v.Text s)
  pub time : (t : ℤ) → IsMoment t → P (v.Time t)
  pub list : (vs : List Value) → EachItem P vs → P (v.List vs)
  pub object : (ms : Members) → Rises ms → EachMember P ms → P (v.Object ms)

module _ (P : Value → Type 0) (up : GoesUp P) where
  module _ (levels : ℕ) (each : (d : Value) → depth d ≤ levels → sound d ≡ true → P d) where
    each_item : (vs : List Value) → items_depth vs ≤ levels → items_sound vs ≡ true → EachItem P vs
    each_item [] shallow is = tt
    each_item (d ∷ ds) shallow is = (each d (omega (arith, shallow)) (first (sound d) (items_sound ds) is), each_item ds (omega (arith, shallow)) (second (sound d) (items_sound ds) is))

    each_member : (ms : Members) → members_depth ms ≤ levels → members_sound ms ≡ true → EachMember P ms
    each_member [] shallow is = tt
    each_member (m ∷ ms) shallow is = (text_is m.0 (key_of m ms is), each m.1 (omega (arith, shallow)) (value_of m ms is), each_member ms (omega (arith, shallow)) (rest_of m ms is))

  by_shape : (d : Value) → Shape d → sound d ≡ true → ((vs : List Value) → d ≡ v.List vs → EachItem P vs) → ((ms : Members) → d ≡ v.Object ms → EachMember P ms) → P d
  by_shape d (is_null e) is items members = subst P (sym e) up.null
  by_shape d (is_bool b e) is items members = subst P (sym e) (up.bool b)
  by_shape d (is_number n e) is items members = let h = number_is n (sym (sound-Num n) ∙ ap sound (sym e) ∙ is) in subst P (sym e) (up.number n h.0 h.1)
  by_shape d (is_text s e) is items members = subst P (sym e) (up.text s (text_is s (sym (sound-Text s) ∙ ap sound (sym e) ∙ is)))
  by_shape d (is_time t e) is items members = subst P (sym e) (up.time t (moment_is t (sym (sound-Time t) ∙ ap sound (sym e) ∙ is)))
  by_shape d (is_list vs e) is items members = subst P (sym e) (up.list vs (items vs e))
  by_shape d (is_object ms e) is items members = subst P (sym e) (up.object ms (rises_of ms (ap sound (sym e) ∙ is)) (members ms e))

  within : (levels : ℕ) (d : Value) → depth d ≤ levels → sound d ≡ true → P d
  within zero d shallow is = by_shape d (shape_of d) is
      (λ vs e. absurd (omega (arith, shallow, ap depth e, depth-List vs)))
      (λ ms e. absurd (omega (arith, shallow, ap depth e, depth-Object ms)))
  within (suc levels) d shallow is = by_shape d (shape_of d) is
      (λ vs e. each_item levels (within levels) vs (omega (arith, shallow, ap depth e, depth-List vs)) (sym (sound-List vs) ∙ ap sound (sym e) ∙ is))
      (λ ms e. each_member levels (within levels) ms (omega (arith, shallow, ap depth e, depth-Object ms)) (values_of ms (ap sound (sym e) ∙ is)))

  pub each_sound : (d : Value) → sound d ≡ true → P d
  each_sound d is = within (depth d) d (omega arith) is
