-- The equations of parts, one for each variant, and what values are in each.
use Rattle.std.proofs.Common.{◌≡◌, ℕ, zero, suc, List, [], ◌∷◌, ◌++◌, length, map, Bool, ℤ, if◌then◌else◌, refl, sym, ap, subst, ◌∙◌, append_assoc}
use Rattle.std.proofs.lemmas.List.{length-map}
use Rattle.plain_data.specs.Calendar.{IsMoment}
use Rattle.event_tree.specs.Number.{Num}
use Rattle.event_tree.specs.Values.{Members, on_values}
use Rattle.event_tree.specs.declared.value.Value.{Value, out-Value}
use Rattle.event_tree.specs.declared.value.Value.TheOpen.{Value-F}
use Rattle.event_tree.specs.declared.value.Value.TheVariants as v
use Rattle.event_tree.proofs.Folds.{IsFold, fold_is}
use Rattle.element_code.specs.Parts.{Part, plain, text, many, part_bytes, bytes_of, number_bytes, time_bytes, items_parts, members_parts, parts, parts_step}
use Rattle.element_code.specs.Values.{IsNumber, IsText, IsValue, IsValueIn, AreItemsOf, AreMembersOf}

parts_equations : IsFold (List Part) parts_step parts
unfolding parts
parts_equations = fold_is (List Part) parts_step

pub parts-Null : parts v.Null ≡ plain 0 [] ∷ []
parts-Null = parts_equations.null

pub parts-Bool : (b : Bool) → parts (v.Bool b) ≡ plain (if b then 2 else 1) [] ∷ []
parts-Bool b = parts_equations.bool b

pub parts-Num : (n : Num) → parts (v.Num n) ≡ plain 3 (number_bytes n) ∷ []
parts-Num n = parts_equations.number n

pub parts-Text : (s : List ℕ) → parts (v.Text s) ≡ text s ∷ []
parts-Text s = parts_equations.text s

pub parts-Time : (t : ℤ) → parts (v.Time t) ≡ plain 5 (time_bytes t) ∷ []
parts-Time t = parts_equations.time t

pub parts-List : (vs : List Value) → parts (v.List vs) ≡ many 6 (length vs) ∷ items_parts (map parts vs)
parts-List vs = parts_equations.list vs ∙ ap (λ n. many 6 n ∷ items_parts (map parts vs)) (length-map vs parts)

pub parts-Object : (ms : Members) → parts (v.Object ms) ≡ many 7 (length ms) ∷ members_parts (on_values parts ms)
parts-Object ms = parts_equations.object ms ∙ ap (λ n. many 7 n ∷ members_parts (on_values parts ms)) (length-map ms (λ m. (m.0, parts m.1)))

pub bytes_of-append : (ps qs : List Part) → bytes_of (ps ++ qs) ≡ bytes_of ps ++ bytes_of qs
bytes_of-append [] qs = refl
bytes_of-append (p ∷ ps) qs = ap (λ bs. part_bytes p ++ bs) (bytes_of-append ps qs) ∙ sym (append_assoc (part_bytes p) (bytes_of ps) (bytes_of qs))

-- a value of any number of levels that holds no others
leaf : (levels : ℕ) (d : Value) (f : Value-F Value) → out-Value d ≡ f → ((items : List Value → Type 0) (members : Members → Type 0) → IsValueIn items members f) → IsValue levels d
leaf zero d f e is = subst (IsValueIn (λ _. ⊥) (λ _. ⊥)) (sym e) (is (λ _. ⊥) (λ _. ⊥))
leaf (suc levels) d f e is = subst (IsValueIn (AreItemsOf (IsValue levels)) (AreMembersOf (IsValue levels))) (sym e) (is (AreItemsOf (IsValue levels)) (AreMembersOf (IsValue levels)))

pub null_value : (levels : ℕ) → IsValue levels v.Null
null_value levels = leaf levels v.Null Value-F.Null v.outs-Null (λ _ _. tt)

pub bool_value : (levels : ℕ) (b : Bool) → IsValue levels (v.Bool b)
bool_value levels b = leaf levels (v.Bool b) (Value-F.Bool b) (v.outs-Bool b) (λ _ _. tt)

pub number_value : (levels : ℕ) (n : Num) → IsNumber n → IsValue levels (v.Num n)
number_value levels n is = leaf levels (v.Num n) (Value-F.Num n) (v.outs-Num n) (λ _ _. is)

pub text_value : (levels : ℕ) (s : List ℕ) → IsText s → IsValue levels (v.Text s)
text_value levels s is = leaf levels (v.Text s) (Value-F.Text s) (v.outs-Text s) (λ _ _. is)

pub time_value : (levels : ℕ) (t : ℤ) → IsMoment t → IsValue levels (v.Time t)
time_value levels t is = leaf levels (v.Time t) (Value-F.Time t) (v.outs-Time t) (λ _ _. is)

pub list_value : (levels : ℕ) (vs : List Value) → AreItemsOf (IsValue levels) vs → IsValue (suc levels) (v.List vs)
list_value levels vs is = subst (IsValueIn (AreItemsOf (IsValue levels)) (AreMembersOf (IsValue levels))) (sym (v.outs-List vs)) is

pub object_value : (levels : ℕ) (ms : Members) → AreMembersOf (IsValue levels) ms → IsValue (suc levels) (v.Object ms)
object_value levels ms is = subst (IsValueIn (AreItemsOf (IsValue levels)) (AreMembersOf (IsValue levels))) (sym (v.outs-Object ms)) is

-- and the other way round
pub number_of_value : (levels : ℕ) (n : Num) → IsValue levels (v.Num n) → IsNumber n
number_of_value zero n is = subst (IsValueIn (λ _. ⊥) (λ _. ⊥)) (v.outs-Num n) is
number_of_value (suc levels) n is = subst (IsValueIn (AreItemsOf (IsValue levels)) (AreMembersOf (IsValue levels))) (v.outs-Num n) is

pub text_of_value : (levels : ℕ) (s : List ℕ) → IsValue levels (v.Text s) → IsText s
text_of_value zero s is = subst (IsValueIn (λ _. ⊥) (λ _. ⊥)) (v.outs-Text s) is
text_of_value (suc levels) s is = subst (IsValueIn (AreItemsOf (IsValue levels)) (AreMembersOf (IsValue levels))) (v.outs-Text s) is

pub time_of_value : (levels : ℕ) (t : ℤ) → IsValue levels (v.Time t) → IsMoment t
time_of_value zero t is = subst (IsValueIn (λ _. ⊥) (λ _. ⊥)) (v.outs-Time t) is
time_of_value (suc levels) t is = subst (IsValueIn (AreItemsOf (IsValue levels)) (AreMembersOf (IsValue levels))) (v.outs-Time t) is

pub no_list_value : (vs : List Value) → IsValue zero (v.List vs) → ⊥
no_list_value vs is = subst (IsValueIn (λ _. ⊥) (λ _. ⊥)) (v.outs-List vs) is

pub no_object_value : (ms : Members) → IsValue zero (v.Object ms) → ⊥
no_object_value ms is = subst (IsValueIn (λ _. ⊥) (λ _. ⊥)) (v.outs-Object ms) is

pub items_of_value : (levels : ℕ) (vs : List Value) → IsValue (suc levels) (v.List vs) → AreItemsOf (IsValue levels) vs
items_of_value levels vs is = subst (IsValueIn (AreItemsOf (IsValue levels)) (AreMembersOf (IsValue levels))) (v.outs-List vs) is

pub members_of_value : (levels : ℕ) (ms : Members) → IsValue (suc levels) (v.Object ms) → AreMembersOf (IsValue levels) ms
members_of_value levels ms is = subst (IsValueIn (AreItemsOf (IsValue levels)) (AreMembersOf (IsValue levels))) (v.outs-Object ms) is
