-- What each event holds is what its spelling needs.
use Rattle.std.proofs.Common.{◌≡◌, ℕ, ℤ, zero, suc, ◌<◌, ◌≤◌, ◌^◌, List, [], ◌∷◌, length, true, Option, Some, None, sym, ap, ◌∙◌, arith, SFits, w64}
use Rattle.std.proofs.lemmas.Int.{ints}
use Rattle.std.specs.Bool.{⊤}
use Rattle.std.specs.Map.{keys_of}
use Rattle.plain_data.specs.Keys.{Below}
use Rattle.plain_data.specs.Members.{Rises}
use Rattle.event_tree.specs.NumberTexts.{IsI64}
use Rattle.event_tree.specs.Values.{Members, depth, items_depth, members_depth}
use Rattle.event_tree.specs.Sizes.{size, items_size, members_size}
use Rattle.event_tree.specs.Sound.{sound}
use Rattle.event_tree.specs.Events.{Ev, IsEvent, IsObject}
use Rattle.event_tree.specs.declared.value.Value.{Value}
use Rattle.event_tree.specs.declared.value.Value.TheVariants as v
use Rattle.event_tree.proofs.Depths.{depth-List, depth-Object}
use Rattle.event_tree.proofs.Shapes.{Shape, is_null, is_bool, is_number, is_text, is_time, is_list, is_object, shape_of}
use Rattle.event_tree.proofs.Sizes.{size-Null, size-Bool, size-Num, size-Text, size-Time, size-List, size-Object}
use Rattle.event_tree.proofs.EachSound.{EachItem, EachMember, GoesUp, each_sound}
use Rattle.element_code.specs.Values.{IsAbove, IsValue, AreValues, AreMembers, AreMembersOf, IsEventObject, IsWhole}
use Rattle.element_code.specs.Parts.{event_spelling}
use Rattle.element_code.proofs.Lengths.{length-event_spelling}
use Rattle.element_code.proofs.PartsOf.{null_value, bool_value, number_value, text_value, time_value, list_value, object_value, members_of_value}

in_64 : (z : ℤ) → IsI64 z → SFits w64 z
in_64 z is = omega (arith, ints, is.0, is.1)

some_bytes : (d : Value) → 0 < size d
some_bytes d = by (shape_of d)
  where
    by : Shape d → 0 < size d
    by (is_null e) = omega (arith, ap size e, size-Null)
    by (is_bool b e) = omega (arith, ap size e, size-Bool b)
    by (is_number n e) = omega (arith, ap size e, size-Num n)
    by (is_text s e) = omega (arith, ap size e, size-Text s)
    by (is_time t e) = omega (arith, ap size e, size-Time t)
    by (is_list vs e) = omega (arith, ap size e, size-List vs)
    by (is_object ms e) = omega (arith, ap size e, size-Object ms)

few_items : (vs : List Value) → length vs ≤ items_size vs
few_items [] = omega arith
few_items (d ∷ ds) = omega (arith, some_bytes d, few_items ds)

few_members : (ms : Members) → length ms ≤ members_size ms
few_members [] = omega arith
few_members (m ∷ ms) = omega (arith, few_members ms)

-- every key is above this one, if there is one
abbrev AreAbove : Option (List ℕ) → Members → Type 0
AreAbove None ms = ⊤
AreAbove (Some k) ms = Below k (keys_of ms)

first_above : (last : Option (List ℕ)) (m : List ℕ × Value) (ms : Members) → AreAbove last (m ∷ ms) → IsAbove last m.0
first_above None m ms above = tt
first_above (Some k) m ms above = above.0

-- with counts and lengths of 32 bits, in as many levels as it has or more
abbrev Spelled : Value → Type 0
Spelled d = (levels : ℕ) → depth d ≤ levels → size d < 2 ^ 32 → IsValue levels d

are_values : (levels : ℕ) (vs : List Value) → EachItem Spelled vs → items_depth vs ≤ levels → items_size vs < 2 ^ 32 → AreValues (IsValue levels) vs
are_values levels [] each shallow short = tt
are_values levels (d ∷ ds) each shallow short = (each.0 levels (omega (arith, shallow)) (omega (arith, short)), are_values levels ds each.1 (omega (arith, shallow)) (omega (arith, short)))

are_members : (levels : ℕ) (last : Option (List ℕ)) (ms : Members) → EachMember Spelled ms → members_depth ms ≤ levels → members_size ms < 2 ^ 32 → AreAbove last ms → Rises ms → AreMembers (IsValue levels) last ms
are_members levels last [] each shallow short above rises = tt
are_members levels last (m ∷ ms) each shallow short above rises = (
  record { utf8 = each.0; short = omega (arith, short) },
  first_above last m ms above,
  each.1 levels (omega (arith, shallow)) (omega (arith, short)),
  are_members levels (Some m.0) ms each.2 (omega (arith, shallow)) (omega (arith, short)) rises.0 rises.1,
)

list_spelled : (vs : List Value) → EachItem Spelled vs → Spelled (v.List vs)
list_spelled vs each zero shallow short = absurd (omega (arith, shallow, depth-List vs))
list_spelled vs each (suc levels) shallow short = list_value levels vs (record {
  few = omega (arith, short, size-List vs, few_items vs);
  each = are_values levels vs each (omega (arith, shallow, depth-List vs)) (omega (arith, short, size-List vs));
})

object_members : (levels : ℕ) (ms : Members) → Rises ms → EachMember Spelled ms → depth (v.Object ms) ≤ suc levels → size (v.Object ms) < 2 ^ 32 → AreMembersOf (IsValue levels) ms
object_members levels ms rises each shallow short = record {
  few = omega (arith, short, size-Object ms, few_members ms);
  each = are_members levels None ms each (omega (arith, shallow, depth-Object ms)) (omega (arith, short, size-Object ms)) tt rises;
}

object_spelled : (ms : Members) → Rises ms → EachMember Spelled ms → Spelled (v.Object ms)
object_spelled ms rises each zero shallow short = absurd (omega (arith, shallow, depth-Object ms))
object_spelled ms rises each (suc levels) shallow short = object_value levels ms (object_members levels ms rises each shallow short)

spelled : GoesUp Spelled
spelled = record {
  null = λ levels shallow short. null_value levels;
  bool = λ b levels shallow short. bool_value levels b;
  number = λ n fits least levels shallow short. number_value levels n (record { fits = in_64 n.mantissa fits; least = least });
  text = λ s utf8 levels shallow short. text_value levels s (record { utf8 = utf8; short = omega (arith, short, size-Text s) });
  time = λ t is levels shallow short. time_value levels t is;
  list = list_spelled;
  object = object_spelled;
}

event_object : (d : Value) → IsObject d → depth d ≤ 128 → size d < 2 ^ 32 → sound d ≡ true → IsEventObject d
event_object d o shallow short is = record {
  members = o.0;
  is = o.1;
  each = members_of_value 127 o.0 (each_sound Spelled spelled (v.Object o.0) (ap sound (sym o.1) ∙ is) 128 (omega (arith, shallow, ap depth o.1)) (omega (arith, short, ap size o.1)));
}

pub is_whole : (e : Ev) → IsEvent e → IsWhole e
is_whole e is = record {
  fields = event_object e.fields is.fields_object (omega (arith, is.shallow)) (omega (arith, is.small)) is.fields_sound;
  meta = event_object e.meta is.meta_object (omega (arith, is.shallow)) (omega (arith, is.small)) is.meta_sound;
}

pub is_short : (e : Ev) → IsEvent e → length (event_spelling e) ≤ 16777216
is_short e is = omega (arith, length-event_spelling e is.fields_object is.meta_object, is.small)
