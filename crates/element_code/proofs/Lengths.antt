-- How long spellings are, and that what has a spelling nests and rises as an event does.
use Rattle.std.proofs.Common.{◌≡◌, ℕ, zero, suc, ◌-◌, ◌≤◌, List, [], ◌∷◌, ◌++◌, length, map, true, Option, Some, None, refl, sym, ap, subst, ◌∙◌, arith, length-append}
use Rattle.std.proofs.Common.{ℤ, SFits, w64}
use Rattle.std.proofs.lemmas.Int.{ints}
use Rattle.std.specs.Map.{keys_of}
use Rattle.plain_data.specs.Keys.{Below}
use Rattle.plain_data.specs.Members.{Rises}
use Rattle.plain_data.proofs.KeyLemmas.{Below-trans}
use Rattle.event_tree.specs.Values.{Members, on_values, depth, items_depth, members_depth}
use Rattle.event_tree.specs.Sizes.{size, items_size, members_size}
use Rattle.event_tree.specs.NumberTexts.{IsI64}
use Rattle.event_tree.specs.Sound.{sound, items_sound, members_sound}
use Rattle.event_tree.specs.Events.{Ev, event_size, IsEvent, IsObject}
use Rattle.event_tree.specs.declared.value.Value.{Value}
use Rattle.event_tree.specs.declared.value.Value.TheVariants as v
use Rattle.event_tree.proofs.Depths.{depth-Null, depth-Bool, depth-Num, depth-Text, depth-Time, depth-List, depth-Object}
use Rattle.event_tree.proofs.Sizes.{size-Null, size-Bool, size-Num, size-Text, size-Time, size-List, size-Object}
use Rattle.event_tree.proofs.Sounds.{sound-Null, sound-Bool, sound_number, sound_text, sound_time, sound-List, sound_rises, number_true, text_true, both_true}
use Rattle.crc_frame.specs.Fronts.{count_bytes}
use Rattle.crc_frame.proofs.Fronts.{length-count_bytes}
use Rattle.element_code.specs.Parts.{plain, text, count, key, part_bytes, bytes_of, number_bytes, time_bytes, items_parts, members_parts, parts, spelling, object_parts, event_spelling}
use Rattle.element_code.specs.Values.{IsValue, AreValues, AreMembers, AreMembersOf, IsEventObject, IsWhole}
use Rattle.element_code.proofs.Numbers.{length-number_bytes, length-time_bytes}
use Rattle.event_tree.proofs.Shapes.{Shape, is_null, is_bool, is_number, is_text, is_time, is_list, is_object, shape_of}
use Rattle.element_code.proofs.PartsOf.{bytes_of-append, parts-Null, parts-Bool, parts-Num, parts-Text, parts-Time, parts-List, parts-Object, no_list_value, no_object_value, items_of_value, members_of_value, number_of_value, text_of_value, time_of_value}
use Rattle.element_code.proofs.Again.{one_part, object_parts_are}

-- ---- the length of a spelling is the encoded size

abbrev IsAsLong : Value → Type 0
IsAsLong d = length (spelling d) ≡ size d

module _ (n : ℕ) (long : (d : Value) → depth d ≤ n → IsAsLong d) where
  items_long : (vs : List Value) → items_depth vs ≤ n → length (bytes_of (items_parts (map parts vs))) ≡ items_size vs
  items_long [] h = refl
  items_long (d ∷ ds) h =
      ap length (bytes_of-append (parts d) (items_parts (map parts ds)))
      ∙ omega (arith, length-append (spelling d) (bytes_of (items_parts (map parts ds))), long d (omega (arith, h)), items_long ds (omega (arith, h)))

  members_long : (ms : Members) → members_depth ms ≤ n → length (bytes_of (members_parts (on_values parts ms))) ≡ members_size ms
  members_long [] h = refl
  members_long (m ∷ ms) h =
      let inner = members_parts (on_values parts ms) in
      ap (λ bs. length (part_bytes (key m.0) ++ bs)) (bytes_of-append (parts m.1) inner)
      ∙ omega (arith, length-append (part_bytes (key m.0)) (spelling m.1 ++ bytes_of inner), length-append (count_bytes (length m.0)) m.0, length-append (spelling m.1) (bytes_of inner), length-count_bytes (length m.0), long m.1 (omega (arith, h)), members_long ms (omega (arith, h)))

long_in : (d : Value) → Shape d → ((vs : List Value) → d ≡ v.List vs → IsAsLong d) → ((ms : Members) → d ≡ v.Object ms → IsAsLong d) → IsAsLong d
long_in d (is_null e) list object = subst IsAsLong (sym e) (ap length (one_part v.Null (plain 0 []) parts-Null) ∙ sym size-Null)
long_in d (is_bool b e) list object = subst IsAsLong (sym e) (ap length (one_part (v.Bool b) _ (parts-Bool b)) ∙ sym (size-Bool b))
long_in d (is_number n e) list object = subst IsAsLong (sym e) (ap length (one_part (v.Num n) (plain 3 (number_bytes n)) (parts-Num n)) ∙ omega (arith, length-number_bytes n, size-Num n))
long_in d (is_text s e) list object = subst IsAsLong (sym e) (ap length (one_part (v.Text s) (text s) (parts-Text s)) ∙ omega (arith, length-append (count_bytes (length s)) s, length-count_bytes (length s), size-Text s))
long_in d (is_time t e) list object = subst IsAsLong (sym e) (ap length (one_part (v.Time t) (plain 5 (time_bytes t)) (parts-Time t)) ∙ omega (arith, length-time_bytes t, size-Time t))
long_in d (is_list vs e) list object = list vs e
long_in d (is_object ms e) list object = object ms e

long_within : (n : ℕ) (d : Value) → depth d ≤ n → IsAsLong d
long_within zero d h = long_in d (shape_of d) (λ vs e. absurd (omega (arith, h, ap depth e, depth-List vs))) (λ ms e. absurd (omega (arith, h, ap depth e, depth-Object ms)))
long_within (suc n) d h = long_in d (shape_of d)
    (λ vs e. let inner = items_parts (map parts vs) in
    subst IsAsLong (sym e) (ap (λ ps. length (bytes_of ps)) (parts-List vs)
    ∙ omega (arith, length-append (count_bytes (length vs)) (bytes_of inner), length-count_bytes (length vs), size-List vs, items_long n (long_within n) vs (omega (arith, h, ap depth e, depth-List vs)))))
    (λ ms e. let inner = members_parts (on_values parts ms) in
    subst IsAsLong (sym e) (ap (λ ps. length (bytes_of ps)) (parts-Object ms)
    ∙ omega (arith, length-append (count_bytes (length ms)) (bytes_of inner), length-count_bytes (length ms), size-Object ms, members_long n (long_within n) ms (omega (arith, h, ap depth e, depth-Object ms)))))

pub length-spelling : (d : Value) → length (spelling d) ≡ size d
length-spelling d = long_within (depth d) d (omega arith)

length-object : (d : Value) → IsObject d → length (bytes_of (object_parts d)) ≡ size d - 1
length-object d o =
    let inner = members_parts (on_values parts o.0) in
    let whole : length (spelling d) ≡ suc (length (bytes_of (count (length o.0) ∷ inner))) = ap (λ x. length (spelling x)) o.1 ∙ ap (λ ps. length (bytes_of ps)) (parts-Object o.0) in
    ap (λ ps. length (bytes_of ps)) (object_parts_are d o.0 o.1) ∙ omega (arith, whole, length-spelling d)

pub length-event_spelling : (e : Ev) → IsObject e.fields → IsObject e.meta → length (event_spelling e) ≡ event_size e
unfolding event_spelling
length-event_spelling e fields meta =
    ap length (bytes_of-append (object_parts e.fields) (object_parts e.meta))
    ∙ omega (arith, length-append (bytes_of (object_parts e.fields)) (bytes_of (object_parts e.meta)), length-object e.fields fields, length-object e.meta meta)

-- ---- what has a spelling is an event, if it is short enough

record Fine (levels : ℕ) (d : Value) : Type 0 where
  pub shallow : depth d ≤ levels
  pub sound_is : sound d ≡ true

-- the keys that follow a key are above it
above_all : (is : Value → Type 0) (k : List ℕ) (ms : Members) → AreMembers is (Some k) ms → Below k (keys_of ms)
above_all is k [] are = tt
above_all is k (m ∷ ms) are = (are.1, Below-trans k m.0 (keys_of ms) are.1 (above_all is m.0 ms are.3))

pub rises : (is : Value → Type 0) (last : Option (List ℕ)) (ms : Members) → AreMembers is last ms → Rises ms
rises is last [] are = tt
rises is last (m ∷ ms) are = (above_all is m.0 ms are.3, rises is (Some m.0) ms are.3)

module _ (levels : ℕ) (fine : (d : Value) → IsValue levels d → Fine levels d) where
  items_fine : (vs : List Value) → AreValues (IsValue levels) vs → (items_depth vs ≤ levels) × (items_sound vs ≡ true)
  items_fine [] are = (omega arith, refl)
  items_fine (d ∷ ds) are = let one = fine d are.0 in let more = items_fine ds are.1 in (omega (arith, one.shallow, more.0), both_true _ _ one.sound_is more.1)

  members_fine : (last : Option (List ℕ)) (ms : Members) → AreMembers (IsValue levels) last ms → (members_depth ms ≤ levels) × (members_sound ms ≡ true)
  members_fine last [] are = (omega arith, refl)
  members_fine last (m ∷ ms) are = let one = fine m.1 are.2 in let more = members_fine (Some m.0) ms are.3 in (omega (arith, one.shallow, more.0), both_true _ _ (both_true _ _ (text_true m.0 are.0.utf8) one.sound_is) more.1)

i64 : (z : ℤ) → SFits w64 z → IsI64 z
i64 z fits = (omega (arith, ints, fits), omega (arith, ints, fits))

fine_in : (levels : ℕ) (d : Value) → Shape d → IsValue levels d → ((vs : List Value) → d ≡ v.List vs → Fine levels d) → ((ms : Members) → d ≡ v.Object ms → Fine levels d) → Fine levels d
fine_in levels d (is_null e) is list object = subst (Fine levels) (sym e) (record { shallow = omega (arith, depth-Null); sound_is = sound-Null })
fine_in levels d (is_bool b e) is list object = subst (Fine levels) (sym e) (record { shallow = omega (arith, depth-Bool b); sound_is = sound-Bool b })
fine_in levels d (is_number n e) is list object = subst (Fine levels) (sym e) (record { shallow = omega (arith, depth-Num n); sound_is = let n_is = number_of_value levels n (subst (IsValue levels) e is) in sound_number n (number_true n (i64 n.mantissa n_is.fits) n_is.least) })
fine_in levels d (is_text s e) is list object = subst (Fine levels) (sym e) (record { shallow = omega (arith, depth-Text s); sound_is = sound_text s (text_of_value levels s (subst (IsValue levels) e is)).utf8 })
fine_in levels d (is_time t e) is list object = subst (Fine levels) (sym e) (record { shallow = omega (arith, depth-Time t); sound_is = sound_time t (time_of_value levels t (subst (IsValue levels) e is)) })
fine_in levels d (is_list vs e) is list object = list vs e
fine_in levels d (is_object ms e) is list object = object ms e

object_fine : (levels : ℕ) (fine : (d : Value) → IsValue levels d → Fine levels d) (ms : Members) → AreMembersOf (IsValue levels) ms → Fine (suc levels) (v.Object ms)
object_fine levels fine ms are =
    let f = members_fine levels fine None ms are.each in
    record { shallow = omega (arith, depth-Object ms, f.0); sound_is = sound_rises ms (rises (IsValue levels) None ms are.each) f.1 }

fine_value : (levels : ℕ) (d : Value) → IsValue levels d → Fine levels d
fine_value zero d is = fine_in zero d (shape_of d) is (λ vs e. absurd (no_list_value vs (subst (IsValue zero) e is))) (λ ms e. absurd (no_object_value ms (subst (IsValue zero) e is)))
fine_value (suc levels) d is = fine_in (suc levels) d (shape_of d) is
    (λ vs e. let f = items_fine levels (fine_value levels) vs (items_of_value levels vs (subst (IsValue (suc levels)) e is)).each in
    subst (Fine (suc levels)) (sym e) (record { shallow = omega (arith, depth-List vs, f.0); sound_is = sound-List vs ∙ f.1 }))
    (λ ms e. subst (Fine (suc levels)) (sym e) (object_fine levels (fine_value levels) ms (members_of_value levels ms (subst (IsValue (suc levels)) e is))))

fine_object : (d : Value) → IsEventObject d → Fine 128 d
fine_object d o = subst (Fine 128) (sym o.is) (object_fine 127 (fine_value 127) o.members o.each)

pub is_event : (e : Ev) → IsWhole e → length (event_spelling e) ≤ 16777216 → IsEvent e
is_event e w short =
    let f = fine_object e.fields w.fields in
    let m = fine_object e.meta w.meta in
    record {
      fields_object = (w.fields.members, w.fields.is);
      meta_object = (w.meta.members, w.meta.is);
      small = omega (arith, short, length-event_spelling e (w.fields.members, w.fields.is) (w.meta.members, w.meta.is));
      shallow = omega (arith, f.shallow, m.shallow);
      fields_sound = f.sound_is;
      meta_sound = m.sound_is;
    }
