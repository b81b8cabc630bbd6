-- What is spelled is read again, whatever follows it.
use Rattle.std.proofs.Common.{◌≡◌, ℕ, zero, suc, List, [], ◌∷◌, ◌++◌, length, map, true, false, ◌==◌, Option, Some, None, Ok, refl, sym, ap, subst, ◌∙◌, append_assoc}
use Rattle.std.proofs.lemmas.List.{append-nil}
use Rattle.std.specs.Ordering.{is_lt}
use Rattle.std.proofs.Common.{ℤ}
use Rattle.plain_data.specs.Calendar.{IsMoment}
use Rattle.event_tree.specs.Number.{Num}
use Rattle.event_tree.specs.Values.{Members, on_values}
use Rattle.event_tree.specs.Events.{Ev, both}
use Rattle.event_tree.specs.declared.value.Value.{Value, out-Value}
use Rattle.event_tree.specs.declared.value.Value.TheVariants as v
use Rattle.crc_frame.specs.Fronts.{Reads, count_bytes, repeated, run_at}
use Rattle.crc_frame.proofs.Fronts.{front_again, count_again, run_again}
use Rattle.element_code.specs.Parts.{Part, plain, text, many, count, key, part_bytes, bytes_of, number_bytes, time_bytes, items_parts, members_parts, parts, spelling, object_parts, object_parts_in, event_parts, event_spelling}
use Rattle.element_code.specs.Values.{IsNumber, IsText, IsAbove, IsValue, AreValues, AreMembers, AreItemsOf, AreMembersOf, IsEventObject, IsWhole}
use Rattle.element_code.specs.Reading.{leaf_at, is_above, key_at, members_at, list_at, object_at, as_list, as_object, value_at, whole, event_at}
use Rattle.element_code.proofs.Leaves.{is_text, key_taken}
use Rattle.element_code.proofs.Numbers.{number_again as same_number_again, time_again, length-number_bytes, length-time_bytes}
use Rattle.event_tree.proofs.Shapes.{Shape, is_null, is_bool, is_number, is_text as text_shape, is_time, is_list, is_object, shape_of}
use Rattle.element_code.proofs.PartsOf.{bytes_of-append, parts-Null, parts-Bool, parts-Num, parts-Text, parts-Time, parts-List, parts-Object, number_of_value, text_of_value, time_of_value, no_list_value, no_object_value, items_of_value, members_of_value}

-- a tag that is neither a list's nor an object's
pub at_leaf : (levels tag : ℕ) (rest : List ℕ) → (tag == 6) ≡ false → (tag == 7) ≡ false → value_at levels (tag ∷ rest) ≡ leaf_at tag rest
unfolding value_at
at_leaf zero tag rest h k = refl
at_leaf (suc levels) tag rest h k = rw (h, k) refl

pub one_part : (d : Value) (p : Part) → parts d ≡ p ∷ [] → spelling d ≡ part_bytes p
one_part d p e = ap bytes_of e ∙ append-nil (part_bytes p)

abbrev IsReadAgain : ℕ → Value → List ℕ → Type 0
IsReadAgain levels d rest = value_at levels (spelling d ++ rest) ≡ Ok (d, rest)

leaf_again : (levels : ℕ) (d : Value) (tag : ℕ) (own rest : List ℕ) → parts d ≡ plain tag own ∷ [] → (tag == 6) ≡ false → (tag == 7) ≡ false → leaf_at tag (own ++ rest) ≡ Ok (d, rest) → IsReadAgain levels d rest
leaf_again levels d tag own rest e h k r = ap (λ s. value_at levels (s ++ rest)) (one_part d (plain tag own) e) ∙ at_leaf levels tag (own ++ rest) h k ∙ r

number_leaf : (n : Num) (rest : List ℕ) → IsNumber n → leaf_at 3 (number_bytes n ++ rest) ≡ Ok (v.Num n, rest)
number_leaf n rest is = rw (front_again (number_bytes n) rest 9 (sym (length-number_bytes n)), same_number_again n is) refl

time_leaf : (t : ℤ) (rest : List ℕ) → IsMoment t → leaf_at 5 (time_bytes t ++ rest) ≡ Ok (v.Time t, rest)
time_leaf t rest is = rw (front_again (time_bytes t) rest 12 (sym (length-time_bytes t)), time_again t is) refl

text_leaf : (s rest : List ℕ) → IsText s → leaf_at 4 (count_bytes (length s) ++ (s ++ rest)) ≡ Ok (v.Text s, rest)
text_leaf s rest is = rw (run_again s rest is.short, is_text s is.utf8) refl

pub above_true : (last : Option (List ℕ)) (k : List ℕ) → IsAbove last k → true ≡ is_above last k
above_true None k is = refl
above_true (Some last) k is = sym (ap is_lt is)

pub key_again : (last : Option (List ℕ)) (k rest : List ℕ) → IsText k → IsAbove last k → key_at last (part_bytes (key k) ++ rest) ≡ Ok (k, rest)
key_again last k rest is above =
    let e : part_bytes (key k) ++ rest ≡ count_bytes (length k) ++ (k ++ rest) = append_assoc (count_bytes (length k)) k rest in
    key_taken last (part_bytes (key k) ++ rest) k rest (ap run_at e ∙ run_again k rest is.short) is.utf8 (above_true last k above)

module _ (read : Reads Value) (is : Value → Type 0) (again : (d : Value) (rest : List ℕ) → is d → read (spelling d ++ rest) ≡ Ok (d, rest)) where
  pub items_again : (vs : List Value) (rest : List ℕ) → AreValues is vs → repeated read (length vs) (bytes_of (items_parts (map parts vs)) ++ rest) ≡ Ok (vs, rest)
  items_again [] rest are = refl
  items_again (d ∷ ds) rest are =
      let behind = bytes_of (items_parts (map parts ds)) ++ rest in
      let e : bytes_of (items_parts (map parts (d ∷ ds))) ++ rest ≡ spelling d ++ behind =
      ap (λ bs. bs ++ rest) (bytes_of-append (parts d) (items_parts (map parts ds))) ∙ append_assoc (spelling d) (bytes_of (items_parts (map parts ds))) rest in
      ap (repeated read (length (d ∷ ds))) e ∙ rw (again d behind are.0, items_again ds rest are.1) refl

  pub members_again : (last : Option (List ℕ)) (ms : Members) (rest : List ℕ) → AreMembers is last ms → members_at read last (length ms) (bytes_of (members_parts (on_values parts ms)) ++ rest) ≡ Ok (ms, rest)
  members_again last [] rest are = refl
  members_again last (m ∷ ms) rest are =
      let later = members_parts (on_values parts ms) in
      let behind = bytes_of later ++ rest in
      let e : bytes_of (members_parts (on_values parts (m ∷ ms))) ++ rest ≡ part_bytes (key m.0) ++ (spelling m.1 ++ behind) =
      ap (λ bs. (part_bytes (key m.0) ++ bs) ++ rest) (bytes_of-append (parts m.1) later) ∙ append_assoc (part_bytes (key m.0)) (spelling m.1 ++ bytes_of later) rest ∙ ap (λ bs. part_bytes (key m.0) ++ bs) (append_assoc (spelling m.1) (bytes_of later) rest) in
      ap (members_at read last (length (m ∷ ms))) e ∙ rw (key_again last m.0 (spelling m.1 ++ behind) are.0 are.1, again m.1 behind are.2, members_again (Some m.0) ms rest are.3) refl

  pub list_again : (vs : List Value) (rest : List ℕ) → AreItemsOf is vs → list_at read (count_bytes (length vs) ++ (bytes_of (items_parts (map parts vs)) ++ rest)) ≡ Ok (vs, rest)
  unfolding list_at
  list_again vs rest are = rw (count_again (length vs) (bytes_of (items_parts (map parts vs)) ++ rest) are.few) (items_again vs rest are.each)

  pub object_again : (ms : Members) (rest : List ℕ) → AreMembersOf is ms → object_at read (count_bytes (length ms) ++ (bytes_of (members_parts (on_values parts ms)) ++ rest)) ≡ Ok (ms, rest)
  unfolding object_at
  object_again ms rest are = rw (count_again (length ms) (bytes_of (members_parts (on_values parts ms)) ++ rest) are.few) (members_again None ms rest are.each)

at_list : (levels : ℕ) (rest : List ℕ) → value_at (suc levels) (6 ∷ rest) ≡ as_list (list_at (value_at levels) rest)
unfolding value_at
at_list levels rest = refl

at_object : (levels : ℕ) (rest : List ℕ) → value_at (suc levels) (7 ∷ rest) ≡ as_object (object_at (value_at levels) rest)
unfolding value_at
at_object levels rest = refl

-- the bytes of a part and those behind it
many_bytes : (d : Value) (tag n : ℕ) (inner : List Part) (rest : List ℕ) → parts d ≡ many tag n ∷ inner → spelling d ++ rest ≡ tag ∷ (count_bytes n ++ (bytes_of inner ++ rest))
many_bytes d tag n inner rest e = ap (λ ps. bytes_of ps ++ rest) e ∙ ap (λ bs. tag ∷ bs) (append_assoc (count_bytes n) (bytes_of inner) rest)

again_in : (levels : ℕ) (d : Value) (rest : List ℕ) → Shape d → IsValue levels d → ((vs : List Value) → d ≡ v.List vs → IsReadAgain levels d rest) → ((ms : Members) → d ≡ v.Object ms → IsReadAgain levels d rest) → IsReadAgain levels d rest
again_in levels d rest (is_null e) is list object = leaf_again levels d 0 [] rest (ap parts e ∙ parts-Null) refl refl (ap (λ x. Ok (x, rest)) (sym e))
again_in levels d rest (is_bool true e) is list object = leaf_again levels d 2 [] rest (ap parts e ∙ parts-Bool true) refl refl (ap (λ x. Ok (x, rest)) (sym e))
again_in levels d rest (is_bool false e) is list object = leaf_again levels d 1 [] rest (ap parts e ∙ parts-Bool false) refl refl (ap (λ x. Ok (x, rest)) (sym e))
again_in levels d rest (is_number n e) is list object = leaf_again levels d 3 (number_bytes n) rest (ap parts e ∙ parts-Num n) refl refl (number_leaf n rest (number_of_value levels n (subst (IsValue levels) e is)) ∙ ap (λ x. Ok (x, rest)) (sym e))
again_in levels d rest (text_shape s e) is list object =
    ap (λ bs. value_at levels (bs ++ rest)) (one_part d (text s) (ap parts e ∙ parts-Text s))
    ∙ ap (λ bs. value_at levels (4 ∷ bs)) (append_assoc (count_bytes (length s)) s rest)
    ∙ at_leaf levels 4 (count_bytes (length s) ++ (s ++ rest)) refl refl
    ∙ text_leaf s rest (text_of_value levels s (subst (IsValue levels) e is)) ∙ ap (λ x. Ok (x, rest)) (sym e)
again_in levels d rest (is_time t e) is list object = leaf_again levels d 5 (time_bytes t) rest (ap parts e ∙ parts-Time t) refl refl (time_leaf t rest (time_of_value levels t (subst (IsValue levels) e is)) ∙ ap (λ x. Ok (x, rest)) (sym e))
again_in levels d rest (is_list vs e) is list object = list vs e
again_in levels d rest (is_object ms e) is list object = object ms e

pub value_again : (levels : ℕ) (d : Value) (rest : List ℕ) → IsValue levels d → IsReadAgain levels d rest
value_again zero d rest is = again_in zero d rest (shape_of d) is (λ vs e. absurd (no_list_value vs (subst (IsValue zero) e is))) (λ ms e. absurd (no_object_value ms (subst (IsValue zero) e is)))
value_again (suc levels) d rest is = again_in (suc levels) d rest (shape_of d) is
    (λ vs e. let are = items_of_value levels vs (subst (IsValue (suc levels)) e is) in
    ap (value_at (suc levels)) (many_bytes d 6 (length vs) (items_parts (map parts vs)) rest (ap parts e ∙ parts-List vs))
    ∙ at_list levels (count_bytes (length vs) ++ (bytes_of (items_parts (map parts vs)) ++ rest))
    ∙ ap as_list (list_again (value_at levels) (IsValue levels) (λ x behind. value_again levels x behind) vs rest are) ∙ ap (λ x. Ok (x, rest)) (sym e))
    (λ ms e. let are = members_of_value levels ms (subst (IsValue (suc levels)) e is) in
    ap (value_at (suc levels)) (many_bytes d 7 (length ms) (members_parts (on_values parts ms)) rest (ap parts e ∙ parts-Object ms))
    ∙ at_object levels (count_bytes (length ms) ++ (bytes_of (members_parts (on_values parts ms)) ++ rest))
    ∙ ap as_object (object_again (value_at levels) (IsValue levels) (λ x behind. value_again levels x behind) ms rest are) ∙ ap (λ x. Ok (x, rest)) (sym e))

-- an event's object, behind its count
pub object_parts_are : (d : Value) (ms : Members) → d ≡ v.Object ms → object_parts d ≡ count (length ms) ∷ members_parts (on_values parts ms)
object_parts_are d ms e = ap object_parts_in (ap out-Value e ∙ v.outs-Object ms)

whole_object_again : (d : Value) (o : IsEventObject d) (rest : List ℕ) → object_at (value_at 127) (bytes_of (object_parts d) ++ rest) ≡ Ok (o.members, rest)
whole_object_again d o rest =
    let inner = members_parts (on_values parts o.members) in
    ap (λ ps. object_at (value_at 127) (bytes_of ps ++ rest)) (object_parts_are d o.members o.is)
    ∙ ap (object_at (value_at 127)) (append_assoc (count_bytes (length o.members)) (bytes_of inner) rest)
    ∙ object_again (value_at 127) (IsValue 127) (λ x behind. value_again 127 x behind) o.members rest o.each

-- an event, and what stands behind it
pub event_and_more : (e : Ev) (w : IsWhole e) (more : List ℕ) → event_at (event_spelling e ++ more) ≡ whole w.fields.members w.meta.members more
unfolding event_at event_spelling
event_and_more e w more =
    let split : bytes_of (event_parts e) ++ more ≡ bytes_of (object_parts e.fields) ++ (bytes_of (object_parts e.meta) ++ more) =
    ap (λ bs. bs ++ more) (bytes_of-append (object_parts e.fields) (object_parts e.meta)) ∙ append_assoc (bytes_of (object_parts e.fields)) (bytes_of (object_parts e.meta)) more in
    rw (split, whole_object_again e.fields w.fields (bytes_of (object_parts e.meta) ++ more), whole_object_again e.meta w.meta more) refl

pub objects_are : (e : Ev) (w : IsWhole e) → both (v.Object w.fields.members) (v.Object w.meta.members) ≡ e
objects_are e w = let f = sym w.fields.is in let m = sym w.meta.is in λ i. both (f i) (m i)

pub event_again : (e : Ev) → IsWhole e → event_at (event_spelling e) ≡ Ok e
event_again e w = ap event_at (sym (append-nil (event_spelling e))) ∙ event_and_more e w [] ∙ ap Ok (objects_are e w)
