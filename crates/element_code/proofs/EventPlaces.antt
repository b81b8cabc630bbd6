-- Where bytes stop being a value or an event: the place at which reading them stops.
use Rattle.std.proofs.Common.{◌≡◌, ◌≢◌, ℕ, zero, suc, ◌+◌, ◌<◌, ◌≤◌, ◌^◌, inl, inr, List, [], ◌∷◌, ◌++◌, length, map, Bool, true, false, ◌==◌, None, Ok, Err, if◌then◌else◌, refl, sym, ap, subst, ◌∙◌, arith, rules, append_assoc, length-append}
use Rattle.std.proofs.lemmas.List.{append-nil}
use Rattle.std.proofs.lemmas.Str.{IsUtf8-nil}
use Rattle.crc_frame.specs.Bytes.{IsBytes}
use Rattle.event_tree.specs.Values.{Members, on_values}
use Rattle.event_tree.specs.Events.{both}
use Rattle.event_tree.specs.declared.value.Value.{Value}
use Rattle.event_tree.specs.declared.value.Value.TheVariants as v
use Rattle.crc_frame.specs.Fronts.{Reads, count_bytes, number_at, repeated, ◌>>=◌}
use Rattle.crc_frame.proofs.Fronts.{chosen, count_takes}
use Rattle.crc_frame.proofs.Cuts.{bind_err, number_err, count_cut}
use Rattle.element_code.specs.Parts.{Part, plain, text, many, count, key, bytes_of, items_parts, members_parts, parts, object_parts}
use Rattle.element_code.specs.Values.{IsValue, AreMembersOf, IsEventObject}
use Rattle.element_code.specs.Reading.{members_at, list_at, object_at, as_list, as_object, leaf_at, value_at, whole, event_at}
use Rattle.element_code.specs.Faults.{cut, AreEventParts, IsRefusedAt, stops, behind}
use Rattle.event_tree.proofs.Shapes.{Shape, shape_of, is_null, is_bool, is_number, is_text, is_time, is_list, is_object}
use Rattle.element_code.proofs.PartsOf.{bytes_of-append, null_value, parts-Null, parts-Bool, parts-Num, parts-Text, parts-Time, parts-List, parts-Object, list_value, object_value, no_list_value, no_object_value, items_of_value, members_of_value}
use Rattle.element_code.proofs.Again.{object_parts_are}
use Rattle.element_code.proofs.Sound.{same_tag, object_sound, value_sound}
use Rattle.element_code.proofs.Within.{StandsIn, Stopped, stopped_in}
use Rattle.element_code.proofs.PartLists.{ValueParts, ItemsParts, MembersParts, ObjectParts, items_free, members_free, object_free}
use Rattle.element_code.proofs.LeafPlaces.{cut_part, leaf_stops, not_tag}
use Rattle.element_code.proofs.Places.{same_head, same_tail, same_behind, StopsAt, items_stop}
use Rattle.element_code.proofs.MemberPlaces.{Base, members_stop}

-- ---- a list or an object behind its tag

abbrev kind_of : Part → ℕ
kind_of (plain tag own) = tag
kind_of (text own) = 4
kind_of (many tag n) = tag
kind_of (count n) = 8
kind_of (key own) = 9

abbrev count_in : Part → ℕ
count_in (many tag n) = n
count_in (count n) = n
count_in (plain tag own) = 0
count_in (text own) = 0
count_in (key own) = 0

record ListIn (n : ℕ) (s : List Part) (d : Value) : Type 0 where
  pub items : List Value
  pub is : d ≡ v.List items
  pub count_is : length items ≡ n
  pub rest : s ≡ items_parts (map parts items)

record ObjectIn (n : ℕ) (s : List Part) (d : Value) : Type 0 where
  pub members : Members
  pub is : d ≡ v.Object members
  pub count_is : length members ≡ n
  pub rest : s ≡ members_parts (on_values parts members)

bool_kind : (b : Bool) (k : ℕ) → k ≡ (if b then 2 else 1) → k ≤ 2
bool_kind true k e = omega (arith, e)
bool_kind false k e = omega (arith, e)

list_in : (n : ℕ) (s : List Part) (d : Value) → Shape d → many 6 n ∷ s ≡ parts d → ListIn n s d
list_in n s d (is_null e) p = absurd (omega (arith, ap kind_of (same_head (many 6 n) _ s [] (p ∙ ap parts e ∙ parts-Null))))
list_in n s d (is_bool b e) p = absurd (omega (arith, bool_kind b 6 (ap kind_of (same_head (many 6 n) _ s [] (p ∙ ap parts e ∙ parts-Bool b)))))
list_in n s d (is_number k e) p = absurd (omega (arith, ap kind_of (same_head (many 6 n) _ s [] (p ∙ ap parts e ∙ parts-Num k))))
list_in n s d (is_text t e) p = absurd (omega (arith, ap kind_of (same_head (many 6 n) _ s [] (p ∙ ap parts e ∙ parts-Text t))))
list_in n s d (is_time t e) p = absurd (omega (arith, ap kind_of (same_head (many 6 n) _ s [] (p ∙ ap parts e ∙ parts-Time t))))
list_in n s d (is_list vs e) p =
    let q = p ∙ ap parts e ∙ parts-List vs in
    record { items = vs; is = e; count_is = sym (ap count_in (same_head (many 6 n) (many 6 (length vs)) s (items_parts (map parts vs)) q)); rest = same_tail (many 6 n) (many 6 (length vs)) s (items_parts (map parts vs)) q }
list_in n s d (is_object ms e) p = absurd (omega (arith, ap kind_of (same_head (many 6 n) (many 7 (length ms)) s _ (p ∙ ap parts e ∙ parts-Object ms))))

object_in : (n : ℕ) (s : List Part) (d : Value) → Shape d → many 7 n ∷ s ≡ parts d → ObjectIn n s d
object_in n s d (is_null e) p = absurd (omega (arith, ap kind_of (same_head (many 7 n) _ s [] (p ∙ ap parts e ∙ parts-Null))))
object_in n s d (is_bool b e) p = absurd (omega (arith, bool_kind b 7 (ap kind_of (same_head (many 7 n) _ s [] (p ∙ ap parts e ∙ parts-Bool b)))))
object_in n s d (is_number k e) p = absurd (omega (arith, ap kind_of (same_head (many 7 n) _ s [] (p ∙ ap parts e ∙ parts-Num k))))
object_in n s d (is_text t e) p = absurd (omega (arith, ap kind_of (same_head (many 7 n) _ s [] (p ∙ ap parts e ∙ parts-Text t))))
object_in n s d (is_time t e) p = absurd (omega (arith, ap kind_of (same_head (many 7 n) _ s [] (p ∙ ap parts e ∙ parts-Time t))))
object_in n s d (is_list vs e) p = absurd (omega (arith, ap kind_of (same_head (many 7 n) (many 6 (length vs)) s _ (p ∙ ap parts e ∙ parts-List vs))))
object_in n s d (is_object ms e) p =
    let q = p ∙ ap parts e ∙ parts-Object ms in
    record { members = ms; is = e; count_is = sym (ap count_in (same_head (many 7 n) (many 7 (length ms)) s (members_parts (on_values parts ms)) q)); rest = same_tail (many 7 n) (many 7 (length ms)) s (members_parts (on_values parts ms)) q }

items_stand : (levels n : ℕ) → n < 2 ^ 32 → StandsIn (ItemsParts levels n) (ValueParts (suc levels)) (many 6 n ∷ [])
items_stand levels n few = record {
  extend = λ a m. ([], (v.List m.0, list_value levels m.0 (record { few = omega (arith, m.1, few); each = m.2 }), ap (λ l. many 6 n ∷ l) (append-nil a ∙ m.3) ∙ ap (λ k. many 6 k ∷ items_parts (map parts m.0)) (sym m.1) ∙ sym (parts-List m.0)));
  begin = λ s m.
      let l = list_in n s m.0 (shape_of m.0) m.2 in
      let are = items_of_value levels l.items (subst (IsValue (suc levels)) l.is m.1) in
      (s, [], (l.items, l.count_is, are.each, l.rest), sym (append-nil s));
  free = items_free levels n;
}

members_stand : (levels n : ℕ) → n < 2 ^ 32 → StandsIn (MembersParts levels None n) (ValueParts (suc levels)) (many 7 n ∷ [])
members_stand levels n few = record {
  extend = λ a m. ([], (v.Object m.0, object_value levels m.0 (record { few = omega (arith, m.1, few); each = m.2 }), ap (λ l. many 7 n ∷ l) (append-nil a ∙ m.3) ∙ ap (λ k. many 7 k ∷ members_parts (on_values parts m.0)) (sym m.1) ∙ sym (parts-Object m.0)));
  begin = λ s m.
      let o = object_in n s m.0 (shape_of m.0) m.2 in
      let are = members_of_value levels o.members (subst (IsValue (suc levels)) o.is m.1) in
      (s, [], (o.members, o.count_is, are.each, o.rest), sym (append-nil s));
  free = members_free levels None n;
}

no_base : Base None
no_base = record { utf8 = IsUtf8-nil; short = omega arith }

module _ (levels : ℕ) (stop : StopsAt levels (value_at levels)) where
  -- a list or an object: its count is cut, or what it holds stops
  group_stops : {X : Type 0} (tag : ℕ) (Inner : ℕ → List Part → Type 0) (read : ℕ → Reads X) → ValueParts (suc levels) (many tag 0 ∷ []) → ((n : ℕ) → n < 2 ^ 32 → StandsIn (Inner n) (ValueParts (suc levels)) (many tag n ∷ []))
      → ((n : ℕ) (bytes : List ℕ) (left : ℕ) → n < 2 ^ 32 → IsBytes bytes → length bytes ≤ 16777216 → read n bytes ≡ Err left → Stopped (Inner n) bytes left)
      → (rest : List ℕ) (left : ℕ) → IsBytes rest → length rest ≤ 16777216 → (number_at 4 rest >>= λ n. read n.0 n.1) ≡ Err left → Stopped (ValueParts (suc levels)) (tag ∷ rest) left
  group_stops tag Inner read empty stands inner rest left fit short h = elim (bind_err (number_at 4 rest) (λ n. read n.0 n.1) left h) [
    | inl w ↦
        let e = number_err 4 rest left w in
        let c = count_cut rest e.0 fit in
        cut_part (suc levels) (tag ∷ rest) left (many tag 0) ([], empty) (c.0, (c.2.0, c.2.1, ap (λ b. tag ∷ b) c.2.2)) e.1
    | inr w ↦
        let n = w.0 in
        let t = count_takes rest n fit w.1 in
        stopped_in (Inner n.0) (ValueParts (suc levels)) (many tag n.0 ∷ []) n.1 (tag ∷ rest) left (stands n.0 t.1)
        (ap (λ b. tag ∷ b) (t.0 ∙ ap (λ b. b ++ n.1) (sym (append-nil (count_bytes n.0)))))
        (inner n.0 n.1 left t.1 t.2 (omega (arith, short, ap length t.0, length-append (count_bytes n.0) n.1)) w.2)
  ]

  list_stops : (rest : List ℕ) (left : ℕ) → IsBytes rest → length rest ≤ 16777216 → list_at (value_at levels) rest ≡ Err left → Stopped (ValueParts (suc levels)) (6 ∷ rest) left
  unfolding list_at
  list_stops = group_stops 6 (ItemsParts levels) (repeated (value_at levels)) (v.List [], list_value levels [] (record { few = omega arith; each = tt }), sym (parts-List [])) (items_stand levels)
      (λ n bytes left few fit short h. items_stop levels (value_at levels) (value_sound levels) stop n bytes left fit short h)

  object_stops : (rest : List ℕ) (left : ℕ) → IsBytes rest → length rest ≤ 16777216 → object_at (value_at levels) rest ≡ Err left → Stopped (ValueParts (suc levels)) (7 ∷ rest) left
  unfolding object_at
  object_stops = group_stops 7 (MembersParts levels None) (members_at (value_at levels) None) (v.Object [], object_value levels [] (record { few = omega arith; each = tt }), sym (parts-Object [])) (members_stand levels)
      (λ n bytes left few fit short h. members_stop levels (value_at levels) (value_sound levels) stop None n bytes left fit short no_base (omega (arith, few)) h)

empty_stops : (levels left : ℕ) → left ≡ 0 → Stopped (ValueParts levels) [] left
empty_stops levels left e = cut_part levels [] left (plain 0 []) ([], (v.Null, null_value levels, sym parts-Null)) ([], refl, (0, [], refl)) e

pub value_stops : (levels : ℕ) → StopsAt levels (value_at levels)
unfolding value_at
value_stops zero [] left fit short h = empty_stops zero left (search (h, rules))
value_stops zero (tag ∷ rest) left fit short h = leaf_stops zero tag rest left (λ i. fit (suc i)) h (λ e vs is. no_list_value vs is) (λ e ms is. no_object_value ms is)
value_stops (suc levels) [] left fit short h = empty_stops (suc levels) left (search (h, rules))
value_stops (suc levels) (tag ∷ rest) left fit short h = elim (chosen (tag == 6) (as_list (list_at (value_at levels) rest)) (if tag == 7 then as_object (object_at (value_at levels) rest) else leaf_at tag rest) (Err left) h) [
  | inl w ↦ elim (bind_err (list_at (value_at levels) rest) (λ y. Ok (v.List y.0, y.1)) left w.1) [
    | inl u ↦ subst (λ t. Stopped (ValueParts (suc levels)) (t ∷ rest) left) (sym (same_tag tag 6 w.0)) (list_stops levels (value_stops levels) rest left (λ i. fit (suc i)) (omega (arith, short)) u)
    | inr u ↦ absurd (search (u.2, rules))
  ]
  | inr w ↦ elim (chosen (tag == 7) (as_object (object_at (value_at levels) rest)) (leaf_at tag rest) (Err left) w.1) [
    | inl x ↦ elim (bind_err (object_at (value_at levels) rest) (λ y. Ok (v.Object y.0, y.1)) left x.1) [
      | inl u ↦ subst (λ t. Stopped (ValueParts (suc levels)) (t ∷ rest) left) (sym (same_tag tag 7 x.0)) (object_stops levels (value_stops levels) rest left (λ i. fit (suc i)) (omega (arith, short)) u)
      | inr u ↦ absurd (search (u.2, rules))
    ]
    | inr x ↦ leaf_stops (suc levels) tag rest left (λ i. fit (suc i)) x.1 (λ e vs is. not_tag tag 6 w.0 e) (λ e ms is. not_tag tag 7 x.0 e)
  ]
]

-- ---- the two objects of an event

abbrev object_list : Members → List Part
object_list ms = count (length ms) ∷ members_parts (on_values parts ms)

own_members_stand : (n : ℕ) → n < 2 ^ 32 → StandsIn (MembersParts 127 None n) (ObjectParts 127) (count n ∷ [])
own_members_stand n few = record {
  extend = λ a m. ([], (m.0, record { few = omega (arith, m.1, few); each = m.2 }, ap (λ l. count n ∷ l) (append-nil a ∙ m.3) ∙ ap (λ k. count k ∷ members_parts (on_values parts m.0)) (sym m.1)));
  begin = λ s m.
      let inner = members_parts (on_values parts m.0) in
      (s, [], (m.0, sym (ap count_in (same_head (count n) (count (length m.0)) s inner m.2)), m.1.each, same_tail (count n) (count (length m.0)) s inner m.2), sym (append-nil s));
  free = members_free 127 None n;
}

own_object_stops : (bytes : List ℕ) (left : ℕ) → IsBytes bytes → length bytes ≤ 16777216 → object_at (value_at 127) bytes ≡ Err left → Stopped (ObjectParts 127) bytes left
unfolding object_at
own_object_stops bytes left fit short h = elim (bind_err (number_at 4 bytes) (λ n. members_at (value_at 127) None n.0 n.1) left h) [
  | inl w ↦
      let e = number_err 4 bytes left w in
      let c = count_cut bytes e.0 fit in
      record { at = length bytes; sum = omega (arith, e.1); stops = cut [] (count 0) bytes ([], ([], record { few = omega arith; each = tt }, refl)) refl (c.0, c.2) refl }
  | inr w ↦
      let n = w.0 in
      let t = count_takes bytes n fit w.1 in
      stopped_in (MembersParts 127 None n.0) (ObjectParts 127) (count n.0 ∷ []) n.1 bytes left (own_members_stand n.0 t.1)
      (t.0 ∙ ap (λ b. b ++ n.1) (sym (append-nil (count_bytes n.0))))
      (members_stop 127 (value_at 127) (value_sound 127) (value_stops 127) None n.0 n.1 left t.2 (omega (arith, short, ap length t.0, length-append (count_bytes n.0) n.1)) no_base (omega (arith, t.1)) w.2)
]

whole_of : (fields meta : Members) → AreMembersOf (IsValue 127) fields → AreMembersOf (IsValue 127) meta → AreEventParts (object_list fields ++ object_list meta)
whole_of fields meta f m = (
  both (v.Object fields) (v.Object meta),
  record { fields = record { members = fields; is = refl; each = f }; meta = record { members = meta; is = refl; each = m } },
  sym (ap (λ l. l ++ object_parts (v.Object meta)) (object_parts_are (v.Object fields) fields refl) ∙ ap (λ l. object_list fields ++ l) (object_parts_are (v.Object meta) meta refl)),
)

object_of : (d : Value) → IsEventObject d → ObjectParts 127 (object_parts d)
object_of d o = (o.members, o.each, object_parts_are d o.members o.is)

fields_stand : StandsIn (ObjectParts 127) AreEventParts []
fields_stand = record {
  extend = λ a m. (object_list [], subst AreEventParts (ap (λ l. l ++ object_list []) (sym m.2)) (whole_of m.0 [] m.1 (record { few = omega arith; each = tt })));
  begin = λ s m. (object_parts m.0.fields, object_parts m.0.meta, object_of m.0.fields m.1.fields, m.2);
  free = object_free 127;
}

meta_stands : (fields : Members) → AreMembersOf (IsValue 127) fields → StandsIn (ObjectParts 127) AreEventParts (object_list fields)
meta_stands fields are = record {
  extend = λ a m. ([], subst AreEventParts (ap (λ l. object_list fields ++ l) (sym (append-nil a ∙ m.2))) (whole_of fields m.0 are m.1));
  begin = λ s m.
      let same : object_list fields ≡ object_parts m.0.fields = object_free 127 (object_list fields) (object_parts m.0.fields) s (object_parts m.0.meta) (fields, are, refl) (object_of m.0.fields m.1.fields) m.2 in
      let behind_it : s ≡ object_parts m.0.meta = same_behind (object_parts m.0.fields) s (object_parts m.0.meta) (ap (λ l. l ++ s) (sym same) ∙ m.2) in
      (object_parts m.0.meta, [], object_of m.0.meta m.1.meta, behind_it ∙ sym (append-nil (object_parts m.0.meta)));
  free = object_free 127;
}

whole_err : (fields meta : Members) (rest : List ℕ) (left : ℕ) → whole fields meta rest ≡ Err left → (rest ≢ []) × (left ≡ length rest)
whole_err fields meta [] left h = absurd (search (h, rules))
whole_err fields meta (b ∷ bs) left h = (λ e. search (e, rules), search (h, rules))

pub record Refused (bytes : List ℕ) (left : ℕ) : Type 0 where
  pub at : ℕ
  pub sum : at + left ≡ length bytes
  pub is : IsRefusedAt bytes at

pub event_stops : (bytes : List ℕ) (left : ℕ) → IsBytes bytes → length bytes ≤ 16777216 → event_at bytes ≡ Err left → Refused bytes left
unfolding event_at
event_stops bytes left fit short h = elim (bind_err (object_at (value_at 127) bytes) (λ fields. (object_at (value_at 127) fields.1 >>= λ meta. whole fields.0 meta.0 meta.1)) left h) [
  | inl w ↦
      let s = stopped_in (ObjectParts 127) AreEventParts [] bytes bytes left fields_stand refl (own_object_stops bytes left fit short w) in
      record { at = s.at; sum = s.sum; is = stops short s.stops }
  | inr w ↦
      let f = w.0 in
      let one = object_sound 127 (value_at 127) (value_sound 127) bytes f fit w.1 in
      let front : bytes ≡ bytes_of (object_list f.0) ++ f.1 = one.is ∙ sym (append_assoc (count_bytes (length f.0)) (bytes_of (members_parts (on_values parts f.0))) f.1) in
      let short_rest : length f.1 ≤ 16777216 = omega (arith, short, ap length front, length-append (bytes_of (object_list f.0)) f.1) in
      elim (bind_err (object_at (value_at 127) f.1) (λ meta. whole f.0 meta.0 meta.1) left w.2) [
        | inl u ↦
            let s = stopped_in (ObjectParts 127) AreEventParts (object_list f.0) f.1 bytes left (meta_stands f.0 one.members) front (own_object_stops f.1 left one.fits short_rest u) in
            record { at = s.at; sum = s.sum; is = stops short s.stops }
        | inr u ↦
            let m = u.0 in
            let two = object_sound 127 (value_at 127) (value_sound 127) f.1 m one.fits u.1 in
            let back : f.1 ≡ bytes_of (object_list m.0) ++ m.1 = two.is ∙ sym (append_assoc (count_bytes (length m.0)) (bytes_of (members_parts (on_values parts m.0))) m.1) in
            let all = object_list f.0 ++ object_list m.0 in
            let is_all : bytes ≡ bytes_of all ++ m.1 = front ∙ ap (λ l. bytes_of (object_list f.0) ++ l) back ∙ sym (append_assoc (bytes_of (object_list f.0)) (bytes_of (object_list m.0)) m.1) ∙ ap (λ l. l ++ m.1) (sym (bytes_of-append (object_list f.0) (object_list m.0))) in
            let e = whole_err f.0 m.0 m.1 left u.2 in
            record { at = length (bytes_of all); sum = omega (arith, e.1, ap length is_all, length-append (bytes_of all) m.1); is = behind short all m.1 (whole_of f.0 m.0 one.members two.members) is_all e.0 refl }
      ]
]
