-- What is read is spelled so.
use Rattle.std.proofs.Common.{◌≡◌, ℕ, zero, suc, ◌-◌, inl, inr, List, [], ◌∷◌, ◌++◌, length, map, true, false, ◌&&◌, ◌==◌, Option, Some, None, Ok, Err, if◌then◌else◌, refl, sym, ap, subst, ◌∙◌, append_assoc, arith, rules}
use Rattle.std.proofs.lemmas.List.{append-nil}
use Rattle.std.proofs.lemmas.Bool.Decides.{nat_tests}
use Rattle.std.specs.Str.{is_utf8}
use Rattle.std.proofs.lemmas.Str.{IsUtf8-from_is_utf8}
use Rattle.crc_frame.specs.Bytes.{IsBytes}
use Rattle.plain_data.proofs.KeyLemmas.{Less-from_is_lt}
use Rattle.plain_data.specs.Keys.{text_cmp}
use Rattle.event_tree.specs.Values.{Members, on_values}
use Rattle.event_tree.specs.Events.{Ev, both}
use Rattle.event_tree.specs.declared.value.Value.{Value}
use Rattle.event_tree.specs.declared.value.Value.TheVariants as v
use Rattle.event_tree.proofs.Sounds.{first, second as second_true}
use Rattle.crc_frame.specs.Fronts.{Reads, count_bytes, front_at, number_at, repeated, run_at, ◌>>=◌}
use Rattle.crc_frame.proofs.Fronts.{bind_ok, chosen, ok_is, front_takes, count_takes, run_takes}
use Rattle.element_code.specs.Parts.{Part, plain, text, key, part_bytes, bytes_of, number_bytes, time_bytes, items_parts, members_parts, parts, spelling, object_parts, event_parts, event_spelling}
use Rattle.element_code.specs.Values.{IsText, IsAbove, IsValue, AreValues, AreMembers, AreItemsOf, AreMembersOf, IsWhole}
use Rattle.element_code.specs.Reading.{fits, number_in, time_in, text_in, leaf_at, is_above, key_at, members_at, list_at, object_at, as_list, as_object, value_at, whole, event_at}
use Rattle.element_code.proofs.Numbers.{number_takes as number_in_takes, time_takes, text_takes}
use Rattle.element_code.proofs.PartsOf.{bytes_of-append, parts-Null, parts-Bool, parts-Num, parts-Text, parts-Time, parts-List, parts-Object, null_value, bool_value, number_value, text_value, time_value, list_value, object_value}
use Rattle.element_code.proofs.Again.{one_part, object_parts_are, event_and_more, event_again, objects_are}

-- a value was read from the front of the bytes
pub record Sound (levels : ℕ) (bytes : List ℕ) (x : Value × List ℕ) : Type 0 where
  pub is : bytes ≡ spelling x.0 ++ x.1
  pub value : IsValue levels x.0
  pub fits : IsBytes x.1

-- a value of one part
leaf_sound : (levels : ℕ) (bytes own rest : List ℕ) (d : Value) (p : Part) (x : Value × List ℕ) → (d, rest) ≡ x → parts d ≡ p ∷ [] → bytes ≡ part_bytes p ++ rest → IsValue levels d → IsBytes rest → Sound levels bytes x
leaf_sound levels bytes own rest d p x same e is value fit = subst (Sound levels bytes) same (record { is = is ∙ ap (λ bs. bs ++ rest) (sym (one_part d p e)); value = value; fits = fit })

fits_some : (behind : List ℕ) (found : Option Value) (d : Value) → fits behind found ≡ Ok d → found ≡ Some d
fits_some behind None d h = absurd (search (h, rules))
fits_some behind (Some y) d h = ap Some (ok_is y d h)

number_sound : (levels : ℕ) (rest : List ℕ) (x : Value × List ℕ) → IsBytes rest → (front_at 9 rest >>= λ y. (fits rest (number_in y.0) >>= λ d. Ok (d, y.1))) ≡ Ok x → Sound levels (3 ∷ rest) x
number_sound levels rest x fit h =
    let b = bind_ok (front_at 9 rest) (λ y. (fits rest (number_in y.0) >>= λ d. Ok (d, y.1))) x h in
    let t = front_takes 9 rest b.0 fit b.1 in
    let f = bind_ok (fits rest (number_in b.0.0)) (λ d. Ok (d, b.0.1)) x b.2 in
    let n = number_in_takes b.0.0 f.0 t.0.front_fits t.1 (fits_some rest (number_in b.0.0) f.0 f.1) in
    leaf_sound levels (3 ∷ rest) b.0.0 b.0.1 f.0 (plain 3 (number_bytes n.number)) x (ok_is (f.0, b.0.1) x f.2) (ap parts n.is ∙ parts-Num n.number) (ap (λ bs. 3 ∷ bs) (t.0.is ∙ ap (λ bs. bs ++ b.0.1) n.spelled)) (subst (IsValue levels) (sym n.is) (number_value levels n.number n.valid)) t.0.fits

time_sound : (levels : ℕ) (rest : List ℕ) (x : Value × List ℕ) → IsBytes rest → (front_at 12 rest >>= λ y. (fits rest (time_in y.0) >>= λ d. Ok (d, y.1))) ≡ Ok x → Sound levels (5 ∷ rest) x
time_sound levels rest x fit h =
    let b = bind_ok (front_at 12 rest) (λ y. (fits rest (time_in y.0) >>= λ d. Ok (d, y.1))) x h in
    let t = front_takes 12 rest b.0 fit b.1 in
    let f = bind_ok (fits rest (time_in b.0.0)) (λ d. Ok (d, b.0.1)) x b.2 in
    let n = time_takes b.0.0 f.0 t.0.front_fits t.1 (fits_some rest (time_in b.0.0) f.0 f.1) in
    leaf_sound levels (5 ∷ rest) b.0.0 b.0.1 f.0 (plain 5 (time_bytes n.nanos)) x (ok_is (f.0, b.0.1) x f.2) (ap parts n.is ∙ parts-Time n.nanos) (ap (λ bs. 5 ∷ bs) (t.0.is ∙ ap (λ bs. bs ++ b.0.1) n.spelled)) (subst (IsValue levels) (sym n.is) (time_value levels n.nanos n.valid)) t.0.fits

text_sound : (levels : ℕ) (rest : List ℕ) (x : Value × List ℕ) → IsBytes rest → (run_at rest >>= λ y. (fits rest (text_in y.0) >>= λ d. Ok (d, y.1))) ≡ Ok x → Sound levels (4 ∷ rest) x
text_sound levels rest x fit h =
    let b = bind_ok (run_at rest) (λ y. (fits rest (text_in y.0) >>= λ d. Ok (d, y.1))) x h in
    let r = run_takes rest b.0 fit b.1 in
    let f = bind_ok (fits rest (text_in b.0.0)) (λ d. Ok (d, b.0.1)) x b.2 in
    let n = text_takes b.0.0 f.0 (fits_some rest (text_in b.0.0) f.0 f.1) in
    leaf_sound levels (4 ∷ rest) b.0.0 b.0.1 f.0 (text b.0.0) x (ok_is (f.0, b.0.1) x f.2) (ap parts n.0 ∙ parts-Text b.0.0) (ap (λ bs. 4 ∷ bs) (r.is ∙ sym (append_assoc (count_bytes (length b.0.0)) b.0.0 b.0.1))) (subst (IsValue levels) (sym n.0) (text_value levels b.0.0 (record { utf8 = n.1; short = r.short }))) r.fits

pub same_tag : (tag k : ℕ) → (tag == k) ≡ true → tag ≡ k
same_tag tag k h = grind (arith, nat_tests, h)

leaves_sound : (levels tag : ℕ) (rest : List ℕ) (x : Value × List ℕ) → IsBytes rest → leaf_at tag rest ≡ Ok x → Sound levels (tag ∷ rest) x
leaves_sound levels tag rest x fit h = elim (chosen (tag == 0) _ _ _ h) [
  | inl w ↦ subst (λ t. Sound levels (t ∷ rest) x) (sym (same_tag tag 0 w.0)) (leaf_sound levels (0 ∷ rest) [] rest v.Null (plain 0 []) x (ok_is (v.Null, rest) x w.1) parts-Null refl (null_value levels) fit)
  | inr w0 ↦ elim (chosen (tag == 1) _ _ _ w0.1) [
    | inl w ↦ subst (λ t. Sound levels (t ∷ rest) x) (sym (same_tag tag 1 w.0)) (leaf_sound levels (1 ∷ rest) [] rest (v.Bool false) (plain 1 []) x (ok_is (v.Bool false, rest) x w.1) (parts-Bool false) refl (bool_value levels false) fit)
    | inr w1 ↦ elim (chosen (tag == 2) _ _ _ w1.1) [
      | inl w ↦ subst (λ t. Sound levels (t ∷ rest) x) (sym (same_tag tag 2 w.0)) (leaf_sound levels (2 ∷ rest) [] rest (v.Bool true) (plain 2 []) x (ok_is (v.Bool true, rest) x w.1) (parts-Bool true) refl (bool_value levels true) fit)
      | inr w2 ↦ elim (chosen (tag == 3) _ _ _ w2.1) [
        | inl w ↦ subst (λ t. Sound levels (t ∷ rest) x) (sym (same_tag tag 3 w.0)) (number_sound levels rest x fit w.1)
        | inr w3 ↦ elim (chosen (tag == 4) _ _ _ w3.1) [
          | inl w ↦ subst (λ t. Sound levels (t ∷ rest) x) (sym (same_tag tag 4 w.0)) (text_sound levels rest x fit w.1)
          | inr w4 ↦ elim (chosen (tag == 5) _ _ _ w4.1) [
            | inl w ↦ subst (λ t. Sound levels (t ∷ rest) x) (sym (same_tag tag 5 w.0)) (time_sound levels rest x fit w.1)
            | inr w ↦ absurd (search (w.1, rules))
          ]
        ]
      ]
    ]
  ]
]

abbrev pub IsSound : ℕ → Reads Value → Type 0
IsSound levels read = (bytes : List ℕ) (x : Value × List ℕ) → IsBytes bytes → read bytes ≡ Ok x → Sound levels bytes x

record ItemsSound (levels n : ℕ) (bytes : List ℕ) (x : List Value × List ℕ) : Type 0 where
  pub is : bytes ≡ bytes_of (items_parts (map parts x.0)) ++ x.1
  pub length_is : length x.0 ≡ n
  pub values : AreValues (IsValue levels) x.0
  pub fits : IsBytes x.1

record MembersSound (levels n : ℕ) (last : Option (List ℕ)) (bytes : List ℕ) (x : Members × List ℕ) : Type 0 where
  pub is : bytes ≡ bytes_of (members_parts (on_values parts x.0)) ++ x.1
  pub length_is : length x.0 ≡ n
  pub members : AreMembers (IsValue levels) last x.0
  pub fits : IsBytes x.1

is_above_sound : (last : Option (List ℕ)) (k : List ℕ) → is_above last k ≡ true → IsAbove last k
is_above_sound None k h = tt
is_above_sound (Some last) k h = Less-from_is_lt (text_cmp last k) h

pub record KeySound (last : Option (List ℕ)) (bytes : List ℕ) (x : List ℕ × List ℕ) : Type 0 where
  pub is : bytes ≡ part_bytes (key x.0) ++ x.1
  pub valid : IsText x.0
  pub above : IsAbove last x.0
  pub fits : IsBytes x.1

pub key_sound : (last : Option (List ℕ)) (bytes : List ℕ) (x : List ℕ × List ℕ) → IsBytes bytes → key_at last bytes ≡ Ok x → KeySound last bytes x
key_sound last bytes x fit h =
    let b = bind_ok (run_at bytes) (λ k. (if is_utf8 k.0 && is_above last k.0 then Ok k else Err (length bytes - 4))) x h in
    let r = run_takes bytes b.0 fit b.1 in
    elim (chosen (is_utf8 b.0.0 && is_above last b.0.0) (Ok b.0) (Err (length bytes - 4)) (Ok x) b.2) [
      | inl w ↦ subst (KeySound last bytes) (ok_is b.0 x w.1) (record {
        is = r.is ∙ sym (append_assoc (count_bytes (length b.0.0)) b.0.0 b.0.1);
        valid = record { utf8 = IsUtf8-from_is_utf8 b.0.0 (first (is_utf8 b.0.0) (is_above last b.0.0) w.0); short = r.short };
        above = is_above_sound last b.0.0 (second_true (is_utf8 b.0.0) (is_above last b.0.0) w.0);
        fits = r.fits;
      })
      | inr w ↦ absurd (search (w.1, rules))
    ]

module _ (levels : ℕ) (read : Reads Value) (sound : IsSound levels read) where
  items_sound : (n : ℕ) (bytes : List ℕ) (x : List Value × List ℕ) → IsBytes bytes → repeated read n bytes ≡ Ok x → ItemsSound levels n bytes x
  items_sound zero bytes x fit h = subst (ItemsSound levels zero bytes) (ok_is ([], bytes) x h) (record { is = refl; length_is = refl; values = tt; fits = fit })
  items_sound (suc n) bytes x fit h =
      let b = bind_ok (read bytes) (λ y. (repeated read n y.1 >>= λ ys. Ok (y.0 ∷ ys.0, ys.1))) x h in
      let one = sound bytes b.0 fit b.1 in
      let c = bind_ok (repeated read n b.0.1) (λ ys. Ok (b.0.0 ∷ ys.0, ys.1)) x b.2 in
      let more = items_sound n b.0.1 c.0 one.fits c.1 in
      let inner = items_parts (map parts c.0.0) in
      subst (ItemsSound levels (suc n) bytes) (ok_is (b.0.0 ∷ c.0.0, c.0.1) x c.2) (record {
        is = one.is ∙ ap (λ bs. spelling b.0.0 ++ bs) more.is ∙ sym (append_assoc (spelling b.0.0) (bytes_of inner) c.0.1) ∙ ap (λ bs. bs ++ c.0.1) (sym (bytes_of-append (parts b.0.0) inner));
        length_is = ap suc more.length_is;
        values = (one.value, more.values);
        fits = more.fits;
      })

  members_sound : (last : Option (List ℕ)) (n : ℕ) (bytes : List ℕ) (x : Members × List ℕ) → IsBytes bytes → members_at read last n bytes ≡ Ok x → MembersSound levels n last bytes x
  members_sound last zero bytes x fit h = subst (MembersSound levels zero last bytes) (ok_is ([], bytes) x h) (record { is = refl; length_is = refl; members = tt; fits = fit })
  members_sound last (suc n) bytes x fit h =
      let a = bind_ok (key_at last bytes) (λ k. (read k.1 >>= λ y. (members_at read (Some k.0) n y.1 >>= λ ms. Ok ((k.0, y.0) ∷ ms.0, ms.1)))) x h in
      let k = key_sound last bytes a.0 fit a.1 in
      let b = bind_ok (read a.0.1) (λ y. (members_at read (Some a.0.0) n y.1 >>= λ ms. Ok ((a.0.0, y.0) ∷ ms.0, ms.1))) x a.2 in
      let one = sound a.0.1 b.0 k.fits b.1 in
      let c = bind_ok (members_at read (Some a.0.0) n b.0.1) (λ ms. Ok ((a.0.0, b.0.0) ∷ ms.0, ms.1)) x b.2 in
      let more = members_sound (Some a.0.0) n b.0.1 c.0 one.fits c.1 in
      let inner = members_parts (on_values parts c.0.0) in
      let front = part_bytes (key a.0.0) in
      subst (MembersSound levels (suc n) last bytes) (ok_is ((a.0.0, b.0.0) ∷ c.0.0, c.0.1) x c.2) (record {
        is = k.is ∙ ap (λ bs. front ++ bs) (one.is ∙ ap (λ bs. spelling b.0.0 ++ bs) more.is ∙ sym (append_assoc (spelling b.0.0) (bytes_of inner) c.0.1) ∙ ap (λ bs. bs ++ c.0.1) (sym (bytes_of-append (parts b.0.0) inner)))
            ∙ sym (append_assoc front (bytes_of (parts b.0.0 ++ inner)) c.0.1);
        length_is = ap suc more.length_is;
        members = (k.valid, k.above, one.value, more.members);
        fits = more.fits;
      })

  pub record ListSound (bytes : List ℕ) (x : List Value × List ℕ) : Type 0 where
    pub is : bytes ≡ count_bytes (length x.0) ++ (bytes_of (items_parts (map parts x.0)) ++ x.1)
    pub items : AreItemsOf (IsValue levels) x.0
    pub fits : IsBytes x.1

  pub record ObjectSound (bytes : List ℕ) (x : Members × List ℕ) : Type 0 where
    pub is : bytes ≡ count_bytes (length x.0) ++ (bytes_of (members_parts (on_values parts x.0)) ++ x.1)
    pub members : AreMembersOf (IsValue levels) x.0
    pub fits : IsBytes x.1

  pub list_sound : (bytes : List ℕ) (x : List Value × List ℕ) → IsBytes bytes → list_at read bytes ≡ Ok x → ListSound bytes x
  unfolding list_at
  list_sound bytes x fit h =
      let b = bind_ok (number_at 4 bytes) (λ n. repeated read n.0 n.1) x h in
      let n = count_takes bytes b.0 fit b.1 in
      let s = items_sound b.0.0 b.0.1 x n.2 b.2 in
      record {
        is = n.0 ∙ ap (λ k. count_bytes k ++ b.0.1) (sym s.length_is) ∙ ap (λ bs. count_bytes (length x.0) ++ bs) s.is;
        items = record { few = omega (arith, n.1, s.length_is); each = s.values };
        fits = s.fits;
      }

  pub object_sound : (bytes : List ℕ) (x : Members × List ℕ) → IsBytes bytes → object_at read bytes ≡ Ok x → ObjectSound bytes x
  unfolding object_at
  object_sound bytes x fit h =
      let b = bind_ok (number_at 4 bytes) (λ n. members_at read None n.0 n.1) x h in
      let n = count_takes bytes b.0 fit b.1 in
      let s = members_sound None b.0.0 b.0.1 x n.2 b.2 in
      record {
        is = n.0 ∙ ap (λ k. count_bytes k ++ b.0.1) (sym s.length_is) ∙ ap (λ bs. count_bytes (length x.0) ++ bs) s.is;
        members = record { few = omega (arith, n.1, s.length_is); each = s.members };
        fits = s.fits;
      }

pub value_sound : (levels : ℕ) → IsSound levels (value_at levels)
unfolding value_at
value_sound zero [] x fit h = absurd (search (h, rules))
value_sound zero (tag ∷ rest) x fit h = leaves_sound zero tag rest x (λ i. fit (suc i)) h
value_sound (suc levels) [] x fit h = absurd (search (h, rules))
value_sound (suc levels) (tag ∷ rest) x fit h = elim (chosen (tag == 6) (as_list (list_at (value_at levels) rest)) (if tag == 7 then as_object (object_at (value_at levels) rest) else leaf_at tag rest) (Ok x) h) [
  | inl w ↦
      let b = bind_ok (list_at (value_at levels) rest) (λ y. Ok (v.List y.0, y.1)) x w.1 in
      let s = list_sound levels (value_at levels) (value_sound levels) rest b.0 (λ i. fit (suc i)) b.1 in
      subst (λ t. Sound (suc levels) (t ∷ rest) x) (sym (same_tag tag 6 w.0)) (subst (Sound (suc levels) (6 ∷ rest)) (ok_is (v.List b.0.0, b.0.1) x b.2) (record {
        is = ap (λ bs. 6 ∷ bs) (s.is ∙ sym (append_assoc (count_bytes (length b.0.0)) (bytes_of (items_parts (map parts b.0.0))) b.0.1)) ∙ ap (λ ps. bytes_of ps ++ b.0.1) (sym (parts-List b.0.0));
        value = list_value levels b.0.0 s.items;
        fits = s.fits;
      }))
  | inr w ↦ elim (chosen (tag == 7) (as_object (object_at (value_at levels) rest)) (leaf_at tag rest) (Ok x) w.1) [
    | inl u ↦
        let b = bind_ok (object_at (value_at levels) rest) (λ y. Ok (v.Object y.0, y.1)) x u.1 in
        let s = object_sound levels (value_at levels) (value_sound levels) rest b.0 (λ i. fit (suc i)) b.1 in
        subst (λ t. Sound (suc levels) (t ∷ rest) x) (sym (same_tag tag 7 u.0)) (subst (Sound (suc levels) (7 ∷ rest)) (ok_is (v.Object b.0.0, b.0.1) x b.2) (record {
          is = ap (λ bs. 7 ∷ bs) (s.is ∙ sym (append_assoc (count_bytes (length b.0.0)) (bytes_of (members_parts (on_values parts b.0.0))) b.0.1)) ∙ ap (λ ps. bytes_of ps ++ b.0.1) (sym (parts-Object b.0.0));
          value = object_value levels b.0.0 s.members;
          fits = s.fits;
        }))
    | inr u ↦ leaves_sound (suc levels) tag rest x (λ i. fit (suc i)) u.1
  ]
]

pub whole_sound : (fields meta : Members) (rest : List ℕ) (e : Ev) → whole fields meta rest ≡ Ok e → (rest ≡ []) × (both (v.Object fields) (v.Object meta) ≡ e)
whole_sound fields meta [] e h = (refl, ok_is (both (v.Object fields) (v.Object meta)) e h)
whole_sound fields meta (b ∷ bs) e h = absurd (search (h, rules))

pub event_sound : (bytes : List ℕ) (e : Ev) → IsBytes bytes → event_at bytes ≡ Ok e → IsWhole e × (event_spelling e ≡ bytes)
unfolding event_at event_spelling
event_sound bytes e fit h =
    let read = value_at 127 in
    let a = bind_ok (object_at read bytes) (λ fields. (object_at read fields.1 >>= λ meta. whole fields.0 meta.0 meta.1)) e h in
    let one = object_sound 127 read (value_sound 127) bytes a.0 fit a.1 in
    let b = bind_ok (object_at read a.0.1) (λ meta. whole a.0.0 meta.0 meta.1) e a.2 in
    let two = object_sound 127 read (value_sound 127) a.0.1 b.0 one.fits b.1 in
    let w = whole_sound a.0.0 b.0.0 b.0.1 e b.2 in
    let f = object_parts_are (v.Object a.0.0) a.0.0 refl in
    let m = object_parts_are (v.Object b.0.0) b.0.0 refl in
    let fb = bytes_of (object_parts (v.Object a.0.0)) in
    let mb = bytes_of (object_parts (v.Object b.0.0)) in
    let tail : a.0.1 ≡ mb ++ [] = two.is ∙ sym (append_assoc (count_bytes (length b.0.0)) (bytes_of (members_parts (on_values parts b.0.0))) b.0.1) ∙ ap (λ ps. bytes_of ps ++ b.0.1) (sym m) ∙ ap (λ r. mb ++ r) w.0 in
    let all : bytes ≡ fb ++ mb = one.is ∙ sym (append_assoc (count_bytes (length a.0.0)) (bytes_of (members_parts (on_values parts a.0.0))) a.0.1) ∙ ap (λ ps. bytes_of ps ++ a.0.1) (sym f) ∙ ap (λ r. fb ++ r) (tail ∙ append-nil mb) in
    let is : IsWhole (both (v.Object a.0.0) (v.Object b.0.0)) × (bytes_of (event_parts (both (v.Object a.0.0) (v.Object b.0.0))) ≡ bytes) =
    (record { fields = record { members = a.0.0; is = refl; each = one.members }; meta = record { members = b.0.0; is = refl; each = two.members } }, bytes_of-append (object_parts (v.Object a.0.0)) (object_parts (v.Object b.0.0)) ∙ sym all) in
    subst (λ x. IsWhole x × (bytes_of (event_parts x) ≡ bytes)) w.1 is

pub event_is : (bytes behind rest : List ℕ) (fields meta : Members) → object_at (value_at 127) bytes ≡ Ok (fields, behind) → object_at (value_at 127) behind ≡ Ok (meta, rest) → rest ≡ []
    → event_at bytes ≡ Ok (both (v.Object fields) (v.Object meta))
unfolding event_at
event_is bytes behind rest fields meta h k e = rw (h, k, e) refl

pub none_begins : (e other : Ev) (more : List ℕ) → IsWhole e → IsWhole other → event_spelling e ++ more ≡ event_spelling other → (e ≡ other) × (more ≡ [])
none_begins e other more w u same =
    let s = whole_sound w.fields.members w.meta.members more other (sym (event_and_more e w more) ∙ ap event_at same ∙ event_again other u) in
    (sym (objects_are e w) ∙ s.1, s.0)
