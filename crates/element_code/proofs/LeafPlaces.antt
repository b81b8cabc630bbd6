-- Where a value that holds no others stops being one.
use Rattle.std.proofs.Common.{◌≡◌, ℕ, ◌+◌, ◌<◌, ◌^◌, inl, inr, ℤ, pos, List, [], ◌∷◌, ◌++◌, length, Bool, true, false, ◌==◌, Option, Some, None, Result, Ok, Err, if◌then◌else◌, refl, sym, ap, subst, ◌∙◌, arith, rules, append_assoc, length-append}
use Rattle.std.proofs.lemmas.Bool.Decides.{nat_tests}
use Rattle.std.proofs.lemmas.List.{append-nil}
use Rattle.std.proofs.lemmas.Str.{IsUtf8-nil}
use Rattle.std.proofs.lemmas.Int.{ints}
use Rattle.crc_frame.specs.Bytes.{IsBytes}
use Rattle.plain_data.specs.Calendar.{IsMoment}
use Rattle.event_tree.specs.Number.{Num}
use Rattle.event_tree.specs.Values.{Members}
use Rattle.event_tree.specs.declared.value.Value.{Value}
use Rattle.event_tree.specs.declared.value.Value.TheVariants as v
use Rattle.crc_frame.specs.Fronts.{EndIn, count_bytes, front_at, run_at, ◌>>=◌}
use Rattle.crc_frame.proofs.Fronts.{chosen, front_again, front_takes, run_again, run_takes}
use Rattle.crc_frame.proofs.Cuts.{bind_err, front_err, filled, run_cut}
use Rattle.element_code.specs.Parts.{Part, plain, text, many, count, key, number_bytes, time_bytes, parts}
use Rattle.element_code.specs.Values.{IsNumber, IsText, IsValue}
use Rattle.element_code.specs.Reading.{fits, number_in, time_in, text_in, leaf_at}
use Rattle.element_code.specs.Faults.{EndWithin, CanBe, MayFollow, cut, misfit}
use Rattle.element_code.proofs.Leaves.{is_text}
use Rattle.element_code.proofs.Numbers.{number_again, time_again, length-number_bytes, length-time_bytes}
use Rattle.event_tree.proofs.Shapes.{Shape, is_null, is_bool, is_number, is_text as text_shape, is_time, is_list, is_object, shape_of}
use Rattle.element_code.proofs.PartsOf.{parts-Null, parts-Bool, parts-Num, parts-Text, parts-Time, parts-List, parts-Object, null_value, number_value, text_value, time_value, number_of_value, text_of_value, time_of_value}
use Rattle.element_code.proofs.Sound.{same_tag}
use Rattle.element_code.proofs.Within.{Stopped}
use Rattle.element_code.proofs.PartLists.{ValueParts}

-- the byte with which the bytes of such a part begin
same_first : (tag t : ℕ) (own rest more : List ℕ) → (t ∷ rest) ++ more ≡ tag ∷ own → t ≡ tag
same_first tag t own rest more e = search (e, rules)

abbrev tag_of : Part → ℕ
tag_of (plain tag own) = tag
tag_of (text own) = 4
tag_of (many tag n) = tag
tag_of (count n) = 8
tag_of (key own) = 9

abbrev IsTagged : Part → Type 0
IsTagged (plain tag own) = Unit {0}
IsTagged (text own) = Unit {0}
IsTagged (many tag n) = Unit {0}
IsTagged (count n) = ⊥
IsTagged (key own) = ⊥

can_tag : (q : Part) (t : ℕ) (rest : List ℕ) → IsTagged q → CanBe q (t ∷ rest) → t ≡ tag_of q
can_tag (plain tag own) t rest is (inl w) = search (w.1, rules)
can_tag (plain tag own) t rest is (inr w) = same_first tag t w.0 rest (w.2.0 ∷ w.2.1) w.2.2
can_tag (text own) t rest is (inl w) = search (w.1, rules)
can_tag (text own) t rest is (inr w) = same_first 4 t (count_bytes (length w.0) ++ w.0) rest (w.2.0 ∷ w.2.1) w.2.2
can_tag (many tag n) t rest is (inl w) = search (w.1, rules)
can_tag (many tag n) t rest is (inr w) = same_first tag t (count_bytes w.0) rest (w.1.0 ∷ w.1.1) w.1.2
can_tag (count n) t rest is c = absurd is
can_tag (key own) t rest is c = absurd is

-- why no value begins so
pub record Refuses (levels tag : ℕ) (rest : List ℕ) : Type 0 where
  pub null : tag ≡ 0 → ⊥
  pub no : tag ≡ 1 → ⊥
  pub yes : tag ≡ 2 → ⊥
  pub number : tag ≡ 3 → (n : Num) → IsNumber n → CanBe (plain 3 (number_bytes n)) (tag ∷ rest) → ⊥
  pub text : tag ≡ 4 → (s : List ℕ) → IsText s → CanBe (text s) (tag ∷ rest) → ⊥
  pub time : tag ≡ 5 → (t : ℤ) → IsMoment t → CanBe (plain 5 (time_bytes t)) (tag ∷ rest) → ⊥
  pub list : tag ≡ 6 → (vs : List Value) → IsValue levels (v.List vs) → ⊥
  pub object : tag ≡ 7 → (ms : Members) → IsValue levels (v.Object ms) → ⊥

first_part : (p q : Part) (ps qs : List Part) → p ∷ ps ≡ q ∷ qs → p ≡ q
first_part p q ps qs e = search (e, rules)

bool_tag : (b : Bool) (tag : ℕ) → (tag ≡ 1 → ⊥) → (tag ≡ 2 → ⊥) → tag ≡ (if b then 2 else 1) → ⊥
bool_tag true tag one two e = two e
bool_tag false tag one two e = one e

refuted : (levels tag : ℕ) (rest : List ℕ) (r : Refuses levels tag rest) (q : Part) (more : List Part) (d : Value) → Shape d → IsValue levels d → q ∷ more ≡ parts d → CanBe q (tag ∷ rest) → ⊥
refuted levels tag rest r q more d (is_null e) is p c =
    let s = first_part q (plain 0 []) more [] (p ∙ ap parts e ∙ parts-Null) in r.null (can_tag (plain 0 []) tag rest tt (subst (λ x. CanBe x (tag ∷ rest)) s c))
refuted levels tag rest r q more d (is_bool b e) is p c =
    let s = first_part q _ more [] (p ∙ ap parts e ∙ parts-Bool b) in bool_tag b tag r.no r.yes (can_tag (plain (if b then 2 else 1) []) tag rest tt (subst (λ x. CanBe x (tag ∷ rest)) s c))
refuted levels tag rest r q more d (is_number n e) is p c =
    let s = first_part q (plain 3 (number_bytes n)) more [] (p ∙ ap parts e ∙ parts-Num n) in
    let k = subst (λ x. CanBe x (tag ∷ rest)) s c in r.number (can_tag (plain 3 (number_bytes n)) tag rest tt k) n (number_of_value levels n (subst (IsValue levels) e is)) k
refuted levels tag rest r q more d (text_shape t e) is p c =
    let s = first_part q (text t) more [] (p ∙ ap parts e ∙ parts-Text t) in
    let k = subst (λ x. CanBe x (tag ∷ rest)) s c in r.text (can_tag (text t) tag rest tt k) t (text_of_value levels t (subst (IsValue levels) e is)) k
refuted levels tag rest r q more d (is_time t e) is p c =
    let s = first_part q (plain 5 (time_bytes t)) more [] (p ∙ ap parts e ∙ parts-Time t) in
    let k = subst (λ x. CanBe x (tag ∷ rest)) s c in r.time (can_tag (plain 5 (time_bytes t)) tag rest tt k) t (time_of_value levels t (subst (IsValue levels) e is)) k
refuted levels tag rest r q more d (is_list vs e) is p c =
    let s = first_part q (many 6 (length vs)) more _ (p ∙ ap parts e ∙ parts-List vs) in r.list (can_tag (many 6 (length vs)) tag rest tt (subst (λ x. CanBe x (tag ∷ rest)) s c)) vs (subst (IsValue levels) e is)
refuted levels tag rest r q more d (is_object ms e) is p c =
    let s = first_part q (many 7 (length ms)) more _ (p ∙ ap parts e ∙ parts-Object ms) in r.object (can_tag (many 7 (length ms)) tag rest tt (subst (λ x. CanBe x (tag ∷ rest)) s c)) ms (subst (IsValue levels) e is)

-- the tag itself can't stand
pub misfit_tag : (levels tag : ℕ) (rest : List ℕ) (left : ℕ) → left ≡ length rest + 1 → Refuses levels tag rest → Stopped (ValueParts levels) (tag ∷ rest) left
misfit_tag levels tag rest left e r = record {
  at = 0;
  sum = omega (arith, e);
  stops = misfit [] (plain 0 []) (tag ∷ rest) ([], (v.Null, null_value levels, sym parts-Null)) refl (λ q m c. refuted levels tag rest r q m.0 m.1.0 (shape_of m.1.0) m.1.1 m.1.2 c) refl;
}

-- the bytes end within a part with which a value begins
pub cut_part : (levels : ℕ) (bytes : List ℕ) (left : ℕ) (p : Part) → MayFollow (ValueParts levels) [] p → EndWithin p bytes → left ≡ 0 → Stopped (ValueParts levels) bytes left
cut_part levels bytes left p m ends e = record { at = length bytes; sum = omega (arith, e); stops = cut [] p bytes m refl ends refl }

fits_err : (behind : List ℕ) (found : Option Value) (left : ℕ) → fits behind found ≡ Err left → (found ≡ None) × (left ≡ length behind + 1)
fits_err behind None left h = (refl, search (h, rules))
fits_err behind (Some d) left h = absurd (search (h, rules))

same_tail : (x : ℕ) (xs ys : List ℕ) → x ∷ xs ≡ x ∷ ys → xs ≡ ys
same_tail x xs ys e = search (e, rules)

ended : {A : Type 0} (left : ℕ) (x y : A) (r : Result A ℕ) → r ≡ Ok x → r ≡ Ok y → x ≡ y
ended left x y r e f = search (sym e ∙ f, rules)

-- a field of so many bytes behind its tag, which the bytes there don't fit
module _ (levels tag n : ℕ) (rest : List ℕ) (left : ℕ) (found : List ℕ → Option Value) (own : List ℕ) where
  no_field : (x : List ℕ × List ℕ) → front_at n rest ≡ Ok x → length x.0 ≡ n → rest ≡ x.0 ++ x.1 → found x.0 ≡ None → length own ≡ n → CanBe (plain tag own) (tag ∷ rest) → ((d : Value) × (found own ≡ Some d)) → ⊥
  no_field x h long is none same (inl w) some =
      let e : rest ≡ own ++ w.0 = same_tail tag rest (own ++ w.0) w.1 in
      let f : x ≡ (own, w.0) = ended left x (own, w.0) (front_at n rest) h (ap (front_at n) e ∙ front_again own w.0 n (sym same)) in
      absurd (search (sym none ∙ ap (λ y. found y.0) f ∙ some.1, rules))
  no_field x h long is none same (inr w) some =
      omega (arith, ap length w.2.2, length-append rest (w.2.0 ∷ w.2.1), w.1, same, ap length is, length-append x.0 x.1, long)

-- such a field, or a run of bytes, as a value
abbrev fixed_at : ℕ → (List ℕ → Option Value) → List ℕ → Result (Value × List ℕ) ℕ
fixed_at n found rest = front_at n rest >>= λ y. (fits rest (found y.0) >>= λ d. Ok (d, y.1))

abbrev text_at : List ℕ → Result (Value × List ℕ) ℕ
text_at rest = run_at rest >>= λ y. (fits rest (text_in y.0) >>= λ d. Ok (d, y.1))

zero_number : Num
zero_number = record { mantissa = pos 0; scale = 0 }

zero_valid : IsNumber zero_number
unfolding zero_number
zero_valid = record { fits = omega (arith, ints); least = record { few = omega arith; trimmed = inl refl } }

epoch : IsMoment (pos 0)
epoch = record { from_first = omega (arith, ints); to_last = omega (arith, ints) }

number_stops : (levels : ℕ) (rest : List ℕ) (left : ℕ) → IsBytes rest → fixed_at 9 number_in rest ≡ Err left → Stopped (ValueParts levels) (3 ∷ rest) left
number_stops levels rest left fit h = elim (bind_err (front_at 9 rest) (λ y. (fits rest (number_in y.0) >>= λ d. Ok (d, y.1))) left h) [
  | inl w ↦
      let s = front_err 9 rest left w in
      let f = filled 9 rest s.0 in
      cut_part levels (3 ∷ rest) left (plain 3 (number_bytes zero_number)) ([], (v.Num zero_number, number_value levels zero_number zero_valid, sym (parts-Num zero_number)))
      (f.0, f.1 ∙ sym (length-number_bytes zero_number), (f.2.0, f.2.1, ap (λ b. 3 ∷ b) f.2.2)) s.1
  | inr w ↦
      let x = w.0 in
      let t = front_takes 9 rest x fit w.1 in
      elim (bind_err (fits rest (number_in x.0)) (λ d. Ok (d, x.1)) left w.2) [
        | inl u ↦
            let none = fits_err rest (number_in x.0) left u in
            misfit_tag levels 3 rest left none.1 (record {
              null = λ e. omega (arith, e);
              no = λ e. omega (arith, e);
              yes = λ e. omega (arith, e);
              number = λ e n is c. no_field levels 3 9 rest left number_in (number_bytes n) x w.1 t.1 t.0.is none.0 (length-number_bytes n) c (v.Num n, number_again n is);
              text = λ e. absurd (omega (arith, e));
              time = λ e. absurd (omega (arith, e));
              list = λ e. absurd (omega (arith, e));
              object = λ e. absurd (omega (arith, e));
            })
        | inr u ↦ absurd (search (u.2, rules))
      ]
]

time_stops : (levels : ℕ) (rest : List ℕ) (left : ℕ) → IsBytes rest → fixed_at 12 time_in rest ≡ Err left → Stopped (ValueParts levels) (5 ∷ rest) left
time_stops levels rest left fit h = elim (bind_err (front_at 12 rest) (λ y. (fits rest (time_in y.0) >>= λ d. Ok (d, y.1))) left h) [
  | inl w ↦
      let s = front_err 12 rest left w in
      let f = filled 12 rest s.0 in
      cut_part levels (5 ∷ rest) left (plain 5 (time_bytes (pos 0))) ([], (v.Time (pos 0), time_value levels (pos 0) epoch, sym (parts-Time (pos 0))))
      (f.0, f.1 ∙ sym (length-time_bytes (pos 0)), (f.2.0, f.2.1, ap (λ b. 5 ∷ b) f.2.2)) s.1
  | inr w ↦
      let x = w.0 in
      let t = front_takes 12 rest x fit w.1 in
      elim (bind_err (fits rest (time_in x.0)) (λ d. Ok (d, x.1)) left w.2) [
        | inl u ↦
            let none = fits_err rest (time_in x.0) left u in
            misfit_tag levels 5 rest left none.1 (record {
              null = λ e. omega (arith, e);
              no = λ e. omega (arith, e);
              yes = λ e. omega (arith, e);
              number = λ e. absurd (omega (arith, e));
              text = λ e. absurd (omega (arith, e));
              time = λ e n is c. no_field levels 5 12 rest left time_in (time_bytes n) x w.1 t.1 t.0.is none.0 (length-time_bytes n) c (v.Time n, time_again n is);
              list = λ e. absurd (omega (arith, e));
              object = λ e. absurd (omega (arith, e));
            })
        | inr u ↦ absurd (search (u.2, rules))
      ]
]

-- bytes that hold a whole run don't end within another, and begin with no other
pub same_run : (rest s : List ℕ) (x : List ℕ × List ℕ) → run_at rest ≡ Ok x → length s < 2 ^ 32 → (more : List ℕ) → rest ≡ (count_bytes (length s) ++ s) ++ more → x ≡ (s, more)
same_run rest s x h short more e = ended 0 x (s, more) (run_at rest) h (ap run_at (e ∙ append_assoc (count_bytes (length s)) s more) ∙ run_again s more short)

append_assoc_nil : (xs ys : List ℕ) → xs ++ (ys ++ []) ≡ xs ++ ys
append_assoc_nil xs ys = ap (λ l. xs ++ l) (append-nil ys)

pub no_end : (rest other : List ℕ) (x : List ℕ × List ℕ) → IsBytes rest → run_at rest ≡ Ok x → length other < 2 ^ 32 → EndIn (count_bytes (length other) ++ other) rest → ⊥
no_end rest other x fit h short e =
    let r = run_takes rest x fit h in
    let more = x.1 ++ e.0 ∷ e.1 in
    let all : rest ++ e.0 ∷ e.1 ≡ count_bytes (length x.0) ++ (x.0 ++ more) = ap (λ b. b ++ e.0 ∷ e.1) r.is ∙ append_assoc (count_bytes (length x.0)) (x.0 ++ x.1) (e.0 ∷ e.1) ∙ ap (λ b. count_bytes (length x.0) ++ b) (append_assoc x.0 x.1 (e.0 ∷ e.1)) in
    let one : run_at (rest ++ e.0 ∷ e.1) ≡ Ok (x.0, more) = ap run_at all ∙ run_again x.0 more r.short in
    let two : run_at (rest ++ e.0 ∷ e.1) ≡ Ok (other, []) = ap run_at (e.2 ∙ sym (append_assoc_nil (count_bytes (length other)) other)) ∙ run_again other [] short in
    let same : (x.0, more) ≡ (other, []) = ended 0 (x.0, more) (other, []) (run_at (rest ++ e.0 ∷ e.1)) one two in
    omega (arith, ap (λ y. length y.1) same, length-append x.1 (e.0 ∷ e.1))

no_text : (rest : List ℕ) (x : List ℕ × List ℕ) → IsBytes rest → run_at rest ≡ Ok x → text_in x.0 ≡ None → (s : List ℕ) → IsText s → CanBe (text s) (4 ∷ rest) → ⊥
no_text rest x fit h none s is (inl w) =
    let e = same_run rest s x h is.short w.0 (same_tail 4 rest ((count_bytes (length s) ++ s) ++ w.0) w.1) in
    absurd (search (sym none ∙ ap (λ y. text_in y.0) e ∙ is_text s is.utf8, rules))
no_text rest x fit h none s is (inr w) = no_end rest w.0 x fit h w.1 (w.2.0, w.2.1, same_tail 4 (rest ++ w.2.0 ∷ w.2.1) (count_bytes (length w.0) ++ w.0) w.2.2)

text_stops : (levels : ℕ) (rest : List ℕ) (left : ℕ) → IsBytes rest → text_at rest ≡ Err left → Stopped (ValueParts levels) (4 ∷ rest) left
text_stops levels rest left fit h = elim (bind_err (run_at rest) (λ y. (fits rest (text_in y.0) >>= λ d. Ok (d, y.1))) left h) [
  | inl w ↦
      let s = run_cut rest left fit w in
      cut_part levels (4 ∷ rest) left (text []) ([], (v.Text [], text_value levels [] (record { utf8 = IsUtf8-nil; short = omega arith }), sym (parts-Text [])))
      (s.1.0, s.1.1, (s.1.2.0, s.1.2.1, ap (λ b. 4 ∷ b) s.1.2.2)) s.0
  | inr w ↦
      let x = w.0 in
      elim (bind_err (fits rest (text_in x.0)) (λ d. Ok (d, x.1)) left w.2) [
        | inl u ↦
            let none = fits_err rest (text_in x.0) left u in
            misfit_tag levels 4 rest left none.1 (record {
              null = λ e. omega (arith, e);
              no = λ e. omega (arith, e);
              yes = λ e. omega (arith, e);
              number = λ e. absurd (omega (arith, e));
              text = λ e s is c. no_text rest x fit w.1 none.0 s is c;
              time = λ e. absurd (omega (arith, e));
              list = λ e. absurd (omega (arith, e));
              object = λ e. absurd (omega (arith, e));
            })
        | inr u ↦ absurd (search (u.2, rules))
      ]
]

pub not_tag : (tag k : ℕ) → (tag == k) ≡ false → tag ≡ k → ⊥
not_tag tag k h e =
    grind (arith, nat_tests, h, e)

record NoTag (tag : ℕ) : Type 0 where
  pub n0 : tag ≡ 0 → ⊥
  pub n1 : tag ≡ 1 → ⊥
  pub n2 : tag ≡ 2 → ⊥
  pub n3 : tag ≡ 3 → ⊥
  pub n4 : tag ≡ 4 → ⊥
  pub n5 : tag ≡ 5 → ⊥

no_leaf : (levels tag : ℕ) (rest : List ℕ) (left : ℕ) → NoTag tag → left ≡ length rest + 1 → (tag ≡ 6 → (vs : List Value) → IsValue levels (v.List vs) → ⊥) → (tag ≡ 7 → (ms : Members) → IsValue levels (v.Object ms) → ⊥) → Stopped (ValueParts levels) (tag ∷ rest) left
no_leaf levels tag rest left n e list object = misfit_tag levels tag rest left e (record {
  null = n.n0;
  no = n.n1;
  yes = n.n2;
  number = λ e. absurd (n.n3 e);
  text = λ e. absurd (n.n4 e);
  time = λ e. absurd (n.n5 e);
  list = list;
  object = object;
})

pub leaf_stops : (levels tag : ℕ) (rest : List ℕ) (left : ℕ) → IsBytes rest → leaf_at tag rest ≡ Err left → (tag ≡ 6 → (vs : List Value) → IsValue levels (v.List vs) → ⊥) → (tag ≡ 7 → (ms : Members) → IsValue levels (v.Object ms) → ⊥) → Stopped (ValueParts levels) (tag ∷ rest) left
leaf_stops levels tag rest left fit h list object = elim (chosen (tag == 0) _ _ _ h) [
  | inl w ↦ absurd (search (w.1, rules))
  | inr w0 ↦ elim (chosen (tag == 1) _ _ _ w0.1) [
    | inl w ↦ absurd (search (w.1, rules))
    | inr w1 ↦ elim (chosen (tag == 2) _ _ _ w1.1) [
      | inl w ↦ absurd (search (w.1, rules))
      | inr w2 ↦ elim (chosen (tag == 3) _ _ _ w2.1) [
        | inl w ↦ subst (λ t. Stopped (ValueParts levels) (t ∷ rest) left) (sym (same_tag tag 3 w.0)) (number_stops levels rest left fit w.1)
        | inr w3 ↦ elim (chosen (tag == 4) _ _ _ w3.1) [
          | inl w ↦ subst (λ t. Stopped (ValueParts levels) (t ∷ rest) left) (sym (same_tag tag 4 w.0)) (text_stops levels rest left fit w.1)
          | inr w4 ↦ elim (chosen (tag == 5) _ _ _ w4.1) [
            | inl w ↦ subst (λ t. Stopped (ValueParts levels) (t ∷ rest) left) (sym (same_tag tag 5 w.0)) (time_stops levels rest left fit w.1)
            | inr w5 ↦ no_leaf levels tag rest left (record { n0 = not_tag tag 0 w0.0; n1 = not_tag tag 1 w1.0; n2 = not_tag tag 2 w2.0; n3 = not_tag tag 3 w3.0; n4 = not_tag tag 4 w4.0; n5 = not_tag tag 5 w5.0 }) (search (w5.1, rules)) list object
          ]
        ]
      ]
    ]
  ]
]
