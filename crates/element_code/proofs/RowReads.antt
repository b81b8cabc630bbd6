-- The bodies of rows, read from the front.
use Rattle.std.proofs.Common.{◌≡◌, ◌⊎◌, inl, inr, ⊎_elim, ℕ, ◌+◌, ◌-◌, ◌<◌, ◌≤◌, ◌^◌, nat_lt, true, false, List, ◌++◌, length, if◌then◌else◌, Ok, Err, refl, sym, ap, subst, ◌∙◌, arith, rules, append_assoc, length-append}
use Rattle.std.specs.Str.{IsUtf8, is_utf8}
use Rattle.std.proofs.lemmas.Str.{is_utf8-from_IsUtf8, IsUtf8-from_is_utf8}
use Rattle.std.proofs.lemmas.Bool.{false_from_ne_true}
use Rattle.std.proofs.lemmas.Bool.Decides.{nat_tests}
use Rattle.crc_frame.specs.Bytes.{IsBytes}
use Rattle.event_tree.specs.Events.{Ev, IsEvent, event_size}
use Rattle.crc_frame.specs.Fronts.{◌>>=◌, front_at, number_at, count_bytes, run_bytes}
use Rattle.crc_frame.proofs.Fronts.{bind_ok, chosen, ok_is, count_again, front_again, length-count_bytes, count_takes, front_takes}
use Rattle.crc_frame.proofs.Cuts.{bind_err, front_err, number_err}
use Rattle.element_code.specs.Parts.{event_spelling}
use Rattle.element_code.specs.Values.{IsWhole}
use Rattle.element_code.specs.Reading.{event_at}
use Rattle.element_code.specs.Faults.{IsRefusedAt, long}
use Rattle.element_code.specs.RowBodies.{IsOrigin, RowBody, IsRowRefusedAt, cut_length, bad_length, cut_origin, no_text, no_event, is_bad_length, short_run_at, origin_at, short_event_at, row, row_at, row_spelling, NoRowBeginsAnother}
use Rattle.element_code.specs.declared.row.Row.{Row}
use Rattle.element_code.proofs.Again.{event_again}
use Rattle.element_code.proofs.Sound.{event_sound, none_begins}
use Rattle.element_code.proofs.EventPlaces.{event_stops}
use Rattle.element_code.proofs.OnePlace.{one_place, spelled_at_none}
use Rattle.element_code.proofs.Wholes.{is_whole, is_short}
use Rattle.element_code.proofs.Lengths.{length-event_spelling}

length-run_bytes : (own : List ℕ) → length (run_bytes own) ≡ 4 + length own
length-run_bytes own = omega (arith, length-append (count_bytes (length own)) own, length-count_bytes (length own))

utf8_true : (bytes : List ℕ) → IsUtf8 bytes → is_utf8 bytes ≡ true
utf8_true bytes is = is_utf8-from_IsUtf8 bytes is

pub utf8_false : (bytes : List ℕ) → (IsUtf8 bytes → ⊥) → is_utf8 bytes ≡ false
utf8_false bytes is_not = false_from_ne_true _ (λ t. is_not (IsUtf8-from_is_utf8 bytes t))

good_length : (n : ℕ) → 1 ≤ n → n ≤ 255 → is_bad_length n ≡ false
good_length n some short = grind (arith, nat_tests, some, short)

is_good_length : (n : ℕ) → is_bad_length n ≡ false → (1 ≤ n) × (n ≤ 255)
is_good_length n is = (grind (arith, nat_tests, is), grind (arith, nat_tests, is))

bad_length_true : (n : ℕ) → (n ≡ 0) ⊎ (255 < n) → is_bad_length n ≡ true
bad_length_true n (inl none) = grind (arith, nat_tests, none)
bad_length_true n (inr many) = grind (arith, nat_tests, many)

is_bad : (n : ℕ) → is_bad_length n ≡ true → (n ≡ 0) ⊎ (255 < n)
is_bad n is = grind (arith, nat_tests, is)

-- ---- an origin, by what stands behind its length

module _ (bytes own rest : List ℕ) where
  pub origin_taken_as : short_run_at bytes ≡ Ok (own, rest) → IsUtf8 own → origin_at bytes ≡ Ok (own, rest)
  origin_taken_as h is = rw (h, utf8_true own is) refl

  pub origin_refused_as : short_run_at bytes ≡ Ok (own, rest) → (IsUtf8 own → ⊥) → origin_at bytes ≡ Err (length bytes - 4)
  origin_refused_as h is_not = rw (h, utf8_false own is_not) refl

-- ---- what is spelled is read

run_again : (own rest : List ℕ) → 1 ≤ length own → length own ≤ 255 → short_run_at (run_bytes own ++ rest) ≡ Ok (own, rest)
run_again own rest some short =
    let n = length own in
    let parts : run_bytes own ++ rest ≡ count_bytes n ++ (own ++ rest) = append_assoc (count_bytes n) own rest in
    let head : number_at 4 (run_bytes own ++ rest) ≡ Ok (n, own ++ rest) = ap (number_at 4) parts ∙ count_again n (own ++ rest) (omega (arith, short)) in
    ap (λ r. r >>= λ m. (if is_bad_length m.0 then Err (length (run_bytes own ++ rest)) else front_at m.0 m.1)) head
    ∙ rw (good_length n some short) (front_again own rest n refl)

origin_again : (origin rest : List ℕ) → IsOrigin origin → origin_at (run_bytes origin ++ rest) ≡ Ok (origin, rest)
origin_again origin rest is = origin_taken_as (run_bytes origin ++ rest) origin rest (run_again origin rest is.some is.short) is.utf8

short_again : (e : Ev) → IsWhole e → length (event_spelling e) ≤ 16777216 → short_event_at (event_spelling e) ≡ Ok e
short_again e is short = let t : nat_lt 16777216 (length (event_spelling e)) ≡ false = grind (arith, nat_tests, short) in rw t (event_again e is)

pub row_again : (bytes origin : List ℕ) (e : Ev) → RowBody bytes origin e → row_at bytes ≡ Ok (row origin e)
row_again bytes origin e is =
    ap row_at (sym is.spelled) ∙ rw (origin_again origin (event_spelling e) is.is_origin, short_again e is.is_event is.short) refl

-- what each row is written as
pub row_body : (origin : List ℕ) (e : Ev) → IsUtf8 origin → 1 ≤ length origin → length origin ≤ 255 → IsEvent e → RowBody (row_spelling origin e) origin e
row_body origin e utf8 some short is = record {
  is_origin = record { utf8 = utf8; some = some; short = short };
  is_event = is_whole e is;
  short = is_short e is;
  spelled = refl;
}

pub row_size : (origin : List ℕ) (e : Ev) → IsEvent e → length (row_spelling origin e) ≡ 4 + length origin + event_size e
row_size origin e is = omega (arith, length-append (run_bytes origin) (event_spelling e), length-run_bytes origin, length-event_spelling e is.fields_object is.meta_object)

-- ---- what is read is spelled

record OriginTaken (bytes : List ℕ) (o : List ℕ × List ℕ) : Type 0 where
  is_origin : IsOrigin o.0
  is : bytes ≡ run_bytes o.0 ++ o.1
  fits : IsBytes o.1

record RunTaken (bytes : List ℕ) (x : List ℕ × List ℕ) : Type 0 where
  some : 1 ≤ length x.0
  short : length x.0 ≤ 255
  is : bytes ≡ run_bytes x.0 ++ x.1
  fits : IsBytes x.1

run_taken : (bytes : List ℕ) (x : List ℕ × List ℕ) → IsBytes bytes → short_run_at bytes ≡ Ok x → RunTaken bytes x
run_taken bytes x fit h =
    let b = bind_ok (number_at 4 bytes) (λ n. (if is_bad_length n.0 then Err (length bytes) else front_at n.0 n.1)) x h in
    let n = b.0 in
    let c = count_takes bytes n fit b.1 in
    elim (chosen (is_bad_length n.0) (Err (length bytes)) (front_at n.0 n.1) (Ok x) b.2) [
      | inl w ↦ absurd (search (w.1, rules))
      | inr w ↦
          let f = front_takes n.0 n.1 x c.2 w.1 in
          let good = is_good_length n.0 w.0 in
          record {
            some = omega (arith, good.0, f.1);
            short = omega (arith, good.1, f.1);
            is = c.0 ∙ ap (λ k. count_bytes k ++ n.1) (sym f.1) ∙ ap (λ r. count_bytes (length x.0) ++ r) f.0.is ∙ sym (append_assoc (count_bytes (length x.0)) x.0 x.1);
            fits = f.0.fits;
          }
    ]

origin_taken : (bytes : List ℕ) (o : List ℕ × List ℕ) → IsBytes bytes → origin_at bytes ≡ Ok o → OriginTaken bytes o
origin_taken bytes o fit h =
    let b = bind_ok (short_run_at bytes) (λ x. (if is_utf8 x.0 then Ok x else Err (length bytes - 4))) o h in
    let r = run_taken bytes b.0 fit b.1 in
    elim (chosen (is_utf8 b.0.0) (Ok b.0) (Err (length bytes - 4)) (Ok o) b.2) [
      | inl w ↦ subst (OriginTaken bytes) (ok_is b.0 o w.1) (record { is_origin = record { utf8 = IsUtf8-from_is_utf8 b.0.0 w.0; some = r.some; short = r.short }; is = r.is; fits = r.fits })
      | inr w ↦ absurd (search (w.1, rules))
    ]

pub row_sound : (bytes : List ℕ) (r : Row) → IsBytes bytes → row_at bytes ≡ Ok r → RowBody bytes r.origin r.event
row_sound bytes r fit h =
    let b = bind_ok (origin_at bytes) (λ o. (short_event_at o.1 >>= λ e. Ok (row o.0 e))) r h in
    let o = b.0 in
    let taken = origin_taken bytes o fit b.1 in
    let c = bind_ok (short_event_at o.1) (λ e. Ok (row o.0 e)) r b.2 in
    let e = c.0 in
    elim (chosen (nat_lt 16777216 (length o.1)) (Err (length o.1 - 16777216)) (event_at o.1) (Ok e) c.1) [
      | inl w ↦ absurd (search (w.1, rules))
      | inr w ↦
          let s = event_sound o.1 e taken.fits w.1 in
          let short : length o.1 ≤ 16777216 = grind (arith, nat_tests, w.0) in
          subst (λ x. RowBody bytes x.origin x.event) (ok_is (row o.0 e) r c.2) (record {
            is_origin = taken.is_origin;
            is_event = s.0;
            short = omega (arith, short, ap length s.1);
            spelled = ap (λ l. run_bytes o.0 ++ l) s.1 ∙ sym taken.is;
          })
    ]

-- ---- where reading stops

pub record RowRefused (bytes : List ℕ) (left : ℕ) : Type 0 where
  pub at : ℕ
  pub sum : at + left ≡ length bytes
  pub is : IsRowRefusedAt bytes at

run_stops : (bytes : List ℕ) (left : ℕ) → IsBytes bytes → short_run_at bytes ≡ Err left → RowRefused bytes left
run_stops bytes left fit h = elim (bind_err (number_at 4 bytes) (λ n. (if is_bad_length n.0 then Err (length bytes) else front_at n.0 n.1)) left h) [
  | inl w ↦
      let e = number_err 4 bytes left w in
      record { at = length bytes; sum = omega (arith, e.1); is = cut_length e.0 refl }
  | inr w ↦
      let n = w.0 in
      let c = count_takes bytes n fit w.1 in
      elim (chosen (is_bad_length n.0) (Err (length bytes)) (front_at n.0 n.1) (Err left) w.2) [
        | inl u ↦
            let all : length bytes ≡ left = search (u.1, rules) in
            record { at = 0; sum = omega (arith, all); is = bad_length n.0 n.1 c.1 c.0 (is_bad n.0 u.0) refl }
        | inr u ↦
            let e = front_err n.0 n.1 left u.1 in
            let good = is_good_length n.0 u.0 in
            record { at = length bytes; sum = omega (arith, e.1); is = cut_origin n.0 n.1 good.0 good.1 c.0 e.0 refl }
      ]
]

origin_stops : (bytes : List ℕ) (left : ℕ) → IsBytes bytes → origin_at bytes ≡ Err left → RowRefused bytes left
origin_stops bytes left fit h = elim (bind_err (short_run_at bytes) (λ x. (if is_utf8 x.0 then Ok x else Err (length bytes - 4))) left h) [
  | inl w ↦ run_stops bytes left fit w
  | inr w ↦
      let x = w.0 in
      let r = run_taken bytes x fit w.1 in
      elim (chosen (is_utf8 x.0) (Ok x) (Err (length bytes - 4)) (Err left) w.2) [
        | inl u ↦ absurd (search (u.1, rules))
        | inr u ↦
            let all : length bytes - 4 ≡ left = search (u.1, rules) in
            let refused : IsUtf8 x.0 → ⊥ = λ is. search (sym u.0 ∙ utf8_true x.0 is, rules) in
            record {
              at = 4;
              sum = omega (arith, all, ap length r.is, length-append (run_bytes x.0) x.1, length-run_bytes x.0);
              is = no_text x.0 x.1 r.some r.short r.is refused refl;
            }
      ]
]

pub row_stops : (bytes : List ℕ) (left : ℕ) → IsBytes bytes → row_at bytes ≡ Err left → RowRefused bytes left
row_stops bytes left fit h = elim (bind_err (origin_at bytes) (λ o. (short_event_at o.1 >>= λ e. Ok (row o.0 e))) left h) [
  | inl w ↦ origin_stops bytes left fit w
  | inr w ↦
      let o = w.0 in
      let taken = origin_taken bytes o fit w.1 in
      let front : length bytes ≡ 4 + length o.0 + length o.1 = omega (arith, ap length taken.is, length-append (run_bytes o.0) o.1, length-run_bytes o.0) in
      let refused : (inner : ℕ) → inner + left ≡ length o.1 → IsRefusedAt o.1 inner → RowRefused bytes left = λ inner sum is. record {
        at = 4 + length o.0 + inner;
        sum = omega (arith, front, sum);
        is = no_event o.0 o.1 inner taken.is_origin taken.is is refl;
      } in
      elim (bind_err (short_event_at o.1) (λ e. Ok (row o.0 e)) left w.2) [
        | inr u ↦ absurd (search (u.2, rules))
        | inl u ↦ elim (chosen (nat_lt 16777216 (length o.1)) (Err (length o.1 - 16777216)) (event_at o.1) (Err left) u) [
          | inl v ↦
              let more : 16777216 < length o.1 = grind (arith, nat_tests, v.0) in
              let all : length o.1 - 16777216 ≡ left = search (v.1, rules) in
              refused 16777216 (omega (arith, more, all)) (long more refl)
          | inr v ↦
              let short : length o.1 ≤ 16777216 = grind (arith, nat_tests, v.0) in
              let e = event_stops o.1 left taken.fits short v.1 in
              refused e.at e.sum e.is
        ]
      ]
]

-- ---- bytes are refused at one place at most

-- the place as reading finds it: in front of the event
abbrev InFront : List ℕ → ℕ → Type 0
InFront bytes at = (origin_at bytes ≡ Err (length bytes - at)) × (at ≤ length bytes)

-- or within it
record Behind (bytes : List ℕ) (at : ℕ) : Type 0 where
  origin : List ℕ
  rest : List ℕ
  inner : ℕ
  read : origin_at bytes ≡ Ok (origin, rest)
  is : IsRefusedAt rest inner
  at_is : at ≡ 4 + length origin + inner

run_err : (bytes : List ℕ) (left : ℕ) → short_run_at bytes ≡ Err left → origin_at bytes ≡ Err left
run_err bytes left h = rw h refl

counted : (bytes rest : List ℕ) (n : ℕ) → n < 2 ^ 32 → bytes ≡ count_bytes n ++ rest → short_run_at bytes ≡ (if is_bad_length n then Err (length bytes) else front_at n rest)
counted bytes rest n low is = ap (λ r. r >>= λ m. (if is_bad_length m.0 then Err (length bytes) else front_at m.0 m.1)) (ap (number_at 4) is ∙ count_again n rest low)

too_few : (n : ℕ) (bytes : List ℕ) → length bytes < n → front_at n bytes ≡ Err 0
too_few n bytes few = let t : nat_lt (length bytes) n ≡ true = grind (arith, nat_tests, few) in rw t refl

left_is : (bytes : List ℕ) (left other : ℕ) → left ≡ other → origin_at bytes ≡ Err left → origin_at bytes ≡ Err other
left_is bytes left other same h = h ∙ ap Err same

place_of : (bytes : List ℕ) (at : ℕ) → IsRowRefusedAt bytes at → InFront bytes at ⊎ Behind bytes at
place_of bytes at (cut_length few e) =
    let none : 0 ≡ length bytes - at = omega (arith, e) in
    inl (left_is bytes 0 (length bytes - at) none (run_err bytes 0 (rw (too_few 4 bytes few) refl)), omega (arith, e))
place_of bytes at (bad_length n rest low is bad e) =
    let all : length bytes ≡ length bytes - at = omega (arith, e) in
    inl (left_is bytes (length bytes) (length bytes - at) all (run_err bytes (length bytes) (counted bytes rest n low is ∙ rw (bad_length_true n bad) refl)), omega (arith, e))
place_of bytes at (cut_origin n rest some short is few e) =
    let none : 0 ≡ length bytes - at = omega (arith, e) in
    inl (left_is bytes 0 (length bytes - at) none (run_err bytes 0 (counted bytes rest n (omega (arith, short)) is ∙ rw (good_length n some short) (too_few n rest few))), omega (arith, e))
place_of bytes at (no_text own rest some short is is_not e) =
    let behind : length bytes - 4 ≡ length bytes - at = omega (arith, e) in
    let read : short_run_at bytes ≡ Ok (own, rest) = ap short_run_at is ∙ run_again own rest some short in
    inl (left_is bytes (length bytes - 4) (length bytes - at) behind (origin_refused_as bytes own rest read is_not), omega (arith, e, ap length is, length-append (run_bytes own) rest, length-run_bytes own))
place_of bytes at (no_event origin rest inner is_origin is refused e) =
    inr (record { origin = origin; rest = rest; inner = inner; read = ap origin_at is ∙ origin_again origin rest is_origin; is = refused; at_is = e })

one_left : (bytes : List ℕ) (a b : ℕ) → InFront bytes a → InFront bytes b → a ≡ b
one_left bytes a b one two =
    let same : length bytes - a ≡ length bytes - b = search (sym one.0 ∙ two.0, rules) in
    omega (arith, same, one.1, two.1)

not_both : (bytes : List ℕ) (a b : ℕ) → InFront bytes a → Behind bytes b → ⊥
not_both bytes a b one two = search (sym one.0 ∙ two.read, rules)

one_inner : (bytes : List ℕ) (a b : ℕ) → Behind bytes a → Behind bytes b → a ≡ b
one_inner bytes a b one two =
    let same = ok_is (one.origin, one.rest) (two.origin, two.rest) (sym one.read ∙ two.read) in
    let origins : one.origin ≡ two.origin = ap (λ x. x.0) same in
    let rests : one.rest ≡ two.rest = ap (λ x. x.1) same in
    let inner = one_place two.rest one.inner two.inner (subst (λ r. IsRefusedAt r one.inner) rests one.is) two.is in
    omega (arith, one.at_is, two.at_is, inner, ap length origins)

pub one_row_place : (bytes : List ℕ) (a b : ℕ) → IsRowRefusedAt bytes a → IsRowRefusedAt bytes b → a ≡ b
one_row_place bytes a b first second = ⊎_elim
    (λ one. ⊎_elim (λ two. one_left bytes a b one two) (λ two. absurd (not_both bytes a b one two)) (place_of bytes b second))
    (λ one. ⊎_elim (λ two. absurd (not_both bytes b a two one)) (λ two. one_inner bytes a b one two) (place_of bytes b second))
    (place_of bytes a first)

-- and the body of a row at none
pub row_body_at_none : (bytes : List ℕ) (a : ℕ) (origin : List ℕ) (e : Ev) → RowBody bytes origin e → IsRowRefusedAt bytes a → ⊥
row_body_at_none bytes a origin e is refused =
    let read : origin_at bytes ≡ Ok (origin, event_spelling e) = ap origin_at (sym is.spelled) ∙ origin_again origin (event_spelling e) is.is_origin in
    ⊎_elim
    (λ front. search (sym front.0 ∙ read, rules))
    (λ within.
    let same = ok_is (within.origin, within.rest) (origin, event_spelling e) (sym within.read ∙ read) in
    let rests : within.rest ≡ event_spelling e = ap (λ x. x.1) same in
    spelled_at_none within.rest within.inner e is.is_event (sym rests) (omega (arith, ap length rests, is.short)) within.is)
    (place_of bytes a refused)

-- ---- no body begins another

pub no_row_begins_another : NoRowBeginsAnother
no_row_begins_another bytes more origin other_origin event other one two =
    let e = event_spelling event in
    let long_parts : run_bytes origin ++ (e ++ more) ≡ row_spelling other_origin other = sym (append_assoc (run_bytes origin) e more) ∙ ap (λ l. l ++ more) one.spelled ∙ sym two.spelled in
    let read : (origin, e ++ more) ≡ (other_origin, event_spelling other) =
    ok_is _ _ (sym (origin_again origin (e ++ more) one.is_origin) ∙ ap origin_at long_parts ∙ origin_again other_origin (event_spelling other) two.is_origin) in
    let rest = none_begins event other more one.is_event two.is_event (ap (λ x. x.1) read) in
    (ap (λ x. x.0) read, rest.0, rest.1)
