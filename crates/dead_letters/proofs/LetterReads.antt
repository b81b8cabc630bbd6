-- The bodies of letters, read from the front.
use Rattle.std.proofs.Common.{◌≡◌, inl, inr, ℕ, ℤ, pos, ◌+◌, ◌-◌, ◌<◌, ◌≤◌, ◌^◌, ◌+ℤ◌, ◌*ℤ◌, ◌&&◌, nat_lt, Bool, true, false, List, ◌++◌, length, take, drop, Option, Some, None, if◌then◌else◌, Result, Ok, Err, refl, sym, ap, subst, ◌∙◌, arith, rules, append_assoc, length-append}
use Rattle.std.specs.Prelude.{option_map, SomeIff, int_le}
use Rattle.std.proofs.lemmas.Bool.{cond-false, cases_Bool, and_parts}
use Rattle.std.proofs.lemmas.Int.{ints}
use Rattle.element_code.proofs.Leaves.{moment_is}
use Rattle.std.specs.Int.{w64, cast_signed}
use Rattle.std.specs.Str.{IsUtf8, is_utf8}
use Rattle.std.proofs.lemmas.Str.{is_utf8-from_IsUtf8, IsUtf8-from_is_utf8}
use Rattle.std.proofs.lemmas.Bool.Decides.{nat_tests}
use Rattle.byteorder.specs.Endian.{big_number}
use Rattle.crc_frame.specs.Bytes.{IsBytes}
use Rattle.plain_data.specs.Calendar.{IsMoment, first_moment, last_moment}
use Rattle.event_tree.specs.Events.{Ev}
use Rattle.event_tree.specs.declared.value.Value.TheVariants as v
use Rattle.crc_frame.specs.Fronts.{◌>>=◌, front_at, run_at, count_bytes, run_bytes}
use Rattle.crc_frame.proofs.Fronts.{bind_ok, chosen, ok_is, run_again, front_again, front_takes, run_takes, length-count_bytes}
use Rattle.crc_frame.proofs.Cuts.{bind_err, front_err}
use Rattle.element_code.specs.Parts.{time_bytes, event_spelling}
use Rattle.element_code.specs.Values.{IsWhole}
use Rattle.element_code.specs.Reading.{time_in, is_moment, moment_of, event_at}
use Rattle.element_code.specs.RowBodies.{short_event_at}
use Rattle.element_code.specs.Faults.{IsRefusedAt, long as too_long}
use Rattle.element_code.proofs.Again.{event_again}
use Rattle.element_code.proofs.Sound.{event_sound}
use Rattle.element_code.proofs.EventPlaces.{event_stops}
use Rattle.element_code.proofs.OnePlace.{one_place, spelled_at_none}
use Rattle.element_code.proofs.Numbers.{time_again, time_takes, length-time_bytes}
use Rattle.dead_letters.specs.Letters.{letter, letter_body, IsLetter}
use Rattle.dead_letters.specs.Records.{text_at, instant_of, instant_in, found_or, moment_at, letter_at}
use Rattle.dead_letters.specs.declared.letter.DeadLetter.{DeadLetter}

pub length-run_bytes : (own : List ℕ) → length (run_bytes own) ≡ 4 + length own
length-run_bytes own = omega (arith, length-append (count_bytes (length own)) own, length-count_bytes (length own))

pub length-letter_body : (l : DeadLetter) → length (letter_body l) ≡ 24 + (length l.kind + length l.id + length l.reason) + length (event_spelling l.event)
unfolding letter_body
length-letter_body l =
    let event = event_spelling l.event in
    let moment = time_bytes l.moment ++ event in
    let reason = run_bytes l.reason ++ moment in
    let id = run_bytes l.id ++ reason in
    omega (
      arith,
      length-append (run_bytes l.kind) id,
      length-append (run_bytes l.id) reason,
      length-append (run_bytes l.reason) moment,
      length-append (time_bytes l.moment) event,
      length-time_bytes l.moment,
      length-run_bytes l.kind,
      length-run_bytes l.id,
      length-run_bytes l.reason,
    )

-- ---- texts

module _ (bytes own rest : List ℕ) where
  pub text_taken : run_at bytes ≡ Ok (own, rest) → IsUtf8 own → text_at bytes ≡ Ok (own, rest)
  text_taken h is = rw (h, is_utf8-from_IsUtf8 own is) refl

  pub text_refused : run_at bytes ≡ Ok (own, rest) → is_utf8 own ≡ false → text_at bytes ≡ Err (length bytes - 4)
  text_refused h is = rw (h, is) refl

pub text_again : (own rest : List ℕ) → IsUtf8 own → length own < 2 ^ 32 → text_at (run_bytes own ++ rest) ≡ Ok (own, rest)
text_again own rest is short =
    text_taken (run_bytes own ++ rest) own rest (ap run_at (append_assoc (count_bytes (length own)) own rest) ∙ run_again own rest short) is

pub record TextTaken (bytes : List ℕ) (x : List ℕ × List ℕ) : Type 0 where
  pub utf8 : IsUtf8 x.0
  pub short : length x.0 < 2 ^ 32
  pub is : bytes ≡ run_bytes x.0 ++ x.1
  pub fits : IsBytes x.1

pub text_takes : (bytes : List ℕ) (x : List ℕ × List ℕ) → IsBytes bytes → text_at bytes ≡ Ok x → TextTaken bytes x
text_takes bytes x fit h =
    let b = bind_ok (run_at bytes) (λ y. (if is_utf8 y.0 then Ok y else Err (length bytes - 4))) x h in
    let r = run_takes bytes b.0 fit b.1 in
    elim (chosen (is_utf8 b.0.0) (Ok b.0) (Err (length bytes - 4)) (Ok x) b.2) [
      | inl w ↦ subst (TextTaken bytes) (ok_is b.0 x w.1) (record {
        utf8 = IsUtf8-from_is_utf8 b.0.0 w.0;
        short = r.short;
        is = r.is ∙ sym (append_assoc (count_bytes (length b.0.0)) b.0.0 b.0.1);
        fits = r.fits;
      })
      | inr w ↦ absurd (search (w.1, rules))
    ]

-- ---- moments

-- a moment as it is read as a value
as_value : (seconds : ℤ) (nanos : ℕ) → moment_of seconds nanos ≡ option_map v.Time (instant_of seconds nanos)
as_value seconds nanos = by_test (nat_lt nanos 1000000000 && is_moment (seconds *ℤ pos 1000000000 +ℤ pos nanos))
  where
    by_test : (b : Bool) → (if b then Some (v.Time (seconds *ℤ pos 1000000000 +ℤ pos nanos)) else None) ≡ option_map v.Time (if b then Some (seconds *ℤ pos 1000000000 +ℤ pos nanos) else None)
    by_test true = refl
    by_test false = refl

value_of : (bytes : List ℕ) → time_in bytes ≡ option_map v.Time (instant_in bytes)
value_of bytes = as_value (cast_signed w64 (big_number 8 bytes)) (big_number 4 (drop 8 bytes))

from_value : (t : ℤ) (found : Option ℤ) → option_map v.Time found ≡ Some (v.Time t) → found ≡ Some t
from_value t None h = absurd (search (h, rules))
from_value t (Some u) h = ap Some (search (h, rules))

-- what the calendar tells of a number of nanoseconds
pub told_moment : (result : Option ℤ) (seconds : ℤ) (nanos : ℕ) (z : ℤ) → z ≡ seconds *ℤ pos 1000000000 +ℤ pos nanos → nanos < 1000000000 → SomeIff result (IsMoment z) z → result ≡ instant_of seconds nanos
told_moment (Some t) seconds nanos z is low told = sym (from_value t (instant_of seconds nanos) (sym (as_value seconds nanos) ∙ moment_is seconds nanos t low (told.1 ∙ is) (subst IsMoment (sym told.1) told.0)))
told_moment None seconds nanos z is low told = elim (cases_Bool (nat_lt nanos 1000000000 && is_moment (seconds *ℤ pos 1000000000 +ℤ pos nanos))) [
  | inr test ↦ sym (cond-false _ _ _ test)
  | inl test ↦
      let sum = seconds *ℤ pos 1000000000 +ℤ pos nanos in
      let parts = and_parts (int_le first_moment sum) (int_le sum last_moment) (and_parts (nat_lt nanos 1000000000) (is_moment sum) test).1 in
      let moment : IsMoment sum = record { from_first = grind (arith, ints, parts.0); to_last = grind (arith, ints, parts.1) } in
      absurd (told (subst IsMoment (sym is) moment))
]

pub instant_again : (t : ℤ) → IsMoment t → instant_in (time_bytes t) ≡ Some t
instant_again t is = from_value t (instant_in (time_bytes t)) (sym (value_of (time_bytes t)) ∙ time_again t is)

pub moment_again : (t : ℤ) (rest : List ℕ) → IsMoment t → moment_at (time_bytes t ++ rest) ≡ Ok (t, rest)
moment_again t rest is = rw (front_again (time_bytes t) rest 12 (sym (length-time_bytes t)), instant_again t is) refl

pub moment_found : (bytes own behind : List ℕ) (t : ℤ) → front_at 12 bytes ≡ Ok (own, behind) → instant_in own ≡ Some t → moment_at bytes ≡ Ok (t, drop 12 bytes)
moment_found bytes own behind t h is =
    let rest : behind ≡ drop 12 bytes = elim (chosen (nat_lt (length bytes) 12) (Err 0) (Ok (take 12 bytes, drop 12 bytes)) (Ok (own, behind)) h) [
      | inl w ↦ absurd (search (w.1, rules))
      | inr w ↦ sym (ap (λ x. x.1) (ok_is (take 12 bytes, drop 12 bytes) (own, behind) w.1))
    ] in
    rw (h, is) (ap (λ r. Ok (t, r)) rest)

pub moment_missed : (bytes own behind : List ℕ) → front_at 12 bytes ≡ Ok (own, behind) → instant_in own ≡ None → moment_at bytes ≡ Err (length bytes)
moment_missed bytes own behind h is = rw (h, is) refl

pub moment_whole : (bytes own behind : List ℕ) → front_at 12 bytes ≡ Ok (own, behind) → 12 ≤ length bytes
moment_whole bytes own behind h = elim (chosen (nat_lt (length bytes) 12) (Err 0) (Ok (take 12 bytes, drop 12 bytes)) (Ok (own, behind)) h) [
  | inl w ↦ absurd (search (w.1, rules))
  | inr w ↦ grind (arith, nat_tests, w.0)
]

pub record MomentTaken (bytes : List ℕ) (x : ℤ × List ℕ) : Type 0 where
  pub valid : IsMoment x.0
  pub is : bytes ≡ time_bytes x.0 ++ x.1
  pub fits : IsBytes x.1

pub instant_takes : (bytes : List ℕ) (t : ℤ) → IsBytes bytes → length bytes ≡ 12 → instant_in bytes ≡ Some t → IsMoment t × (bytes ≡ time_bytes t)
instant_takes bytes t fit long h =
    let k = time_takes bytes (v.Time t) fit long (value_of bytes ∙ ap (option_map v.Time) h) in
    let same : t ≡ k.nanos = search (k.is, rules) in
    subst (λ u. IsMoment u × (bytes ≡ time_bytes u)) (sym same) (k.valid, k.spelled)

found_is : {X : Type 0} (left : ℕ) (found : Option X) (x : X) → found_or left found ≡ Ok x → found ≡ Some x
found_is left None x h = absurd (search (h, rules))
found_is left (Some y) x h = ap Some (ok_is y x h)

pub moment_takes : (bytes : List ℕ) (x : ℤ × List ℕ) → IsBytes bytes → moment_at bytes ≡ Ok x → MomentTaken bytes x
moment_takes bytes x fit h =
    let b = bind_ok (front_at 12 bytes) (λ y. (found_or (length bytes) (instant_in y.0) >>= λ t. Ok (t, y.1))) x h in
    let f = front_takes 12 bytes b.0 fit b.1 in
    let c = bind_ok (found_or (length bytes) (instant_in b.0.0)) (λ t. Ok (t, b.0.1)) x b.2 in
    let k = instant_takes b.0.0 c.0 f.0.front_fits f.1 (found_is (length bytes) (instant_in b.0.0) c.0 c.1) in
    subst (MomentTaken bytes) (ok_is (c.0, b.0.1) x c.2) (record { valid = k.0; is = f.0.is ∙ ap (λ l. l ++ b.0.1) k.1; fits = f.0.fits })

-- ---- events

pub event_taken : (bytes : List ℕ) (e : Ev) → IsWhole e → event_spelling e ≡ bytes → length bytes ≤ 16777216 → short_event_at bytes ≡ Ok e
event_taken bytes e is spelled short = let t : nat_lt 16777216 (length bytes) ≡ false = grind (arith, nat_tests, short) in rw t (ap event_at (sym spelled) ∙ event_again e is)

record EventTaken (bytes : List ℕ) (e : Ev) : Type 0 where
  whole : IsWhole e
  short : length (event_spelling e) ≤ 16777216
  is : bytes ≡ event_spelling e

event_takes : (bytes : List ℕ) (e : Ev) → IsBytes bytes → short_event_at bytes ≡ Ok e → EventTaken bytes e
event_takes bytes e fit h = elim (chosen (nat_lt 16777216 (length bytes)) (Err (length bytes - 16777216)) (event_at bytes) (Ok e) h) [
  | inl w ↦ absurd (search (w.1, rules))
  | inr w ↦
      let s = event_sound bytes e fit w.1 in
      let few : length bytes ≤ 16777216 = grind (arith, nat_tests, w.0) in
      record { whole = s.0; short = omega (arith, few, ap length s.1); is = sym s.1 }
]

-- where reading stops, a place is refused
pub record Stopped (bytes : List ℕ) (left : ℕ) : Type 0 where
  pub at : ℕ
  pub sum : at + left ≡ length bytes
  pub is : IsRefusedAt bytes at

pub event_refuses : (bytes : List ℕ) (left : ℕ) → IsBytes bytes → short_event_at bytes ≡ Err left → Stopped bytes left
event_refuses bytes left fit h = elim (chosen (nat_lt 16777216 (length bytes)) (Err (length bytes - 16777216)) (event_at bytes) (Err left) h) [
  | inl w ↦
      let more : 16777216 < length bytes = grind (arith, nat_tests, w.0) in
      let all : length bytes - 16777216 ≡ left = search (w.1, rules) in
      record { at = 16777216; sum = omega (arith, more, all); is = too_long more refl }
  | inr w ↦
      let short : length bytes ≤ 16777216 = grind (arith, nat_tests, w.0) in
      let e = event_stops bytes left fit short w.1 in
      record { at = e.at; sum = e.sum; is = e.is }
]

-- what is refused at a place isn't read, and stops there
pub event_stopped : (bytes : List ℕ) (at : ℕ) → IsBytes bytes → IsRefusedAt bytes at → (at ≤ length bytes) × (short_event_at bytes ≡ Err (length bytes - at))
event_stopped bytes at fit refused = by_read (short_event_at bytes) refl
  where
    by_read : (read : Result Ev ℕ) → short_event_at bytes ≡ read → (at ≤ length bytes) × (short_event_at bytes ≡ Err (length bytes - at))
    by_read (Ok e) h =
        let t = event_takes bytes e fit h in
        absurd (spelled_at_none bytes at e t.whole (sym t.is) (omega (arith, t.short, ap length t.is)) refused)
    by_read (Err left) h =
        let s = event_refuses bytes left fit h in
        let same = one_place bytes at s.at refused s.is in
        let all : left ≡ length bytes - at = omega (arith, same, s.sum) in
        (omega (arith, same, s.sum), h ∙ ap (λ n. Err n) all)

-- ---- letters

pub letter_again : (l : DeadLetter) → IsLetter l → length (letter_body l) < 2 ^ 32 → letter_at (letter_body l) ≡ Ok l
unfolding letter_at letter_body
letter_again l is short =
    let event = event_spelling l.event in
    let moment = time_bytes l.moment ++ event in
    let reason = run_bytes l.reason ++ moment in
    let id = run_bytes l.id ++ reason in
    let one = length-append (run_bytes l.kind) id in
    let two = length-append (run_bytes l.id) reason in
    let three = length-append (run_bytes l.reason) moment in
    let a = text_again l.kind id is.kind (omega (arith, short, one, length-run_bytes l.kind)) in
    let b = text_again l.id reason is.id (omega (arith, short, one, two, length-run_bytes l.id)) in
    let c = text_again l.reason moment is.reason (omega (arith, short, one, two, three, length-run_bytes l.reason)) in
    rw (a, b, c, moment_again l.moment event is.moment, event_taken event l.event is.event refl is.event_short) refl

pub letter_takes : (bytes : List ℕ) (l : DeadLetter) → IsBytes bytes → letter_at bytes ≡ Ok l → IsLetter l × (letter_body l ≡ bytes)
unfolding letter_at letter_body
letter_takes bytes l fit h =
    let a = bind_ok (text_at bytes) _ l h in
    let kind = text_takes bytes a.0 fit a.1 in
    let b = bind_ok (text_at a.0.1) _ l a.2 in
    let id = text_takes a.0.1 b.0 kind.fits b.1 in
    let c = bind_ok (text_at b.0.1) _ l b.2 in
    let reason = text_takes b.0.1 c.0 id.fits c.1 in
    let d = bind_ok (moment_at c.0.1) _ l c.2 in
    let moment = moment_takes c.0.1 d.0 reason.fits d.1 in
    let e = bind_ok (short_event_at d.0.1) _ l d.2 in
    let event = event_takes d.0.1 e.0 moment.fits e.1 in
    let found = letter a.0.0 b.0.0 c.0.0 d.0.0 e.0 in
    let four : time_bytes d.0.0 ++ event_spelling e.0 ≡ c.0.1 = ap (λ x. time_bytes d.0.0 ++ x) (sym event.is) ∙ sym moment.is in
    let three : run_bytes c.0.0 ++ (time_bytes d.0.0 ++ event_spelling e.0) ≡ b.0.1 = ap (λ x. run_bytes c.0.0 ++ x) four ∙ sym reason.is in
    let two : run_bytes b.0.0 ++ (run_bytes c.0.0 ++ (time_bytes d.0.0 ++ event_spelling e.0)) ≡ a.0.1 = ap (λ x. run_bytes b.0.0 ++ x) three ∙ sym id.is in
    let one : letter_body found ≡ bytes = ap (λ x. run_bytes a.0.0 ++ x) two ∙ sym kind.is in
    let valid : IsLetter found = record { kind = kind.utf8; id = id.utf8; reason = reason.utf8; moment = moment.valid; event = event.whole; event_short = event.short } in
    subst (λ x. IsLetter x × (letter_body x ≡ bytes)) (ok_is found l e.2) (valid, one)

-- what is read of a text, or where it stops, is within the bytes
left_within : (bytes : List ℕ) (left : ℕ) → text_at bytes ≡ Err left → left ≤ length bytes
left_within bytes left h = elim (bind_err (run_at bytes) (λ y. (if is_utf8 y.0 then Ok y else Err (length bytes - 4))) left h) [
  | inl w ↦ elim (bind_err (front_at 4 bytes >>= λ x. Ok (big_number 4 x.0, x.1)) (λ n. front_at n.0 n.1) left w) [
    | inl u ↦ elim (bind_err (front_at 4 bytes) (λ x. Ok (big_number 4 x.0, x.1)) left u) [
      | inl t ↦ omega (arith, (front_err 4 bytes left t).1)
      | inr t ↦ absurd (search (t.2, rules))
    ]
    | inr u ↦ omega (arith, (front_err u.0.0 u.0.1 left u.2).1)
  ]
  | inr w ↦ elim (chosen (is_utf8 w.0.0) (Ok w.0) (Err (length bytes - 4)) (Err left) w.2) [
    | inl u ↦ absurd (search (u.1, rules))
    | inr u ↦ let all : length bytes - 4 ≡ left = search (u.1, rules) in omega (arith, all)
  ]
]

moment_within : (bytes : List ℕ) (left : ℕ) → moment_at bytes ≡ Err left → left ≤ length bytes
moment_within bytes left h = elim (bind_err (front_at 12 bytes) (λ y. (found_or (length bytes) (instant_in y.0) >>= λ t. Ok (t, y.1))) left h) [
  | inl w ↦ omega (arith, (front_err 12 bytes left w).1)
  | inr w ↦ by_found (instant_in w.0.0) w.0.1 w.2
]
  where
    by_found : (found : Option ℤ) (rest : List ℕ) → ◌>>=◌ {B = ℤ × List ℕ} (found_or (length bytes) found) (λ t. Ok (t, rest)) ≡ Err left → left ≤ length bytes
    by_found None rest e = let all : length bytes ≡ left = search (e, rules) in omega (arith, all)
    by_found (Some t) rest e = absurd (search (e, rules))

pub letter_left : (bytes : List ℕ) (left : ℕ) → IsBytes bytes → letter_at bytes ≡ Err left → left ≤ length bytes
unfolding letter_at
letter_left bytes left fit h = elim (bind_err (text_at bytes) _ left h) [
  | inl w ↦ left_within bytes left w
  | inr a ↦
      let kind = text_takes bytes a.0 fit a.1 in
      let one = length-append (run_bytes a.0.0) a.0.1 in
      elim (bind_err (text_at a.0.1) _ left a.2) [
        | inl w ↦ omega (arith, left_within a.0.1 left w, one, ap length kind.is)
        | inr b ↦
            let id = text_takes a.0.1 b.0 kind.fits b.1 in
            let two = length-append (run_bytes b.0.0) b.0.1 in
            elim (bind_err (text_at b.0.1) _ left b.2) [
              | inl w ↦ omega (arith, left_within b.0.1 left w, one, two, ap length kind.is, ap length id.is)
              | inr c ↦
                  let reason = text_takes b.0.1 c.0 id.fits c.1 in
                  let three = length-append (run_bytes c.0.0) c.0.1 in
                  elim (bind_err (moment_at c.0.1) _ left c.2) [
                    | inl w ↦ omega (arith, moment_within c.0.1 left w, one, two, three, ap length kind.is, ap length id.is, ap length reason.is)
                    | inr d ↦
                        let moment = moment_takes c.0.1 d.0 reason.fits d.1 in
                        let four = length-append (time_bytes d.0.0) d.0.1 in
                        elim (bind_err (short_event_at d.0.1) _ left d.2) [
                          | inl w ↦ omega (arith, (event_refuses d.0.1 left moment.fits w).sum, one, two, three, four, ap length kind.is, ap length id.is, ap length reason.is, ap length moment.is)
                          | inr e ↦ absurd (search (e.2, rules))
                        ]
                  ]
            ]
      ]
]
