-- Where reading a letter stops, as a place in its bytes.
use Rattle.std.proofs.Common.{◌≡◌, inl, inr, ℕ, ℤ, ◌+◌, ◌-◌, ◌<◌, ◌≤◌, ◌^◌, nat_lt, true, false, List, [], ◌∷◌, ◌++◌, length, take, drop, Option, Some, None, if◌then◌else◌, Result, Ok, Err, refl, sym, ap, subst, ◌∙◌, arith, rules, append_assoc, length-append, length-take}
use Rattle.std.specs.Str.{IsUtf8, is_utf8}
use Rattle.std.proofs.Math.Seq.{drop-append_seam}
use Rattle.std.proofs.lemmas.List.{append-nil}
use Rattle.std.proofs.lemmas.Str.{is_utf8-from_IsUtf8}
use Rattle.std.proofs.lemmas.Bool.Decides.{nat_tests}
use Rattle.crc_frame.specs.Bytes.{IsBytes}
use Rattle.crc_frame.proofs.Numbers.{IsBytes-take, IsBytes-drop}
use Rattle.plain_data.specs.Calendar.{IsMoment}
use Rattle.crc_frame.specs.Fronts.{◌>>=◌, Reads, front_at, run_at, count_bytes, run_bytes, EndIn}
use Rattle.crc_frame.proofs.Fronts.{chosen, ok_is, run_bytes_again, run_takes, front_takes}
use Rattle.crc_frame.proofs.Cuts.{bind_err, front_err, run_cut}
use Rattle.element_code.specs.Parts.{time_bytes}
use Rattle.element_code.specs.Faults.{IsRefusedAt}
use Rattle.element_code.specs.RowBodies.{short_event_at}
use Rattle.element_code.proofs.RowReads.{utf8_false}
use Rattle.dead_letters.specs.Letters.{letter}
use Rattle.dead_letters.specs.Records.{text_at, instant_in, found_or, moment_at, letter_at}
use Rattle.dead_letters.specs.Places.{IsTextRefusedAt, cut_text, no_text, IsMomentRefusedAt, cut_moment, no_moment, InOrder, here, after, AreText, AreMoment, IsLetterRefusedAt, PlacesAreExact}
use Rattle.dead_letters.specs.declared.letter.DeadLetter.{DeadLetter}
use Rattle.dead_letters.proofs.LetterReads.{length-run_bytes, text_refused, text_again, text_takes, moment_again, moment_takes, moment_missed, instant_again, instant_takes, event_refuses, event_stopped}

-- where something stops that is refused there
record StopsAt (Refused : List ℕ → ℕ → Type 0) (bytes : List ℕ) (left : ℕ) : Type 0 where
  at : ℕ
  sum : at + left ≡ length bytes
  is : Refused bytes at

-- what is refused at a place stops there
abbrev Stopped : {X : Type 0} → (List ℕ → Result X ℕ) → (List ℕ → ℕ → Type 0) → Type 0
Stopped read Refused = (bytes : List ℕ) (at : ℕ) → IsBytes bytes → Refused bytes at → (at ≤ length bytes) × (read bytes ≡ Err (length bytes - at))

-- and what stops is refused at the place
abbrev Stops : {X : Type 0} → (List ℕ → Result X ℕ) → (List ℕ → ℕ → Type 0) → Type 0
Stops read Refused = (bytes : List ℕ) (left : ℕ) → IsBytes bytes → read bytes ≡ Err left → StopsAt Refused bytes left

-- ---- texts

text_stops : Stops text_at IsTextRefusedAt
text_stops bytes left fit h = elim (bind_err (run_at bytes) (λ x. (if is_utf8 x.0 then Ok x else Err (length bytes - 4))) left h) [
  | inl w ↦
      let c = run_cut bytes left fit w in
      record { at = length bytes; sum = omega (arith, c.0); is = cut_text c.1.0 c.1.1 c.1.2 refl }
  | inr w ↦
      let x = w.0 in
      let r = run_takes bytes x fit w.1 in
      elim (chosen (is_utf8 x.0) (Ok x) (Err (length bytes - 4)) (Err left) w.2) [
        | inl u ↦ absurd (search (u.1, rules))
        | inr u ↦
            let all : length bytes - 4 ≡ left = search (u.1, rules) in
            let is : bytes ≡ run_bytes x.0 ++ x.1 = r.is ∙ sym (append_assoc (count_bytes (length x.0)) x.0 x.1) in
            let refused : IsUtf8 x.0 → ⊥ = λ utf8. search (sym u.0 ∙ is_utf8-from_IsUtf8 x.0 utf8, rules) in
            record { at = 4; sum = omega (arith, all, ap length is, length-append (run_bytes x.0) x.1, length-run_bytes x.0); is = no_text x.0 x.1 r.short is refused refl }
      ]
]

-- bytes that end within a run aren't one
within : (bytes other : List ℕ) → length other < 2 ^ 32 → EndIn (run_bytes other) bytes → (x : List ℕ × List ℕ) → IsBytes bytes → run_at bytes ≡ Ok x → ⊥
within bytes other short ends x fit h =
    let r = run_takes bytes x fit h in
    let more = ends.0 ∷ ends.1 in
    let is : bytes ≡ run_bytes x.0 ++ x.1 = r.is ∙ sym (append_assoc (count_bytes (length x.0)) x.0 x.1) in
    let whole : run_bytes x.0 ++ (x.1 ++ more) ≡ run_bytes other ++ [] = sym (append_assoc (run_bytes x.0) x.1 more) ∙ ap (λ l. l ++ more) (sym is) ∙ ends.2 ∙ sym (append-nil (run_bytes other)) in
    let same : (x.0, x.1 ++ more) ≡ (other, []) = ok_is _ _ (sym (run_bytes_again x.0 (x.1 ++ more) r.short) ∙ ap run_at whole ∙ run_bytes_again other [] short) in
    omega (arith, ap (λ p. length p.1) same, length-append x.1 more)

text_cut_by : (bytes other : List ℕ) (at : ℕ) → IsBytes bytes → length other < 2 ^ 32 → EndIn (run_bytes other) bytes → at ≡ length bytes
    → (read : Result (List ℕ × List ℕ) ℕ) → run_at bytes ≡ read → (at ≤ length bytes) × (text_at bytes ≡ Err (length bytes - at))
text_cut_by bytes other at fit short ends e (Ok x) h = absurd (within bytes other short ends x fit h)
text_cut_by bytes other at fit short ends e (Err left) h =
    let none = (run_cut bytes left fit h).0 in
    let all : left ≡ length bytes - at = omega (arith, e, none) in
    (omega (arith, e), ap (λ r. r >>= λ x. (if is_utf8 x.0 then Ok x else Err (length bytes - 4))) h ∙ ap (λ n. Err n) all)

text_stopped : Stopped text_at IsTextRefusedAt
text_stopped bytes at fit (cut_text other short ends e) = text_cut_by bytes other at fit short ends e (run_at bytes) refl
text_stopped bytes at fit (no_text own rest short is is_not e) =
    let read : run_at bytes ≡ Ok (own, rest) = ap run_at is ∙ run_bytes_again own rest short in
    let all : length bytes - 4 ≡ length bytes - at = omega (arith, e) in
    (omega (arith, e, ap length is, length-append (run_bytes own) rest, length-run_bytes own), text_refused bytes own rest read (utf8_false own is_not) ∙ ap (λ n. Err n) all)

-- ---- moments

front_is : (bytes : List ℕ) → 12 ≤ length bytes → front_at 12 bytes ≡ Ok (take 12 bytes, drop 12 bytes)
front_is bytes long = let t : nat_lt (length bytes) 12 ≡ false = grind (arith, nat_tests, long) in rw t refl

none_found : (bytes : List ℕ) → IsBytes bytes → 12 ≤ length bytes → instant_in (take 12 bytes) ≡ None → (t : ℤ) → IsMoment t → time_bytes t ≡ take 12 bytes → ⊥
none_found bytes fit long none t is spelled = search (sym none ∙ ap instant_in (sym spelled) ∙ instant_again t is, rules)

moment_by : (bytes : List ℕ) (left : ℕ) → IsBytes bytes → 12 ≤ length bytes → (found : Option ℤ) → instant_in (take 12 bytes) ≡ found → (rest : List ℕ)
    → ◌>>=◌ {B = ℤ × List ℕ} (found_or (length bytes) found) (λ t. Ok (t, rest)) ≡ Err left → StopsAt IsMomentRefusedAt bytes left
moment_by bytes left fit long None none rest e = let all : length bytes ≡ left = search (e, rules) in record { at = 0; sum = omega (arith, all); is = no_moment long (none_found bytes fit long none) refl }
moment_by bytes left fit long (Some t) some rest e = absurd (search (e, rules))

moment_stops : Stops moment_at IsMomentRefusedAt
moment_stops bytes left fit h = elim (bind_err (front_at 12 bytes) (λ y. (found_or (length bytes) (instant_in y.0) >>= λ t. Ok (t, y.1))) left h) [
  | inl w ↦ let s = front_err 12 bytes left w in record { at = length bytes; sum = omega (arith, s.1); is = cut_moment s.0 refl }
  | inr w ↦
      let x = w.0 in
      let f = front_takes 12 bytes x fit w.1 in
      let long : 12 ≤ length bytes = omega (arith, f.1, ap length f.0.is, length-append x.0 x.1) in
      let front : take 12 bytes ≡ x.0 = ap (λ (y : List ℕ × List ℕ). y.0) (ok_is (take 12 bytes, drop 12 bytes) x (sym (front_is bytes long) ∙ w.1)) in
      moment_by bytes left fit long (instant_in x.0) (ap instant_in front) x.1 w.2
]

moment_found_by : (bytes : List ℕ) (at : ℕ) → IsBytes bytes → 12 ≤ length bytes → ((t : ℤ) → IsMoment t → time_bytes t ≡ take 12 bytes → ⊥) → at ≡ 0
    → (found : Option ℤ) → instant_in (take 12 bytes) ≡ found → (at ≤ length bytes) × (moment_at bytes ≡ Err (length bytes - at))
moment_found_by bytes at fit long never e None none =
    let all : length bytes ≡ length bytes - at = omega (arith, e) in
    (omega (arith, e), moment_missed bytes (take 12 bytes) (drop 12 bytes) (front_is bytes long) none ∙ ap (λ n. Err n) all)
moment_found_by bytes at fit long never e (Some t) some =
    let k = instant_takes (take 12 bytes) t (IsBytes-take 12 bytes fit) (omega (arith, long, length-take 12 bytes)) some in
    absurd (never t k.0 (sym k.1))

moment_stopped : Stopped moment_at IsMomentRefusedAt
moment_stopped bytes at fit (cut_moment few e) =
    let t : nat_lt (length bytes) 12 ≡ true = grind (arith, nat_tests, few) in
    let none : 0 ≡ length bytes - at = omega (arith, e) in
    (omega (arith, e), rw t (ap (λ n. Err n) none))
moment_stopped bytes at fit (no_moment long never e) = moment_found_by bytes at fit long never e (instant_in (take 12 bytes)) refl

-- ---- one behind the other

module _ {X Y : Type 0} (read : Reads X) (rest : X → List ℕ → Result Y ℕ) (Is : List ℕ → Type 0) (First Rest : List ℕ → ℕ → Type 0) where
  abbrev both : List ℕ → Result Y ℕ
  both bytes = read bytes >>= λ x. rest x.0 x.1

  record Front (bytes : List ℕ) (x : X × List ℕ) : Type 0 where
    front : List ℕ
    is : Is front
    parts : bytes ≡ front ++ x.1
    fits : IsBytes x.1

  both_stop : Stops read First → ((bytes : List ℕ) (x : X × List ℕ) → IsBytes bytes → read bytes ≡ Ok x → Front bytes x) → ((x : X) → Stops (rest x) Rest) → Stops both (InOrder Is First Rest)
  both_stop firsts takes rests bytes left fit h = elim (bind_err (read bytes) (λ x. rest x.0 x.1) left h) [
    | inl w ↦ let s = firsts bytes left fit w in record { at = s.at; sum = s.sum; is = here s.is }
    | inr w ↦
        let f = takes bytes w.0 fit w.1 in
        let s = rests w.0.0 w.0.1 left f.fits w.2 in
        record { at = length f.front + s.at; sum = omega (arith, s.sum, ap length f.parts, length-append f.front w.0.1); is = after f.front w.0.1 s.at f.is f.parts s.is refl }
  ]

  both_stopped : Stopped read First → ((front more : List ℕ) → Is front → (x : X) × (read (front ++ more) ≡ Ok (x, more))) → ((x : X) → Stopped (rest x) Rest) → Stopped both (InOrder Is First Rest)
  both_stopped firsts again rests bytes at fit (here is) = let s = firsts bytes at fit is in (s.0, ap (λ r. r >>= λ x. rest x.0 x.1) s.1)
  both_stopped firsts again rests bytes at fit (after front more inner is parts refused e) =
      let x = again front more is in
      let fits : IsBytes more = subst IsBytes (ap (drop (length front)) parts ∙ drop-append_seam front more) (IsBytes-drop (length front) bytes fit) in
      let s = rests x.0 more inner fits refused in
      let size : length bytes ≡ length front + length more = ap length parts ∙ length-append front more in
      let all : length more - inner ≡ length bytes - at = omega (arith, e, size) in
      (omega (arith, e, size, s.0), ap (λ r. r >>= λ y. rest y.0 y.1) (ap read parts ∙ x.1) ∙ s.1 ∙ ap (λ n. Err n) all)

-- ---- a letter, from its end on

event_stops : Stops short_event_at IsRefusedAt
event_stops bytes left fit h = let s = event_refuses bytes left fit h in record { at = s.at; sum = s.sum; is = s.is }

event_is_stopped : Stopped short_event_at IsRefusedAt
event_is_stopped bytes at fit refused = event_stopped bytes at fit refused

-- what ends a letter
ends_stop : {X Y : Type 0} (read : List ℕ → Result X ℕ) (make : X → Y) (Refused : List ℕ → ℕ → Type 0) → Stops read Refused → Stops (λ bytes. read bytes >>= λ x. Ok (make x)) Refused
ends_stop read make Refused stops bytes left fit h = elim (bind_err (read bytes) (λ x. Ok (make x)) left h) [
  | inl w ↦ stops bytes left fit w
  | inr w ↦ absurd (search (w.2, rules))
]

ends_stopped : {X Y : Type 0} (read : List ℕ → Result X ℕ) (make : X → Y) (Refused : List ℕ → ℕ → Type 0) → Stopped read Refused → Stopped (λ bytes. read bytes >>= λ x. Ok (make x)) Refused
ends_stopped read make Refused stopped bytes at fit refused = let s = stopped bytes at fit refused in (s.0, ap (λ r. r >>= λ x. Ok (make x)) s.1)

abbrev AtMoment : List ℕ → ℕ → Type 0
AtMoment = InOrder AreMoment IsMomentRefusedAt IsRefusedAt

module _ (kind id reason : List ℕ) where
  abbrev from_event : ℤ → List ℕ → Result DeadLetter ℕ
  from_event moment bytes = short_event_at bytes >>= λ event. Ok (letter kind id reason moment event)

  abbrev from_moment : List ℕ → Result DeadLetter ℕ
  from_moment bytes = moment_at bytes >>= λ moment. from_event moment.0 moment.1

  moment_front : (bytes : List ℕ) (x : ℤ × List ℕ) → IsBytes bytes → moment_at bytes ≡ Ok x → Front moment_at from_event AreMoment IsMomentRefusedAt IsRefusedAt bytes x
  moment_front bytes x fit h = let t = moment_takes bytes x fit h in record { front = time_bytes x.0; is = (x.0, t.valid, refl); parts = t.is; fits = t.fits }

  moment_read : (front more : List ℕ) → AreMoment front → (x : ℤ) × (moment_at (front ++ more) ≡ Ok (x, more))
  moment_read front more are = (are.0, ap (λ l. moment_at (l ++ more)) are.2 ∙ moment_again are.0 more are.1)

  moments_stop : Stops from_moment AtMoment
  moments_stop = both_stop moment_at from_event AreMoment IsMomentRefusedAt IsRefusedAt moment_stops moment_front (λ t. ends_stop short_event_at (letter kind id reason t) IsRefusedAt event_stops)

  moments_stopped : Stopped from_moment AtMoment
  moments_stopped = both_stopped moment_at from_event AreMoment IsMomentRefusedAt IsRefusedAt moment_stopped moment_read (λ t. ends_stopped short_event_at (letter kind id reason t) IsRefusedAt event_is_stopped)

-- a text in front of what is read behind it
module _ {Y : Type 0} (rest : List ℕ → List ℕ → Result Y ℕ) (Rest : List ℕ → ℕ → Type 0) where
  text_front : (bytes : List ℕ) (x : List ℕ × List ℕ) → IsBytes bytes → text_at bytes ≡ Ok x → Front text_at rest AreText IsTextRefusedAt Rest bytes x
  text_front bytes x fit h = let t = text_takes bytes x fit h in record { front = run_bytes x.0; is = (x.0, t.utf8, t.short, refl); parts = t.is; fits = t.fits }

  text_read : (front more : List ℕ) → AreText front → (x : List ℕ) × (text_at (front ++ more) ≡ Ok (x, more))
  text_read front more are = (are.0, ap (λ l. text_at (l ++ more)) are.3 ∙ text_again are.0 more are.1 are.2)

  texts_stop : ((x : List ℕ) → Stops (rest x) Rest) → Stops (λ bytes. text_at bytes >>= λ x. rest x.0 x.1) (InOrder AreText IsTextRefusedAt Rest)
  texts_stop rests = both_stop text_at rest AreText IsTextRefusedAt Rest text_stops text_front rests

  texts_stopped : ((x : List ℕ) → Stopped (rest x) Rest) → Stopped (λ bytes. text_at bytes >>= λ x. rest x.0 x.1) (InOrder AreText IsTextRefusedAt Rest)
  texts_stopped rests = both_stopped text_at rest AreText IsTextRefusedAt Rest text_stopped text_read rests

abbrev AtReason : List ℕ → ℕ → Type 0
AtReason = InOrder AreText IsTextRefusedAt AtMoment

abbrev AtId : List ℕ → ℕ → Type 0
AtId = InOrder AreText IsTextRefusedAt AtReason

abbrev from_reason : List ℕ → List ℕ → List ℕ → Result DeadLetter ℕ
from_reason kind id bytes = text_at bytes >>= λ reason. from_moment kind id reason.0 reason.1

abbrev from_id : List ℕ → List ℕ → Result DeadLetter ℕ
from_id kind bytes = text_at bytes >>= λ id. from_reason kind id.0 id.1

letters_stop : Stops letter_at IsLetterRefusedAt
unfolding letter_at
letters_stop = texts_stop from_id AtId (λ kind. texts_stop (from_reason kind) AtReason (λ id. texts_stop (from_moment kind id) AtMoment (λ reason. moments_stop kind id reason)))

letters_stopped : Stopped letter_at IsLetterRefusedAt
unfolding letter_at
letters_stopped = texts_stopped from_id AtId (λ kind. texts_stopped (from_reason kind) AtReason (λ id. texts_stopped (from_moment kind id) AtMoment (λ reason. moments_stopped kind id reason)))

pub places_are_exact : PlacesAreExact
places_are_exact bytes at fit = (
  (λ refused. letters_stopped bytes at fit refused),
  (λ stops.
      let s = letters_stop bytes (length bytes - at) fit stops.1 in
      let same : s.at ≡ at = omega (arith, s.sum, stops.0) in
      subst (IsLetterRefusedAt bytes) same s.is),
)
