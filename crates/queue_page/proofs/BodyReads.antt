-- What the body of a row says, by what `decode` and `decode_row` answer.
use Rattle.std.specs.Prelude.{IfSome}
use Rattle.std.proofs.Common.{◌≡◌, ◌≢◌, ◌↔◌, ◌⊎◌, inl, inr, ℕ, ◌-◌, ◌≤◌, ◌==◌, nat_lt, true, false, List, length, Option, Some, None, Result, Ok, Err, refl, sym, ap, ◌∙◌, subst, arith}
use Rattle.std.proofs.lemmas.Bool.{cond-true, cond-false, cases_lt, eq-eqb}
use Rattle.std.proofs.lemmas.Bool.Decides.{nat_tests}
use Rattle.crc_frame.specs.Bytes.{IsBytes}
use Rattle.event_tree.specs.Events.{Ev}
use Rattle.crc_frame.specs.Fronts.{◌>>=◌}
use Rattle.crc_frame.proofs.Fronts.{chosen}
use Rattle.element_code.specs.Parts.{event_spelling}
use Rattle.element_code.specs.Values.{IsWhole}
use Rattle.element_code.specs.Reading.{event_at}
use Rattle.element_code.specs.Faults.{IsRefusedAt, long}
use Rattle.element_code.specs.RowBodies.{RowBody, SpellsRow, IsRowRefusedAt, short_event_at, row_at}
use Rattle.element_code.specs.declared.row.Origin.{Origin}
use Rattle.element_code.specs.declared.row.Origin.TheVariants.{Unknown, Id}
use Rattle.element_code.specs.declared.row.Row.{Row}
use Rattle.element_code.proofs.Again.{event_again}
use Rattle.element_code.proofs.Sound.{event_sound}
use Rattle.element_code.proofs.EventPlaces.{event_stops}
use Rattle.element_code.proofs.OnePlace.{one_place, spelled_at_none}
use Rattle.element_code.proofs.RowReads.{row_again, row_sound, row_stops, one_row_place, row_body_at_none}
use Rattle.element_code.specs.Gives.{IsAt, SpellsEvent}
use Rattle.element_code.specs.declared.fault.ElementFault.{ElementFault}
use Rattle.element_code.specs.declared.fault.ElementFault.TheVariants.{At}
use Rattle.element_code.specs.declared.fault.ElementFault.TheVariants.{Memory as NoMemory}
use Rattle.queue_page.specs.Answers.{TellsBody, StopsBody}
use Rattle.queue_page.specs.Bodies.{IsEventBody, IsBody, body_at}

-- what is refused is refused there
abbrev RefusedThere : {X : Type 0} → List ℕ → ℕ → Result X ℕ → Type 0
RefusedThere bytes at read = (at ≤ length bytes) × (read ≡ Err (length bytes - at))

alone : List ℕ → Result Ev ℕ → Result (Origin × Ev) ℕ
alone bytes read = read >>= λ event. Ok (Unknown, event)

named : Result Row ℕ → Result (Origin × Ev) ℕ
named read = read >>= λ row. Ok (Id row.origin, row.event)

one_is : (version : ℕ) (bytes : List ℕ) → version ≡ 1 → body_at version bytes ≡ alone bytes (short_event_at bytes)
unfolding body_at alone
one_is version bytes is = cond-true (version == 1) _ _ (eq-eqb version 1 is)

two_is : (version : ℕ) (bytes : List ℕ) → version ≢ 1 → body_at version bytes ≡ named (row_at bytes)
unfolding body_at named
two_is version bytes is_not = let other : (version == 1) ≡ false = grind (arith, nat_tests, is_not) in cond-false (version == 1) _ _ other

-- ---- events alone

short_is : (bytes : List ℕ) → length bytes ≤ 16777216 → short_event_at bytes ≡ event_at bytes
short_is bytes short = let t : nat_lt 16777216 (length bytes) ≡ false = grind (arith, nat_tests, short) in cond-false _ _ _ t

pub event_said : (version : ℕ) (bytes : List ℕ) (e : Ev) → version ≡ 1 → IsWhole e → event_spelling e ≡ bytes → length bytes ≤ 16777216 → body_at version bytes ≡ Ok (Unknown, e)
unfolding alone
event_said version bytes e is whole spelled short =
    one_is version bytes is ∙ ap (alone bytes) (short_is bytes short ∙ ap event_at (sym spelled) ∙ event_again e whole)

by_read : (bytes : List ℕ) (at : ℕ) → IsBytes bytes → length bytes ≤ 16777216 → IsRefusedAt bytes at → (read : Result Ev ℕ) → event_at bytes ≡ read → RefusedThere bytes at (event_at bytes)
by_read bytes at fit short refused (Ok e) is = let s = event_sound bytes e fit is in absurd (spelled_at_none bytes at e s.0 s.1 short refused)
by_read bytes at fit short refused (Err left) is =
    let s = event_stops bytes left fit short is in
    let same = one_place bytes s.at at s.is refused in
    let there : left ≡ length bytes - at = omega (arith, s.sum, same) in
    (omega (arith, s.sum, same), is ∙ ap Err there)

short_refused : (bytes : List ℕ) (at : ℕ) → IsBytes bytes → IsRefusedAt bytes at → RefusedThere bytes at (short_event_at bytes)
short_refused bytes at fit refused = elim (cases_lt 16777216 (length bytes)) [
  | inl more ↦
      let t : nat_lt 16777216 (length bytes) ≡ true = grind (arith, nat_tests, more) in
      let same : 16777216 ≡ at = one_place bytes 16777216 at (long more refl) refused in
      (omega (arith, same, more), cond-true _ _ _ t ∙ ap (λ (n : ℕ). Err (length bytes - n)) same)
  | inr short ↦ let r = by_read bytes at fit short refused (event_at bytes) refl in (r.0, short_is bytes short ∙ r.1)
]

pub event_refused : (version : ℕ) (bytes : List ℕ) (at : ℕ) → version ≡ 1 → IsBytes bytes → IsRefusedAt bytes at → RefusedThere bytes at (body_at version bytes)
unfolding alone
event_refused version bytes at is fit refused = let r = short_refused bytes at fit refused in (r.0, one_is version bytes is ∙ ap (alone bytes) r.1)

-- ---- events behind their origins

pub row_said : (version : ℕ) (bytes origin : List ℕ) (e : Ev) → version ≢ 1 → RowBody bytes origin e → body_at version bytes ≡ Ok (Id origin, e)
unfolding named
row_said version bytes origin e is body = two_is version bytes is ∙ ap named (row_again bytes origin e body)

row_by_read : (bytes : List ℕ) (at : ℕ) → IsBytes bytes → IsRowRefusedAt bytes at → (read : Result Row ℕ) → row_at bytes ≡ read → RefusedThere bytes at (row_at bytes)
row_by_read bytes at fit refused (Ok r) is = absurd (row_body_at_none bytes at r.origin r.event (row_sound bytes r fit is) refused)
row_by_read bytes at fit refused (Err left) is =
    let s = row_stops bytes left fit is in
    let same = one_row_place bytes s.at at s.is refused in
    let there : left ≡ length bytes - at = omega (arith, s.sum, same) in
    (omega (arith, s.sum, same), is ∙ ap Err there)

pub row_refused : (version : ℕ) (bytes : List ℕ) (at : ℕ) → version ≢ 1 → IsBytes bytes → IsRowRefusedAt bytes at → RefusedThere bytes at (body_at version bytes)
unfolding named
row_refused version bytes at is fit refused = let r = row_by_read bytes at fit refused (row_at bytes) refl in (r.0, two_is version bytes is ∙ ap named r.1)

-- ---- as the code tells it

pub body_lost_event : (version : ℕ) (bytes : List ℕ) (fault : ElementFault) → version ≡ 1 → IsBytes bytes → IsAt {X = Ev} (Err fault) (IsRefusedAt bytes) → TellsBody {X = Origin × Ev} (length bytes) (Err fault) (body_at version bytes)
body_lost_event version bytes (At at) is fit refused = event_refused version bytes at is fit refused
body_lost_event version bytes NoMemory is fit refused = refused

pub body_lost_row : (version : ℕ) (bytes : List ℕ) (fault : ElementFault) → version ≢ 1 → IsBytes bytes → IsAt {X = Row} (Err fault) (IsRowRefusedAt bytes) → TellsBody {X = Origin × Ev} (length bytes) (Err fault) (body_at version bytes)
body_lost_row version bytes (At at) is fit refused = row_refused version bytes at is fit refused
body_lost_row version bytes NoMemory is fit refused = refused

-- a test of the bytes alone tells where they stop being one
pub event_stops_body : (version : ℕ) (bytes : List ℕ) (fault : Option ℕ) → version ≡ 1 → IsBytes bytes → fault ≡ None ↔ SpellsEvent bytes → IfSome fault (IsRefusedAt bytes) → StopsBody {X = Origin × Ev} (length bytes) fault (body_at version bytes)
event_stops_body version bytes None is fit none at = let s = none.0 refl in ((Unknown, s.0), event_said version bytes s.0 is s.1 s.2 s.3)
event_stops_body version bytes (Some place) is fit none at = event_refused version bytes place is fit at

pub row_stops_body : (version : ℕ) (bytes : List ℕ) (fault : Option ℕ) → version ≢ 1 → IsBytes bytes → fault ≡ None ↔ SpellsRow bytes → IfSome fault (IsRowRefusedAt bytes) → StopsBody {X = Origin × Ev} (length bytes) fault (body_at version bytes)
row_stops_body version bytes None is fit none at = let s = none.0 refl in ((Id s.0, s.1), row_said version bytes s.0 s.1 is s.2)
row_stops_body version bytes (Some place) is fit none at = row_refused version bytes place is fit at

-- ---- what is read is a body

abbrev said : Origin → Ev → Result (Origin × Ev) ℕ
said origin event = Ok (origin, event)

abbrev ok_event : Ev → Result Ev ℕ
ok_event e = Ok e

short_sound : (bytes : List ℕ) (e : Ev) → IsBytes bytes → short_event_at bytes ≡ Ok e → IsEventBody bytes e
short_sound bytes e fit h = elim (chosen (nat_lt 16777216 (length bytes)) (Err (length bytes - 16777216)) (event_at bytes) (Ok e) h) [
  | inl w ↦ let none : Err (length bytes - 16777216) ≡ ok_event e = w.1 in absurd cc
  | inr w ↦ let s = event_sound bytes e fit w.1 in record { is_event = s.0; short = grind (arith, nat_tests, w.0); spelled = s.1 }
]

alone_sound : (bytes : List ℕ) (origin : Origin) (event : Ev) → IsBytes bytes → (read : Result Ev ℕ) → short_event_at bytes ≡ read → alone bytes read ≡ said origin event → IsBody 1 bytes origin event
unfolding alone
alone_sound bytes origin event fit (Err left) is h = absurd cc
alone_sound bytes origin event fit (Ok e) is h =
    let same : (Unknown, e) ≡ (origin, event) = cc in
    subst (λ (x : Origin × Ev). IsBody 1 bytes x.0 x.1) same (refl, short_sound bytes e fit is)

named_sound : (bytes : List ℕ) (origin : Origin) (event : Ev) → IsBytes bytes → (read : Result Row ℕ) → row_at bytes ≡ read → named read ≡ said origin event → IsBody 2 bytes origin event
unfolding named
named_sound bytes origin event fit (Err left) is h = absurd cc
named_sound bytes origin event fit (Ok r) is h =
    let same : (Id r.origin, r.event) ≡ (origin, event) = cc in
    subst (λ (x : Origin × Ev). IsBody 2 bytes x.0 x.1) same (refl, row_sound bytes r fit is)

pub body_sound : (version : ℕ) (bytes : List ℕ) (origin : Origin) (event : Ev) → (version ≡ 1) ⊎ (version ≡ 2) → IsBytes bytes → body_at version bytes ≡ Ok (origin, event) → IsBody version bytes origin event
body_sound version bytes origin event (inl one) fit h =
    subst (λ v. IsBody v bytes origin event) (sym one) (alone_sound bytes origin event fit (short_event_at bytes) refl (sym (one_is version bytes one) ∙ h))
body_sound version bytes origin event (inr two) fit h =
    subst (λ v. IsBody v bytes origin event) (sym two) (named_sound bytes origin event fit (row_at bytes) refl (sym (two_is version bytes (λ one. omega (arith, one, two))) ∙ h))
