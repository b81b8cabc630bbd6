-- The elements of the grammar are what is read, and what is read is an element.
use Rattle.std.proofs.Common.{◌≡◌, inl, inr, ℕ, ◌+◌, ◌-◌, ◌≤◌, ◌<◌, ◌^◌, List, [], ◌++◌, length, take, drop, nat_eq, Some, None, Ok, refl, sym, ap, ◌∙◌, subst, arith, length-append, length-take, length-drop, append-nil}
use Rattle.std.proofs.lemmas.Bool.{eqb-true}
use Rattle.std.proofs.lemmas.List.{take_at, drop-take}
use Rattle.std.specs.List.{starts_with}
use Rattle.byteorder.specs.Endian.{big_number}
use Rattle.crc_frame.specs.Crc.{is_checked}
use Rattle.crc_frame.specs.Frames.{Element, covered, frame_of, unframed}
use Rattle.crc_frame.proofs.CrcLemmas.{is_checked-append}
use Rattle.crc_frame.proofs.FrameLemmas.{length-frame_of, unframed-frame_of}
use Rattle.event_tree.specs.Events.{Ev}
use Rattle.crc_frame.proofs.Fronts.{chosen}
use Rattle.element_code.specs.declared.row.Origin.{Origin}
use Rattle.element_code.specs.declared.row.Origin.TheVariants.{Unknown, Id}
use Rattle.queue_page.specs.Bodies.{IsBody, body_at}
use Rattle.queue_page.specs.Elements.{number_of, total_of, body_of, stored_crc, computed_crc, element_at, frame_at, row_by}
use Rattle.queue_page.specs.Grammar.{IsElement}
use Rattle.queue_page.specs.declared.row.PageRow.{PageRow}
use Rattle.queue_page.proofs.BodyReads.{event_said, row_said}
use Rattle.queue_page.proofs.ElementReads.{number_long, size_long, head_good, frame_good, element_is}

-- ---- bodies

pub body_again : (version : ℕ) (body : List ℕ) (origin : Origin) (event : Ev) → IsBody version body origin event → body_at version body ≡ Ok (origin, event)
body_again version body Unknown event is = event_said version body event is.0 is.1.is_event is.1.spelled is.1.short
body_again version body (Id id) event is = row_said version body id event (λ one. omega (arith, one, is.0)) is.1

-- ---- frames

-- what is read of bytes that a frame begins
record FrameParts (number : ℕ) (body bytes : List ℕ) : Type 0 where
  number_is : big_number 8 bytes ≡ number
  body_is : take (big_number 4 (drop 8 bytes)) (drop 12 bytes) ≡ body

abbrev an_element : ℕ → List ℕ → Element
an_element number body = record { number = number; body = body }

parts_of : (bytes : List ℕ) (number : ℕ) (body : List ℕ) → unframed bytes ≡ Some (an_element number body) → FrameParts number body bytes
unfolding unframed
parts_of bytes number body h =
    let n = big_number 8 bytes in
    let b = take (big_number 4 (drop 8 bytes)) (drop 12 bytes) in
    elim (chosen (starts_with nat_eq bytes (frame_of n b)) (Some (an_element n b)) None (Some (an_element number body)) h) [
      | inr w ↦ let none : None ≡ Some (an_element number body) = w.1 in absurd cc
      | inl w ↦
          let made : Some (an_element n b) ≡ Some (an_element number body) = w.1 in
          let same : an_element n b ≡ an_element number body = cc in
          record { number_is = ap (λ (e : Element). e.number) same; body_is = ap (λ (e : Element). e.body) same }
    ]

module _ (number : ℕ) (body : List ℕ) (number_fits : number < 2 ^ 64) (body_fits : length body < 2 ^ 32) where
  abbrev frame : List ℕ
  frame = frame_of number body

  long : length frame ≡ length body + 16
  long = length-frame_of number body

  frame_parts : (rest : List ℕ) → FrameParts number body (frame ++ rest)
  frame_parts rest = parts_of (frame ++ rest) number body (unframed-frame_of number body rest number_fits body_fits)

  size_is : (rest : List ℕ) → big_number 4 (drop 8 (frame ++ rest)) ≡ length body
  size_is rest =
      let bytes = frame ++ rest in
      omega (arith, ap length (frame_parts rest).body_is, length-take (big_number 4 (drop 8 bytes)) (drop 12 bytes), length-drop 12 bytes, length-append frame rest, long)

  pub frame_number : (rest : List ℕ) → number_of (frame ++ rest) ≡ number
  frame_number rest = sym (number_long (frame ++ rest) (omega (arith, length-append frame rest, long))) ∙ (frame_parts rest).number_is

  pub frame_total : (rest : List ℕ) → total_of (frame ++ rest) ≡ length frame
  frame_total rest = ap (λ n. n + 16) (sym (size_long (frame ++ rest) (omega (arith, length-append frame rest, long))) ∙ size_is rest) ∙ sym long

  frame_body : (bytes : List ℕ) → bytes ≡ frame → body_of bytes ≡ body
  frame_body bytes is =
      let n : length bytes - 4 ≡ 12 + length body = omega (arith, ap length is, long) in
      let plain = frame_parts [] in
      let whole : frame ++ [] ≡ bytes = omitted is in
      let size : big_number 4 (drop 8 bytes) ≡ length body = ap (λ (b : List ℕ). big_number 4 (drop 8 b)) (sym whole) ∙ size_is [] in
      ap (λ (k : ℕ). drop 12 (take k bytes)) n ∙ drop-take 12 (length body) bytes ∙ ap (λ k. take k (drop 12 bytes)) (sym size)
      ∙ ap (λ (b : List ℕ). take (big_number 4 (drop 8 b)) (drop 12 b)) (sym whole) ∙ plain.body_is
    where
      omitted : {bytes : List ℕ} → bytes ≡ frame → frame ++ [] ≡ bytes
      omitted e = append-nil frame ∙ sym e

  frame_checked : stored_crc frame ≡ computed_crc frame
  unfolding frame_of is_checked
  frame_checked = eqb-true _ _ (is_checked-append (covered number body))

  -- the element of a row is read as that row, whatever stands behind it
  pub framed_again : (version place : ℕ) (rest : List ℕ) (origin : Origin) (event : Ev) → IsBody version body origin event
      → element_at version number place (frame ++ rest) ≡ Ok (record { number = number; origin = origin; event = event; next = place + length frame })
  framed_again version place rest origin event is =
      let bytes = frame ++ rest in
      let fits : total_of bytes ≤ length bytes = omega (arith, frame_total rest, length-append frame rest) in
      element_is version number place bytes (length bytes) (total_of bytes) refl (head_good number place (length bytes) bytes (frame_number rest) fits)
      ∙ ap (frame_at version number place) (ap (λ n. take n bytes) (frame_total rest) ∙ take_at frame rest (length frame) refl)
      ∙ frame_good version number place frame frame_checked
      ∙ ap (row_by number place frame) (ap (body_at version) (frame_body frame refl) ∙ body_again version body origin event is)

-- ---- elements

pub record Read (version place : ℕ) (row : PageRow) (front rest : List ℕ) : Type 0 where
  pub element : element_at version row.number place (front ++ rest) ≡ Ok row
  pub total : total_of (front ++ rest) ≡ length front

pub element_read : (version place : ℕ) (row : PageRow) (front rest : List ℕ) → IsElement version place row front → Read version place row front rest
element_read version place row front rest is =
    let next : place + length (frame_of row.number is.body) ≡ row.next = ap (λ (f : List ℕ). place + length f) is.framed ∙ sym is.next in
    let again : Read version place row (frame_of row.number is.body) rest = record {
      element = framed_again row.number is.body is.number_fits is.body_fits version place rest row.origin row.event is.is_body
          ∙ (λ i. Ok (record { number = row.number; origin = row.origin; event = row.event; next = next i }));
      total = frame_total row.number is.body is.number_fits is.body_fits rest;
    } in
    subst (λ f. Read version place row f rest) is.framed again
