-- Reading an element goes by the bytes of its frame alone.
use Rattle.std.proofs.Common.{◌≡◌, inl, inr, ℕ, ◌+◌, ◌≤◌, List, ◌++◌, length, take, drop, Option, Some, None, if◌then◌else◌, nat_eq, refl, sym, ◌∙◌, ap, arith, length-take, length-drop, length-append, take-append-drop}
use Rattle.std.proofs.Math.Path.{ap₂}
use Rattle.std.proofs.lemmas.Bool.{cond-true, cond-false, cases_Bool}
use Rattle.std.proofs.lemmas.Bool.Decides.{Decides-eqb}
use Rattle.std.proofs.lemmas.Slice.Eq.{starts_is}
use Rattle.std.proofs.lemmas.List.{take_at, take-append-le, drop-append-le}
use Rattle.std.specs.List.{starts_with}
use Rattle.byteorder.specs.Endian.{big_number}
use Rattle.byteorder.specs.Numbers.{big_from-take}
use Rattle.crc_frame.specs.Frames.{Element, frame_of, unframed, FramesAreRead, FramesAreReadAgain}
use Rattle.crc_frame.proofs.FrameLemmas.{length-frame_of}

-- what is read under a number and a body
read_with : List ℕ → ℕ → List ℕ → Option Element
read_with bytes number body = if starts_with nat_eq bytes (frame_of number body) then Some (record { number = number; body = body }) else None

read_is : (bytes : List ℕ) → unframed bytes ≡ read_with bytes (big_number 8 bytes) (take (big_number 4 (drop 8 bytes)) (drop 12 bytes))
unfolding unframed read_with
read_is bytes = refl

-- what was read, part by part
record Reading (bytes : List ℕ) (e : Element) : Type 0 where
  number : e.number ≡ big_number 8 bytes
  body : e.body ≡ take (big_number 4 (drop 8 bytes)) (drop 12 bytes)
  begins : bytes ≡ frame_of e.number e.body ++ drop (length (frame_of e.number e.body)) bytes

reading_with : (bytes : List ℕ) (number : ℕ) (body : List ℕ) (e : Element) → read_with bytes number body ≡ Some e
    → (e.number ≡ number) × (e.body ≡ body) × (bytes ≡ frame_of e.number e.body ++ drop (length (frame_of e.number e.body)) bytes)
unfolding read_with
reading_with bytes number body e read = elim (cases_Bool (starts_with nat_eq bytes (frame_of number body))) [
  | inl is ↦
      let made : Some (record { number = number; body = body }) ≡ Some e = sym (cond-true (starts_with nat_eq bytes (frame_of number body)) _ _ is) ∙ read in
      let one : number ≡ e.number = cc in
      let two : body ≡ e.body = cc in
      let front = (starts_is Decides-eqb bytes (frame_of number body) (starts_with nat_eq bytes (frame_of number body)) refl).0 is in
      (sym one, sym two, front ∙ ap₂ (λ (n : ℕ) (b : List ℕ). frame_of n b ++ drop (length (frame_of n b)) bytes) one two)
  | inr is_not ↦ let none : None ≡ Some e = sym (cond-false (starts_with nat_eq bytes (frame_of number body)) _ _ is_not) ∙ read in cc
]

reading : (bytes : List ℕ) (e : Element) → unframed bytes ≡ Some e → Reading bytes e
reading bytes e read =
    let r = reading_with bytes (big_number 8 bytes) (take (big_number 4 (drop 8 bytes)) (drop 12 bytes)) e (sym (read_is bytes) ∙ read) in
    record { number = r.0; body = r.1; begins = r.2 }

pub frames_are_read : FramesAreRead
frames_are_read bytes e read =
    let r = reading bytes e read in
    let frame = frame_of e.number e.body in
    ap (take (length e.body + 16)) r.begins ∙ take_at frame (drop (length frame) bytes) (length e.body + 16) (length-frame_of e.number e.body)

-- the parts of bytes that a frame begins go by the frame
number_at : (frame rest : List ℕ) → 16 ≤ length frame → big_number 8 (frame ++ rest) ≡ big_number 8 frame
number_at frame rest long =
    sym (big_from-take 0 8 8 (frame ++ rest) (omega arith)) ∙ ap (big_number 8) (take-append-le 8 frame rest (omega (arith, long))) ∙ big_from-take 0 8 8 frame (omega arith)

size_at : (frame rest : List ℕ) → 16 ≤ length frame → big_number 4 (drop 8 (frame ++ rest)) ≡ big_number 4 (drop 8 frame)
size_at frame rest long =
    ap (big_number 4) (drop-append-le 8 frame rest (omega (arith, long)))
    ∙ sym (big_from-take 0 4 4 (drop 8 frame ++ rest) (omega arith)) ∙ ap (big_number 4) (take-append-le 4 (drop 8 frame) rest (omega (arith, long, length-drop 8 frame)))
    ∙ big_from-take 0 4 4 (drop 8 frame) (omega arith)

body_at : (size : ℕ) (frame rest : List ℕ) → size + 16 ≤ length frame → take size (drop 12 (frame ++ rest)) ≡ take size (drop 12 frame)
body_at size frame rest long =
    ap (take size) (drop-append-le 12 frame rest (omega (arith, long))) ∙ take-append-le size (drop 12 frame) rest (omega (arith, long, length-drop 12 frame))

pub frames_are_read_again : FramesAreReadAgain
unfolding read_with
frames_are_read_again bytes other e read same =
    let r = reading bytes e read in
    let frame = frame_of e.number e.body in
    let n = length e.body + 16 in
    let long : length frame ≡ n = length-frame_of e.number e.body in
    let behind = drop (length frame) bytes in
    let rest = drop n other in
    let other_is : other ≡ frame ++ rest = sym (take-append-drop n other) ∙ ap (λ (l : List ℕ). l ++ rest) (same ∙ frames_are_read bytes e read) in
    let wide : 16 ≤ length frame = omega (arith, long) in
    let size = big_number 4 (drop 8 bytes) in
    let bytes_long : length bytes ≡ length frame + length behind = ap length r.begins ∙ length-append frame behind in
    let size_is : size ≡ length e.body = omega (arith, ap length r.body, length-take size (drop 12 bytes), length-drop 12 bytes, bytes_long, long) in
    let number : big_number 8 other ≡ e.number =
    ap (big_number 8) other_is ∙ number_at frame rest wide ∙ sym (number_at frame behind wide) ∙ ap (big_number 8) (sym r.begins) ∙ sym r.number in
    let sizes : big_number 4 (drop 8 other) ≡ size =
    ap (λ (l : List ℕ). big_number 4 (drop 8 l)) other_is ∙ size_at frame rest wide ∙ sym (size_at frame behind wide) ∙ ap (λ (l : List ℕ). big_number 4 (drop 8 l)) (sym r.begins) in
    let fits : size + 16 ≤ length frame = omega (arith, size_is, long) in
    let body : take (big_number 4 (drop 8 other)) (drop 12 other) ≡ e.body =
    ap₂ (λ (k : ℕ) (l : List ℕ). take k (drop 12 l)) sizes other_is ∙ body_at size frame rest fits ∙ sym (body_at size frame behind fits)
    ∙ ap (λ (l : List ℕ). take size (drop 12 l)) (sym r.begins) ∙ sym r.body in
    read_is other ∙ ap₂ (read_with other) number body
    ∙ cond-true (starts_with nat_eq other frame) (Some e) None ((starts_is Decides-eqb other frame (starts_with nat_eq other frame) refl).1 rest other_is)
