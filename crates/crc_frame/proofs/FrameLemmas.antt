-- What a frame's bytes read as, and which bytes a frame begins.
use Rattle.std.proofs.Common.{◌≡◌, ℕ, ◌+◌, ◌-◌, ◌^◌, ◌<◌, ◌≤◌, List, ◌++◌, length, take, drop, Option, Some, None, nat_eq, true, false, if◌then◌else◌, append_assoc, refl, sym, ap, ◌∙◌, subst, arith, length-append, length-take, length-drop}
use Rattle.std.proofs.Math.Path.{ap₂}
use Rattle.std.proofs.Math.Seq.{take-add}
use Rattle.std.specs.List.{starts_with}
use Rattle.std.proofs.lemmas.Slice.Eq.{starts_is}
use Rattle.std.proofs.lemmas.Bool.{cond-true, cond-false, false_from_ne_true, false≢true}
use Rattle.std.proofs.lemmas.Bool.Decides.{Decides-eqb}
use Rattle.std.proofs.lemmas.List.{take_at, drop_at, take-take, take-append-drop, length-take-le, append_cancel_left}
use Rattle.byteorder.specs.Endian.{big_bytes, big_number}
use Rattle.byteorder.specs.Numbers.{big_from-lt, big_number-reads_back, length-bytes_high_first}
use Rattle.crc_frame.specs.Crc.{crc32, is_checked}
use Rattle.crc_frame.specs.Frames.{Element, covered, frame_of, unframed, FramesAreReadBack, FramesDiffer}
use Rattle.crc_frame.specs.Bytes.{IsBytes}
use Rattle.crc_frame.proofs.Numbers.{IsBytes-drop, IsBytes-take, big_bytes-big_number}
use Rattle.crc_frame.proofs.CrcLemmas.{is_checked-append, checked_parts}

-- ---- the parts of a frame

frame_parts : (number : ℕ) (body rest : List ℕ) →
    frame_of number body ++ rest ≡ big_bytes 8 number ++ (big_bytes 4 (length body) ++ (body ++ (big_bytes 4 (crc32 (covered number body)) ++ rest)))
unfolding frame_of covered
frame_parts number body rest =
    let head = big_bytes 8 number in
    let size = big_bytes 4 (length body) in
    let sum = big_bytes 4 (crc32 (covered number body)) in
    append_assoc (head ++ size ++ body) sum rest ∙ append_assoc (head ++ size) body (sum ++ rest) ∙ append_assoc head size (body ++ (sum ++ rest))

length-covered : (number : ℕ) (body : List ℕ) → length (covered number body) ≡ 12 + length body
unfolding covered
length-covered number body = omega arith

pub length-frame_of : (number : ℕ) (body : List ℕ) → length (frame_of number body) ≡ length body + 16
unfolding frame_of
length-frame_of number body =
    let sum = big_bytes 4 (crc32 (covered number body)) in
    let four : length sum ≡ 4 = length-bytes_high_first 4 (crc32 (covered number body)) in
    omega (arith, length-append (covered number body) sum, length-covered number body, four)

-- a frame that is appended part after part: what stands before the body, the body, and the CRC-32 of both
pub frame_joined : (number start : ℕ) (body old head sum items : List ℕ) → head ≡ big_bytes 8 number ++ big_bytes 4 (length body)
    → start ≡ length old → items ≡ old ++ head ++ body → sum ≡ big_bytes 4 (crc32 (drop start items)) → items ++ sum ≡ old ++ frame_of number body
unfolding frame_of covered
frame_joined number start body old head sum items head_is start_is items_are sum_is =
    let whole = big_bytes 8 number ++ big_bytes 4 (length body) ++ body in
    let is_whole : items ≡ old ++ whole = items_are ∙ append_assoc old head body ∙ ap (λ (h : List ℕ). old ++ (h ++ body)) head_is in
    let rest : drop start items ≡ whole = ap (drop start) is_whole ∙ drop_at old whole start (sym start_is) in
    ap (λ (xs : List ℕ). xs ++ sum) is_whole ∙ append_assoc old whole sum
    ∙ ap (λ (xs : List ℕ). old ++ (whole ++ xs)) (sum_is ∙ ap (λ (xs : List ℕ). big_bytes 4 (crc32 xs)) rest)

-- what is read of bytes that a frame begins
pub record ReadsAs (bytes : List ℕ) (number : ℕ) (body : List ℕ) : Type 0 where
  pub long : length body + 16 ≤ length bytes
  pub number_read : big_number 8 bytes ≡ number
  pub length_read : big_number 4 (drop 8 bytes) ≡ length body
  pub body_read : take (length body) (drop 12 bytes) ≡ body
  pub checked : is_checked (take (length body + 16) bytes) ≡ true

behind_number : (number : ℕ) (body rest : List ℕ) →
    drop 8 (frame_of number body ++ rest) ≡ big_bytes 4 (length body) ++ (body ++ (big_bytes 4 (crc32 (covered number body)) ++ rest))
behind_number number body rest = ap (drop 8) (frame_parts number body rest)

behind_length : (number : ℕ) (body rest : List ℕ) → drop 12 (frame_of number body ++ rest) ≡ body ++ (big_bytes 4 (crc32 (covered number body)) ++ rest)
behind_length number body rest = ap (drop 12) (frame_parts number body rest)

frame_checked : (number : ℕ) (body : List ℕ) → is_checked (frame_of number body) ≡ true
unfolding frame_of
frame_checked number body = is_checked-append (covered number body)

frame_read : (number : ℕ) (body rest : List ℕ) → number < 256 ^ 8 → length body < 256 ^ 4 → ReadsAs (frame_of number body ++ rest) number body
frame_read number body rest number_fits length_fits = record {
  long = omega (arith, length-append (frame_of number body) rest, length-frame_of number body);
  number_read =
      ap (big_number 8) (frame_parts number body rest)
      ∙ big_number-reads_back 8 number (big_bytes 4 (length body) ++ (body ++ (big_bytes 4 (crc32 (covered number body)) ++ rest))) number_fits;
  length_read =
      ap (big_number 4) (behind_number number body rest)
      ∙ big_number-reads_back 4 (length body) (body ++ (big_bytes 4 (crc32 (covered number body)) ++ rest)) length_fits;
  body_read = ap (take (length body)) (behind_length number body rest) ∙ take_at body _ (length body) refl;
  checked =
      ap is_checked (take_at (frame_of number body) rest (length body + 16) (length-frame_of number body)) ∙ frame_checked number body;
}

front_read : (bytes : List ℕ) (number : ℕ) (body : List ℕ) → IsBytes bytes → ReadsAs bytes number body → take (12 + length body) bytes ≡ covered number body
unfolding covered
front_read bytes number body fit read =
    let size = length body in
    let long = read.long in
    let eight : take 8 bytes ≡ big_bytes 8 number =
    sym (big_bytes-big_number 8 bytes (omega arith) fit) ∙ ap (big_bytes 8) read.number_read in
    let four : take 4 (drop 8 bytes) ≡ big_bytes 4 size =
    sym (big_bytes-big_number 4 (drop 8 bytes) (omega (arith, length-drop 8 bytes)) (IsBytes-drop 8 bytes fit)) ∙ ap (big_bytes 4) read.length_read in
    let twelve : take 12 bytes ≡ big_bytes 8 number ++ big_bytes 4 size = take-add 8 4 bytes ∙ ap₂ (λ (xs ys : List ℕ). xs ++ ys) eight four in
    take-add 12 size bytes ∙ ap₂ (λ (xs ys : List ℕ). xs ++ ys) twelve read.body_read

-- bytes that read so begin with the frame
pub read_framed : (bytes : List ℕ) (number : ℕ) (body : List ℕ) → IsBytes bytes → ReadsAs bytes number body → bytes ≡ frame_of number body ++ drop (length body + 16) bytes
unfolding frame_of
read_framed bytes number body fit read =
    let total = length body + 16 in
    let whole = take total bytes in
    let len : length whole ≡ total = length-take-le total bytes read.long in
    let shorter : length whole - 4 ≡ 12 + length body = omega (arith, len) in
    let front : take (length whole - 4) whole ≡ covered number body =
    ap (λ (n : ℕ). take n whole) shorter ∙ take-take (12 + length body) total bytes (omega arith) ∙ front_read bytes number body fit read in
    let framed : whole ≡ covered number body ++ big_bytes 4 (crc32 (covered number body)) =
    checked_parts whole (omega (arith, len)) (IsBytes-take total bytes fit) read.checked ∙ ap (λ (xs : List ℕ). xs ++ big_bytes 4 (crc32 xs)) front in
    sym (take-append-drop total bytes) ∙ ap (λ (xs : List ℕ). xs ++ drop total bytes) framed

-- ---- what is read of the bytes

-- the test whether a list begins with another
begins : (xs front : List ℕ) → starts_with nat_eq xs front ≡ true → xs ≡ front ++ drop (length front) xs
begins xs front is = (starts_is Decides-eqb xs front (starts_with nat_eq xs front) refl).0 is

begun : (xs front rest : List ℕ) → xs ≡ front ++ rest → starts_with nat_eq xs front ≡ true
begun xs front rest is = (starts_is Decides-eqb xs front (starts_with nat_eq xs front) refl).1 rest is

-- what is read under a number and a length
read_by : List ℕ → ℕ → ℕ → Option Element
read_by bytes number size =
    let body = take size (drop 12 bytes) in
    if starts_with nat_eq bytes (frame_of number body) then Some (record { number = number; body = body }) else None

unframed_is : (bytes : List ℕ) → unframed bytes ≡ read_by bytes (big_number 8 bytes) (big_number 4 (drop 8 bytes))
unfolding unframed read_by
unframed_is bytes = refl

read_by_some : (bytes : List ℕ) (number : ℕ) (body rest : List ℕ) → take (length body) (drop 12 bytes) ≡ body → bytes ≡ frame_of number body ++ rest
    → read_by bytes number (length body) ≡ Some (record { number = number; body = body })
unfolding read_by
read_by_some bytes number body rest body_read framed =
    ap (λ (b : List ℕ). if starts_with nat_eq bytes (frame_of number b) then Some (record { number = number; body = b }) else None) body_read
    ∙ cond-true _ _ _ (begun bytes (frame_of number body) rest framed)

pub unframed_some : (bytes : List ℕ) (number : ℕ) (body : List ℕ) → IsBytes bytes → ReadsAs bytes number body → unframed bytes ≡ Some (record { number = number; body = body })
unframed_some bytes number body fit read =
    unframed_is bytes ∙ ap₂ (read_by bytes) read.number_read read.length_read
    ∙ read_by_some bytes number body (drop (length body + 16) bytes) read.body_read (read_framed bytes number body fit read)

-- no frame begins the bytes
abbrev pub NotFramed : List ℕ → Type 0
NotFramed bytes = (number : ℕ) (body : List ℕ) → ReadsAs bytes number body → ⊥

read_by_none : (bytes : List ℕ) (number size : ℕ) → number < 256 ^ 8 → size < 256 ^ 4 → NotFramed bytes → read_by bytes number size ≡ None
unfolding read_by
read_by_none bytes number size number_fits size_fits not_framed =
    let body = take size (drop 12 bytes) in
    let short : length body ≤ size = omega (arith, length-take size (drop 12 bytes)) in
    cond-false _ _ _ (false_from_ne_true (starts_with nat_eq bytes (frame_of number body)) (λ is.
    let framed = begins bytes (frame_of number body) is in
    not_framed number body (subst (λ (xs : List ℕ). ReadsAs xs number body) (sym framed) (frame_read number body (drop (length (frame_of number body)) bytes) number_fits (omega (arith, short))))))

pub unframed_none : (bytes : List ℕ) → IsBytes bytes → NotFramed bytes → unframed bytes ≡ None
unframed_none bytes fit not_framed =
    unframed_is bytes
    ∙ read_by_none bytes (big_number 8 bytes) (big_number 4 (drop 8 bytes)) (big_from-lt 0 8 bytes fit) (big_from-lt 0 4 (drop 8 bytes) (IsBytes-drop 8 bytes fit)) not_framed

pub none_begins : (bytes : List ℕ) → NotFramed bytes → (number : ℕ) (body rest : List ℕ) → number < 256 ^ 8 → length body < 256 ^ 4 → bytes ≡ frame_of number body ++ rest → ⊥
none_begins bytes not_framed number body rest number_fits length_fits framed =
    not_framed number body (subst (λ (xs : List ℕ). ReadsAs xs number body) (sym framed) (frame_read number body rest number_fits length_fits))

pub cut_short : (bytes : List ℕ) → length bytes < big_number 4 (drop 8 bytes) + 16 → NotFramed bytes
cut_short bytes short number body read = omega (arith, read.long, read.length_read)

pub not_checked : (bytes : List ℕ) (total : ℕ) → total ≡ big_number 4 (drop 8 bytes) + 16 → is_checked (take total bytes) ≡ false → NotFramed bytes
not_checked bytes total total_is wrong number body read =
    let same : total ≡ length body + 16 = total_is ∙ ap (λ (n : ℕ). n + 16) read.length_read in
    false≢true (sym wrong ∙ ap (λ (n : ℕ). is_checked (take n bytes)) same ∙ read.checked)

-- ---- laws

pub unframed-frame_of : FramesAreReadBack
unframed-frame_of number body rest number_fits length_fits =
    let bytes = frame_of number body ++ rest in
    let read = frame_read number body rest number_fits length_fits in
    unframed_is bytes ∙ ap₂ (read_by bytes) read.number_read read.length_read ∙ read_by_some bytes number body rest read.body_read refl

pub frames_differ : FramesDiffer
frames_differ number other_number body other_body rest other_rest number_fits length_fits other_number_fits other_length_fits same =
    let element : Element = record { number = number; body = body } in
    let other : Element = record { number = other_number; body = other_body } in
    let one : Some element ≡ Some other =
    sym (unframed-frame_of number body rest number_fits length_fits) ∙ ap unframed same
    ∙ unframed-frame_of other_number other_body other_rest other_number_fits other_length_fits in
    let same_element : element ≡ other = cc in
    let same_number : number ≡ other_number = ap (λ (e : Element). e.number) same_element in
    let same_body : body ≡ other_body = ap (λ (e : Element). e.body) same_element in
    let frame : frame_of other_number other_body ≡ frame_of number body = ap₂ frame_of (sym same_number) (sym same_body) in
    (same_number, same_body, append_cancel_left (frame_of number body) rest other_rest (same ∙ ap (λ (xs : List ℕ). xs ++ other_rest) frame))
