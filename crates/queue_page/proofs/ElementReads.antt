-- One element, as the code reads it.
use Rattle.std.proofs.Common.{◌≡◌, ◌≢◌, inl, inr, ℕ, ◌+◌, ◌-◌, ◌%◌, ◌^◌, ◌≤◌, ◌<◌, ◌==◌, min, nat_lt, true, false, List, length, take, drop, Result, Ok, Err, refl, sym, ap, ◌∙◌, subst, arith, if◌then◌else◌, length-take}
use Rattle.std.proofs.Math.Path.{ap₂}
use Rattle.std.proofs.lemmas.Bool.{cond-true, cond-false, cases_lt, eq-eqb, eqb-true, and_from}
use Rattle.std.proofs.lemmas.Bool.Decides.{nat_tests}
use Rattle.std.proofs.lemmas.List.{take-take, take_all, drop-take}
use Rattle.byteorder.specs.Endian.{big_number}
use Rattle.byteorder.specs.Numbers.{big_from-take}
use Rattle.event_tree.specs.Events.{Ev}
use Rattle.crc_frame.proofs.Fronts.{chosen}
use Rattle.element_code.specs.declared.row.Origin.{Origin}
use Rattle.queue_page.specs.Answers.{Tells, IsNoMisfit}
use Rattle.queue_page.specs.Bodies.{body_at}
use Rattle.queue_page.specs.Views.{PageBufferView}
use Rattle.queue_page.specs.Blocks.{IsFront, left_of, window_of}
use Rattle.queue_page.proofs.Fronts.{length-left}
use Rattle.queue_page.specs.Elements.{number_of, size_of, total_of, body_of, stored_crc, computed_crc, is_element, head_at, frame_at, element_at, next_of, misfit, and_then, row_by, body_misfit}
use Rattle.queue_page.specs.declared.fault.Mismatch.{Mismatch}
use Rattle.queue_page.specs.declared.fault.RowFault.{RowFault}
use Rattle.queue_page.specs.declared.fault.RowFault.TheVariants as r
use Rattle.queue_page.specs.declared.row.PageRow.{PageRow}

-- a call that met no damage tells nothing of the bytes
pub tells_lost : {X Y : Type 0} (view : X → Y) (fault : RowFault) (read : Result Y Mismatch) → IsNoMisfit fault → Tells view (Err fault) read
tells_lost view (r.Mismatch m) read none = absurd none
tells_lost view r.Fault read none = none
tells_lost view r.Memory read none = none

-- ---- its number and its length

module _ (bytes : List ℕ) where
  pub number_short : length bytes < 8 → 0 ≡ number_of bytes
  unfolding number_of
  number_short short = let t : nat_lt (length bytes) 8 ≡ true = grind (arith, nat_tests, short) in sym (cond-true _ _ _ t)

  pub number_long : 8 ≤ length bytes → big_number 8 bytes ≡ number_of bytes
  unfolding number_of
  number_long long = let t : nat_lt (length bytes) 8 ≡ false = grind (arith, nat_tests, long) in sym (cond-false _ _ _ t)

  pub size_short : length bytes < 12 → 0 ≡ size_of bytes
  unfolding size_of
  size_short short = let t : nat_lt (length bytes) 12 ≡ true = grind (arith, nat_tests, short) in sym (cond-true _ _ _ t)

  pub size_long : 12 ≤ length bytes → big_number 4 (drop 8 bytes) ≡ size_of bytes
  unfolding size_of
  size_long long = let t : nat_lt (length bytes) 12 ≡ false = grind (arith, nat_tests, long) in sym (cond-false _ _ _ t)

-- ---- its head

module _ (number place left : ℕ) (bytes : List ℕ) where
  pub head_bad : number_of bytes ≢ number → head_at number place left bytes ≡ Err (misfit place (number_of bytes) number)
  unfolding head_at
  head_bad other = let t : (number_of bytes == number) ≡ false = grind (arith, nat_tests, other) in cond-false _ _ _ t

  pub head_over : number_of bytes ≡ number → left < total_of bytes → head_at number place left bytes ≡ Err (misfit place ((place + total_of bytes) % 2 ^ 64) (place + left))
  unfolding head_at
  head_over same over =
      let t : nat_lt left (total_of bytes) ≡ true = grind (arith, nat_tests, over) in
      cond-true _ _ _ (eq-eqb _ _ same) ∙ cond-true _ _ _ t

  pub head_good : number_of bytes ≡ number → total_of bytes ≤ left → head_at number place left bytes ≡ Ok (total_of bytes)
  unfolding head_at
  head_good same fits =
      let t : nat_lt left (total_of bytes) ≡ false = grind (arith, nat_tests, fits) in
      cond-true _ _ _ (eq-eqb _ _ same) ∙ cond-false _ _ _ t

-- as the code has its numbers
module _ (found size number place end : ℕ) (bytes : List ℕ) (is : found ≡ number_of bytes) (size_is : size ≡ size_of bytes) where
  pub code_bad : found ≢ number → Err (misfit place found number) ≡ head_at number place (end - place) bytes
  code_bad other = ap (λ n. Err (misfit place n number)) is ∙ sym (head_bad number place (end - place) bytes (λ same. other (is ∙ same)))

  pub code_over : found ≡ number → place ≤ end → end - place < size + 16 → Err (misfit place ((place + (size + 16)) % 2 ^ 64) end) ≡ head_at number place (end - place) bytes
  code_over same order over =
      let sum : end ≡ place + (end - place) = omega arith in
      ap₂ (λ (s e : ℕ). Err (misfit place ((place + (s + 16)) % 2 ^ 64) e)) size_is sum
      ∙ sym (head_over number place (end - place) bytes (sym is ∙ same) (omega (arith, size_is, over)))

  pub code_good : found ≡ number → size + 16 ≤ end - place → Ok (size + 16) ≡ head_at number place (end - place) bytes
  code_good same fits = ap (λ s. Ok (s + 16)) size_is ∙ sym (head_good number place (end - place) bytes (sym is ∙ same) (omega (arith, size_is, fits)))

-- ---- the whole of it

module _ (version number place : ℕ) (frame : List ℕ) where
  pub frame_bad : stored_crc frame ≢ computed_crc frame → frame_at version number place frame ≡ Err (misfit place (stored_crc frame) (computed_crc frame))
  unfolding frame_at
  frame_bad other = let t : (stored_crc frame == computed_crc frame) ≡ false = grind (arith, nat_tests, other) in cond-false _ _ _ t

  pub frame_good : stored_crc frame ≡ computed_crc frame → frame_at version number place frame ≡ row_by number place frame (body_at version (body_of frame))
  unfolding frame_at
  frame_good same = cond-true _ _ _ (eq-eqb _ _ same)

  -- as the code tells it of a body
  pub code_row : (body : List ℕ) (said : Origin × Ev) → stored_crc frame ≡ computed_crc frame → body ≡ body_of frame → body_at version body ≡ Ok said → frame_at version number place frame ≡ row_by number place frame (Ok said)
  code_row body said same is read = frame_good same ∙ ap (row_by number place frame) (ap (body_at version) (sym is) ∙ read)

  pub code_refused : (body : List ℕ) (at : ℕ) → stored_crc frame ≡ computed_crc frame → body ≡ body_of frame → at ≤ length body → body_at version body ≡ Err (length body - at)
      → frame_at version number place frame ≡ Err (body_misfit place (length body) at)
  code_refused body at same is low read =
      let there : length body - (length body - at) ≡ at = omega (arith, low) in
      frame_good same ∙ ap (row_by number place frame) (ap (body_at version) (sym is) ∙ read)
      ∙ ap (λ (b : List ℕ). Err (body_misfit place (length b) (length b - (length body - at)))) (sym is)
      ∙ ap (λ (k : ℕ). Err (body_misfit place (length body) k)) there

-- ---- a front of the bytes is enough

front_head : (n : ℕ) (front bytes : List ℕ) → front ≡ take (length front) bytes → n ≤ length front → take n front ≡ take n bytes
front_head n front bytes is long = ap (take n) is ∙ take-take n (length front) bytes long

-- numbers that stand within the same bytes
number_in_front : (n : ℕ) (xs ys : List ℕ) → 8 ≤ n → take n xs ≡ take n ys → big_number 8 xs ≡ big_number 8 ys
number_in_front n xs ys wide same = sym (big_from-take 0 8 n xs wide) ∙ ap (big_number 8) same ∙ big_from-take 0 8 n ys wide

size_in_front : (xs ys : List ℕ) → take 12 xs ≡ take 12 ys → big_number 4 (drop 8 xs) ≡ big_number 4 (drop 8 ys)
size_in_front xs ys same =
    sym (big_from-take 0 4 4 (drop 8 xs) (omega arith)) ∙ ap (big_number 4) (sym (drop-take 8 4 xs) ∙ ap (drop 8) same ∙ drop-take 8 4 ys)
    ∙ big_from-take 0 4 4 (drop 8 ys) (omega arith)

-- the number and the length of two lists with the same first 12 bytes, or of one that is shorter than these
pub record SameHead (xs ys : List ℕ) : Type 0 where
  pub number : number_of xs ≡ number_of ys
  pub size : size_of xs ≡ size_of ys

pub same_head : (xs ys : List ℕ) → take 12 xs ≡ take 12 ys → 12 ≤ length xs → 12 ≤ length ys → SameHead xs ys
same_head xs ys same one two = record {
  number = sym (number_long xs (omega (arith, one))) ∙ number_in_front 12 xs ys (omega arith) same ∙ number_long ys (omega (arith, two));
  size = sym (size_long xs one) ∙ size_in_front xs ys same ∙ size_long ys two;
}

pub front_same_head : (front bytes : List ℕ) → IsFront bytes (min (length bytes) 12) front → SameHead front bytes
front_same_head front bytes is = elim (cases_lt (length bytes) 12) [
  | inl short ↦
      let long : length bytes ≤ length front = omega (arith, is.enough, short) in
      let whole : front ≡ bytes = is.is ∙ take_all (length front) bytes long in
      subst (λ xs. SameHead xs bytes) (sym whole) (record { number = refl; size = refl })
  | inr long ↦
      let wide : 12 ≤ length front = omega (arith, is.enough, long) in
      same_head front bytes (front_head 12 front bytes is.is wide) wide long
]

pub told_head : (file : List ℕ) (block : PageBufferView) (place end count : ℕ) (front : List ℕ) → place ≤ end → end ≤ length file → count ≡ min (end - place) 12
    → IsFront (left_of file place end) count (window_of block place end) → front ≡ window_of block place end → SameHead front (left_of file place end)
told_head file block place end count front order within is held front_is =
    let bytes = left_of file place end in
    let there : count ≡ min (length bytes) 12 = is ∙ ap (λ n. min n 12) (sym (length-left file place end within)) in
    front_same_head front bytes (subst (λ n. IsFront bytes n front) there (subst (IsFront bytes count) (sym front_is) held))

pub head_in_front : (number place left : ℕ) (front bytes : List ℕ) → SameHead front bytes → head_at number place left front ≡ head_at number place left bytes
unfolding head_at
head_in_front number place left front bytes same =
    ap₂ (λ (n s : ℕ). if n == number then (if nat_lt left (s + 16) then Err (misfit place ((place + (s + 16)) % 2 ^ 64) (place + left)) else Ok (s + 16)) else Err (misfit place n number)) same.number same.size

pub frame_in_front : (total : ℕ) (front bytes : List ℕ) → IsFront bytes total front → total ≤ length bytes → take total front ≡ take total bytes
frame_in_front total front bytes is fits = front_head total front bytes is.is (omega (arith, is.enough, fits))

-- ---- the two, one behind the other

pub element_is : (version number place : ℕ) (bytes : List ℕ) (left total : ℕ) → left ≡ length bytes → head_at number place left bytes ≡ Ok total → element_at version number place bytes ≡ frame_at version number place (take total bytes)
unfolding element_at
element_is version number place bytes left total is head =
    ap (λ (h : Result ℕ Mismatch). and_then h (λ t. frame_at version number place (take t bytes))) (ap (λ n. head_at number place n bytes) (sym is) ∙ head)

-- the frame in what a block holds is that of the element
pub element_framed : (version number place end total : ℕ) (file window held : List ℕ) → end ≤ length file → head_at number place (end - place) (left_of file place end) ≡ Ok total → held ≡ window
    → take total window ≡ take total (left_of file place end) → frame_at version number place (take total held) ≡ element_at version number place (left_of file place end)
element_framed version number place end total file window held within head is same =
    ap (frame_at version number place) (ap (take total) is ∙ same)
    ∙ sym (element_is version number place (left_of file place end) (end - place) total (sym (length-left file place end within)) head)

pub element_misfit : (version number place : ℕ) (bytes : List ℕ) (left : ℕ) (fault : Mismatch) → left ≡ length bytes → head_at number place left bytes ≡ Err fault → element_at version number place bytes ≡ Err fault
unfolding element_at
element_misfit version number place bytes left fault is head =
    ap (λ (h : Result ℕ Mismatch). and_then h (λ t. frame_at version number place (take t bytes))) (ap (λ n. head_at number place n bytes) (sym is) ∙ head)

-- what was told of the head is told of the element, where it is at fault
pub tells_element : {Y : Type 0} (view : Y → Y) (f : PageRow → Result Y Mismatch) (version number place : ℕ) (bytes : List ℕ) (left : ℕ) (fault : RowFault) → left ≡ length bytes → Tells (λ total. total) (Err fault) (head_at number place left bytes)
    → Tells view (Err fault) (and_then (element_at version number place bytes) f)
tells_element view f version number place bytes left (r.Mismatch m) is told = ap (λ e. and_then e f) (element_misfit version number place bytes left m is told)
tells_element view f version number place bytes left r.Fault is told = told
tells_element view f version number place bytes left r.Memory is told = told

and_then_all : (read : Result PageRow Mismatch) → and_then read (λ row. Ok row) ≡ read
and_then_all (Ok row) = refl
and_then_all (Err m) = refl

pub tells_row : (version number place : ℕ) (bytes : List ℕ) (left : ℕ) (fault : RowFault) → left ≡ length bytes → Tells (λ total. total) (Err fault) (head_at number place left bytes)
    → Tells (λ (row : PageRow). row) (Err fault) (element_at version number place bytes)
tells_row version number place bytes left fault is told = subst (Tells (λ (row : PageRow). row) (Err fault)) (and_then_all (element_at version number place bytes)) (tells_element (λ (row : PageRow). row) (λ row. Ok row) version number place bytes left fault is told)

-- ---- what was read of an element

pub and_then_ok : {A B E : Type 0} (r : Result A E) (f : A → Result B E) (y : B) → and_then r f ≡ Ok y → (x : A) × (r ≡ Ok x) × (f x ≡ Ok y)
and_then_ok (Ok x) f y h = (x, refl, h)
and_then_ok (Err e) f y h = absurd cc

abbrev ok_misfit : ℕ → Result ℕ Mismatch
ok_misfit n = Ok n

-- the row of which the place behind it was told
pub next_row : (read : Result PageRow Mismatch) (next : ℕ) → next_of read ≡ Ok next → (row : PageRow) × (read ≡ Ok row) × (next ≡ row.next)
next_row (Ok row) next h =
    let made : ok_misfit row.next ≡ ok_misfit next = h in
    let same : row.next ≡ next = cc in
    (row, refl, sym same)
next_row (Err m) next h = let none : Err m ≡ ok_misfit next = h in absurd cc

pub next_misfit : (read : Result PageRow Mismatch) (m : Mismatch) → next_of read ≡ Err m → read ≡ Err m
next_misfit (Ok row) m h = let none : ok_misfit row.next ≡ Err m = h in absurd cc
next_misfit (Err e) m h = let same : e ≡ m = cc in ap Err same

abbrev the_row : ℕ → ℕ → List ℕ → Origin × Ev → PageRow
the_row number place frame said = record { number = number; origin = said.0; event = said.1; next = place + length frame }

pub record HeadTook (number left : ℕ) (bytes : List ℕ) (total : ℕ) : Type 0 where
  pub number_is : number_of bytes ≡ number
  pub total_is : total_of bytes ≡ total
  pub within : total ≤ left

pub head_took : (number place left : ℕ) (bytes : List ℕ) (total : ℕ) → head_at number place left bytes ≡ Ok total → HeadTook number left bytes total
unfolding head_at
head_took number place left bytes total h = elim (chosen (number_of bytes == number) (if nat_lt left (total_of bytes) then Err (misfit place ((place + total_of bytes) % 2 ^ 64) (place + left)) else Ok (total_of bytes)) (Err (misfit place (number_of bytes) number)) (Ok total) h) [
  | inr w ↦ let none : Err (misfit place (number_of bytes) number) ≡ Ok total = w.1 in absurd cc
  | inl w ↦ elim (chosen (nat_lt left (total_of bytes)) (Err (misfit place ((place + total_of bytes) % 2 ^ 64) (place + left))) (Ok (total_of bytes)) (Ok total) w.1) [
    | inl v ↦ let none : Err (misfit place ((place + total_of bytes) % 2 ^ 64) (place + left)) ≡ Ok total = v.1 in absurd cc
    | inr v ↦
        let made : ok_misfit (total_of bytes) ≡ ok_misfit total = v.1 in
        let same : total_of bytes ≡ total = cc in
        record { number_is = eqb-true _ _ w.0; total_is = same; within = grind (arith, nat_tests, v.0, same) }
  ]
]

pub record RowTook (number place : ℕ) (frame : List ℕ) (row : PageRow) : Type 0 where
  pub number_is : row.number ≡ number
  pub next : row.next ≡ place + length frame

row_took : (number place : ℕ) (frame : List ℕ) (said : Result (Origin × Ev) ℕ) (row : PageRow) → row_by number place frame said ≡ Ok row → RowTook number place frame row
row_took number place frame (Ok said) row h =
    let made : row_by number place frame (Ok said) ≡ Ok row = h in
    let same : the_row number place frame said ≡ row = cc in
    record { number_is = ap (λ (r : PageRow). r.number) (sym same); next = ap (λ (r : PageRow). r.next) (sym same) }
row_took number place frame (Err left) row h = absurd cc

pub record FrameTook (version number place : ℕ) (frame : List ℕ) (row : PageRow) : Type 0 where
  pub checked : stored_crc frame ≡ computed_crc frame
  pub said : row_by number place frame (body_at version (body_of frame)) ≡ Ok row
  pub number_is : row.number ≡ number
  pub next : row.next ≡ place + length frame

pub frame_took : (version number place : ℕ) (frame : List ℕ) (row : PageRow) → frame_at version number place frame ≡ Ok row → FrameTook version number place frame row
unfolding frame_at
frame_took version number place frame row h = elim (chosen (stored_crc frame == computed_crc frame) (row_by number place frame (body_at version (body_of frame))) (Err (misfit place (stored_crc frame) (computed_crc frame))) (Ok row) h) [
  | inl w ↦ let took = row_took number place frame (body_at version (body_of frame)) row w.1 in record { checked = eqb-true _ _ w.0; said = w.1; number_is = took.number_is; next = took.next }
  | inr w ↦ let none : Err (misfit place (stored_crc frame) (computed_crc frame)) ≡ Ok row = w.1 in absurd cc
]

pub record ElementTook (version number place : ℕ) (bytes : List ℕ) (row : PageRow) : Type 0 where
  pub number_is : number_of bytes ≡ number
  pub row_number : row.number ≡ number
  pub within : total_of bytes ≤ length bytes
  pub frame : frame_at version number place (take (total_of bytes) bytes) ≡ Ok row
  pub next : row.next ≡ place + total_of bytes

pub element_took : (version number place : ℕ) (bytes : List ℕ) (row : PageRow) → element_at version number place bytes ≡ Ok row → ElementTook version number place bytes row
unfolding element_at
element_took version number place bytes row h =
    let b = and_then_ok (head_at number place (length bytes) bytes) (λ total. frame_at version number place (take total bytes)) row h in
    let head = head_took number place (length bytes) bytes b.0 b.1 in
    let frame : frame_at version number place (take (total_of bytes) bytes) ≡ Ok row = ap (λ t. frame_at version number place (take t bytes)) head.total_is ∙ b.2 in
    let took = frame_took version number place (take (total_of bytes) bytes) row frame in
    record {
      number_is = head.number_is;
      row_number = took.number_is;
      within = omega (arith, head.total_is, head.within);
      frame = frame;
      next = omega (arith, took.next, length-take (total_of bytes) bytes, head.total_is, head.within);
    }

-- Reading goes by the bytes of the element alone.
pub element_again : (version number place : ℕ) (bytes other : List ℕ) (row : PageRow) → element_at version number place bytes ≡ Ok row → take (total_of bytes) other ≡ take (total_of bytes) bytes
    → (element_at version number place other ≡ Ok row) × (total_of other ≡ total_of bytes)
element_again version number place bytes other row h same =
    let took = element_took version number place bytes row h in
    let long : total_of bytes ≤ length other = omega (arith, ap length same, length-take (total_of bytes) bytes, length-take (total_of bytes) other, took.within) in
    let first : take 12 other ≡ take 12 bytes =
    sym (take-take 12 (total_of bytes) other (omega arith)) ∙ ap (take 12) same ∙ take-take 12 (total_of bytes) bytes (omega arith) in
    let heads = same_head other bytes first (omega (arith, long)) (omega (arith, took.within)) in
    let totals : total_of other ≡ total_of bytes = ap (λ n. n + 16) heads.size in
    let head : head_at number place (length other) other ≡ Ok (total_of other) = head_good number place (length other) other (heads.number ∙ took.number_is) (omega (arith, totals, long)) in
    (element_is version number place other (length other) (total_of other) refl head ∙ ap (λ t. frame_at version number place (take t other)) totals ∙ ap (frame_at version number place) same ∙ took.frame, totals)

-- what was read of an element is one by its own test
pub took_element : (version number place : ℕ) (bytes : List ℕ) (row : PageRow) → ElementTook version number place bytes row → is_element 0 (take (total_of bytes) bytes) ≡ true
took_element version number place bytes row took =
    let total = total_of bytes in
    let frame = take total bytes in
    let long : length frame ≡ total = omega (arith, length-take total bytes, took.within) in
    let first : take 12 frame ≡ take 12 bytes = take-take 12 total bytes (omega arith) in
    let heads = same_head frame bytes first (omega (arith, long)) (omega (arith, took.within)) in
    let size : length frame ≡ total_of frame = long ∙ ap (λ n. n + 16) (sym heads.size) in
    and_from _ _ (eq-eqb _ _ size) (eq-eqb _ _ (frame_took version number place frame row took.frame).checked)
