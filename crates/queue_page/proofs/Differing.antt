-- What is told of a damage are two numbers that differ.
use Rattle.std.proofs.Common.{◌≡◌, ◌≢◌, ◌⊎◌, inl, inr, ℕ, ◌+◌, ◌-◌, ◌%◌, ◌^◌, ◌==◌, ◌<◌, nat_lt, true, false, List, [], ◌∷◌, length, take, drop, Option, Some, None, Result, Ok, Err, refl, sym, ◌∙◌, subst, arith, length-take, length-drop, if◌then◌else◌}
use Rattle.std.proofs.lemmas.Bool.{cond-true, cond-false, cases_lt, cases_eq, eq-eqb, false≢true}
use Rattle.std.proofs.lemmas.Bool.Decides.{nat_tests}
use Rattle.byteorder.specs.Numbers.{big_from-lt}
use Rattle.crc_frame.specs.Bytes.{IsBytes}
use Rattle.crc_frame.proofs.Numbers.{IsBytes-drop, IsBytes-take}
use Rattle.event_tree.specs.Events.{Ev}
use Rattle.crc_frame.proofs.Fronts.{chosen}
use Rattle.element_code.specs.declared.row.Origin.{Origin}
use Rattle.io_traits.specs.declared.pages.PageState.{PageState}
use Rattle.queue_page.specs.Bodies.{body_at}
use Rattle.queue_page.specs.Elements.{number_of, size_of, total_of, body_of, stored_crc, computed_crc, element_at, frame_at, head_at, row_by, misfit, body_misfit}
use Rattle.queue_page.specs.Runs.{Run, run}
use Rattle.queue_page.specs.Pages.{PageRows, counted, counted_by, is_version, version_of, within}
use Rattle.queue_page.specs.Laws.{DamageDiffers}
use Rattle.queue_page.specs.declared.fault.Mismatch.{Mismatch}
use Rattle.queue_page.specs.declared.row.PageRow.{PageRow}
use Rattle.queue_page.proofs.ElementReads.{size_short, size_long, element_took, element_is, element_misfit}
use Rattle.queue_page.proofs.RunReads.{each_run}
use Rattle.queue_page.proofs.PageReads.{recorded_long_if, recorded_short_if}

abbrev Differs : Mismatch → Type 0
Differs m = m.found ≢ m.expected

abbrev at_fault : {A : Type 0} → Mismatch → Result A Mismatch
at_fault m = Err m

-- a fault that is another's
as_told : {A : Type 0} (m told : Mismatch) → at_fault {A = A} m ≡ at_fault told → Differs m → Differs told
as_told m told h differs = let same : m ≡ told = cc in subst Differs same differs

size_low : (bytes : List ℕ) → IsBytes bytes → size_of bytes < 2 ^ 32
size_low bytes fit = elim (cases_lt (length bytes) 12) [
  | inl short ↦ omega (arith, size_short bytes short)
  | inr long ↦ omega (arith, size_long bytes long, big_from-lt 0 4 (drop 8 bytes) (IsBytes-drop 8 bytes fit))
]

-- an end that lies past another, both as numbers of 64 bits
end_differs : (place left total : ℕ) → left < total → total < 2 ^ 33 → place + left < 2 ^ 64 → (place + total) % 2 ^ 64 ≢ place + left
end_differs place left total over low fits same = omega (arith, over, low, fits, same)

head_differs : (number place left : ℕ) (bytes : List ℕ) (m : Mismatch) → IsBytes bytes → place + left < 2 ^ 64 → head_at number place left bytes ≡ Err m → Differs m
unfolding head_at
head_differs number place left bytes m fit fits h =
    let over = misfit place ((place + total_of bytes) % 2 ^ 64) (place + left) in
    let other = misfit place (number_of bytes) number in
    elim (chosen (number_of bytes == number) (if nat_lt left (total_of bytes) then at_fault over else Ok (total_of bytes)) (at_fault other) (at_fault m) h) [
      | inr w ↦ as_told other m w.1 (λ same. false≢true (sym w.0 ∙ eq-eqb _ _ same))
      | inl w ↦ elim (chosen (nat_lt left (total_of bytes)) (at_fault over) (Ok (total_of bytes)) (at_fault m) w.1) [
        | inl v ↦ as_told over m v.1 (end_differs place left (total_of bytes) (grind (arith, nat_tests, v.0)) (omega (arith, size_low bytes fit)) fits)
        | inr v ↦ absurd cc
      ]
    ]

body_differs : (place len at : ℕ) → Differs (body_misfit place len at)
body_differs place len at = elim (cases_eq at len) [
  | inl is ↦ λ same. let t : (at == len) ≡ true = eq-eqb _ _ is in let e : at ≡ len + 1 = same ∙ cond-true _ _ _ t in omega (arith, is, e)
  | inr is_not ↦ λ same. let t : (at == len) ≡ false = grind (arith, nat_tests, is_not) in is_not (same ∙ cond-false _ _ _ t)
]

row_differs : (number place : ℕ) (frame : List ℕ) (said : Result (Origin × Ev) ℕ) (m : Mismatch) → row_by number place frame said ≡ Err m → Differs m
row_differs number place frame (Ok said) m h = absurd cc
row_differs number place frame (Err left) m h =
    as_told {A = PageRow} (body_misfit place (length (body_of frame)) (length (body_of frame) - left)) m h (body_differs place (length (body_of frame)) (length (body_of frame) - left))

frame_differs : (version number place : ℕ) (frame : List ℕ) (m : Mismatch) → frame_at version number place frame ≡ Err m → Differs m
unfolding frame_at
frame_differs version number place frame m h =
    let other = misfit place (stored_crc frame) (computed_crc frame) in
    elim (chosen (stored_crc frame == computed_crc frame) (row_by number place frame (body_at version (body_of frame))) (at_fault other) (at_fault m) h) [
      | inl w ↦ row_differs number place frame (body_at version (body_of frame)) m w.1
      | inr w ↦ as_told {A = PageRow} other m w.1 (λ same. false≢true (sym w.0 ∙ eq-eqb _ _ same))
    ]

element_by : (version number place : ℕ) (bytes : List ℕ) (m : Mismatch) → IsBytes bytes → place + length bytes < 2 ^ 64 → (head : Result ℕ Mismatch) → head_at number place (length bytes) bytes ≡ head
    → element_at version number place bytes ≡ Err m → Differs m
element_by version number place bytes m fit fits (Ok total) is h = frame_differs version number place (take total bytes) m (sym (element_is version number place bytes (length bytes) total refl is) ∙ h)
element_by version number place bytes m fit fits (Err fault) is h =
    as_told {A = PageRow} fault m (sym (element_misfit version number place bytes (length bytes) fault refl is) ∙ h) (head_differs number place (length bytes) bytes fault fit fits is)

run_differs : (limit version number place : ℕ) (bytes : List ℕ) → IsBytes bytes → place + length bytes < 2 ^ 64 → (m : Mismatch) → (run limit version number place bytes).stop ≡ Some m → Differs m
run_differs limit version = each_run version (λ l n p b r. IsBytes b → p + length b < 2 ^ 64 → (m : Mismatch) → r.stop ≡ Some m → Differs m)
    (λ l n p b empty fit fits m stop. let none : None ≡ Some m = stop in absurd cc)
    (λ l n p b fault some read fit fits m stop.
    let is : Some fault ≡ Some m = stop in
    let same : fault ≡ m = cc in
    subst Differs same (element_by version n p b fault fit fits (head_at n p (length b) b) refl read))
    (λ l n p b row some read rest fit fits m stop.
    let took = element_took version n p b row read in
    rest (IsBytes-drop (total_of b) b fit) (omega (arith, fits, length-drop (total_of b) b, took.within)) m stop)
    limit

counted_differs : (s : PageState) (version : ℕ) (found : Run) (stop : Option Mismatch) (m : Mismatch) → found.stop ≡ stop → ((fault : Mismatch) → found.stop ≡ Some fault → Differs fault) → counted_by s version found stop ≡ Err m → Differs m
counted_differs s version found (Some fault) m is differs h = as_told {A = PageRows} fault m h (differs fault is)
counted_differs s version found None m is differs h =
    let other = misfit 0 (length found.rows) s.count in
    elim (chosen (length found.rows == s.count) (Ok (record { version = version; rows = found.rows; length = s.length })) (at_fault other) (at_fault m) h) [
      | inl w ↦ absurd cc
      | inr w ↦ as_told {A = PageRows} other m w.1 (λ same. false≢true (sym w.0 ∙ eq-eqb _ _ same))
    ]

pub damage_differs : DamageDiffers
damage_differs s file m fit least fits h = elim (cases_lt (length file) s.length) [
  | inl short ↦ as_told {A = PageRows} (misfit (length file) (length file) s.length) m (sym (recorded_short_if s file short) ∙ h) (λ same. omega (arith, short, same))
  | inr long ↦
      let extent = take s.length file in
      let version = version_of extent in
      let other = misfit 0 version 2 in
      let rest = drop 1 extent in
      let rest_fit : IsBytes rest = IsBytes-drop 1 extent (IsBytes-take s.length file fit) in
      let size : (1 + length rest < 2 ^ 64) ⊎ (length extent ≡ 0) = ends extent (omega (arith, length-take s.length file, fits)) in
      elim (chosen (is_version version) (counted s version (within s extent)) (at_fault other) (at_fault m) (sym (recorded_long_if s file long) ∙ h)) [
        | inr w ↦ as_told {A = PageRows} other m w.1 (λ same. other_version version w.0 same)
        | inl w ↦ counted_differs s version (within s extent) (within s extent).stop m refl
            (λ fault stop. elim size [ inl low ↦ run_differs s.length version s.least 1 rest rest_fit low fault stop | inr none ↦ absurd (none_known extent none w.0) ])
            w.1
      ]
]
  where
    other_version : (version : ℕ) → is_version version ≡ false → version ≢ 2
    other_version version is two = let known : is_version version ≡ true = grind (arith, nat_tests, two) in false≢true (sym is ∙ known)

    ends : (extent : List ℕ) → length extent < 2 ^ 64 → (1 + length (drop 1 extent) < 2 ^ 64) ⊎ (length extent ≡ 0)
    ends [] low = inr refl
    ends (x ∷ xs) low = inl (omega (arith, low))

    none_known : (extent : List ℕ) → length extent ≡ 0 → is_version (version_of extent) ≡ true → ⊥
    none_known [] none is = cc
    none_known (x ∷ xs) none is = omega (arith, none)
