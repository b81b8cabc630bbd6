-- Where a folder is damaged, what was found differs from what was expected.
use Rattle.std.proofs.Common.{◌≡◌, ◌≢◌, inl, inr, ℕ, ◌<◌, List, length, Result, Ok, Err, refl, sym, ◌∙◌, subst, arith}
use Rattle.std.specs.Prelude.{nat_lt}
use Rattle.std.proofs.lemmas.Bool.{cond-true, cond-false, cases_Bool}
use Rattle.std.proofs.lemmas.Bool.Decides.{nat_tests}
use Rattle.io_traits.specs.Folders.{Content}
use Rattle.io_traits.specs.Reads.{bytes_of}
use Rattle.io_traits.specs.declared.queue_faults.Damage.{Damage}
use Rattle.slot_files.specs.Contents.{damage, counted_in as first_version}
use Rattle.slot_files.proofs.Holding.{damages_differ as outputs_differ}
use Rattle.dead_letters.specs.Queues.{segment, names, position, name_in}
use Rattle.dead_letters.specs.Segments.{counted_in}
use Rattle.dead_letters.specs.Found.{bytes_in, held_in, held_by, held_first, found_by, FoundDamagesDiffer}
use Rattle.dead_letters.specs.declared.segments.Segments.{Segments}
use Rattle.dead_letters.specs.declared.segments.Counted.{Counted}
use Rattle.dead_letters.specs.declared.segments.Counted.TheVariants.{Nothing, Count, Damaged}
use Rattle.dead_letters.proofs.SegmentSlots.{damages_differ}

-- of a last segment that is too short
too_short : (folder : List ℕ) (c : Content) (s : Segments) (d : Damage) → held_by folder c s ≡ Err d → d.found ≢ d.expected
too_short folder c s d said = elim (cases_Bool (nat_lt (length (bytes_in folder c s.last)) s.length)) [
  | inl less ↦
      let len = length (bytes_in folder c s.last) in
      let these : Err (damage (name_in folder (segment s.last)) len len s.length) ≡ Err d = sym (cond-true _ _ _ less) ∙ said in
      let same : damage (name_in folder (segment s.last)) len len s.length ≡ d = cc in
      let shorter : length (bytes_in folder c s.last) < s.length = grind (arith, nat_tests, less) in
      subst (λ (x : Damage). x.found ≢ x.expected) same (λ (e : len ≡ s.length). omega (arith, shorter, e))
  | inr not_less ↦ let other : Ok (held_in folder c s) ≡ Err d = sym (cond-false _ _ _ not_less) ∙ said in λ same. cc
]

-- of a first version
first_differs : (folder : List ℕ) (c : Content) (d : Damage) (r : Result ℕ Damage) → first_version (name_in folder (segment 0)) (name_in folder position) c ≡ r → held_first folder c r ≡ Err d → d.found ≢ d.expected
first_differs folder c d (Ok len) is said = λ same. cc
first_differs folder c d (Err e) is said =
    let same : e ≡ d = cc in
    subst (λ (x : Damage). x.found ≢ x.expected) same (outputs_differ (name_in folder (segment 0)) (name_in folder position) c e is)

differ_by : (folder : List ℕ) (c : Content) (d : Damage) (k : Counted) → counted_in (bytes_of (c (name_in folder names))) ≡ k → found_by folder c k ≡ Err d → d.found ≢ d.expected
differ_by folder c d Nothing is said = first_differs folder c d (first_version (name_in folder (segment 0)) (name_in folder position) c) refl said
differ_by folder c d (Count turn s) is said = too_short folder c s d said
differ_by folder c d (Damaged there expected) is said =
    let these : Err (damage (name_in folder names) 0 there expected) ≡ Err d = said in
    let same : damage (name_in folder names) 0 there expected ≡ d = cc in
    subst (λ (x : Damage). x.found ≢ x.expected) same (damages_differ (bytes_of (c (name_in folder names))) there expected is)

pub found_damages_differ : FoundDamagesDiffer
found_damages_differ folder c d said = differ_by folder c d (counted_in (bytes_of (c (name_in folder names)))) refl said
