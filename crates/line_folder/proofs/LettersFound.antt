-- What a folder holds of dead letters is told by their files alone.
use Rattle.std.specs.Prelude.{◌-◌, nat_lt, if◌then◌else◌}
use Rattle.std.proofs.Common.{◌≡◌, ℕ, zero, suc, List, [], ◌∷◌, length, take, Result, Ok, Err, refl, ap, ◌∙◌}
use Rattle.io_traits.specs.Folders.{Content}
use Rattle.io_traits.specs.Reads.{bytes_of, file_length}
use Rattle.io_traits.specs.declared.queue_faults.Damage.{Damage}
use Rattle.slot_files.specs.Contents.{damage, counted_by, counted_in as first_version}
use Rattle.slot_files.specs.Positions.{recorded_in}
use Rattle.dead_letters.specs.Queues.{Role, segment, names, position, name_in}
use Rattle.dead_letters.specs.Segments.{segments, counted_in}
use Rattle.dead_letters.specs.Found.{Held, bytes_in, cut_from, held_in, held_by, held_first, found_by, found}
use Rattle.dead_letters.specs.declared.segments.Segments.{Segments}
use Rattle.dead_letters.specs.declared.segments.Counted.{Counted}
use Rattle.dead_letters.specs.declared.segments.Counted.TheVariants.{Nothing, Count, Damaged}

module _ (folder : List ℕ) (c d : Content) (same : (role : Role) → c (name_in folder role) ≡ d (name_in folder role)) where
  cut_same : (len n more : ℕ) → cut_from folder c len n more ≡ cut_from folder d len n more
  cut_same len n zero = ap (λ f. take len (bytes_of f) ∷ []) (same (segment n))
  cut_same len n (suc more) =
      ap (λ f. bytes_of f ∷ cut_from folder c len (suc n) more) (same (segment n)) ∙ ap (λ l. bytes_in folder d n ∷ l) (cut_same len (suc n) more)

  abbrev held_with : ℕ → List (List ℕ) → Held
  held_with n l = record { first = n; segments = l }

  held_same : (s : Segments) → held_in folder c s ≡ held_in folder d s
  held_same s = ap (held_with s.first) (cut_same s.length s.first (s.last - s.first))

  abbrev by_length : Segments → ℕ → Held → Result Held Damage
  by_length s len h = if nat_lt len s.length then Err (damage (name_in folder (segment s.last)) len len s.length) else Ok h

  by_same : (s : Segments) → held_by folder c s ≡ held_by folder d s
  by_same s =
      ap (λ f. by_length s (length (bytes_of f)) (held_in folder c s)) (same (segment s.last)) ∙ ap (by_length s (length (bytes_in folder d s.last))) (held_same s)

  abbrev path : List ℕ
  path = name_in folder (segment 0)

  abbrev slot : List ℕ
  slot = name_in folder position

  version_same : first_version path slot c ≡ first_version path slot d
  version_same =
      ap (λ f. counted_by path slot (file_length f) (recorded_in (bytes_of (c slot)))) (same (segment 0)) ∙ ap (λ f. counted_by path slot (file_length (d path)) (recorded_in (bytes_of f))) (same position)

  first_same : (r : Result ℕ Damage) → held_first folder c r ≡ held_first folder d r
  first_same (Ok len) = ap Ok (held_same (segments 0 0 len))
  first_same (Err x) = refl

  counted_same : (k : Counted) → found_by folder c k ≡ found_by folder d k
  counted_same Nothing = ap (held_first folder c) version_same ∙ first_same (first_version path slot d)
  counted_same (Count turn s) = by_same s
  counted_same (Damaged there expected) = refl

  pub found_same : found folder c ≡ found folder d
  found_same = ap (λ f. found_by folder c (counted_in (bytes_of f))) (same names) ∙ counted_same (counted_in (bytes_of (d (name_in folder names))))
