-- What a file with its position file holds, and how much of it counts.
use Rattle.std.proofs.Common.{◌≡◌, ◌≢◌, inl, inr, ℕ, ◌≤◌, ◌<◌, min, nat_lt, true, false, List, length, take, Ok, Err, refl, sym, ap, ◌∙◌, arith, subst, length-take}
use Rattle.std.proofs.lemmas.Bool.{cond-true, cond-false, cases_Bool}
use Rattle.std.proofs.lemmas.Bool.Decides.{nat_tests}
use Rattle.std.proofs.lemmas.List.{take_all}
use Rattle.io_traits.specs.Folders.{Content}
use Rattle.io_traits.specs.Reads.{bytes_of, file_length}
use Rattle.io_traits.specs.Images.{Image}
use Rattle.io_traits.specs.declared.queue_faults.Damage.{Damage}
use Rattle.slot_files.specs.Positions.{recorded_in}
use Rattle.slot_files.specs.declared.recorded.Recorded.{Recorded}
use Rattle.slot_files.specs.declared.recorded.Recorded.TheVariants.{Nothing, Position, Damaged}
use Rattle.slot_files.proofs.PositionReads.{damages_differ as positions_differ}
use Rattle.slot_files.specs.Contents.{damage, counted_by, left_in, Holds, HeldIsCounted, HoldsOne, DamagesDiffer}

front_length : (front xs : List ℕ) → take (length front) xs ≡ front → length front ≤ length xs
front_length front xs is = let n : min (length front) (length xs) ≡ length front = sym (length-take (length front) xs) ∙ ap length is in omega (arith, n)

-- of a position that the file reaches
pub reached : (path slot : List ℕ) (len turn position : ℕ) → position ≤ len → counted_by path slot len (Position turn position) ≡ Ok position
reached path slot len turn position le = let not_less : nat_lt len position ≡ false = grind (arith, nat_tests, le) in cond-false _ _ _ not_less

pub not_reached : (path slot : List ℕ) (len turn position : ℕ) → len < position → counted_by path slot len (Position turn position) ≡ Err (damage path len len position)
not_reached path slot len turn position lt = let less : nat_lt len position ≡ true = grind (arith, nat_tests, lt) in cond-true _ _ _ less

pub held_is_counted : HeldIsCounted
held_is_counted path slot bytes i (inl s) =
    ap (counted_by path slot (file_length (left_in i path))) s.recorded ∙ reached path slot (file_length (left_in i path)) s.turn (length bytes) (front_length bytes (bytes_of (left_in i path)) s.front)
held_is_counted path slot bytes i (inr b) = ap (counted_by path slot (file_length (left_in i path))) b.nothing ∙ ap (λ (l : List ℕ). Ok (length l)) b.whole

its_front : (path slot bytes : List ℕ) (i : Image) → Holds path slot bytes i → bytes ≡ take (length bytes) (bytes_of (left_in i path))
its_front path slot bytes i (inl s) = sym s.front
its_front path slot bytes i (inr b) = sym (take_all (length bytes) bytes (omega arith)) ∙ ap (take (length bytes)) (sym b.whole)

pub holds_one : HoldsOne
holds_one path slot one other i is_one is_other =
    let both : Ok (length one) ≡ Ok (length other) = sym (held_is_counted path slot one i is_one) ∙ held_is_counted path slot other i is_other in
    let long : length one ≡ length other = cc in
    its_front path slot one i is_one ∙ ap (λ n. take n (bytes_of (left_in i path))) long ∙ sym (its_front path slot other i is_other)

differ_by : (path slot : List ℕ) (content : Content) (d : Damage) (r : Recorded) → recorded_in (bytes_of (content slot)) ≡ r → counted_by path slot (file_length (content path)) r ≡ Err d → d.found ≢ d.expected
differ_by path slot content d Nothing is said = let other : Ok (file_length (content path)) ≡ Err d = said in λ same. cc
differ_by path slot content d (Position turn position) is said = elim (cases_Bool (nat_lt (file_length (content path)) position)) [
  | inl less ↦
      let these : Err (damage path (file_length (content path)) (file_length (content path)) position) ≡ Err d = sym (cond-true _ _ _ less) ∙ said in
      let same : damage path (file_length (content path)) (file_length (content path)) position ≡ d = cc in
      let shorter : file_length (content path) < position = grind (arith, nat_tests, less) in
      subst (λ (x : Damage). x.found ≢ x.expected) same (λ (e : file_length (content path) ≡ position). omega (arith, shorter, e))
  | inr not_less ↦ let other : Ok position ≡ Err d = sym (cond-false _ _ _ not_less) ∙ said in λ same. cc
]
differ_by path slot content d (Damaged found expected) is said =
    let these : Err (damage slot 0 found expected) ≡ Err d = said in
    let same : damage slot 0 found expected ≡ d = cc in
    subst (λ (x : Damage). x.found ≢ x.expected) same (positions_differ (bytes_of (content slot)) found expected is)

pub damages_differ : DamagesDiffer
damages_differ path slot content d said = differ_by path slot content d (recorded_in (bytes_of (content slot))) refl said
