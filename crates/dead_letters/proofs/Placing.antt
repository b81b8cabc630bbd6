-- Letters with their places: one turn of the loop over segments, and what they are without.
use Rattle.std.proofs.Common.{◌≡◌, ◌≤◌, ℕ, suc, ◌+◌, List, [], ◌∷◌, ◌++◌, length, map, take, drop, Result, Ok, Err, refl, sym, ap, ◌∙◌}
use Rattle.std.specs.Result.{result_map_both}
use Rattle.std.proofs.lemmas.List.{append_assoc, append-nil, drop_all, map-append}
use Rattle.io_traits.specs.Folders.{Content}
use Rattle.io_traits.specs.declared.queue_faults.Damage.{Damage}
use Rattle.io_traits.specs.declared.queue_faults.QueueFault.{QueueFault}
use Rattle.io_traits.specs.declared.queue_faults.QueueFault.TheVariants as f
use Rattle.dead_letters.specs.Letters.{size_of}
use Rattle.dead_letters.specs.Queues.{segment, name_in}
use Rattle.dead_letters.specs.Records.{records_in}
use Rattle.dead_letters.specs.Found.{bytes_in, fronts_from}
use Rattle.dead_letters.specs.Rows.{Answers, LettersBySegments, followed_by, in_file, in_front, placed, placed_in, rows_from, without_places}
use Rattle.dead_letters.specs.declared.letter.DeadLetter.{DeadLetter}
use Rattle.dead_letters.specs.declared.faults.RecordFault.{RecordFault}
use Rattle.dead_letters.specs.declared.rows.DeadRow.{DeadRow}

-- ---- segments

in_front_both : (rs more : List DeadRow) (r : Result (List DeadRow) Damage) → in_front rs (in_front more r) ≡ in_front (rs ++ more) r
in_front_both rs more (Ok rest) = ap Ok (sym (append_assoc rs more rest))
in_front_both rs more (Err d) = refl

module _ (folder : List ℕ) (c : Content) (n m s : ℕ) (sizes rest : List ℕ) (next : m ≡ suc n) (split : sizes ≡ s ∷ rest) (rs : List DeadRow) (whole : Result (List DeadRow) Damage)
    (so_far : whole ≡ in_front rs (rows_from folder n (fronts_from folder c n sizes))) where
  abbrev own : Result (List DeadRow) Damage
  own = in_file (name_in folder (segment n)) (placed_in n (records_in (take s (bytes_in folder c n))))

  opened_up : whole ≡ in_front rs (followed_by own (rows_from folder m (fronts_from folder c m rest)))
  opened_up = so_far ∙ ap (λ l. in_front rs (rows_from folder n (fronts_from folder c n l))) split ∙ ap (λ k. in_front rs (followed_by own (rows_from folder k (fronts_from folder c k rest)))) (sym next)

  pub segment_read : (more items : List DeadRow) → own ≡ Ok more → items ≡ rs ++ more → whole ≡ in_front items (rows_from folder m (fronts_from folder c m rest))
  segment_read more items is pushed =
      opened_up ∙ ap (λ r. in_front rs (followed_by r (rows_from folder m (fronts_from folder c m rest)))) is ∙ in_front_both rs more (rows_from folder m (fronts_from folder c m rest))
      ∙ ap (λ l. in_front l (rows_from folder m (fronts_from folder c m rest))) (sym pushed)

  pub segment_lost : (fault : QueueFault) → Answers {X = List DeadRow} (Err fault) own → Answers {X = List DeadRow} (Err fault) whole
  segment_lost (f.Damaged d) is = opened_up ∙ ap (λ r. in_front rs (followed_by r (rows_from folder m (fronts_from folder c m rest)))) is
  segment_lost f.Fault is = tt
  segment_lost f.Memory is = tt

pub segments_end : (folder : List ℕ) (c : Content) (n i : ℕ) (sizes : List ℕ) (rs : List DeadRow) (whole : Result (List DeadRow) Damage) → length sizes ≤ i
    → whole ≡ in_front rs (rows_from folder n (fronts_from folder c n (drop i sizes))) → whole ≡ Ok rs
segments_end folder c n i sizes rs whole past so_far = so_far ∙ ap (λ l. in_front rs (rows_from folder n (fronts_from folder c n l))) (drop_all i sizes past) ∙ ap Ok (append-nil rs)

-- ---- without their places

abbrev letters_in : Result (List DeadRow) Damage → Result (List DeadLetter) Damage
letters_in = result_map_both without_places (λ d. d)

placed_are : (n before : ℕ) (ls : List DeadLetter) → without_places (placed n before ls) ≡ ls
placed_are n before [] = refl
placed_are n before (l ∷ ls) = ap (λ m. l ∷ m) (placed_are n (before + size_of l) ls)

front_are : (rs : List DeadRow) (rows : Result (List DeadRow) Damage) → letters_in (in_front rs rows) ≡ in_front (without_places rs) (letters_in rows)
front_are rs (Ok more) = ap Ok (map-append (λ (r : DeadRow). r.letter) rs more)
front_are rs (Err d) = refl

first_are : (file : List ℕ) (n : ℕ) (own : Result (List DeadLetter) RecordFault) (rows : Result (List DeadRow) Damage)
    → letters_in (followed_by (in_file file (placed_in n own)) rows) ≡ followed_by (in_file file own) (letters_in rows)
first_are file n (Ok ls) rows = front_are (placed n 0 ls) rows ∙ ap (λ l. in_front l (letters_in rows)) (placed_are n 0 ls)
first_are file n (Err at) rows = refl

pub letters_by_segments : LettersBySegments
letters_by_segments folder n bytes rest = first_are (name_in folder (segment n)) n (records_in bytes) (rows_from folder (suc n) rest)
