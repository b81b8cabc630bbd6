-- The pages that stand below the head, as they are found.
use Rattle.std.proofs.Common.{◌≡◌, ◌≢◌, ⊎_elim, ℕ, zero, suc, ◌+◌, List, [], ◌∷◌, Option, Some, None, IsSome, Result, Ok, Err, refl, sym, ◌∙◌, ap, subst, arith}
use Rattle.std.proofs.lemmas.Bool.{cases_eq, false≢true}
use Rattle.io_traits.specs.Reads.{bytes_of}
use Rattle.io_traits.specs.declared.pages.PageState.{PageState}
use Rattle.queue_page.specs.Elements.{and_then}
use Rattle.queue_files.specs.Folders.{page, checkpoint, Folder}
use Rattle.queue_files.specs.Found.{Damaged, told_at, Held, held_by, held, head_held, found_in}
use Rattle.queue_files.proofs.Kept.{found_as}
use Rattle.queue_files.specs.Opening.{held_at, held_of}
use Rattle.queue_files.specs.Reading.{AreStanding, PagesAreFound}

-- a page that stands
standing : (folder : Folder) (n : ℕ) (file : Option (List ℕ)) (rest : Result (List Held) Damaged) → IsSome file → folder (page n) ≡ file
    → held_by n (folder (checkpoint n)) file rest ≡ and_then (held_at folder n) (λ y. and_then rest (λ ys. Ok (y ∷ ys)))
standing folder n None rest some is = absurd (false≢true some)
standing folder n (Some bytes) rest some is =
    ap (λ (o : Option (List ℕ)). held_by n (folder (checkpoint n)) (Some (bytes_of o)) rest) (sym is) ∙ by_told (told_at (checkpoint n) (folder (checkpoint n)))
  where
    by_told : (t : Result PageState Damaged)
        → and_then t (λ s. and_then rest (λ pages. Ok (record { number = n; state = s; bytes = bytes_of (folder (page n)) } ∷ pages)))
        ≡ and_then (and_then t (λ s. Ok (record { number = n; state = s; bytes = bytes_of (folder (page n)) }))) (λ y. and_then rest (λ ys. Ok (y ∷ ys)))
    by_told (Ok s) = refl
    by_told (Err e) = refl

held_is : (count from end : ℕ) (folder : Folder) (numbers : List ℕ) → from + count ≡ end → AreStanding from end folder numbers → held count from folder ≡ held_of folder numbers
held_is zero from end folder [] to stand = refl
held_is zero from end folder (m ∷ numbers) to stand = absurd (omega (arith, to, stand.0, stand.1))
held_is (suc count) from end folder [] to stand =
    ap (λ (o : Option (List ℕ)). held_by from (folder (checkpoint from)) o (held count (suc from) folder)) (stand from (omega arith) (omega (arith, to)))
    ∙ held_is count (suc from) end folder [] (omega (arith, to)) (λ n past within. stand n (omega (arith, past)) within)
held_is (suc count) from end folder (m ∷ numbers) to stand = ⊎_elim
    (λ (same : from ≡ m).
    let rest = held_is count (suc from) end folder numbers (omega (arith, to)) (subst (λ (n : ℕ). AreStanding (suc n) end folder numbers) (sym same) stand.4) in
    ap (held_by from (folder (checkpoint from)) (folder (page from))) rest
    ∙ ap (λ (n : ℕ). held_by n (folder (checkpoint n)) (folder (page n)) (held_of folder numbers)) same
    ∙ standing folder m (folder (page m)) (held_of folder numbers) stand.2 refl)
    (λ (other : from ≢ m).
    ap (λ (o : Option (List ℕ)). held_by from (folder (checkpoint from)) o (held count (suc from) folder)) (stand.3 from (omega arith) (omega (arith, other, stand.0)))
    ∙ held_is count (suc from) end folder (m ∷ numbers) (omega (arith, to)) (omega (arith, other, stand.0), stand.1, stand.2, (λ n past less. stand.3 n (omega (arith, past)) less), stand.4))
    (cases_eq from m)

pub pages_are_found : PagesAreFound
pages_are_found folder s numbers tells stand =
    found_as folder s tells ∙ ap (λ (r : Result (List Held) Damaged). and_then r (found_in (head_held folder s))) (held_is s.page 0 s.page folder numbers (omega arith) stand)
