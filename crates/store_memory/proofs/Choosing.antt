-- What a choice leaves, call by call.
use Rattle.std.proofs.Common.{◌≡◌, inr, ⊎_elim, ℕ, ◌+◌, ◌<◌, ◌≤◌, List, [], ◌∷◌, ◌++◌, length, map, reverse, take, drop, Result, Ok, Err, IfOk, sym, ap, ◌∙◌, subst, arith, slice_index_or, add-one, ◌-◌, take-append-drop, length-drop}
use Rattle.std.proofs.Math.Seq.{take-suc}
use Rattle.std.proofs.lemmas.List.{length-reverse, length-map, length-take, reverse-append, map-append, drop_at}
use Rattle.io_traits.specs.Folders.{Content}
use Rattle.io_traits.specs.Images.{Image}
use Rattle.io_traits.specs.Steps.{Step, synced, applied, held, first_steps, MayLeave}
use Rattle.io_traits.specs.Leftovers.{Fate, step_left, left_by}
use Rattle.io_traits.proofs.Leaving.{left_is_image}
use Rattle.store_memory.specs.Calls.{step_in, steps_of}
use Rattle.io_memory.specs.Tables.{Table, content_of}
use Rattle.store_memory.specs.Calls.{Applied}
use Rattle.store_memory.specs.Leaving.{fates_by, IsHeld, IsLeftAfter, IsSettled, LeftBy}
use Rattle.io_memory.specs.Scripts.{Course}
use Rattle.store_memory.specs.Keeping.{Keeping, reads_of, moment_of, LeavesFrom}
use Rattle.store_memory.specs.declared.calls.Logged.{Logged}
use Rattle.store_memory.proofs.Stepping.{steps_more}

pub length-steps : (calls : List Logged) → length (steps_of calls) ≡ length calls
length-steps calls = length-reverse (map step_in calls) ∙ length-map calls step_in

pub steps_take : (calls : List Logged) (i : ℕ) (logged : Logged) → i < length calls → logged ≡ slice_index_or calls i logged → steps_of (take (i + 1) calls) ≡ step_in logged ∷ steps_of (take i calls)
steps_take calls i logged within is =
    let one : take (i + 1) calls ≡ take i calls ++ logged ∷ [] = ap (λ k. take k calls) (add-one i) ∙ take-suc calls i logged within ∙ ap (λ (x : Logged). take i calls ++ x ∷ []) (sym is) in
    ap steps_of one ∙ steps_more (take i calls) logged

-- one call more of what reads give
pub held_more : (base files new : Table) (calls : List Logged) (i : ℕ) (logged : Logged) → i < length calls → logged ≡ slice_index_or calls i logged → Applied (step_in logged) files new → IsHeld base (take i calls) files
    → IsHeld base (take (i + 1) calls) new
held_more base files new calls i logged within is step was = record {
  each = λ n. step.each n ∙ ap (applied (step_in logged) n) (was.each n) ∙ ap (λ (l : List Step). held (content_of base) l n) (sym (steps_take calls i logged within is));
}

-- what is left so far, where the fates are those of all calls
pub record IsLeftSoFar (fates : ℕ → Fate) (base : Table) (calls : List Logged) (files : Table) : Type 0 where
  pub each : (n : List ℕ) → content_of files n ≡ left_by fates (content_of base) (steps_of calls) n

-- where all is settled, that is what reads give
pub settled_left : (fates : ℕ → Fate) (base files : Table) (calls : List Logged) (count : ℕ) → IsSettled calls count → IsHeld base (take count calls) files → IsLeftSoFar fates base (take count calls) files
settled_left fates base files calls count settled was = ⊎_elim
    (λ none. let start : steps_of (take count calls) ≡ [] = ap (λ k. steps_of (take k calls)) none in record { each = λ n. was.each n ∙ ap (λ (l : List Step). held (content_of base) l n) start ∙ ap (λ (l : List Step). left_by fates (content_of base) l n) (sym start) })
    (λ sync. record { each = λ n. was.each n ∙ ap (λ (l : List Step). held (content_of base) l n) sync.1 ∙ ap (λ (l : List Step). left_by fates (content_of base) l n) (sym sync.1) })
    settled.sync

-- one call more of what is left
pub left_more : (fates : ℕ → Fate) (base files before new : Table) (calls : List Logged) (i : ℕ) (logged : Logged) (fate : Fate) → i < length calls → logged ≡ slice_index_or calls i logged → fate ≡ fates i → LeftBy fate before (step_in logged) files new
    → IsHeld base (take i calls) before → IsLeftSoFar fates base (take i calls) files → IsLeftSoFar fates base (take (i + 1) calls) new
left_more fates base files before new calls i logged fate within is same step was left = record {
  each = λ n. step.each n
      ∙ ap (step_left fate (content_of before) (step_in logged) n) (left.each n)
      ∙ ap (λ (c : Content). step_left fate c (step_in logged) n (left_by fates (content_of base) (steps_of (take i calls)) n)) content
      ∙ ap (λ (f : Fate). step_left f (held (content_of base) (steps_of (take i calls))) (step_in logged) n (left_by fates (content_of base) (steps_of (take i calls)) n)) (same ∙ ap fates (sym count))
      ∙ ap (λ (l : List Step). left_by fates (content_of base) l n) (sym (steps_take calls i logged within is));
}
  where
    content : content_of before ≡ held (content_of base) (steps_of (take i calls))
    content = λ j. λ n. was.each n j

    count : length (steps_of (take i calls)) ≡ i
    count = omega (arith, length-steps (take i calls), length-take i calls)

-- all calls
pub left_all : (choice : ℕ) (base files : Table) (calls : List Logged) → IsLeftSoFar (fates_by choice (length calls)) base calls files → IsLeftAfter choice base calls files
left_all choice base files calls left = record { each = left.each }

-- the calls up to a sync are settled
pub settled_here : (calls : List Logged) (i : ℕ) (logged : Logged) → i < length calls → logged ≡ slice_index_or calls i logged → step_in logged ≡ synced → IsSettled calls (i + 1)
settled_here calls i logged within is sync = record {
  within = omega arith;
  sync = inr (steps_of (take i calls), steps_take calls i logged within is ∙ ap (λ s. s ∷ steps_of (take i calls)) sync);
}

-- the steps up to a moment are those of the first calls
pub steps_first : (calls : List Logged) (t : ℕ) → t ≤ length calls → first_steps t (steps_of calls) ≡ steps_of (take t calls)
steps_first calls t within =
    let front = take t calls in
    let rest = drop t calls in
    let parts : steps_of calls ≡ reverse (map step_in rest) ++ steps_of front =
    ap steps_of (sym (take-append-drop t calls)) ∙ ap reverse (map-append step_in front rest) ∙ reverse-append (map step_in front) (map step_in rest) in
    let count : length (reverse (map step_in rest)) ≡ length (steps_of calls) - t =
    omega (arith, length-steps calls, length-reverse (map step_in rest), length-map rest step_in, length-drop t calls) in
    ap (drop (length (steps_of calls) - t)) parts ∙ drop_at (reverse (map step_in rest)) (steps_of front) (length (steps_of calls) - t) count

-- so what a choice leaves is an image
pub image_if : {E : Type 0} (k : Keeping) (choice t stop : ℕ) (files : Table) (script : Course) (result : Result Keeping E) → t ≤ moment_of k → IsLeftAfter choice k.base (take t k.calls) files
    → IfOk result (λ s. s ≡ record { base = files; calls = []; script = script; stop = stop }) → IfOk result (λ s. (i : Image) × LeavesFrom k t i × ((n : List ℕ) → (i n).file ≡ reads_of s n))
image_if k choice t stop files script (Ok s) within left is =
    let d = left_is_image (fates_by choice (length (take t k.calls))) (content_of k.base) (steps_of (take t k.calls)) in
    let same : first_steps t (steps_of k.calls) ≡ steps_of (take t k.calls) = steps_first k.calls t (omega (arith, within, length-steps k.calls)) in
    (d.0, subst (λ (l : List Step). MayLeave (content_of k.base) l d.0) (sym same) d.1, λ n. d.2 n ∙ sym (left.each n) ∙ sym (ap (λ (x : Keeping). reads_of x n) is))
image_if k choice t stop files script (Err e) within left is = tt
