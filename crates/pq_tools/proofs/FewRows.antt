-- Few rows have numbers in a new queue.
use Rattle.std.proofs.Common.{◌≡◌, ◌≤◌, ◌<◌, ℕ, suc, ◌+◌, ◌-◌, ◌^◌, ◌==◌, ◌||◌, nat_lt, not, Bool, true, false, List, [], ◌∷◌, length, refl, ap, arith}
use Rattle.std.proofs.Math.Path.{ap₂}
use Rattle.std.proofs.lemmas.Bool.Decides.{nat_tests}
use Rattle.queue_files.specs.Folders.{Folder}
use Rattle.queue_files.specs.Found.{Row}
use Rattle.queue_core.specs.Calls.{end_of}
use Rattle.queue_core.specs.Views.{OpenPageView, QueueView}
use Rattle.queue_core.specs.Writing.{behind_append, behind_write, is_spent_with, made_ready, needs_page}
use Rattle.pq_tools.specs.Numbers.{new_queue, row_size, runs_out, spends_numbers}
use Rattle.pq_tools.specs.Salvage.{salvage}

-- a row has the next number, in the head page or in the one behind it
next_row : (needed : Bool) (size : ℕ) (v : QueueView) → ((behind_append size (made_ready needed v)).top.number ≤ suc v.top.number) × (end_of (behind_append size (made_ready needed v)).top ≡ suc (end_of v.top))
next_row true size v = (omega arith, omega arith)
next_row false size v = (omega arith, omega arith)

has_number : (needed : Bool) (top : OpenPageView) → end_of top < 2 ^ 63 - 1 → suc top.number < 2 ^ 32 - 1 → is_spent_with needed top ≡ false
unfolding is_spent_with
has_number true top row page =
    let last : (end_of top == 2 ^ 63 - 1) ≡ false = grind (arith, nat_tests, row) in
    let more : nat_lt (suc top.number) (2 ^ 32 - 1) ≡ true = grind (arith, nat_tests, page) in
    ap₂ (λ (a b : Bool). a || not b) last more
has_number false top row page =
    let last : (end_of top == 2 ^ 63 - 1) ≡ false = grind (arith, nat_tests, row) in
    ap (λ (a : Bool). a || false) last

few_fit : (v : QueueView) (rows : List Row) → v.top.number + length rows < 2 ^ 32 - 1 → end_of v.top + length rows < 2 ^ 63 → runs_out v rows ≡ false
few_fit v [] pages numbers = refl
few_fit v (r ∷ rows) pages numbers =
    let next = next_row (needs_page (row_size r) v) (row_size r) v in
    ap₂ (λ (a b : Bool). a || b) (has_number (needs_page (row_size r) v) v.top (omega (arith, numbers)) (omega (arith, pages)))
    (few_fit (behind_write (row_size r) v) rows (omega (arith, pages, next.0)) (omega (arith, numbers, next.1)))

pub few_have_numbers : (target : List ℕ) (folder : Folder) → length (salvage folder) < 2 ^ 32 - 1 → spends_numbers target folder ≡ false
few_have_numbers target folder few = few_fit (new_queue target) (salvage folder) (omega (arith, few)) (omega (arith, few))
