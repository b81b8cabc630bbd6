-- Fronts of lists, and the windows of a block.
use Rattle.std.proofs.Common.{◌≡◌, ⊎_elim, ℕ, ◌+◌, ◌-◌, ◌≤◌, List, length, take, drop, sym, ◌∙◌, ap, arith, length-take, length-drop}
use Rattle.std.proofs.lemmas.Bool.{cases_lt}
use Rattle.std.proofs.lemmas.List.{take_min, take-take, take_all, drop-take, drop-drop}
use Rattle.queue_page.specs.Views.{PageBufferView}
use Rattle.queue_page.specs.Blocks.{IsPart, IsFront, window_of, left_of}

-- a front by its own length
pub own_length : (n : ℕ) (w xs : List ℕ) → w ≡ take n xs → w ≡ take (length w) xs
own_length n w xs is = is ∙ sym (take_min n xs) ∙ ap (λ (k : ℕ). take k xs) (sym (ap length is ∙ length-take n xs))

-- of two fronts the shorter one
take_swap : (m n : ℕ) (xs : List ℕ) → take m (take n xs) ≡ take n (take m xs)
take_swap m n xs = ⊎_elim
    (λ less. take-take m n xs (omega arith) ∙ sym (take_all n (take m xs) (omega (arith, length-take m xs))))
    (λ more. take_all m (take n xs) (omega (arith, length-take n xs)) ∙ sym (take-take n m xs (omega arith)))
    (cases_lt m n)

left_is : (file : List ℕ) (place end : ℕ) → place ≤ end → left_of file place end ≡ take (end - place) (drop place file)
left_is file place end order = let sum : end ≡ place + (end - place) = omega arith in ap (λ (e : ℕ). drop place (take e file)) sum ∙ drop-take place (end - place) file

pub length-left : (file : List ℕ) (place end : ℕ) → end ≤ length file → length (left_of file place end) ≡ end - place
length-left file place end within = omega (arith, length-drop place (take end file), length-take end file)

part_from : (file : List ℕ) (block : PageBufferView) (place : ℕ) → IsPart file block → block.place ≤ place → place ≤ block.place + length block.bytes
    → drop (place - block.place) block.bytes ≡ take (length block.bytes - (place - block.place)) (drop place file)
part_from file block place part low high =
    let k = place - block.place in
    let more = length block.bytes - k in
    let sum : length block.bytes ≡ k + more = omega arith in
    let there : block.place + k ≡ place = omega arith in
    ap (drop k) part ∙ ap (λ (n : ℕ). drop k (take n (drop block.place file))) sum ∙ drop-take k more (drop block.place file)
    ∙ ap (take more) (drop-drop k block.place file ∙ ap (λ (p : ℕ). drop p file) there)

-- a window of a part of a file is a front of what is left of the file there
pub window_front : (file : List ℕ) (block : PageBufferView) (place count end : ℕ) → IsPart file block → block.place ≤ place → place + count ≤ block.place + length block.bytes → place + count ≤ end
    → end ≤ length file → IsFront (left_of file place end) count (window_of block place end)
window_front file block place count end part low held order within =
    let k = place - block.place in
    let more = length block.bytes - k in
    let left = left_of file place end in
    let w = window_of block place end in
    let is : w ≡ take more left =
    ap (take (end - place)) (part_from file block place part low (omega arith)) ∙ take_swap (end - place) more (drop place file) ∙ ap (take more) (sym (left_is file place end (omega arith))) in
    record { is = own_length more w left is; enough = omega (arith, ap length is, length-take more left) }

-- what a read gave is a part of the file
pub read_part : (file into : List ℕ) (place room n : ℕ) → take n into ≡ take room (drop place file) → IsPart file (record { place = place; bytes = take n into })
read_part file into place room n is = own_length room (take n into) (drop place file) is

pub read_front : (file into : List ℕ) (place count end room n : ℕ) → take n into ≡ take room (drop place file) → count ≤ room → place + count ≤ end → end ≤ length file
    → IsFront (left_of file place end) count (window_of (record { place = place; bytes = take n into }) place end)
read_front file into place count end room n is wide order within =
    window_front file (record { place = place; bytes = take n into }) place count end (read_part file into place room n is) (omega arith)
    (omega (arith, ap length is, length-take room (drop place file), length-drop place file)) order within
