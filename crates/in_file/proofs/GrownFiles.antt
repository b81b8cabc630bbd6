-- What was read stands in a file that only grows.
use Rattle.std.proofs.Common.{◌≡◌, ◌<◌, min, ⊎_elim, ℕ, zero, suc, ℤ, Bool, true, false, List, [], ◌∷◌, ◌++◌, length, take, drop, refl, sym, ap, ◌∙◌, arith, append-nil, length-append, length-take, length-drop}
use Rattle.std.proofs.Math.Seq.{take-add}
use Rattle.std.proofs.lemmas.List.{take-append-le, drop-append-le, drop-drop}
use Rattle.std.proofs.lemmas.Bool.{cases_lt}
use Rattle.io_traits.specs.Reads.{bytes_of}
use Rattle.in_lines.specs.Polls.{joined}
use Rattle.in_lines.proofs.Receiving.{joined-append}
use Rattle.in_file.specs.Views.{taken}
use Rattle.in_file.specs.Looks.{bytes_next, piece_of, room_at}
use Rattle.in_file.specs.Growing.{LookStands, GrowthStands}
use Rattle.in_file.proofs.Polling.{one_poll}

-- the bytes of what a look found
found_joined : (ends : Bool) (bytes : List ℕ) (moment : ℤ) → joined (one_poll moment (piece_of ends bytes)) ≡ bytes
found_joined true [] moment = refl
found_joined false [] moment = refl
found_joined ends (b ∷ bytes) moment = append-nil (b ∷ bytes)

front_again : (room : ℕ) (xs : List ℕ) → take (length (take room xs)) xs ≡ take room xs
front_again zero xs = refl
front_again (suc room) [] = refl
front_again (suc room) (x ∷ xs) = ap (λ t. x ∷ t) (front_again room xs)

pub look_stands : LookStands
look_stands content w polls given moment h still stands =
    let file = bytes_of (content w.path) in
    let old = joined polls in
    let bytes = bytes_next content w in
    let found = one_poll moment (piece_of w.ends bytes) in
    let all : joined (polls ++ found) ≡ old ++ bytes = joined-append polls found still ∙ ap (λ t. old ++ t) (found_joined w.ends bytes moment) in
    let behind : drop (length old) (drop w.began file) ≡ drop (taken w) file = drop-drop (length old) w.began file ∙ ap (λ n. drop n file) (sym h.places) in
    ap (λ t. take (length t) (drop w.began file)) all ∙ ap (λ n. take n (drop w.began file)) (length-append old bytes) ∙ take-add (length old) (length bytes) (drop w.began file)
    ∙ ap (λ t. t ++ take (length bytes) (drop (length old) (drop w.began file))) stands ∙ ap (λ t. old ++ take (length bytes) t) behind
    ∙ ap (λ t. old ++ t) (front_again (room_at (taken w)) (drop (taken w) file)) ∙ sym all

pub growth_stands : GrowthStands
growth_stands file more began polls stands =
    let old = joined polls in
    let long : min (length old) (length (drop began file)) ≡ length old = sym (length-take (length old) (drop began file)) ∙ ap length stands in
    let left = length-drop began file in
    ⊎_elim
    (λ (short : length file < began).
    let none : length old ≡ 0 = omega (arith, long, left, short) in
    ap (λ n. take n (drop began (file ++ more))) none ∙ sym (ap (λ n. take n (drop began file)) none) ∙ stands)
    (λ within. ap (take (length old)) (drop-append-le began file more (omega (arith, within))) ∙ take-append-le (length old) (drop began file) more (omega (arith, long)) ∙ stands)
    (cases_lt (length file) began)
