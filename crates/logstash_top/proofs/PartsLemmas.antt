-- Parts that are written one after another.
use Rattle.std.proofs.Common.{◌≡◌, ◌<◌, ◌+◌, ℕ, suc, List, [], ◌∷◌, ◌++◌, length, drop, get_or, Option, sym, ap, ◌∙◌, subst, append_assoc, append-nil, refl, add-one, Bor}
use Rattle.std.proofs.Math.Seq.{drop-cons}
use Rattle.io_traits.specs.Telling.{Grows, GrowsInPart}
use Rattle.io_traits.proofs.Growth.{in_part_of, in_part_then}
use Rattle.logstash_top.specs.Parts.{parts_text}

parts_text-cons : (part : Bor (List ℕ)) (parts : List (Bor (List ℕ))) → parts_text (part ∷ parts) ≡ part.now ++ parts_text parts
parts_text-cons part [] = sym (append-nil part.now)
parts_text-cons part (next ∷ parts) = refl

-- the part at i stands before those behind it
pub next_part : (parts : List (Bor (List ℕ))) (i : ℕ) (d : Bor (List ℕ)) (text : List ℕ) → i < length parts → text ≡ (get_or parts i d).now → parts_text (drop i parts) ≡ text ++ parts_text (drop (i + 1) parts)
next_part parts i d text within is =
    ap parts_text (drop-cons parts i d within) ∙ parts_text-cons (get_or parts i d) (drop (suc i) parts) ∙ ap (λ t. t ++ parts_text (drop (suc i) parts)) (sym is) ∙ ap (λ n. text ++ parts_text (drop n parts)) (sym (add-one i))

pub part_more : (all written behind text later : List ℕ) → all ≡ written ++ behind → behind ≡ text ++ later → all ≡ (written ++ text) ++ later
part_more all written behind text later whole next = whole ∙ ap (λ t. written ++ t) next ∙ sym (append_assoc written text later)

pub in_next_part : {a b c : Option (List ℕ)} (all written behind text later : List ℕ) → all ≡ written ++ behind → behind ≡ text ++ later → Grows a b written → GrowsInPart b c text → GrowsInPart a c all
in_next_part {a = a} {c = c} all written behind text later whole next one other =
    subst (GrowsInPart a c) (sym (part_more all written behind text later whole next)) (in_part_of later (in_part_then one other))
