-- The place of the link of an address.
use Rattle.std.specs.Prelude.{◌||◌, bytes_eq, nat_lt, if◌then◌else◌}
use Rattle.std.specs.List.{list_any}
use Rattle.std.proofs.lemmas.Bool.{ltb-true, ltb-false}
use Rattle.std.proofs.Common.{◌≡◌, ℕ, suc, ◌<◌, ◌≤◌, List, [], ◌∷◌, length, get_or, slice_set, refl, ap, subst, ◌∙◌, arith, Bool, true, false, Option, None}
use Rattle.pipeline_bus.specs.declared.link.LinkTaker.{LinkTaker}
use Rattle.foreign_parts.specs.Links.{addresses_of, place, link_of, put, with_taker}
use Rattle.foreign_parts.specs.declared.links.LinkPlace.{LinkPlace}

-- what is read at the place of an address
read_case : {A : Type 0} (f : LinkPlace → A) (p t : LinkPlace) (ps : List LinkPlace) (n : ℕ) (rest : A) → (t ≡ get_or ps n t → n < length ps → f t ≡ rest)
    → (b : Bool) → t ≡ get_or (p ∷ ps) (if b then 0 else suc n) t → (if b then 0 else suc n) < suc (length ps) → f t ≡ (if b then f p else rest)
read_case f p t ps n rest next true at below = ap f at
read_case f p t ps n rest next false at below = next at (omega (arith, below))

link_at : (a : List ℕ) (ps : List LinkPlace) (t : LinkPlace) → t ≡ get_or ps (place a ps) t → place a ps < length ps → t.taker ≡ link_of a ps
link_at a [] t at below = absurd (omega (arith, below))
link_at a (p ∷ ps) t at below = read_case (λ q. q.taker) p t ps (place a ps) (link_of a ps) (link_at a ps t) (bytes_eq a p.address) at below

put_case : (x : Option LinkTaker) (p t s : LinkPlace) (ps : List LinkPlace) (n : ℕ) (rest : List LinkPlace) → s ≡ with_taker x t → (t ≡ get_or ps n t → n < length ps → slice_set ps n s ≡ rest)
    → (b : Bool) → t ≡ get_or (p ∷ ps) (if b then 0 else suc n) t → (if b then 0 else suc n) < suc (length ps) → slice_set (p ∷ ps) (if b then 0 else suc n) s ≡ (if b then with_taker x p ∷ ps else p ∷ rest)
put_case x p t s ps n rest is next true at below = ap (λ y. y ∷ ps) (is ∙ ap (with_taker x) at)
put_case x p t s ps n rest is next false at below = ap (λ ys. p ∷ ys) (next at (omega (arith, below)))

put_at : (a : List ℕ) (x : Option LinkTaker) (ps : List LinkPlace) (s t : LinkPlace) → s ≡ with_taker x t → t ≡ get_or ps (place a ps) t → place a ps < length ps → slice_set ps (place a ps) s ≡ put a x ps
put_at a x [] s t is at below = refl
put_at a x (p ∷ ps) s t is at below = put_case x p t s ps (place a ps) (put a x ps) is (put_at a x ps s t is) (bytes_eq a p.address) at below

past_case : {A : Type 0} (b : Bool) (x rest d : A) (n p : ℕ) → (n ≤ p → rest ≡ d) → suc n ≤ (if b then 0 else suc p) → (if b then x else rest) ≡ d
past_case true x rest d n p next past = absurd (omega (arith, past))
past_case false x rest d n p next past = next (omega (arith, past))

-- an address without a place
pub link_past : (a : List ℕ) (ps : List LinkPlace) → length ps ≤ place a ps → link_of a ps ≡ None
link_past a [] past = refl
link_past a (p ∷ ps) past = past_case (bytes_eq a p.address) p.taker (link_of a ps) None (length ps) (place a ps) (link_past a ps) past

pub put_past : (a : List ℕ) (x : Option LinkTaker) (ps : List LinkPlace) → length ps ≤ place a ps → put a x ps ≡ ps
put_past a x [] past = refl
put_past a x (p ∷ ps) past = past_case (bytes_eq a p.address) (with_taker x p ∷ ps) (p ∷ put a x ps) (p ∷ ps) (length ps) (place a ps) (λ q. ap (λ ys. p ∷ ys) (put_past a x ps q)) past

known_case : (b known : Bool) (n p : ℕ) → (p < n → known ≡ true) → (if b then 0 else suc p) < suc n → (b || known) ≡ true
known_case true known n p next below = refl
known_case false known n p next below = next (omega (arith, below))

known_in : (a : List ℕ) (ps : List LinkPlace) → place a ps < length ps → list_any (bytes_eq a) (addresses_of ps) ≡ true
known_in a [] below = absurd (omega (arith, below))
known_in a (p ∷ ps) below = known_case (bytes_eq a p.address) (list_any (bytes_eq a) (addresses_of ps)) (length ps) (place a ps) (known_in a ps) below

none_case : (b known : Bool) (n p : ℕ) → (n ≤ p → known ≡ false) → suc n ≤ (if b then 0 else suc p) → (b || known) ≡ false
none_case true known n p next past = absurd (omega (arith, past))
none_case false known n p next past = next (omega (arith, past))

known_past : (a : List ℕ) (ps : List LinkPlace) → length ps ≤ place a ps → list_any (bytes_eq a) (addresses_of ps) ≡ false
known_past a [] past = refl
known_past a (p ∷ ps) past = none_case (bytes_eq a p.address) (list_any (bytes_eq a) (addresses_of ps)) (length ps) (place a ps) (known_past a ps) past

known_by : (b : Bool) (a : List ℕ) (ps : List LinkPlace) → nat_lt (place a ps) (length ps) ≡ b → list_any (bytes_eq a) (addresses_of ps) ≡ b
known_by true a ps is = known_in a ps (ltb-true (place a ps) (length ps) is)
known_by false a ps is = known_past a ps (ltb-false (place a ps) (length ps) is)

pub known_below : (a : List ℕ) (ps : List LinkPlace) → list_any (bytes_eq a) (addresses_of ps) ≡ nat_lt (place a ps) (length ps)
known_below a ps = known_by (nat_lt (place a ps) (length ps)) a ps refl

-- the place of an address by its number, where this was found
module _ (a : List ℕ) (ps : List LinkPlace) (n : ℕ) (t : LinkPlace) (at : n ≡ place a ps) (below : n < length ps) (is : t ≡ get_or ps n t) where
  pub link_found : t.taker ≡ link_of a ps
  link_found = link_at a ps t (is ∙ ap (λ m. get_or ps m t) at) (subst (λ m. m < length ps) at below)

  pub put_found : (x : Option LinkTaker) (s : LinkPlace) → s ≡ with_taker x t → slice_set ps n s ≡ put a x ps
  put_found x s made = ap (λ m. slice_set ps m s) at ∙ put_at a x ps s t made (is ∙ ap (λ m. get_or ps m t) at) (subst (λ m. m < length ps) at below)
