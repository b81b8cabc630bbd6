-- The links on which something outside of the pipelines sends, each in the place that a rack keeps for it.
use Rattle.std.specs.Prelude.{ℕ, suc, List, [], ◌∷◌, Bool, true, false, if◌then◌else◌, bytes_eq, map, Option, Some, None}
use Rattle.pipeline_bus.specs.declared.link.LinkTaker.{LinkTaker}
use Rattle.foreign_parts.specs.declared.links.LinkPlace.{LinkPlace}

-- the addresses whose links were handed in
abbrev pub addresses_of : List LinkPlace → List (List ℕ)
addresses_of ps = map (λ p. p.address) ps

-- the place of a link that is handed in
abbrev pub placed : List ℕ → LinkTaker → LinkPlace
placed a t = record { address = a; taker = Some t }

-- the number of the place of an address, or how many places there are
abbrev pub place : List ℕ → List LinkPlace → ℕ
place a [] = 0
place a (p ∷ ps) = if bytes_eq a p.address then 0 else suc (place a ps)

-- the link of an address, where it lies in its place
abbrev pub link_of : List ℕ → List LinkPlace → Option LinkTaker
link_of a [] = None
link_of a (p ∷ ps) = if bytes_eq a p.address then p.taker else link_of a ps

abbrev pub is_empty : Option LinkTaker → Bool
is_empty (Some t) = false
is_empty None = true

-- the place of an address is there, and its link was taken and not put back
abbrev pub is_out : List ℕ → List LinkPlace → Bool
is_out a [] = false
is_out a (p ∷ ps) = if bytes_eq a p.address then is_empty p.taker else is_out a ps

-- what lies in a place
abbrev pub with_taker : Option LinkTaker → LinkPlace → LinkPlace
with_taker x p = record { address = p.address; taker = x }

-- a link is put into the place of its address, or nothing is
abbrev pub put : List ℕ → Option LinkTaker → List LinkPlace → List LinkPlace
put a x [] = []
put a x (p ∷ ps) = if bytes_eq a p.address then with_taker x p ∷ ps else p ∷ put a x ps
