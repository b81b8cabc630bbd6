-- Links that are taken out of their places one after another, and that go back.
use Rattle.std.specs.Prelude.{bytes_eq, if◌then◌else◌}
use Rattle.std.proofs.lemmas.Option.{none-some}
use Rattle.std.proofs.Common.{◌≡◌, ℕ, List, [], ◌∷◌, ◌++◌, refl, sym, ap, subst, ◌∙◌, Bool, true, false, Option, Some, None}
use Rattle.foreign_parts.specs.Links.{is_empty, is_out, link_of, put, with_taker}
use Rattle.foreign_parts.specs.declared.links.LinkPlace.{LinkPlace}
use Rattle.pipeline_bus.specs.declared.link.LinkTaker.{LinkTaker}
use Rattle.graph_checks.specs.Linked.{Linked, LinksMayGoBack, all_taken, links_back, links_there, one_there}

-- what lay in a place is put back into it
back_case : (b : Bool) (a : List ℕ) (x : Option LinkTaker) (p : LinkPlace) (ps : List LinkPlace) → bytes_eq a p.address ≡ b → (if b then p.taker else link_of a ps) ≡ x → (link_of a ps ≡ x → put a x (put a None ps) ≡ ps)
    → put a x (if b then with_taker None p ∷ ps else p ∷ put a None ps) ≡ p ∷ ps
back_case true a x p ps is lay more = ap (λ t. if t then with_taker x p ∷ ps else with_taker None p ∷ put a x ps) is ∙ ap (λ y. with_taker y p ∷ ps) (sym lay)
back_case false a x p ps is lay more = ap (λ t. if t then with_taker x p ∷ put a None ps else p ∷ put a x (put a None ps)) is ∙ ap (λ qs. p ∷ qs) (more lay)

put_back : (a : List ℕ) (x : Option LinkTaker) (ps : List LinkPlace) → link_of a ps ≡ x → put a x (put a None ps) ≡ ps
put_back a x [] lay = refl
put_back a x (p ∷ ps) lay = back_case (bytes_eq a p.address) a x p ps refl lay (put_back a x ps)

-- where nothing lies nothing is taken
none_case : (b : Bool) (a : List ℕ) (p : LinkPlace) (ps : List LinkPlace) → (if b then p.taker else link_of a ps) ≡ None → (link_of a ps ≡ None → put a None ps ≡ ps) → (if b then with_taker None p ∷ ps else p ∷ put a None ps) ≡ p ∷ ps
none_case true a p ps lay more = ap (λ y. with_taker y p ∷ ps) (sym lay)
none_case false a p ps lay more = ap (λ qs. p ∷ qs) (more lay)

none_taken : (a : List ℕ) (ps : List LinkPlace) → link_of a ps ≡ None → put a None ps ≡ ps
none_taken a [] lay = refl
none_taken a (p ∷ ps) lay = none_case (bytes_eq a p.address) a p ps lay (none_taken a ps)

-- a link that was taken is out
out_case : (b : Bool) (a : List ℕ) (t : LinkTaker) (p : LinkPlace) (ps : List LinkPlace) → bytes_eq a p.address ≡ b → (if b then p.taker else link_of a ps) ≡ Some t → (link_of a ps ≡ Some t → is_out a (put a None ps) ≡ true)
    → is_out a (if b then with_taker None p ∷ ps else p ∷ put a None ps) ≡ true
out_case true a t p ps is lay more = ap (λ h. if h then true else is_out a ps) is
out_case false a t p ps is lay more = ap (λ h. if h then is_empty p.taker else is_out a (put a None ps)) is ∙ more lay

taken_out : (a : List ℕ) (t : LinkTaker) (ps : List LinkPlace) → link_of a ps ≡ Some t → is_out a (put a None ps) ≡ true
taken_out a t [] lay = absurd (none-some t lay)
taken_out a t (p ∷ ps) lay = out_case (bytes_eq a p.address) a t p ps refl lay (taken_out a t ps)

-- the first of several, and those behind it
module _ (a : List ℕ) (ps : List LinkPlace) (behind : Linked) (left : List LinkPlace) (is : links_back behind left ≡ put a None ps) where
  first_back : (x : Option LinkTaker) → link_of a ps ≡ x → links_back (one_there a x ++ behind) left ≡ ps
  first_back (Some t) lay = ap (put a (Some t)) is ∙ put_back a (Some t) ps lay
  first_back None lay = is ∙ none_taken a ps lay

  first_may : (x : Option LinkTaker) → link_of a ps ≡ x → LinksMayGoBack behind left → LinksMayGoBack (one_there a x ++ behind) left
  first_may (Some t) lay may = (may, subst (λ qs. is_out a qs ≡ true) (sym is) (taken_out a t ps lay))
  first_may None lay may = may

-- all links that were taken go back, and the places are as they were
pub links_restored : (addresses : List (List ℕ)) (ps : List LinkPlace) → links_back (links_there addresses ps) (all_taken addresses ps) ≡ ps
links_restored [] ps = refl
links_restored (a ∷ addresses) ps = first_back a ps (links_there addresses (put a None ps)) (all_taken addresses (put a None ps)) (links_restored addresses (put a None ps)) (link_of a ps) refl

pub links_may_go_back : (addresses : List (List ℕ)) (ps : List LinkPlace) → LinksMayGoBack (links_there addresses ps) (all_taken addresses ps)
links_may_go_back [] ps = tt
links_may_go_back (a ∷ addresses) ps =
    first_may a ps (links_there addresses (put a None ps)) (all_taken addresses (put a None ps)) (links_restored addresses (put a None ps)) (link_of a ps) refl (links_may_go_back addresses (put a None ps))

-- the last link goes back first
pub last_link_back : (ls : Linked) (l : List ℕ × LinkTaker) (ps : List LinkPlace) → links_back (ls ++ l ∷ []) ps ≡ links_back ls (put l.0 (Some l.1) ps)
last_link_back [] l ps = refl
last_link_back (x ∷ ls) l ps = ap (put x.0 (Some x.1)) (last_link_back ls l ps)

pub last_link_may : (ls : Linked) (l : List ℕ × LinkTaker) (ps : List LinkPlace) → LinksMayGoBack (ls ++ l ∷ []) ps → LinksMayGoBack ls (put l.0 (Some l.1) ps) × (is_out l.0 ps ≡ true)
last_link_may [] l ps may = may
last_link_may (x ∷ ls) l ps (others, out) =
    let (rest, first) = last_link_may ls l ps others in
    ((rest, subst (λ qs. is_out x.0 qs ≡ true) (last_link_back ls l ps) out), first)

pub taken_may_go_back : (addresses : List (List ℕ)) (old new : List LinkPlace) (ls : Linked) → ls ≡ links_there addresses old → new ≡ all_taken addresses old → LinksMayGoBack ls new
taken_may_go_back addresses old new ls are left =
    subst (λ xs. LinksMayGoBack xs new) (sym are) (subst (LinksMayGoBack (links_there addresses old)) (sym left) (links_may_go_back addresses old))
