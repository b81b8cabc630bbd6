-- The numbers of parcels behind one another, the last of them, and what of them was taken.
use Rattle.std.specs.Prelude.{◌≡◌, ◌==◌, ◌&&◌, ◌+◌, ◌-◌, ◌≤◌, ℕ, Bool, true, false, if◌then◌else◌, List, [], ◌∷◌, ◌++◌, length, take}
use Rattle.std.proofs.Common.{refl, sym, ◌∙◌, ap, subst, arith, rules, append_assoc, length-append}
use Rattle.std.proofs.Math.Seq.{take-append_seam}
use Rattle.std.proofs.lemmas.List.{append-nil}
use Rattle.std.proofs.lemmas.Bool.{eqb-true, eq-eqb, and_from}
use Rattle.pipeline_bus.specs.Parcels.{is_last, filled, with_events, number_behind, HasNextNumber, numbered, ends_with_last, taken_of}
use Rattle.pipeline_bus.specs.declared.parcel.Parcel.{Parcel}

both_of : (a b : Bool) → (a && b) ≡ true → (a ≡ true) × (b ≡ true)
both_of true b h = (refl, h)
both_of false b h = absurd (search (h, rules))

pub filled_once : (p : Parcel) → filled p ≤ 1
filled_once p = once (is_last p)
  where
    once : (b : Bool) → (if b then 0 else 1) ≤ 1
    once true = omega arith
    once false = omega arith

pub counted_behind : (p : Parcel) (ps : List Parcel) → with_events (p ∷ ps) ≡ filled p + with_events ps
unfolding with_events
counted_behind p ps = refl

pub counted_more : (xs : List Parcel) (p : Parcel) → with_events (xs ++ p ∷ []) ≡ with_events xs + filled p
unfolding with_events
counted_more [] p = omega arith
counted_more (q ∷ xs) p = omega (arith, counted_more xs p)

pub counted_few : (xs : List Parcel) → with_events xs ≤ length xs
unfolding with_events
counted_few [] = omega arith
counted_few (p ∷ xs) = omega (arith, filled_once p, counted_few xs)

numbered-append : (n : ℕ) (xs ys : List Parcel) → numbered n (xs ++ ys) ≡ (numbered n xs && numbered (n + with_events xs) ys)
unfolding numbered with_events
numbered-append n [] ys = let e : n ≡ n + 0 = omega arith in ap (λ k. numbered k ys) e
numbered-append n (p ∷ xs) ys =
    let e : n + filled p + with_events xs ≡ n + (filled p + with_events xs) = omega arith in
    ap (λ b. (p.number == number_behind n p) && b) (numbered-append (n + filled p) xs ys)
    ∙ grouped (p.number == number_behind n p) (numbered (n + filled p) xs) (numbered (n + filled p + with_events xs) ys)
    ∙ ap (λ k. (p.number == number_behind n p) && numbered (n + filled p) xs && numbered k ys) e
  where
    grouped : (a b c : Bool) → (a && (b && c)) ≡ (a && b && c)
    grouped true b c = refl
    grouped false b c = refl

numbered_from : (xs ys : List Parcel) → numbered 0 (xs ++ ys) ≡ (numbered 0 xs && numbered (with_events xs) ys)
numbered_from xs ys = let e : 0 + with_events xs ≡ with_events xs = omega arith in numbered-append 0 xs ys ∙ ap (λ k. numbered 0 xs && numbered k ys) e

pub next_number : (before : List Parcel) (p : Parcel) (rest : List Parcel) → numbered 0 (before ++ p ∷ rest) ≡ true → HasNextNumber before p
unfolding numbered
next_number before p rest h =
    let both = both_of (numbered 0 before) (numbered (with_events before) (p ∷ rest)) (sym (numbered_from before (p ∷ rest)) ∙ h) in
    eqb-true p.number (number_behind (with_events before) p) (both_of (p.number == number_behind (with_events before) p) (numbered (with_events before + filled p) rest) both.1).0

pub numbered_more : (before : List Parcel) (p : Parcel) → numbered 0 before ≡ true → HasNextNumber before p → numbered 0 (before ++ p ∷ []) ≡ true
unfolding numbered
numbered_more before p h e = numbered_from before (p ∷ [])
    ∙ and_from (numbered 0 before) _ h (and_from (p.number == number_behind (with_events before) p) true (eq-eqb p.number (number_behind (with_events before) p) e) refl)

pub ends_more : (before : List Parcel) (p : Parcel) → ends_with_last (before ++ p ∷ []) ≡ is_last p
unfolding ends_with_last
ends_more [] p = refl
ends_more (q ∷ []) p = refl
ends_more (q ∷ r ∷ before) p = ends_more (r ∷ before) p

pub taken_is : (out taken room : List Parcel) → out ≡ taken ++ room → taken_of out room ≡ taken
taken_is out taken room e =
    let l : length out - length room ≡ length taken = omega (arith, ap length e, length-append taken room) in
    ap (λ k. take k out) l ∙ ap (take (length taken)) e ∙ take-append_seam taken room

-- how an end stands behind a parcel that was taken
pub record Taken (out room : List Parcel) (p : Parcel) (out' rest : List Parcel) : Type 0 where
  pub taken : taken_of out' rest ≡ taken_of out room ++ p ∷ []
  pub split : out' ≡ taken_of out' rest ++ rest
  pub numbers : numbered 0 out' ≡ true
  pub end : is_last p ≡ ends_with_last (taken_of out' rest)
  pub next : HasNextNumber (taken_of out room) p

-- the oldest in the room was taken
pub from_room : (out room : List Parcel) (p : Parcel) (rest : List Parcel) → room ≡ p ∷ rest → out ≡ taken_of out room ++ room → numbered 0 out ≡ true → Taken out room p out rest
from_room out room p rest e split h =
    let taken = taken_of out room in
    let whole : out ≡ taken ++ p ∷ rest = split ∙ ap (λ r. taken ++ r) e in
    let parted : out ≡ (taken ++ p ∷ []) ++ rest = whole ∙ sym (append_assoc taken (p ∷ []) rest) in
    let is : taken_of out rest ≡ taken ++ p ∷ [] = taken_is out (taken ++ p ∷ []) rest parted in
    record {
      taken = is;
      split = parted ∙ ap (λ t. t ++ rest) (sym is);
      numbers = h;
      end = sym (ends_more taken p) ∙ ap ends_with_last (sym is);
      next = next_number taken p rest (ap (numbered 0) (sym whole) ∙ h);
    }

-- nothing waited, and the oldest in the ring was taken
pub from_ring : (out room : List Parcel) (p : Parcel) (out' : List Parcel) → room ≡ [] → out ≡ taken_of out room ++ room → numbered 0 out ≡ true
    → out' ≡ out ++ p ∷ [] → HasNextNumber out p → Taken out room p out' room
from_ring out room p out' e split h more next =
    let taken = taken_of out room in
    let all : out ≡ taken = split ∙ ap (λ r. taken ++ r) e ∙ append-nil taken in
    let parted : out' ≡ (taken ++ p ∷ []) ++ room = more ∙ ap (λ t. t ++ p ∷ []) all ∙ sym (append-nil (taken ++ p ∷ [])) ∙ ap (λ r. (taken ++ p ∷ []) ++ r) (sym e) in
    let is : taken_of out' room ≡ taken ++ p ∷ [] = taken_is out' (taken ++ p ∷ []) room parted in
    record {
      taken = is;
      split = parted ∙ ap (λ t. t ++ room) (sym is);
      numbers = ap (numbered 0) more ∙ numbered_more out p h next;
      end = sym (ends_more taken p) ∙ ap ends_with_last (sym is);
      next = subst (λ t. HasNextNumber t p) all next;
    }

-- how an end stands behind a parcel that was moved into the room
pub record Shown (out room out' room' : List Parcel) : Type 0 where
  pub taken : taken_of out' room' ≡ taken_of out room
  pub split : out' ≡ taken_of out' room' ++ room'
  pub numbers : numbered 0 out' ≡ true

pub to_room : (out room : List Parcel) (p : Parcel) (out' room' : List Parcel) → out ≡ taken_of out room ++ room → numbered 0 out ≡ true
    → out' ≡ out ++ p ∷ [] → room' ≡ room ++ p ∷ [] → HasNextNumber out p → Shown out room out' room'
to_room out room p out' room' split h more added next =
    let taken = taken_of out room in
    let parted : out' ≡ taken ++ room' = more ∙ ap (λ t. t ++ p ∷ []) split ∙ append_assoc taken room (p ∷ []) ∙ ap (λ r. taken ++ r) (sym added) in
    let is : taken_of out' room' ≡ taken = taken_is out' taken room' parted in
    record {
      taken = is;
      split = parted ∙ ap (λ t. t ++ room') (sym is);
      numbers = ap (numbered 0) more ∙ numbered_more out p h next;
    }
