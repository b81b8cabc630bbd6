-- How changes of told lists compose.
use Rattle.std.proofs.Common.{◌≡◌, ℕ, List, [], ◌++◌, Option, Some, None, length, refl, sym, ap, ◌∙◌, subst, append_assoc, append-nil, length-append, arith}
use Rattle.io_traits.specs.Telling.{Grows, GrowsInPart, Shrinks, IsWithin}

-- a told list that stays grows by nothing
pub grows_same : {X : Type 0} (a : Option (List X)) → Grows a a []
grows_same a = record { each = λ now is. (now, is, sym (append-nil now)) }

-- a list that is told
pub grows_some : {X : Type 0} {old new : List X} (more : List X) → new ≡ old ++ more → Grows (Some old) (Some new) more
grows_some {old = old} more is = record { each = λ now told. (old, refl, some_same told ∙ is) }
  where
    some_same : {X : Type 0} {a b : List X} → Some a ≡ Some b → b ≡ a
    some_same told = cc

pub grows_by : {X : Type 0} {a b : Option (List X)} {xs ys : List X} → xs ≡ ys → Grows a b xs → Grows a b ys
grows_by {a = a} {b = b} is grows = subst (Grows a b) is grows

pub grows_then : {X : Type 0} {a b c : Option (List X)} {xs ys : List X} → Grows a b xs → Grows b c ys → Grows a c (xs ++ ys)
grows_then {xs = xs} {ys = ys} one other = record {
  each = λ now is.
      let o = other.each now is in
      let f = one.each o.0 o.1 in
      (f.0, f.1, o.2 ∙ ap (λ t. t ++ ys) f.2 ∙ append_assoc f.0 xs ys);
}

-- and then by nothing
pub grows_still : {X : Type 0} {a b c : Option (List X)} {xs : List X} → Grows a b xs → Grows b c [] → Grows a c xs
grows_still {xs = xs} one other = grows_by (append-nil xs) (grows_then one other)

pub shrinks_same : {X : Type 0} (a : Option (List X)) → Shrinks a a []
shrinks_same a = record { each = λ rest is. is }

pub shrinks_by : {X : Type 0} {a b : Option (List X)} {xs ys : List X} → xs ≡ ys → Shrinks a b xs → Shrinks a b ys
shrinks_by {a = a} {b = b} is shrinks = subst (Shrinks a b) is shrinks

pub shrinks_then : {X : Type 0} {a b c : Option (List X)} {xs ys : List X} → Shrinks a b xs → Shrinks b c ys → Shrinks a c (xs ++ ys)
shrinks_then {xs = xs} {ys = ys} one other = record { each = λ rest is. one.each (ys ++ rest) (other.each rest is) ∙ ap Some (sym (append_assoc xs ys rest)) }

pub shrinks_still : {X : Type 0} {a b c : Option (List X)} {xs : List X} → Shrinks a b xs → Shrinks b c [] → Shrinks a c xs
shrinks_still {xs = xs} one other = shrinks_by (append-nil xs) (shrinks_then one other)

-- by the first part of a list
pub in_part : {X : Type 0} {a b : Option (List X)} {all : List X} (part rest : List X) → all ≡ part ++ rest → Grows a b part → GrowsInPart a b all
in_part part rest whole grows = record { part = part; rest = rest; whole = whole; grows = grows }

pub in_part_none : {X : Type 0} {a b : Option (List X)} (all : List X) → Grows a b [] → GrowsInPart a b all
in_part_none all grows = in_part [] all refl grows

pub in_part_whole : {X : Type 0} {a b : Option (List X)} {all : List X} → Grows a b all → GrowsInPart a b all
in_part_whole {all = all} grows = in_part all [] (sym (append-nil all)) grows

-- a part of a list is a part of a longer one
pub in_part_of : {X : Type 0} {a b : Option (List X)} {all : List X} (more : List X) → GrowsInPart a b all → GrowsInPart a b (all ++ more)
in_part_of more grows = in_part grows.part (grows.rest ++ more) (ap (λ t. t ++ more) grows.whole ∙ append_assoc grows.part grows.rest more) grows.grows

pub in_part_still : {X : Type 0} {a b c : Option (List X)} {all : List X} → GrowsInPart a b all → Grows b c [] → GrowsInPart a c all
in_part_still one other = in_part one.part one.rest one.whole (grows_still one.grows other)

-- some, and then a part of those that follow
pub in_part_then : {X : Type 0} {a b c : Option (List X)} {before more : List X} → Grows a b before → GrowsInPart b c more → GrowsInPart a c (before ++ more)
in_part_then {before = before} one other =
    in_part (before ++ other.part) other.rest
    (ap (λ t. before ++ t) other.whole ∙ sym (append_assoc before other.part other.rest))
    (grows_then one other.grows)

-- the first bytes of all are no more than all
pub within_front : (flushed held : List ℕ) → IsWithin (Some (flushed ++ held)) (length flushed)
within_front flushed held = record { most = λ now told. omega (arith, length-append flushed held, ap length (some_same told)) }
  where
    some_same : {a b : List ℕ} → Some a ≡ Some b → a ≡ b
    some_same told = cc

-- of bytes that aren't told nothing is said
pub within_untold : (flushed : ℕ) → IsWithin None flushed
within_untold flushed = record { most = λ now told. absurd (untold now told) }
  where
    untold : (now : List ℕ) → None ≡ Some now → ⊥
    untold now told = cc
