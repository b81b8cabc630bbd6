-- The order of keys.
use Rattle.std.proofs.Common.{◌≡◌, ◌≢◌, ℕ, List, [], ◌∷◌, true, false, refl, ap, ◌∙◌, rules}
use Rattle.std.specs.Ordering.{ordering_reverse, is_lt, is_eq}
use Rattle.std.specs.declared.cmp.Ordering.{Ordering}
use Rattle.std.specs.declared.cmp.Ordering.TheVariants.{Less, Equal, Greater}
use Rattle.std.specs.Cmp.Lexicographic.{nat_list_cmp_total}
use Rattle.std.specs.Cmp.{tied_itself}
use Rattle.std.specs.FinMap.{slice_cmp-IsAntisymmetric, nat_cmp-IsAntisymmetric}
use Rattle.plain_data.specs.Keys.{text_cmp, same_key, Below}

-- the three cases of an order
pub order_cases : {P : Type 0} (o : Ordering) → (o ≡ Less → P) → (o ≡ Equal → P) → (o ≡ Greater → P) → P
order_cases Less less equal greater = less refl
order_cases Equal less equal greater = equal refl
order_cases Greater less equal greater = greater refl

-- only equal keys tie
pub same_from_Equal : (k l : List ℕ) → text_cmp k l ≡ Equal → k ≡ l
same_from_Equal = slice_cmp-IsAntisymmetric nat_cmp-IsAntisymmetric

pub text_cmp-flip : (k l : List ℕ) (o : Ordering) → text_cmp k l ≡ o → text_cmp l k ≡ ordering_reverse o
text_cmp-flip k l o is = nat_list_cmp_total.antisymm l k ∙ ap ordering_reverse is

pub text_cmp-trans : (k l m : List ℕ) → text_cmp k l ≡ Less → text_cmp l m ≡ Less → text_cmp k m ≡ Less
text_cmp-trans = nat_list_cmp_total.trans

-- what is below a key is below all that the key is below
pub Below-trans : (k l : List ℕ) (ls : List (List ℕ)) → text_cmp k l ≡ Less → Below l ls → Below k ls
Below-trans k l [] less below = tt
Below-trans k l (m ∷ ls) less below = (text_cmp-trans k l m less below.0, Below-trans k l ls less below.1)

pub Less-from_is_lt : (o : Ordering) → is_lt o ≡ true → o ≡ Less
Less-from_is_lt Less is = refl
Less-from_is_lt Equal is = absurd (search (is, rules))
Less-from_is_lt Greater is = absurd (search (is, rules))

pub text_cmp-self : (k : List ℕ) → text_cmp k k ≡ Equal
text_cmp-self = tied_itself nat_list_cmp_total

-- the test of keys answers that two keys differ
pub same_key-other : (k l : List ℕ) → k ≢ l → same_key k l ≡ false
same_key-other k l other = order_cases (text_cmp k l) (λ e. ap is_eq e) (λ e. absurd (other (same_from_Equal k l e))) (λ e. ap is_eq e)
