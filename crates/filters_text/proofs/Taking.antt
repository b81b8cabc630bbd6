-- The fields of a record, one after another.
use Rattle.std.proofs.Common.{ℕ, zero, suc, List, [], ◌∷◌, ◌++◌, ◌+◌, ◌≡◌, ◌∙◌, refl, ap, sym, take, add-one, Some, None}
use Rattle.std.proofs.lemmas.Option.{none-some, same_Some}
use Rattle.csv.specs.Records.{field_at}

next_taken : (fields : List (List ℕ)) (at : ℕ) (field : List ℕ) → field_at fields at ≡ Some field → take (suc at) fields ≡ take at fields ++ field ∷ []
unfolding field_at
next_taken [] at field is = absurd (none-some field is)
next_taken (f ∷ fs) zero field is = ap (λ x. x ∷ []) (same_Some f field is)
next_taken (f ∷ fs) (suc at) field is = ap (λ x. f ∷ x) (next_taken fs at field is)

pub taken : (fields : List (List ℕ)) (at : ℕ) (field : List ℕ) → Some field ≡ field_at fields at → take (at + 1) fields ≡ take at fields ++ field ∷ []
taken fields at field is = ap (λ n. take n fields) (add-one at) ∙ next_taken fields at field (sym is)

pub all_taken : (fields : List (List ℕ)) (at : ℕ) → None ≡ field_at fields at → take at fields ≡ fields
unfolding field_at
all_taken [] zero is = refl
all_taken [] (suc at) is = refl
all_taken (f ∷ fs) zero is = absurd (none-some f is)
all_taken (f ∷ fs) (suc at) is = ap (λ x. f ∷ x) (all_taken fs at is)

pub ruleset taking = (taken, all_taken)
