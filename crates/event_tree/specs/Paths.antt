-- What the parts of a path lead to in a value, and what a value becomes when something is put there or taken away.
use Rattle.std.specs.Prelude.{ℕ, ◌+◌, ◌-◌, ◌*◌, ◌==◌, List, [], ◌∷◌, ◌++◌, length, nat_le, if◌then◌else◌, Option, Some, None, option_map, option_and_then, slice_get, slice_set, remove}
use Rattle.event_tree.specs.Characters.{minus, digit_zero, is_digit}
use Rattle.plain_data.specs.Members.{get_member, set_member, insert_member, remove_member}
use Rattle.event_tree.specs.declared.value.Value.{Value, out-Value}
use Rattle.event_tree.specs.declared.value.Value.TheOpen.{Value-F}
use Rattle.event_tree.specs.declared.value.Value.TheVariants as v

-- the number that the digits write in decimal, behind those that write n; none where a byte is no digit
abbrev pub digits_from : ℕ → List ℕ → Option ℕ
digits_from n [] = Some n
digits_from n (b ∷ bs) = if is_digit b then digits_from (10 * n + (b - digit_zero)) bs else None

-- the number that one digit or more write
abbrev pub digits : List ℕ → Option ℕ
digits [] = None
digits (b ∷ bs) = digits_from 0 (b ∷ bs)

abbrev pub at_most : ℕ → Option ℕ → Option ℕ
at_most n None = None
at_most n (Some k) = if nat_le k n then Some k else None

-- the place that a part names in a list of n items, an item's or the place behind the last: digits count from the front, and behind `-` from the end
abbrev pub list_place : List ℕ → ℕ → Option ℕ
list_place [] n = None
list_place (b ∷ bs) n = if b == minus then option_map (λ k. n - k) (at_most n (digits bs)) else at_most n (digits (b ∷ bs))

-- what one part leads to
abbrev pub step_in : List ℕ → Value-F Value → Option Value
step_in p Value-F.Null = None
step_in p (Value-F.Bool b) = None
step_in p (Value-F.Num n) = None
step_in p (Value-F.Text s) = None
step_in p (Value-F.Time t) = None
step_in p (Value-F.List vs) = option_and_then (λ i. slice_get vs i) (list_place p (length vs))
step_in p (Value-F.Object ms) = get_member p ms

abbrev pub step : List ℕ → Value → Option Value
step p d = step_in p (out-Value d)

-- what stands at the end of the parts
abbrev pub at : List (List ℕ) → Value → Option Value
at [] d = Some d
at (p ∷ ps) d = option_and_then (at ps) (step p d)

-- d inside new objects, one for each part
abbrev pub wrap : List (List ℕ) → Value → Value
wrap [] d = d
wrap (p ∷ ps) d = v.Object ((p, wrap ps d) ∷ [])

-- the members, and d inside new objects at a key that they lack
abbrev pub insert_wrap : List ℕ → List (List ℕ) → Value → List (List ℕ × Value) → List (List ℕ × Value)
insert_wrap p ps d ms = insert_member p (wrap ps d) ms

-- f of what is there, or b
abbrev pub over : {A B : Type 0} → (A → B) → B → Option A → B
over f b None = b
over f b (Some a) = f a

-- a list with the item at this place changed, or with one that is made behind the last
abbrev pub change_item : (Value → Option Value) → Value → List Value → ℕ → Option Value
change_item change made vs i =
    over (λ e. option_map (λ x. v.List (slice_set vs i x)) (change e)) (Some (v.List (vs ++ made ∷ []))) (slice_get vs i)

-- a list or an object once the value at a part has changed, or was made where there was none
abbrev pub change_in : List ℕ → (Value → Option Value) → Value → Value-F Value → Option Value
change_in p change made Value-F.Null = None
change_in p change made (Value-F.Bool b) = None
change_in p change made (Value-F.Num n) = None
change_in p change made (Value-F.Text s) = None
change_in p change made (Value-F.Time t) = None
change_in p change made (Value-F.List vs) = option_and_then (change_item change made vs) (list_place p (length vs))
change_in p change made (Value-F.Object ms) =
    over
    (λ e. option_map (λ x. v.Object (set_member p x ms)) (change e))
    (Some (v.Object (insert_member p made ms)))
    (get_member p ms)

-- old with d at the end of the parts, where missing objects are made; none where a value on the way is neither object nor list, or is a list in which the part names no place
abbrev pub put : List (List ℕ) → Value → Value → Option Value
put [] d old = Some d
put (p ∷ ps) d old = change_in p (put ps d) (wrap ps d) (out-Value old)

abbrev pub list_in : Value-F Value → Option (List Value)
list_in Value-F.Null = None
list_in (Value-F.Bool b) = None
list_in (Value-F.Num n) = None
list_in (Value-F.Text s) = None
list_in (Value-F.Time t) = None
list_in (Value-F.List vs) = Some vs
list_in (Value-F.Object ms) = None

-- its items, where the value is a list
abbrev pub items_of : Value → Option (List Value)
items_of x = list_in (out-Value x)

-- a list with d at its end
abbrev pub longer : Value → Value → Option Value
longer d x = option_map (λ vs. v.List (vs ++ d ∷ [])) (items_of x)

-- old with d at the end of the list that stands at the end of the parts; none where no list stands there
abbrev pub append : List (List ℕ) → Value → Value → Option Value
append ps d old = option_and_then (λ x. put ps x old) (option_and_then (longer d) (at ps old))

-- the value at a part, and the list or object without it: a list closes up
abbrev pub cut_in : List ℕ → Value-F Value → Option (Value × Value)
cut_in p Value-F.Null = None
cut_in p (Value-F.Bool b) = None
cut_in p (Value-F.Num n) = None
cut_in p (Value-F.Text s) = None
cut_in p (Value-F.Time t) = None
cut_in p (Value-F.List vs) = option_and_then (λ i. option_map (λ e. (e, v.List (remove vs i))) (slice_get vs i)) (list_place p (length vs))
cut_in p (Value-F.Object ms) = option_map (λ e. (e, v.Object (remove_member p ms))) (get_member p ms)

-- what is taken from the value at a part, and the list or object with the rest of that value
abbrev pub through_in : List ℕ → (Value → Option (Value × Value)) → Value-F Value → Option (Value × Value)
through_in p cut Value-F.Null = None
through_in p cut (Value-F.Bool b) = None
through_in p cut (Value-F.Num n) = None
through_in p cut (Value-F.Text s) = None
through_in p cut (Value-F.Time t) = None
through_in p cut (Value-F.List vs) =
    option_and_then
    (λ i. option_and_then (λ e. option_map (λ r. (r.0, v.List (slice_set vs i r.1))) (cut e)) (slice_get vs i))
    (list_place p (length vs))
through_in p cut (Value-F.Object ms) = option_and_then (λ e. option_map (λ r. (r.0, v.Object (set_member p r.1 ms))) (cut e)) (get_member p ms)

-- what stands at the end of the parts, and what is left without it
abbrev pub take : List (List ℕ) → Value → Option (Value × Value)
take [] d = None
take (p ∷ []) d = cut_in p (out-Value d)
take (p ∷ q ∷ ps) d = through_in p (take (q ∷ ps)) (out-Value d)

-- the bytes of the objects that wrap makes
abbrev pub wrap_size : List (List ℕ) → ℕ
wrap_size [] = 0
wrap_size (p ∷ ps) = 9 + length p + wrap_size ps
