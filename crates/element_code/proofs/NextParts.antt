-- What kind of part comes next behind the parts of an event, and that parts of one kind are told apart by their bytes.
use Rattle.std.proofs.Common.{◌≡◌, ◌≢◌, ℕ, zero, suc, ◌<◌, ◌^◌, ◌⊎◌, inl, inr, List, [], ◌∷◌, ◌++◌, length, map, Bool, true, false, if◌then◌else◌, ◌==◌, Option, Some, None, refl, sym, ap, subst, ◌∙◌, append_assoc, arith, rules}
use Rattle.std.proofs.lemmas.List.{append-nil}
use Rattle.event_tree.specs.Values.{Members, on_values}
use Rattle.event_tree.specs.Events.{Ev}
use Rattle.event_tree.specs.declared.value.Value.{Value}
use Rattle.event_tree.specs.declared.value.Value.TheVariants as v
use Rattle.crc_frame.specs.Fronts.{count_bytes, number_at, run_at}
use Rattle.crc_frame.proofs.Fronts.{count_again, run_again, ok_is}
use Rattle.element_code.specs.Parts.{Part, plain, text, many, count, key, part_bytes, number_bytes, time_bytes, items_parts, members_parts, parts, object_parts, event_parts}
use Rattle.element_code.specs.Values.{IsValue, AreValues, AreMembers, IsEventObject, IsWhole}
use Rattle.element_code.proofs.Numbers.{length-number_bytes, length-time_bytes}
use Rattle.event_tree.proofs.Shapes.{Shape, is_null, is_bool, is_number, is_text, is_time, is_list, is_object, shape_of}
use Rattle.element_code.proofs.PartsOf.{parts-Null, parts-Bool, parts-Num, parts-Text, parts-Time, parts-List, parts-Object, no_list_value, no_object_value, items_of_value, members_of_value, text_of_value}
use Rattle.element_code.proofs.Again.{object_parts_are}
use Rattle.element_code.proofs.Places.{same_head, same_tail}

-- how many bytes stand behind such a tag
abbrev pub own_length : ℕ → ℕ
own_length tag = if tag == 3 then 9 else (if tag == 5 then 12 else 0)

pub data Kind : Type 0 where
  of_value : Kind
  of_key : Kind
  of_count : Kind
  of_nothing : Kind

abbrev pub kind : Part → Kind
kind (plain tag own) = of_value
kind (text own) = of_value
kind (many tag n) = of_value
kind (count n) = of_count
kind (key own) = of_key

-- a part as values have them
abbrev pub IsPart : Part → Type 0
IsPart (plain tag own) = (length own ≡ own_length tag) × (tag ≢ 4) × (tag ≢ 6) × (tag ≢ 7)
IsPart (text own) = length own < 2 ^ 32
IsPart (many tag n) = (n < 2 ^ 32) × ((tag ≡ 6) ⊎ (tag ≡ 7))
IsPart (count n) = n < 2 ^ 32
IsPart (key own) = length own < 2 ^ 32

-- what is still to come: so many values, so many members, or the count of an object
pub data Due : Type 0 where
  values : ℕ → Due
  members : ℕ → Due
  object : Due

abbrev pub kind_due : List Due → Kind
kind_due [] = of_nothing
kind_due (values zero ∷ st) = kind_due st
kind_due (values (suc n) ∷ st) = of_value
kind_due (members zero ∷ st) = kind_due st
kind_due (members (suc n) ∷ st) = of_key
kind_due (object ∷ st) = of_count

-- what a part adds to what is to come
abbrev opened : Part → List Due → List Due
opened (plain tag own) st = st
opened (text own) st = st
opened (many tag n) st = if tag == 6 then values n ∷ st else members n ∷ st
opened (count n) st = members n ∷ st
opened (key own) st = values 1 ∷ st

abbrev pub after : Part → List Due → List Due
after p [] = []
after p (values zero ∷ st) = after p st
after p (values (suc n) ∷ st) = opened p (values n ∷ st)
after p (members zero ∷ st) = after p st
after p (members (suc n) ∷ st) = opened p (members n ∷ st)
after p (object ∷ st) = opened p st

-- each part is of the kind that is due
abbrev pub AreDue : List Due → List Part → Type 0
AreDue st [] = Unit {0}
AreDue st (p ∷ ps) = (kind p ≡ kind_due st) × IsPart p × AreDue (after p st) ps

-- none of a kind is due any more
over_values : (st : List Due) (ps : List Part) → AreDue st ps → AreDue (values zero ∷ st) ps
over_values st [] a = tt
over_values st (p ∷ ps) a = a

over_members : (st : List Due) (ps : List Part) → AreDue st ps → AreDue (members zero ∷ st) ps
over_members st [] a = tt
over_members st (p ∷ ps) a = a

abbrev IsDue : Value → Type 0
IsDue d = (n : ℕ) (st : List Due) (rest : List Part) → AreDue (values n ∷ st) rest → AreDue (values (suc n) ∷ st) (parts d ++ rest)

items_due : (levels : ℕ) → ((d : Value) → IsValue levels d → IsDue d) → (vs : List Value) → AreValues (IsValue levels) vs → (st : List Due) (rest : List Part) → AreDue st rest → AreDue (values (length vs) ∷ st) (items_parts (map parts vs) ++ rest)
items_due levels due [] are st rest a = over_values st rest a
items_due levels due (d ∷ ds) are st rest a = subst (AreDue (values (suc (length ds)) ∷ st)) (sym (append_assoc (parts d) (items_parts (map parts ds)) rest)) (due d are.0 (length ds) st (items_parts (map parts ds) ++ rest) (items_due levels due ds are.1 st rest a))

members_due : (levels : ℕ) → ((d : Value) → IsValue levels d → IsDue d) → (last : Option (List ℕ)) (ms : Members) → AreMembers (IsValue levels) last ms → (st : List Due) (rest : List Part) → AreDue st rest → AreDue (members (length ms) ∷ st) (members_parts (on_values parts ms) ++ rest)
members_due levels due last [] are st rest a = over_members st rest a
members_due levels due last (m ∷ ms) are st rest a =
    let later = members_parts (on_values parts ms) in
    let more = over_values (members (length ms) ∷ st) (later ++ rest) (members_due levels due (Some m.0) ms are.3 st rest a) in
    (refl, are.0.short, subst (AreDue (values 1 ∷ members (length ms) ∷ st)) (sym (append_assoc (parts m.1) later rest)) (due m.1 are.2 0 (members (length ms) ∷ st) (later ++ rest) more))

one_due : (d : Value) (p : Part) → parts d ≡ p ∷ [] → kind p ≡ of_value → IsPart p → ((st : List Due) → opened p st ≡ st) → IsDue d
one_due d p e k is same n st rest a = subst (λ l. AreDue (values (suc n) ∷ st) (l ++ rest)) (sym e) (k, is, subst (λ l. AreDue l rest) (sym (same (values n ∷ st))) a)

bool_part : (b : Bool) → IsPart (plain (if b then 2 else 1) [])
bool_part true = (refl, λ e. omega (arith, e), λ e. omega (arith, e), λ e. omega (arith, e))
bool_part false = (refl, λ e. omega (arith, e), λ e. omega (arith, e), λ e. omega (arith, e))

due_in : (levels : ℕ) (d : Value) → Shape d → IsValue levels d → ((vs : List Value) → d ≡ v.List vs → IsDue d) → ((ms : Members) → d ≡ v.Object ms → IsDue d) → IsDue d
due_in levels d (is_null e) is list obj = one_due d (plain 0 []) (ap parts e ∙ parts-Null) refl (refl, λ x. omega (arith, x), λ x. omega (arith, x), λ x. omega (arith, x)) (λ st. refl)
due_in levels d (is_bool b e) is list obj = one_due d (plain (if b then 2 else 1) []) (ap parts e ∙ parts-Bool b) refl (bool_part b) (λ st. refl)
due_in levels d (is_number n e) is list obj = one_due d (plain 3 (number_bytes n)) (ap parts e ∙ parts-Num n) refl (length-number_bytes n, λ x. omega (arith, x), λ x. omega (arith, x), λ x. omega (arith, x)) (λ st. refl)
due_in levels d (is_text s e) is list obj = one_due d (text s) (ap parts e ∙ parts-Text s) refl (text_of_value levels s (subst (IsValue levels) e is)).short (λ st. refl)
due_in levels d (is_time t e) is list obj = one_due d (plain 5 (time_bytes t)) (ap parts e ∙ parts-Time t) refl (length-time_bytes t, λ x. omega (arith, x), λ x. omega (arith, x), λ x. omega (arith, x)) (λ st. refl)
due_in levels d (is_list vs e) is list obj = list vs e
due_in levels d (is_object ms e) is list obj = obj ms e

value_due : (levels : ℕ) (d : Value) → IsValue levels d → IsDue d
value_due zero d is = due_in zero d (shape_of d) is (λ vs e. absurd (no_list_value vs (subst (IsValue zero) e is))) (λ ms e. absurd (no_object_value ms (subst (IsValue zero) e is)))
value_due (suc levels) d is = due_in (suc levels) d (shape_of d) is
    (λ vs e n st rest a. let are = items_of_value levels vs (subst (IsValue (suc levels)) e is) in
    subst (λ l. AreDue (values (suc n) ∷ st) (l ++ rest)) (sym (ap parts e ∙ parts-List vs)) (refl, (are.few, inl refl), items_due levels (value_due levels) vs are.each (values n ∷ st) rest a))
    (λ ms e n st rest a. let are = members_of_value levels ms (subst (IsValue (suc levels)) e is) in
    subst (λ l. AreDue (values (suc n) ∷ st) (l ++ rest)) (sym (ap parts e ∙ parts-Object ms)) (refl, (are.few, inr refl), members_due levels (value_due levels) None ms are.each (values n ∷ st) rest a))

object_due : (d : Value) → IsEventObject d → (st : List Due) (rest : List Part) → AreDue st rest → AreDue (object ∷ st) (object_parts d ++ rest)
object_due d o st rest a = subst (λ l. AreDue (object ∷ st) (l ++ rest)) (sym (object_parts_are d o.members o.is)) (refl, o.each.few, members_due 127 (value_due 127) None o.members o.each.each st rest a)

abbrev pub both_objects : List Due
both_objects = object ∷ object ∷ []

pub event_due : (e : Ev) → IsWhole e → AreDue both_objects (event_parts e)
event_due e w = object_due e.fields w.fields (object ∷ []) (object_parts e.meta) (subst (AreDue (object ∷ [])) (append-nil (object_parts e.meta)) (object_due e.meta w.meta [] [] tt))

-- what is due behind parts
abbrev pub after_all : List Part → List Due → List Due
after_all [] st = st
after_all (p ∷ ps) st = after_all ps (after p st)

pub next_due : (us : List Part) (p : Part) (more : List Part) (st : List Due) → AreDue st (us ++ p ∷ more) → (kind p ≡ kind_due (after_all us st)) × IsPart p
next_due [] p more st a = (a.0, a.1)
next_due (u ∷ us) p more st a = next_due us p more (after u st) a.2

-- ---- parts of one kind

same_length : (xs ys zs ws : List ℕ) → length xs ≡ length ys → xs ++ zs ≡ ys ++ ws → xs ≡ ys
same_length [] [] zs ws e h = refl
same_length [] (y ∷ ys) zs ws e h = absurd (omega (arith, e))
same_length (x ∷ xs) [] zs ws e h = absurd (omega (arith, e))
same_length (x ∷ xs) (y ∷ ys) zs ws e h =
    let a = same_head x y (xs ++ zs) (ys ++ ws) h in
    let b = same_length xs ys zs ws (omega (arith, e)) (same_tail x y (xs ++ zs) (ys ++ ws) h) in
    λ i. a i ∷ b i

same_count : (n m : ℕ) (x y : List ℕ) → n < 2 ^ 32 → m < 2 ^ 32 → count_bytes n ++ x ≡ count_bytes m ++ y → n ≡ m
same_count n m x y low high e = ap (λ z. z.0) (ok_is (n, x) (m, y) (sym (count_again n x low) ∙ ap (number_at 4) e ∙ count_again m y high))

same_run : (s r x y : List ℕ) → length s < 2 ^ 32 → length r < 2 ^ 32 → (count_bytes (length s) ++ s) ++ x ≡ (count_bytes (length r) ++ r) ++ y → s ≡ r
same_run s r x y low high e =
    let h = sym (append_assoc (count_bytes (length s)) s x) ∙ e ∙ append_assoc (count_bytes (length r)) r y in
    ap (λ z. z.0) (ok_is (s, x) (r, y) (sym (run_again s x low) ∙ ap run_at h ∙ run_again r y high))

pub same_part : (p q : Part) (x y : List ℕ) → IsPart p → IsPart q → kind p ≡ kind q → part_bytes p ++ x ≡ part_bytes q ++ y → p ≡ q
same_part (plain t own) (plain u other) x y a b k e =
    let h = same_head t u (own ++ x) (other ++ y) e in
    let same = same_length own other x y (a.0 ∙ ap own_length h ∙ sym b.0) (same_tail t u (own ++ x) (other ++ y) e) in
    λ i. plain (h i) (same i)
same_part (plain t own) (text s) x y a b k e = absurd (a.1 (same_head t 4 _ _ e))
same_part (plain t own) (many u n) x y a b k e = elim b.1 [
  | inl w ↦ absurd (a.2 (same_head t u _ _ e ∙ w))
  | inr w ↦ absurd (a.3 (same_head t u _ _ e ∙ w))
]
same_part (plain t own) (count n) x y a b k e = absurd (search (k, rules))
same_part (plain t own) (key s) x y a b k e = absurd (search (k, rules))
same_part (text s) (plain t own) x y a b k e = absurd (b.1 (sym (same_head 4 t _ _ e)))
same_part (text s) (text r) x y a b k e = ap text (same_run s r x y a b (same_tail 4 4 _ _ e))
same_part (text s) (many u n) x y a b k e = elim b.1 [
  | inl w ↦ absurd (omega (arith, same_head 4 u _ _ e, w))
  | inr w ↦ absurd (omega (arith, same_head 4 u _ _ e, w))
]
same_part (text s) (count n) x y a b k e = absurd (search (k, rules))
same_part (text s) (key r) x y a b k e = absurd (search (k, rules))
same_part (many u n) (plain t own) x y a b k e = elim a.1 [
  | inl w ↦ absurd (b.2 (sym (same_head u t _ _ e) ∙ w))
  | inr w ↦ absurd (b.3 (sym (same_head u t _ _ e) ∙ w))
]
same_part (many u n) (text s) x y a b k e = elim a.1 [
  | inl w ↦ absurd (omega (arith, same_head u 4 _ _ e, w))
  | inr w ↦ absurd (omega (arith, same_head u 4 _ _ e, w))
]
same_part (many t n) (many u m) x y a b k e =
    let h = same_head t u _ _ e in
    let c = same_count n m x y a.0 b.0 (same_tail t u _ _ e) in
    λ i. many (h i) (c i)
same_part (many u n) (count m) x y a b k e = absurd (search (k, rules))
same_part (many u n) (key s) x y a b k e = absurd (search (k, rules))
same_part (count n) (plain t own) x y a b k e = absurd (search (k, rules))
same_part (count n) (text s) x y a b k e = absurd (search (k, rules))
same_part (count n) (many u m) x y a b k e = absurd (search (k, rules))
same_part (count n) (count m) x y a b k e = ap count (same_count n m x y a b e)
same_part (count n) (key s) x y a b k e = absurd (search (k, rules))
same_part (key s) (plain t own) x y a b k e = absurd (search (k, rules))
same_part (key s) (text r) x y a b k e = absurd (search (k, rules))
same_part (key s) (many u m) x y a b k e = absurd (search (k, rules))
same_part (key s) (count m) x y a b k e = absurd (search (k, rules))
same_part (key s) (key r) x y a b k e = ap key (same_run s r x y a b e)
