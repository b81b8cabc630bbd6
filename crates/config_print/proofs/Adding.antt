-- Pieces that are added one after another.
use Rattle.std.proofs.Common.{◌≡◌, ℕ, ◌+◌, ◌<◌, ◌≤◌, List, [], ◌∷◌, ◌++◌, length, drop, get_or, flat_map, map, Bool, true, Result, Ok, Err, OnOk, if◌then◌else◌, refl, sym, ap, ◌∙◌, append_assoc, codes}
use Rattle.std.proofs.lemmas.List.{drop_more, append-nil}
use Rattle.std.proofs.Math.ListN.{drop_of_length-le}
use Rattle.std.specs.Result.{is_ok}
use Rattle.event_json.proofs.Written.{adds_two}
use Rattle.config_print.specs.Layout.{Piece, text_of}
use Rattle.config_print.specs.Conditions.{opened, closed, grouped, comma, members}
use Rattle.config_print.specs.declared.values.Indent.{Indent}
use Rattle.config_print.specs.Printed.{gap, Gapped, deeper, braced, behind_else, arm_front, branch}
use Rattle.config_print.proofs.Layouts.{text_both}

pub adds_three : {T E : Type 0} (r : Result T E) (a b c whole old m n new : List ℕ) → whole ≡ a ++ (b ++ c) → m ≡ old ++ a → n ≡ m ++ b → OnOk r (new ≡ n ++ c) → OnOk r (new ≡ old ++ whole)
adds_three r a b c whole old m n new e f g h = adds_two r a (b ++ c) whole old m new e f (adds_two r b c (b ++ c) m n new refl g h)

pub adds_four : {T E : Type 0} (r : Result T E) (a b c d whole old m n o new : List ℕ) → whole ≡ a ++ (b ++ (c ++ d)) → m ≡ old ++ a → n ≡ m ++ b → o ≡ n ++ c → OnOk r (new ≡ o ++ d) → OnOk r (new ≡ old ++ whole)
adds_four r a b c d whole old m n o new e f g h i = adds_two r a (b ++ (c ++ d)) whole old m new e f (adds_three r b c d (b ++ (c ++ d)) m n o new refl g h i)

-- what `push_str` says, where it is the last call
pub pushed : {T E : Type 0} (r : Result T E) (x old new : List ℕ) → new ≡ (if is_ok r then old ++ x else old) → OnOk r (new ≡ old ++ x)
pushed (Ok y) x old new e = e
pushed (Err y) x old new e = tt

pub text_braced : (margin : Indent) (lines : List Piece) → text_of (braced margin lines) ≡ codes " {" ++ (text_of lines ++ (gap margin ++ 125 ∷ []))
text_braced margin lines = ap (λ z. 32 ∷ 123 ∷ z) (text_both lines _)

-- parts that are added are one
pub added_two : (a b old m new : List ℕ) → m ≡ old ++ a → new ≡ m ++ b → new ≡ old ++ (a ++ b)
added_two a b old m new e f = f ∙ ap (λ z. z ++ b) e ∙ append_assoc old a b

pub added_four : (a b c d old m n o new : List ℕ) → m ≡ old ++ a → n ≡ m ++ b → o ≡ n ++ c → new ≡ o ++ d → new ≡ old ++ (a ++ (b ++ (c ++ d)))
added_four a b c d old m n o new e f g h = added_two a (b ++ (c ++ d)) old m new e (added_two b (c ++ d) m n new f (added_two c d n o new g h))

pub text_grouped : (parens : Bool) (a b : List Piece) → text_of (grouped parens (a ++ b)) ≡ text_of (opened parens) ++ (text_of a ++ (text_of b ++ text_of (closed parens)))
text_grouped parens a b =
    text_both (opened parens) ((a ++ b) ++ closed parens)
    ∙ ap (λ z. text_of (opened parens) ++ z) (text_both (a ++ b) (closed parens) ∙ ap (λ z. z ++ text_of (closed parens)) (text_both a b) ∙ append_assoc (text_of a) (text_of b) (text_of (closed parens)))

-- ---- a turn of a loop: the pieces so far, and those of what is left

turn : (p rest : List Piece) (old new whole : List ℕ) → new ≡ old ++ text_of p → old ++ text_of (p ++ rest) ≡ whole → new ++ text_of rest ≡ whole
turn p rest old new whole e h = ap (λ z. z ++ text_of rest) e ∙ append_assoc old (text_of p) (text_of rest) ∙ ap (λ z. old ++ z) (sym (text_both p rest)) ∙ h

at_place : {X : Type 0} (xs : List X) (i : ℕ) (x : X) → i < length xs → x ≡ get_or xs i x → drop i xs ≡ x ∷ drop (i + 1) xs
at_place xs i x l e = drop_more xs i x l ∙ ap (λ y. y ∷ drop (i + 1) xs) (sym e)

pub turn_each : {X : Type 0} (f : X → List Piece) (xs : List X) (i : ℕ) (x : X) (old new whole : List ℕ) → i < length xs → x ≡ get_or xs i x
    → new ≡ old ++ text_of (f x) → old ++ text_of (flat_map f (drop i xs)) ≡ whole → new ++ text_of (flat_map f (drop (i + 1) xs)) ≡ whole
turn_each f xs i x old new whole l e added h = turn (f x) (flat_map f (drop (i + 1) xs)) old new whole added (ap (λ ys. old ++ text_of (flat_map f ys)) (sym (at_place xs i x l e)) ∙ h)

-- where nothing is left, lines in braces are whole with the closing one
pub block_done : {X T E : Type 0} (r : Result T E) (f : Indent → X → List Piece) (xs : List X) (i : ℕ) (margin inner : Indent) (old to new : List ℕ) → length xs ≤ i → inner ≡ deeper margin
    → to ++ text_of (flat_map (f inner) (drop i xs)) ≡ old ++ (codes " {" ++ text_of (flat_map (f inner) xs)) → OnOk r (new ≡ to ++ (gap margin ++ 125 ∷ [])) → OnOk r (new ≡ old ++ text_of (braced margin (flat_map (f (deeper margin)) xs)))
block_done r f xs i margin inner old to new l same h =
    let lines = λ (m : Indent). text_of (flat_map (f m) xs) in
    let all : to ≡ old ++ (codes " {" ++ lines (deeper margin)) = sym (ap (λ ys. to ++ text_of (flat_map (f inner) ys)) (drop_of_length-le xs l) ∙ append-nil to) ∙ h ∙ ap (λ m. old ++ (codes " {" ++ lines m)) same in
    adds_two r (codes " {" ++ lines (deeper margin)) (gap margin ++ 125 ∷ []) _ old to new (text_braced margin (flat_map (f (deeper margin)) xs)) all

-- members of a list
pub turn_member : {X : Type 0} (f : X → List Piece) (xs : List X) (i : ℕ) (x : X) (later : Bool) (old m new whole : List ℕ) → i < length xs → x ≡ get_or xs i x
    → m ≡ old ++ text_of (comma later) → new ≡ m ++ text_of (f x) → old ++ text_of (members later (map f (drop i xs))) ≡ whole → new ++ text_of (members true (map f (drop (i + 1) xs))) ≡ whole
turn_member f xs i x later old m new whole l e first added h =
    let rest = members true (map f (drop (i + 1) xs)) in
    turn (f x) rest m new whole added (turn (comma later) (f x ++ rest) old m whole first (ap (λ ys. old ++ text_of (members later (map f ys))) (sym (at_place xs i x l e)) ∙ h))

-- arms of a branch
pub turn_arm : {X : Type 0} (f : X → Gapped) (margin : Indent) (xs : List X) (i : ℕ) (x : X) (later : Bool) (old m new whole : List ℕ) → i < length xs → x ≡ get_or xs i x
    → m ≡ old ++ text_of (behind_else later margin) → new ≡ m ++ text_of (f x (arm_front later margin) margin) → old ++ text_of (branch later margin (map f (drop i xs))) ≡ whole
    → new ++ text_of (branch true margin (map f (drop (i + 1) xs))) ≡ whole
turn_arm f margin xs i x later old m new whole l e first added h =
    let rest = branch true margin (map f (drop (i + 1) xs)) in
    let p = f x (arm_front later margin) margin in
    turn p rest m new whole added (turn (behind_else later margin) (p ++ rest) old m whole first (ap (λ ys. old ++ text_of (branch later margin (map f ys))) (sym (at_place xs i x l e)) ∙ h))
