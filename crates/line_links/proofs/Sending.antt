-- Parcels and answers behind one more of them.
use Rattle.std.specs.Prelude.{◌≡◌, ◌||◌, ◌<◌, ◌≤◌, ◌==◌, ◌&&◌, nat_eq, ◌+◌, ℕ, Bool, true, false, if◌then◌else◌, List, [], ◌∷◌, ◌++◌, length, Option, Some, None}
use Rattle.std.specs.List.{list_any}
use Rattle.std.proofs.Common.{refl, sym, ◌∙◌, ap, arith, rules, append_assoc, length-append}
use Rattle.std.proofs.lemmas.Bool.{eq-eqb, eqb-true, ne_eqb, and_from}
use Rattle.std.proofs.lemmas.List.{append-nil}
use Rattle.pipeline_bus.specs.Ends.{Sending, heard_as}
use Rattle.pipeline_bus.specs.Parcels.{ends_with_last, is_last, with_events}
use Rattle.pipeline_bus.specs.declared.parcel.Answer.{Answer}
use Rattle.pipeline_bus.specs.declared.parcel.Heard.{Heard}
use Rattle.pipeline_bus.specs.declared.parcel.Heard.TheVariants.{Assured, NotListening}
use Rattle.pipeline_bus.specs.declared.parcel.Parcel.{Parcel}
use Rattle.pipeline_bus.proofs.Numbers.{counted_more, ends_more}
use Rattle.line_links.specs.Answers.{answer_to, are_in_turn, if_refused, refused_of}

-- numbers that differ, as a test says
differ_by : (a b : ℕ) → (a ≡ b → ⊥) → (a == b) ≡ false
differ_by a b differ = ne_eqb a b differ

not_last : (p : Parcel) → 0 < length p.events → is_last p ≡ false
not_last p some = differ_by (length p.events) 0 (λ none. omega (arith, some, none))

-- behind a parcel with events
pub filled_more : (ps : List Parcel) (p : Parcel) → 0 < length p.events → with_events (ps ++ p ∷ []) ≡ with_events ps + 1
filled_more ps p some = counted_more ps p ∙ ap (λ b. with_events ps + (if b then 0 else 1)) (not_last p some)

pub goes_on_more : (ps : List Parcel) (p : Parcel) → 0 < length p.events → ends_with_last (ps ++ p ∷ []) ≡ false
goes_on_more ps p some = ends_more ps p ∙ not_last p some

-- behind a last parcel
pub filled_same : (ps : List Parcel) (p : Parcel) → p.events ≡ [] → with_events (ps ++ p ∷ []) ≡ with_events ps
filled_same ps p none =
    let e : with_events ps + 0 ≡ with_events ps = omega arith in
    counted_more ps p ∙ ap (λ n. with_events ps + (if n == 0 then 0 else 1)) (ap length none) ∙ e

pub ends_then : (ps : List Parcel) (p : Parcel) → p.events ≡ [] → ends_with_last (ps ++ p ∷ []) ≡ true
ends_then ps p none = ends_more ps p ∙ ap (λ n. n == 0) (ap length none)

first_in_turn : (n : ℕ) (x : Answer) (xs : List Answer) → are_in_turn n (x ∷ xs) ≡ true → (x.number ≡ n + 1) × (are_in_turn (n + 1) xs ≡ true)
unfolding are_in_turn
first_in_turn n x xs h = let b = both (x.number == n + 1) (are_in_turn (n + 1) xs) h in (eqb-true x.number (n + 1) b.0, b.1)
  where
    both : (a b : Bool) → (a && b) ≡ true → (a ≡ true) × (b ≡ true)
    both true b h = (refl, h)
    both false b h = absurd (search (h, rules))

in_turn_from : (n : ℕ) (xs : List Answer) (a : Answer) → are_in_turn n xs ≡ true → a.number ≡ n + length xs + 1 → are_in_turn n (xs ++ a ∷ []) ≡ true
unfolding are_in_turn
in_turn_from n [] a h e = and_from (a.number == n + 1) true (eq-eqb a.number (n + 1) (omega (arith, e))) refl
in_turn_from n (x ∷ xs) a h e =
    let f = first_in_turn n x xs h in
    and_from (x.number == n + 1) (are_in_turn (n + 1) (xs ++ a ∷ [])) (eq-eqb x.number (n + 1) f.0) (in_turn_from (n + 1) xs a f.1 (omega (arith, e)))

-- behind an answer in turn
pub in_turn_more : (xs : List Answer) (a : Answer) → are_in_turn 0 xs ≡ true → a.number ≡ length xs + 1 → are_in_turn 0 (xs ++ a ∷ []) ≡ true
in_turn_more xs a h e = in_turn_from 0 xs a h (omega (arith, e))

pub refused_more : (xs : List Answer) (a : Answer) → refused_of (xs ++ a ∷ []) ≡ refused_of xs ++ if_refused a.answer a.number
refused_more [] a = append-nil (if_refused a.answer a.number)
refused_more (x ∷ xs) a = ap (λ r. if_refused x.answer x.number ++ r) (refused_more xs a) ∙ sym (append_assoc (if_refused x.answer x.number) (refused_of xs) (if_refused a.answer a.number))

-- ---- the answer to the parcel of a number

-- no answer came so far
none_yet : (n from : ℕ) (xs : List Answer) → are_in_turn from xs ≡ true → from + length xs < n → answer_to n xs ≡ None
none_yet n from [] h few = refl
none_yet n from (x ∷ xs) h few =
    let f = first_in_turn from x xs h in
    let e : (n == x.number) ≡ false = differ_by n x.number (λ is. omega (arith, is, f.0, few)) in
    ap (λ b. if b then Some x.answer else answer_to n xs) e ∙ none_yet n (from + 1) xs f.1 (omega (arith, few))

pub no_answer_yet : (n : ℕ) (xs : List Answer) → are_in_turn 0 xs ≡ true → length xs < n → answer_to n xs ≡ None
no_answer_yet n xs h few = none_yet n 0 xs h (omega (arith, few))

-- what is said of a parcel by those that were refused
abbrev pub by_refused : Bool → Option Heard
by_refused true = Some NotListening
by_refused false = Some Assured

abbrev is_refused : ℕ → List Answer → Bool
is_refused n xs = list_any (λ y. nat_eq y n) (refused_of xs)

-- parcels behind one are none of those that were refused up to it
not_refused : (n from : ℕ) (xs : List Answer) → are_in_turn from xs ≡ true → n ≤ from → is_refused n xs ≡ false
not_refused n from [] h before = refl
not_refused n from (x ∷ xs) h before =
    let f = first_in_turn from x xs h in
    by x.answer (not_refused n (from + 1) xs f.1 (omega (arith, before))) (differ_by x.number n (λ is. omega (arith, is, f.0, before)))
  where
    by : (a : Heard) → is_refused n xs ≡ false → nat_eq x.number n ≡ false → list_any (λ y. nat_eq y n) (if_refused a x.number ++ refused_of xs) ≡ false
    by Assured rest differs = rest
    by NotListening rest differs = ap (λ b. b || is_refused n xs) differs ∙ rest

answer_from : (n from : ℕ) (xs : List Answer) → are_in_turn from xs ≡ true → from < n → n ≤ from + length xs → answer_to n xs ≡ by_refused (is_refused n xs)
answer_from n from [] h after within = absurd (omega (arith, after, within))
answer_from n from (x ∷ xs) h after within = by (n == x.number) refl (λ first. answer_from n (from + 1) xs (first_in_turn from x xs h).1 first)
  where
    f : (x.number ≡ from + 1) × (are_in_turn (from + 1) xs ≡ true)
    f = first_in_turn from x xs h

    this : n ≡ x.number → (a : Heard) → Some a ≡ by_refused (list_any (λ y. nat_eq y n) (if_refused a x.number ++ refused_of xs))
    this is Assured = sym (ap by_refused (not_refused n (from + 1) xs f.1 (omega (arith, is, f.0))))
    this is NotListening = sym (ap (λ b. by_refused (b || is_refused n xs)) (eq-eqb x.number n (sym is)))

    later : (n == x.number) ≡ false → (a : Heard) → by_refused (is_refused n xs) ≡ by_refused (list_any (λ y. nat_eq y n) (if_refused a x.number ++ refused_of xs))
    later differs Assured = refl
    later differs NotListening = sym (ap (λ b. by_refused (b || is_refused n xs)) (differ_by x.number n (λ is. absurd (search (differs, eq-eqb n x.number (sym is), rules)))))

    by : (b : Bool) → (n == x.number) ≡ b → (from + 1 < n → n ≤ from + 1 + length xs → answer_to n xs ≡ by_refused (is_refused n xs)) → (if n == x.number then Some x.answer else answer_to n xs) ≡ by_refused (is_refused n (x ∷ xs))
    by true is rest = ap (λ b. if b then Some x.answer else answer_to n xs) is ∙ this (eqb-true n x.number is) x.answer
    by false differs rest =
        let other : n ≡ x.number → ⊥ = λ is. absurd (search (differs, eq-eqb n x.number is, rules)) in
        ap (λ b. if b then Some x.answer else answer_to n xs) differs
        ∙ rest (omega (arith, after, f.0, other)) (omega (arith, within))
        ∙ later differs x.answer

-- the answer to a parcel of those that were heard
pub answer_heard : (n : ℕ) (xs : List Answer) → are_in_turn 0 xs ≡ true → 0 < n → n ≤ length xs → answer_to n xs ≡ by_refused (is_refused n xs)
answer_heard n xs h some within = answer_from n 0 xs h some (omega (arith, within))

-- an end of a link that heard one answer more
pub record HeardOne (old new : Sending) (a : Answer) : Type 0 where
  pub sent : new.sent ≡ old.sent
  pub count : length new.heard ≡ length old.heard + 1
  pub in_turn : are_in_turn 0 new.heard ≡ true
  pub refused : refused_of new.heard ≡ refused_of old.heard ++ if_refused a.answer a.number

pub heard_one : (old new : Sending) (a : Answer) → new ≡ heard_as (Some a) old → are_in_turn 0 old.heard ≡ true → a.number ≡ length old.heard + 1 → HeardOne old new a
heard_one old new a is h e = record {
  sent = ap (λ s. s.sent) is;
  count = ap (λ s. length s.heard) is ∙ length-append old.heard (a ∷ []);
  in_turn = ap (λ s. are_in_turn 0 s.heard) is ∙ in_turn_more old.heard a h e;
  refused = ap (λ s. refused_of s.heard) is ∙ refused_more old.heard a;
}
