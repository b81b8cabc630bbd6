-- Takers that are gone through one after another.
use Rattle.std.proofs.Common.{◌≡◌, ◌≢◌, inl, inr, ◌<◌, ◌≤◌, ◌+◌, ◌-◌, ℕ, suc, Bool, true, List, [], ◌∷◌, ◌++◌, length, Option, Some, None, Result, Ok, Err, IsErr, rules, min, get_or, slice_set, refl, sym, ap, ◌∙◌, subst, arith, append-nil}
use Rattle.std.specs.declared.alloc.AllocError.{AllocError}
use Rattle.std.proofs.lemmas.List.{get_or-map, length-map, map-set}
use Rattle.line_links.specs.Answers.{numbers_from}
use Rattle.line_links.specs.Listening.{ChangesAt, EndsAll, InTurn, PollsInTurn, PollsOn, StopsAtOne, in_turn, states}
use Rattle.line_links.specs.Takers.{EndsBy, TakeState, take_state}
use Rattle.line_links.specs.declared.taker.AddressTaker.{AddressTaker}

-- one taker was changed
pub changed : (R : TakeState → TakeState → Type 0) (xs : List AddressTaker) (at : ℕ) (x y : AddressTaker) → at < length xs → x ≡ get_or xs at x → R (take_state x) (take_state y)
    → ChangesAt R at (states xs) (states (slice_set xs at y))
changed R xs at x y lt is changes = record {
  before = take_state x;
  after = take_state y;
  there = omega (arith, lt, length-map xs take_state);
  is = ap take_state is ∙ sym (get_or-map take_state xs at x (take_state x) lt);
  changes = changes;
  behind = map-set take_state xs at y;
}

next_number : (place end : ℕ) → place < end → numbers_from place (end - place) ≡ place ∷ numbers_from (place + 1) (end - (place + 1))
next_number place end lt = let e : end - place ≡ suc (end - (place + 1)) = omega (arith, lt) in ap (numbers_from place) e

pub no_number : (place end : ℕ) → end ≤ place → numbers_from place (end - place) ≡ []
no_number place end le = let e : end - place ≡ 0 = omega (arith, le) in ap (numbers_from place) e

module _ {A : Type 0} (Passes : TakeState → TakeState → Type 0) (Stops : A → ℕ → List TakeState → List TakeState → Type 0) (all : A) where
  -- the next of some places was passed, or it was stopped there
  pub passed : (place end : ℕ) (more : List ℕ) (answer : A) (old mid last : List TakeState) → place < end → ChangesAt Passes place old mid
      → InTurn Passes Stops all (numbers_from (place + 1) (end - (place + 1)) ++ more) answer mid last → InTurn Passes Stops all (numbers_from place (end - place) ++ more) answer old last
  passed place end more answer old mid last lt changes rest = subst (λ ns. InTurn Passes Stops all (ns ++ more) answer old last) (sym (next_number place end lt)) (inr (mid, (changes, rest)))

  pub stopped : (place end : ℕ) (more : List ℕ) (answer : A) (old new : List TakeState) → place < end → Stops answer place old new → InTurn Passes Stops all (numbers_from place (end - place) ++ more) answer old new
  stopped place end more answer old new lt stops = subst (λ ns. InTurn Passes Stops all (ns ++ more) answer old new) (sym (next_number place end lt)) (inl stops)

  -- no place is left
  pub none_left : (place end : ℕ) (more : List ℕ) (answer : A) (old new : List TakeState) → end ≤ place → InTurn Passes Stops all more answer old new → InTurn Passes Stops all (numbers_from place (end - place) ++ more) answer old new
  none_left place end more answer old new le rest = subst (λ ns. InTurn Passes Stops all (ns ++ more) answer old new) (sym (no_number place end le)) rest

-- polls at all of some places
pub polls_closed : (r : Result (Option ℕ) AllocError) (ps : List ℕ) (old new : List TakeState) → PollsOn r ps old new → PollsInTurn ps r old new
polls_closed (Ok (Some place)) ps old new on = subst (λ qs. PollsInTurn qs (Ok (Some place)) old new) (append-nil ps) (on [])
polls_closed (Ok None) ps old new on = subst (λ qs. PollsInTurn qs (Ok None) old new) (append-nil ps) (on [] (Ok None) new (refl, refl))
polls_closed (Err e) ps old new on = subst (λ qs. PollsInTurn qs (Err e) old new) (append-nil ps) (on [])

-- polls that found no memory
pub polls_failed : (r : Result (Option ℕ) AllocError) (ps : List ℕ) (old new : List TakeState) → IsErr r → ((e : AllocError) → PollsOn (Err e) ps old new) → PollsOn r ps old new
polls_failed (Ok found) ps old new failed on = absurd (search (failed, rules))
polls_failed (Err e) ps old new failed on = on e

-- polls at some places, and then at others
pub polls_then : (r : Result (Option ℕ) AllocError) (ps qs : List ℕ) (old mid new : List TakeState) → PollsOn (Ok None) ps old mid → PollsOn r qs mid new → PollsInTurn (ps ++ qs) r old new
polls_then r ps qs old mid new one other = one qs r new (polls_closed r qs mid new other)

pub polls_found : (r : Result (Option ℕ) AllocError) (ps qs : List ℕ) (old new : List TakeState) → r ≢ Ok None → PollsOn r ps old new → PollsInTurn (ps ++ qs) r old new
polls_found (Ok (Some place)) ps qs old new some on = on qs
polls_found (Ok None) ps qs old new some on = absurd (some refl)
polls_found (Err e) ps qs old new some on = on qs

-- the ends of all takers
pub ends_all : (xs : List AddressTaker) (answer : Bool) (last : List TakeState) → InTurn (EndsBy true) StopsAtOne true (numbers_from 0 (length xs - 0) ++ []) answer (states xs) last → EndsAll answer (states xs) last
ends_all xs answer last ends =
    let e : length xs - 0 ≡ length (states xs) = omega (arith, length-map xs take_state) in
    subst (λ ns. InTurn (EndsBy true) StopsAtOne true ns answer (states xs) last) (append-nil (numbers_from 0 (length xs - 0)) ∙ ap (numbers_from 0) e) ends

-- the places of all takers in turn, by the calls that go through them
pub in_turn_from : (first n begin many : ℕ) → begin ≡ min first many → many ≡ n → numbers_from begin (many - begin) ++ numbers_from 0 (begin - 0) ≡ in_turn first n
in_turn_from first n begin many begins counts =
    let e : begin - 0 ≡ begin = omega arith in
    ap (λ k. numbers_from begin (many - begin) ++ numbers_from 0 k) e
    ∙ ap (λ b. numbers_from b (many - b) ++ numbers_from 0 b) begins ∙ ap (in_turn first) counts
