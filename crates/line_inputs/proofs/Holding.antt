-- The events that a source holds, where an event is given, and whether there are some.
use Rattle.std.proofs.Common.{◌≡◌, ◌↔◌, ◌<◌, ◌-◌, ◌&&◌, ℕ, zero, suc, ℤ, Bool, true, false, not, nat_lt, Option, Some, None, Result, Ok, Err, IfNone, IfOk, OnOk, List, [], ◌∷◌, ◌++◌, length, map, drop, get_or, slice_set, if◌then◌else◌, refl, sym, ap, ap₂, ◌∙◌, arith}
use Rattle.std.specs.Option.{option_to_list}
use Rattle.std.specs.declared.alloc.AllocError.{AllocError}
use Rattle.std.proofs.lemmas.Bool.{lt-ltb}
use Rattle.byte_lines.specs.Unread.{lines_left}
use Rattle.event_tree.specs.Events.{Ev}
use Rattle.in_file.specs.Looks.{event_from}
use Rattle.in_file.specs.Looks.{Gave as FileGave}
use Rattle.in_file.specs.Views.{Watched}
use Rattle.in_lines.specs.Generators.{events_from, gave_all, generated}
use Rattle.in_lines.specs.Polls.{Received, received_at}
use Rattle.line_inputs.specs.Generating.{Generating, events_held, holds, next_event, passed}
use Rattle.line_inputs.specs.Rows.{Noted}
use Rattle.line_inputs.specs.Watching.{events_of, first_events, first_lines}

none_mapped : {A B C : Type 0} (f : A → B) (g : B → C) (xs : List A) → map g (map f xs) ≡ [] → xs ≡ []
none_mapped f g [] is = refl
none_mapped f g (x ∷ xs) is = absurd cc

-- ---- lines of a file or a stream as events

module _ (event : Received → Ev) (moment : ℤ) where
  abbrev pub as_events : List (List ℕ) → List Ev
  as_events lines = map event (received_at moment lines)

  pub no_events : (lines : List (List ℕ)) → (lines ≡ []) ↔ (as_events lines ≡ [])
  no_events lines = (λ none. ap as_events none, λ none. none_mapped _ _ lines none)

  pub holds_so : (lines : List (List ℕ)) (some : Bool) → ((some ≡ false) ↔ (lines ≡ [])) → (some ≡ false) ↔ (as_events lines ≡ [])
  holds_so lines some says = (λ no. (no_events lines).0 (says.0 no), λ none. says.1 ((no_events lines).1 none))

-- of a watched file
pub file_next : (e : Option Ev) (w left : Watched) → FileGave e w left → events_of w ≡ option_to_list e ++ events_of left
file_next None w left gave = ap events_of (sym gave.1)
file_next (Some event) w left gave =
    ap (λ l. map (event_from w.path w.codec) (received_at w.moment l)) gave.first
    ∙ ap₂ (λ x xs. x ∷ xs) (sym gave.event_is) (ap (λ (v : Watched). map (event_from v.path v.codec) (received_at v.moment (lines_left left.unread))) (sym gave.after_is))

-- ---- the first of some files

module _ (n new : Noted) where
  pub first_there : (files : List Noted) (at : ℕ) → at < length files → n ≡ get_or files at n → first_events (drop at files) ≡ events_of n.watched
  first_there [] at lt is = absurd (omega (arith, lt))
  first_there (x ∷ files) zero lt is = ap (λ (m : Noted). events_of m.watched) (sym is)
  first_there (x ∷ files) (suc at) lt is = first_there files at (omega (arith, lt)) is

  pub first_then : (files : List Noted) (at : ℕ) → at < length files → first_events (drop at (slice_set files at new)) ≡ events_of new.watched
  first_then [] at lt = absurd (omega (arith, lt))
  first_then (x ∷ files) zero lt = refl
  first_then (x ∷ files) (suc at) lt = first_then files at (omega (arith, lt))

  pub lines_there : (files : List Noted) (at : ℕ) → at < length files → n ≡ get_or files at n → first_lines (drop at files) ≡ lines_left n.watched.unread
  lines_there [] at lt is = absurd (omega (arith, lt))
  lines_there (x ∷ files) zero lt is = ap (λ (m : Noted). lines_left m.watched.unread) (sym is)
  lines_there (x ∷ files) (suc at) lt is = lines_there files at (omega (arith, lt)) is

  pub lines_then : (files : List Noted) (at : ℕ) → at < length files → first_lines (drop at (slice_set files at new)) ≡ lines_left new.watched.unread
  lines_then [] at lt = absurd (omega (arith, lt))
  lines_then (x ∷ files) zero lt = refl
  lines_then (x ∷ files) (suc at) lt = lines_then files at (omega (arith, lt))

pub first_held : (files : List Noted) → (first_lines files ≡ []) ↔ (first_events files ≡ [])
first_held [] = (λ none. refl, λ none. refl)
first_held (n ∷ files) = no_events (event_from n.watched.path n.watched.codec) n.watched.moment (lines_left n.watched.unread)

-- ---- a generator

some_or_over : (over : Bool) (x : Ev) (xs : List Ev) (some : Bool) → some ≡ true → (some && not over ≡ false) ↔ ((if over then [] else x ∷ xs) ≡ [])
some_or_over true x xs some is = (λ no. refl, λ none. ap (λ b. b && false) is)
some_or_over false x xs some is = (λ no. absurd (differ (sym (ap (λ b. b && true) is) ∙ no)), λ none. absurd cc)
  where
    differ : true ≡ false → ⊥
    differ is = absurd cc

pub generator_holds : (g : Generating) → (holds g ≡ false) ↔ (events_held g ≡ [])
unfolding events_from
generator_holds g = by g.left
  where
    by : (left : ℕ) → (nat_lt 0 left && not (gave_all g.generator g.given) ≡ false) ↔ (events_from g.generator g.moment g.given left ≡ [])
    by zero = (λ no. refl, λ none. refl)
    by (suc n) = some_or_over (gave_all g.generator g.given) (generated g.generator g.moment g.given) (events_from g.generator g.moment (suc g.given) n) (nat_lt 0 (suc n)) (lt-ltb 0 (suc n) (omega arith))

and_false : (b : Bool) → (b && false) ≡ false
and_false true = refl
and_false false = refl

module _ (g : Generating) where
  abbrev event : Ev
  event = generated g.generator g.moment g.given

  abbrev then_held : ℕ → Bool → List Ev
  then_held left some =
      option_to_list (if some then Some event else None)
      ++ events_held (if some then record g { given = suc g.given; left = left - 1 } else record g { left = left })

  next_by : (left : ℕ) (over : Bool) → gave_all g.generator g.given ≡ over → events_held (record g { left = left }) ≡ then_held left (nat_lt 0 left && not (gave_all g.generator g.given))
  unfolding events_from
  next_by zero over is = refl
  next_by (suc n) true is = ap (then_held (suc n)) (sym (ap (λ b. nat_lt 0 (suc n) && not b) is ∙ and_false (nat_lt 0 (suc n))))
  next_by (suc n) false is =
      let less : suc n - 1 ≡ n = omega arith in
      let some : (nat_lt 0 (suc n) && not (gave_all g.generator g.given)) ≡ true = ap₂ (λ b c. b && not c) (lt-ltb 0 (suc n) (omega arith)) is in
      ap (λ b. if b then [] else event ∷ events_from g.generator g.moment (suc g.given) n) is
      ∙ ap (λ k. event ∷ events_from g.generator g.moment (suc g.given) k) (sym less) ∙ ap (then_held (suc n)) (sym some)

  pub generator_next : events_held g ≡ option_to_list (next_event g) ++ events_held (passed g)
  generator_next = next_by g.left (gave_all g.generator g.given) refl

pub generator_gave : (g left : Generating) (result : Result (Option Ev) AllocError) → IfOk result (λ e. e ≡ next_event g) → OnOk result (left ≡ passed g)
    → IfOk result (λ e. events_held g ≡ option_to_list e ++ events_held left)
generator_gave g left (Ok e) is passes = generator_next g ∙ ap₂ (λ x s. option_to_list x ++ events_held s) (sym is) (sym passes)
generator_gave g left (Err f) is passes = tt

pub generator_none : (g : Generating) (result : Result (Option Ev) AllocError) → IfOk result (λ e. e ≡ next_event g) → IfOk result (λ e. IfNone e (events_held g ≡ []))
generator_none g (Ok e) is = by (holds g) refl e is
  where
    by : (some : Bool) → holds g ≡ some → (e : Option Ev) → e ≡ (if some then Some (generated g.generator g.moment g.given) else None) → IfNone e (events_held g ≡ [])
    by some here (Some x) is = tt
    by true here None is = absurd cc
    by false here None is = (generator_holds g).0 here
generator_none g (Err f) is = tt
