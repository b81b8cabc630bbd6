-- The position files of several files, beside each other's assurances.
use Rattle.std.proofs.Common.{◌≡◌, ◌⊎◌, inl, inr, ⊎_elim, ◌<◌, ◌≤◌, ◌+◌, ℕ, zero, suc, Bool, true, false, nat_eq, if◌then◌else◌, Option, Some, None, Result, Ok, Err, OnErr, IsErr, List, [], ◌∷◌, ◌++◌, length, map, take, drop, get_or, slice_set, refl, sym, ap, ap₂, ◌∙◌, subst, arith, append-nil}
use Rattle.std.specs.List.{AllByRecursion}
use Rattle.std.proofs.lemmas.List.{drop_all, drop_more, get_or_at, length-append, length-map, length-take-le, map-append, set-get_or, set_at, take-append-drop, take_all, take_more}
use Rattle.io_traits.specs.Images.{Image}
use Rattle.io_traits.specs.Moments.{EachMoment, ImagesTell, LeavesBeside, ReadsBeside}
use Rattle.io_traits.specs.declared.stores.Store.{Ghosts as StoreWords}
use Rattle.io_traits.proofs.Beside.{beside_more, both_beside, both_read}
use Rattle.io_traits.proofs.Moments.{holds_now, one_then_other, started, weaker}
use Rattle.in_file.specs.Positions.{IsOwn, IsReady}
use Rattle.in_file.specs.Views.{Watched}
use Rattle.in_file.proofs.Staying.{ready_beside}
use Rattle.crc_frame.specs.Slots.{next_turn}
use Rattle.line_inputs.specs.Positions.{Apart, AreReady, HasOwn, IsOfThese, LeavesReached}
use Rattle.line_inputs.specs.Rows.{Noted, assured, handed_on, reached, recorded}
use Rattle.line_inputs.specs.Watching.{FirstHasRoom, FrontAssured, change_at, first_events}

-- ---- facts of each of a list

module _ {X : Type 0} (P : X → Type 0) where
  pub all_at : (xs : List X) (i : ℕ) (x : X) → i < length xs → x ≡ get_or xs i x → AllByRecursion P xs → P x
  all_at [] i x lt is all = absurd (omega (arith, lt))
  all_at (y ∷ xs) zero x lt is all = subst P (sym is) all.0
  all_at (y ∷ xs) (suc i) x lt is all = all_at xs i x (omega (arith, lt)) is all.1

  pub all_set : (xs : List X) (i : ℕ) (x : X) → AllByRecursion P xs → P x → AllByRecursion P (slice_set xs i x)
  all_set [] i x all here = tt
  all_set (y ∷ xs) zero x all here = (here, all.1)
  all_set (y ∷ xs) (suc i) x all here = (all.0, all_set xs i x all.1 here)

pub all_then : {X : Type 0} (P Q R : X → Type 0) → ((x : X) → P x → Q x → R x) → (xs : List X) → AllByRecursion P xs → AllByRecursion Q xs → AllByRecursion R xs
all_then P Q R follows [] one other = tt
all_then P Q R follows (x ∷ xs) one other = (follows x one.0 other.0, all_then P Q R follows xs one.1 other.1)

-- ---- one file in the place of another, with the same position file

module _ (n new : Noted) (same : new.watched.slot ≡ n.watched.slot) where
  pub apart_set : (files : List Noted) (i : ℕ) → i < length files → n ≡ get_or files i n → Apart files → Apart (slice_set files i new)
  apart_set [] i lt is apart = absurd (omega (arith, lt))
  apart_set (x ∷ files) zero lt is apart = (all_then (HasOwn x) (HasOwn x) (HasOwn new) (λ y own again eq. own (eq ∙ same ∙ ap (λ (m : Noted). m.watched.slot) is)) files apart.0 apart.0, apart.1)
  apart_set (x ∷ files) (suc i) lt is apart =
      let own = all_at (HasOwn x) files i n (omega (arith, lt)) is apart.0 in
      (all_set (HasOwn x) files i new apart.0 (λ eq. own (sym same ∙ eq)), apart_set files i (omega (arith, lt)) is apart.1)

  pub these_same : (files : List Noted) (i : ℕ) → i < length files → n ≡ get_or files i n → (name : List ℕ) → IsOfThese (slice_set files i new) name → IsOfThese files name
  these_same [] i lt is name this = absurd (omega (arith, lt))
  these_same (x ∷ files) zero lt is name this = ⊎_elim (λ own. inl (own ∙ same ∙ ap (λ (m : Noted). m.watched.slot) is)) (λ later. inr later) this
  these_same (x ∷ files) (suc i) lt is name this = ⊎_elim (λ own. inl own) (λ later. inr (these_same files i (omega (arith, lt)) is name later)) this

pub of_these : (files : List Noted) (i : ℕ) (n : Noted) → i < length files → n ≡ get_or files i n → (name : List ℕ) → IsOwn n.watched name → IsOfThese files name
of_these [] i n lt is name own = absurd (omega (arith, lt))
of_these (x ∷ files) zero n lt is name own = inl (own ∙ ap (λ (m : Noted). m.watched.slot) is)
of_these (x ∷ files) (suc i) n lt is name own = inr (of_these files i n (omega (arith, lt)) is name own)

-- ---- one of them is assured

module _ {S : Type 0} (store : StoreWords S) (tell : ImagesTell store) where
  module _ (n new : Noted) (old now : S) (same : new.watched.slot ≡ n.watched.slot) (ready : IsReady store new.watched now)
      (leaves : EachMoment store old now (LeavesBeside store (IsOwn n.watched) old)) (reads : ReadsBeside store (IsOwn n.watched) old now) where
    stays : (other : Noted) → (other.watched.slot ≡ n.watched.slot → ⊥) → IsReady store other.watched old → IsReady store other.watched now
    stays other apart was = ready_beside store other.watched old was (IsOwn n.watched) (λ name own mine. apart (sym own ∙ mine)) tell now (holds_now store old now (LeavesBeside store (IsOwn n.watched) old) leaves) reads

    all_ready : (files : List Noted) (i : ℕ) → i < length files → n ≡ get_or files i n → Apart files → AllByRecursion (λ (m : Noted). IsReady store m.watched old) files
        → AllByRecursion (λ (m : Noted). IsReady store m.watched now) (slice_set files i new)
    all_ready [] i lt is apart all = absurd (omega (arith, lt))
    all_ready (x ∷ files) zero lt is apart all = (
      ready,
      all_then (λ (m : Noted). IsReady store m.watched old) (HasOwn x) (λ (m : Noted). IsReady store m.watched now)
          (λ m was own. stays m (λ eq. own (eq ∙ ap (λ (k : Noted). k.watched.slot) is)) was) files all.1 apart.0,
    )
    all_ready (x ∷ files) (suc i) lt is apart all =
        let own = all_at (HasOwn x) files i n (omega (arith, lt)) is apart.0 in
        (stays x (λ eq. own (sym eq)) all.0, all_ready files i (omega (arith, lt)) is apart.1 all.1)

    pub are_ready : (files : List Noted) (i : ℕ) → i < length files → n ≡ get_or files i n → AreReady store files old → AreReady store (slice_set files i new) now
    are_ready files i lt is ready_files = record {
      each = all_ready files i lt is ready_files.apart ready_files.each;
      apart = apart_set n new same files i lt is ready_files.apart;
    }

  -- behind the runs of others, some of them
  module _ (all files : List Noted) (first old now : S) (among : (name : List ℕ) → IsOfThese files name → IsOfThese all name) (i : ℕ) (n : Noted) (lt : i < length files) (is : n ≡ get_or files i n) where
    mine : (name : List ℕ) → IsOfThese all name ⊎ IsOwn n.watched name → IsOfThese all name
    mine name either = ⊎_elim (λ one. one) (λ own. among name (of_these files i n lt is name own)) either

    pub leaves_beside : EachMoment store first old (LeavesBeside store (IsOfThese all) first) → ReadsBeside store (IsOfThese all) first old → EachMoment store old now (LeavesBeside store (IsOwn n.watched) old)
        → EachMoment store first now (LeavesBeside store (IsOfThese all) first)
    leaves_beside before reads one =
        one_then_other store tell first old now (LeavesBeside store (IsOfThese all) first) (LeavesBeside store (IsOwn n.watched) old) (LeavesBeside store (IsOfThese all) first) before one
        (λ i told left. left)
        (λ image told left. beside_more store (λ name. IsOfThese all name ⊎ IsOwn n.watched name) (IsOfThese all) mine first image
        (both_beside store (IsOfThese all) (IsOwn n.watched) first old (holds_now store first old (LeavesBeside store (IsOfThese all) first) before) reads image left))

    pub reads_beside : ReadsBeside store (IsOfThese all) first old → ReadsBeside store (IsOwn n.watched) old now → ReadsBeside store (IsOfThese all) first now
    reads_beside before one told name other = both_read store (IsOfThese all) (IsOwn n.watched) first old now before one told name (λ either. other (mine name either))

-- ---- each of a list is changed, one after another

module _ {X : Type 0} (f : X → X) (all : List X) where
  abbrev pub front_changed : ℕ → List X
  front_changed place = map f (take place all) ++ drop place all

  pub same_long : (now : List X) (place : ℕ) → now ≡ front_changed place → length now ≡ length all
  same_long now place so_far =
      ap length so_far ∙ length-append (map f (take place all)) (drop place all) ∙ ap (λ k. k + length (drop place all)) (length-map (take place all) f)
      ∙ sym (length-append (take place all) (drop place all)) ∙ ap length (take-append-drop place all)

  append_one : (xs : List X) (z : X) (ys : List X) → (xs ++ z ∷ []) ++ ys ≡ xs ++ z ∷ ys
  append_one [] z ys = refl
  append_one (w ∷ xs) z ys = ap (λ l. w ∷ l) (append_one xs z ys)

  pub one_more : (now : List X) (place : ℕ) (x y : X) → now ≡ front_changed place → place < length now → x ≡ get_or now place x → y ≡ f x → slice_set now place y ≡ front_changed (place + 1)
  one_more now place x y so_far lt is changed =
      let within : place < length all = omega (arith, lt, same_long now place so_far) in
      let front : length (map f (take place all)) ≡ place = length-map (take place all) f ∙ length-take-le place all (omega (arith, within)) in
      let begins : drop place all ≡ get_or all place x ∷ drop (place + 1) all = drop_more all place x within in
      let here : get_or all place x ≡ x
      = sym (get_or_at (map f (take place all)) (get_or all place x) (drop (place + 1) all) x place front) ∙ sym (is ∙ ap (λ l. get_or l place x) (so_far ∙ ap (λ l. map f (take place all) ++ l) begins)) in
      let rest : drop place all ≡ x ∷ drop (place + 1) all = begins ∙ ap (λ z. z ∷ drop (place + 1) all) here in
      ap (λ l. slice_set l place y) (so_far ∙ ap (λ l. map f (take place all) ++ l) rest) ∙ set_at (map f (take place all)) x (drop (place + 1) all) y place front
      ∙ ap (λ z. map f (take place all) ++ z ∷ drop (place + 1) all) changed
      ∙ sym (append_one (map f (take place all)) (f x) (drop (place + 1) all))
      ∙ ap (λ l. l ++ drop (place + 1) all) (sym (map-append f (take place all) (x ∷ [])) ∙ ap (map f) (ap (λ z. take place all ++ z ∷ []) (sym here) ∙ sym (take_more all place x within)))

  pub all_changed : (now : List X) (place : ℕ) → now ≡ front_changed place → length now ≤ place → now ≡ map f all
  all_changed now place so_far past =
      let within : length all ≤ place = omega (arith, past, same_long now place so_far) in
      so_far ∙ ap₂ (λ t d. map f t ++ d) (take_all place all within) (drop_all place all within) ∙ append-nil (map f all)

-- ---- files assured one after another

recorded_slot : (place : Option ℕ) (w : Watched) → (recorded place w).slot ≡ w.slot
recorded_slot None w = refl
recorded_slot (Some place) w = by (nat_eq place w.position)
  where
    by : (same : Bool) → (if same then w else record w { position = place; turn = next_turn w.turn }).slot ≡ w.slot
    by true = refl
    by false = refl

pub ready_at : {S : Type 0} (store : StoreWords S) (files : List Noted) (place : ℕ) (n : Noted) (s : S) → place < length files → n ≡ get_or files place n → AreReady store files s → IsReady store n.watched s
ready_at store files place n s lt is ready = all_at (λ (m : Noted). IsReady store m.watched s) files place n lt is ready.each

module _ {S : Type 0} (store : StoreWords S) (front : ℕ) where
  pub record SoFar (all : List Noted) (place : ℕ) (files : List Noted) (first now : S) : Type 0 where
    pub changed : files ≡ front_changed (assured front) all place
    pub ready : AreReady store files now
    pub among : (name : List ℕ) → IsOfThese files name → IsOfThese all name
    pub moments : EachMoment store first now (LeavesBeside store (IsOfThese all) first)
    pub reads : ReadsBeside store (IsOfThese all) first now
    pub faults : store.faults now ≡ store.faults first

  pub none_yet : (all : List Noted) (s : S) → AreReady store all s → SoFar all 0 all s s
  none_yet all s ready = record {
    changed = refl;
    ready = ready;
    among = λ name this. this;
    moments = started store s (LeavesBeside store (IsOfThese all) s) (λ i left. (i, inl left, λ name other. refl));
    reads = λ told name other. refl;
    faults = refl;
  }

  reached_beside : (place : Option ℕ) (w : Watched) (s : S) (i : Image) → LeavesReached store place w s i → LeavesBeside store (IsOwn w) s i
  reached_beside None w s i left = left.1
  reached_beside (Some place) w s i left = left.beside

  module _ (tell : ImagesTell store) (all files : List Noted) (place : ℕ) (first old now : S) (so_far : SoFar all place files first old) (n new : Noted) (lt : place < length files) (is : n ≡ get_or files place n)
      (leaves : EachMoment store old now (LeavesReached store (reached front n) n.watched old)) (reads : ReadsBeside store (IsOwn n.watched) old now) where
    leaves_own : EachMoment store old now (LeavesBeside store (IsOwn n.watched) old)
    leaves_own =
        weaker store tell old now (LeavesReached store (reached front n) n.watched old) (LeavesBeside store (IsOwn n.watched) old) leaves (λ i told left. reached_beside (reached front n) n.watched old i left)

    pub moments_then : EachMoment store first now (LeavesBeside store (IsOfThese all) first)
    moments_then = leaves_beside store tell all files first old now so_far.among place n lt is so_far.moments so_far.reads leaves_own

    pub reads_then : ReadsBeside store (IsOfThese all) first now
    reads_then = reads_beside store tell all files first old now so_far.among place n lt is so_far.reads reads

    pub one_assured : new ≡ assured front n → IsReady store new.watched now → store.faults now ≡ store.faults old → SoFar all (place + 1) (slice_set files place new) first now
    one_assured changed ready faults =
        let same : new.watched.slot ≡ n.watched.slot = ap (λ (m : Noted). m.watched.slot) changed ∙ recorded_slot (reached front n) n.watched in
        record {
          changed = one_more (assured front) all files place n new so_far.changed lt is changed;
          ready = are_ready store tell n new old now same ready leaves_own reads files place lt is so_far.ready;
          among = λ name this. so_far.among name (these_same n new same files place lt is name this);
          moments = moments_then;
          reads = reads_then;
          faults = faults ∙ so_far.faults;
        }

    pub part_assured : new ≡ n → FrontAssured front all (slice_set files place new)
    part_assured same = record { done = place; after_is = ap (λ (m : Noted). slice_set files place m) (same ∙ is) ∙ set-get_or files place n ∙ so_far.changed }

-- ---- one place is changed

pub changed_at : (f : Noted → Noted) (files : List Noted) (at : ℕ) (n new : Noted) → n ≡ get_or files at n → new ≡ f n → slice_set files at new ≡ change_at f at files
changed_at f [] at n new is changed = refl
changed_at f (x ∷ files) zero n new is changed = ap (λ z. z ∷ files) (changed ∙ ap f is)
changed_at f (x ∷ files) (suc at) n new is changed = ap (λ l. x ∷ l) (changed_at f files at n new is changed)

pub changed_past : (f : Noted → Noted) (files : List Noted) (at : ℕ) → length files ≤ at → change_at f at files ≡ files
changed_past f [] at past = refl
changed_past f (x ∷ files) zero past = absurd (omega (arith, past))
changed_past f (x ∷ files) (suc at) past = ap (λ l. x ∷ l) (changed_past f files at (omega (arith, past)))

-- ---- answers

pub on_err : {T E : Type 0} (result : Result T E) (P : Type 0) → P → OnErr result P
on_err (Ok x) P holds = tt
on_err (Err e) P holds = holds

pub no_err : {T E : Type 0} (result : Result T E) (x : T) → result ≡ Ok x → IsErr result → ⊥
no_err (Ok y) x is failed = absurd cc
no_err (Err e) x is failed = absurd cc

-- an event that is handed on leaves what is held, and the room for its row
pub passed_events : (files : List Noted) (at : ℕ) → first_events (drop at (change_at handed_on at files)) ≡ first_events (drop at files)
passed_events [] at = refl
passed_events (x ∷ files) zero = refl
passed_events (x ∷ files) (suc at) = passed_events files at

pub passed_room : (files : List Noted) (at : ℕ) → FirstHasRoom (drop at files) → FirstHasRoom (drop at (change_at handed_on at files))
passed_room [] at room = room
passed_room (x ∷ files) zero room = room
passed_room (x ∷ files) (suc at) room = passed_room files at room
