-- Inputs that are opened one after another: the files that they watch have position files of their own, and each opening leaves the earlier ones ready.
use Rattle.std.proofs.Common.{◌≡◌, ◌⊎◌, inl, inr, ⊎_elim, ℕ, Bool, true, false, not, ◌||◌, ◌&&◌, IsTrue, List, [], ◌∷◌, ◌++◌, if◌then◌else◌, refl, sym, ap, ◌∙◌, subst, append-nil}
use Rattle.std.proofs.lemmas.Bool.{false≢true}
use Rattle.std.proofs.lemmas.List.{append_assoc, append_cancel_left}
use Rattle.std.proofs.lemmas.Slice.Eq.{bytes_eq-Decides}
use Rattle.std.specs.Prelude.{Option, Some, None, Result, Ok, Err}
use Rattle.std.specs.List.{AllByRecursion, filter, list_any}
use Rattle.std.specs.Str.{bytes_eq}
use Rattle.io_traits.specs.Images.{at_rest}
use Rattle.io_traits.specs.Moments.{EachMoment, ImagesTell, NowOrSynced}
use Rattle.io_traits.specs.declared.files.Files.{Ghosts as FilesWords}
use Rattle.io_traits.specs.declared.stores.Store.{Ghosts as StoreWords}
use Rattle.io_traits.proofs.Moments.{holds_now, one_then_other, started}
use Rattle.slot_files.specs.Names.{position_name}
use Rattle.slot_files.specs.declared.name.PositionOf.TheVariants.{Input as OfInput}
use Rattle.in_file.specs.Positions.{IsReady}
use Rattle.in_file.specs.Views.{Watched}
use Rattle.in_file.specs.Watching.{is_free}
use Rattle.in_file.specs.declared.plan.FilePlan.{FilePlan}
use Rattle.in_file.specs.declared.faults.OpenFault.{OpenFault}
use Rattle.in_file.specs.declared.faults.OpenFault.TheVariants as o
use Rattle.in_file.proofs.Staying.{ready_beside}
use Rattle.plugin_settings.specs.declared.read.Input.{Input}
use Rattle.plugin_settings.specs.declared.read.Input.TheVariants as i
use Rattle.line_inputs.specs.Inputs.{InputView}
use Rattle.line_inputs.specs.Openings.{AreOfPath, AreOpen, BeginsWith, IsOpen, position_path, untaken}
use Rattle.line_inputs.specs.Positions.{Apart, AreReady, HasOwn}
use Rattle.line_inputs.specs.Rows.{Noted}
use Rattle.line_inputs.specs.Sources.{connections_of, files_of}
use Rattle.line_inputs.specs.Starting.{IsOpenAs}
use Rattle.graph_checks.specs.declared.planned.PlannedInput.{PlannedInput}
use Rattle.line_folder.specs.FileNames.{input_slot}
use Rattle.line_core.specs.Openings.{AreOpened, AreShort, HasNone, IsNamedAmong, opened_at}
use Rattle.line_core.specs.Readiness.{InputsReady, IsRecordedIn, connections_by, watched_by}
use Rattle.line_core.specs.declared.line.LineInput.{LineInput}
use Rattle.line_core.proofs.EachOf.{each_joined, both_of, each_mapped, each_then}
use Rattle.line_core.proofs.PositionNames.{position_names_differ}

-- ---- lists

either_left : (a b : Bool) → a ≡ true → (a || b) ≡ true
either_left true b is = refl
either_left false b is = absurd (false≢true is)

either_right : (a b : Bool) → b ≡ true → (a || b) ≡ true
either_right true b is = refl
either_right false b is = is

any_split : (a b : Bool) → (a || b) ≡ true → (a ≡ true) ⊎ (b ≡ true)
any_split true b is = inl refl
any_split false b is = inr is

any_in_front : {X : Type 0} (p : X → Bool) (front rest : List X) → list_any p front ≡ true → list_any p (front ++ rest) ≡ true
any_in_front p [] rest is = absurd (false≢true is)
any_in_front p (x ∷ front) rest is = ⊎_elim
    (λ here. either_left (p x) (list_any p (front ++ rest)) here)
    (λ later. either_right (p x) (list_any p (front ++ rest)) (any_in_front p front rest later))
    (any_split (p x) (list_any p front) is)

any_behind : {X : Type 0} (p : X → Bool) (front rest : List X) → list_any p rest ≡ true → list_any p (front ++ rest) ≡ true
any_behind p [] rest is = is
any_behind p (x ∷ front) rest is = either_right (p x) (list_any p (front ++ rest)) (any_behind p front rest is)

-- each of some paths is among them
each_among : (paths : List (List ℕ)) → AllByRecursion (λ p. list_any (bytes_eq p) paths ≡ true) paths
each_among [] = tt
each_among (path ∷ paths) = (
  either_left (bytes_eq path path) (list_any (bytes_eq path) paths) ((bytes_eq-Decides path path).1 refl),
  each_then (λ p. list_any (bytes_eq p) paths ≡ true) (λ p. list_any (bytes_eq p) (path ∷ paths) ≡ true) (λ p is. either_right (bytes_eq p path) (list_any (bytes_eq p) paths) is) paths (each_among paths),
)

-- ---- the paths that an input watches

-- each of some that are filtered passes, and what is left of others by their position files is among them
left_of : {X : Type 0} (p : X → Bool) (x : X) (xs : List X) (P : X → Type 0) (b : Bool) → p x ≡ b → (b ≡ true → P x) → AllByRecursion P xs → AllByRecursion P (if b then x ∷ xs else xs)
left_of p x xs P true is makes each = (makes refl, each)
left_of p x xs P false is makes each = each

each_filtered : {X : Type 0} (p : X → Bool) (xs : List X) → AllByRecursion (λ x. p x ≡ true) (filter p xs)
each_filtered p [] = tt
each_filtered p (x ∷ xs) = left_of p x (filter p xs) (λ y. p y ≡ true) (p x) refl (λ is. is) (each_filtered p xs)

each_untaken : (folder : List ℕ) (P : List ℕ → Type 0) (taken paths : List (List ℕ)) → AllByRecursion P paths → AllByRecursion P (untaken folder taken paths)
each_untaken folder P taken [] each = tt
each_untaken folder P taken (path ∷ paths) each =
    by (list_any (bytes_eq (position_path folder path)) taken) (each_untaken folder P taken paths each.1) (each_untaken folder P (taken ++ position_path folder path ∷ []) paths each.1)
  where
    by : (b : Bool) → AllByRecursion P (untaken folder taken paths) → AllByRecursion P (untaken folder (taken ++ position_path folder path ∷ []) paths)
        → AllByRecursion P (if b then untaken folder taken paths else path ∷ untaken folder (taken ++ position_path folder path ∷ []) paths)
    by true others more = others
    by false others more = (each.0, more)

not_among : (earlier : List (List ℕ)) (path : List ℕ) → is_free earlier path ≡ true → list_any (bytes_eq path) earlier ≡ false
not_among earlier path free = by (list_any (bytes_eq path) earlier) _ free
  where
    by : (b c : Bool) → (not b && c) ≡ true → b ≡ false
    by true c is = absurd (false≢true is)
    by false c is = refl

module _ {S F : Type 0} (store : StoreWords S) (files : FilesWords F) (folder : List ℕ) (plan : FilePlan) (first : S) where
  -- an open file has the position file of its path
  named : (n : Noted) → IsOpen store files folder plan first n → n.watched.slot ≡ input_slot folder n.watched.path
  named n is =
      ap (λ (w : Watched). w.slot) is.opened.begun.is ∙ ap (input_slot folder) (sym (ap (λ (w : Watched). w.path) is.opened.begun.is))

  module _ (path : List ℕ) (earlier later : List (List ℕ)) (old : F) (opened : List Noted) (open_are : AreOpen store files folder plan first opened) (of_path : AreOfPath files folder path earlier later old opened) where
    paths_each : (P : List ℕ → Type 0) → AllByRecursion P of_path.paths → AllByRecursion (λ (n : Noted). P n.watched.path) opened
    paths_each P each = each_mapped (λ (n : Noted). n.watched.path) P opened (subst (AllByRecursion P) (sym of_path.are) (each_untaken folder P [] of_path.paths each))

    -- no earlier input watches one of them
    pub fresh : AllByRecursion (λ (n : Noted). list_any (bytes_eq n.watched.path) earlier ≡ false) opened
    fresh = paths_each (λ p. list_any (bytes_eq p) earlier ≡ false)
        (each_then (λ p. is_free earlier p ≡ true) (λ p. list_any (bytes_eq p) earlier ≡ false) (λ p free. not_among earlier p free) of_path.paths
        (subst (AllByRecursion (λ p. is_free earlier p ≡ true)) (sym of_path.watched.are) (each_filtered (is_free earlier) _)))

    joined : AllByRecursion (λ (n : Noted). list_any (bytes_eq n.watched.path) later ≡ true) opened
    joined = paths_each (λ p. list_any (bytes_eq p) later ≡ true)
        (each_then (λ p. list_any (bytes_eq p) of_path.paths ≡ true) (λ p. list_any (bytes_eq p) later ≡ true)
        (λ p is. subst (λ l. list_any (bytes_eq p) l ≡ true) (sym of_path.joined) (any_behind (bytes_eq p) earlier of_path.paths is)) of_path.paths (each_among of_path.paths))

    pub named_among : AllByRecursion (IsNamedAmong folder later) opened
    named_among = each_then (λ (n : Noted). IsOpen store files folder plan first n × (list_any (bytes_eq n.watched.path) later ≡ true)) (IsNamedAmong folder later)
        (λ n is. record { slot = named n is.0; path = is.1 }) opened
        (both_of (IsOpen store files folder plan first) (λ (n : Noted). list_any (bytes_eq n.watched.path) later ≡ true) opened open_are joined)

-- ---- files of two inputs

still_among : (folder : List ℕ) (earlier later : List (List ℕ)) → BeginsWith earlier later → (opened : List Noted) → AllByRecursion (IsNamedAmong folder earlier) opened → AllByRecursion (IsNamedAmong folder later) opened
still_among folder earlier later begins opened each = each_then (IsNamedAmong folder earlier) (IsNamedAmong folder later)
    (λ n is. record { slot = is.slot; path = subst (λ l. list_any (bytes_eq n.watched.path) l ≡ true) (sym begins.1) (any_in_front (bytes_eq n.watched.path) earlier begins.0 is.path) }) opened each

-- a file of an earlier input, and one of a later
own_files : (folder : List ℕ) (earlier later : List (List ℕ)) (n m : Noted) → IsNamedAmong folder earlier n → IsNamedAmong folder later m → list_any (bytes_eq m.watched.path) earlier ≡ false → HasOwn n m
own_files folder earlier later n m is there none same =
    let names = append_cancel_left folder (position_name OfInput m.watched.path) (position_name OfInput n.watched.path) (sym there.slot ∙ same ∙ is.slot) in
    let paths = position_names_differ m.watched.path n.watched.path names in
    false≢true (sym none ∙ ap (λ p. list_any (bytes_eq p) earlier) paths ∙ is.path)

module _ (folder : List ℕ) (earlier later : List (List ℕ)) (more : List Noted) (named : AllByRecursion (IsNamedAmong folder later) more)
    (fresh : AllByRecursion (λ (n : Noted). list_any (bytes_eq n.watched.path) earlier ≡ false) more) where
  own_behind : (n : Noted) → IsNamedAmong folder earlier n → AllByRecursion (HasOwn n) more
  own_behind n is = each_then (λ (m : Noted). IsNamedAmong folder later m × (list_any (bytes_eq m.watched.path) earlier ≡ false)) (HasOwn n)
      (λ m there. own_files folder earlier later n m is there.0 there.1) more
      (both_of (IsNamedAmong folder later) (λ (m : Noted). list_any (bytes_eq m.watched.path) earlier ≡ false) more named fresh)

  apart_behind : (files : List Noted) → AllByRecursion (IsNamedAmong folder earlier) files → Apart files → Apart more → Apart (files ++ more)
  apart_behind [] each apart other = other
  apart_behind (n ∷ files) each apart other = (each_joined (HasOwn n) files more apart.0 (own_behind n each.0), apart_behind files each.1 apart.1 other)

-- ---- one input more

-- each file of an input has the position file of its path, which joined the paths, and no earlier one has it
pub record IsBeside (folder : List ℕ) (earlier later : List (List ℕ)) (opened : List Noted) : Type 0 where
  pub named : AllByRecursion (IsNamedAmong folder later) opened
  pub fresh : AllByRecursion (λ (n : Noted). list_any (bytes_eq n.watched.path) earlier ≡ false) opened

watched_added : (inputs : List LineInput) (i : LineInput) → watched_by (inputs ++ i ∷ []) ≡ watched_by inputs ++ files_of i.open.source
watched_added [] i = append-nil (files_of i.open.source)
watched_added (x ∷ inputs) i = ap (λ l. files_of x.open.source ++ l) (watched_added inputs i) ∙ sym (append_assoc (files_of x.open.source) (watched_by inputs) (files_of i.open.source))

connections_added : (inputs : List LineInput) (i : LineInput) → AllByRecursion HasNone (connections_by inputs) → HasNone (connections_of i.open.source) → AllByRecursion HasNone (connections_by (inputs ++ i ∷ []))
connections_added [] i each none = (none, tt)
connections_added (x ∷ inputs) i each none = (each.0, connections_added inputs i each.1 none)

module _ {S : Type 0} (store : StoreWords S) (tell : ImagesTell store) (old new : S) (run : EachMoment store old new (NowOrSynced store old)) (reads : IsTrue store.tells → store.seen new ≡ store.seen old) where
  stays : (w : Watched) → IsReady store w old → IsReady store w new
  stays w ready =
      ready_beside store w old ready (λ name. ⊥) (λ name own none. none) tell new (λ i left. (i, holds_now store old new (NowOrSynced store old) run i left, λ name other. refl))
      (λ told name other. ap (λ c. c name) (reads told))

  all_stay : (opened : List Noted) → AllByRecursion (λ (m : Noted). IsReady store m.watched old) opened → AllByRecursion (λ (m : Noted). IsReady store m.watched new) opened
  all_stay opened each = each_then (λ (m : Noted). IsReady store m.watched old) (λ (m : Noted). IsReady store m.watched new) (λ m one. stays m.watched one) opened each

  module _ (folder : List ℕ) (earlier later : List (List ℕ)) (begins : BeginsWith earlier later) (inputs : List LineInput) (before : AreOpened store folder earlier inputs old) where
    -- an opening that gives no input
    pub none_more : AreOpened store folder later inputs new
    none_more = record {
      ready = record { each = all_stay (watched_by inputs) before.ready.each; apart = before.ready.apart };
      named = still_among folder earlier later begins (watched_by inputs) before.named;
      connections = before.connections;
    }

    -- and one that gives one
    pub one_more : (i : LineInput) (mid after : List LineInput) → after ≡ mid ++ i ∷ [] → mid ≡ inputs → AreReady store (files_of i.open.source) new → HasNone (connections_of i.open.source) → IsBeside folder earlier later (files_of i.open.source)
        → AreOpened store folder later after new
    one_more i mid after is same ready none beside = subst (λ l. AreOpened store folder later l new) (sym (is ∙ ap (λ l. l ++ i ∷ []) same)) (record {
      ready = subst (λ l. AreReady store l new) (sym (watched_added inputs i)) (record {
        each = each_joined (λ (m : Noted). IsReady store m.watched new) (watched_by inputs) (files_of i.open.source) (all_stay (watched_by inputs) before.ready.each) ready.each;
        apart = apart_behind folder earlier later (files_of i.open.source) beside.named beside.fresh (watched_by inputs) before.named before.ready.apart ready.apart;
      });
      named = subst (AllByRecursion (IsNamedAmong folder later)) (sym (watched_added inputs i))
          (each_joined (IsNamedAmong folder later) (watched_by inputs) (files_of i.open.source) (still_among folder earlier later begins (watched_by inputs) before.named) beside.named);
      connections = connections_added inputs i before.connections none;
    })

-- ---- what was opened by settings

no_file : (folder : List ℕ) (earlier later : List (List ℕ)) (opened : List Noted) → opened ≡ [] → IsBeside folder earlier later opened
no_file folder earlier later opened is = subst (IsBeside folder earlier later) (sym is) (record { named = tt; fresh = tt })

some_none : (m : InputView) → Some m ≡ None → ⊥
some_none m is = cc

abbrev source_of : InputView → Option InputView → InputView
source_of made None = made
source_of made (Some other) = other

module _ {S F : Type 0} (store : StoreWords S) (files : FilesWords F) (folder : List ℕ) (first : S) (files_first : F) (earlier later : List (List ℕ)) where
  same_files : (made other : InputView) → Some made ≡ Some other → files_of other.source ≡ [] → IsBeside folder earlier later (files_of made.source)
  same_files made other is none = no_file folder earlier later (files_of made.source) (ap (λ o. files_of (source_of made o).source) is ∙ none)

  pub beside_earlier : (settings : Input) (made : InputView) → IsOpenAs store files folder first files_first earlier later settings (Some made) → IsBeside folder earlier later (files_of made.source)
  beside_earlier (i.Stdin s) made is = same_files made _ is refl
  beside_earlier (i.Generator s) made is = same_files made _ is refl
  beside_earlier (i.File s) made is = record {
    named = named_among store files folder _ first s.path earlier later files_first (files_of made.source) is.open_are is.paths;
    fresh = fresh store files folder _ first s.path earlier later files_first (files_of made.source) is.open_are is.paths;
  }
  beside_earlier (i.Tcp s) made is = same_files made _ is refl
  beside_earlier (i.Http s) made is = absurd (some_none made is)
  beside_earlier (i.Pipeline s) made is = absurd (some_none made is)
  beside_earlier (i.DeadLetters s) made is = absurd (some_none made is)

-- an opening that came to this came to it of the input
abbrev well : {T : Type 0} → T → Result T OpenFault
well x = Ok x

opened_ok : {T : Type 0} (at : ℕ) (r : Result T OpenFault) (made : T) → Ok made ≡ opened_at at r → r ≡ Ok made
opened_ok at (Ok x) made is = let e : x ≡ made = cc in ap well e
opened_ok at (Err o.Store) made is = absurd cc
opened_ok at (Err o.Files) made is = absurd cc
opened_ok at (Err (o.Damaged damage)) made is = absurd cc
opened_ok at (Err o.Memory) made is = absurd cc

pub opened_some : (at : ℕ) (r : Result (Option InputView) OpenFault) (found : Option InputView) (made : InputView) → Ok found ≡ opened_at at r → found ≡ Some made → r ≡ Ok (Some made)
opened_some at r found made is some = opened_ok at r found is ∙ ap Ok some

-- ---- all so far

module _ {S F : Type 0} (store : StoreWords S) (files : FilesWords F) (folder : List ℕ) where
  pub record SoFar (watched : List (List ℕ)) (inputs : List LineInput) (rest : List PlannedInput) (first now : S) (files_first files_now : F) : Type 0 where
    pub opened : AreOpened store folder watched inputs now
    pub short : AreShort rest
    pub reads : IsTrue store.tells → store.seen now ≡ store.seen first
    pub moments : EachMoment store first now (NowOrSynced store first)
    pub store_faults : store.faults now ≡ store.faults first
    pub files_faults : files.faults files_now ≡ files.faults files_first

  pub none_yet : (watched : List (List ℕ)) (inputs : List LineInput) (planned : List PlannedInput) (s : S) (f : F) → watched ≡ [] → inputs ≡ [] → AreShort planned → SoFar watched inputs planned s s f f
  none_yet watched inputs planned s f no_path no_input short = record {
    opened = subst (λ l. AreOpened store folder watched l s) (sym no_input) (record { ready = record { each = tt; apart = tt }; named = tt; connections = tt });
    short = short;
    reads = λ told. refl;
    moments = started store s (NowOrSynced store s) (λ i left. inl left);
    store_faults = refl;
    files_faults = refl;
  }

  module _ (watched : List (List ℕ)) (inputs : List LineInput) (rest : List PlannedInput) (first mid now : S) (f f_mid f_now : F) (so_far : SoFar watched inputs rest first mid f f_mid)
      (reads : IsTrue store.tells → store.seen now ≡ store.seen mid) (run : EachMoment store mid now (NowOrSynced store mid)) where
    pub reads_then : IsTrue store.tells → store.seen now ≡ store.seen first
    reads_then told = reads told ∙ so_far.reads told

    pub moments_then : ImagesTell store → EachMoment store first now (NowOrSynced store first)
    moments_then tell =
        one_then_other store tell first mid now (NowOrSynced store first) (NowOrSynced store mid) (NowOrSynced store first) so_far.moments run (λ i told left. left)
        (λ i told left. ⊎_elim (λ still. holds_now store first mid (NowOrSynced store first) so_far.moments i still)
        (λ rests. inr (told, λ name. rests.1 name ∙ ap (λ c. at_rest (c name)) (so_far.reads told))) left)

    pub one_opened : ImagesTell store → (watched_now : List (List ℕ)) (inputs_now : List LineInput) (x : PlannedInput) (left : List PlannedInput) → rest ≡ x ∷ left → AreOpened store folder watched_now inputs_now now
        → store.faults now ≡ store.faults mid → files.faults f_now ≡ files.faults f_mid → SoFar watched_now inputs_now left first now f f_now
    one_opened tell watched_now inputs_now x left is opened store_faults files_faults = record {
      opened = opened;
      short = (subst AreShort is so_far.short).1;
      reads = reads_then;
      moments = moments_then tell;
      store_faults = store_faults ∙ so_far.store_faults;
      files_faults = files_faults ∙ so_far.files_faults;
    }

-- the files of inputs that were opened are ready, and recorded in the folder
pub inputs_ready : {S : Type 0} (store : StoreWords S) (folder : List ℕ) (paths : List (List ℕ)) (inputs : List LineInput) (s : S) → AreOpened store folder paths inputs s → InputsReady store folder inputs s
inputs_ready store folder paths inputs s opened = record {
  files = opened.ready;
  recorded = each_then (IsNamedAmong folder paths) (IsRecordedIn folder) (λ n is. (n.watched.path, is.slot)) (watched_by inputs) opened.named;
}
