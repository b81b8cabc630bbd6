-- The files that an input watches, while they are opened one after another.
use Rattle.std.proofs.Common.{◌≡◌, inl, inr, ⊎_elim, ◌≤◌, ◌<◌, ◌+◌, ℕ, get_or, Bool, true, false, ◌||◌, IsTrue, List, [], ◌∷◌, ◌++◌, drop, length, if◌then◌else◌, refl, sym, ap, ap₂, ◌∙◌, subst, append-nil}
use Rattle.std.specs.List.{AllByRecursion, list_any}
use Rattle.std.specs.Str.{bytes_eq}
use Rattle.std.proofs.lemmas.List.{drop_all, drop_more, map-append}
use Rattle.std.proofs.lemmas.Slice.Eq.{bytes_eq-Decides}
use Rattle.byte_lines.proofs.Splitting.{all_append}
use Rattle.io_traits.specs.Images.{at_rest}
use Rattle.io_traits.specs.Moments.{EachMoment, ImagesTell, NowOrSynced}
use Rattle.io_traits.specs.declared.files.Files.{Ghosts as FilesWords}
use Rattle.io_traits.specs.declared.stores.Store.{Ghosts as StoreWords}
use Rattle.io_traits.proofs.Moments.{holds_now, one_then_other, started}
use Rattle.in_file.specs.Positions.{IsReady}
use Rattle.in_file.specs.Views.{Watched}
use Rattle.in_file.specs.Openings.{IsDamaged}
use Rattle.in_file.specs.declared.plan.FilePlan.{FilePlan}
use Rattle.io_traits.specs.declared.queue_faults.Damage.{Damage}
use Rattle.slot_files.specs.declared.recorded.Recorded.{Recorded}
use Rattle.in_file.proofs.Staying.{ready_beside}
use Rattle.line_inputs.specs.Openings.{AreOpen, IsOpen, OpensOne, paths_of, position_path, slots_of, untaken}
use Rattle.line_inputs.specs.Positions.{Apart, AreReady, HasOwn}
use Rattle.line_inputs.specs.Rows.{Noted}
use Rattle.line_inputs.proofs.Together.{all_then}

append_one : {X : Type 0} (xs : List X) (z : X) (ys : List X) → (xs ++ z ∷ []) ++ ys ≡ xs ++ z ∷ ys
append_one [] z ys = refl
append_one (w ∷ xs) z ys = ap (λ l. w ∷ l) (append_one xs z ys)

-- ---- names

-- a path whose position file is taken, or not
pub taken_named : (folder path : List ℕ) (opened : List Noted) (slots rest : List (List ℕ)) → list_any (bytes_eq (position_path folder path)) slots ≡ true
    → paths_of opened ++ untaken folder slots rest ≡ paths_of opened ++ untaken folder slots (path ∷ rest)
taken_named folder path opened slots rest is =
    ap (λ b. paths_of opened ++ (if b then untaken folder slots rest else path ∷ untaken folder (slots ++ position_path folder path ∷ []) rest)) (sym is)

pub untaken_named : (folder path : List ℕ) (opened new : List Noted) (n : Noted) (slots more rest : List (List ℕ)) → list_any (bytes_eq (position_path folder path)) slots ≡ false → n.watched.path ≡ path
    → new ≡ opened ++ n ∷ [] → more ≡ slots ++ position_path folder path ∷ [] → paths_of new ++ untaken folder more rest ≡ paths_of opened ++ untaken folder slots (path ∷ rest)
untaken_named folder path opened new n slots more rest is named added taken =
    ap₂ (λ o m. paths_of o ++ untaken folder m rest) added taken
    ∙ ap (λ l. l ++ untaken folder (slots ++ position_path folder path ∷ []) rest) (map-append (λ (m : Noted). m.watched.path) opened (n ∷ []))
    ∙ append_one (paths_of opened) n.watched.path (untaken folder (slots ++ position_path folder path ∷ []) rest)
    ∙ ap (λ p. paths_of opened ++ p ∷ untaken folder (slots ++ position_path folder path ∷ []) rest) named
    ∙ ap (λ b. paths_of opened ++ (if b then untaken folder slots rest else path ∷ untaken folder (slots ++ position_path folder path ∷ []) rest)) (sym is)

pub slots_added : (opened new : List Noted) (n : Noted) (slots more : List (List ℕ)) (slot : List ℕ) → slots ≡ slots_of opened → n.watched.slot ≡ slot → new ≡ opened ++ n ∷ [] → more ≡ slots ++ slot ∷ [] → more ≡ slots_of new
slots_added opened new n slots more slot so_far named added taken =
    taken ∙ ap₂ (λ l s. l ++ s ∷ []) so_far (sym named) ∙ sym (map-append (λ (m : Noted). m.watched.slot) opened (n ∷ [])) ∙ ap slots_of (sym added)

-- ---- position files that differ

either_false : (a b : Bool) → (a || b) ≡ false → (a ≡ false) × (b ≡ false)
either_false true b is = absurd cc
either_false false b is = (refl, is)

own_of_untaken : (n : Noted) (slot : List ℕ) → n.watched.slot ≡ slot → (opened : List Noted) → list_any (bytes_eq slot) (slots_of opened) ≡ false → AllByRecursion (λ (m : Noted). HasOwn m n) opened
own_of_untaken n slot named [] none = tt
own_of_untaken n slot named (m ∷ opened) none =
    let both = either_false (bytes_eq slot m.watched.slot) (list_any (bytes_eq slot) (slots_of opened)) none in
    (λ same. differ (sym ((bytes_eq-Decides slot m.watched.slot).1 (sym named ∙ same)) ∙ both.0), own_of_untaken n slot named opened both.1)
  where
    differ : true ≡ false → ⊥
    differ is = absurd cc

apart_added : (n : Noted) (opened : List Noted) → Apart opened → AllByRecursion (λ (m : Noted). HasOwn m n) opened → Apart (opened ++ n ∷ [])
apart_added n [] apart own = (tt, tt)
apart_added n (m ∷ opened) apart own = (all_append (HasOwn m) opened (n ∷ []) apart.0 (own.0, tt), apart_added n opened apart.1 own.1)

-- ---- ready beside openings

module _ {S : Type 0} (store : StoreWords S) (tell : ImagesTell store) (old new : S) (run : EachMoment store old new (NowOrSynced store old)) (reads : IsTrue store.tells → store.seen new ≡ store.seen old) where
  stays : (w : Watched) → IsReady store w old → IsReady store w new
  stays w ready =
      ready_beside store w old ready (λ name. ⊥) (λ name own none. none) tell new (λ i left. (i, holds_now store old new (NowOrSynced store old) run i left, λ name other. refl))
      (λ told name other. ap (λ c. c name) (reads told))

  all_stay : (opened : List Noted) → AllByRecursion (λ (m : Noted). IsReady store m.watched old) opened → AllByRecursion (λ (m : Noted). IsReady store m.watched new) opened
  all_stay opened ready = all_then (λ (m : Noted). IsReady store m.watched old) (λ (m : Noted). IsReady store m.watched old) (λ (m : Noted). IsReady store m.watched new) (λ m one other. stays m.watched one) opened ready ready

  pub stay_ready : (opened : List Noted) → AreReady store opened old → AreReady store opened new
  stay_ready opened ready = record { each = all_stay opened ready.each; apart = ready.apart }

  pub one_ready : (opened : List Noted) (n : Noted) (slot : List ℕ) → AreReady store opened old → IsReady store n.watched new → n.watched.slot ≡ slot → list_any (bytes_eq slot) (slots_of opened) ≡ false
      → (after : List Noted) → after ≡ opened ++ n ∷ [] → AreReady store after new
  one_ready opened n slot ready here named none after added = subst (λ l. AreReady store l new) (sym added) (record {
    each = all_append (λ (m : Noted). IsReady store m.watched new) opened (n ∷ []) (all_stay opened ready.each) (here, tt);
    apart = apart_added n opened ready.apart (own_of_untaken n slot named opened none);
  })

-- ---- all so far

module _ {S F : Type 0} (store : StoreWords S) (files : FilesWords F) (folder : List ℕ) (plan : FilePlan) where
  pub record SoFar (all : List (List ℕ)) (place : ℕ) (opened : List Noted) (slots : List (List ℕ)) (first now : S) (files_first files_now : F) : Type 0 where
    pub paths : paths_of opened ++ untaken folder slots (drop place all) ≡ untaken folder [] all
    pub slots_are : slots ≡ slots_of opened
    pub open_are : AreOpen store files folder plan first opened
    pub ready : AreReady store opened now
    pub reads : IsTrue store.tells → store.seen now ≡ store.seen first
    pub moments : EachMoment store first now (NowOrSynced store first)
    pub store_faults : store.faults now ≡ store.faults first
    pub files_faults : files.faults files_now ≡ files.faults files_first

  pub none_yet : (all : List (List ℕ)) (opened : List Noted) (slots : List (List ℕ)) (s : S) (f : F) → opened ≡ [] → slots ≡ [] → SoFar all 0 opened slots s s f f
  none_yet all opened slots s f no_file no_slot = record {
    paths = ap₂ (λ o t. paths_of o ++ untaken folder t all) no_file no_slot;
    slots_are = no_slot ∙ ap slots_of (sym no_file);
    open_are = subst (AllByRecursion (IsOpen store files folder plan s)) (sym no_file) tt;
    ready = subst (λ o. AreReady store o s) (sym no_file) (record { each = tt; apart = tt });
    reads = λ told. refl;
    moments = started store s (NowOrSynced store s) (λ i left. inl left);
    store_faults = refl;
    files_faults = refl;
  }

  module _ (all : List (List ℕ)) (place : ℕ) (opened : List Noted) (slots : List (List ℕ)) (first mid now : S) (f f_mid f_now : F) (so_far : SoFar all place opened slots first mid f f_mid)
      (reads : IsTrue store.tells → store.seen now ≡ store.seen mid) (run : EachMoment store mid now (NowOrSynced store mid)) where
    pub reads_then : IsTrue store.tells → store.seen now ≡ store.seen first
    reads_then told = reads told ∙ so_far.reads told

    pub moments_then : ImagesTell store → EachMoment store first now (NowOrSynced store first)
    moments_then tell =
        one_then_other store tell first mid now (NowOrSynced store first) (NowOrSynced store mid) (NowOrSynced store first) so_far.moments run (λ i told left. left)
        (λ i told left. ⊎_elim (λ still. holds_now store first mid (NowOrSynced store first) so_far.moments i still)
        (λ rests. inr (told, λ name. rests.1 name ∙ ap (λ c. at_rest (c name)) (so_far.reads told))) left)

    rebase : (n : Noted) → IsOpen store files folder plan mid n → IsOpen store files folder plan first n
    rebase n open_now = record {
      path = open_now.path;
      s = open_now.s;
      f = open_now.f;
      reads = λ told. open_now.reads told ∙ so_far.reads told;
      opened = open_now.opened;
      given = open_now.given;
      rows = open_now.rows;
      ended = open_now.ended;
    }

    open_then : (new : List Noted) → OpensOne store files folder plan mid opened new → AreOpen store files folder plan first new
    open_then new one = ⊎_elim
        (λ same. subst (AllByRecursion (IsOpen store files folder plan first)) (sym same) so_far.open_are)
        (λ added. subst (AllByRecursion (IsOpen store files folder plan first)) (sym added.2)
        (all_append (IsOpen store files folder plan first) opened (added.0 ∷ []) so_far.open_are (rebase added.0 added.1, tt)))
        one

    pub one_opened : ImagesTell store → (path : List ℕ) (new : List Noted) (more : List (List ℕ)) → place < length all → path ≡ get_or all place path → more ≡ slots_of new
        → ((rest : List (List ℕ)) → paths_of new ++ untaken folder more rest ≡ paths_of opened ++ untaken folder slots (path ∷ rest)) → OpensOne store files folder plan mid opened new → AreReady store new now
        → store.faults now ≡ store.faults mid → files.faults f_now ≡ files.faults f_mid → SoFar all (place + 1) new more first now f f_now
    one_opened tell path new more lt is taken named one ready store_faults files_faults = record {
      paths = named (drop (place + 1) all)
          ∙ ap (λ l. paths_of opened ++ untaken folder slots l) (ap (λ p. p ∷ drop (place + 1) all) is ∙ sym (drop_more all place path lt)) ∙ so_far.paths;
      slots_are = taken;
      open_are = open_then new one;
      ready = ready;
      reads = reads_then;
      moments = moments_then tell;
      store_faults = store_faults ∙ so_far.store_faults;
      files_faults = files_faults ∙ so_far.files_faults;
    }

  pub all_opened : (all : List (List ℕ)) (place : ℕ) (opened : List Noted) (slots : List (List ℕ)) (first now : S) (f f_now : F) → SoFar all place opened slots first now f f_now → length all ≤ place
      → paths_of opened ≡ untaken folder [] all
  all_opened all place opened slots first now f f_now so_far past =
      sym (append-nil (paths_of opened)) ∙ ap (λ l. paths_of opened ++ untaken folder slots l) (sym (drop_all place all past)) ∙ so_far.paths

-- ---- a position file that is damaged

pub by_file : (recorded : List ℕ → Recorded) (slot : List ℕ) (damage : Damage) → IsDamaged slot (recorded slot) damage → IsDamaged damage.file (recorded damage.file) damage
by_file recorded slot damage is = record { file = refl; place = is.place; recorded_is = ap recorded is.file ∙ is.recorded_is; differ = is.differ }
