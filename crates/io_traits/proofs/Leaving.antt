-- Laws of a store by its steps: its moments, and images that it has.
use Rattle.std.proofs.Common.{◌≡◌, ◌⊎◌, ◌↔◌, inl, inr, ℕ, suc, ◌-◌, ◌≤◌, ◌<◌, Bool, true, false, List, [], ◌∷◌, ◌++◌, length, take, drop, Option, Some, None, option_map, if◌then◌else◌, refl, sym, ◌∙◌, ap, subst, arith}
use Rattle.std.proofs.lemmas.Bool.{cases_lt}
use Rattle.plain_data.specs.Keys.{same_key}
use Rattle.plain_data.proofs.ChangeLemmas.{same_key-decides}
use Rattle.plain_data.proofs.KeyLemmas.{same_key-other}
use Rattle.io_traits.specs.Folders.{Content}
use Rattle.io_traits.specs.Reads.{bytes_of, file_length}
use Rattle.io_traits.specs.Images.{FileImage, Image, at_rest, overlaid, TornFile, CutFile, RemovedFile, On}
use Rattle.io_traits.specs.Times.{Elapses}
use Rattle.io_traits.specs.Steps.{Step, appended, wrote, shortened, removed, synced, nothing, held, MayLeave, first_steps, LeavesAt}
use Rattle.io_traits.specs.Leftovers.{Fate, kept, write_left, cut_left, removal_left, left_by}
use Rattle.io_traits.proofs.Tearing.{with_write, with_file, TornFile-left, CutFile-left, RemovedFile-left, overlaid-end}

same_name : (name : List ℕ) → same_key name name ≡ true
same_name name = (same_key-decides name name).1 refl

-- a change of the file of one name alone
abbrev pub changed : List ℕ → (FileImage → FileImage) → Image → Image
changed name change d n = if same_key name n then change (d n) else d n

on_name : (name : List ℕ) (change : FileImage → FileImage) (step : FileImage → FileImage → Type 0) → ((f : FileImage) → step f (change f)) → (d : Image) → On name step d (changed name change d)
on_name name change step does d = record {
  here = subst (λ b. step (d name) (if b then change (d name) else d name)) (sym (same_name name)) (does (d name));
  there = λ other differ. ap (λ b. if b then change (d other) else d other) (same_key-other name other (λ same. differ (sym same)));
}

file_if : (b : Bool) (f g : FileImage) (x y : Option (List ℕ)) → f.file ≡ x → g.file ≡ y → (if b then f else g).file ≡ (if b then x else y)
file_if true f g x y one two = one
file_if false f g x y one two = two

-- an image of now, of which each file is as given
abbrev pub IsLeft : Content → List Step → Content → Type 0
IsLeft base steps left = (i : Image) × MayLeave base steps i × ((n : List ℕ) → (i n).file ≡ left n)

-- whatever becomes of each change, a stop may leave it so
pub left_is_image : (fates : ℕ → Fate) (base : Content) (steps : List Step) → IsLeft base steps (left_by fates base steps)
left_is_image fates base [] = ((λ n. at_rest (base n)), (λ n. refl), λ n. refl)
left_is_image fates base (appended name bytes ∷ earlier) =
    let d = left_is_image fates base earlier in
    let at = file_length (held base earlier name) in
    let fate = fates (length earlier) in
    let change = λ (f : FileImage). with_write at bytes (write_left fate at bytes f.file) f in (
      changed name change d.0,
      (d.0, d.1, on_name name change (TornFile at bytes) (TornFile-left fate at bytes) d.0),
      λ n. file_if (same_key name n) (change (d.0 n)) (d.0 n) _ _ (ap (write_left fate at bytes) (d.2 n)) (d.2 n),
    )
left_is_image fates base (wrote name at bytes ∷ earlier) =
    let d = left_is_image fates base earlier in
    let fate = fates (length earlier) in
    let change = λ (f : FileImage). with_write at bytes (write_left fate at bytes f.file) f in (
      changed name change d.0,
      (d.0, d.1, on_name name change (TornFile at bytes) (TornFile-left fate at bytes) d.0),
      λ n. file_if (same_key name n) (change (d.0 n)) (d.0 n) _ _ (ap (write_left fate at bytes) (d.2 n)) (d.2 n),
    )
left_is_image fates base (shortened name len ∷ earlier) =
    let d = left_is_image fates base earlier in
    let fate = fates (length earlier) in
    let change = λ (f : FileImage). with_file (cut_left fate len f.file) f in (
      changed name change d.0,
      (d.0, d.1, on_name name change (CutFile len) (CutFile-left fate len) d.0),
      λ n. file_if (same_key name n) (change (d.0 n)) (d.0 n) _ _ (ap (cut_left fate len) (d.2 n)) (d.2 n),
    )
left_is_image fates base (removed name ∷ earlier) =
    let d = left_is_image fates base earlier in
    let fate = fates (length earlier) in
    let change = λ (f : FileImage). with_file (removal_left fate f.file) f in (
      changed name change d.0,
      (d.0, d.1, on_name name change RemovedFile (RemovedFile-left fate) d.0),
      λ n. file_if (same_key name n) (change (d.0 n)) (d.0 n) _ _ (ap (removal_left fate) (d.2 n)) (d.2 n),
    )
left_is_image fates base (synced ∷ earlier) = ((λ n. at_rest (held base earlier n)), (λ n. refl), λ n. refl)
left_is_image fates base (nothing ∷ earlier) = left_is_image fates base earlier

-- an append at the place where reads end
kept_append : (name n bytes : List ℕ) (before : Content) (f : Option (List ℕ)) (b : Bool) → same_key name n ≡ b → f ≡ before n
    → (if b then write_left kept (file_length (before name)) bytes f else f) ≡ (if b then Some (bytes_of (before n) ++ bytes) else before n)
kept_append name n bytes before f true is same =
    let there : name ≡ n = (same_key-decides name n).0 is in
    ap (λ g. Some (overlaid (file_length (before name)) bytes (bytes_of g))) (same ∙ ap before (sym there)) ∙ ap Some (overlaid-end bytes (bytes_of (before name))) ∙ ap (λ m. Some (bytes_of (before m) ++ bytes)) there
kept_append name n bytes before f false is same = same

-- where all is kept, it is what reads give
pub all_kept : (base : Content) (steps : List Step) (n : List ℕ) → left_by (λ _. kept) base steps n ≡ held base steps n
all_kept base [] n = refl
all_kept base (appended name bytes ∷ earlier) n = kept_append name n bytes (held base earlier) (left_by (λ _. kept) base earlier n) (same_key name n) refl (all_kept base earlier n)
all_kept base (wrote name at bytes ∷ earlier) n = ap (λ f. if same_key name n then Some (overlaid at bytes (bytes_of f)) else f) (all_kept base earlier n)
all_kept base (shortened name len ∷ earlier) n = ap (λ f. if same_key name n then option_map (take len) f else f) (all_kept base earlier n)
all_kept base (removed name ∷ earlier) n = ap (λ f. if same_key name n then None else f) (all_kept base earlier n)
all_kept base (synced ∷ earlier) n = refl
all_kept base (nothing ∷ earlier) n = all_kept base earlier n

-- so what it reads as is one of its images
pub reads_as : (base : Content) (steps : List Step) → IsLeft base steps (held base steps)
reads_as base steps = let d = left_is_image (λ _. kept) base steps in (d.0, d.1, λ n. d.2 n ∙ all_kept base steps n)

-- the moment of now is that of all steps
steps_now : (steps : List Step) → first_steps (length steps) steps ≡ steps
steps_now steps = let none : length steps - length steps ≡ 0 = omega arith in ap (λ k. drop k steps) none

steps_past : (t : ℕ) (step : Step) (earlier : List Step) → t ≤ length earlier → first_steps t (step ∷ earlier) ≡ first_steps t earlier
steps_past t step earlier le = let more : length (step ∷ earlier) - t ≡ suc (length earlier - t) = omega arith in ap (λ k. drop k (step ∷ earlier)) more

pub leaves_now : (base : Content) (steps : List Step) (i : Image) → LeavesAt base steps (length steps) i ↔ MayLeave base steps i
leaves_now base steps i = (λ left. subst (λ l. MayLeave base l i) (steps_now steps) left, λ left. subst (λ l. MayLeave base l i) (sym (steps_now steps)) left)

-- where no step is made, time stands
pub elapses_none : (base : Content) (steps : List Step) → Elapses (length steps) (length steps) (LeavesAt base steps) (LeavesAt base steps)
elapses_none base steps = record { later = omega arith; past = λ t i le. (λ left. left, λ left. left); within = λ t i from to left. inl (at_moment t i from to left) }
  where
    at_moment : (t : ℕ) (i : Image) → length steps ≤ t → t ≤ length steps → LeavesAt base steps t i → LeavesAt base steps (length steps) i
    at_moment t i from to left = let same : t ≡ length steps = omega arith in subst (λ k. LeavesAt base steps k i) same left

-- one step more
pub elapses_step : (base : Content) (steps : List Step) (step : Step) → Elapses (length steps) (length (step ∷ steps)) (LeavesAt base steps) (LeavesAt base (step ∷ steps))
elapses_step base steps step = record {
  later = omega arith;
  past = λ t i le. (λ left. back t i le left, λ left. forth t i le left);
  within = λ t i from to left. ends t i from to left (cases_lt (length steps) t);
}
  where
    back : (t : ℕ) (i : Image) → t ≤ length steps → LeavesAt base (step ∷ steps) t i → LeavesAt base steps t i
    back t i le left = subst (λ l. MayLeave base l i) (steps_past t step steps le) left

    forth : (t : ℕ) (i : Image) → t ≤ length steps → LeavesAt base steps t i → LeavesAt base (step ∷ steps) t i
    forth t i le left = subst (λ l. MayLeave base l i) (sym (steps_past t step steps le)) left

    ends : (t : ℕ) (i : Image) → length steps ≤ t → t ≤ length (step ∷ steps) → LeavesAt base (step ∷ steps) t i → (length steps < t) ⊎ (t ≤ length steps)
        → LeavesAt base steps (length steps) i ⊎ LeavesAt base (step ∷ steps) (length (step ∷ steps)) i
    ends t i from to left (inl late) = let same : t ≡ length (step ∷ steps) = omega arith in inr (subst (λ k. LeavesAt base (step ∷ steps) k i) same left)
    ends t i from to left (inr early) = let same : t ≡ length steps = omega arith in inl (back (length steps) i (omega arith) (subst (λ k. LeavesAt base (step ∷ steps) k i) same left))

pub reads_as_now : (base : Content) (steps : List Step) → (i : Image) × LeavesAt base steps (length steps) i × ((n : List ℕ) → (i n).file ≡ held base steps n)
reads_as_now base steps = let d = reads_as base steps in (d.0, (leaves_now base steps d.0).1 d.1, d.2)
