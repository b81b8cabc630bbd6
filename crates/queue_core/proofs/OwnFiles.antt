-- The files that the calls of a queue change are those of its folder.
use Rattle.std.proofs.Common.{◌≡◌, ◌⊎◌, inl, inr, ⊎_elim, ℕ, suc, List, [], ◌∷◌, ◌++◌, map, refl, ◌∙◌, ap, subst}
use Rattle.std.specs.Prelude.{All, Contains}
use Rattle.std.proofs.lemmas.List.Elements.{All-cons, All-contains, All-nil}
use Rattle.io_traits.specs.Moments.{ImagesTell}
use Rattle.io_traits.specs.declared.stores.Store.{Ghosts as StoreWords}
use Rattle.queue_files.specs.Folders.{head, page, checkpoint, IsOwn, names_in}
use Rattle.queue_files.specs.Others.{IsMarked, KeepsOthers}
use Rattle.queue_files.specs.Ready.{IsOfNext}
use Rattle.queue_files.specs.declared.marking.Mark.{Mark}
use Rattle.queue_files.specs.declared.rolling.NextPage.{NextPage}
use Rattle.queue_files.proofs.OtherFiles.{others_of, then_others}
use Rattle.queue_core.specs.Calls.{checkpoints, marks_of, tail_checkpoints}
use Rattle.queue_core.specs.Views.{OpenPageView, QueueView}
use Rattle.queue_core.specs.Writing.{IsPlan}
use Rattle.queue_core.proofs.HeldQueues.{files_same, long_named}

own_checkpoints : (folder : List ℕ) (tails : List OpenPageView) → All (IsOwn (names_in folder)) (tail_checkpoints folder tails ++ names_in folder head ∷ [])
own_checkpoints folder [] = All-cons (IsOwn (names_in folder)) (names_in folder head) [] (head, refl) (All-nil (IsOwn (names_in folder)))
own_checkpoints folder (o ∷ tails) =
    All-cons (IsOwn (names_in folder)) (names_in folder (checkpoint o.number)) (tail_checkpoints folder tails ++ names_in folder head ∷ []) (checkpoint o.number, refl) (own_checkpoints folder tails)

-- the checkpoints that its marks are for
marked_own : (v : QueueView) (given marks : List Mark) → map (λ (m : Mark). m.file) given ≡ checkpoints v → marks ≡ marks_of v.tails v.top given → (name : List ℕ) → IsMarked marks name → IsOwn (names_in v.folder) name
marked_own v given marks named is name among =
    let all = ap (map (λ (m : Mark). m.file)) is ∙ files_same v.tails v.top given (long_named v.folder v.tails given named) ∙ named in
    All-contains (IsOwn (names_in v.folder)) (checkpoints v) name (own_checkpoints v.folder v.tails) (subst (λ (names : List (List ℕ)). Contains names name) all among)

-- the files of its next page
next_own : (v : QueueView) (marks : List Mark) (next : NextPage) → IsPlan v marks next → (name : List ℕ) → IsOfNext next name → IsOwn (names_in v.folder) name
next_own v marks next plan name of = ⊎_elim
    (λ is. (checkpoint v.top.number, is ∙ ap (λ (n : NextPage). n.checkpoint) plan.next_is))
    (λ more. ⊎_elim
    (λ is. (page (suc v.top.number), is ∙ ap (λ (n : NextPage). n.file) plan.next_is))
    (λ is. (head, is ∙ ap (λ (n : NextPage). n.head) plan.next_is))
    more)
    of

module _ {S : Type 0} (store : StoreWords S) (tell : ImagesTell store) (v : QueueView) (marks : List Mark) (old new : S) where
  pub marks_are_own : (given : List Mark) → map (λ (m : Mark). m.file) given ≡ checkpoints v → marks ≡ marks_of v.tails v.top given → KeepsOthers store (IsMarked marks) old new
      → KeepsOthers store (IsOwn (names_in v.folder)) old new
  marks_are_own given named is kept = others_of store tell (IsMarked marks) (IsOwn (names_in v.folder)) (marked_own v given marks named is) old new kept

  pub plan_is_own : (next : NextPage) → IsPlan v marks next → KeepsOthers store (λ n. IsMarked marks n ⊎ IsOfNext next n) old new → KeepsOthers store (IsOwn (names_in v.folder)) old new
  plan_is_own next plan kept =
      others_of store tell (λ n. IsMarked marks n ⊎ IsOfNext next n) (IsOwn (names_in v.folder))
      (λ name of. ⊎_elim (marked_own v plan.given marks plan.named plan.marks_are name) (next_own v marks next plan name) of) old new kept

-- a new head page behind a mark, and its first row
module _ {S : Type 0} (store : StoreWords S) (tell : ImagesTell store) (marks : List Mark) (next : NextPage) (old mid : S) (kept : KeepsOthers store (IsMarked marks) old mid) where
  abbrev Both : List ℕ → Type 0
  Both n = IsMarked marks n ⊎ IsOfNext next n

  pub recorded_first : KeepsOthers store (λ n. IsMarked marks n ⊎ IsOfNext next n) old mid
  recorded_first = others_of store tell (IsMarked marks) Both (λ n of. inl of) old mid kept

  module _ (more : S) (begun : KeepsOthers store (IsOfNext next) mid more) where
    pub then_begun : KeepsOthers store (λ n. IsMarked marks n ⊎ IsOfNext next n) old more
    then_begun = then_others store tell recorded_first (others_of store tell (IsOfNext next) Both (λ n of. inr of) mid more begun)

    pub then_added : (new : S) (file : List ℕ) → file ≡ next.file → KeepsOthers store (λ n. n ≡ file) more new → KeepsOthers store (λ n. IsMarked marks n ⊎ IsOfNext next n) old new
    then_added new file is_file added = then_others store tell then_begun (others_of store tell (λ n. n ≡ file) Both (λ n is. inr (inr (inl (is ∙ is_file)))) more new added)
