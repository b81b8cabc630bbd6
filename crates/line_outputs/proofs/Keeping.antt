-- The output files that are open, while one of them is appended to, or others change files of their own.
use Rattle.std.specs.Prelude.{bytes_eq, if◌then◌else◌}
use Rattle.std.proofs.Common.{◌≡◌, ◌⊎◌, inl, inr, ℕ, List, [], ◌∷◌, ◌++◌, refl, sym, ap, subst, ◌∙◌, true, false, Some, None}
use Rattle.std.proofs.lemmas.Bool.{cond-true, cond-false, cases_Bool, false≢true}
use Rattle.std.proofs.lemmas.Slice.Eq.{bytes_eq-Decides}
use Rattle.std.proofs.lemmas.List.{append_cancel_left}
use Rattle.crc_frame.specs.Bytes.{IsBytes}
use Rattle.io_traits.specs.Images.{Image}
use Rattle.io_traits.specs.Moments.{MayLeaveNow, LeavesBeside, ReadsBeside, ImagesTell}
use Rattle.io_traits.specs.declared.stores.Store.{Ghosts as StoreWords}
use Rattle.slot_files.specs.Names.{position_name}
use Rattle.slot_files.specs.declared.name.PositionOf.TheVariants.{Output as OfOutput}
use Rattle.slot_files.specs.Views.{Output}
use Rattle.slot_files.proofs.PathNames.{names_differ}
use Rattle.slot_files.proofs.Staying.{ready_beside}
use Rattle.line_outputs.specs.OpenFiles.{EachReady, SameOthers, IsFileReady, IsFileOf, IsOutside, file_of, slot_in, without}

some_none : (x : Output) → Some x ≡ None → ⊥
some_none x same = cc

same_some : (x y : Output) → Some x ≡ Some y → x ≡ y
same_some x y same = cc

-- no file has this path
none_here : (path : List ℕ) (f : Output) (fs : List Output) → file_of path (f ∷ fs) ≡ None → (bytes_eq path f.path ≡ false) × (file_of path fs ≡ None)
none_here path f fs none = elim (cases_Bool (bytes_eq path f.path)) [
  | inl same ↦ absurd (some_none f (sym (cond-true _ _ _ same) ∙ none))
  | inr other ↦ (other, sym (cond-false _ _ _ other) ∙ none)
]

none_of : (path : List ℕ) (f : Output) (fs : List Output) → bytes_eq path f.path ≡ false → file_of path fs ≡ None → file_of path (f ∷ fs) ≡ None
none_of path f fs other none = cond-false _ _ _ other ∙ none

test_same : (a b : List ℕ) → bytes_eq a b ≡ true → a ≡ b
test_same a b is = (bytes_eq-Decides a b).0 is

test_other : (a b : List ℕ) → bytes_eq a b ≡ false → a ≡ b → ⊥
test_other a b is same = false≢true (sym is ∙ (bytes_eq-Decides a b).1 same)

others_differ : (a b : List ℕ) → (a ≡ b → ⊥) → bytes_eq a b ≡ false
others_differ a b other = elim (cases_Bool (bytes_eq a b)) [
  | inl same ↦ absurd (other (test_same a b same))
  | inr no_same ↦ no_same
]

turned : (a b : List ℕ) → bytes_eq a b ≡ false → bytes_eq b a ≡ false
turned a b is = others_differ b a (λ same. test_other a b is (sym same))

-- the others, once one is taken away
pub none_still : (other path : List ℕ) (fs : List Output) → file_of other fs ≡ None → file_of other (without path fs) ≡ None
none_still other path [] none = refl
none_still other path (f ∷ fs) none =
    let here = none_here other f fs none in
    elim (cases_Bool (bytes_eq path f.path)) [
      | inl same ↦ ap (file_of other) (cond-true _ _ _ same) ∙ here.1
      | inr differs ↦ ap (file_of other) (cond-false _ _ _ differs) ∙ none_of other f (without path fs) here.0 (none_still other path fs here.1)
    ]

-- a file more, at the end
none_with : (other : List ℕ) (f : Output) (fs : List Output) → file_of other fs ≡ None → bytes_eq other f.path ≡ false → file_of other (fs ++ f ∷ []) ≡ None
none_with other f [] none differs = none_of other f [] differs refl
none_with other f (g ∷ fs) none differs = let here = none_here other g fs none in none_of other g (fs ++ f ∷ []) here.0 (none_with other f fs here.1 differs)

-- and then it is found
pub found_with : (path : List ℕ) (f : Output) (fs : List Output) → f.path ≡ path → file_of path fs ≡ None → file_of path (fs ++ f ∷ []) ≡ Some f
found_with path f [] at none = cond-true _ _ _ ((bytes_eq-Decides path f.path).1 (sym at))
found_with path f (g ∷ fs) at none = let here = none_here path g fs none in cond-false _ _ _ here.0 ∙ found_with path f fs at here.1

-- of the other paths the same files are open
pub same_without : (path : List ℕ) (fs : List Output) → SameOthers path fs (without path fs)
same_without path [] other differs = refl
same_without path (f ∷ fs) other differs = elim (cases_Bool (bytes_eq path f.path)) [
  | inl same ↦
      ap (file_of other) (cond-true (bytes_eq path f.path) fs (f ∷ without path fs) same)
      ∙ sym (cond-false (bytes_eq other f.path) (Some f) (file_of other fs) (others_differ other f.path (λ is. differs (is ∙ sym (test_same path f.path same)))))
  | inr not_same ↦
      ap (file_of other) (cond-false (bytes_eq path f.path) fs (f ∷ without path fs) not_same) ∙ ap (λ r. if bytes_eq other f.path then Some f else r) (same_without path fs other differs)
]

pub same_with : (path : List ℕ) (f : Output) (fs : List Output) → f.path ≡ path → SameOthers path fs (fs ++ f ∷ [])
same_with path f [] at other differs = cond-false (bytes_eq other f.path) (Some f) None (others_differ other f.path (λ is. differs (is ∙ at)))
same_with path f (g ∷ fs) at other differs = ap (λ r. if bytes_eq other g.path then Some g else r) (same_with path f fs at other differs)

module _ {S : Type 0} (store : StoreWords S) (folder : List ℕ) where
  -- the file of a path is ready
  pub its_ready : (s : S) (path : List ℕ) (fs : List Output) (f : Output) → EachReady store folder fs s → file_of path fs ≡ Some f → IsFileReady store folder f s × (f.path ≡ path)
  its_ready s path [] f ready is = absurd (some_none f (sym is))
  its_ready s path (g ∷ fs) f ready is = elim (cases_Bool (bytes_eq path g.path)) [
    | inl same ↦
        let it : g ≡ f = same_some g f (sym (cond-true _ _ _ same) ∙ is) in
        (subst (λ x. IsFileReady store folder x s) it ready.0, ap (λ (x : Output). x.path) (sym it) ∙ sym (test_same path g.path same))
    | inr other ↦ its_ready s path fs f ready.2 (sym (cond-false _ _ _ other) ∙ is)
  ]

  -- without it the others are ready, and none has its path
  pub others_ready : (s : S) (path : List ℕ) (fs : List Output) → EachReady store folder fs s → EachReady store folder (without path fs) s × (file_of path (without path fs) ≡ None)
  others_ready s path [] ready = (tt, refl)
  others_ready s path (g ∷ fs) ready = elim (cases_Bool (bytes_eq path g.path)) [
    | inl same ↦
        let left = sym (cond-true (bytes_eq path g.path) fs (g ∷ without path fs) same) in
        let none = subst (λ p. file_of p fs ≡ None) (sym (test_same path g.path same)) ready.1 in
        (subst (λ l. EachReady store folder l s) left ready.2, subst (λ l. file_of path l ≡ None) left none)
    | inr other ↦
        let left = sym (cond-false (bytes_eq path g.path) fs (g ∷ without path fs) other) in
        let rest = others_ready s path fs ready.2 in (
          subst (λ l. EachReady store folder l s) left (ready.0, none_still g.path path fs ready.1, rest.0),
          subst (λ l. file_of path l ≡ None) left (none_of path g (without path fs) other rest.1),
        )
  ]

  -- with one more they are ready
  pub with_ready : (s : S) (fs : List Output) (f : Output) → EachReady store folder fs s → file_of f.path fs ≡ None → IsFileReady store folder f s → EachReady store folder (fs ++ f ∷ []) s
  with_ready s [] f ready none more = (more, refl, tt)
  with_ready s (g ∷ fs) f ready none more =
      let here = none_here f.path g fs none in
      (ready.0, none_with g.path f fs ready.1 (turned f.path g.path here.0), with_ready s fs f ready.2 here.1 more)

  module _ (tell : ImagesTell store) (Mine : List ℕ → Type 0) (old new : S) (leaves : (i : Image) → MayLeaveNow store new i → LeavesBeside store Mine old i) (reads : ReadsBeside store Mine old new) where
    pub one_stays : (f : Output) → IsFileReady store folder f old → ((name : List ℕ) → IsFileOf folder f.path name → Mine name → ⊥) → IsFileReady store folder f new
    one_stays f is apart = record {
      ready = ready_beside store f old is.ready Mine (λ name own mine. apart name (subst (λ slot. (name ≡ f.path) ⊎ (name ≡ slot)) is.slot own) mine) tell new leaves reads;
      slot = is.slot;
      outside = is.outside;
      bytes = is.bytes;
    }

    pub all_stay : (fs : List Output) → EachReady store folder fs old → ((path : List ℕ) (f : Output) → file_of path fs ≡ Some f → (name : List ℕ) → IsFileOf folder path name → Mine name → ⊥) → EachReady store folder fs new
    all_stay [] ready apart = tt
    all_stay (f ∷ fs) ready apart = (
      one_stays f ready.0 (apart f.path f (cond-true _ _ _ ((bytes_eq-Decides f.path f.path).1 refl))),
      ready.1,
      all_stay fs ready.2 (λ path g is. apart path g (cond-false _ _ _ (others_differ path f.path (λ same. some_none g (sym is ∙ ap (λ p. file_of p fs) same ∙ ready.1))) ∙ is)),
    )

  -- ---- the files of two paths

  slot_begins : (path : List ℕ) → IsOutside folder path → (other : List ℕ) → path ≡ slot_in folder other → ⊥
  slot_begins path outside other same = outside (position_name OfOutput other) same

  pub paths_apart : (path other : List ℕ) → IsOutside folder path → IsOutside folder other → IsBytes path → IsBytes other → (other ≡ path → ⊥)
      → (name : List ℕ) → IsFileOf folder other name → IsFileOf folder path name → ⊥
  paths_apart path other outside out bytes them differ name (inl a) (inl b) = differ (sym a ∙ b)
  paths_apart path other outside out bytes them differ name (inl a) (inr b) = slot_begins other out path (sym a ∙ b)
  paths_apart path other outside out bytes them differ name (inr a) (inl b) = slot_begins path outside other (sym b ∙ a)
  paths_apart path other outside out bytes them differ name (inr a) (inr b) = differ (names_differ OfOutput other path them bytes (append_cancel_left folder (position_name OfOutput other) (position_name OfOutput path) (sym a ∙ b)))
