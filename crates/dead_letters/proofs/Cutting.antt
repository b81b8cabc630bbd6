-- Files are removed, another one is cut, and all is settled then.
use Rattle.std.proofs.Common.{◌≡◌, ◌≢◌, inl, inr, ⊎_elim, ℕ, zero, suc, IsTrue, List, [], ◌∷◌, take, Bool, true, false, None, if◌then◌else◌, option_map, refl, sym, ap, ◌∙◌, subst, arith}
use Rattle.std.specs.Prelude.{Contains}
use Rattle.std.specs.Str.{bytes_eq}
use Rattle.std.proofs.lemmas.Bool.{cond-true}
use Rattle.std.proofs.lemmas.Slice.Eq.{bytes_eq-Decides}
use Rattle.io_traits.specs.Folders.{Content}
use Rattle.io_traits.specs.Images.{Image, IsAtRest, at_rest}
use Rattle.io_traits.specs.Moments.{NowOrSynced, EachMoment, ReadsBeside, ImagesTell}
use Rattle.io_traits.specs.declared.stores.Store.{Ghosts as StoreWords}
use Rattle.io_traits.proofs.Moments.{weaker, one_then_other, holds_now}
use Rattle.slot_files.specs.Changes.{AllRest, HasFirst, KeepsFirst, Alters}
use Rattle.slot_files.specs.Each.{GoneOrSame, AltersEach, without}
use Rattle.slot_files.proofs.Altering.{keeps_same}
use Rattle.dead_letters.specs.Trimming.{IsCut, Trims}

-- ---- what a stop leaves

module _ {S : Type 0} (store : StoreWords S) (tell : ImagesTell store) (gone : List (List ℕ)) (last : List ℕ) (len : ℕ) (apart : Contains gone last → ⊥) (old : S) (rests : AllRest store old) where
  abbrev c : Content
  c = store.seen old

  abbrev Removes : Image → Type 0
  Removes = AltersEach store gone GoneOrSame old

  abbrev Leaves : Image → Type 0
  Leaves = Trims store gone last len old

  old_rests : (d : Image) → NowOrSynced store old d → IsAtRest c d
  old_rests d (inl left) = rests d left
  old_rests d (inr synced) = synced.1

  while_removed : (i : Image) → IsTrue store.tells → Removes i → Leaves i
  while_removed i told a = record {
    stays = λ name other none. ⊎_elim (λ same. same ∙ old_rests a.0 a.1 name) (λ x. absurd (none x.0)) (a.2 name);
    front = keeps_same len (c last) (i last) (⊎_elim (λ same. same ∙ old_rests a.0 a.1 last) (λ x. absurd (apart x.0)) (a.2 last));
  }

  pub removing : (mid : S) → EachMoment store old mid Removes → EachMoment store old mid Leaves
  removing mid run = weaker store tell old mid Removes Leaves run while_removed

  module _ (mid : S) (run : EachMoment store old mid Removes) (reads : ReadsBeside store (Contains gone) old mid) where
    abbrev Cuts : Image → Type 0
    Cuts = Alters store last (KeepsFirst len (store.seen mid last)) mid

    -- an image of then, or what reads give then
    mid_images : (d : Image) → IsTrue store.tells → NowOrSynced store mid d → (name : List ℕ) → (Contains gone name → ⊥) → d name ≡ at_rest (c name)
    mid_images d told (inl left) name none =
        let a = holds_now store old mid Removes run d left in
        ⊎_elim (λ same. same ∙ old_rests a.0 a.1 name) (λ x. absurd (none x.0)) (a.2 name)
    mid_images d told (inr synced) name none = synced.1 name ∙ ap at_rest (reads told name none)

    while_cut : (i : Image) → IsTrue store.tells → Cuts i → Leaves i
    while_cut i told a =
        let same = reads told last apart in
        record {
          stays = λ name other none. a.2.there name other ∙ mid_images a.0 told a.1 name none;
          front = subst (λ o. HasFirst len o (i last)) same (a.2.here (mid_images a.0 told a.1 last apart ∙ ap at_rest (sym same)));
        }

    pub cutting : (new : S) → EachMoment store mid new Cuts → EachMoment store old new Leaves
    cutting new other = one_then_other store tell old mid new Removes Cuts Leaves run other while_removed while_cut

-- ---- what reads give

none_without : (ns : List (List ℕ)) (c : Content) (name : List ℕ) → c name ≡ None → without ns c name ≡ None
none_without [] c name none = none
none_without (x ∷ ns) c name none = none_without ns (λ n. if bytes_eq n x then None else c n) name (by (bytes_eq name x))
  where
    by : (b : Bool) → (if b then None else c name) ≡ None
    by true = refl
    by false = none

removed : (ns : List (List ℕ)) (c : Content) (name : List ℕ) → Contains ns name → without ns c name ≡ None
removed [] c name (i, less, is) = absurd (omega (arith, less))
removed (x ∷ ns) c name (zero, less, is) = none_without ns (λ n. if bytes_eq n x then None else c n) name (cond-true _ _ _ ((bytes_eq-Decides name x).1 (sym is)))
removed (x ∷ ns) c name (suc i, less, is) = removed ns (λ n. if bytes_eq n x then None else c n) name (i, omega (arith, less), is)

pub is_cut : (gone : List (List ℕ)) (last : List ℕ) (len : ℕ) (old mid new : Content) → (Contains gone last → ⊥) → ((name : List ℕ) → mid name ≡ without gone old name) → ((name : List ℕ) → (Contains gone name → ⊥) → mid name ≡ old name)
    → ((name : List ℕ) → name ≢ last → new name ≡ mid name) → new last ≡ option_map (take len) (mid last) → IsCut gone last len old new
is_cut gone last len old mid new stands reads beside cut_beside cut = record {
  stays = λ name other none. cut_beside name other ∙ beside name none;
  cut = cut ∙ ap (option_map (take len)) (beside last stands);
  gone_now = λ name other has. cut_beside name other ∙ reads name ∙ removed gone old name has;
  missing = λ name other none. cut_beside name other ∙ reads name ∙ none_without gone old name none;
}
