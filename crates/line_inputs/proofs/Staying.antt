-- Position files that are ready, beside the calls of others and behind those of their input.
use Rattle.std.proofs.Common.{◌≡◌, inl, inr, ℕ, zero, suc, Bool, IsTrue, List, [], ◌∷◌, get_or, slice_set, refl, sym, ap, ◌∙◌, subst}
use Rattle.std.specs.List.{AllByRecursion}
use Rattle.io_traits.specs.Images.{Image}
use Rattle.io_traits.specs.Moments.{ImagesTell, LeavesBeside, MayLeaveNow, ReadsBeside}
use Rattle.io_traits.specs.declared.stores.Store.{Ghosts as StoreWords}
use Rattle.in_file.specs.Positions.{IsReady}
use Rattle.in_file.specs.Views.{Watched}
use Rattle.in_file.proofs.Staying.{ready_beside}
use Rattle.line_inputs.specs.Positions.{Apart, AreReady, HasOwn, IsApart, stored, stored_of}
use Rattle.line_inputs.specs.Rows.{Noted}

-- ---- beside others

module _ {S : Type 0} (store : StoreWords S) (tell : ImagesTell store) (others : List ℕ → Bool) (old new : S)
    (beside : (i : Image) → MayLeaveNow store new i → LeavesBeside store (λ name. IsTrue (others name)) old i) (reads : ReadsBeside store (λ name. IsTrue (others name)) old new) where
  all_stay : (files : List Noted) → IsApart others files → AllByRecursion (λ (m : Noted). IsReady store m.watched old) files → AllByRecursion (λ (m : Noted). IsReady store m.watched new) files
  all_stay [] apart ready = tt
  all_stay (n ∷ files) apart ready =
      (ready_beside store n.watched old ready.0 (λ name. IsTrue (others name)) (λ name own. apart name (inl own)) tell new beside reads, all_stay files (λ name this. apart name (inr this)) ready.1)

  pub stay : (files : List Noted) → AreReady store files old → IsApart others files → AreReady store files new
  stay files ready apart = record { each = all_stay files apart ready.each; apart = ready.apart }

-- ---- what is stored stays

cons_same : {X : Type 0} (x y : X) (xs ys : List X) → x ∷ xs ≡ y ∷ ys → (x ≡ y) × (xs ≡ ys)
cons_same x y xs ys same = (ap (λ l. get_or l 0 x) same, ap tail same)
  where
    tail : {X : Type 0} → List X → List X
    tail [] = []
    tail (z ∷ zs) = zs

module _ {S : Type 0} (store : StoreWords S) (s : S) where
  one_same : (w after : Watched) → stored_of after ≡ stored_of w → IsReady store w s → IsReady store after s
  one_same w after same ready =
      let moved = subst (λ p. IsReady store (record w { slot = p.0; began = p.1; position = p.2; turn = p.3 }) s) (sym same) (record { next = ready.next; position = ready.position; settled = ready.settled }) in
      record { next = moved.next; position = moved.position; settled = moved.settled }

  all_same : (before after : List Noted) → stored after ≡ stored before → AllByRecursion (λ (m : Noted). IsReady store m.watched s) before → AllByRecursion (λ (m : Noted). IsReady store m.watched s) after
  all_same before [] same ready = tt
  all_same [] (a ∷ after) same ready = absurd cc
  all_same (b ∷ before) (a ∷ after) same ready =
      let both = cons_same (stored_of a.watched) (stored_of b.watched) (stored after) (stored before) same in
      (one_same b.watched a.watched both.0 ready.0, all_same before after both.1 ready.1)

own_same : (a b : Noted) → stored_of a.watched ≡ stored_of b.watched → (before after : List Noted) → stored after ≡ stored before → AllByRecursion (HasOwn b) before → AllByRecursion (HasOwn a) after
own_same a b here before [] same own = tt
own_same a b here [] (c ∷ after) same own = absurd cc
own_same a b here (d ∷ before) (c ∷ after) same own =
    let both = cons_same (stored_of c.watched) (stored_of d.watched) (stored after) (stored before) same in
    (λ eq. own.0 (sym (ap (λ p. p.0) both.0) ∙ eq ∙ ap (λ p. p.0) here), own_same a b here before after both.1 own.1)

apart_same : (before after : List Noted) → stored after ≡ stored before → Apart before → Apart after
apart_same before [] same apart = tt
apart_same [] (a ∷ after) same apart = absurd cc
apart_same (b ∷ before) (a ∷ after) same apart =
    let both = cons_same (stored_of a.watched) (stored_of b.watched) (stored after) (stored before) same in
    (own_same a b both.0 before after both.1 apart.0, apart_same before after both.1 apart.1)

pub same_ready : {S : Type 0} (store : StoreWords S) (before after : List Noted) (s : S) → stored after ≡ stored before → AreReady store before s → AreReady store after s
same_ready store before after s same ready = record { each = all_same store s before after same ready.each; apart = apart_same before after same ready.apart }

-- ---- one file is changed, and what is stored of it stays

pub stored_set : (files : List Noted) (at : ℕ) (n new : Noted) → n ≡ get_or files at n → stored_of new.watched ≡ stored_of n.watched → stored (slice_set files at new) ≡ stored files
stored_set [] at n new is same = refl
stored_set (x ∷ files) zero n new is same = ap (λ p. p ∷ stored files) (same ∙ ap (λ (m : Noted). stored_of m.watched) is)
stored_set (x ∷ files) (suc at) n new is same = ap (λ l. stored_of x.watched ∷ l) (stored_set files at n new is same)
