-- One file is changed, and all files are settled behind it.
use Rattle.std.proofs.Common.{◌≡◌, inl, inr, ⊎_elim, ℕ, min, IsTrue, List, ◌++◌, length, take, Option, Some, option_map, refl, sym, ◌∙◌, ap, subst, arith, length-take, length-append, take-take, None}
use Rattle.std.proofs.lemmas.List.{take_all, take_at}
use Rattle.io_traits.specs.Reads.{bytes_of, file_length}
use Rattle.io_traits.specs.Images.{Image, FileImage, TornFile, CutFile, IsAtRest, at_rest}
use Rattle.io_traits.specs.Moments.{MayLeaveNow, EachMoment, ReadsBeside, ImagesTell}
use Rattle.io_traits.specs.declared.stores.Store.{Ghosts as StoreWords}
use Rattle.io_traits.proofs.Beside.{resting}
use Rattle.io_traits.proofs.Moments.{by_call, goes_on}
use Rattle.io_traits.proofs.TailRuns.{Changes, Settles}
use Rattle.slot_files.specs.Changes.{HasFirst, KeepsFirst, Settled, Alters}

module _ {S : Type 0} (store : StoreWords S) (tell : ImagesTell store) (name : List ℕ) (step may_differ : FileImage → FileImage → Type 0) (same : (f : FileImage) → may_differ f f)
    (stepped : (f g : FileImage) → step f g → may_differ f g) (old mid : S) (change : Changes store old mid name step) where
  abbrev Now : Image → Type 0
  Now = Alters store name may_differ old

  before : (i : Image) → MayLeaveNow store old i → Now i
  before i left = (i, inl left, record { here = same (i name); there = λ other differ. refl })

  at_change : (i : Image) → MayLeaveNow store mid i → Now i
  at_change i left = let d = change.images i left in (d.0, inl d.1, record { here = stepped (d.0 name) (i name) d.2.here; there = d.2.there })

  -- the change
  pub altered : EachMoment store old mid Now
  altered = by_call store old mid Now change.time before at_change

  pub reads_beside : ReadsBeside store (λ n. n ≡ name) old mid
  reads_beside told n other = change.beside told n other

  module _ (new : S) (settles : Settles store mid new) where
    -- and the sync behind it
    pub altered_settled : (IsTrue store.tells → may_differ (at_rest (store.seen old name)) (at_rest (store.seen mid name))) → EachMoment store old new Now
    altered_settled rested = goes_on store old mid new Now altered settles.time
        (λ i left. ⊎_elim
        (λ still. at_change i still)
        (λ rests.
        let told = tell new (store.moment new) i left in (
          resting (store.seen old),
          inr (told, λ n. refl),
          record {
            here = subst (λ f. may_differ (at_rest (store.seen old name)) f) (sym (rests name)) (rested told);
            there = λ other differ. rests other ∙ ap at_rest (change.beside told other differ);
          },
        ))
        (settles.images i left))

    pub settled_beside : ReadsBeside store (λ n. n ≡ name) old new
    settled_beside told n other = ap (λ c. c n) (settles.reads told) ∙ change.beside told n other

    pub settled_now : (file : Option (List ℕ)) → (IsTrue store.tells → store.seen mid name ≡ file) → ((i : Image) → MayLeaveNow store new i → IsAtRest (store.seen mid) i) → Settled store name file new
    settled_now file reads durable = record {
      reads = λ told. ap (λ c. c name) (settles.reads told) ∙ reads told;
      rests = λ i left n. durable i left n ∙ ap (λ c. at_rest (c n)) (sym (settles.reads (tell new (store.moment new) i left)));
    }

-- ---- bytes that stay

pub keeps_same : (n : ℕ) (file : Option (List ℕ)) (f : FileImage) → KeepsFirst n file f f
keeps_same n file f is = record {
  no_shorter = let e : file_length f.file ≡ file_length file = ap (λ (g : FileImage). file_length g.file) is in omega (arith, e);
  front = ap (λ (g : FileImage). take n (bytes_of g.file)) is;
}

-- of an append
pub append_keeps : (file : Option (List ℕ)) (bytes : List ℕ) (f g : FileImage) → TornFile (file_length file) bytes f g → KeepsFirst (file_length file) file f g
append_keeps file bytes f g torn is =
    let was : bytes_of f.file ≡ bytes_of file = ap (λ (h : FileImage). bytes_of h.file) is in
    let all : min (file_length file) (length (bytes_of f.file)) ≡ file_length file = omega (arith, ap length was) in
    record {
      no_shorter = omega (arith, torn.torn.no_shorter, ap length was);
      front = subst (λ n. take n (bytes_of g.file) ≡ take n (bytes_of f.file)) all torn.torn.before ∙ ap (take (file_length file)) was;
    }

pub appended_keeps : (file : Option (List ℕ)) (bytes : List ℕ) (new : Option (List ℕ)) → new ≡ Some (bytes_of file ++ bytes) → KeepsFirst (file_length file) file (at_rest file) (at_rest new)
appended_keeps file bytes new is same = subst (λ o. HasFirst (file_length file) file (at_rest o)) (sym is)
    (record { no_shorter = omega (arith, length-append (bytes_of file) bytes); front = take_at (bytes_of file) bytes (file_length file) refl ∙ sym (take_all (file_length file) (bytes_of file) (omega arith)) })

-- of a cut
pub cut_keeps : (n : ℕ) (file : Option (List ℕ)) (f g : FileImage) → CutFile n f g → KeepsFirst n file f g
cut_keeps n file f g cut is =
    let was : bytes_of f.file ≡ bytes_of file = ap (λ (h : FileImage). bytes_of h.file) is in
    record { no_shorter = omega (arith, cut.no_shorter, ap length was); front = cut.front ∙ ap (take n) was }

pub cut_leaves : (n : ℕ) (file new : Option (List ℕ)) → new ≡ option_map (take n) file → KeepsFirst n file (at_rest file) (at_rest new)
cut_leaves n file new is same = subst (λ o. HasFirst n file (at_rest o)) (sym is) (shorter file)
  where
    shorter : (o : Option (List ℕ)) → HasFirst n o (at_rest (option_map (take n) o))
    shorter None = record { no_shorter = omega arith; front = refl }
    shorter (Some bytes) = record { no_shorter = omega (arith, length-take n bytes); front = take-take n n bytes (omega arith) }
