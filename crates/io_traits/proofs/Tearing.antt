-- What a write, a cut or a removal leaves, be it whole or in part, is one of the outcomes that a stop may leave.
use Rattle.std.proofs.Common.{◌≡◌, inl, inr, ℕ, ◌+◌, ◌-◌, ◌/◌, ◌≤◌, ◌<◌, min, List, [], ◌∷◌, ◌++◌, length, take, drop, replicate, Option, Some, None, option_map, refl, sym, ◌∙◌, ap, arith, length-append, length-drop, length-take, append_assoc, append-nil, drop-drop, take-take, subst}
use Rattle.std.proofs.lemmas.List.{drop_all, take_all, take_min, take_at, drop_at, length-replicate, nil_from_length, take-append-le}
use Rattle.std.proofs.lemmas.Bool.{cases_lt}
use Rattle.io_traits.specs.Reads.{bytes_of, file_length}
use Rattle.io_traits.specs.Images.{FileImage, overlaid, Torn, TornFile, CutFile, RemovedFile}
use Rattle.io_traits.specs.Leftovers.{Fate, kept, lost, torn, stale, write_left, cut_left, removal_left, foreign_length, with_foreign}

module _ (at : ℕ) (bytes old : List ℕ) where
  pub length-overlaid : length (overlaid at bytes old) ≡ min at (length old) + length bytes + (length old - (at + length bytes))
  length-overlaid = omega (arith, length-append (take at old ++ bytes) (drop (at + length bytes) old), length-append (take at old) bytes, length-take at old, length-drop (at + length bytes) old)

  before : take (min at (length old)) (overlaid at bytes old) ≡ take (min at (length old)) old
  before = ap (λ (l : List ℕ). take (min at (length old)) l) (append_assoc (take at old) bytes _) ∙ take_at (take at old) (bytes ++ drop (at + length bytes) old) (min at (length old)) (length-take at old) ∙ sym (take_min at old)

  after : drop (at + length bytes) (overlaid at bytes old) ≡ drop (at + length bytes) old
  after = elim (cases_lt (length old) at) [
    | inr within ↦ drop_at (take at old ++ bytes) (drop (at + length bytes) old) (at + length bytes) (omega (arith, length-append (take at old) bytes, length-take at old))
    | inl past ↦ drop_all (at + length bytes) (overlaid at bytes old) (omega (arith, length-overlaid)) ∙ sym (drop_all (at + length bytes) old (omega arith))
  ]

  pub Torn-overlaid : Torn at (length bytes) old (overlaid at bytes old)
  Torn-overlaid = record { no_shorter = omega (arith, length-overlaid); no_longer = omega (arith, length-overlaid); before = before; after = after }

  -- what was written stands there
  pub part-overlaid : at ≤ length old → take (length bytes) (drop at (overlaid at bytes old)) ≡ bytes
  part-overlaid within =
      let front : length (take at old) ≡ at = omega (arith, length-take at old) in
      ap (λ (l : List ℕ). take (length bytes) (drop at l)) (append_assoc (take at old) bytes (drop (at + length bytes) old))
      ∙ ap (λ (l : List ℕ). take (length bytes) l) (drop_at (take at old) (bytes ++ drop (at + length bytes) old) at front)
      ∙ take_at bytes (drop (at + length bytes) old) (length bytes) refl

-- a write at the end is an append
pub overlaid-end : (bytes old : List ℕ) → overlaid (length old) bytes old ≡ old ++ bytes
overlaid-end bytes old =
    let front : take (length old) old ≡ old = take_all (length old) old (omega arith) in
    let rest : drop (length old + length bytes) old ≡ [] = drop_all (length old + length bytes) old (omega arith) in
    ap (λ (l : List ℕ). (l ++ bytes) ++ drop (length old + length bytes) old) front ∙ ap (λ (l : List ℕ). (old ++ bytes) ++ l) rest ∙ append-nil (old ++ bytes)

-- a shorter write is cut short from a longer one
pub Torn-more : (at m n : ℕ) (old new : List ℕ) → m ≤ n → Torn at m old new → Torn at n old new
Torn-more at m n old new le is = record {
  no_shorter = is.no_shorter;
  no_longer = omega (arith, is.no_longer);
  before = is.before;
  after = later new ∙ ap (drop (n - m)) is.after ∙ sym (later old);
}
  where
    later : (l : List ℕ) → drop (at + n) l ≡ drop (n - m) (drop (at + m) l)
    later l = let place : at + n ≡ at + m + (n - m) = omega arith in ap (λ k. drop k l) place ∙ sym (drop-drop (n - m) (at + m) l)

-- a write that did nothing
pub Torn-none : (at n : ℕ) (old : List ℕ) → Torn at n old old
Torn-none at n old = record { no_shorter = omega arith; no_longer = omega arith; before = refl; after = refl }

-- other bytes of the same range
Torn-range : (at n from count : ℕ) (old new : List ℕ) → from ≡ min at (length old) → from + count ≡ at + n → Torn from count old new → Torn at n old new
Torn-range at n from count old new start end is = record {
  no_shorter = is.no_shorter;
  no_longer = omega (arith, is.no_longer, end);
  before = subst (λ k. take k new ≡ take k old) (omega (arith, start)) is.before;
  after = subst (λ k. drop k new ≡ drop k old) end is.after;
}

Torn-foreign : (at : ℕ) (bytes : List ℕ) (f : Option (List ℕ)) → Torn at (length bytes) (bytes_of f) (with_foreign at (at + length bytes) f)
Torn-foreign at bytes f =
    let from = min at (file_length f) in
    let other = replicate (foreign_length at (at + length bytes) f) 165 in
    let long : length other ≡ at + length bytes - from = length-replicate (foreign_length at (at + length bytes) f) 165 in
    Torn-range at (length bytes) from (length other) (bytes_of f) (overlaid from other (bytes_of f)) refl (omega (arith, long)) (Torn-overlaid from other (bytes_of f))

-- what a step of its file makes of an image, with what it came from
abbrev pub with_write : ℕ → List ℕ → Option (List ℕ) → FileImage → FileImage
with_write at bytes left f = record { file = left; settled = f.settled; writes = (at, bytes) ∷ f.writes }

abbrev pub with_file : Option (List ℕ) → FileImage → FileImage
with_file left f = record f { file = left }

pub TornFile-left : (fate : Fate) (at : ℕ) (bytes : List ℕ) (f : FileImage) → TornFile at bytes f (with_write at bytes (write_left fate at bytes f.file) f)
TornFile-left kept at bytes f = record { torn = Torn-overlaid at bytes (bytes_of f.file); stays = λ _. refl; settled = refl; writes = λ w among. among }
TornFile-left lost at bytes f = record { torn = Torn-none at (length bytes) (bytes_of f.file); stays = λ is. is; settled = refl; writes = λ w among. among }
TornFile-left torn at bytes f = record {
  torn = Torn-more at (length (take (length bytes / 2) bytes)) (length bytes) (bytes_of f.file) _ (omega (arith, length-take (length bytes / 2) bytes)) (Torn-overlaid at (take (length bytes / 2) bytes) (bytes_of f.file));
  stays = λ _. refl;
  settled = refl;
  writes = λ w among. among;
}
TornFile-left stale at bytes f = record {
  torn = Torn-foreign at bytes f.file;
  stays = λ _. refl;
  settled = refl;
  writes = λ w among. among;
}

cut_front : (n m : ℕ) (file : Option (List ℕ)) (f : FileImage) → f.file ≡ file → n ≤ m → CutFile n f (record f { file = option_map (take m) file })
cut_front n m None f is le = record { no_shorter = rw is (omega arith); no_longer = omega arith; front = rw is refl; stays = rw is refl; settled = refl; writes = refl }
cut_front n m (Some old) f is le = record {
  no_shorter = rw is (omega (arith, le, length-take m old));
  no_longer = rw is (omega (arith, length-take m old));
  front = rw is (take-take n m old le);
  stays = rw is refl;
  settled = refl;
  writes = refl;
}

pub cut_none : (n : ℕ) (f : FileImage) → CutFile n f f
cut_none n f = record { no_shorter = omega arith; no_longer = omega arith; front = refl; stays = refl; settled = refl; writes = refl }

cut_foreign : (n : ℕ) (file : Option (List ℕ)) (f : FileImage) → f.file ≡ file → CutFile n f (record f { file = cut_left stale n file })
cut_foreign n None f is = record { no_shorter = rw is (omega arith); no_longer = omega arith; front = rw is refl; stays = rw is refl; settled = refl; writes = refl }
cut_foreign n (Some old) f is =
    let from = min n (length old) in
    let other = replicate (foreign_length n (length old) (Some old)) 165 in
    let long : length other ≡ length old - from = length-replicate (foreign_length n (length old) (Some old)) 165 in
    let all : length (overlaid from other old) ≡ length old = omega (arith, long, length-overlaid from other old) in
    let torn = Torn-overlaid from other old in
    record {
      no_shorter = rw is (omega (arith, all));
      no_longer = rw is (omega (arith, all));
      front = rw is (front_of (overlaid from other old) torn.before all);
      stays = rw is refl;
      settled = refl;
      writes = refl;
    }
  where
    front_of : (new : List ℕ) → take (min (min n (length old)) (length old)) new ≡ take (min (min n (length old)) (length old)) old → length new ≡ length old → take n new ≡ take n old
    front_of new same all =
        let least : min (min n (length old)) (length old) ≡ min n (length old) = omega arith in
        let least_new : min n (length new) ≡ min n (length old) = omega (arith, all) in
        sym (take_min n new) ∙ ap (λ k. take k new) least_new ∙ subst (λ k. take k new ≡ take k old) least same ∙ take_min n old

pub CutFile-left : (fate : Fate) (n : ℕ) (f : FileImage) → CutFile n f (with_file (cut_left fate n f.file) f)
CutFile-left kept n f = cut_front n n f.file f refl (omega arith)
CutFile-left lost n f = cut_none n f
CutFile-left torn n f = cut_front n (n + (file_length f.file - n) / 2) f.file f refl (omega arith)
CutFile-left stale n f = cut_foreign n f.file f refl

pub RemovedFile-left : (fate : Fate) (f : FileImage) → RemovedFile f (with_file (removal_left fate f.file) f)
RemovedFile-left kept f = record { gone = inl refl; settled = refl; writes = refl }
RemovedFile-left lost f = record { gone = inr refl; settled = refl; writes = refl }
RemovedFile-left torn f = record { gone = inr refl; settled = refl; writes = refl }
RemovedFile-left stale f = record { gone = inr refl; settled = refl; writes = refl }
