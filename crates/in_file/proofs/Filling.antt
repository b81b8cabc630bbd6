-- Bytes that a read put behind others.
use Rattle.std.proofs.Common.{◌≡◌, ◌≤◌, ◌+◌, ◌-◌, min, ℕ, IsTrue, List, ◌++◌, length, take, drop, sym, ap, ◌∙◌, subst, arith, length-take, length-drop}
use Rattle.std.proofs.Math.Seq.{take-add}
use Rattle.std.proofs.lemmas.List.{drop-append-le, take-append-le, length-take-le}
use Rattle.byte_lines.specs.Split.{HasNoLineFeed}
use Rattle.io_traits.specs.Folders.{IsOneCall}
use Rattle.io_traits.specs.Reads.{Gives, bytes_of}
use Rattle.io_traits.specs.declared.files.Files.{Ghosts as FilesWords}
use Rattle.in_file.specs.Looks.{IsRead}

module _ (start filled count : ℕ) (old new before : List ℕ) (order : start ≤ filled) (within : filled ≤ length old) (same : take filled new ≡ take filled old) (held : drop start (take filled old) ≡ before) where
  -- what is held then
  pub held_behind : drop start (take (filled + count) new) ≡ before ++ take count (drop filled new)
  held_behind =
      let more = take count (drop filled new) in
      let long = length-take-le filled old within in
      ap (drop start) (take-add filled count new ∙ ap (λ t. t ++ more) same) ∙ drop-append-le start (take filled old) more (omega (arith, long, order)) ∙ ap (λ t. t ++ more) held

  -- what was searched before has no line feed still
  pub searched_still : (searched : ℕ) → start + searched ≤ filled → HasNoLineFeed (take searched (drop start (take filled old))) → HasNoLineFeed (take searched (drop start (take (filled + count) new)))
  searched_still searched short free =
      let more = take count (drop filled new) in
      let long = length-take-le filled old within in
      let left = length-drop start (take filled old) in
      subst HasNoLineFeed (sym (ap (take searched) (held_behind ∙ ap (λ t. t ++ more) (sym held)) ∙ take-append-le searched (drop start (take filled old)) more (omega (arith, long, left, short)))) free

module _ {F : Type 0} (files : FilesWords F) where
  -- of a file, so many from a place on
  pub read_so : (path : List ℕ) (place room filled count : ℕ) (before after new : List ℕ) (old next : F) → after ≡ before ++ take count (drop filled new) → filled + room ≤ length new → count ≤ room
      → (IsTrue files.tells → Gives (files.shows old (files.calls old) path) place room count (drop filled new)) → IsOneCall files.tells files.shows files.calls old next → IsRead files path place room before after old next count
  read_so path place room filled count before after new old next whole long within gives call = record {
    bytes = take count (drop filled new);
    counted = length-take count (drop filled new) ∙ (let l = length-drop filled new in omega (arith, l, long, within));
    within = within;
    whole = whole;
    seen = λ told. (gives told).bytes;
    call = call;
  }
