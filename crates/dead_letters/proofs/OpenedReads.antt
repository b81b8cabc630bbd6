-- A folder that was cut back holds what it held, at each moment, and is ready then.
use Rattle.std.proofs.Common.{◌≡◌, ◌≢◌, inl, inr, ⊎_elim, ℕ, zero, suc, ◌+◌, ◌-◌, ◌<◌, ◌≤◌, ◌^◌, false, List, [], ◌∷◌, ◌++◌, length, map, take, get_or, Option, Some, None, IsSome, option_map, Ok, refl, sym, ap, ◌∙◌, subst, arith, length-take}
use Rattle.std.specs.Prelude.{Contains, All, nat_lt}
use Rattle.std.proofs.Math.Path.{ap₂}
use Rattle.std.proofs.lemmas.Bool.{cond-false}
use Rattle.std.proofs.lemmas.List.{map-append}
use Rattle.std.proofs.lemmas.Bool.Decides.{nat_tests}
use Rattle.std.proofs.lemmas.List.Elements.{All-contains}
use Rattle.io_traits.specs.Folders.{Content}
use Rattle.io_traits.specs.Reads.{bytes_of}
use Rattle.io_traits.specs.Images.{Image, FileImage, at_rest}
use Rattle.io_traits.specs.declared.stores.Store.{Ghosts as StoreWords}
use Rattle.settings_lines.specs.declared.settings.Policy.{Policy}
use Rattle.slot_files.specs.Contents.{left_in}
use Rattle.dead_letters.specs.Queues.{segment, names, name_in}
use Rattle.dead_letters.specs.Segments.{segments, counted_in}
use Rattle.dead_letters.specs.Found.{bytes_in, cut_from, held_in, found_by, found}
use Rattle.dead_letters.specs.Views.{DeadQueue, last_of, held_last}
use Rattle.dead_letters.specs.Ready.{files_from, held_now, IsSaid}
use Rattle.dead_letters.specs.Opening.{IsCleared}
use Rattle.dead_letters.specs.Trimming.{IsOther, IsOfOther, IsCut, AreAllOthers, Trims, StaysHeld, sizes_cut, opened_queue}
use Rattle.dead_letters.specs.declared.segments.Segments.{Segments}
use Rattle.dead_letters.specs.declared.segments.Counted.TheVariants.{Count}
use Rattle.dead_letters.proofs.Growing.{segment_apart, files_same, files_split}
use Rattle.dead_letters.proofs.Joining.{cut_is, last_size}
use Rattle.dead_letters.proofs.AppendRun.{names_apart}

-- segments that have the same bytes as far as they count
cut_same : (folder : List ℕ) (c d : Content) (len n k : ℕ) → ((m : ℕ) → n ≤ m → m < n + k → bytes_in folder d m ≡ bytes_in folder c m) → take len (bytes_in folder d (n + k)) ≡ take len (bytes_in folder c (n + k))
    → cut_from folder d len n k ≡ cut_from folder c len n k
cut_same folder c d len n zero same last = let e : n + 0 ≡ n = omega arith in ap (λ b. b ∷ []) (subst (λ m. take len (bytes_in folder d m) ≡ take len (bytes_in folder c m)) e last)
cut_same folder c d len n (suc k) same last =
    let e : n + suc k ≡ suc n + k = omega arith in
    ap₂ (λ b l. b ∷ l) (same n (omega arith) (omega arith))
    (cut_same folder c d len (suc n) k (λ m low high. same m (omega (arith, low)) (omega (arith, high))) (subst (λ m. take len (bytes_in folder d m) ≡ take len (bytes_in folder c m)) e last))

-- what is held where a file names these segments, and the last one reaches its length
pub held_ok : (folder : List ℕ) (c : Content) (turn : ℕ) (s : Segments) → counted_in (bytes_of (c (name_in folder names))) ≡ Count turn s → s.length ≤ length (bytes_in folder c s.last) → found folder c ≡ Ok (held_in folder c s)
held_ok folder c turn s counted long =
    let test : nat_lt (length (bytes_in folder c s.last)) s.length ≡ false = grind (arith, nat_tests, long) in
    ap (found_by folder c) counted ∙ cond-false _ _ _ test

held_still : (folder : List ℕ) (c d : Content) (turn : ℕ) (s : Segments) → s.first ≤ s.last → counted_in (bytes_of (c (name_in folder names))) ≡ Count turn s → counted_in (bytes_of (d (name_in folder names))) ≡ Count turn s
    → s.length ≤ length (bytes_in folder c s.last) → ((m : ℕ) → s.first ≤ m → m < s.last → bytes_in folder d m ≡ bytes_in folder c m)
    → s.length ≤ length (bytes_in folder d s.last) → take s.length (bytes_in folder d s.last) ≡ take s.length (bytes_in folder c s.last) → found folder d ≡ found folder c
held_still folder c d turn s order counted counted_d long same long_d front =
    let k = s.last - s.first in
    let at : s.first + k ≡ s.last = omega (arith, order) in
    held_ok folder d turn s counted_d long_d
    ∙ ap (λ l. Ok (record { first = s.first; segments = l }))
    (cut_same folder c d s.length s.first k (λ m low high. same m low (omega (arith, high, at))) (subst (λ n. take s.length (bytes_in folder d n) ≡ take s.length (bytes_in folder c n)) (sym at) front))
    ∙ sym (held_ok folder c turn s counted long)

cut_bytes : (n : ℕ) (o : Option (List ℕ)) → bytes_of (option_map (take n) o) ≡ take n (bytes_of o)
cut_bytes n (Some bytes) = refl
cut_bytes zero None = refl
cut_bytes (suc n) None = refl

module _ (folder : List ℕ) (s : Segments) (low : s.last < 2 ^ 32) (gone : List (List ℕ)) (from : All (IsOfOther folder s) gone) where
  -- a file that is one of others
  pub other_own : (name : List ℕ) → Contains gone name → IsOfOther folder s name
  other_own name has = All-contains (IsOfOther folder s) gone name from has

  none_slot : Contains gone (name_in folder names) → ⊥
  none_slot has = let o = other_own (name_in folder names) has in names_apart folder o.0 o.1.0 o.2

  pub none_counted : (m : ℕ) → s.first ≤ m → m ≤ s.last → Contains gone (name_in folder (segment m)) → ⊥
  none_counted m above below has =
      let o = other_own (name_in folder (segment m)) has in
      segment_apart folder m o.0 (omega (arith, below, low)) o.1.0 (λ same. ⊎_elim (λ under. omega (arith, under, same, above)) (λ over. omega (arith, over, same, below)) o.1.1) o.2

  abbrev last : List ℕ
  last = name_in folder (segment s.last)

  last_apart : (m : ℕ) → m < 2 ^ 32 → m ≢ s.last → name_in folder (segment m) ≡ last → ⊥
  last_apart m fits other = segment_apart folder m s.last fits low other

  -- while it is cut back
  pub trimmed : {S : Type 0} (store : StoreWords S) (old : S) (turn : ℕ) → s.first ≤ s.last → counted_in (bytes_of (store.seen old (name_in folder names))) ≡ Count turn s → s.length ≤ length (bytes_in folder (store.seen old) s.last)
      → (i : Image) → Trims store gone last s.length old i → StaysHeld store folder old i
  trimmed store old turn order counted long i t =
      let c = store.seen old in
      let bytes_as = λ (m : ℕ) (is : i (name_in folder (segment m)) ≡ at_rest (c (name_in folder (segment m)))). ap (λ (f : FileImage). bytes_of f.file) is in
      record {
        own = λ h is chances. held_still folder c (left_in i) turn s order counted (ap (λ (f : FileImage). counted_in (bytes_of f.file)) (t.stays (name_in folder names) (names_apart folder s.last low) none_slot) ∙ counted) long
            (λ m above below. bytes_as m (t.stays (name_in folder (segment m)) (last_apart m (omega (arith, below, low)) (λ same. omega (arith, same, below))) (none_counted m above (omega (arith, below)))))
            (omega (arith, t.front.no_shorter, long)) t.front.front
            ∙ is;
        beside = λ name other. t.stays name (λ is. other (segment s.last, low, is)) (λ has. other (let o = other_own name has in (segment o.0, o.1.0, o.2)));
      }

  -- what reads give then
  module _ (order : s.first ≤ s.last) (turn : ℕ) (old new : Content) (counted : counted_in (bytes_of (old (name_in folder names))) ≡ Count turn s) (long : s.length ≤ length (bytes_in folder old s.last)) (cut : IsCut gone last s.length old new)
      (sizes : List ℕ) where
    abbrev k : ℕ
    k = s.last - s.first

    at : s.first + k ≡ s.last
    at = omega (arith, order)

    last_bytes : bytes_in folder new s.last ≡ take s.length (bytes_in folder old s.last)
    last_bytes = ap bytes_of cut.cut ∙ cut_bytes s.length (old last)

    before : (m : ℕ) → s.first ≤ m → m < s.last → bytes_in folder new m ≡ bytes_in folder old m
    before m above below = ap bytes_of (cut.stays (name_in folder (segment m)) (last_apart m (omega (arith, below, low)) (λ same. omega (arith, same, below))) (none_counted m above (omega (arith, below))))

    last_long : length (bytes_in folder new (s.first + k)) ≡ s.length
    last_long = ap (λ n. length (bytes_in folder new n)) at ∙ ap length last_bytes ∙ omega (arith, length-take s.length (bytes_in folder old s.last), long)

    -- the bytes of the segments as they are then
    sizes_are : sizes_cut folder old s ≡ map length (files_from folder new s.first (k + 1))
    sizes_are =
        ap₂ (λ (l : List (List ℕ)) (n : ℕ). map length l ++ n ∷ []) (files_same folder old new s.first k (λ m above below. sym (before m above (omega (arith, below, at))))) (sym last_long)
        ∙ sym (map-append length (files_from folder new s.first k) (bytes_in folder new (s.first + k) ∷ [])) ∙ ap (map length) (sym (files_split folder new s.first k 1))

    module _ (limit : ℕ) (policy : Policy) (many : length sizes ≡ k + 1) (are_cut : sizes ≡ sizes_cut folder old s) where
      are : sizes ≡ map length (files_from folder new s.first (k + 1))
      are = are_cut ∙ sizes_are

      abbrev q : DeadQueue
      q = opened_queue folder limit policy turn s.first sizes

      size : held_last sizes ≡ s.length
      size =
          let one : length sizes - 1 ≡ k = omega (arith, many) in
          ap (λ i. get_or sizes i 0) one ∙ ap (λ l. get_or l k 0) are ∙ last_size folder new s.first k ∙ last_long

      last_is : last_of q ≡ s.last
      last_is = omega (arith, many, at)

      pub cleared : AreAllOthers folder s old gone → IsCleared q new
      cleared all n fits other = by (old (name_in folder (segment n))) refl
        where
          is_other : IsOther s n
          is_other = (fits, ⊎_elim (λ under. inl under) (λ over. inr (omega (arith, over, last_is))) other)

          apart : name_in folder (segment n) ≡ last → ⊥
          apart same = last_apart n fits (λ e. ⊎_elim (λ under. omega (arith, under, e, order)) (λ over. omega (arith, over, e)) is_other.1) same

          by : (o : Option (List ℕ)) → old (name_in folder (segment n)) ≡ o → new (name_in folder (segment n)) ≡ None
          by (Some bytes) is = cut.gone_now (name_in folder (segment n)) apart (all n is_other (subst IsSome (sym is) refl))
          by None is = cut.missing (name_in folder (segment n)) apart is

      pub said : AreAllOthers folder s old gone → IsSaid q new
      said all = record {
        counted = ap (λ o. counted_in (bytes_of o)) (cut.stays (name_in folder names) (names_apart folder s.last low) none_slot) ∙ counted ∙ ap (Count turn) (ap₂ (segments s.first) (sym last_is) (sym size));
        sizes = ap (λ n. map length (files_from folder new s.first n)) many ∙ sym are;
        fresh = λ n above below. ap bytes_of (cleared all n below (inr above));
      }

      pub held : found folder old ≡ Ok (held_now q new)
      held =
          let more : suc k ≡ length sizes = omega (arith, many) in
          held_ok folder old turn s counted long
          ∙ ap (λ l. Ok (record { first = s.first; segments = l }))
          (cut_is folder new old s.first k (λ m above below. sym (before m above (omega (arith, below, at)))) s.length (subst (λ n. take s.length (bytes_in folder old n) ≡ bytes_in folder new n) (sym at) (sym last_bytes))
          ∙ ap (files_from folder new s.first) more)
