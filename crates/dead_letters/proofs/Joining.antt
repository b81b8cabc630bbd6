-- The files of a queue behind an append, and what a folder holds whose files are these.
use Rattle.std.proofs.Common.{◌≡◌, ℕ, zero, suc, ◌+◌, ◌-◌, ◌<◌, ◌≤◌, ◌^◌, false, List, [], ◌∷◌, ◌++◌, length, map, take, drop, get_or, Ok, refl, sym, ap, ◌∙◌, subst, arith, length-drop}
use Rattle.std.specs.Prelude.{nat_lt}
use Rattle.std.specs.List.{sum}
use Rattle.std.proofs.Math.Path.{ap₂}
use Rattle.std.proofs.Math.Seq.{get_or-append_seam}
use Rattle.std.proofs.lemmas.Bool.{cond-false}
use Rattle.std.proofs.lemmas.Bool.Decides.{nat_tests}
use Rattle.std.proofs.lemmas.List.{map-append, length-map}
use Rattle.io_traits.specs.Folders.{Content}
use Rattle.io_traits.specs.Reads.{bytes_of}
use Rattle.slot_files.specs.Each.{laid}
use Rattle.dead_letters.specs.Letters.{record_bytes, size_of}
use Rattle.dead_letters.specs.Queues.{segment, names, name_in, grown, pieces, cut, joined, behind}
use Rattle.dead_letters.specs.Segments.{counted_in}
use Rattle.dead_letters.specs.Found.{bytes_in, cut_from, found_by, found}
use Rattle.dead_letters.specs.Appends.{with_records, append_to, kept_from}
use Rattle.dead_letters.specs.Views.{DeadQueue, names_from, last_of, held_last, named, sheds, joining, taken_by, sizes_with, behind_append}
use Rattle.dead_letters.specs.Ready.{files_from, held_now, IsSaid}
use Rattle.dead_letters.specs.declared.letter.DeadLetter.{DeadLetter}
use Rattle.dead_letters.specs.declared.opened.DeadLetters.TheInside.{Inside}
use Rattle.dead_letters.specs.declared.segments.Counted.TheVariants.{Count}
use Rattle.dead_letters.proofs.QueueNames.{pieces_make_segments}
use Rattle.std.proofs.lemmas.List.Sums.{get_or-le-sum_by}
use Rattle.dead_letters.proofs.Kept.{one_stays, kept_map, last_fits}
use Rattle.dead_letters.proofs.Growing.{files_split, files_same, files_length, files_drop, is_none_of, segment_apart, laid_other, laid_segments, with_records_split, sizes_with_split, sizes_with_length, behind_sizes, pieces_sum, pieces_some, pieces_numbers, joined_length}

-- a queue that is open, as it is seen
abbrev pub view : Inside → DeadQueue
view q = record { folder = q.folder; limit = q.limit; policy = q.policy; turn = q.turn; first = q.first; sizes = q.sizes }

-- ---- what a folder holds

pub cut_is : (folder : List ℕ) (c d : Content) (n k : ℕ) → ((m : ℕ) → n ≤ m → m < n + k → bytes_in folder d m ≡ bytes_in folder c m) → (len : ℕ) → take len (bytes_in folder d (n + k)) ≡ bytes_in folder c (n + k)
    → cut_from folder d len n k ≡ files_from folder c n (suc k)
cut_is folder c d n zero same len last = let e : n + 0 ≡ n = omega arith in ap (λ b. b ∷ []) (subst (λ m. take len (bytes_in folder d m) ≡ bytes_in folder c m) e last)
cut_is folder c d n (suc k) same len last =
    let e : n + suc k ≡ suc n + k = omega arith in
    ap₂ (λ b l. b ∷ l) (same n (omega arith) (omega arith))
    (cut_is folder c d (suc n) k (λ m low high. same m (omega (arith, low)) (omega (arith, high))) len (subst (λ m. take len (bytes_in folder d m) ≡ bytes_in folder c m) e last))

-- the last of files
pub last_file : (folder : List ℕ) (c : Content) (n k : ℕ) → files_from folder c n (k + 1) ≡ files_from folder c n k ++ bytes_in folder c (n + k) ∷ []
last_file folder c n k = files_split folder c n k 1

pub last_size : (folder : List ℕ) (c : Content) (n k : ℕ) → get_or (map length (files_from folder c n (k + 1))) k 0 ≡ length (bytes_in folder c (n + k))
last_size folder c n k =
    let xs = files_from folder c n k in
    let long : length (map length xs) ≡ k = length-map xs length ∙ files_length folder c n k in
    ap (λ l. get_or l k 0) (ap (map length) (last_file folder c n k) ∙ map-append length xs (bytes_in folder c (n + k) ∷ []))
    ∙ ap (λ i. get_or (map length xs ++ length (bytes_in folder c (n + k)) ∷ []) i 0) (sym long) ∙ get_or-append_seam (map length xs) (length (bytes_in folder c (n + k))) [] 0

module _ (q : DeadQueue) (some : 0 < length q.sizes) (c : Content) (sizes : map length (files_from q.folder c q.first (length q.sizes)) ≡ q.sizes) where
  abbrev before : ℕ
  before = length q.sizes - 1

  all : length q.sizes ≡ before + 1
  all = omega (arith, some)

  pub last_length : held_last q.sizes ≡ length (bytes_in q.folder c (last_of q))
  last_length =
      ap (λ l. get_or l before 0) (sym sizes) ∙ ap (λ k. get_or (map length (files_from q.folder c q.first k)) before 0) all ∙ last_size q.folder c q.first before

  -- a folder whose newest slot names these segments, which stand there, holds them
  pub holds : (turn : ℕ) (d : Content) → counted_in (bytes_of (d (name_in q.folder names))) ≡ Count turn (named q) → ((m : ℕ) → q.first ≤ m → m < last_of q → bytes_in q.folder d m ≡ bytes_in q.folder c m)
      → length (bytes_in q.folder c (last_of q)) ≤ length (bytes_in q.folder d (last_of q)) → take (length (bytes_in q.folder c (last_of q))) (bytes_in q.folder d (last_of q)) ≡ bytes_in q.folder c (last_of q)
      → found q.folder d ≡ Ok (held_now q c)
  holds turn d counted same long front =
      let le : held_last q.sizes ≤ length (bytes_in q.folder d (last_of q)) = omega (arith, last_length, long) in
      let test : nat_lt (length (bytes_in q.folder d (last_of q))) (held_last q.sizes) ≡ false = grind (arith, nat_tests, le) in
      let few : last_of q - q.first ≡ before = omega arith in
      let many : suc before ≡ length q.sizes = omega (arith, some) in
      ap (found_by q.folder d) counted ∙ cond-false _ _ _ test
      ∙ ap (λ l. Ok (record { first = q.first; segments = l }))
      (ap (cut_from q.folder d (held_last q.sizes) q.first) few
      ∙ cut_is q.folder c d q.first before same (held_last q.sizes) (subst (λ n. take n (bytes_in q.folder d (last_of q)) ≡ bytes_in q.folder c (last_of q)) (sym last_length) front)
      ∙ ap (files_from q.folder c q.first) many)

-- ---- an append

map_sizes : (ls : List DeadLetter) → map length (map record_bytes ls) ≡ map size_of ls
map_sizes [] = refl
map_sizes (l ∷ ls) = ap (λ ns. size_of l ∷ ns) (map_sizes ls)

map_drop : (k : ℕ) (xs : List (List ℕ)) → drop k (map length xs) ≡ map length (drop k xs)
map_drop zero xs = refl
map_drop (suc k) [] = refl
map_drop (suc k) (x ∷ xs) = map_drop k xs

module _ (q : DeadQueue) (letters : List DeadLetter) (some : 0 < length q.sizes) (numbers : q.first + length q.sizes ≤ 2 ^ 32) where
  abbrev older : ℕ
  older = (sheds q letters).older

  abbrev records : List (List ℕ)
  records = map record_bytes (joining q letters)

  abbrev ps : List ℕ
  ps = taken_by q (joining q letters)

  abbrev new : DeadQueue
  new = behind_append q letters

  pub stays : older < length q.sizes
  stays = one_stays q.policy q.limit q.sizes (map size_of letters) some

  -- how many segments stay before the last one
  abbrev a : ℕ
  a = length q.sizes - 1 - older

  parts : length q.sizes ≡ older + (a + 1)
  parts = omega (arith, some, stays)

  last_is : q.first + older + a ≡ last_of q
  last_is = omega (arith, some, stays)

  pub pieces_fit : last_of q + length ps ≤ 2 ^ 32
  pieces_fit = pieces_numbers q.limit (last_of q) (held_last q.sizes) 0 (map size_of (joining q letters)) (omega (arith, some, numbers))

  pub pieces_are : 0 < length ps
  pieces_are = pieces_some q.limit (last_of q) (held_last q.sizes) 0 (map size_of (joining q letters))

  pub pieces_within : sum ps ≤ length (joined records)
  pieces_within =
      let all = pieces_sum q.limit (last_of q) (held_last q.sizes) 0 (map size_of (joining q letters)) in
      let long = joined_length records in
      let same : sum (map length records) ≡ sum (map size_of (joining q letters)) = ap sum (map_sizes (joining q letters)) in
      omega (arith, all, long, same)

  pub new_length : length new.sizes ≡ a + length ps
  new_length =
      let left = length-drop older q.sizes in
      sizes_with_length (drop older q.sizes) ps (omega (arith, left, stays)) pieces_are ∙ omega (arith, left)

  pub new_last : last_of new ≡ last_of q + (length ps - 1)
  new_last = omega (arith, new_length, last_is, pieces_are)

  pub new_some : 0 < length new.sizes
  new_some = omega (arith, new_length, pieces_are)

  pub new_numbers : q.first + older + length new.sizes ≤ 2 ^ 32
  new_numbers = omega (arith, new_length, pieces_fit, stays)

  pub bytes_summed : length (joined records) ≡ sum (map size_of (joining q letters))
  bytes_summed = joined_length records ∙ ap sum (map_sizes (joining q letters))

  -- the last segment has a length with the first piece
  pub last_room : q.limit < 2 ^ 64 → held_last q.sizes < 2 ^ 64 → held_last q.sizes + get_or ps 0 0 < 2 ^ 64
  last_room limit_fits last_low =
      let kept : sum (map size_of (joining q letters)) ≡ sum (kept_from (sheds q letters).newer 0 (map size_of letters)) = ap sum (kept_map size_of (sheds q letters).newer 0 letters) in
      let all = pieces_sum q.limit (last_of q) (held_last q.sizes) 0 (map size_of (joining q letters)) in
      let one = get_or-le-sum_by (λ x. x) ps 0 0 pieces_are in
      omega (arith, kept, all, one, last_fits q.policy q.limit q.sizes (map size_of letters) some limit_fits last_low)

  module _ (c : Content) (said : IsSaid q c) where
    abbrev after : Content
    after = laid (names_from q.folder (last_of q) (length ps)) ps (joined records) c

    abbrev front : List (List ℕ)
    front = files_from q.folder c (q.first + older) a

    abbrev last : List ℕ
    last = bytes_in q.folder c (last_of q)

    -- the segments that stay
    left_are : drop older (files_from q.folder c q.first (length q.sizes)) ≡ front ++ last ∷ []
    left_are =
        ap (λ k. drop older (files_from q.folder c q.first k)) parts ∙ files_drop q.folder c q.first older (a + 1) ∙ last_file q.folder c (q.first + older) a
        ∙ ap (λ n. front ++ bytes_in q.folder c n ∷ []) last_is

    sizes_left : drop older q.sizes ≡ map length front ++ length last ∷ []
    sizes_left = ap (drop older) (sym said.sizes) ∙ map_drop older (files_from q.folder c q.first (length q.sizes)) ∙ ap (map length) left_are ∙ map-append length front (last ∷ [])

    held_is : held_last q.sizes ≡ length last
    held_is = last_length q some c said.sizes

    pub other_segment : (m : ℕ) → m < 2 ^ 32 → (last_of q ≤ m → m < last_of q + length ps → ⊥) → bytes_in q.folder after m ≡ bytes_in q.folder c m
    other_segment m low apart =
        ap bytes_of (laid_other (names_from q.folder (last_of q) (length ps)) ps (joined records) c (name_in q.folder (segment m))
        (is_none_of q.folder (last_of q) (length ps) (segment m)
        (λ n from to same. segment_apart q.folder m n low (omega (arith, to, pieces_fit)) (λ (e : m ≡ n). apart (omega (arith, e, from)) (omega (arith, e, to))) same)))

    fits_last : last_of q < 2 ^ 32
    fits_last = omega (arith, some, numbers)

    front_same : files_from q.folder after (q.first + older) a ≡ front
    front_same = files_same q.folder after c (q.first + older) a (λ m low high. other_segment m (omega (arith, high, last_is, fits_last)) (λ from to. omega (arith, from, high, last_is)))

    grown_are : files_from q.folder after (last_of q) (length ps) ≡ behind last (cut ps (joined records))
    grown_are = laid_segments q.folder ps (joined records) (last_of q) c pieces_fit said.fresh

    new_are : files_from q.folder after (q.first + older) (a + length ps) ≡ front ++ behind last (cut ps (joined records))
    new_are =
        files_split q.folder after (q.first + older) a (length ps)
        ∙ ap₂ (λ f g. f ++ g) front_same (ap (λ n. files_from q.folder after n (length ps)) last_is ∙ grown_are)

    new_sizes_are : map length (front ++ behind last (cut ps (joined records))) ≡ new.sizes
    new_sizes_are = map-append length front (behind last (cut ps (joined records))) ∙ by ps refl
      where
        by : (xs : List ℕ) → xs ≡ ps → map length front ++ map length (behind last (cut ps (joined records))) ≡ sizes_with (drop older q.sizes) ps
        by [] is = absurd (omega (arith, ap length is, pieces_are))
        by (x ∷ xs) is =
            ap (λ l. map length front ++ map length (behind last (cut l (joined records)))) (sym is)
            ∙ ap (λ l. map length front ++ l) (behind_sizes last (joined records) x xs (subst (λ l. sum l ≤ length (joined records)) (sym is) pieces_within))
            ∙ sym (sizes_with_split (map length front) (length last) x xs) ∙ ap₂ sizes_with (sym sizes_left) is

    new_files : files_from q.folder after new.first (length new.sizes) ≡ front ++ behind last (cut ps (joined records))
    new_files = ap (files_from q.folder after new.first) new_length ∙ new_are

    pub new_sizes : map length (files_from q.folder after new.first (length new.sizes)) ≡ new.sizes
    new_sizes = ap (map length) new_files ∙ new_sizes_are

    pub new_fresh : (m : ℕ) → last_of new < m → m < 2 ^ 32 → bytes_in q.folder after m ≡ []
    new_fresh m low high = other_segment m high (λ from to. omega (arith, to, low, new_last, pieces_are)) ∙ said.fresh m (omega (arith, low, new_last)) high

    -- it holds what the append says
    pub new_held : held_now new after ≡ append_to q.limit (held_now q c) (sheds q letters) letters
    new_held = ap (λ l. record { first = q.first + older; segments = l }) (new_files ∙ sym made)
      where
        pieces_same : pieces q.limit (last_of q) (length last) 0 (map length records) ≡ ps
        pieces_same = ap₂ (λ n l. pieces q.limit (last_of q) n 0 l) (sym held_is) (map_sizes (joining q letters))

        number : q.first + older + length front ≡ last_of q
        number = ap (λ n. q.first + older + n) (files_length q.folder c (q.first + older) a) ∙ last_is

        made : with_records q.limit (q.first + older) (drop older (files_from q.folder c q.first (length q.sizes))) records ≡ front ++ behind last (cut ps (joined records))
        made =
            ap (λ l. with_records q.limit (q.first + older) l records) left_are ∙ with_records_split q.limit (q.first + older) front last records
            ∙ ap (λ l. front ++ l)
            (ap (λ n. grown q.limit n last records) number ∙ pieces_make_segments q.limit (last_of q) last records ∙ ap (λ l. behind last (cut l (joined records))) pieces_same)
