-- What an append makes of lists of segments, and of the files of a folder.
use Rattle.std.proofs.Common.{◌≡◌, ◌≢◌, inl, inr, ℕ, zero, suc, ◌+◌, ◌-◌, ◌<◌, ◌≤◌, ◌^◌, ◌/◌, ◌&&◌, Bool, true, false, List, [], ◌∷◌, ◌++◌, length, map, take, drop, get_or, refl, sym, ap, ◌∙◌, subst, arith, length-append, length-take, length-drop}
use Rattle.std.specs.Prelude.{Contains, nat_lt}
use Rattle.std.specs.Str.{bytes_eq}
use Rattle.std.specs.List.{sum}
use Rattle.std.proofs.Math.Path.{ap₂}
use Rattle.std.proofs.Math.Seq.{drop-append_seam}
use Rattle.std.proofs.lemmas.Bool.{cond-true, cond-false, cases_Bool, and_parts}
use Rattle.std.proofs.lemmas.Bool.Decides.{nat_tests}
use Rattle.std.proofs.lemmas.List.{drop_more, drop_all, drop-drop, take-append-drop}
use Rattle.std.proofs.lemmas.Slice.Eq.{bytes_eq-Decides}
use Rattle.io_traits.specs.Folders.{Content}
use Rattle.io_traits.specs.Reads.{bytes_of}
use Rattle.slot_files.specs.Each.{laid, with_more}
use Rattle.dead_letters.specs.Queues.{Role, segment, names, position, name_in, begins_next, grown, pieces, cut, joined, behind}
use Rattle.dead_letters.specs.Found.{bytes_in}
use Rattle.dead_letters.specs.Appends.{with_records}
use Rattle.dead_letters.specs.Views.{names_from, sizes_with}
use Rattle.dead_letters.specs.Ready.{files_from}
use Rattle.dead_letters.proofs.NamesApart.{names_differ}
use Rattle.dead_letters.proofs.QueueNames.{nothing_behind}
use Rattle.dead_letters.proofs.Sheds.{sum_cons}

-- ---- files of a folder, from a number on

module _ (folder : List ℕ) where
  pub files_split : (c : Content) (n a b : ℕ) → files_from folder c n (a + b) ≡ files_from folder c n a ++ files_from folder c (n + a) b
  files_split c n zero b =
      let e : 0 + b ≡ b = omega arith in
      let f : n ≡ n + 0 = omega arith in
      ap (files_from folder c n) e ∙ ap (λ m. files_from folder c m b) f
  files_split c n (suc a) b =
      let e : suc a + b ≡ suc (a + b) = omega arith in
      let f : suc n + a ≡ n + suc a = omega arith in
      ap (files_from folder c n) e ∙ ap (λ l. bytes_in folder c n ∷ l) (files_split c (suc n) a b ∙ ap (λ m. files_from folder c (suc n) a ++ files_from folder c m b) f)

  pub files_same : (c d : Content) (n k : ℕ) → ((m : ℕ) → n ≤ m → m < n + k → bytes_in folder c m ≡ bytes_in folder d m) → files_from folder c n k ≡ files_from folder d n k
  files_same c d n zero same = refl
  files_same c d n (suc k) same = ap₂ (λ b l. b ∷ l) (same n (omega arith) (omega arith)) (files_same c d (suc n) k (λ m low high. same m (omega (arith, low)) (omega (arith, high))))

  pub files_length : (c : Content) (n k : ℕ) → length (files_from folder c n k) ≡ k
  files_length c n zero = refl
  files_length c n (suc k) = ap suc (files_length c (suc n) k)

  pub files_drop : (c : Content) (n j b : ℕ) → drop j (files_from folder c n (j + b)) ≡ files_from folder c (n + j) b
  files_drop c n j b =
      ap (drop j) (files_split c n j b) ∙ ap (λ k. drop k (files_from folder c n j ++ files_from folder c (n + j) b)) (sym (files_length c n j)) ∙ drop-append_seam (files_from folder c n j) (files_from folder c (n + j) b)

  -- a file that is none of these
  pub is_none_of : (n k : ℕ) (role : Role) → ((m : ℕ) → n ≤ m → m < n + k → name_in folder role ≡ name_in folder (segment m) → ⊥) → Contains (names_from folder n k) (name_in folder role) → ⊥
  is_none_of n zero role apart (i, less, is) = omega (arith, less)
  is_none_of n (suc k) role apart (zero, less, is) = apart n (omega arith) (omega arith) (sym is)
  is_none_of n (suc k) role apart (suc i, less, is) = is_none_of (suc n) k role (λ m low high. apart m (omega (arith, low)) (omega (arith, high))) (i, omega (arith, less), is)

  pub segment_apart : (n m : ℕ) → n < 2 ^ 32 → m < 2 ^ 32 → n ≢ m → name_in folder (segment n) ≡ name_in folder (segment m) → ⊥
  segment_apart n m i j differ same = differ (by (names_differ folder (segment n) (segment m) i j same))
    where
      number : Role → ℕ
      number (segment k) = k
      number names = 0
      number position = 0

      by : segment n ≡ segment m → n ≡ m
      by e = ap number e

-- what another file reads as
pub laid_other : (ns : List (List ℕ)) (sizes bytes : List ℕ) (c : Content) (name : List ℕ) → (Contains ns name → ⊥) → laid ns sizes bytes c name ≡ c name
laid_other [] sizes bytes c name other = refl
laid_other (x ∷ ns) [] bytes c name other = refl
laid_other (x ∷ ns) (n ∷ sizes) bytes c name other =
    laid_other ns sizes (drop n bytes) (with_more x (take n bytes) c) name (λ has. other (suc has.0, omega (arith, has.1), has.2)) ∙ by (bytes_eq name x) refl
  where
    by : (b : Bool) → bytes_eq name x ≡ b → with_more x (take n bytes) c name ≡ c name
    by true is = absurd (other (0, omega arith, sym ((bytes_eq-Decides name x).0 is)))
    by false is = cond-false _ _ _ is

module _ (folder : List ℕ) where
  one_more : (ps bytes : List ℕ) (n p : ℕ) (c : Content) (m : ℕ) → n < 2 ^ 32 → m < 2 ^ 32 → n ≢ m → bytes_in folder (with_more (name_in folder (segment n)) (take p bytes) c) m ≡ bytes_in folder c m
  one_more ps bytes n p c m low high differ =
      ap bytes_of (cond-false (bytes_eq (name_in folder (segment m)) (name_in folder (segment n))) _ _ (by (bytes_eq (name_in folder (segment m)) (name_in folder (segment n))) refl))
    where
      by : (b : Bool) → bytes_eq (name_in folder (segment m)) (name_in folder (segment n)) ≡ b → bytes_eq (name_in folder (segment m)) (name_in folder (segment n)) ≡ false
      by true is = absurd (segment_apart folder n m low high differ (sym ((bytes_eq-Decides (name_in folder (segment m)) (name_in folder (segment n))).0 is)))
      by false is = is

  this_more : (bytes : List ℕ) (n p : ℕ) (c : Content) → bytes_in folder (with_more (name_in folder (segment n)) (take p bytes) c) n ≡ bytes_in folder c n ++ take p bytes
  this_more bytes n p c = ap bytes_of (cond-true (bytes_eq (name_in folder (segment n)) (name_in folder (segment n))) _ _ ((bytes_eq-Decides (name_in folder (segment n)) (name_in folder (segment n))).1 refl))

  abbrev one_laid : ℕ → List ℕ → Content → Content
  one_laid n bytes c = with_more (name_in folder (segment n)) bytes c

  -- segments from a number on take pieces, where none stands behind the first of them
  pub laid_segments : (ps bytes : List ℕ) (n : ℕ) (c : Content) → n + length ps ≤ 2 ^ 32 → ((m : ℕ) → n < m → m < 2 ^ 32 → bytes_in folder c m ≡ [])
      → files_from folder (laid (names_from folder n (length ps)) ps bytes c) n (length ps) ≡ behind (bytes_in folder c n) (cut ps bytes)
  laid_segments [] bytes n c fits fresh = refl
  laid_segments (p ∷ ps) bytes n c fits fresh = ap₂ (λ b l. b ∷ l) here (laid_segments ps (drop p bytes) (suc n) (one_laid n (take p bytes) c) (omega (arith, fits)) fresh_now ∙ rest ps refl)
    where
      fresh_now : (m : ℕ) → suc n < m → m < 2 ^ 32 → bytes_in folder (one_laid n (take p bytes) c) m ≡ []
      fresh_now m low high = one_more ps bytes n p c m (omega (arith, low, high)) high (λ same. omega (arith, same, low)) ∙ fresh m (omega (arith, low)) high

      here : bytes_in folder (laid (names_from folder (suc n) (length ps)) ps (drop p bytes) (one_laid n (take p bytes) c)) n ≡ bytes_in folder c n ++ take p bytes
      here =
          ap bytes_of (laid_other (names_from folder (suc n) (length ps)) ps (drop p bytes) (one_laid n (take p bytes) c) (name_in folder (segment n))
          (is_none_of folder (suc n) (length ps) (segment n) (λ m low high same. segment_apart folder n m (omega (arith, fits)) (omega (arith, high, fits)) (λ e. omega (arith, e, low)) same)))
          ∙ this_more bytes n p c

      rest : (qs : List ℕ) → qs ≡ ps → behind (bytes_in folder (one_laid n (take p bytes) c) (suc n)) (cut qs (drop p bytes)) ≡ cut qs (drop p bytes)
      rest [] is = refl
      rest (q ∷ qs) is =
          let room : suc n < 2 ^ 32 = omega (arith, fits, ap length is) in
          ap (λ b. behind b (cut (q ∷ qs) (drop p bytes))) (one_more ps bytes n p c (suc n) (omega (arith, room)) room (λ same. omega (arith, same)) ∙ fresh (suc n) (omega arith) room)
          ∙ nothing_behind (cut (q ∷ qs) (drop p bytes))

-- ---- lists of segments

pub with_records_split : (limit n : ℕ) (xs : List (List ℕ)) (x : List ℕ) (records : List (List ℕ)) → with_records limit n (xs ++ x ∷ []) records ≡ xs ++ grown limit (n + length xs) x records
with_records_split limit n [] x records = let e : n ≡ n + 0 = omega arith in ap (λ m. grown limit m x records) e
with_records_split limit n (y ∷ []) x records = let e : suc n ≡ n + 1 = omega arith in ap (λ m. y ∷ grown limit m x records) e
with_records_split limit n (y ∷ z ∷ zs) x records =
    let e : suc n + length (z ∷ zs) ≡ n + length (y ∷ z ∷ zs) = omega arith in
    ap (λ l. y ∷ l) (with_records_split limit (suc n) (z ∷ zs) x records ∙ ap (λ m. (z ∷ zs) ++ grown limit m x records) e)

pub sizes_with_split : (xs : List ℕ) (s p : ℕ) (ps : List ℕ) → sizes_with (xs ++ s ∷ []) (p ∷ ps) ≡ xs ++ ((s + p) ∷ ps)
sizes_with_split [] s p ps = refl
sizes_with_split (y ∷ []) s p ps = refl
sizes_with_split (y ∷ z ∷ zs) s p ps = ap (λ l. y ∷ l) (sizes_with_split (z ∷ zs) s p ps)

pub sizes_with_length : (xs ps : List ℕ) → 0 < length xs → 0 < length ps → length (sizes_with xs ps) ≡ length xs - 1 + length ps
sizes_with_length [] ps some piece = absurd (omega (arith, some))
sizes_with_length (s ∷ []) [] some piece = absurd (omega (arith, piece))
sizes_with_length (s ∷ []) (p ∷ ps) some piece = omega arith
sizes_with_length (s ∷ t ∷ rest) ps some piece = let more = sizes_with_length (t ∷ rest) ps (omega arith) piece in omega (arith, more)

-- by the parts of which they are made
pub sizes_laid : (sizes ps : List ℕ) (older : ℕ) → older < length sizes → 0 < length ps
    → take (length sizes - 1 - older) (drop older sizes) ++ (get_or sizes (length sizes - 1) 0 + get_or ps 0 0) ∷ drop 1 ps ≡ sizes_with (drop older sizes) ps
sizes_laid sizes [] older stays piece = absurd (omega (arith, piece))
sizes_laid sizes (p ∷ ps) older stays piece =
    sym (sizes_with_split (take k left) (get_or sizes (length sizes - 1) 0) p ps) ∙ ap (λ l. sizes_with (take k left ++ l) (p ∷ ps)) (sym tail) ∙ ap (λ l. sizes_with l (p ∷ ps)) (take-append-drop k left)
  where
    left : List ℕ
    left = drop older sizes

    k : ℕ
    k = length sizes - 1 - older

    at : older + k ≡ length sizes - 1
    at = omega (arith, stays)

    tail : drop k left ≡ get_or sizes (length sizes - 1) 0 ∷ []
    tail =
        drop-drop k older sizes ∙ ap (λ n. drop n sizes) at ∙ drop_more sizes (length sizes - 1) 0 (omega (arith, stays))
        ∙ ap (λ l. get_or sizes (length sizes - 1) 0 ∷ l) (drop_all (length sizes - 1 + 1) sizes (omega (arith, stays)))

pub names_length : (folder : List ℕ) (n k : ℕ) → length (names_from folder n k) ≡ k
names_length folder n zero = refl
names_length folder n (suc k) = ap suc (names_length folder (suc n) k)

-- ---- pieces

pub cut_sizes : (ps bytes : List ℕ) → sum ps ≤ length bytes → map length (cut ps bytes) ≡ ps
cut_sizes [] bytes within = refl
cut_sizes (p ∷ ps) bytes within =
    let all = sum_cons p ps in
    let one : length (take p bytes) ≡ p = omega (arith, length-take p bytes, within, all) in
    ap₂ (λ n l. n ∷ l) one (cut_sizes ps (drop p bytes) (omega (arith, within, all, length-drop p bytes)))

pub behind_sizes : (last bytes : List ℕ) (p : ℕ) (ps : List ℕ) → sum (p ∷ ps) ≤ length bytes → map length (behind last (cut (p ∷ ps) bytes)) ≡ (length last + p) ∷ ps
behind_sizes last bytes p ps within =
    let all = sum_cons p ps in
    let one : length (last ++ take p bytes) ≡ length last + p = omega (arith, length-append last (take p bytes), length-take p bytes, within, all) in
    ap₂ (λ n l. n ∷ l) one (cut_sizes ps (drop p bytes) (omega (arith, within, all, length-drop p bytes)))

pub pieces_sum : (limit n held taken : ℕ) (rs : List ℕ) → sum (pieces limit n held taken rs) ≡ taken + sum rs
pieces_sum limit n held taken [] = omega arith
pieces_sum limit n held taken (r ∷ rest) = elim (cases_Bool (begins_next limit n (held + taken) r)) [
  | inl next ↦
      let more = pieces_sum limit (suc n) 0 r rest in
      ap sum (cond-true _ _ _ next) ∙ (let all = sum_cons taken (pieces limit (suc n) 0 r rest) in omega (arith, all, more, sum_cons r rest))
  | inr not_next ↦ let more = pieces_sum limit n held (taken + r) rest in ap sum (cond-false _ _ _ not_next) ∙ omega (arith, more, sum_cons r rest)
]

pub pieces_some : (limit n held taken : ℕ) (rs : List ℕ) → 0 < length (pieces limit n held taken rs)
pieces_some limit n held taken [] = omega arith
pieces_some limit n held taken (r ∷ rest) = elim (cases_Bool (begins_next limit n (held + taken) r)) [
  | inl next ↦ subst (λ l. 0 < length l) (sym (cond-true _ _ _ next)) (omega arith)
  | inr not_next ↦ subst (λ l. 0 < length l) (sym (cond-false _ _ _ not_next)) (pieces_some limit n held (taken + r) rest)
]

pub pieces_numbers : (limit n held taken : ℕ) (rs : List ℕ) → n < 2 ^ 32 → n + length (pieces limit n held taken rs) ≤ 2 ^ 32
pieces_numbers limit n held taken [] low = omega (arith, low)
pieces_numbers limit n held taken (r ∷ rest) low = elim (cases_Bool (begins_next limit n (held + taken) r)) [
  | inl next ↦
      let test = (and_parts (nat_lt 0 (held + taken) && nat_lt (limit / 8) (held + taken + r)) (nat_lt n 0xFFFF_FFFF) next).1 in
      let room : n < 0xFFFF_FFFF = grind (arith, nat_tests, test) in
      let more = pieces_numbers limit (suc n) 0 r rest (omega (arith, room)) in
      subst (λ l. n + length l ≤ 2 ^ 32) (sym (cond-true _ _ _ next)) (omega (arith, more))
  | inr not_next ↦ subst (λ l. n + length l ≤ 2 ^ 32) (sym (cond-false _ _ _ not_next)) (pieces_numbers limit n held (taken + r) rest low)
]

-- the bytes of records
pub joined_length : (rs : List (List ℕ)) → length (joined rs) ≡ sum (map length rs)
joined_length [] = refl
joined_length (r ∷ rest) = let more = joined_length rest in omega (arith, length-append r (joined rest), more, sum_cons (length r) (map length rest))
