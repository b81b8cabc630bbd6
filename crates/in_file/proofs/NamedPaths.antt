-- Paths as folders and names, and which of them are watched.
use Rattle.std.proofs.Common.{◌≡◌, ◌⊎◌, ◌<◌, ◌≤◌, ◌+◌, ◌-◌, ◌==◌, inl, inr, ℕ, zero, suc, true, false, true≢false, IsTrue, List, [], ◌∷◌, ◌++◌, length, map, take, drop, get_or, refl, sym, ap, ◌∙◌, subst, arith}
use Rattle.std.proofs.lemmas.Str.{IsCharBoundary-start, IsCharBoundary-after_ascii}
use Rattle.std.specs.Str.{IsCharBoundary, IsUtf8}
use Rattle.std.proofs.lemmas.List.{take-append-drop, take_more, map-append}
use Rattle.std.proofs.lemmas.List.Elements.{filter-append}
use Rattle.std.specs.List.{list_any, filter}
use Rattle.in_file.specs.Matching.{stands_for}
use Rattle.io_traits.specs.Folders.{IsOneCall, Lists}
use Rattle.io_traits.specs.declared.files.Files.{Ghosts as FilesWords}
use Rattle.in_file.specs.Watching.{IsSplit, AreWatched, has_star, is_free, free_of, paths_of, watched_of}

-- the byte before a place
byte_before : (path : List ℕ) (n : ℕ) → (0 < suc n → get_or path (suc n - 1) 0 ≡ 47) → get_or path n 0 ≡ 47
byte_before path n slash = let same : suc n - 1 ≡ n = omega arith in ap (λ k. get_or path k 0) (sym same) ∙ slash (omega arith)

ends_by : (path : List ℕ) (start : ℕ) → start ≤ length path → (0 < start → get_or path (start - 1) 0 ≡ 47) → (take start path ≡ []) ⊎ ((front : List ℕ) × (take start path ≡ front ++ 47 ∷ []))
ends_by path zero within slash = inl refl
ends_by path (suc n) within slash =
    let same : suc n ≡ n + 1 = omega arith in
    inr (take n path, ap (λ k. take k path) same ∙ take_more path n 0 (omega (arith, within)) ∙ ap (λ b. take n path ++ b ∷ []) (byte_before path n slash))

split_so : (path : List ℕ) (start : ℕ) → start ≤ length path → list_any (λ b. b == 47) (drop start path) ≡ false → (0 < start → get_or path (start - 1) 0 ≡ 47) → IsSplit path (take start path) (drop start path)
split_so path start within plain slash = record { whole = sym (take-append-drop start path); plain = plain; ends = ends_by path start within slash }

pub split_of_bytes : (path bytes folder last : List ℕ) (start : ℕ) → bytes ≡ path → start ≤ length bytes → list_any (λ b. b == 47) (drop start bytes) ≡ false → (0 < start → get_or bytes (start - 1) 0 ≡ 47)
    → folder ≡ take start path → last ≡ drop start path → IsSplit path folder last
split_of_bytes path bytes folder last start is within plain slash folder_is last_is =
    subst (λ p. IsSplit p folder last) is
    (subst (λ f. IsSplit bytes f last) (ap (take start) is ∙ sym folder_is) (subst (λ l. IsSplit bytes (take start bytes) l) (ap (drop start) is ∙ sym last_is) (split_so bytes start within plain slash)))

-- a text may be cut behind its last slash
pub cut_at : (path : List ℕ) (start : ℕ) → IsUtf8 path → start ≤ length path → (0 < start → get_or path (start - 1) 0 ≡ 47) → IsCharBoundary path start
cut_at path zero utf8 within slash = IsCharBoundary-start path utf8
cut_at path (suc n) utf8 within slash =
    let same : n + 1 ≡ suc n = omega arith in
    let byte = byte_before path n slash in
    subst (IsCharBoundary path) same (IsCharBoundary-after_ascii path n utf8 (omega (arith, within)) (omega (arith, byte)))

-- one name more
pub named_more : (earlier : List (List ℕ)) (folder last name : List ℕ) (names : List (List ℕ))
    → free_of earlier (paths_of folder last (name ∷ names)) ≡ free_of earlier (paths_of folder last (name ∷ [])) ++ free_of earlier (paths_of folder last names)
named_more earlier folder last name names =
    ap (λ ns. filter (is_free earlier) (map (λ n. folder ++ n) ns)) (filter-append (stands_for last) (name ∷ []) names)
    ∙ ap (filter (is_free earlier)) (map-append (λ n. folder ++ n) (filter (stands_for last) (name ∷ [])) (filter (stands_for last) names))
    ∙ filter-append (is_free earlier) (paths_of folder last (name ∷ [])) (paths_of folder last names)

module _ {F : Type 0} (files : FilesWords F) where
  -- of a path without `*`
  pub one_watched : (path folder last : List ℕ) (earlier paths : List (List ℕ)) (f : F) → IsSplit path folder last → has_star last ≡ false → paths ≡ watched_of earlier folder last [] → AreWatched files path earlier f f paths
  one_watched path folder last earlier paths f splits none is = record {
    folder = folder;
    last = last;
    splits = splits;
    names = [];
    are = is;
    listed = λ some. absurd (true≢false (sym some ∙ none));
    unasked = λ _. refl;
  }

  -- and with one
  pub names_watched : (path folder last : List ℕ) (earlier names paths : List (List ℕ)) (old new : F) → IsSplit path folder last → has_star last ≡ true → paths ≡ watched_of earlier folder last names
      → (IsTrue files.tells → Lists (files.shows old (files.calls old)) folder names) → IsOneCall files.tells files.shows files.calls old new → AreWatched files path earlier old new paths
  names_watched path folder last earlier names paths old new splits some is listed call = record {
    folder = folder;
    last = last;
    splits = splits;
    names = names;
    are = is;
    listed = λ _. (listed, call);
    unasked = λ none. absurd (true≢false (sym some ∙ none));
  }
