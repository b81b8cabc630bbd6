-- Which files a path names, and what they give one after another.
use Rattle.std.proofs.Common.{◌≡◌, ◌<◌, ◌≤◌, ◌+◌, ◌-◌, length, take, drop, get_or, true, false, true≢false, ℕ, suc, List, [], ◌∷◌, ◌++◌, IsTrue, Bool, if◌then◌else◌, map, Result, Ok, Err, IfOk, sym, ap, ◌∙◌, subst, arith}
use Rattle.std.proofs.lemmas.List.{drop_more, map-append}
use Rattle.std.proofs.lemmas.List.{take_all}
use Rattle.std.proofs.lemmas.List.Elements.{filter-append}
use Rattle.std.specs.List.{filter}
use Rattle.in_file.specs.Matching.{stands_for}
use Rattle.in_file.specs.Watching.{IsSplit, has_star, paths_of}
use Rattle.byte_lines.specs.Text.{text_of}
use Rattle.io_traits.specs.Counts.{Rose, one_more}
use Rattle.io_traits.specs.Folders.{Content, Lists}
use Rattle.io_traits.specs.declared.files.Files.{Ghosts as FilesWords}
use Rattle.logstash_top.specs.declared.config_files.TextFault.{TextFault}
use Rattle.logstash_top.specs.declared.config_files.TextFault.TheVariants as text
use Rattle.logstash_top.specs.Texts.{IsMissing, IsNamed, IsPathText, Shown, bytes_shown, file_shown, files_behind, text_shown, with_file, with_shown}

-- one name more
pub matching_more : (folder last name : List ℕ) (names : List (List ℕ)) → paths_of folder last (name ∷ names) ≡ paths_of folder last (name ∷ []) ++ paths_of folder last names
matching_more folder last name names =
    ap (λ ns. map (λ n. folder ++ n) ns) (filter-append (stands_for last) (name ∷ []) names)
    ∙ map-append (λ n. folder ++ n) (filter (stands_for last) (name ∷ [])) (filter (stands_for last) names)

-- an answer by that of another call
pub ok_by : {A E F : Type 0} (result : Result A E) (other : Result A F) (is says : A → Type 0) → IfOk result (λ x. other ≡ Ok x) → IfOk other is → ((x : A) → is x → says x) → IfOk result says
ok_by (Ok x) other is says same all f = f x (subst (λ r. IfOk r is) same all)
ok_by (Err e) other is says same all f = tt

module _ {P : Type 0} (files : FilesWords P) where
  -- of a path without `*`
  pub one_named : (path folder last : List ℕ) (paths : List (List ℕ)) (f : P) → IsSplit path folder last → has_star last ≡ false → paths ≡ (folder ++ last) ∷ [] → IsNamed files path f (files.calls f) paths
  one_named path folder last paths f splits none is = record {
    folder = folder;
    last = last;
    splits = splits;
    names = [];
    are = is ∙ ap (λ (b : Bool). if b then paths_of folder last [] else (folder ++ last) ∷ []) (sym none);
    listed = λ some. absurd (true≢false (sym some ∙ none));
    calls = ap (λ (b : Bool). if b then one_more (files.calls f) else files.calls f) (sym none);
  }

  -- and with one
  pub names_named : (path folder last : List ℕ) (names paths : List (List ℕ)) (old new : P) → IsSplit path folder last → has_star last ≡ true → paths ≡ paths_of folder last names
      → (IsTrue files.tells → Lists (files.shows old (files.calls old)) folder names) → files.calls new ≡ one_more (files.calls old) → IsNamed files path old (files.calls new) paths
  names_named path folder last names paths old new splits some is listed calls = record {
    folder = folder;
    last = last;
    splits = splits;
    names = names;
    are = is ∙ ap (λ (b : Bool). if b then paths_of folder last names else (folder ++ last) ∷ []) (sym some);
    listed = λ _. listed;
    calls = calls ∙ ap (λ (b : Bool). if b then one_more (files.calls old) else files.calls old) (sym some);
  }

-- with one file more the same comes
module _ (shows : ℕ → Content) (front : List ℕ) (call : ℕ) (paths : List (List ℕ)) (i : ℕ) (d : List ℕ) (path : List ℕ) (within : i < length paths) (is : path ≡ get_or paths i d) where
  cut_more : drop i paths ≡ path ∷ drop (i + 1) paths
  cut_more = drop_more paths i d within ∙ ap (λ p. p ∷ drop (i + 1) paths) (sym is)

  pub file_more : (bytes : List ℕ) → with_file front (file_shown shows call path) ≡ Ok bytes → files_behind shows front call (drop i paths) ≡ files_behind shows bytes (one_more (one_more call)) (drop (i + 1) paths)
  file_more bytes read = ap (files_behind shows front call) cut_more ∙ ap (with_shown (λ b. files_behind shows b (one_more (one_more call)) (drop (i + 1) paths))) read

  pub file_gone : (fault : TextFault) → IsMissing (file_shown shows call path) fault → IsMissing (files_behind shows front call (drop i paths)) fault
  file_gone (text.NoFile missing) gone = ap (files_behind shows front call) cut_more ∙ ap (λ f. with_shown (λ b. files_behind shows b (one_more (one_more call)) (drop (i + 1) paths)) (with_file front f)) gone
  file_gone text.Failed gone = tt
  file_gone text.Memory gone = tt

  pub goes_on : (bytes : List ℕ) → with_file front (file_shown shows call path) ≡ Ok bytes → (next : ℕ → Content) → next ≡ shows → (later : ℕ) → later ≡ one_more (one_more call) → (whole : Shown) → files_behind shows front call (drop i paths) ≡ whole
      → files_behind next bytes later (drop (i + 1) paths) ≡ whole
  goes_on bytes read next same later calls whole is = (λ k. files_behind (same k) bytes (calls k) (drop (i + 1) paths)) ∙ sym (file_more bytes read) ∙ is

module _ {P : Type 0} (files : FilesWords P) (path : List ℕ) (old mid new : P) (paths : List (List ℕ)) (first : List ℕ) (others : List (List ℕ)) (named : IsNamed files path old (files.calls mid) paths) (same : IsTrue files.tells → files.shows mid ≡ files.shows old)
    (are : paths ≡ first ∷ others) where
  shown_as : IsTrue files.tells → (bytes : Shown) → bytes_shown (files.shows mid) (files.calls mid) first others ≡ bytes → text_shown (files.shows old) path (files.calls mid) paths ≡ with_shown (λ b. Ok (text_of b)) bytes
  shown_as told bytes is =
      ap (λ s. text_shown s path (files.calls mid) paths) (sym (same told)) ∙ ap (text_shown (files.shows mid) path (files.calls mid)) are ∙ ap (with_shown (λ b. Ok (text_of b))) is

  -- the text of files that a path names
  pub path_text : (bytes found : List ℕ) → (IsTrue files.tells → bytes_shown (files.shows mid) (files.calls mid) first others ≡ Ok bytes) → found ≡ text_of bytes → IsPathText files path old new (Ok found)
  path_text bytes found read is = record { call = files.calls mid; paths = paths; named = named; same = λ told. sym (shown_as told (Ok bytes) (read told) ∙ ap (λ t. Ok t) (sym is)) }

  -- and why there is none
  pub path_missing : (fault : TextFault) → (IsTrue files.tells → IsMissing (bytes_shown (files.shows mid) (files.calls mid) first others) fault) → (fault ≡ text.Failed → Rose (files.faults old) (files.faults new)) → IsPathText files path old new (Err fault)
  path_missing (text.NoFile missing) gone failed = record { call = files.calls mid; paths = paths; named = named; same = λ told. sym (shown_as told (Err missing) (gone told)) }
  path_missing text.Failed gone failed = failed (λ i. text.Failed)
  path_missing text.Memory gone failed = tt

-- a list with a first item
pub with_first : (xs : List (List ℕ)) (first : List ℕ) (d : List ℕ) → 1 ≤ length xs → first ≡ get_or xs 0 d → xs ≡ first ∷ take (length xs - 1) (drop 1 xs)
with_first [] first d some is = absurd (omega (arith, some))
with_first (x ∷ xs) first d some is =
    let long : length xs ≤ suc (length xs) - 1 = omega arith in
    ap (λ l. x ∷ l) (sym (take_all (suc (length xs) - 1) xs long)) ∙ ap (λ f. f ∷ take (suc (length xs) - 1) xs) (sym is)
