-- Which files an input watches whose path may have `*` in its last part (this project's rules for inputs).
use Rattle.std.specs.Prelude.{◌≡◌, ◌⊎◌, ◌==◌, ◌&&◌, ℕ, Bool, true, false, not, nat_le, List, [], ◌∷◌, ◌++◌, length, map, IsTrue, if◌then◌else◌}
use Rattle.std.specs.List.{filter, list_any}
use Rattle.std.specs.Str.{bytes_eq}
use Rattle.io_traits.specs.Folders.{IsOneCall, Lists}
use Rattle.io_traits.specs.declared.files.Files.{Ghosts as FilesWords}
use Rattle.in_file.specs.Matching.{stands_for}
use Rattle.slot_files.specs.Names.{position_name}
use Rattle.slot_files.specs.declared.name.PositionOf.TheVariants.{Input}

-- a path as what stands up to its last slash, and its last part
pub record IsSplit (path folder last : List ℕ) : Type 0 where
  pub whole : path ≡ folder ++ last
  pub plain : list_any (λ b. b == 47) last ≡ false
  pub ends : (folder ≡ []) ⊎ ((front : List ℕ) × (folder ≡ front ++ 47 ∷ []))

abbrev pub has_star : List ℕ → Bool
has_star part = list_any (λ b. b == 42) part

-- how many bytes the name of a position file has at most
abbrev pub name_limit : ℕ
name_limit = 250

-- no earlier input watches the file, and the name of its position file isn't too long
abbrev pub is_free : List (List ℕ) → List ℕ → Bool
is_free earlier path = not (list_any (bytes_eq path) earlier) && nat_le (length (position_name Input path)) name_limit

-- of the names in a folder those for which the last part of a path stands, as paths
abbrev pub paths_of : List ℕ → List ℕ → List (List ℕ) → List (List ℕ)
paths_of folder last names = map (λ name. folder ++ name) (filter (stands_for last) names)

-- those of some paths that are free
abbrev pub free_of : List (List ℕ) → List (List ℕ) → List (List ℕ)
free_of earlier paths = filter (is_free earlier) paths

-- the files that are watched, in the order of the names
abbrev pub watched_of : List (List ℕ) → List ℕ → List ℕ → List (List ℕ) → List (List ℕ)
watched_of earlier folder last names = free_of earlier (if has_star last then paths_of folder last names else (folder ++ last) ∷ [])

module _ {F : Type 0} (files : FilesWords F) where
  -- these are the files that an input of this path watches, beside the earlier ones
  pub record AreWatched (path : List ℕ) (earlier : List (List ℕ)) (old new : F) (paths : List (List ℕ)) : Type 0 where
    pub folder : List ℕ
    pub last : List ℕ
    pub splits : IsSplit path folder last
    pub names : List (List ℕ)
    pub are : paths ≡ watched_of earlier folder last names
    -- with `*`, the files were asked once, for the names in the folder
    pub listed : has_star last ≡ true → (IsTrue files.tells → Lists (files.shows old (files.calls old)) folder names) × IsOneCall files.tells files.shows files.calls old new
    -- and without they weren't
    pub unasked : has_star last ≡ false → new ≡ old
