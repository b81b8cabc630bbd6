-- Files by their names, and what is in a folder.
use Rattle.std.specs.Prelude.{◌≡◌, ◌≢◌, ◌↔◌, ℕ, ◌-◌, List, [], ◌∷◌, ◌++◌, length, Option, IsSome, unwrap_or, nat_eq, slice_get, Contains, Bool, IsTrue, if◌then◌else◌}
use Rattle.plain_data.specs.Keys.{Ascends}
use Rattle.io_traits.specs.Counts.{one_more}

-- what reads give: of each name the bytes of its file, or that there is no such file
abbrev pub Content : Type 0
Content = List ℕ → Option (List ℕ)

-- the last part of a name: bytes that aren't none, without a slash
pub record IsPart (part : List ℕ) : Type 0 where
  pub some : part ≢ []
  pub plain : Contains part 47 → ⊥

-- what names in a folder begin with: the folder and a slash; nothing more where it ends with a slash or is empty
abbrev pub folder_start : List ℕ → List ℕ
folder_start folder = if nat_eq (unwrap_or (slice_get folder (length folder - 1)) 47) 47 then folder else folder ++ 47 ∷ []

-- the last parts of the names of the files in a folder, each once, in byte order
pub record Lists (content : Content) (folder : List ℕ) (names : List (List ℕ)) : Type 0 where
  pub ascends : Ascends names
  pub each : (part : List ℕ) → Contains names part ↔ (IsPart part × IsSome (content (folder_start folder ++ part)))

-- one call more was made, and each call sees what it saw
pub record IsOneCall {S : Type 0} (tells : Bool) (shows : S → ℕ → Content) (calls_of : S → ℕ) (old new : S) : Type 0 where
  pub shown : IsTrue tells → shows new ≡ shows old
  pub calls : calls_of new ≡ one_more (calls_of old)
