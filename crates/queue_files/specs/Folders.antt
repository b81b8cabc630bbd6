-- The files of a queue's folder, by what each is for, and their names (this project's tables).
use Rattle.std.specs.Prelude.{◌≡◌, ℕ, ◌+◌, nat_lt, List, ◌++◌, replicate, codes, Option, if◌then◌else◌}
use Rattle.std.specs.Fmt.{decimal}
use Rattle.io_traits.specs.Images.{Image}

-- the checkpoint of the head page, the page of a number, and the checkpoint of a page below the head
pub data Role : Type 0 where
  head : Role
  page : ℕ → Role
  checkpoint : ℕ → Role

-- the bytes of each file, or none where it is missing
abbrev pub Folder : Type 0
Folder = Role → Option (List ℕ)

-- ---- names

abbrev pub Names : Type 0
Names = Role → List ℕ

-- no two files have one name
abbrev pub AreApart : Names → Type 0
AreApart names = (a b : Role) → names a ≡ names b → a ≡ b

-- the files of these names in an image
abbrev pub folder_in : Names → Image → Folder
folder_in names i role = (i (names role)).file

-- A number in a name. From 2^32 on, where no file is named, only that each number has a text of its own matters.
abbrev pub number_text : ℕ → List ℕ
number_text n = if nat_lt n 0x1_0000_0000 then decimal n else replicate (n + 1) 46

-- the names in a folder, whose path ends with a slash
abbrev pub names_in : List ℕ → Names
names_in folder head = folder ++ (codes "checkpoint." ++ codes "head")
names_in folder (page n) = folder ++ (codes "page." ++ number_text n)
names_in folder (checkpoint n) = folder ++ (codes "checkpoint." ++ number_text n)

-- the name of a file of the folder
abbrev pub IsOwn : Names → List ℕ → Type 0
IsOwn names name = (role : Role) × (name ≡ names role)
