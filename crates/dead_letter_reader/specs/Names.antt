-- Names by the folder of a queue of dead letters, whose path ends with a slash.
use Rattle.std.specs.Prelude.{ℕ, ◌==◌, List, [], ◌∷◌, ◌++◌, codes, unwrap_or, if◌then◌else◌}
use Rattle.std.specs.Path.{path_file_name}

-- a path without the slash at its end
abbrev pub without_slash : List ℕ → List ℕ
without_slash [] = []
without_slash (b ∷ []) = if b == 47 then [] else b ∷ []
without_slash (b ∷ c ∷ bs) = b ∷ without_slash (c ∷ bs)

-- the file of the place up to which letters were answered; it stands in a folder of its own, beside that of the queue
abbrev pub place_file : List ℕ → List ℕ
place_file folder = without_slash folder ++ codes ".dlq/dlq.pos"

-- the address that letters are sent to: the last part of the path is the id of the pipeline
abbrev pub address_of : List ℕ → List ℕ
address_of folder = codes "dlq:" ++ unwrap_or (path_file_name folder) []
