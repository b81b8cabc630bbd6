-- The places to which an output delivers.
use Rattle.std.specs.Prelude.{ℕ, List, [], ◌∷◌, map, not, if◌then◌else◌, codes, bytes_eq, Option, Some, None, option_and_then}
use Rattle.std.specs.List.{filter}
use Rattle.event_tree.specs.Paths.{over}
use Rattle.config_tree.specs.Joining.{Entries}
use Rattle.config_tree.specs.Readers.{value_at}
use Rattle.config_tree.specs.declared.tree.Plugin.{Plugin}
use Rattle.filter_settings.specs.Readers.{text_of, texts_of}
use Rattle.foreign_parts.specs.declared.place.Place.{Place}
use Rattle.foreign_parts.specs.declared.place.Place.TheVariants as place

-- the numbers of the boxes that were drawn for the boxed outputs of a configuration, by the ids of these
abbrev pub Draws : Type 0
Draws = List (List ℕ × ℕ)

abbrev pub drawn_for : List ℕ → Draws → Option ℕ
drawn_for id [] = None
drawn_for id (d ∷ draws) = if bytes_eq d.0 id then Some d.1 else drawn_for id draws

-- each text once, where it stands first
abbrev pub once : List (List ℕ) → List (List ℕ)
once [] = []
once (s ∷ ss) = s ∷ filter (λ other. not (bytes_eq s other)) (once ss)

abbrev file_places : Entries → List Place
file_places es = over (λ path. place.File path ∷ []) [] (option_and_then text_of (value_at (codes "path") es))

abbrev address_places : Entries → List Place
address_places es = over (λ addresses. map place.Address (once addresses)) [] (option_and_then texts_of (value_at (codes "send_to") es))

abbrev foreign_places : Option ℕ → List Place
foreign_places number = over (λ n. place.Foreign n ∷ []) [] number

-- the places of an output by its name: stdout, the file of its path, each address that it sends to, nowhere for a sink, and else the box that was drawn for its id
abbrev pub places_of : Draws → List ℕ → Plugin → List Place
places_of draws id p = if bytes_eq p.name (codes "stdout") then place.Stdout ∷ []
    else (if bytes_eq p.name (codes "file") then file_places p.settings.list
    else (if bytes_eq p.name (codes "pipeline") then address_places p.settings.list
    else (if bytes_eq p.name (codes "sink") then place.Discard ∷ []
    else foreign_places (drawn_for id draws))))
