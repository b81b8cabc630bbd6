-- The links that a configuration takes out of a rack, and that go back.
use Rattle.std.specs.Prelude.{◌≡◌, ℕ, List, [], ◌∷◌, ◌++◌, true, Option, Some, None, Ok, Err}
use Rattle.config_tree.specs.declared.tree.Plugin.{Plugin}
use Rattle.filter_settings.specs.Settings.{Made}
use Rattle.foreign_parts.specs.Links.{is_out, link_of, put}
use Rattle.foreign_parts.specs.declared.links.LinkPlace.{LinkPlace}
use Rattle.pipeline_bus.specs.declared.link.LinkTaker.{LinkTaker}
use Rattle.plugin_settings.specs.Read.{input_of}
use Rattle.plugin_settings.specs.declared.read.Input.{Input}
use Rattle.plugin_settings.specs.declared.read.Input.TheVariants as i
use Rattle.graph_checks.specs.Inputs.{http_address, letters_address}

-- the address of an input, where something outside of the pipelines sends on it
abbrev pub outside_address : Input → List (List ℕ)
outside_address (i.Stdin s) = []
outside_address (i.Generator g) = []
outside_address (i.File f) = []
outside_address (i.Tcp t) = []
outside_address (i.Http h) = http_address h.port ∷ []
outside_address (i.Pipeline a) = []
outside_address (i.DeadLetters d) = letters_address d.pipeline_id ∷ []

abbrev pub outside_read : Made (Option Input) → List (List ℕ)
outside_read (Ok (Some input)) = outside_address input
outside_read (Ok None) = []
outside_read (Err fault) = []

-- the addresses from outside of inputs, in the order of the text
abbrev pub outside_of : List Plugin → List (List ℕ)
outside_of [] = []
outside_of (p ∷ ps) = outside_read (input_of p.name p.settings.list) ++ outside_of ps

-- links, each with its address
abbrev pub Linked : Type 0
Linked = List (List ℕ × LinkTaker)

abbrev pub one_there : List ℕ → Option LinkTaker → Linked
one_there a (Some t) = (a, t) ∷ []
one_there a None = []

-- the links of these addresses that lie in their places, taken one after another
abbrev pub links_there : List (List ℕ) → List LinkPlace → Linked
links_there [] ps = []
links_there (a ∷ addresses) ps = one_there a (link_of a ps) ++ links_there addresses (put a None ps)

-- the places once they are taken
abbrev pub all_taken : List (List ℕ) → List LinkPlace → List LinkPlace
all_taken [] ps = ps
all_taken (a ∷ addresses) ps = all_taken addresses (put a None ps)

-- the places once these links are back, of which the last goes back first
abbrev pub links_back : Linked → List LinkPlace → List LinkPlace
links_back [] ps = ps
links_back (l ∷ ls) ps = put l.0 (Some l.1) (links_back ls ps)

-- each of these links may go back, the last of them first
abbrev pub LinksMayGoBack : Linked → List LinkPlace → Type 0
LinksMayGoBack [] ps = Unit {0}
LinksMayGoBack (l ∷ ls) ps = LinksMayGoBack ls ps × (is_out l.0 (links_back ls ps) ≡ true)
