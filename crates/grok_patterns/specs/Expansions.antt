-- What the pieces of a grok pattern stand for: a regular expression, some of whose groups are kept.
use Rattle.std.specs.Prelude.{ℕ, zero, suc, List, [], ◌∷◌, ◌++◌, length, map, nat_le, codes, bytes_eq, Bool, true, false, ◌&&◌, if◌then◌else◌, Option, Some, None, option_map, option_and_then}
use Rattle.std.specs.List.{list_any}
use Rattle.event_tree.specs.Events.{Way}
use Rattle.event_tree.specs.Paths.{over}
use Rattle.filter_settings.specs.Paths.{path_under, same_path}
use Rattle.event_text.specs.PathReading.{way_in}
use Rattle.grok_patterns.specs.Drafts.{Written}
use Rattle.grok_patterns.specs.Pieces.{pieces_of}
use Rattle.grok_patterns.specs.declared.library.TheConstants.{LIBRARY}
use Rattle.grok_patterns.specs.Scans.{start, may_open, opened}
use Rattle.grok_patterns.specs.Scans.{over as over_bytes}
use Rattle.grok_patterns.specs.declared.expansion.Capture.{Capture}
use Rattle.grok_patterns.specs.declared.expansion.Expanded.{Expanded}
use Rattle.grok_patterns.specs.declared.expansion.ExpansionRules.{ExpansionRules}
use Rattle.grok_patterns.specs.declared.piece.Coercion.{Coercion}
use Rattle.grok_patterns.specs.declared.piece.Coercion.TheVariants as coercion
use Rattle.grok_patterns.specs.declared.piece.Field.{Field}
use Rattle.grok_patterns.specs.declared.piece.PatternPiece.{PatternPiece}
use Rattle.grok_patterns.specs.declared.piece.PatternPiece.TheVariants as piece

abbrev pub nothing : Written
nothing = record { text = []; scan = start; captures = [] }

-- what was written, where it may be written
abbrev pub went : Bool → Written → Option Written
went true o = Some o
went false o = None

-- an expression has at most 65,536 bytes
abbrev pub within : Written → Option Written
within o = went (nat_le (length o.text) 65536) o

-- text of a regular expression behind what was written
abbrev pub write : List ℕ → Written → Option Written
write s o = within (record { text = o.text ++ s; scan = over_bytes s o.scan; captures = o.captures })

-- the path is one of these
abbrev pub is_among : Way → List Way → Bool
is_among w ws = list_any (same_path w) ws

abbrev pub placed : ExpansionRules → Way → Way
placed r w = over (λ t. path_under t w) w r.target

abbrev pub capture_of : ExpansionRules → Way → Coercion → ℕ → Capture
capture_of r w k n = record { group = n; path = placed r w; coercion = k; overwrites = is_among (placed r w) r.overwrite }

-- the `(` of a group that is kept: its number is how many groups with a number have begun
abbrev pub keep : ExpansionRules → Way → Coercion → Written → Option Written
keep r w k o = within (record { text = o.text ++ codes "("; scan = opened o.scan; captures = o.captures ++ capture_of r w k (opened o.scan).groups ∷ [] })

-- the group of a reference: one without a number, or one that is kept, where a group may begin
abbrev pub begin_group : ExpansionRules → Option Field → Written → Option Written
begin_group r None o = write (codes "(?:") o
begin_group r (Some f) o = if may_open o.scan then keep r f.path f.coercion o else None

abbrev pub written_name : List ℕ → List ℕ
written_name name = (codes "(?<" ++ name) ++ codes ">"

-- a group that was written with a name; where no group may begin it stays as written
abbrev pub open_named : ExpansionRules → List ℕ → Written → Option Written
open_named r name o = if may_open o.scan then over (λ w. keep r w coercion.Text o) None (way_in name) else write (written_name name) o

-- what a name stands for: the first that has it
abbrev pub pieces_named : List ℕ → List (List ℕ × List PatternPiece) → Option (List PatternPiece)
pieces_named name [] = None
pieces_named name (p ∷ ps) = if bytes_eq p.0 name then Some p.1 else pieces_named name ps

-- the pieces that a reference stands for, once its group has begun
abbrev pub begun : ExpansionRules → List ℕ → Option Field → Written → Option (List PatternPiece × Written)
begun r name f o = option_and_then (λ ps. option_map (λ o. (ps, o)) (begin_group r f o)) (pieces_named name r.known)

-- one after another, where each may be written
abbrev pub all_added : {X : Type 0} → (X → Written → Option Written) → List X → Written → Option Written
all_added f [] o = Some o
all_added f (x ∷ xs) o = option_and_then (all_added f xs) (f x o)

-- the pieces that a name stands for, and the `)` behind them
abbrev pub closed : (List PatternPiece → Written → Option Written) → List PatternPiece × Written → Option Written
closed inner b = option_and_then (write (codes ")")) (inner b.0 b.1)

-- a piece, where names stand in each other at most so deep
abbrev pub added : ExpansionRules → ℕ → PatternPiece → Written → Option Written
added r n (piece.Written s) o = write s o
added r n (piece.Group name) o = open_named r name o
added r n piece.Unreadable o = None
added r zero (piece.Reference name f) o = None
added r (suc n) (piece.Reference name f) o = option_and_then (closed (all_added (added r n))) (begun r name f o)

abbrev pub finished : Written → Expanded
finished o = record { text = o.text; captures = o.captures }

-- the regular expression that a grok pattern stands for. Names stand in each other at most 250 deep: a name that needs itself does so without end, and a
-- regular expression whose groups stand deeper than that is none
unfoldable pub expanded : ExpansionRules → List PatternPiece → Option Expanded
expanded r ps = option_map finished (all_added (added r 250) ps nothing)

-- a name with the pieces of its pattern
abbrev pub read : Bool → List ℕ × List ℕ → List ℕ × List PatternPiece
read all_kept p = (p.0, pieces_of all_kept p.1)

-- the names and patterns of the library
abbrev pub library : List (List ℕ × List ℕ)
library = map (λ p. (p.0.now, p.1.now)) LIBRARY

-- the patterns that are known: those that are defined, and then those of the library
unfoldable pub known_patterns : Bool → List (List ℕ × List ℕ) → List (List ℕ × List PatternPiece)
known_patterns all_kept definitions = map (read all_kept) definitions ++ map (read all_kept) library
