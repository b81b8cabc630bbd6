-- An input that is assured, all of its files or the first few: its room for rows, its position files and its connections.
use Rattle.std.proofs.Common.{◌≡◌, ◌≤◌, ℕ, zero, suc, Bool, true, false, nat_eq, nat_le, not, if◌then◌else◌, Option, Some, None, IfSome, List, [], ◌∷◌, ◌++◌, length, map, take, drop, refl, sym, ap, ap₂, ◌∙◌, subst, arith}
use Rattle.event_tree.specs.Events.{Ev}
use Rattle.in_file.specs.Views.{Watched}
use Rattle.line_inputs.specs.Openings.{slots_of}
use Rattle.line_inputs.specs.Rows.{Noted, assured as file_assured, reached, recorded, rows_above}
use Rattle.line_inputs.specs.Sources.{AssuredInPart, LastHasRoom, assured, connections_of, files_of}
use Rattle.line_inputs.specs.Watching.{FirstHasRoom}
use Rattle.line_inputs.specs.declared.source.InputSource.{InputSource}
use Rattle.line_inputs.specs.declared.source.InputSource.TheVariants.{Stdin, Generated, Files, Connections}
use Rattle.line_inputs.specs.declared.watched_file.RowPlace.{RowPlace}

-- ---- room for rows

-- there is still room for the row of an event that is held
pub kept_room : (held : Option Ev) (s after : InputSource) → (LastHasRoom s → LastHasRoom after) → IfSome held (λ _. LastHasRoom s) → IfSome held (λ _. LastHasRoom after)
kept_room None s after keeps room = tt
kept_room (Some event) s after keeps room = keeps room

module _ (front : ℕ) where
  fewer_rows : (rows : List RowPlace) → length (rows_above front rows) ≤ length rows
  fewer_rows [] = omega arith
  fewer_rows (r ∷ rows) = by (not (nat_le r.number front)) (fewer_rows rows)
    where
      by : (b : Bool) → length (rows_above front rows) ≤ length rows → length (if b then r ∷ rows_above front rows else rows_above front rows) ≤ suc (length rows)
      by true less = omega (arith, less)
      by false less = omega (arith, less)

  room_in_all : (files : List Noted) (at : ℕ) → FirstHasRoom (drop at files) → FirstHasRoom (drop at (map (file_assured front) files))
  room_in_all [] at room = room
  room_in_all (n ∷ files) zero room = omega (arith, room, fewer_rows n.rows)
  room_in_all (n ∷ files) (suc at) room = room_in_all files at room

  room_in_part : (files : List Noted) (done at : ℕ) → FirstHasRoom (drop at files) → FirstHasRoom (drop at (map (file_assured front) (take done files) ++ drop done files))
  room_in_part files zero at room = room
  room_in_part [] (suc done) at room = room
  room_in_part (n ∷ files) (suc done) zero room = omega (arith, room, fewer_rows n.rows)
  room_in_part (n ∷ files) (suc done) (suc at) room = room_in_part files done at room

  last_room : (s : InputSource) → LastHasRoom s → LastHasRoom (assured front s)
  last_room (Stdin s) room = tt
  last_room (Generated g) room = tt
  last_room (Files w) room = room_in_all w.files w.given_at room
  last_room (Connections t) room = tt

  pub part_room : (s after : InputSource) → AssuredInPart front s after → LastHasRoom s → LastHasRoom after
  part_room (Stdin s) after part room = subst LastHasRoom (sym part) tt
  part_room (Generated g) after part room = subst LastHasRoom (sym part) tt
  part_room (Files w) after part room =
      subst LastHasRoom (sym part.2)
      (subst (λ at. FirstHasRoom (drop at part.0.files)) (sym (ap (λ v. v.given_at) part.1.1))
      (subst (λ fs. FirstHasRoom (drop w.given_at fs)) (sym part.1.0.after_is) (room_in_part w.files part.1.0.done w.given_at room)))
  part_room (Connections t) after part room = subst LastHasRoom (sym part) tt

  -- ---- position files

  slot_by : (same : Bool) (w moved : Watched) → moved.slot ≡ w.slot → (if same then w else moved).slot ≡ w.slot
  slot_by true w moved is = refl
  slot_by false w moved is = is

  recorded_slot : (place : Option ℕ) (w : Watched) → (recorded place w).slot ≡ w.slot
  recorded_slot None w = refl
  recorded_slot (Some place) w = slot_by (nat_eq place w.position) w _ refl

  slots_same : (files : List Noted) → slots_of (map (file_assured front) files) ≡ slots_of files
  slots_same [] = refl
  slots_same (n ∷ files) = ap₂ (λ x xs. x ∷ xs) (recorded_slot (reached front n) n.watched) (slots_same files)

  slots_assured : (s : InputSource) → slots_of (files_of (assured front s)) ≡ slots_of (files_of s)
  slots_assured (Stdin s) = refl
  slots_assured (Generated g) = refl
  slots_assured (Files w) = slots_same w.files
  slots_assured (Connections t) = refl

  -- ---- connections

  connections_assured : (s : InputSource) → connections_of (assured front s) ≡ connections_of s
  connections_assured (Stdin s) = refl
  connections_assured (Generated g) = refl
  connections_assured (Files w) = refl
  connections_assured (Connections t) = refl

  pub part_connections : (s after : InputSource) → AssuredInPart front s after → connections_of after ≡ connections_of s
  part_connections (Stdin s) after part = ap connections_of part
  part_connections (Generated g) after part = ap connections_of part
  part_connections (Files w) after part = ap connections_of part.2
  part_connections (Connections t) after part = ap connections_of part

  -- ---- of what an assurance left

  pub all_room : (s after : InputSource) → after ≡ assured front s → LastHasRoom s → LastHasRoom after
  all_room s after is room = subst LastHasRoom (sym is) (last_room s room)

  pub all_slots : (s after : InputSource) → after ≡ assured front s → slots_of (files_of after) ≡ slots_of (files_of s)
  all_slots s after is = ap (λ x. slots_of (files_of x)) is ∙ slots_assured s

  pub all_connections : (s after : InputSource) → after ≡ assured front s → connections_of after ≡ connections_of s
  all_connections s after is = ap connections_of is ∙ connections_assured s
