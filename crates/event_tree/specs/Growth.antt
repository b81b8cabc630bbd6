-- How a put changes the length of the encoding.
use Rattle.std.specs.Prelude.{◌≡◌, ℕ, ◌+◌, true, List, [], ◌∷◌, length, Option, Some, None, option_map, option_and_then, slice_get, ⊤}
use Rattle.plain_data.specs.Members.{get_member}
use Rattle.event_tree.specs.Paths.{list_place, over, wrap_size}
use Rattle.event_tree.specs.Sizes.{size, less}
use Rattle.event_tree.specs.Sound.{are_texts}
use Rattle.event_tree.specs.declared.value.Value.{Value, out-Value}
use Rattle.event_tree.specs.declared.value.Value.TheOpen.{Value-F}

abbrev pub growth_in : List ℕ → (Value → Option (ℕ × ℕ)) → ℕ → Value-F Value → Option (ℕ × ℕ)
growth_in p deeper fresh Value-F.Null = None
growth_in p deeper fresh (Value-F.Bool b) = None
growth_in p deeper fresh (Value-F.Num n) = None
growth_in p deeper fresh (Value-F.Text s) = None
growth_in p deeper fresh (Value-F.Time t) = None
growth_in p deeper fresh (Value-F.List vs) = option_and_then (λ i. over deeper (Some (0, fresh)) (slice_get vs i)) (list_place p (length vs))
growth_in p deeper fresh (Value-F.Object ms) = over deeper (Some (0, 4 + length p + fresh)) (get_member p ms)

-- the bytes that a put takes away, and those that it adds besides the value's own; none where it has no way
abbrev pub growth : List (List ℕ) → Value → Option (ℕ × ℕ)
growth [] old = Some (size old, 0)
growth (p ∷ ps) old = growth_in p (growth ps) (wrap_size ps) (out-Value old)

-- the room for a value at the end of the parts, where there is so much beside all that stands; none in it where that is too little
abbrev pub room_at_end : ℕ → List (List ℕ) → Value → Option (Option ℕ)
room_at_end room ps old = option_map (λ change. less (room + change.0) change.1) (growth ps old)

-- where there is room, all parts are UTF-8
abbrev pub TextsWhereRoom : Option (Option ℕ) → List (List ℕ) → Type 0
TextsWhereRoom None ps = ⊤
TextsWhereRoom (Some None) ps = ⊤
TextsWhereRoom (Some (Some free)) ps = are_texts ps ≡ true
