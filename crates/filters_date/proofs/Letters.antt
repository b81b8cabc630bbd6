-- What a format of letters holds, one step further.
use Rattle.std.proofs.Common.{◌≡◌, ℕ, zero, suc, ◌+◌, ◌<◌, ◌≤◌, ◌==◌, ◌||◌, not, Bool, true, false, if◌then◌else◌, List, [], ◌∷◌, ◌++◌, drop, length, Option, Some, None, option_map, option_and_then, add-one, refl, sym, ap, ◌∙◌, arith}
use Rattle.std.proofs.Common.{append-nil, append_assoc}
use Rattle.event_text.specs.DateFormats.{is_letter}
use Rattle.event_times.specs.declared.item.TimeItem.{TimeItem}
use Rattle.event_times.specs.declared.item.TimeItem.TheVariants as item
use Rattle.filters_date.specs.Formats.{items_behind, letters_item, run_length, onto, is_plain}

-- the items that were read, and those that are to come
abbrev pub with_front : List TimeItem → Option (List TimeItem) → Option (List TimeItem)
with_front front more = option_map (λ is. front ++ is) more

pub skipped : (k : ℕ) (quoted : Bool) (s : List ℕ) → items_behind k quoted s ≡ items_behind 0 quoted (drop k s)
unfolding items_behind
skipped zero quoted s = refl
skipped (suc k) quoted [] = refl
skipped (suc k) quoted (b ∷ s) = skipped k quoted s

onto_front : (front : List TimeItem) (i : TimeItem) (more : Option (List TimeItem)) → with_front front (onto i more) ≡ with_front (front ++ i ∷ []) more
onto_front front i None = refl
onto_front front i (Some is) = ap Some (sym (append_assoc front (i ∷ []) is))

pub at_end : (front : List TimeItem) (quoted : Bool) (s : List ℕ) → length s ≡ 0 → with_front front (items_behind 0 quoted s) ≡ (if quoted then None else Some front)
unfolding items_behind
at_end front true [] none = refl
at_end front false [] none = ap Some (append-nil front)
at_end front quoted (b ∷ s) none = absurd (omega arith)

module _ (front : List TimeItem) (quoted : Bool) (b : ℕ) (s t : List ℕ) (here : s ≡ b ∷ t) where
  pub at_quote : (b == 39) ≡ true → with_front front (items_behind 0 quoted s) ≡ with_front front (items_behind 0 (not quoted) t)
  unfolding items_behind
  at_quote is = rw (here, is) refl

  pub at_plain : (b == 39) ≡ false → is_plain quoted b ≡ true
      → with_front front (items_behind 0 quoted s) ≡ with_front (front ++ item.Plain b ∷ []) (items_behind 0 quoted t)
  unfolding items_behind
  at_plain other plain = rw (here, other, plain) (onto_front front (item.Plain b) (items_behind 0 quoted t))

  pub at_letters : (b == 39) ≡ false → is_plain quoted b ≡ false → (i : TimeItem) → letters_item b (run_length b t + 1) ≡ Some i
      → with_front front (items_behind 0 quoted s) ≡ with_front (front ++ i ∷ []) (items_behind 0 quoted (drop (run_length b t) t))
  unfolding items_behind
  at_letters other letter i is =
      let known : letters_item b (suc (run_length b t)) ≡ Some i = ap (letters_item b) (sym (add-one (run_length b t))) ∙ is in
      rw (here, other, letter, known) (onto_front front i (items_behind (run_length b t) quoted t) ∙ ap (with_front (front ++ i ∷ [])) (skipped (run_length b t) quoted t))

  pub at_no_item : (b == 39) ≡ false → is_plain quoted b ≡ false → letters_item b (run_length b t + 1) ≡ None
      → with_front front (items_behind 0 quoted s) ≡ None
  unfolding items_behind
  at_no_item other letter none =
      let known : letters_item b (suc (run_length b t)) ≡ None = ap (letters_item b) (sym (add-one (run_length b t))) ∙ none in
      rw (here, other, letter, known) refl
