-- One field, and one put, more.
use Rattle.std.proofs.Common.{◌≡◌, ℕ, ◌+◌, ◌<◌, ◌≤◌, List, [], ◌∷◌, length, drop, get_or, slice_get, Option, Some, Bool, true, false, if◌then◌else◌, Ok, Err, true≢false, refl, sym, ap, ◌∙◌, arith}
use Rattle.std.proofs.lemmas.Option.{slice_get-get_or, get_or_from_slice_get}
use Rattle.event_tree.specs.Events.{Ev, Way}
use Rattle.event_tree.specs.Paths.{over}
use Rattle.event_text.proofs.Going.{front, behind_end}
use Rattle.filter_settings.specs.Trying.{Tried, tried, all_tried, then_try}
use Rattle.filters_grok.specs.Grok.{searched, field_searched, found_in, behind_match, ends, matched_by_now}
use Rattle.filters_grok.specs.declared.grok.Searched.{Searched}
use Rattle.filters_grok.specs.declared.grok.Searched.TheVariants as x
use Rattle.filters_grok.specs.Searching.{put_in}
use Rattle.grok_patterns.specs.declared.expansion.Expanded.{Expanded}
use Rattle.filters_grok.specs.declared.grok_pattern.Put.{Put}
use Rattle.filters_grok.specs.declared.searching.SearchOptions.{SearchOptions}

abbrev Field : Type 0
Field = Way × List Expanded

field_at : (fs : List Field) (i : ℕ) → i < length fs → Field
field_at [] i below = absurd (omega arith)
field_at (f ∷ fs) i below = f

abbrev behind_if : Bool → (Ev → Tried) → Tried → Tried
behind_if t more (Ok e) = if t then Ok e else more e
behind_if t more (Err e) = Err e

abbrev ends_if : Bool → Searched → Bool
ends_if t x.Missed = false
ends_if t x.Failed = true
ends_if t x.Matched = t

ends_there : (t : Bool) (r : Searched) (more : Ev → Tried) (missed : Tried) (e' : Ev) → ends_if t r ≡ true → tried (matched_by_now false r) e' ≡ over (behind_if t more) missed (found_in r e')
ends_there t x.Missed more missed e' is = absurd (true≢false (sym is))
ends_there t x.Failed more missed e' is = refl
ends_there true x.Matched more missed e' is = refl
ends_there false x.Matched more missed e' is = absurd (true≢false (sym is))

goes_on_there : (t : Bool) (r : Searched) (m : Bool) (next : Bool → Ev → Tried) (e e' : Ev) → ends_if t r ≡ false → (r ≡ x.Missed → e' ≡ e) → next (matched_by_now m r) e' ≡ over (behind_if t (next true)) (next m e) (found_in r e')
goes_on_there t x.Missed m next e e' is same = ap (next m) (same refl)
goes_on_there t x.Failed m next e e' is same = absurd (true≢false is)
goes_on_there true x.Matched m next e e' is same = absurd (true≢false is)
goes_on_there false x.Matched m next e e' is same = refl

test_same : (how : SearchOptions) (r : Searched) → ends_if how.ends r ≡ ends how r
test_same how x.Missed = refl
test_same how x.Failed = refl
test_same how x.Matched = refl

behind_same : (how : SearchOptions) (r : Searched) (more : Ev → Tried) (missed : Tried) (e' : Ev) → over (behind_if how.ends more) missed (found_in r e') ≡ over (behind_match how more) missed (found_in r e')
behind_same how x.Missed more missed e' = refl
behind_same how x.Failed more missed e' = refl
behind_same how x.Matched more missed e' = refl

module _ (how : SearchOptions) (fs : List Field) (i : ℕ) (m : Bool) (e e' e0 : Ev) (found : Searched) (below : i < length fs)
    (so_far : searched how (drop i fs) m e ≡ searched how fs false e0) (done : (f : Field) → slice_get fs i ≡ Some f → found_in found e' ≡ field_searched how f e) where
  abbrev after : Option Tried → Tried
  after r = over (behind_match how (searched how (drop (i + 1) fs) true)) (searched how (drop (i + 1) fs) m e) r

  here : after (found_in found e') ≡ searched how fs false e0
  here =
      let d = field_at fs i below in
      let f = get_or fs i d in
      let same : f ≡ get_or fs i f = sym (get_or_from_slice_get fs i f f (slice_get-get_or fs i d below)) in
      ap after (done f (slice_get-get_or fs i d below)) ∙ ap (λ ys. searched how ys m e) (sym (front fs i f below same)) ∙ so_far

  pub field_ends : ends how found ≡ true → tried (matched_by_now false found) e' ≡ searched how fs false e0
  field_ends is = ends_there how.ends found (searched how (drop (i + 1) fs) true) (searched how (drop (i + 1) fs) m e) e' (test_same how found ∙ is) ∙ behind_same how found (searched how (drop (i + 1) fs) true) (searched how (drop (i + 1) fs) m e) e' ∙ here

  pub field_goes_on : ends how found ≡ false → (found ≡ x.Missed → e' ≡ e) → searched how (drop (i + 1) fs) (matched_by_now m found) e' ≡ searched how fs false e0
  field_goes_on is same = goes_on_there how.ends found m (searched how (drop (i + 1) fs)) e e' (test_same how found ∙ is) same ∙ behind_same how found (searched how (drop (i + 1) fs) true) (searched how (drop (i + 1) fs) m e) e' ∙ here

pub fields_end : (how : SearchOptions) (fs : List Field) (i : ℕ) (m : Bool) (e e0 : Ev) → length fs ≤ i → searched how (drop i fs) m e ≡ searched how fs false e0 → tried m e ≡ searched how fs false e0
fields_end how fs i m e e0 end so_far = ap (λ ys. searched how ys m e) (sym (behind_end fs i end)) ∙ so_far

module _ (ps : List Expanded) (left : List Put) (e : Ev) (whole : Tried) (so_far : all_tried (put_in ps) left e ≡ whole) where
  pub put_more : (p : Put) (rest : List Put) (e' : Ev) → left ≡ p ∷ rest → Ok e' ≡ put_in ps p e → all_tried (put_in ps) rest e' ≡ whole
  put_more p rest e' is done = ap (then_try (all_tried (put_in ps) rest)) done ∙ ap (λ ys. all_tried (put_in ps) ys e) (sym is) ∙ so_far

  pub put_fails : (p : Put) (rest : List Put) (e' : Ev) → left ≡ p ∷ rest → Err e' ≡ put_in ps p e → Err e' ≡ whole
  put_fails p rest e' is done = ap (then_try (all_tried (put_in ps) rest)) done ∙ ap (λ ys. all_tried (put_in ps) ys e) (sym is) ∙ so_far

  pub put_end : left ≡ [] → Ok e ≡ whole
  put_end none = ap (λ ys. all_tried (put_in ps) ys e) (sym none) ∙ so_far
