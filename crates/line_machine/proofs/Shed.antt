-- What is shed of letters: places that rise, each of one of them, and only as the policy allows.
use Rattle.std.proofs.Common.{◌≡◌, ⊎_elim, inl, inr, ℕ, suc, ◌+◌, ◌≤◌, nat_le, Bool, true, false, List, [], ◌∷◌, length, drop, if◌then◌else◌, refl, sym, ap, ◌∙◌, subst, arith}
use Rattle.std.specs.List.{sum}
use Rattle.std.proofs.lemmas.Bool.{cases_Bool}
use Rattle.std.proofs.lemmas.List.{length-map}
use Rattle.event_tree.specs.Events.{Ev}
use Rattle.event_tree.specs.declared.lists.DeadPart.{DeadPart}
use Rattle.config_tree.specs.declared.tree.Config.{Config}
use Rattle.settings_lines.specs.declared.settings.Policy.{Policy}
use Rattle.settings_lines.specs.declared.settings.Policy.TheVariants.{Hold, DropNewer, DropOlder}
use Rattle.foreign_parts.specs.Delivering.{AreFates}
use Rattle.foreign_parts.specs.declared.output.Fate.{Fate}
use Rattle.foreign_parts.specs.declared.output.Fate.TheVariants as f
use Rattle.dead_letters.specs.Found.{Held}
use Rattle.dead_letters.specs.Shedding.{shedding, older, not_kept, shed}
use Rattle.dead_letters.specs.declared.shedding.Shedding.{Shedding}
use Rattle.dead_letters.proofs.Sheds.{sheds_none, sheds}
use Rattle.history_book.specs.Contents.{Clock, Appended, part_of}
use Rattle.history_book.specs.Legal.{rejections, AreRejections, AreStatuses, MayShedBy}
use Rattle.history_book.specs.Lists.{Rise, AreBelow}
use Rattle.history_book.specs.States.{Limits}

rise_from : (a b : ℕ) → a ≤ b → (ns : List ℕ) → Rise b ns → Rise a ns
rise_from a b less [] rise = tt
rise_from a b less (n ∷ ns) rise = let first = rise.0 in (omega (arith, less, first), rise.1)

pub below_more : (a b : ℕ) → a ≤ b → (ns : List ℕ) → AreBelow a ns → AreBelow b ns
below_more a b less [] below = tt
below_more a b less (n ∷ ns) below = let first = below.0 in (omega (arith, less, first), below_more a b less ns below.1)

module _ (limit : ℕ) where
  pub places_rise : (used at : ℕ) (rs : List ℕ) → Rise at (not_kept limit used at rs)
  places_rise used at [] = tt
  places_rise used at (r ∷ rs) = by_test (places_rise (used + r) (suc at) rs) (places_rise used (suc at) rs) (nat_le (used + r) limit)
    where
      by_test : Rise (suc at) (not_kept limit (used + r) (suc at) rs) → Rise (suc at) (not_kept limit used (suc at) rs) → (b : Bool)
          → Rise at (if b then not_kept limit (used + r) (suc at) rs else at ∷ not_kept limit used (suc at) rs)
      by_test kept left true = rise_from at (suc at) (omega arith) _ kept
      by_test kept left false = (omega arith, left)

  pub places_below : (used at : ℕ) (rs : List ℕ) → AreBelow (at + length rs) (not_kept limit used at rs)
  places_below used at [] = tt
  places_below used at (r ∷ rs) = by_test (places_below (used + r) (suc at) rs) (places_below used (suc at) rs) (nat_le (used + r) limit)
    where
      by_test : AreBelow (suc at + length rs) (not_kept limit (used + r) (suc at) rs) → AreBelow (suc at + length rs) (not_kept limit used (suc at) rs) → (b : Bool)
          → AreBelow (at + suc (length rs)) (if b then not_kept limit (used + r) (suc at) rs else at ∷ not_kept limit used (suc at) rs)
      by_test kept left true = below_more (suc at + length rs) (at + suc (length rs)) (omega arith) _ kept
      by_test kept left false = (omega arith, below_more (suc at + length rs) (at + suc (length rs)) (omega arith) _ left)

-- what may be shed of so many letters
pub record IsShedOf (policy : Policy) (count : ℕ) (s : Shedding) : Type 0 where
  pub rise : Rise 0 s.newer
  pub below : AreBelow count s.newer
  pub newer_alone : policy ≡ DropNewer → s.older ≡ 0

older_none : (policy : Policy) (limit added : ℕ) (segments : List ℕ) → policy ≡ DropNewer → older policy limit added segments ≡ 0
older_none policy limit added segments is = ap (λ (p : Policy). older p limit added segments) is

shed_is : (policy : Policy) (limit : ℕ) (segments records : List ℕ) → IsShedOf policy (length records) (shed policy limit segments records)
shed_is policy limit segments records =
    ⊎_elim
    (λ (fits : nat_le (sum segments + sum records) limit ≡ true).
    subst (IsShedOf policy (length records)) (sheds_none policy limit segments records fits) (record { rise = tt; below = tt; newer_alone = λ is. refl }))
    (λ (over : nat_le (sum segments + sum records) limit ≡ false).
    let k = older policy limit (sum records) segments in
    subst (IsShedOf policy (length records)) (sheds policy limit segments records over k refl)
    (record { rise = places_rise limit (sum (drop k segments)) 0 records; below = below_more (0 + length records) (length records) (omega arith) _ (places_below limit (sum (drop k segments)) 0 records); newer_alone = older_none policy limit (sum records) segments }))
    (cases_Bool (nat_le (sum segments + sum records) limit))

module _ (limits : Limits) (clock : Clock) (s : Shedding) (parts : List DeadPart) (old new : Held) (a : Appended limits clock s parts old new) where
  pub appended_is : IsShedOf limits.policy (length parts) s
  appended_is =
      subst (λ (n : ℕ). IsShedOf limits.policy n s) (length-map a.letters _ ∙ sym (length-map a.letters part_of) ∙ ap length a.parts_are)
      (subst (IsShedOf limits.policy _) (sym a.shed_is) (shed_is limits.policy limits.limit _ _))

  -- where something is shed, the policy allows it
  pub allowed : (s ≡ shedding 0 [] → ⊥) → MayShedBy limits.policy s.older
  allowed some = by_policy limits.policy refl
    where
      by_policy : (p : Policy) → limits.policy ≡ p → MayShedBy p s.older
      by_policy Hold is = some (a.none_held_back is)
      by_policy DropNewer is = appended_is.newer_alone is
      by_policy DropOlder is = tt

-- ---- letters of rejected events

pub rejections_are : (config : Config) (id : List ℕ) (fates : List Fate) (es : List Ev) → AreFates fates es → AreStatuses fates → AreRejections config id (rejections config id fates es) es
rejections_are config id [] es fates_are statuses = tt
rejections_are config id (x ∷ fates) [] fates_are statuses = tt
rejections_are config id (f.Took ∷ fates) (e ∷ es) fates_are statuses = later (rejections config id fates es) (rejections_are config id fates es fates_are statuses.1)
  where
    later : (ls : List DeadPart) → AreRejections config id ls es → AreRejections config id ls (e ∷ es)
    later [] are = tt
    later (l ∷ ls) are = inr are
rejections_are config id (f.Rejected status text ∷ fates) (e ∷ es) fates_are statuses = inl (
  record { status = status; text = text; may = record { status_fits = statuses.0; text_fits = fates_are.0 }; is = refl },
  rejections_are config id fates es fates_are.1 statuses.1,
)

pub rejections_few : (config : Config) (id : List ℕ) (fates : List Fate) (es : List Ev) → length (rejections config id fates es) ≤ length es
rejections_few config id [] es = omega arith
rejections_few config id (x ∷ fates) [] = omega arith
rejections_few config id (f.Took ∷ fates) (e ∷ es) = let most = rejections_few config id fates es in omega (arith, most)
rejections_few config id (f.Rejected status text ∷ fates) (e ∷ es) = let most = rejections_few config id fates es in omega (arith, most)
