-- What was told since a line was opened, behind a step.
use Rattle.std.proofs.Common.{◌≡◌, ℕ, zero, suc, List, [], ◌∷◌, ◌++◌, refl, sym, ap, ◌∙◌, subst, append-nil, append_assoc}
use Rattle.event_tree.specs.declared.lists.DeadPart.{DeadPart}
use Rattle.settings_lines.specs.declared.settings.Policy.{Policy}
use Rattle.event_flow.specs.Meaning.{Makes}
use Rattle.dead_letters.specs.Appends.{kept_from}
use Rattle.dead_letters.specs.declared.shedding.Shedding.{Shedding}
use Rattle.foreign_parts.specs.declared.place.Place.TheVariants as place
use Rattle.queue_files.specs.Found.{Row}
use Rattle.history_book.specs.Contents.{Bytes}
use Rattle.history_book.specs.Entries.{Entry, Shed, Deliver, Letters, Opened}
use Rattle.history_book.specs.Legal.{rejections}
use Rattle.history_book.specs.Links.{Listening}
use Rattle.history_book.specs.Lists.{IsIn}
use Rattle.history_book.specs.Sound.{Places}
use Rattle.history_book.specs.Steps.{NoOpening}
use Rattle.history_book.proofs.Lists.{in_front}
use Rattle.line_machine.specs.Effects.{shed_told, letters_told}
use Rattle.line_machine.specs.Since.{since_behind, since, of_each}
use Rattle.line_machine.specs.Steps as m
use Rattle.line_machine.specs.Steps.{Step, effect}
use Rattle.line_machine.specs.Views.{LineView}

-- ---- no opening

pub both_unopened : (told more : List Entry) → NoOpening told → NoOpening more → NoOpening (told ++ more)
both_unopened [] more none rest = rest
both_unopened (Opened rows limit policy ∷ told) more none rest = absurd none
both_unopened (e ∷ told) more none rest = both_unopened told more none rest

pub letters_unopened : (n older : ℕ) (newer : List ℕ) (letters : List DeadPart) (rest : List Entry) → NoOpening rest → NoOpening ((shed_told n older newer ++ Letters n letters ∷ []) ++ rest)
letters_unopened n zero [] letters rest none = none
letters_unopened n zero (x ∷ newer) letters rest none = none
letters_unopened n (suc older) newer letters rest none = none

shed_unopened : (n older : ℕ) (newer : List ℕ) (rest : List Entry) → NoOpening rest → NoOpening (shed_told n older newer ++ rest)
shed_unopened n zero [] rest none = none
shed_unopened n zero (x ∷ newer) rest none = none
shed_unopened n (suc older) newer rest none = none

module _ (makes : Makes) (listening : Listening) (bytes : Bytes) {places : Places} (i : LineView places) where
  -- no step tells one
  pub unopened : (x : Step makes listening bytes i) → NoOpening (effect makes listening bytes i x).told
  unopened (m.Tells n parts rest h a) = shed_unopened n a.shed.older a.shed.newer (Letters n (kept_from a.shed.newer 0 parts) ∷ []) tt
  unopened (m.Is_rejected n id number events rest h fates fit some a) =
      letters_unopened n a.shed.older a.shed.newer (kept_from a.shed.newer 0 (rejections h.batch.plan.config id fates events)) (Deliver n (place.Foreign number) events fates ∷ []) tt
  unopened x = tt

-- ---- further entries

tail_since : (found more : List Entry) → NoOpening more → since_behind found more ≡ found ++ more
tail_since found [] none = sym (append-nil found)
tail_since found (Opened rows limit policy ∷ more) none = absurd none
tail_since found (e ∷ more) none = tail_since (found ++ e ∷ []) more none ∙ append_assoc found (e ∷ []) more

more_behind : (found told more : List Entry) → NoOpening more → since_behind found (told ++ more) ≡ since_behind found told ++ more
more_behind found [] more none = tail_since found more none
more_behind found (Opened rows limit policy ∷ told) more none = more_behind [] told more none
more_behind found (e ∷ told) more none = more_behind (found ++ e ∷ []) told more none

opened_behind : (found told : List Entry) (rows : List Row) (limit : ℕ) (policy : Policy) (more : List Entry) → NoOpening more → since_behind found (told ++ Opened rows limit policy ∷ more) ≡ more
opened_behind found [] rows limit policy more none = tail_since [] more none
opened_behind found (Opened r l p ∷ told) rows limit policy more none = opened_behind [] told rows limit policy more none
opened_behind found (e ∷ told) rows limit policy more none = opened_behind (found ++ e ∷ []) told rows limit policy more none

pub since_more : (told more : List Entry) → NoOpening more → since (told ++ more) ≡ since told ++ more
since_more told more none = more_behind [] told more none

pub since_opened : (told : List Entry) (rows : List Row) (limit : ℕ) (policy : Policy) (more : List Entry) → NoOpening more → since (told ++ Opened rows limit policy ∷ more) ≡ more
since_opened told rows limit policy more none = opened_behind [] told rows limit policy more none

pub in_since : (e : Entry) (told more : List Entry) → NoOpening more → IsIn e (since told) → IsIn e (since (told ++ more))
in_since e told more none has = subst (IsIn e) (sym (since_more told more none)) (in_front e (since told) more has)

-- ---- what each of them tells of something

module _ {X : Type 0} (f : Entry → List X) where
  each_both : (xs ys : List Entry) → of_each f (xs ++ ys) ≡ of_each f xs ++ of_each f ys
  each_both [] ys = refl
  each_both (x ∷ xs) ys = ap (λ l. f x ++ l) (each_both xs ys) ∙ sym (append_assoc (f x) (of_each f xs) (of_each f ys))

  pub told_more : (told more : List Entry) → NoOpening more → of_each f (since (told ++ more)) ≡ of_each f (since told) ++ of_each f more
  told_more told more none = ap (of_each f) (since_more told more none) ∙ each_both (since told) more

  pub told_none : (told more : List Entry) → NoOpening more → of_each f more ≡ [] → of_each f (since (told ++ more)) ≡ of_each f (since told)
  told_none told more none nothing = told_more told more none ∙ ap (λ l. of_each f (since told) ++ l) nothing ∙ append-nil (of_each f (since told))

  pub opened_each : (told : List Entry) (rows : List Row) (limit : ℕ) (policy : Policy) (more : List Entry) → NoOpening more → of_each f (since (told ++ Opened rows limit policy ∷ more)) ≡ of_each f more
  opened_each told rows limit policy more none = ap (of_each f) (since_opened told rows limit policy more none)

  -- where letters tell nothing of it
  module _ (on_shed : (n older : ℕ) (newer : List ℕ) → f (Shed n older newer) ≡ []) (on_letters : (n : ℕ) (letters : List DeadPart) → f (Letters n letters) ≡ []) where
    shed_each : (n older : ℕ) (newer : List ℕ) (rest : List Entry) → of_each f (shed_told n older newer ++ rest) ≡ of_each f rest
    shed_each n zero [] rest = refl
    shed_each n zero (x ∷ newer) rest = ap (λ l. l ++ of_each f rest) (on_shed n zero (x ∷ newer))
    shed_each n (suc older) newer rest = ap (λ l. l ++ of_each f rest) (on_shed n (suc older) newer)

    pub letters_each : (n : ℕ) (shed : Shedding) (parts : List DeadPart) → of_each f (letters_told n shed parts) ≡ []
    letters_each n shed parts =
        shed_each n shed.older shed.newer (Letters n (kept_from shed.newer 0 parts) ∷ []) ∙ ap (λ l. l ++ []) (on_letters n (kept_from shed.newer 0 parts))

    pub rejected_each : (n : ℕ) (shed : Shedding) (parts : List DeadPart) (e : Entry) → of_each f (letters_told n shed parts ++ e ∷ []) ≡ f e ++ []
    rejected_each n shed parts e = each_both (letters_told n shed parts) (e ∷ []) ∙ ap (λ l. l ++ (f e ++ [])) (letters_each n shed parts)
