-- Changes of one file in a table.
use Rattle.std.proofs.Common.{◌≡◌, ◌≢◌, ℕ, Bool, true, false, List, Option, Some, None, option_map, Result, Ok, Err, OnOk, OnErr, if◌then◌else◌, refl, sym, ◌∙◌, ap, subst}
use Rattle.std.proofs.lemmas.Bool.{false≢true}
use Rattle.plain_data.specs.Keys.{same_key}
use Rattle.plain_data.specs.Members.{set_member, insert_member, remove_member, Rises}
use Rattle.plain_data.proofs.ChangeLemmas.{same_key-decides, get_member-set_member, get_member-set_member-other, get_member-insert_member, get_member-insert_member-other, get_member-remove_member, get_member-remove_member-other}
use Rattle.plain_data.proofs.KeyLemmas.{same_key-other}
use Rattle.io_memory.specs.Tables.{Table, content_of, Changed, IsSame}

-- a name is this one, or another
name_cases : {P : Type 0} (name n : List ℕ) → (name ≡ n → same_key name n ≡ true → P) → ((name ≡ n → ⊥) → same_key name n ≡ false → P) → P
name_cases {P = P} name n one other = go (same_key name n) refl
  where
    go : (b : Bool) → same_key name n ≡ b → P
    go true is = one ((same_key-decides name n).0 is) is
    go false is = other (λ same. false≢true (sym is ∙ (same_key-decides name n).1 same)) is

-- by what stands at the name, and at each other
pub changed_by : (name : List ℕ) (change : Option (List ℕ) → Option (List ℕ)) (old new : Table) → content_of new name ≡ change (content_of old name) → ((n : List ℕ) → name ≢ n → content_of new n ≡ content_of old n)
    → Changed name change old new
changed_by name change old new here there = record {
  each = λ n. name_cases name n
      (λ same is. subst (λ b. content_of new n ≡ (if b then change (content_of old n) else content_of old n)) (sym is) (subst (λ m. content_of new m ≡ change (content_of old m)) same here))
      (λ differ is. subst (λ b. content_of new n ≡ (if b then change (content_of old n) else content_of old n)) (sym is) (there n differ));
}

pub set_changed : (name : List ℕ) (change : Option (List ℕ) → Option (List ℕ)) (old : Table) (before after : List ℕ) → content_of old name ≡ Some before → change (Some before) ≡ Some after
    → Changed name change old (set_member name after old)
set_changed name change old before after stood is =
    changed_by name change old (set_member name after old)
    (get_member-set_member name after old ∙ ap (option_map (λ _. after)) stood ∙ sym is ∙ ap change (sym stood))
    (λ n other. get_member-set_member-other name n other after old)

pub insert_changed : (name : List ℕ) (change : Option (List ℕ) → Option (List ℕ)) (old : Table) (after : List ℕ) → change (content_of old name) ≡ Some after
    → Changed name change old (insert_member name after old)
insert_changed name change old after is =
    changed_by name change old (insert_member name after old) (get_member-insert_member name after old ∙ sym is) (λ n other. get_member-insert_member-other name n other after old)

pub remove_changed : (name : List ℕ) (old : Table) → Rises old → Changed name (λ _. None) old (remove_member name old)
remove_changed name old rises =
    changed_by name (λ _. None) old (remove_member name old) (get_member-remove_member name old rises) (λ n other. get_member-remove_member-other name n other old)

-- a missing file that stays so
pub missing_changed : (name : List ℕ) (change : Option (List ℕ) → Option (List ℕ)) (old : Table) → change (content_of old name) ≡ content_of old name → Changed name change old old
missing_changed name change old is = changed_by name change old old (sym is) (λ n other. refl)

-- what stood there, written back
pub set_same : (name : List ℕ) (old : Table) (before : List ℕ) → content_of old name ≡ Some before → IsSame old (set_member name before old)
set_same name old before stood = record {
  each = λ n. name_cases name n
      (λ same is. subst (λ m. content_of (set_member name before old) m ≡ content_of old m) same (get_member-set_member name before old ∙ ap (option_map (λ _. before)) stood ∙ sym stood))
      (λ differ is. get_member-set_member-other name n differ before old);
}

-- what stood there, changed in its place, by a call that may fail
pub set_on : {E : Type 0} (name : List ℕ) (change : Option (List ℕ) → Option (List ℕ)) (old : Table) (before after : List ℕ) (result : Result (Unit {0}) E) → Some before ≡ content_of old name
    → OnOk result (change (Some before) ≡ Some after) → OnOk result (Changed name change old (set_member name after old))
set_on name change old before after (Ok u) stood is = set_changed name change old before after (sym stood) is
set_on name change old before after (Err e) stood is = tt

pub kept_on : {E : Type 0} (name : List ℕ) (old : Table) (before after : List ℕ) (result : Result (Unit {0}) E) → Some before ≡ content_of old name → OnErr result (after ≡ before) → OnErr result (IsSame old (set_member name after old))
kept_on name old before after (Ok u) stood is = tt
kept_on name old before after (Err e) stood is = subst (λ b. IsSame old (set_member name b old)) (sym is) (set_same name old before (sym stood))

pub on_ok : {E P Q : Type 0} (result : Result (Unit {0}) E) → (P → Q) → OnOk result P → OnOk result Q
on_ok (Ok u) so p = so p
on_ok (Err e) so p = tt

-- a file made where there was none
pub made_at : (name key : List ℕ) (change : Option (List ℕ) → Option (List ℕ)) (old new : Table) (value : List ℕ) → None ≡ content_of old name → key ≡ name → new ≡ insert_member key value old → change None ≡ Some value
    → Changed name change old new
made_at name key change old new value missing is inserted made =
    subst (Changed name change old) (ap (λ k. insert_member k value old) (sym is) ∙ sym inserted) (insert_changed name change old value (ap change (sym missing) ∙ made))

pub on_err : {T E P : Type 0} (result : Result T E) → P → OnErr result P
on_err (Ok x) p = tt
on_err (Err e) p = p

-- the same change, by what it makes of the file that is there
pub changed_as : (name : List ℕ) (change other : Option (List ℕ) → Option (List ℕ)) (old new : Table) → change (content_of old name) ≡ other (content_of old name) → Changed name change old new → Changed name other old new
changed_as name change other old new is changed = changed_by name other old new
    (changed.each name ∙ ap (λ b. if b then change (content_of old name) else content_of old name) ((same_key-decides name name).1 refl) ∙ is)
    (λ n differ. changed.each n ∙ ap (λ b. if b then change (content_of old n) else content_of old n) (same_key-other name n differ))

pub changed_on : {E : Type 0} (name : List ℕ) (change other : Option (List ℕ) → Option (List ℕ)) (old new : Table) (result : Result (Unit {0}) E) → change (content_of old name) ≡ other (content_of old name) → OnOk result (Changed name change old new)
    → OnOk result (Changed name other old new)
changed_on name change other old new (Ok u) is changed = changed_as name change other old new is changed
changed_on name change other old new (Err e) is changed = tt
