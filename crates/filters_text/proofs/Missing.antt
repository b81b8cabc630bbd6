-- Characters that are missing in a text are missing in what is left of it.
use Rattle.std.proofs.Common.{◌≡◌, ℕ, ◌==◌, ◌&&◌, ◌||◌, not, if◌then◌else◌, Bool, true, false, List, [], ◌∷◌, ◌++◌, drop, Option, Some, None, option_map, refl, sym, ap, subst, ◌∙◌}
use Rattle.std.specs.Char.{char_set_contains}
use Rattle.std.specs.List.{list_any}
use Rattle.std.specs.Option.{option_and_then}
use Rattle.std.proofs.lemmas.Bool.{eqb-true}
use Rattle.filters_text.specs.Pairs.{since, behind, behind_one, closing, cut_at, enclosed, are_missing}

abbrev Missing : List ℕ → List ℕ → Type 0
Missing us cs = are_missing us cs ≡ true

both : (a b : Bool) → a ≡ true → b ≡ true → (a && b) ≡ true
both a b p q = rw (p, q) refl

either_off : (a b : Bool) → not (a || b) ≡ true → not b ≡ true
either_off true b is = absurd (cc is)
either_off false b is = is

parts_of : (a b : Bool) → (a && b) ≡ true → (a ≡ true) × (b ≡ true)
parts_of true b is = (refl, is)
parts_of false b is = absurd (cc is)

pub missing_tail : (us : List ℕ) (c : ℕ) (cs : List ℕ) → Missing us (c ∷ cs) → Missing us cs
missing_tail [] c cs is = refl
missing_tail (u ∷ us) c cs is =
    let apart = parts_of (not (char_set_contains (c ∷ cs) u)) (are_missing us (c ∷ cs)) is in
    both _ _ (either_off (c == u) (char_set_contains cs u) apart.0) (missing_tail us c cs apart.1)

pub missing_nil : (us : List ℕ) → Missing us []
missing_nil [] = refl
missing_nil (u ∷ us) = missing_nil us

module _ (us set : List ℕ) where
  since_by : (t : Bool) (c : ℕ) (cs : List ℕ) → Missing us (c ∷ cs) → Missing us (since set cs) → Missing us (if t then c ∷ cs else since set cs)
  since_by true c cs is more = is
  since_by false c cs is more = more

  pub missing_since : (cs : List ℕ) → Missing us cs → Missing us (since set cs)
  missing_since [] is = is
  missing_since (c ∷ cs) is = since_by (char_set_contains set c) c cs is (missing_since cs (missing_tail us c cs is))

  behind_by : (t : Bool) (c : ℕ) (cs : List ℕ) → Missing us (c ∷ cs) → Missing us (behind set cs) → Missing us (if t then behind set cs else c ∷ cs)
  behind_by true c cs is more = more
  behind_by false c cs is more = is

  pub missing_behind : (cs : List ℕ) → Missing us cs → Missing us (behind set cs)
  missing_behind [] is = is
  missing_behind (c ∷ cs) is = behind_by (char_set_contains set c) c cs is (missing_behind cs (missing_tail us c cs is))

  -- what stands behind the first of the characters that split, once those in front are passed over
  pub missing_next : (cs : List ℕ) → Missing us (drop 1 cs) → Missing us (behind set (since set cs))
  missing_next [] is = missing_nil us
  missing_next (c ∷ cs) is = by (char_set_contains set c) refl
    where
      by : (t : Bool) → char_set_contains set c ≡ t → Missing us (behind set (if t then c ∷ cs else since set cs))
      by true here = rw here (missing_behind cs is)
      by false here = missing_behind (since set cs) (missing_since cs is)

pub missing_first : (us : List ℕ) (cs : List ℕ) → Missing us cs → Missing us (drop 1 cs)
missing_first us [] is = is
missing_first us (c ∷ cs) is = missing_tail us c cs is

abbrev behind_of : Option (List ℕ × List ℕ) → List ℕ
behind_of None = []
behind_of (Some p) = p.1

missing_cut_by : (us : List ℕ) (e c : ℕ) (cs a b : List ℕ) (t : Bool) (o : Option (List ℕ × List ℕ)) → ((x y : List ℕ) → o ≡ Some (x, y) → Missing us y)
    → if◌then◌else◌ {A = Option (List ℕ × List ℕ)} t (Some ([], cs)) (option_map (λ p. (c ∷ p.0, p.1)) o) ≡ Some (a, b) → Missing us cs → Missing us b
missing_cut_by us e c cs a b true o more same is = subst (Missing us) (ap behind_of same) is
missing_cut_by us e c cs a b false None more same is = absurd (cc same)
missing_cut_by us e c cs a b false (Some (x, y)) more same is = subst (Missing us) (ap behind_of same) (more x y refl)

pub missing_cut : (us : List ℕ) (e : ℕ) (cs : List ℕ) (a b : List ℕ) → cut_at e cs ≡ Some (a, b) → Missing us cs → Missing us b
missing_cut us e [] a b here is = absurd (cc here)
missing_cut us e (c ∷ cs) a b here is =
    let rest = missing_tail us c cs is in
    missing_cut_by us e c cs a b (c == e) (cut_at e cs) (λ x y inside. missing_cut us e cs x y inside rest) here rest

missing_enclosed_by : (us : List ℕ) (cs a b : List ℕ) (o : Option ℕ) → option_and_then (λ e. cut_at e cs) o ≡ Some (a, b) → Missing us cs → Missing us b
missing_enclosed_by us cs a b None here is = absurd (cc here)
missing_enclosed_by us cs a b (Some e) here is = missing_cut us e cs a b here is

pub missing_enclosed : (us : List ℕ) (cs a b : List ℕ) → enclosed cs ≡ Some (a, b) → Missing us (drop 1 cs) → Missing us b
missing_enclosed us [] a b here is = absurd (cc here)
missing_enclosed us (c ∷ cs) a b here is = missing_enclosed_by us cs a b (closing c) here is

one_by : (us : List ℕ) (v cs : List ℕ) (t : Bool) → if◌then◌else◌ {A = Option (List ℕ)} t (Some cs) None ≡ Some v → Missing us cs → Missing us v
one_by us v cs true here is = let same : cs ≡ v = cc here in subst (Missing us) same is
one_by us v cs false here is = absurd (cc here)

pub missing_one : (us set cs v : List ℕ) → behind_one set cs ≡ Some v → Missing us cs → Missing us v
missing_one us set [] v here is = absurd (cc here)
missing_one us set (c ∷ cs) v here is = one_by us v cs (char_set_contains set c) here (missing_tail us c cs is)

-- what is left of a piece that is dropped
pub missing_left : (us fields keys cs next : List ℕ) → next ≡ since fields (since keys cs) → Missing us cs → Missing us (behind fields next)
missing_left us fields keys cs next is missing =
    subst (λ l. Missing us (behind fields l)) (sym is) (missing_behind us fields (since fields (since keys cs)) (missing_since us fields (since keys cs) (missing_since us keys cs missing)))

-- a character that is known to be missing
off : (t : Bool) → not t ≡ true → t ≡ false
off true x = absurd (cc x)
off false x = refl

known_by : (u : ℕ) (us : List ℕ) (e : ℕ) (cs : List ℕ) (t : Bool) → (u == e) ≡ t → (t || list_any (λ y. y == e) us) ≡ true → not (char_set_contains cs u) ≡ true
    → (list_any (λ y. y == e) us ≡ true → char_set_contains cs e ≡ false) → char_set_contains cs e ≡ false
known_by u us e cs true same found here more = let one : u ≡ e = eqb-true u e same in ap (char_set_contains cs) (sym one) ∙ off (char_set_contains cs u) here
known_by u us e cs false same found here more = more found

pub known_missing : (us : List ℕ) (e : ℕ) (cs : List ℕ) → list_any (λ y. y == e) us ≡ true → Missing us cs → char_set_contains cs e ≡ false
known_missing [] e cs found is = absurd (cc found)
known_missing (u ∷ us) e cs found is =
    let apart = parts_of (not (char_set_contains cs u)) (are_missing us cs) is in
    known_by u us e cs (u == e) refl found apart.0 (λ inside. known_missing us e cs inside apart.1)

pub missing_more : (us : List ℕ) (e : ℕ) (cs : List ℕ) → char_set_contains cs e ≡ false → Missing us cs → Missing (us ++ e ∷ []) cs
missing_more [] e cs none is = rw none refl
missing_more (u ∷ us) e cs none is =
    let apart = parts_of (not (char_set_contains cs u)) (are_missing us cs) is in
    both _ _ apart.0 (missing_more us e cs none apart.1)
