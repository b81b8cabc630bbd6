-- The patterns that are made of a condition, part by part.
use Rattle.std.proofs.Common.{◌≡◌, ℕ, suc, zero, ◌+◌, ◌-◌, ◌<◌, ◌≤◌, get_or, List, [], ◌∷◌, ◌++◌, length, drop, refl, sym, ap, subst, ◌∙◌, append_assoc, slice_set, take, arith}
use Rattle.std.specs.Prelude.{Result, Ok, Err, OnOk, IfErr}
use Rattle.std.proofs.lemmas.List.{append-nil, drop-drop, length-drop, length-map}
use Rattle.std.proofs.Math.Seq.{take-append_seam}
use Rattle.regex_hir.specs.Re.{Re}
use Rattle.pattern_box.specs.Patterns.{Expression, IsReadFrom, IsRefusal}
use Rattle.pattern_box.specs.declared.fault.PatternFault.{PatternFault}
use Rattle.condition_eval.specs.Made.{AreReadFrom, Added, FirstIsRefused, BeginWith, meaning_of, meanings}

pub added_none : (ps : List Expression) → Added [] ps ps
added_none ps = record { more = []; whole = sym (append-nil ps); read = tt }

pub added_one : (s : List ℕ) (p : Expression) (ps : List Expression) → IsReadFrom s p → Added (s ∷ []) ps (ps ++ p ∷ [])
added_one s p ps h = record { more = p ∷ []; whole = refl; read = (h, tt) }

read_append : (a b : List (List ℕ)) (xs ys : List Expression) → AreReadFrom a xs → AreReadFrom b ys → AreReadFrom (a ++ b) (xs ++ ys)
read_append [] b [] ys h k = k
read_append [] b (x ∷ xs) ys h k = absurd h
read_append (s ∷ a) b [] ys h k = absurd h
read_append (s ∷ a) b (x ∷ xs) ys h k = (h.0, read_append a b xs ys h.1 k)

pub added_both : (a b : List (List ℕ)) (ps qs rs : List Expression) → Added a ps qs → Added b qs rs → Added (a ++ b) ps rs
added_both a b ps qs rs h k = record { more = h.more ++ k.more; whole = k.whole ∙ ap (λ x. x ++ k.more) h.whole ∙ append_assoc ps h.more k.more; read = read_append a b h.more k.more h.read k.read }

refused_left : (fault : PatternFault) (a b : List (List ℕ)) → FirstIsRefused fault a → FirstIsRefused fault (a ++ b)
refused_left fault a b h = record {
  before = h.before;
  text = h.text;
  behind = h.behind ++ b;
  whole = ap (λ x. x ++ b) h.whole ∙ append_assoc h.before (h.text ∷ h.behind) b;
  made = h.made;
  read = h.read;
  refused = h.refused;
}

refused_right : (fault : PatternFault) (a b : List (List ℕ)) (xs : List Expression) → AreReadFrom a xs → FirstIsRefused fault b → FirstIsRefused fault (a ++ b)
refused_right fault a b xs r h = record {
  before = a ++ h.before;
  text = h.text;
  behind = h.behind;
  whole = ap (λ x. a ++ x) h.whole ∙ sym (append_assoc a h.before (h.text ∷ h.behind));
  made = xs ++ h.made;
  read = read_append a h.before xs h.made r h.read;
  refused = h.refused;
}

-- the one text is the first that is refused
pub refused_alone : (r : Result (Unit {0}) PatternFault) (s : List ℕ) (x : List (List ℕ)) → x ≡ s ∷ [] → IfErr r (IsRefusal s) → IfErr r (λ fault. FirstIsRefused fault x)
refused_alone (Ok u) s x e h = tt
refused_alone (Err f) s x e h = record { before = []; text = s; behind = []; whole = e; made = []; read = tt; refused = h }

pub added_then : (r : Result (Unit {0}) PatternFault) (a b x : List (List ℕ)) (ps qs rs : List Expression) → x ≡ a ++ b → Added a ps qs → OnOk r (Added b qs rs) → OnOk r (Added x ps rs)
added_then (Ok u) a b x ps qs rs e h k = subst (λ s. Added s ps rs) (sym e) (added_both a b ps qs rs h k)
added_then (Err f) a b x ps qs rs e h k = tt

pub refused_then : (r : Result (Unit {0}) PatternFault) (a b x : List (List ℕ)) (ps qs : List Expression) → x ≡ a ++ b → Added a ps qs → IfErr r (λ fault. FirstIsRefused fault b) → IfErr r (λ fault. FirstIsRefused fault x)
refused_then (Ok u) a b x ps qs e k h = tt
refused_then (Err f) a b x ps qs e k h = subst (FirstIsRefused f) (sym e) (refused_right f a b k.more k.read h)

pub added_as : (a b x : List (List ℕ)) (ps qs rs : List Expression) → x ≡ a ++ b → Added a ps qs → Added b qs rs → Added x ps rs
added_as a b x ps qs rs e h k = subst (λ s. Added s ps rs) (sym e) (added_both a b ps qs rs h k)

-- what is refused in the middle, behind texts from which patterns were made
pub refused_within : (fault : PatternFault) (a b d x : List (List ℕ)) (ps qs : List Expression) → x ≡ a ++ (b ++ d) → Added a ps qs → FirstIsRefused fault b → FirstIsRefused fault x
refused_within fault a b d x ps qs e k h = subst (FirstIsRefused fault) (sym e) (refused_right fault a (b ++ d) k.more k.read (refused_left fault b d h))

-- where two lists joined are empty, so is each
pub none_left : (a b : List (List ℕ)) → a ++ b ≡ [] → a ≡ []
none_left [] b e = refl
none_left (s ∷ a) b e = absurd (cc)

pub none_right : (a b : List (List ℕ)) → a ++ b ≡ [] → b ≡ []
none_right [] b e = e
none_right (s ∷ a) b e = absurd (cc)

pub begins_of : (a b : List (List ℕ)) (ps : List Expression) → a ≡ b → BeginWith a ps → BeginWith b ps
begins_of a b ps e h = subst (λ s. BeginWith s ps) e h

pub begins_left : (a b : List (List ℕ)) (ps : List Expression) → BeginWith (a ++ b) ps → BeginWith a ps
begins_left [] b ps h = tt
begins_left (s ∷ a) b [] h = absurd h
begins_left (s ∷ a) b (p ∷ ps) h = (h.0, begins_left a b ps h.1)

begins_right : (a b : List (List ℕ)) (ps : List Expression) → BeginWith (a ++ b) ps → BeginWith b (drop (length a) ps)
begins_right [] b ps h = h
begins_right (s ∷ a) b [] h = absurd h
begins_right (s ∷ a) b (p ∷ ps) h = begins_right a b ps h.1

-- a pattern of the same meaning is read from the same text
same_read : (s : List ℕ) (p q : Expression) → meaning_of p ≡ meaning_of q → IsReadFrom s p → IsReadFrom s q
same_read s p q e h = (h.0, (h.1.0, h.1.1, h.1.2, sym (ap (λ m. m.0) e) ∙ h.1.3, sym (ap (λ m. m.1) e) ∙ h.1.4))

head_of : Re × ℕ → List (Re × ℕ) → Re × ℕ
head_of d [] = d
head_of d (m ∷ ms) = m

tail_of : List (Re × ℕ) → List (Re × ℕ)
tail_of [] = []
tail_of (m ∷ ms) = ms

pub begins_same : (ss : List (List ℕ)) (ps qs : List Expression) → meanings ps ≡ meanings qs → BeginWith ss ps → BeginWith ss qs
unfolding head_of tail_of
begins_same [] ps qs e h = tt
begins_same (s ∷ ss) [] qs e h = absurd h
begins_same (s ∷ ss) (p ∷ ps) [] e h = absurd (cc)
begins_same (s ∷ ss) (p ∷ ps) (q ∷ qs) e h = (same_read s p q (ap (head_of (meaning_of p)) e) h.0, begins_same ss ps qs (ap tail_of e) h.1)

pub read_same : (ss : List (List ℕ)) (ps qs : List Expression) → meanings ps ≡ meanings qs → AreReadFrom ss ps → AreReadFrom ss qs
unfolding head_of tail_of
read_same [] [] [] e h = tt
read_same [] [] (q ∷ qs) e h = absurd (cc)
read_same [] (p ∷ ps) qs e h = absurd h
read_same (s ∷ ss) [] qs e h = absurd h
read_same (s ∷ ss) (p ∷ ps) [] e h = absurd (cc)
read_same (s ∷ ss) (p ∷ ps) (q ∷ qs) e h = (same_read s p q (ap (head_of (meaning_of p)) e) h.0, read_same ss ps qs (ap tail_of e) h.1)

pub begin_where_read : (ss : List (List ℕ)) (ps : List Expression) → AreReadFrom ss ps → BeginWith ss ps
begin_where_read [] ps h = tt
begin_where_read (s ∷ ss) [] h = absurd h
begin_where_read (s ∷ ss) (p ∷ ps) h = (h.0, begin_where_read ss ps h.1)

drop_same : (n : ℕ) (ps qs : List Expression) → meanings ps ≡ meanings qs → meanings (drop n ps) ≡ meanings (drop n qs)
unfolding tail_of
drop_same zero ps qs e = e
drop_same (suc n) [] [] e = refl
drop_same (suc n) [] (q ∷ qs) e = absurd (cc)
drop_same (suc n) (p ∷ ps) [] e = absurd (cc)
drop_same (suc n) (p ∷ ps) (q ∷ qs) e = drop_same n ps qs (ap tail_of e)

-- behind the patterns of the left side begin those of the right one
pub begins_next : (a b : List (List ℕ)) (at next : ℕ) (ps qs : List Expression) → BeginWith (a ++ b) (drop at ps) → meanings qs ≡ meanings ps → next ≡ at + length a → BeginWith b (drop next qs)
begins_next a b at next ps qs h e n = begins_same b (drop next ps) (drop next qs) (drop_same next ps qs (sym e)) (subst (λ k. BeginWith b (drop k ps)) (sym n) (subst (BeginWith b) (drop-drop (length a) at ps) (begins_right a b (drop at ps) h)))

begins_length : (ss : List (List ℕ)) (ps : List Expression) → BeginWith ss ps → length ss ≤ length ps
begins_length [] ps h = omega arith
begins_length (s ∷ ss) [] h = absurd h
begins_length (s ∷ ss) (p ∷ ps) h = omega (arith, begins_length ss ps h.1)

-- the place behind the patterns is a place
pub past_fits : (ss : List (List ℕ)) (at bound : ℕ) (ps : List Expression) → BeginWith ss (drop at ps) → at < bound → length ps < bound → at + length ss < bound
past_fits ss at bound ps h a l = let n : length ss ≤ length ps - at = subst (λ k. length ss ≤ k) (length-drop at ps) (begins_length ss (drop at ps) h) in omega (arith, n)

pub set_same : (ps : List Expression) (at : ℕ) (p q d : Expression) → p ≡ get_or ps at d → meaning_of q ≡ meaning_of p → meanings (slice_set ps at q) ≡ meanings ps
set_same [] at p q d e f = refl
set_same (x ∷ ps) zero p q d e f = λ i. (f ∙ ap meaning_of e) i ∷ meanings ps
set_same (x ∷ ps) (suc at) p q d e f = ap (λ ms. meaning_of x ∷ ms) (set_same ps at p q d e f)

-- the patterns of a list whose slice was lent
pub written_back : (ps qs new : List Expression) → meanings new ≡ meanings qs → qs ≡ ps → meanings ps ≡ meanings (take (length ps) (new ++ drop (length new) ps))
written_back ps qs new e is =
    let l : length new ≡ length ps = sym (length-map new meaning_of) ∙ ap length e ∙ length-map qs meaning_of ∙ ap length is in
    let whole : take (length ps) (new ++ drop (length new) ps) ≡ new = ap (λ n. take n (new ++ drop (length new) ps)) (sym l) ∙ take-append_seam new (drop (length new) ps) in
    sym (ap meanings whole ∙ e ∙ ap meanings is)
