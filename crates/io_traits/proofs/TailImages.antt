-- What the calls of a store leave of a file with a settled front and a tail behind it.
use Rattle.std.proofs.Common.{◌≡◌, ◌⊎◌, ⊎_elim, ℕ, ◌+◌, ◌-◌, ◌<◌, ◌≤◌, min, Bool, List, [], ◌++◌, length, take, drop, Some, Option, refl, sym, ◌∙◌, ap, subst, arith, length-append, length-take, length-drop, append_assoc, append-nil, take-append-drop}
use Rattle.std.proofs.Math.Seq.{drop-append-add}
use Rattle.std.proofs.lemmas.List.{take_at, drop_all, take_all, take-append-le, drop-append-le}
use Rattle.io_traits.specs.Reads.{bytes_of}
use Rattle.io_traits.specs.Images.{FileImage, Among, TornFile, CutFile, at_rest}
use Rattle.io_traits.specs.Chance.{NoChance, StandsAt}
use Rattle.io_traits.specs.Tails.{passes, HoldsTail, WasAppended, TailImage}

-- a piece of a part is a piece of the whole
in_part : (before part behind frame : List ℕ) (k : ℕ) → 0 < length frame → StandsAt k frame part → StandsAt (length before + k) frame (before ++ (part ++ behind))
in_part before part behind frame k some stands =
    let n = length frame in
    let long : n ≡ min n (length part - k) = sym (ap length stands) ∙ length-take n (drop k part) ∙ ap (min n) (length-drop k part) in
    let fits : k ≤ length part = omega (arith, some, long) in
    let room : n ≤ length (drop k part) = omega (arith, some, long, length-drop k part) in
    ap (take n) (drop-append-add before (part ++ behind) k) ∙ ap (take n) (drop-append-le k part behind fits) ∙ take-append-le n (drop k part) behind room ∙ stands

in_front : (part behind frame : List ℕ) (k : ℕ) → 0 < length frame → StandsAt k frame part → StandsAt k frame (part ++ behind)
in_front part behind frame k some stands = let none : 0 + k ≡ k = omega arith in subst (λ m. StandsAt m frame (part ++ behind)) none (in_part [] part behind frame k some stands)

-- lists with the same front have the same shorter front
front_again : (m n : ℕ) (xs ys : List ℕ) → m ≤ n → n ≤ length xs → n ≤ length ys → take n xs ≡ take n ys → take m xs ≡ take m ys
front_again m n xs ys le one two same = shorter xs one ∙ ap (take m) same ∙ sym (shorter ys two)
  where
    shorter : (l : List ℕ) → n ≤ length l → take m l ≡ take m (take n l)
    shorter l in_l = ap (take m) (sym (take-append-drop n l)) ∙ take-append-le m (take n l) (drop n l) (omega (arith, le, in_l, length-take n l))

in_place : (n p k : ℕ) (tail frame : List ℕ) → p ≡ n + k → StandsAt k frame tail → StandsAt (p - n) frame tail
in_place n p k tail frame same stands = let is : k ≡ p - n = omega (arith, same) in subst (λ m. StandsAt m frame tail) is stands

-- what stands behind the front of a list is in its rest
behind_front : (front rest frame : List ℕ) (place : ℕ) → length front ≤ place → StandsAt place frame (front ++ rest) → StandsAt (place - length front) frame rest
behind_front front rest frame place past stands =
    let k = place - length front in
    let is : place ≡ length front + k = omega (arith, past) in
    sym (ap (take (length frame)) (drop-append-add front rest k)) ∙ subst (λ m. StandsAt m frame (front ++ rest)) is stands

long_enough : (front xs : List ℕ) → take (length front) xs ≡ front → length front ≤ length xs
long_enough front xs is = let n : min (length front) (length xs) ≡ length front = sym (length-take (length front) xs) ∙ ap length is in omega (arith, n)

module _ (front tail : List ℕ) where
  appended_there : (w : ℕ × List ℕ) (frame : List ℕ) (place : ℕ) → WasAppended front tail w → w.0 ≤ place → 0 < length frame → StandsAt (place - w.0) frame w.1 → StandsAt (place - length front) frame tail
  appended_there w frame place a le some stands =
      let whole : StandsAt (length a.before + (place - w.0)) frame tail = subst (StandsAt (length a.before + (place - w.0)) frame) (sym a.part) (in_part a.before w.1 a.behind frame (place - w.0) some stands) in
      let is : place ≡ length front + (length a.before + (place - w.0)) = omega (arith, le, a.place) in
      in_place (length front) place (length a.before + (place - w.0)) tail frame is whole

  -- no frame stands behind the front but those of the tail, where none stands by chance
  pub holds_tail : (is_frame : ℕ → List ℕ → Bool) (f : FileImage) → TailImage front tail f → NoChance (passes is_frame) f → HoldsTail is_frame front tail f
  holds_tail is_frame f t chance = record {
    stands = t.stands;
    only = λ place frame past is some stands. ⊎_elim
        (λ (settled : StandsAt place frame (bytes_of f.settled)).
        let taken : StandsAt (place - length front) frame t.taken = behind_front front t.taken frame place past (subst (λ (o : Option (List ℕ)). StandsAt place frame (bytes_of o)) t.settled settled) in
        subst (StandsAt (place - length front) frame) (sym t.parts) (in_front t.taken t.left frame (place - length front) some taken))
        (λ w. appended_there w.0 frame place (t.writes w.0 w.1) w.2 some w.3)
        (chance.each place frame is stands);
  }

  pub at_rest_tail : TailImage front tail (at_rest (Some (front ++ tail)))
  at_rest_tail = record {
    taken = tail;
    left = [];
    parts = sym (append-nil tail);
    settled = refl;
    stands = take_at front tail (length front) refl;
    writes = λ w none. absurd none;
  }

  -- the front alone
  pub at_rest_front : TailImage front tail (at_rest (Some front))
  at_rest_front = record {
    taken = [];
    left = tail;
    parts = refl;
    settled = ap Some (sym (append-nil front));
    stands = take_all (length front) front (omega arith);
    writes = λ w none. absurd none;
  }

  appended_before : (more : List ℕ) (w : ℕ × List ℕ) → WasAppended front tail w → WasAppended front (tail ++ more) w
  appended_before more w a = record {
    before = a.before;
    behind = a.behind ++ more;
    part = ap (λ t. t ++ more) a.part ∙ append_assoc a.before (w.1 ++ a.behind) more ∙ ap (λ t. a.before ++ t) (append_assoc w.1 a.behind more);
    place = a.place;
  }

  appended_now : (more : List ℕ) (at : ℕ) (w : ℕ × List ℕ) → at ≡ length front + length tail → w ≡ (at, more) → WasAppended front (tail ++ more) w
  appended_now more at w is same = subst (WasAppended front (tail ++ more)) (sym same) now
    where
      now : WasAppended front (tail ++ more) (at, more)
      now = record { before = tail; behind = []; part = ap (λ t. tail ++ t) (sym (append-nil more)); place = is }

  -- a longer tail
  pub longer_tail : (more : List ℕ) (f : FileImage) → TailImage front tail f → TailImage front (tail ++ more) f
  longer_tail more f t = record {
    taken = t.taken;
    left = t.left ++ more;
    parts = ap (λ l. l ++ more) t.parts ∙ append_assoc t.taken t.left more;
    settled = t.settled;
    stands = t.stands;
    writes = λ w among. appended_before more w (t.writes w among);
  }

  -- an append, be it whole or torn
  pub appended_tail : (more : List ℕ) (at : ℕ) (d f : FileImage) → at ≡ length front + length tail → TailImage front tail d → TornFile at more d f → TailImage front (tail ++ more) f
  appended_tail more at d f is t torn =
      let old = bytes_of d.file in
      let new = bytes_of f.file in
      let long = long_enough front old t.stands in
      record {
        taken = t.taken;
        left = t.left ++ more;
        parts = ap (λ l. l ++ more) t.parts ∙ append_assoc t.taken t.left more;
        settled = torn.settled ∙ t.settled;
        stands = front_again (length front) (min at (length old)) new old (omega (arith, is, long)) (omega (arith, torn.torn.no_shorter)) (omega arith) torn.torn.before ∙ t.stands;
        writes = λ w among. ⊎_elim (λ earlier. appended_before more w (t.writes w earlier)) (λ same. appended_now more at w is same) (torn.writes w among);
      }

  -- a cut behind the front, be it whole or torn
  pub cut_tail : (len : ℕ) (d f : FileImage) → len ≡ length front → TailImage front tail d → CutFile len d f → TailImage front tail f
  cut_tail len d f is t cut = record {
    taken = t.taken;
    left = t.left;
    parts = t.parts;
    settled = cut.settled ∙ t.settled;
    stands = subst (λ n. take n (bytes_of f.file) ≡ take n (bytes_of d.file)) is cut.front ∙ t.stands;
    writes = λ w among. t.writes w (subst (λ ws. Among ws w) cut.writes among);
  }
