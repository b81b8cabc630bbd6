-- The numbers of boxes that are drawn one after another.
use Rattle.std.specs.Prelude.{bytes_eq, if◌then◌else◌}
use Rattle.std.proofs.lemmas.List.{take-take, take_all, length-take-le, get_or-take}
use Rattle.std.proofs.lemmas.Option.{slice_get-get_or}
use Rattle.std.proofs.lemmas.Slice.Eq.{bytes_eq-Decides}
use Rattle.std.proofs.Common.{◌≡◌, ◌<◌, ◌≤◌, ℕ, ◌+◌, ◌-◌, List, [], ◌∷◌, ◌++◌, length, map, take, get_or, refl, sym, ap, ap₂, ◌∙◌, arith, rules, append_assoc, Bool, true, false, Some, slice_get}
use Rattle.event_tree.specs.Paths.{over}
use Rattle.foreign_parts.specs.Stocks.{Stock, IsLast, drawn, left_of, one_drawn}
use Rattle.graph_checks.specs.Boxes.{Counts, count_of, one_more}
use Rattle.graph_checks.specs.Drawings.{AreDrawn}
use Rattle.graph_checks.specs.Drawns.{boxes_of}
use Rattle.graph_checks.specs.Numbering.{draws_behind, number_behind}
use Rattle.graph_checks.specs.Wants.{AreLeft, names_of, times_of}
use Rattle.graph_checks.specs.declared.drawn.Drawn.{Drawn}
use Rattle.graph_checks.specs.declared.want.Want.{Want}
use Rattle.graph_checks.proofs.Restoring.{others_same}
use Rattle.graph_checks.proofs.Sparing.{counted_more}

abbrev numeral : ℕ → ℕ
numeral n = n

module _ (ss : List Stock) where
  -- of each name as many are left as are wanted still
  abbrev pub Suffice : Counts → List Want → Type 0
  Suffice cs ws = (k : List ℕ) → count_of k cs + times_of k (names_of ws) ≤ length (left_of k ss)

  pub suffice : (ws : List Want) → AreLeft (names_of ws) ss → Suffice [] ws
  suffice ws left k = omega (arith, left k)

  pub suffice_next : (cs : Counts) (w : Want) (ws : List Want) → Suffice cs (w ∷ ws) → Suffice (one_more w.name cs) ws
  suffice_next cs w ws h k = omega (arith, h k, counted_more k w.name cs)

  pub suffices : (cs : Counts) (w : Want) (ws : List Want) → Suffice cs (w ∷ ws) → count_of w.name cs < length (left_of w.name ss)
  suffices cs w ws h =
      let once : (if bytes_eq w.name w.name then 1 else 0) ≡ numeral 1 = ap (λ t. if t then 1 else 0) ((bytes_eq-Decides w.name w.name).1 refl) in
      omega (arith, once, h w.name)

  -- one number more
  pub draws_next : (cs : Counts) (w : Want) (left rest : List Want) (n : ℕ) (found all : List (List ℕ × ℕ)) → left ≡ w ∷ rest → n ≡ number_behind (count_of w.name cs) (left_of w.name ss)
      → found ++ draws_behind cs left ss ≡ all → (found ++ (w.id, n) ∷ []) ++ draws_behind (one_more w.name cs) rest ss ≡ all
  draws_next cs w left rest n found all is number so_far =
      append_assoc found ((w.id, n) ∷ []) (draws_behind (one_more w.name cs) rest ss) ∙ ap (λ m. found ++ (w.id, m) ∷ draws_behind (one_more w.name cs) rest ss) number
      ∙ ap (λ ws. found ++ draws_behind cs ws ss) (sym is) ∙ so_far

at_end : (ns : List ℕ) (n : ℕ) → slice_get (ns ++ n ∷ []) (length ns) ≡ Some n
at_end [] n = refl
at_end (m ∷ ns) n = at_end ns n

-- the last of the first so many
last_is : (n m : ℕ) (ns now : List ℕ) → m ≤ length ns → now ≡ take m ns → IsLast n now → slice_get ns (m - 1) ≡ Some n
last_is n m ns now most is last =
    let size : length now ≡ m = ap length is ∙ length-take-le m ns most in
    let less : length (take (length now - 1) now) ≡ length now - 1 = length-take-le (length now - 1) now (omega arith) in
    let some : 0 < m = one_there (take (length now - 1) now) (sym size ∙ ap length last) in
    let here : slice_get now (m - 1) ≡ Some n = ap (λ xs. slice_get xs (m - 1)) last ∙ ap (slice_get (take (length now - 1) now ++ n ∷ [])) (place _ less size) ∙ at_end (take (length now - 1) now) n in
    slice_get-get_or ns (m - 1) 0 (omega (arith, some, most)) ∙ ap Some (sym (get_or-take m ns (m - 1) 0 (omega (arith, some))))
    ∙ ap (λ xs. Some (get_or xs (m - 1) 0)) (sym is) ∙ sym (slice_get-get_or now (m - 1) 0 (omega (arith, some, size))) ∙ here
  where
    one_there : (xs : List ℕ) → m ≡ length (xs ++ n ∷ []) → 0 < m
    one_there [] e = omega (arith, e)
    one_there (x ∷ xs) e = omega (arith, e)

    place : (front : List ℕ) → length front ≡ length now - 1 → length now ≡ m → m - 1 ≡ length front
    place front less size = omega (arith, less, size)

-- the boxes that are left now are those of before, without the last, of each name so many
abbrev pub Behind : Counts → List Stock → List Stock → Type 0
Behind cs ss now = (k : List ℕ) → left_of k now ≡ take (length (left_of k ss) - count_of k cs) (left_of k ss)

pub nothing_drawn : (ss : List Stock) → Behind [] ss ss
nothing_drawn ss k = sym (take_all (length (left_of k ss) - 0) (left_of k ss) (omega arith))

left_case : (b : Bool) (k : List ℕ) (s : Stock) (ss : List Stock) → bytes_eq s.name k ≡ b → left_of k (drawn k ss) ≡ take (length (left_of k ss) - 1) (left_of k ss)
    → left_of k (if b then one_drawn s ∷ ss else s ∷ drawn k ss) ≡ take (length (if b then s.left else left_of k ss) - 1) (if b then s.left else left_of k ss)
left_case true k s ss is more = ap (λ t. if t then take (length s.left - 1) s.left else left_of k ss) is
left_case false k s ss is more = ap (λ t. if t then s.left else left_of k (drawn k ss)) is ∙ more

-- without the last
left_drawn : (k : List ℕ) (ss : List Stock) → left_of k (drawn k ss) ≡ take (length (left_of k ss) - 1) (left_of k ss)
left_drawn k [] = refl
left_drawn k (s ∷ ss) = left_case (bytes_eq s.name k) k s ss refl (left_drawn k ss)

module _ (cs : Counts) (ss now : List Stock) (behind : Behind cs ss now) (k : List ℕ) where
  same_drawn : left_of k (drawn k now) ≡ take (length (left_of k ss) - (count_of k cs + 1)) (left_of k ss)
  same_drawn =
      let ns = left_of k ss in
      let m = length ns - count_of k cs in
      let size : length (left_of k now) ≡ m = ap length (behind k) ∙ length-take-le m ns (omega arith) in
      let less : length (left_of k now) - 1 ≡ length ns - (count_of k cs + 1) = omega (arith, size) in
      left_drawn k now ∙ ap (λ n. take n (left_of k now)) less ∙ ap (take (length ns - (count_of k cs + 1))) (behind k) ∙ take-take (length ns - (count_of k cs + 1)) m ns (omega arith)

  case_of : (j : List ℕ) (b : Bool) → bytes_eq j k ≡ b → left_of j (drawn k now) ≡ take (length (left_of j ss) - count_of j (one_more k cs)) (left_of j ss)
  case_of j true is =
      let e : j ≡ k = search (rules, bytes_eq-Decides) in
      let more : count_of j (one_more k cs) ≡ count_of k cs + 1 = counted_more j k cs ∙ ap (λ t. count_of j cs + (if t then 1 else 0)) is ∙ ap (λ i. count_of i cs + 1) e in
      ap (λ i. left_of i (drawn k now)) e ∙ same_drawn ∙ ap (λ i. take (length (left_of i ss) - (count_of k cs + 1)) (left_of i ss)) (sym e) ∙ ap (λ n. take (length (left_of j ss) - n) (left_of j ss)) (sym more)
  case_of j false is =
      let apart : bytes_eq k j ≡ false = search (rules, bytes_eq-Decides) in
      let same : count_of j (one_more k cs) ≡ count_of j cs = omega (arith, counted_more j k cs, ap (λ t. if t then 1 else numeral 0) is) in
      others_same j k now apart ∙ behind j ∙ ap (λ n. take (length (left_of j ss) - n) (left_of j ss)) (sym same)

  pub behind_next : Behind (one_more k cs) ss (drawn k now)
  behind_next j = case_of j (bytes_eq j k) refl

  pub number_is : (n : ℕ) → IsLast n (left_of k now) → number_behind (count_of k cs) (left_of k ss) ≡ n
  number_is n last =
      let ns = left_of k ss in
      let place : length ns - 1 - count_of k cs ≡ length ns - count_of k cs - 1 = omega arith in
      ap (λ i. over (λ m. m) 0 (slice_get ns i)) place ∙ ap (over (λ m. m) 0) (last_is n (length ns - count_of k cs) ns (left_of k now) (omega arith) (behind k) last)

-- boxes that were drawn have the numbers that were told before
pub drawn_as : {P : Type 0} (number : P → ℕ) (Out : List Stock → ℕ → Type 0) (cs : Counts) (ds : List (Drawn P)) (ss now new : List Stock) → Behind cs ss now → AreDrawn Out (boxes_of number ds) now new
    → draws_behind cs (map (λ d. d.want) ds) ss ≡ map (λ d. (d.want.id, number d.plugged)) ds
drawn_as number Out cs [] ss now new behind drew = refl
drawn_as number Out cs (d ∷ ds) ss now new behind (last, out, rest) =
    ap₂ (λ n xs. (d.want.id, n) ∷ xs) (number_is cs ss now behind d.want.name (number d.plugged) last)
    (drawn_as number Out (one_more d.want.name cs) ds ss (drawn d.want.name now) new (behind_next cs ss now behind d.want.name) rest)
