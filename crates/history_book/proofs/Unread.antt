-- The rows that a queue gives next are the unread ones of its pipeline.
use Rattle.std.proofs.Common.{◌≡◌, inl, inr, ⊎_elim, ℕ, suc, ◌≤◌, ◌<◌, ◌+◌, ◌==◌, ◌&&◌, ◌||◌, not, nat_le, Bool, true, false, List, [], ◌∷◌, ◌++◌, length, take, Option, Some, None, refl, sym, ap, ap₂, ◌∙◌, subst, arith}
use Rattle.std.specs.Prelude.{cond}
use Rattle.std.specs.List.{filter}
use Rattle.std.proofs.lemmas.List.{length-map, take-append-le, take_all}
use Rattle.std.proofs.lemmas.List.Elements.{filter-append}
use Rattle.std.proofs.lemmas.Bool.{cases_Bool, eq-eqb, and_from, leb-true}
use Rattle.event_tree.specs.declared.lists.DeadPart.{DeadPart}
use Rattle.event_flow.specs.Meaning.{Makes, Due}
use Rattle.event_flow.specs.Meaning as due
use Rattle.queue_files.specs.Found.{Row}
use Rattle.history_book.specs.Entries.{Entry, Accept, Mark, Assure, Read, Back, Shed, Deliver, Letters, Ack, Purge, Adopt, Opened}
use Rattle.history_book.specs.Legal.{IsRowOf, IsFound, Legal_at, Legal}
use Rattle.history_book.specs.Lists.{IsIn, Rise}
use Rattle.history_book.specs.Queues.{AreRowsOf, AcceptedComesLast, FirstAreRead, FoundComeNext, OthersLeaveUnread}
use Rattle.history_book.specs.States.{Plan, Written, Out, Limits, State, start, newest, unread, is_unread, is_among, numbers_of, numbers_out, numbers_found, top_of, fresh, change, brought_back, told_from, told_next, reads, left_of, out_of, tells_letters, opens, written, next, after}
use Rattle.history_book.proofs.Holding.{rise_less}
use Rattle.history_book.proofs.Lists.{in_front, in_behind, in_either, filter_has, filter_passes}
use Rattle.history_book.proofs.Numbers.{start_sane, all_sane}
use Rattle.history_book.proofs.Opening.{openings_fit, found_are_unread, in_among, among_in, or_second}
use Rattle.history_book.proofs.Outs.{IsChanged, change_in, without_in, out_in}

-- rows have rising numbers, and what batches were given lies below the next number
record InTurn (s : State) : Type 0 where
  rise : Rise 0 (numbers_of s.rows)
  below : (w : Written) → IsIn w s.rows → w.number < s.low
  read : (n : ℕ) → IsIn n s.read → n < s.low
  outs : (o : Out) (w : Written) → IsIn o s.out → IsIn w o.rows → IsIn w.number s.read

pub rise_end : (from n : ℕ) (ns : List ℕ) → Rise from ns → from ≤ n → ((m : ℕ) → IsIn m ns → m < n) → Rise from (ns ++ n ∷ [])
rise_end from n [] rise least below = (least, tt)
rise_end from n (m ∷ ns) rise least below = (rise.0, rise_end (suc m) n ns rise.1 (below m (inl refl)) (λ k i. below k (inr i)))

pub numbers_more : (rows : List Written) (w : Written) → numbers_of (rows ++ w ∷ []) ≡ numbers_of rows ++ w.number ∷ []
numbers_more [] w = refl
numbers_more (v ∷ rows) w = ap (λ l. v.number ∷ l) (numbers_more rows w)

number_in : (n : ℕ) (rows : List Written) → IsIn n (numbers_of rows) → (w : Written) × IsIn w rows × (n ≡ w.number)
number_in n [] i = absurd i
number_in n (w ∷ rows) (inl e) = (w, inl refl, e)
number_in n (w ∷ rows) (inr i) = let rest = number_in n rows i in (rest.0, inr rest.1, rest.2)

above_in : (from : ℕ) (rows : List Written) → Rise from (numbers_of rows) → (w : Written) → IsIn w rows → from ≤ w.number
above_in from [] rise w i = absurd i
above_in from (v ∷ rows) rise w (inl e) = let least = rise.0 in let same = ap (λ (u : Written). u.number) e in omega (arith, least, same)
above_in from (v ∷ rows) rise w (inr i) = let least = rise.0 in let more = above_in (suc v.number) rows rise.1 w i in omega (arith, least, more)

first_rise : (p : Written → Bool) (from : ℕ) (w : Written) (rows : List Written) → from ≤ w.number → Rise (suc w.number) (numbers_of (filter p rows)) → (b : Bool)
    → Rise from (numbers_of (cond b (w ∷ filter p rows) (filter p rows)))
first_rise p from w rows least rest true = (least, rest)
first_rise p from w rows least rest false = rise_less from (suc w.number) (omega (arith, least)) (numbers_of (filter p rows)) rest

filter_rise : (p : Written → Bool) (from : ℕ) (rows : List Written) → Rise from (numbers_of rows) → Rise from (numbers_of (filter p rows))
filter_rise p from [] rise = tt
filter_rise p from (w ∷ rows) rise = first_rise p from w rows rise.0 (filter_rise p (suc w.number) rows rise.1) (p w)

module _ (makes : Makes) where
  turn_same : (s t : State) → t.rows ≡ s.rows → t.read ≡ s.read → s.low ≤ t.low → ((o : Out) (w : Written) → IsIn o t.out → IsIn w o.rows → IsIn w.number s.read) → InTurn s → InTurn t
  turn_same s t rows read low outs is = record {
    rise = subst (λ l. Rise 0 (numbers_of l)) (sym rows) is.rise;
    below = λ w i. let less = is.below w (subst (IsIn w) rows i) in omega (arith, less, low);
    read = λ n i. let less = is.read n (subst (IsIn n) read i) in omega (arith, less, low);
    outs = λ o w i j. subst (IsIn w.number) (sym read) (outs o w i j);
  }

  -- a batch that is changed keeps its rows
  change_outs : (s : State) (f : Out → Out) (batch : ℕ) → ((o : Out) → (f o).rows ≡ o.rows) → InTurn s → (o : Out) (w : Written) → IsIn o (change f batch s.out) → IsIn w o.rows → IsIn w.number s.read
  change_outs s f batch keeps is o w i j =
      ⊎_elim (λ (k : IsIn o s.out). is.outs o w k j)
      (λ (c : IsChanged f batch s.out o). is.outs c.was w (out_in batch c.was s.out c.found) (subst (IsIn w) (ap (λ (x : Out). x.rows) c.is ∙ keeps c.was) j))
      (change_in batch o f s.out i)

  accept_turn : (s : State) (w : Written) (number : ℕ) → w.number ≡ number → s.low ≤ number → InTurn s → InTurn (record s { rows = s.rows ++ w ∷ []; low = number + 1; high = number + 1 })
  accept_turn s w number same least is = record {
    rise = subst (Rise 0) (sym (numbers_more s.rows w)) (rise_end 0 w.number (numbers_of s.rows) is.rise (omega arith)
        (λ m i. let k = number_in m s.rows i in let less = is.below k.0 k.1 in let of = k.2 in omega (arith, less, of, same, least)));
    below = λ v i. ⊎_elim (λ (j : IsIn v s.rows). let less = is.below v j in omega (arith, less, least))
        (λ (j : IsIn v (w ∷ [])). ⊎_elim (λ (e : v ≡ w). let one = ap (λ (u : Written). u.number) e in omega (arith, one, same)) (λ (never : ⊥). absurd never) j) (in_either v s.rows (w ∷ []) i);
    read = λ n i. let less = is.read n i in omega (arith, less, least);
    outs = is.outs;
  }

  read_turn : (s : State) (batch : ℕ) (numbers : List ℕ) (plan : Option Plan) (rows rest : List Written) → unread s ≡ rows ++ rest → numbers ≡ numbers_of rows → InTurn s
      → InTurn (reads s batch numbers plan)
  read_turn s batch numbers None rows rest first are is = is
  read_turn s batch numbers (Some plan) rows rest first are is = record {
    rise = is.rise;
    below = is.below;
    read = λ n i. ⊎_elim (λ (j : IsIn n s.read). is.read n j)
        (λ (j : IsIn n numbers).
        let k = number_in n rows (subst (IsIn n) are j) in
        let less = is.below k.0 (filter_has k.0 (is_unread s) s.rows (subst (IsIn k.0) (sym first) (in_front k.0 rows rest k.1))) in
        let of = k.2 in omega (arith, less, of)) (in_either n s.read numbers i);
    outs = λ o w i j. ⊎_elim (λ (k : IsIn o s.out). in_front w.number s.read numbers (is.outs o w k j))
        (λ (k : IsIn o (new ∷ [])).
        ⊎_elim (λ (e : o ≡ new). in_behind w.number s.read numbers (subst (IsIn w.number) (sym are) (has_number w rows (subst (IsIn w) (ap (λ (x : Out). x.rows) e ∙ taken) j)))) (λ (never : ⊥). absurd never) k)
        (in_either o s.out (new ∷ []) i);
  }
    where
      new : Out
      new = fresh batch plan (take (length numbers) (unread s))

      count : length numbers ≡ length rows
      count = ap length are ∙ length-map rows (λ (w : Written). w.number)

      taken : take (length numbers) (unread s) ≡ rows
      taken = ap₂ (λ (n : ℕ) (l : List Written). take n l) count first ∙ take-append-le (length rows) rows rest (omega arith) ∙ take_all (length rows) rows (omega arith)

      has_number : (w : Written) (ws : List Written) → IsIn w ws → IsIn w.number (numbers_of ws)
      has_number w [] i = absurd i
      has_number w (v ∷ ws) (inl e) = inl (ap (λ (u : Written). u.number) e)
      has_number w (v ∷ ws) (inr i) = inr (has_number w ws i)

  told_keeps : (o : Out) (left : List Due) → (told_from o left).rows ≡ o.rows
  told_keeps o [] = refl
  told_keeps o (d ∷ rest) = refl

  letters_turn : (s : State) (batch : ℕ) (letters : List DeadPart) (left : List Due) → InTurn s → InTurn (tells_letters s batch letters left)
  letters_turn s batch letters [] is = is
  letters_turn s batch letters (due.Letters ds ∷ rest) is = turn_same s _ refl refl (omega arith) (change_outs s told_next batch (λ o. told_keeps o o.left) is) is
  letters_turn s batch letters (due.Events id at es ∷ rest) is = turn_same s _ refl refl (omega arith) is.outs is

  opened_turn : (s : State) (rows : List Row) (limits : Limits) → InTurn s → InTurn (opens s rows limits)
  opened_turn s rows limits is = record {
    rise = filter_rise (λ (w : Written). nat_le w.number (top_of s rows)) 0 s.rows is.rise;
    below = λ w i. let less = leb-true w.number (top_of s rows) (filter_passes w (λ (v : Written). nat_le v.number (top_of s rows)) s.rows i) in omega (arith, less);
    read = λ n i. absurd i;
    outs = λ o w i. absurd i;
  }

  next_turn : (s : State) (e : Entry) → Legal_at makes s e → InTurn s → InTurn (next makes s e)
  next_turn s (Accept input parcel number event) legal is = accept_turn s (written s input number event) number refl legal.1 is
  next_turn s (Mark front) legal is = turn_same s _ refl refl (let least = legal.1 in omega (arith, least)) is.outs is
  next_turn s (Assure input front) legal is = is
  next_turn s (Read batch generation numbers) legal is = read_turn s batch numbers (newest s.plans) legal.rows legal.rest legal.first legal.numbers_are is
  next_turn s (Back batch verdicts) legal is = turn_same s _ refl refl (omega arith) (change_outs s (brought_back makes verdicts) batch (λ o. refl) is) is
  next_turn s (Shed batch older newer) legal is = turn_same s _ refl refl (omega arith) is.outs is
  next_turn s (Deliver batch at events fates) legal is = turn_same s _ refl refl (omega arith) (change_outs s told_next batch (λ o. told_keeps o o.left) is) is
  next_turn s (Letters batch letters) legal is = letters_turn s batch letters (left_of (out_of batch s.out)) is
  next_turn s (Ack batch) legal is = turn_same s _ refl refl (omega arith) (λ o w i j. is.outs o w (without_in batch o s.out i) j) is
  next_turn s (Purge page) legal is = is
  next_turn s (Adopt generation config draws) legal is = turn_same s _ refl refl (omega arith) is.outs is
  next_turn s (Opened rows limit policy) legal is = opened_turn s rows (record { limit = limit; policy = policy }) is

  all_turn : (s : State) (told : List Entry) → Legal makes s told → InTurn s → InTurn (after makes s told)
  all_turn s [] legal is = is
  all_turn s (e ∷ told) legal is = all_turn (next makes s e) told legal.1 (next_turn s e legal.0 is)

start_turn : InTurn start
start_turn = record { rise = tt; below = λ w i. absurd i; read = λ n i. absurd i; outs = λ o w i. absurd i }

-- ---- an accepted row comes last

among_none : (n : ℕ) (ns : List ℕ) → (IsIn n ns → ⊥) → is_among n ns ≡ false
among_none n ns none = ⊎_elim (λ (has : is_among n ns ≡ true). absurd (none (in_among n ns has))) (λ e. e) (cases_Bool (is_among n ns))

rows_end : (rows : List Row) (ws : List Written) (r : Row) (w : Written) → AreRowsOf rows ws → IsRowOf r w → AreRowsOf (rows ++ r ∷ []) (ws ++ w ∷ [])
rows_end [] [] r w are is = (is, tt)
rows_end [] (v ∷ ws) r w are is = absurd are
rows_end (x ∷ rows) [] r w are is = absurd are
rows_end (x ∷ rows) (v ∷ ws) r w are is = (are.0, rows_end rows ws r w are.1 is)

pub accepted_comes_last : (makes : Makes) → AcceptedComesLast makes
accepted_comes_last makes told rows row input parcel event legal may are is =
    let s = after makes start told in
    let new = written s input row.number event in
    let least = may.1 in
    let sane = all_sane makes start told legal start_sane in
    let turn = all_turn makes start told legal start_turn in
    let apart : is_unread s new ≡ true = and_from _ _ (ap not (among_none new.number s.acknowledged (λ i. let less = sane.acked new.number i in omega (arith, less, least))))
    (ap not (among_none new.number s.read (λ i. let less = turn.read new.number i in omega (arith, less, least)))) in
    subst (AreRowsOf (rows ++ row ∷ [])) (sym (filter-append (is_unread s) s.rows (new ∷ []) ∙ ap (λ b. unread s ++ cond b (new ∷ []) []) apart)) (rows_end rows (unread s) row new are is)

-- ---- the first are read

-- those of a pipeline that belong to the first rows, and to the others
pub record Parted (front rest : List Row) (ws : List Written) : Type 0 where
  pub first : List Written
  pub others : List Written
  pub parts : ws ≡ first ++ others
  pub of_first : AreRowsOf front first
  pub of_others : AreRowsOf rest others

parted : (front rest : List Row) (ws : List Written) → AreRowsOf (front ++ rest) ws → Parted front rest ws
parted [] rest ws are = record { first = []; others = ws; parts = refl; of_first = tt; of_others = are }
parted (r ∷ front) rest [] are = absurd are
parted (r ∷ front) rest (w ∷ ws) are =
    let more = parted front rest ws are.1 in
    record { first = w ∷ more.first; others = more.others; parts = ap (λ l. w ∷ l) more.parts; of_first = (are.0, more.of_first); of_others = more.of_others }

pub numbers_same : (rows : List Row) (ws : List Written) → AreRowsOf rows ws → numbers_found rows ≡ numbers_of ws
numbers_same [] [] are = refl
numbers_same [] (w ∷ ws) are = absurd are
numbers_same (r ∷ rows) [] are = absurd are
numbers_same (r ∷ rows) (w ∷ ws) are = ap₂ (λ (n : ℕ) (l : List ℕ). n ∷ l) are.0.number (numbers_same rows ws are.1)

filter_all : (p : Written → Bool) (ws : List Written) → ((w : Written) → IsIn w ws → p w ≡ true) → filter p ws ≡ ws
filter_all p [] all = refl
filter_all p (w ∷ ws) all = ap (λ b. cond b (w ∷ filter p ws) (filter p ws)) (all w (inl refl)) ∙ ap (λ l. w ∷ l) (filter_all p ws (λ v i. all v (inr i)))

filter_split : (p : Written → Bool) (ws vs : List Written) → ((w : Written) → IsIn w ws → p w ≡ false) → ((v : Written) → IsIn v vs → p v ≡ true) → filter p (ws ++ vs) ≡ vs
filter_split p [] vs none all = filter_all p vs all
filter_split p (w ∷ ws) vs none all = ap (λ b. cond b (w ∷ filter p (ws ++ vs)) (filter p (ws ++ vs))) (none w (inl refl)) ∙ filter_split p ws vs (λ v i. none v (inr i)) all

filter_both : (p q both : Written → Bool) (ws : List Written) → ((w : Written) → both w ≡ (p w && q w)) → filter both ws ≡ filter q (filter p ws)
filter_both p q both [] is = refl
filter_both p q both (w ∷ ws) is =
    ap (λ b. cond b (w ∷ filter both ws) (filter both ws)) (is w) ∙ ap (λ l. cond (p w && q w) (w ∷ l) l) (filter_both p q both ws is) ∙ by_test (p w)
  where
    by_test : (b : Bool) → cond (b && q w) (w ∷ filter q (filter p ws)) (filter q (filter p ws)) ≡ filter q (cond b (w ∷ filter p ws) (filter p ws))
    by_test true = refl
    by_test false = refl

rise_apart : (from : ℕ) (ws vs : List Written) → Rise from (numbers_of (ws ++ vs)) → (w v : Written) → IsIn w ws → IsIn v vs → w.number < v.number
rise_apart from [] vs rise w v i j = absurd i
rise_apart from (x ∷ ws) vs rise w v (inl e) j =
    let more = above_in (suc x.number) (ws ++ vs) rise.1 v (in_behind v ws vs j) in let same = ap (λ (u : Written). u.number) e in omega (arith, more, same)
rise_apart from (x ∷ ws) vs rise w v (inr i) j = rise_apart (suc x.number) ws vs rise.1 w v i j

among_in_numbers : (w : Written) (ws : List Written) → IsIn w ws → is_among w.number (numbers_of ws) ≡ true
among_in_numbers w [] i = absurd i
among_in_numbers w (v ∷ ws) (inl e) = ap (λ b. b || is_among w.number (numbers_of ws)) (eq-eqb w.number v.number (ap (λ (u : Written). u.number) e))
among_in_numbers w (v ∷ ws) (inr i) = or_second (w.number == v.number) (is_among w.number (numbers_of ws)) (among_in_numbers w ws i)

among_both : (n : ℕ) (ms ns : List ℕ) → is_among n (ms ++ ns) ≡ (is_among n ms || is_among n ns)
among_both n [] ns = refl
among_both n (m ∷ ms) ns = ap (λ b. (n == m) || b) (among_both n ms ns) ∙ by_test (n == m)
  where
    by_test : (b : Bool) → (b || (is_among n ms || is_among n ns)) ≡ ((b || is_among n ms) || is_among n ns)
    by_test true = refl
    by_test false = refl

read_left : (s : State) (batch : ℕ) (plan : Plan) (ws vs : List Written) → unread s ≡ ws ++ vs → Rise 0 (numbers_of (ws ++ vs)) → (numbers : List ℕ) → numbers ≡ numbers_of ws
    → unread (reads s batch numbers (Some plan)) ≡ vs
read_left s batch plan ws vs parts rise numbers are =
    filter_both (is_unread s) (λ w. not (is_among w.number numbers)) (is_unread (reads s batch numbers (Some plan))) s.rows both ∙ ap (filter (λ w. not (is_among w.number numbers))) parts
    ∙ filter_split (λ w. not (is_among w.number numbers)) ws vs
    (λ w i. ap not (ap (is_among w.number) are ∙ among_in_numbers w ws i))
    (λ v i. ap not (among_none v.number numbers (λ j. let k = number_in v.number ws (subst (IsIn v.number) are j) in let less = rise_apart 0 ws vs rise k.0 v k.1 i in let same = k.2 in omega (arith, less, same))))
  where
    both : (w : Written) → is_unread (reads s batch numbers (Some plan)) w ≡ (is_unread s w && not (is_among w.number numbers))
    both w = ap (λ b. not (is_among w.number s.acknowledged) && not b) (among_both w.number s.read numbers) ∙ by_tests (not (is_among w.number s.acknowledged)) (is_among w.number s.read) (is_among w.number numbers)
      where
        by_tests : (a b c : Bool) → (a && not (b || c)) ≡ ((a && not b) && not c)
        by_tests true true c = refl
        by_tests true false c = refl
        by_tests false b c = refl

pub first_are_read : (makes : Makes) → FirstAreRead makes
first_are_read makes told front rest batch legal running unused some are =
    let s = after makes start told in
    let parts = parted front rest (unread s) are in
    let numbers = numbers_same front parts.first parts.of_first in
    let turn = all_turn makes start told legal start_turn in
    let rise = subst (λ l. Rise 0 (numbers_of l)) parts.parts (filter_rise (is_unread s) 0 s.rows turn.rise) in (
      record {
        running = running;
        generation_is = refl;
        unused = unused;
        some = λ none. some (empty front none);
        rows = parts.first;
        rest = parts.others;
        first = parts.parts;
        numbers_are = numbers;
      },
      subst (AreRowsOf rest)
          (sym (ap (λ p. unread (reads s batch (numbers_found front) p)) running.newest ∙ read_left s batch running.plan parts.first parts.others parts.parts rise (numbers_found front) numbers)) parts.of_others,
    )
  where
    empty : (rows : List Row) → numbers_found rows ≡ [] → rows ≡ []
    empty [] none = refl
    empty (r ∷ rows) none = absurd (cc)

-- ---- what is found comes next

found_in_turn : (a b : ℕ) (rows : List Row) (ws : List Written) → Rise a (numbers_found rows) → Rise b (numbers_of ws) → ((r : Row) → IsIn r rows → (w : Written) × IsIn w ws × IsRowOf r w)
    → ((w : Written) → IsIn w ws → IsFound rows w) → AreRowsOf rows ws
found_in_turn a b [] [] rise_rows rise_ws known found = tt
found_in_turn a b [] (w ∷ ws) rise_rows rise_ws known found = absurd (found w (inl refl)).1
found_in_turn a b (r ∷ rows) [] rise_rows rise_ws known found = absurd (known r (inl refl)).1
found_in_turn a b (r ∷ rows) (w ∷ ws) rise_rows rise_ws known found = (head, found_in_turn (suc r.number) (suc w.number) rows ws rise_rows.1 rise_ws.1 known_rest found_rest)
  where
    row_above : (from : ℕ) (xs : List Row) → Rise from (numbers_found xs) → (x : Row) → IsIn x xs → from ≤ x.number
    row_above from [] rise x i = absurd i
    row_above from (y ∷ xs) rise x (inl e) = let least = rise.0 in let one = ap (λ (u : Row). u.number) e in omega (arith, least, one)
    row_above from (y ∷ xs) rise x (inr i) = let least = rise.0 in let more = row_above (suc y.number) xs rise.1 x i in omega (arith, least, more)

    at_least : (v : Written) → IsIn v (w ∷ ws) → w.number ≤ v.number
    at_least v (inl e) = let one = ap (λ (u : Written). u.number) e in omega (arith, one)
    at_least v (inr i) = let more = above_in (suc w.number) ws rise_ws.1 v i in omega (arith, more)

    row_least : (x : Row) → IsIn x (r ∷ rows) → r.number ≤ x.number
    row_least x (inl e) = let one = ap (λ (u : Row). u.number) e in omega (arith, one)
    row_least x (inr i) = let more = row_above (suc r.number) rows rise_rows.1 x i in omega (arith, more)

    same : r.number ≡ w.number
    same =
        let k = known r (inl refl) in let f = found w (inl refl) in
        let first = at_least k.0 k.1 in let second = row_least f.0 f.1 in
        let of_k = k.2.number in let of_f = f.2.number in omega (arith, first, second, of_k, of_f)

    head : IsRowOf r w
    head = by_place (known r (inl refl))
      where
        by_place : ((v : Written) × IsIn v (w ∷ ws) × IsRowOf r v) → IsRowOf r w
        by_place k = ⊎_elim (λ (e : k.0 ≡ w). subst (IsRowOf r) e k.2)
            (λ (i : IsIn k.0 ws). absurd (let more = above_in (suc w.number) ws rise_ws.1 k.0 i in let of_k = k.2.number in let one = same in omega (arith, more, of_k, one))) k.1

    known_rest : (x : Row) → IsIn x rows → (v : Written) × IsIn v ws × IsRowOf x v
    known_rest x i = by_place (known x (inr i))
      where
        by_place : ((v : Written) × IsIn v (w ∷ ws) × IsRowOf x v) → (v : Written) × IsIn v ws × IsRowOf x v
        by_place k = ⊎_elim
            (λ (e : k.0 ≡ w). absurd (let more = row_above (suc r.number) rows rise_rows.1 x i in let one = ap (λ (u : Written). u.number) e in let of_k = k.2.number in let both = same in omega (arith, more, one, of_k, both)))
            (λ (j : IsIn k.0 ws). (k.0, j, k.2)) k.1

    found_rest : (v : Written) → IsIn v ws → IsFound rows v
    found_rest v i = by_place (found v (inr i))
      where
        by_place : IsFound (r ∷ rows) v → IsFound rows v
        by_place f = ⊎_elim
            (λ (e : f.0 ≡ r). absurd (let more = above_in (suc w.number) ws rise_ws.1 v i in let one = ap (λ (u : Row). u.number) e in let of_f = f.2.number in let both = same in omega (arith, more, one, of_f, both)))
            (λ (j : IsIn f.0 rows). (f.0, j, f.2)) f.1

pub found_come_next : (makes : Makes) → FoundComeNext makes
found_come_next makes told found limit policy legal fits =
    let limits : Limits = record { limit = limit; policy = policy } in
    let s = opens (after makes start told) found.rows limits in
    let turn = opened_turn makes (after makes start told) found.rows limits (all_turn makes start told legal start_turn) in
    let now = (openings_fit makes told found limit policy legal fits).1 in
    found_in_turn 0 0 found.rows (unread s) fits.rows.rise (filter_rise (is_unread s) 0 s.rows turn.rise)
    (λ r i. let k = now.rows.known r i in (k.0, (found_are_unread makes told found limit policy legal fits k.0).1 k.1 (r, i, k.2), k.2))
    (λ w i. (found_are_unread makes told found limit policy legal fits w).0 i)

-- ---- all other entries

filter_same : (p q : Written → Bool) (ws : List Written) → ((w : Written) → IsIn w ws → p w ≡ q w) → filter p ws ≡ filter q ws
filter_same p q [] same = refl
filter_same p q (w ∷ ws) same =
    ap (λ b. cond b (w ∷ filter p ws) (filter p ws)) (same w (inl refl)) ∙ ap (λ l. cond (q w) (w ∷ l) l) (filter_same p q ws (λ v i. same v (inr i)))

-- rows of a batch were read, so that their acknowledgement changes nothing
acknowledged_unread : (makes : Makes) (s : State) (batch : ℕ) → InTurn s → unread (next makes s (Ack batch)) ≡ unread s
acknowledged_unread makes s batch turn = filter_same (is_unread (next makes s (Ack batch))) (is_unread s) s.rows (λ w i. by_test w (is_among w.number s.read) refl)
  where
    numbers : List ℕ
    numbers = numbers_out (out_of batch s.out)

    read_by : (o : Option Out) → out_of batch s.out ≡ o → (n : ℕ) → IsIn n (numbers_out o) → IsIn n s.read
    read_by None has n i = absurd i
    read_by (Some o) has n i = let k = number_in n o.rows i in subst (λ m. IsIn m s.read) (sym k.2) (turn.outs o k.0 (out_in batch o s.out has) k.1)

    either : (a b c : Bool) → b ≡ false → (not (a || b) && c) ≡ (not a && c)
    either true b c e = refl
    either false b c e = ap (λ x. not x && c) e

    neither : (a b : Bool) → (a && not true) ≡ (b && not true)
    neither true true = refl
    neither true false = refl
    neither false true = refl
    neither false false = refl

    by_test : (w : Written) (b : Bool) → is_among w.number s.read ≡ b → is_unread (next makes s (Ack batch)) w ≡ is_unread s w
    by_test w true read = ap (λ b. not (is_among w.number (s.acknowledged ++ numbers)) && not b) read ∙ neither (not (is_among w.number (s.acknowledged ++ numbers))) (not (is_among w.number s.acknowledged))
        ∙ ap (λ b. not (is_among w.number s.acknowledged) && not b) (sym read)
    by_test w false read =
        ap (λ b. not b && not (is_among w.number s.read)) (among_both w.number s.acknowledged numbers)
        ∙ either (is_among w.number s.acknowledged) (is_among w.number numbers) (not (is_among w.number s.read))
        (among_none w.number numbers (λ i. absurd (differ (is_among w.number s.read) (among_in w.number s.read (read_by (out_of batch s.out) refl w.number i)) read)))
      where
        differ : (b : Bool) → b ≡ true → b ≡ false → ⊥
        differ true is isnt = cc
        differ false is isnt = cc

letters_unread : (s : State) (batch : ℕ) (letters : List DeadPart) (left : List Due) → unread (tells_letters s batch letters left) ≡ unread s
letters_unread s batch letters [] = refl
letters_unread s batch letters (due.Letters ds ∷ rest) = refl
letters_unread s batch letters (due.Events id at es ∷ rest) = refl

pub others_leave_unread : (makes : Makes) → OthersLeaveUnread makes
others_leave_unread makes told (Accept input parcel number event) legal may leaves = absurd leaves
others_leave_unread makes told (Mark front) legal may leaves = refl
others_leave_unread makes told (Assure input front) legal may leaves = refl
others_leave_unread makes told (Read batch generation numbers) legal may leaves = absurd leaves
others_leave_unread makes told (Back batch verdicts) legal may leaves = refl
others_leave_unread makes told (Shed batch older newer) legal may leaves = refl
others_leave_unread makes told (Deliver batch at events fates) legal may leaves = refl
others_leave_unread makes told (Letters batch letters) legal may leaves = letters_unread (after makes start told) batch letters (left_of (out_of batch (after makes start told).out))
others_leave_unread makes told (Ack batch) legal may leaves = acknowledged_unread makes (after makes start told) batch (all_turn makes start told legal start_turn)
others_leave_unread makes told (Purge page) legal may leaves = refl
others_leave_unread makes told (Adopt generation config draws) legal may leaves = refl
others_leave_unread makes told (Opened rows limit policy) legal may leaves = absurd leaves
