-- Where a row of a page stands is told by the rows before it, whatever file holds them.
use Rattle.std.proofs.Common.{◌≡◌, ℕ, zero, suc, ◌+◌, ◌-◌, ◌≤◌, List, [], ◌∷◌, ◌++◌, length, drop, refl, sym, ap, ◌∙◌, subst, arith, length-append, length-drop}
use Rattle.std.proofs.Math.Seq.{drop-append-add}
use Rattle.crc_frame.specs.Frames.{frame_of}
use Rattle.queue_page.specs.Blocks.{left_of}
use Rattle.queue_page.specs.Grammar.{AreElements, IsElement}
use Rattle.queue_page.specs.declared.row.PageRow.{PageRow}
use Rattle.queue_page.proofs.Fronts.{length-left}
use Rattle.queue_page.proofs.RunReads.{left_more}
use Rattle.queue_core.specs.NextBatch.{StandsAt}
use Rattle.queue_core.specs.Views.{OpenPageView}
use Rattle.queue_core.proofs.NextRows.{spelled}

-- the place behind so many of these rows, the first of which stands at this one
abbrev place_behind : ℕ → ℕ → List PageRow → ℕ
place_behind place zero rows = place
place_behind place (suc k) [] = place
place_behind place (suc k) (row ∷ rows) = place_behind row.next k rows

behind_more : (place k : ℕ) (rows more : List PageRow) → k ≤ length rows → place_behind place k (rows ++ more) ≡ place_behind place k rows
behind_more place zero rows more few = refl
behind_more place (suc k) [] more few = absurd (omega (arith, few))
behind_more place (suc k) (row ∷ rows) more few = behind_more row.next k rows more (omega (arith, few))

record Behind (version number place k : ℕ) (rows : List PageRow) (bytes : List ℕ) : Type 0 where
  pub past : place ≤ place_behind place k rows
  pub within : place_behind place k rows - place ≤ length bytes
  pub are : AreElements version (number + k) (place_behind place k rows) (drop k rows) (drop (place_behind place k rows - place) bytes)

-- the elements behind so many rows
behind : (version number place k : ℕ) (rows : List PageRow) (bytes : List ℕ) → AreElements version number place rows bytes → Behind version number place k rows bytes
behind version number place zero rows bytes are =
    let none : 0 ≡ place - place = omega arith in
    let same : number ≡ number + 0 = omega arith in
    record {
      past = omega arith;
      within = omega arith;
      are = subst (λ n. AreElements version n place rows (drop (place - place) bytes)) same (subst (λ n. AreElements version number place rows (drop n bytes)) none are);
    }
behind version number place (suc k) [] bytes are =
    let none : place - place ≡ 0 = omega arith in
    record { past = omega arith; within = omega arith; are = ap (λ n. drop n bytes) none ∙ are }
behind version number place (suc k) (row ∷ rows) bytes are =
    let w = behind version (number + 1) row.next k rows are.1 are.5 in
    let at = place_behind row.next k rows in
    let count : number + 1 + k ≡ number + suc k = omega arith in
    let far : length are.0 + (at - row.next) ≡ at - place = omega (arith, are.4.next, w.past) in
    let left : drop (at - row.next) are.1 ≡ drop (at - place) bytes = sym (drop-append-add are.0 are.1 (at - row.next)) ∙ ap (λ n. drop n (are.0 ++ are.1)) far ∙ ap (drop (at - place)) are.2 in
    record {
      past = omega (arith, are.4.next, w.past);
      within = omega (arith, are.4.next, w.past, w.within, ap length are.2, length-append are.0 are.1);
      are = subst (λ n. AreElements version n at (drop k rows) (drop (at - place) bytes)) count
          (subst (λ (l : List ℕ). AreElements version (number + 1 + k) at (drop k rows) l) left w.are);
    }

same_size : (version place other : ℕ) (row : PageRow) (a b : List ℕ) → IsElement version place row a → IsElement version other row b → length a ≡ length b
same_size version place other row a b is too =
    ap length (sym is.framed ∙ ap (frame_of row.number) (sym (spelled version is.body row.origin row.event is.is_body) ∙ spelled version too.body row.origin row.event too.is_body) ∙ too.framed)

-- rows that end a file stand at one place of it
one_place : (version number other_number place other end : ℕ) (rows : List PageRow) (file : List ℕ) → end ≤ length file → place ≤ end → other ≤ end → AreElements version number place rows (left_of file place end)
    → AreElements version other_number other rows (left_of file other end) → place ≡ other
one_place version number other_number place other end [] file long within inside are too =
    omega (arith, ap length are, ap length too, length-left file place end long, length-left file other end long, within, inside)
one_place version number other_number place other end (row ∷ rows) file long within inside are too =
    omega (arith, are.4.next, too.4.next, same_size version place other row are.0 too.0 are.4 too.4)

module _ (o : OpenPageView) (rows : List PageRow) (file : List ℕ) (long : o.page.state.length ≤ length file) (first : StandsAt o rows file o.page.state.least 1) where
  -- the page has as many rows as these
  all_of : length rows ≡ o.page.state.count
  all_of = omega (arith, first.count, length-drop (o.page.state.least - o.page.state.least) rows)

  stands_behind : (k : ℕ) → k ≤ length rows → StandsAt o rows file (o.page.state.least + k) (place_behind 1 k rows)
  stands_behind k few =
      let none : o.page.state.least - o.page.state.least ≡ 0 = omega arith in
      let w = behind o.page.version o.page.state.least 1 k rows (left_of file 1 o.page.state.length)
      (subst (λ n. AreElements o.page.version o.page.state.least 1 (drop n rows) (left_of file 1 o.page.state.length)) none first.are) in
      let at = place_behind 1 k rows in
      let here : k ≡ o.page.state.least + k - o.page.state.least = omega arith in
      let place : 1 + (at - 1) ≡ at = omega (arith, w.past) in
      let left : drop (at - 1) (left_of file 1 o.page.state.length) ≡ left_of file at o.page.state.length =
      left_more file 1 o.page.state.length (at - 1) ∙ ap (λ n. left_of file n o.page.state.length) place in
      record {
        within = omega (arith, w.past, w.within, first.within, length-left file 1 o.page.state.length long);
        behind = omega arith;
        count = omega (arith, ap (λ n. length (drop n rows)) (sym here), length-drop k rows, few, all_of);
        are = subst (λ n. AreElements o.page.version (o.page.state.least + k) at (drop n rows) (left_of file at o.page.state.length)) here
            (subst (λ (l : List ℕ). AreElements o.page.version (o.page.state.least + k) at (drop k rows) l) left w.are);
      }

module _ (o : OpenPageView) (rows : List PageRow) (file : List ℕ) (long : o.page.state.length ≤ length file) (first : StandsAt o rows file o.page.state.least 1) (number place : ℕ) (here : StandsAt o rows file number place) where
  pub few_before : number - o.page.state.least ≤ length rows
  few_before = omega (arith, here.count, here.behind, all_of o rows file long first, length-drop (number - o.page.state.least) rows)

  is_behind : o.page.state.least + (number - o.page.state.least) ≡ number
  is_behind = omega (arith, here.behind)

  place_is : place ≡ place_behind 1 (number - o.page.state.least) rows
  place_is =
      let k = number - o.page.state.least in
      let s = stands_behind o rows file long first k few_before in
      let again : o.page.state.least + k - o.page.state.least ≡ k = omega arith in
      one_place o.page.version number (o.page.state.least + k) place (place_behind 1 k rows) o.page.state.length (drop k rows) file long here.within s.within here.are
      (subst (λ n. AreElements o.page.version (o.page.state.least + k) (place_behind 1 k rows) (drop n rows) (left_of file (place_behind 1 k rows) o.page.state.length)) again s.are)

  -- and in another file it stands at the same place, with further rows behind it or without
  pub stands_again : (x : OpenPageView) (more : List PageRow) (new : List ℕ) → x.page.state.least ≡ o.page.state.least → x.page.state.length ≤ length new → StandsAt x (rows ++ more) new x.page.state.least 1
      → StandsAt x (rows ++ more) new number place
  stands_again x more new least new_long stands =
      let k = number - o.page.state.least in
      let s = stands_behind x (rows ++ more) new new_long stands k (omega (arith, few_before, length-append rows more)) in
      subst (λ n. StandsAt x (rows ++ more) new n place) (ap (λ n. n + k) least ∙ is_behind)
      (subst (λ n. StandsAt x (rows ++ more) new (x.page.state.least + k) n) (behind_more 1 k rows more few_before ∙ sym place_is) s)
