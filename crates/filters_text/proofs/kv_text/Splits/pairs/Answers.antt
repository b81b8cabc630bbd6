use Rattle.std.proofs.Common.{◌≡◌, ◌<◌, ◌≤◌, ◌++◌, [], length, map, sym, ap, ◌∙◌, subst, rules}
use Rattle.std.specs.Str.{chars}
use Rattle.std.proofs.lemmas.List.{nil_from_length}
use Rattle.std.proofs.lemmas.Str.{chars-nil}
use Rattle.filters_text.specs.Pairs.{behind, piece_at, listed, next_pairs, pairs_in, are_missing}
use Rattle.filters_text.specs.Views.{both_chars}
use Rattle.filters_text.proofs.Pieces.{no_chars, behind_le, behind_twice, next_turn, next_end}
use Rattle.filters_text.proofs.kv_text.Splits.pairs.Goals as goal

pub loop-rest-init : goal.loop-rest-init
loop-rest-init c =
    let s = c.args.self.now in
    let cs = chars c.args.text.now in
    let rest = chars c.behind_splits-rest.result.now in
    let is : rest ≡ behind s.fields cs = c.behind_splits-rest.ensures in (
      search rules,
      ap (λ us. are_missing us rest) c.new-unclosed.ensures.items,
      ap (behind s.fields) is ∙ behind_twice s.fields cs ∙ sym is,
      (
        length cs,
        subst (λ l. length l ≤ length cs) (sym is) (behind_le s.fields cs),
        ap (λ found. map both_chars found ++ next_pairs s (length cs) rest) c.new-found.ensures.items ∙ ap (next_pairs s (length cs)) is,
      ),
    )

pub loop-rest-smaller : goal.loop-rest-smaller
loop-rest-smaller c =
    let s = c.args.self.now in
    let l = c.loop-rest in
    let cs = chars l.rest.now in
    let turn = next_turn s cs l.invariant.3.0 (map both_chars l.found.items) (pairs_in s (chars c.args.text.now))
    (λ none. let empty : length l.rest.now ≡ 0 = no_chars l.rest.now l.invariant.0 none in search rules) l.invariant.2 l.invariant.3.1 l.invariant.3.2 in
    let next : chars c.behind_splits-rest-in-loop-rest.result.now ≡ behind s.fields (piece_at s cs).1 =
    c.behind_splits-rest-in-loop-rest.ensures ∙ ap (λ p. behind s.fields p.1) c.in_ok-pair.ensures.piece in
    let less : length (chars c.behind_splits-rest-in-loop-rest.result.now) < length cs = subst (λ l. length l < length cs) (sym next) turn.0 in
    less

pub loop-rest-preserved : goal.loop-rest-preserved
loop-rest-preserved c =
    let s = c.args.self.now in
    let l = c.loop-rest in
    let cs = chars l.rest.now in
    let left = chars c.in_ok-pair.left.now in
    let rest = chars c.behind_splits-rest-in-loop-rest.result.now in
    let turn = next_turn s cs l.invariant.3.0 (map both_chars l.found.items) (pairs_in s (chars c.args.text.now))
    (λ none. let empty : length l.rest.now ≡ 0 = no_chars l.rest.now l.invariant.0 none in search rules) l.invariant.2 l.invariant.3.1 l.invariant.3.2 in
    let is : rest ≡ behind s.fields left = c.behind_splits-rest-in-loop-rest.ensures in
    let next : rest ≡ behind s.fields (piece_at s cs).1 = is ∙ ap (λ p. behind s.fields p.1) c.in_ok-pair.ensures.piece in
    let added : map both_chars c.add_pair.new.found.items ≡ map both_chars l.found.items ++ listed (piece_at s cs).0 =
    c.in_ok-add_pair.ensures ∙ ap (λ p. map both_chars l.found.items ++ listed p.0) c.in_ok-pair.ensures.piece in (
      search rules,
      ap (are_missing c.piece.new.unclosed.items) is ∙ c.in_ok-pair.ensures.unclosed,
      ap (behind s.fields) is ∙ behind_twice s.fields left ∙ sym is,
      (
        turn.1.0,
        subst (λ l. length l ≤ turn.1.0) (sym next) turn.1.1,
        ap (λ found. found ++ next_pairs s turn.1.0 rest) added ∙ ap (λ l. (map both_chars c.loop-rest.found.items ++ listed (piece_at s cs).0) ++ next_pairs s turn.1.0 l) next ∙ turn.1.2,
      ),
    )

pub returns : goal.returns
returns c =
    let s = c.args.self.now in
    let l = c.loop-rest in
    let none : length l.rest.now ≡ 0 = search rules in
    let empty : chars l.rest.now ≡ [] = ap chars (nil_from_length l.rest.now none) ∙ chars-nil in
    next_end s l.invariant.3.0 (map both_chars l.found.items) (pairs_in s (chars c.args.text.now)) (subst (λ cs. map both_chars l.found.items ++ next_pairs s l.invariant.3.0 cs ≡ pairs_in s (chars c.args.text.now)) empty l.invariant.3.2)
