use Rattle.std.proofs.Common.{◌≡◌, [], Some, length, option_map, sym, ap, ◌∙◌, refl, rules}
use Rattle.std.specs.Str.{chars, IsUtf8}
use Rattle.std.proofs.lemmas.List.{nil_from_length}
use Rattle.std.proofs.lemmas.Str.{chars-nil}
use Rattle.filters_text.specs.Pairs.{since, behind_one}
use Rattle.filters_text.specs.Views.{both_chars, found_of}
use Rattle.filters_text.proofs.CutChars.{pairs}
use Rattle.filters_text.proofs.Missing.{missing_since, missing_one, missing_left}
use Rattle.filters_text.proofs.Pieces.{at_set, no_chars, no_key, with_value}
use Rattle.filters_text.proofs.kv_text.Splits.piece.Goals as goal

pub returns-then-is_empty-clause-piece : goal.returns-then-is_empty-clause-piece
returns-then-is_empty-clause-piece c =
    let cut = at_set c.as_slice.result.now c.args.self.now.keys (chars c.args.text.now) (both_chars c.cut.result) c.cut.ensures c.as_slice.ensures in
    let key = c.cut.result.0.now in
    let none : length key ≡ 0 = search rules in
    let none_left : chars key ≡ [] = ap chars (nil_from_length key none) ∙ chars-nil in
    no_key c.args.self.now (chars c.args.text.now) (chars key) (chars c.cut.result.1.now) (ap (λ p. p.0) cut) (ap (λ p. p.1) cut)
    (chars c.next_piece.result.now) none_left c.next_piece.ensures

pub returns-then-is_empty-clause-unclosed : goal.returns-then-is_empty-clause-unclosed
returns-then-is_empty-clause-unclosed c =
    let cut = at_set c.as_slice.result.now c.args.self.now.keys (chars c.args.text.now) (both_chars c.cut.result) c.cut.ensures c.as_slice.ensures in
    let s = c.args.self.now in
    missing_left c.args.unclosed.now.items s.fields s.keys (chars c.args.text.now) (chars c.next_piece.result.now)
    (c.next_piece.ensures ∙ ap (λ p. since s.fields p.1) cut) c.requires

pub returns-in_default-clause-unclosed : goal.returns-in_default-clause-unclosed
returns-in_default-clause-unclosed c =
    let cut = at_set c.as_slice.result.now c.args.self.now.keys (chars c.args.text.now) (both_chars c.cut.result) c.cut.ensures c.as_slice.ensures in
    let s = c.args.self.now in
    missing_left c.args.unclosed.now.items s.fields s.keys (chars c.args.text.now) (chars c.next_piece-in_default.result.now)
    (c.next_piece-in_default.ensures ∙ ap (λ p. since s.fields p.1) cut) c.requires

pub value-requires : goal.value-requires
value-requires c =
    let cut = at_set c.as_slice.result.now c.args.self.now.keys (chars c.args.text.now) (both_chars c.cut.result) c.cut.ensures c.as_slice.ensures in
    let s = c.args.self.now in
    let us = c.args.unclosed.now.items in
    let cs = chars c.args.text.now in
    let one : behind_one s.values (since s.keys cs) ≡ Some (chars c.in-Some.behind.now) =
    ap (λ p. behind_one s.values p.1) (sym cut) ∙ ap (λ set. behind_one set (chars c.cut.result.1.now)) (sym c.as_slice-2.ensures) ∙ sym c.behind_one.ensures ∙ ap (option_map (λ rest. chars rest.now)) c.in-Some.is in
    missing_one us s.values (since s.keys cs) (chars c.in-Some.behind.now) one (missing_since us s.keys cs c.requires)

pub returns-clause-piece : goal.returns-clause-piece
returns-clause-piece c =
    let cut = at_set c.as_slice.result.now c.args.self.now.keys (chars c.args.text.now) (both_chars c.cut.result) c.cut.ensures c.as_slice.ensures in
    let s = c.args.self.now in
    let key = c.cut.result.0.now in
    let rest = chars c.cut.result.1.now in
    let u : IsUtf8 key = search rules in
    let one : behind_one s.values rest ≡ Some (chars c.in-Some.behind.now) = ap (λ set. behind_one set rest) (sym c.as_slice-2.ensures) ∙ sym c.behind_one.ensures ∙ ap (option_map (λ r. chars r.now)) c.in-Some.is in
    pairs _ _ _ _ c.with_key.ensures refl
    ∙ with_value s (chars c.args.text.now) (chars key) rest (ap (λ p. p.0) cut) (ap (λ p. p.1) cut)
    (chars c.in-Some.behind.now) (found_of (c.in_ok-value.value, c.in_ok-value.left)) (λ none. let empty : length key ≡ 0 = no_chars key u none in search rules) one c.in_ok-value.ensures.found
