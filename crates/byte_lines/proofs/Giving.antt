-- The lines that a reader has left, one by one.
use Rattle.std.proofs.Common.{◌≡◌, ◌<◌, ℕ, suc, Bool, true, false, true≢false, List, [], ◌∷◌, ◌++◌, map, length, refl, sym, ap, ◌∙◌, arith, append-nil, if◌then◌else◌}
use Rattle.std.specs.List.{flat_map}
use Rattle.byte_lines.specs.Split.{HasNoLineFeed, RawLine, IsRawLine, line_bytes, line_content, Split, split_of}
use Rattle.byte_lines.specs.Text.{text_of}
use Rattle.byte_lines.specs.Lines.{line_text, last_line, texts_of}
use Rattle.byte_lines.specs.Unread.{Unread, GivesLine, lines_left, rest_of}
use Rattle.byte_lines.proofs.Content.{strip-carriage_return, strip-other}
use Rattle.byte_lines.proofs.Decoding.{DecodesTo-text_of, text_of-DecodesTo, IsUtf8-text_of, text_of-IsUtf8}
use Rattle.byte_lines.proofs.Splitting.{split_of-line, split_of-rest, SplitsInto-split_of, split_of-only, split_of-settled, lines-append, whole_lines-append, rest-append}
pub use Rattle.byte_lines.specs.Unread.{unread}

pub lines_left-line : (limit : ℕ) (line : RawLine) (more : List ℕ) (ended : Bool) → 0 < limit → IsRawLine limit line
    → lines_left (unread limit (line_bytes line ++ more) ended) ≡ line_text line ∷ lines_left (unread limit more ended)
lines_left-line limit line more ended some ok = ap (texts_of ended) (split_of-line limit line more some ok)

pub last_line-some : (bytes : List ℕ) → 0 < length bytes → last_line bytes ≡ text_of bytes ∷ []
last_line-some [] some = absurd (omega arith)
last_line-some (b ∷ bytes) some = refl

pub lines_left-last : (limit : ℕ) (rest : List ℕ) → 0 < length rest → length rest < limit → HasNoLineFeed rest → lines_left (unread limit rest true) ≡ text_of rest ∷ []
lines_left-last limit rest some short free = ap (texts_of true) (split_of-rest limit rest free short) ∙ last_line-some rest some

pub lines_left-waiting : (limit : ℕ) (rest : List ℕ) → length rest < limit → HasNoLineFeed rest → lines_left (unread limit rest false) ≡ []
lines_left-waiting limit rest short free = ap (texts_of false) (split_of-rest limit rest free short)

pub lines_left-nil : (limit : ℕ) (ended : Bool) → 0 < limit → lines_left (unread limit [] ended) ≡ []
lines_left-nil limit true some = ap (texts_of true) (split_of-rest limit [] tt some)
lines_left-nil limit false some = lines_left-waiting limit [] some tt

-- a whole line that was found, of which `said` is what it says
pub gives_line : (limit : ℕ) (bytes : List ℕ) (ended : Bool) (line : RawLine) (said text behind : List ℕ) → 0 < limit → IsRawLine limit line → line_content line ≡ said → text ≡ text_of said
    → bytes ≡ line_bytes line ++ behind → GivesLine limit bytes ended text behind
gives_line limit bytes ended line said text behind some ok says is whole = record {
  lines = ap (λ b. lines_left (unread limit b ended)) whole ∙ lines_left-line limit line behind ended some ok
      ∙ ap (λ t. t ∷ lines_left (unread limit behind ended)) (ap text_of says ∙ sym is);
  rest = λ _. sym (ap (λ b. (split_of limit b).rest) whole ∙ ap (λ s. s.rest) (split_of-line limit line behind some ok));
}

-- the line that the end makes
pub gives_last : (limit : ℕ) (bytes text behind : List ℕ) (ended : Bool) → 0 < limit → HasNoLineFeed bytes → length bytes < limit → 0 < length bytes → ended ≡ true → text ≡ text_of bytes → behind ≡ []
    → GivesLine limit bytes ended text behind
gives_last limit bytes text behind ended some free short more end is none = record {
  lines = ap (λ e. lines_left (unread limit bytes e)) end ∙ lines_left-last limit bytes more short free ∙ ap (λ t. t ∷ []) (sym is)
      ∙ ap (λ t. text ∷ t) (sym (ap (λ b. lines_left (unread limit b ended)) none ∙ lines_left-nil limit ended some));
  rest = λ still. absurd (true≢false (sym end ∙ still));
}

-- and none
pub gives_none : (limit : ℕ) (bytes : List ℕ) (ended : Bool) → 0 < limit → HasNoLineFeed bytes → length bytes < limit → (ended ≡ true → length bytes ≡ 0) → lines_left (unread limit bytes ended) ≡ []
gives_none limit [] ended some free short none = lines_left-nil limit ended some
gives_none limit (b ∷ bytes) true some free short none = absurd (let is : suc (length bytes) ≡ 0 = none refl in omega arith)
gives_none limit (b ∷ bytes) false some free short none = lines_left-waiting limit (b ∷ bytes) short free

no_items : {A B : Type 0} (f : A → B) (xs : List A) → map f xs ≡ [] → xs ≡ []
no_items f [] none = refl
no_items f (x ∷ xs) none = absurd cc

abbrev split_as : List RawLine → List ℕ → Split
split_as lines rest = record { lines = lines; rest = rest }

-- a reader in the middle of an input with no line to give holds what is left, and that only
pub rest_of-none_left : (u : Unread) → 0 < u.limit → u.ended ≡ false → lines_left u ≡ [] → (split_of u.limit u.bytes ≡ record { lines = []; rest = u.bytes }) × (rest_of u ≡ u.bytes)
rest_of-none_left u some open_end none =
    let s = split_of u.limit u.bytes in
    let texts = map line_text s.lines in
    let no_texts : texts ≡ [] = sym (append-nil texts) ∙ ap (λ e. texts ++ (if e then last_line s.rest else [])) (sym open_end) ∙ none in
    let no_lines = no_items line_text s.lines no_texts in
    let same : u.bytes ≡ s.rest = (SplitsInto-split_of u.limit u.bytes some).whole ∙ ap (λ ls. flat_map line_bytes ls ++ s.rest) no_lines in
    (ap (λ ls. split_as ls s.rest) no_lines ∙ ap (λ r. split_as [] r) (sym same), sym same)

pub ruleset laws = (split_of-only, strip-carriage_return, strip-other, DecodesTo-text_of, text_of-DecodesTo, IsUtf8-text_of, text_of-IsUtf8, lines-append, whole_lines-append, rest-append, split_of-settled, lines_left-line, lines_left-last, lines_left-waiting, lines_left-nil)
