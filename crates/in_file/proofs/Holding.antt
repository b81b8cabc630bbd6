-- The lines among the bytes that are held.
use Rattle.std.proofs.Common.{◌≡◌, ◌<◌, inl, inr, ℕ, true, false, true≢false, List, [], ◌∷◌, length, drop, refl, sym, ap, ◌∙◌, arith}
use Rattle.std.proofs.Math.Path.{ap₂}
use Rattle.std.specs.Prelude.{Option, Some, None, IfSome, IfNone}
use Rattle.std.specs.Option.{is_some as is_found}
use Rattle.byte_lines.specs.Split.{HasNoLineFeed}
use Rattle.byte_lines.specs.declared.find.FoundLine.{FoundLine}
use Rattle.byte_lines.specs.Text.{text_of}
use Rattle.byte_lines.specs.Lines.{line_text}
use Rattle.byte_lines.specs.Unread.{Unread, lines_left}
use Rattle.byte_lines.proofs.Giving.{unread, lines_left-line, lines_left-last, gives_none}
use Rattle.in_file.specs.Held.{IsWholeFirst, IsLast, IsFirst, is_some, has_line, passed}
use Rattle.in_file.specs.Openings.{line_limit}

-- none is held
pub none_held : (u : Unread) (bytes : List ℕ) → u.limit ≡ line_limit → bytes ≡ u.bytes → HasNoLineFeed bytes → length bytes < line_limit → (u.ended ≡ true → length bytes ≡ 0) → lines_left u ≡ []
none_held u bytes limit is free short none = ap₂ (λ n b. lines_left (unread n b u.ended)) limit (sym is) ∙ gives_none line_limit bytes u.ended (omega arith) free short none

-- one is held
pub whole_first : (u : Unread) (says n : ℕ) → 0 < u.limit → (w : IsWholeFirst u says n) → lines_left u ≡ line_text w.line ∷ lines_left (passed n u)
whole_first u says n some w = ap (λ b. lines_left (unread u.limit b u.ended)) w.whole ∙ lines_left-line u.limit w.line (drop n u.bytes) u.ended some w.is

pub last_first : (u : Unread) (says n : ℕ) → IsLast u says n → lines_left u ≡ text_of u.bytes ∷ []
last_first u says n l = ap (λ e. lines_left (unread u.limit u.bytes e)) l.at_end ∙ lines_left-last u.limit u.bytes l.some l.short l.free

pub line_held : (u : Unread) (says n : ℕ) → 0 < u.limit → IsFirst u says n → true ≡ has_line u
line_held u says n some (inl w) = sym (ap is_some (whole_first u says n some w))
line_held u says n some (inr l) = sym (ap is_some (last_first u says n l))

-- by a search for one
pub held_by : (u : Unread) (found : Option FoundLine) → 0 < u.limit → IfSome found (λ line. IsFirst u line.content_len line.taken) → IfNone found (lines_left u ≡ []) → is_found found ≡ has_line u
held_by u None some first none = sym (ap is_some none)
held_by u (Some line) some first none = line_held u line.content_len line.taken some first

pub none_is : (lines : List (List ℕ)) → is_some lines ≡ false → lines ≡ []
none_is [] is = refl
none_is (line ∷ lines) is = absurd (true≢false is)
