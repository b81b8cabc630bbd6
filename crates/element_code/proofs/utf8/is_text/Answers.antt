use Rattle.std.proofs.Common.{◌≡◌, sym, ◌∙◌}
use Rattle.std.proofs.lemmas.Str.{IsUtf8-from_ascii, is_utf8-from_IsUtf8}
use Rattle.element_code.proofs.Ascii.{told_by}
use Rattle.element_code.proofs.utf8.is_text.Goals as goal

pub returns-then-is_ascii : goal.returns-then-is_ascii
returns-then-is_ascii c = let b = c.args.bytes.now in c.if-is_ascii.true ∙ sym (is_utf8-from_IsUtf8 b (IsUtf8-from_ascii b (c.is_ascii.ensures c.if-is_ascii.true)))

pub returns-else-is_ascii : goal.returns-else-is_ascii
returns-else-is_ascii c = c.is_ok.ensures.value ∙ told_by (λ s. s.now ≡ c.args.bytes.now) c.from_utf8.result c.args.bytes.now c.from_utf8.ensures
