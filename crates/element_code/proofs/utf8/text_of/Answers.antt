use Rattle.std.proofs.Common.{sym, ◌∙◌, rules}
use Rattle.std.proofs.lemmas.Str.{IsUtf8-from_is_utf8, is_utf8-from_IsUtf8}
use Rattle.element_code.proofs.utf8.text_of.Goals as goal

pub from_utf8_unchecked-requires : goal.from_utf8_unchecked-requires
from_utf8_unchecked-requires c = IsUtf8-from_is_utf8 c.args.bytes.now (sym c.is_text.ensures ∙ c.if-is_text.true)

pub returns-else-is_text : goal.returns-else-is_text
returns-else-is_text c = λ is. search (sym c.if-is_text.false ∙ c.is_text.ensures ∙ is_utf8-from_IsUtf8 c.args.bytes.now is, rules)
