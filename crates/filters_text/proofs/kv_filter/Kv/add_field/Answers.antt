use Rattle.std.proofs.Common.{◌≡◌, ◌++◌, ◌∷◌, [], true, false, append-nil, sym, ap, ◌∙◌, rules}
use Rattle.std.specs.Prelude.{chars}
use Rattle.filters_text.specs.Kv.{trimmed_bytes, is_wanted}
use Rattle.filters_text.proofs.CutChars.{pairs}
use Rattle.filters_text.proofs.Wanted.{trimmed_is, field_kept, field_dropped}
use Rattle.filters_text.proofs.kv_filter.Kv.add_field.Goals as goal

pub returns-in_ok-push : goal.returns-in_ok-push
returns-in_ok-push c =
    let f = c.args.self.now in
    let key = chars c.args.key.now in
    let value = chars c.args.value.now in
    let k = c.trimmed-key.result.now in
    let t = c.trimmed-value.result.now in
    let old = c.args.fields.now.items in
    let k_is : k ≡ trimmed_bytes f.trim_key key = trimmed_is c.as_slice.result.now f.trim_key key k c.trimmed-key.utf8 c.trimmed-key.ensures c.as_slice.ensures in
    let t_is : t ≡ trimmed_bytes f.trim_value value =
    trimmed_is c.as_slice-then-is_wanted.result.now f.trim_value value t c.trimmed-value.utf8 c.trimmed-value.ensures c.as_slice-then-is_wanted.ensures in
    let wanted : is_wanted f k ≡ true = search rules in
    let pushed : c.push.new.self.items ≡ old ++ (c.in_ok-name_of.field-0, c.in_ok-of.field-0) ∷ [] = search rules in
    pushed ∙ ap (λ p. old ++ p ∷ []) (pairs _ _ _ _ c.in_ok-name_of.ensures c.in_ok-of.ensures) ∙ ap (λ l. old ++ l) (sym (field_kept f key value k k_is t t_is wanted))

pub returns-else-is_wanted : goal.returns-else-is_wanted
returns-else-is_wanted c =
    let f = c.args.self.now in
    let key = chars c.args.key.now in
    let value = chars c.args.value.now in
    let k = c.trimmed-key.result.now in
    let old = c.args.fields.now.items in
    let k_is : k ≡ trimmed_bytes f.trim_key key = trimmed_is c.as_slice.result.now f.trim_key key k c.trimmed-key.utf8 c.trimmed-key.ensures c.as_slice.ensures in
    let unwanted : is_wanted f k ≡ false = search rules in
    sym (append-nil old) ∙ ap (λ l. old ++ l) (sym (field_dropped f key value k k_is unwanted))
