use Rattle.std.proofs.Common.{◌≡◌, ◌++◌, List, ℕ, subst, OnOk, string_bytes}
use Rattle.std.specs.Prelude.{encode_utf8}
use Rattle.event_json.proofs.Added.{added, replacement_is}
use Rattle.event_json.proofs.string.add_replacement.Goals as goal

pub returns : goal.returns
returns c = subst (λ (bytes : List ℕ). OnOk c.push.result (string_bytes c.push.new.self ≡ string_bytes c.args.to.now ++ bytes)) replacement_is (added c.push.result (string_bytes c.args.to.now) (string_bytes c.push.new.self) (encode_utf8 65533) c.push.ensures.bytes)
