use Rattle.std.proofs.Common.{◌≡◌, ◌++◌, Some, sym, ap, ◌∙◌, List, ℕ}
use Rattle.io_memory.specs.Tables.{lengthened}
use Rattle.io_memory.proofs.Changes.{set_on, kept_on, on_ok, made_at}
use Rattle.io_memory.proofs.tables.append_in.Goals as goal

pub returns-in-Some-clause-ok : goal.returns-in-Some-clause-ok
returns-in-Some-clause-ok c =
    let more : c.from_vec-more.result ≡ c.args.bytes.now = c.from_vec-more.ensures ∙ c.in_ok-from_slice.ensures.items in
    set_on c.args.name.now (lengthened c.args.bytes.now) c.args.files.now c.in-Some.file.now c.append.new.self c.append.result c.in-Some.ensures.value
    (on_ok c.append.result (λ is. ap Some (sym (is ∙ ap (λ (l : List ℕ). c.in-Some.file.now ++ l) more))) c.append.ensures.ok)

pub returns-in-Some-clause-err : goal.returns-in-Some-clause-err
returns-in-Some-clause-err c = kept_on c.args.name.now c.args.files.now c.in-Some.file.now c.append.new.self c.append.result c.in-Some.ensures.value c.append.ensures.err

pub returns-clause-ok : goal.returns-clause-ok
returns-clause-ok c =
    made_at c.args.name.now c.in_ok-of.field-0 (lengthened c.args.bytes.now) c.args.files.now c.insert.new.self _ c.in_default.ensures.value c.in_ok-of.ensures c.in_ok-insert.ensures.ok
    (ap Some (sym (c.from_vec-more.ensures ∙ c.in_ok-from_slice.ensures.items)))
