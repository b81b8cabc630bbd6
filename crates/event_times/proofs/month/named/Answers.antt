use Rattle.std.proofs.Common.{rules, ℕ, ◌+◌, List, [], ◌∷◌, map, drop, ◌∙◌, refl, sym, ap, arith}
use Rattle.std.specs.Borrow.{Bor}
use Rattle.std.proofs.lemmas.List.{at_drop_more}
use Rattle.event_times.specs.Reading.{named_in}
use Rattle.event_times.proofs.MonthNames.{named_here, named_past}
use Rattle.event_times.proofs.month.named.Goals as goal

abbrev no_name : Bor (List ℕ)
no_name = record { ref_ptr = (0, 0); now = [] }

abbrev texts : List (Bor (List ℕ)) → List (List ℕ)
texts names = map (λ name. name.now) names

pub returns-then-eq_ignore_ascii_case : goal.returns-then-eq_ignore_ascii_case
returns-then-eq_ignore_ascii_case c =
    let l = c.loop-name in
    let names = c.args.names.now in
    let s = c.args.text.now in
    let name = c.as_bytes-bytes.result.now in
    let here = named_here s name c.split_at.result.0.now (search rules) l.number (texts (drop (l.name-index + 1) names)) c.split_at.result.1.now (search rules) (c.if-eq_ignore_ascii_case.ensures.test.0 refl) in
    here ∙ ap (λ t. named_in l.number (t ∷ texts (drop (l.name-index + 1) names)) s) c.as_bytes-bytes.ensures.value
    ∙ sym (at_drop_more (λ rest. named_in l.number (texts rest) s) names l.name-index no_name (search rules)) ∙ l.invariant.same

pub loop-name-preserved : goal.loop-name-preserved
loop-name-preserved c =
    let l = c.loop-name in
    let names = c.args.names.now in
    let s = c.args.text.now in
    let name = c.as_bytes-bytes.result.now in
    let past = named_past s name c.split_at.result.0.now (search rules) l.number (texts (drop (l.name-index + 1) names)) (λ same. search rules) in
    record {
      counted = omega (arith, l.invariant.counted);
      same = sym past ∙ ap (λ t. named_in l.number (t ∷ texts (drop (l.name-index + 1) names)) s) c.as_bytes-bytes.ensures.value
          ∙ sym (at_drop_more (λ rest. named_in l.number (texts rest) s) names l.name-index no_name (search rules)) ∙ l.invariant.same;
    }
