use Rattle.std.proofs.Common.{◌≡◌, ◌+◌, ◌-◌, ◌<◌, length, true, sym, ap, ◌∙◌, subst, arith}
use Rattle.std.specs.Prelude.{slice_index}
use Rattle.std.specs.Str.{IsCharBoundary}
use Rattle.std.proofs.lemmas.Str.{IsCharBoundary-after_ascii}
use Rattle.filters_mutate.specs.Texts.{is_space}
use Rattle.filters_mutate.proofs.Strips.{space_is_ascii}
use Rattle.filters_mutate.proofs.cases.stripped.Goals as goal

pub range-requires-clause-start_boundary : goal.range-requires-clause-start_boundary
range-requires-clause-start_boundary c =
    λ some. let text = c.args.text.now in
    let start = c.front_end-start.result in
    let same = c.as_bytes-bytes.ensures.value in
    let space : is_space (slice_index text (start - 1)) ≡ true = sym (ap (λ s. is_space (slice_index s (start - 1))) same) ∙ c.front_end-start.ensures.cut some in
    let within : start - 1 < length text = omega (arith, some, c.front_end-start.ensures.within, ap length same) in
    let next : start - 1 + 1 ≡ start = omega (arith, some) in
    subst (IsCharBoundary text) next (IsCharBoundary-after_ascii text (start - 1) c.utf8.text within (space_is_ascii (slice_index text (start - 1)) space))
