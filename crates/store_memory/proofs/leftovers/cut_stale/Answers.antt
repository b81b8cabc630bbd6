use Rattle.std.proofs.Common.{◌≡◌, ℕ, List, Option, Some, None, option_map, length, refl, sym, ap, ◌∙◌}
use Rattle.std.proofs.lemmas.Option.{same_Some}
use Rattle.io_traits.specs.Leftovers.{stale, with_foreign, cut_left}
use Rattle.io_memory.specs.Tables.{content_of}
use Rattle.io_memory.proofs.Changes.{changed_on, missing_changed}
use Rattle.store_memory.proofs.leftovers.cut_stale.Goals as goal

of_length : (n end : ℕ) (file : Option (List ℕ)) → Some end ≡ option_map length file → Some (with_foreign n end file) ≡ cut_left stale n file
of_length n end None is = cc
of_length n end (Some bytes) is = ap (λ k. Some (with_foreign n k (Some bytes))) (same_Some _ _ is)

of_none : (n : ℕ) (file : Option (List ℕ)) → None ≡ option_map length file → cut_left stale n file ≡ file
of_none n None is = refl
of_none n (Some bytes) is = cc

pub returns-in-Some : goal.returns-in-Some
returns-in-Some c =
    changed_on c.args.name.now (λ f. Some (with_foreign c.args.length c.in-Some.end f)) (cut_left stale c.args.length) c.args.files.now c.write_foreign.new.files c.write_foreign.result
    (of_length c.args.length c.in-Some.end (content_of c.args.files.now c.args.name.now) (sym c.in-Some.is ∙ c.length_in.ensures)) c.write_foreign.ensures

pub returns-in-None : goal.returns-in-None
returns-in-None c =
    missing_changed c.args.name.now (cut_left stale c.args.length) c.args.files.now (of_none c.args.length (content_of c.args.files.now c.args.name.now) (sym c.in-None.is ∙ c.length_in.ensures))
