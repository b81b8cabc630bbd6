use Rattle.std.proofs.Common.{[], ◌∷◌, ◌++◌, ap, sym, subst, ◌∙◌}
use Rattle.config_parse.specs.Symbols as symbol
use Rattle.config_tree.specs.Joining.{with_setting}
use Rattle.config_parse.specs.Gives.{GivesRead}
use Rattle.config_parse.specs.Tables.{values_of}
use Rattle.config_parse.proofs.Joined.{fresh_entry}
use Rattle.config_parse.specs.Read as spec
use Rattle.config_parse.specs.Seen.{tokens_of}
use Rattle.config_parse.proofs.Reading.{read_short}
use Rattle.config_parse.proofs.Turns.{fewer, turned, failed_in, entry_short, members_turn, pairs_turn, pairs_turned, settings_turn}
use Rattle.config_parse.proofs.values.+values.Goals as goal

pub members-returns-in_ok-push-in_default : goal.members-returns-in_ok-push-in_default
members-returns-in_ok-push-in_default t_ c =
    subst (GivesRead (λ x. x) c.more.result) (sym (members_turn c.args.depth c.in_ok-token.ensures c.in_default.not-CloseBracket c.in_ok-member-in_default.ensures
    ∙ ap (λ front. spec.behind front (spec.read c.args.depth symbol.More) (tokens_of c.in_ok-member-in_default.rest.now)) (sym (c.in_ok-push-in_default.ensures.ok ∙ ap (λ l. l ++ c.in_ok-member-in_default.member ∷ []) c.new-found.ensures)))) c.more.ensures

pub more-loop-token-smaller : goal.more-loop-token-smaller
more-loop-token-smaller t_ c = fewer (read_short c.args.depth symbol.Value (tokens_of c.in-Some.behind.now)) c.in-Some.ensures c.in_ok-member-in-Comma.ensures

pub put_pairs-loop-token-smaller : goal.put_pairs-loop-token-smaller
put_pairs-loop-token-smaller t_ c = fewer (entry_short c.args.depth (tokens_of c.in_ok-token.behind.now)) c.in_ok-token.ensures c.in_ok-item-in_default.ensures

pub put_pairs-loop-token-preserved : goal.put_pairs-loop-token-preserved
put_pairs-loop-token-preserved t_ c =
    let new = sym c.in_ok-key-in_default.ensures ∙ c.in-Some.is in
    rw (c.in_ok-put_entry-in_default.ensures ∙ fresh_entry c.in-Some.key c.in_ok-item-in_default.item c.loop-token.found.entries _ new)
    (pairs_turned c.args.depth c.loop-token.found.entries c.in-Some.key c.in_ok-item-in_default.item c.in_ok-token.ensures new c.loop-token.invariant c.in_ok-item-in_default.ensures)

pub put_pairs-returns-in_err-item-in_default : goal.put_pairs-returns-in_err-item-in_default
put_pairs-returns-in_err-item-in_default t_ c =
    let front = c.loop-token.found.entries in
    let new = sym c.in_ok-key-in_default.ensures ∙ c.in-Some.is in
    failed_in _ (spec.pairs c.args.depth c.args.found.now.entries) c.args.tokens.now (spec.read c.args.depth (symbol.Pairs (spec.keys_of front))) _ _ front _ _ _ c.from_residual-in_err-item-in_default.result c.from_residual-in_err-item-in_default.ensures.1 (pairs_turn c.args.depth front c.in-Some.key c.in_ok-token.ensures new) c.loop-token.invariant
    c.in_err-item-in_default.ensures

pub put_settings-loop-token-smaller : goal.put_settings-loop-token-smaller
put_settings-loop-token-smaller t_ c = fewer (entry_short c.args.depth (tokens_of c.in_ok-token.behind.now)) c.in_ok-token.ensures c.in_ok-item-in_default.ensures

pub put_settings-loop-token-preserved : goal.put_settings-loop-token-preserved
put_settings-loop-token-preserved t_ c =
    let settings = spec.read c.args.depth symbol.Settings in
    rw c.in_ok-put_setting-in_default.ensures (turned settings settings (λ front x. with_setting c.in-Some.name x front) _ _ (settings_turn c.args.depth c.in-Some.name c.in_ok-token.ensures (sym c.in_ok-name-in_default.ensures ∙ c.in-Some.is)) c.loop-token.invariant c.in_ok-item-in_default.ensures)

pub put_settings-returns-in_err-item-in_default : goal.put_settings-returns-in_err-item-in_default
put_settings-returns-in_err-item-in_default t_ c =
    let settings = spec.read c.args.depth symbol.Settings in
    failed_in _ (spec.settings c.args.depth (values_of c.args.found.now.entries)) c.args.tokens.now settings settings (λ front x. with_setting c.in-Some.name x front) (values_of c.loop-token.found.entries) _ _ _ c.from_residual-in_err-item-in_default.result
    c.from_residual-in_err-item-in_default.ensures.1 (settings_turn c.args.depth c.in-Some.name c.in_ok-token.ensures (sym c.in_ok-name-in_default.ensures ∙ c.in-Some.is)) c.loop-token.invariant c.in_err-item-in_default.ensures
