use Rattle.std.proofs.Common.{rules, sym, ap, ◌∙◌}
use Rattle.batch_shop.specs.Rule.{given_away}
use Rattle.batch_shop.proofs.Carrying.{puts}
use Rattle.batch_shop.proofs.Keeping.{gives_job}
use Rattle.batch_shop.proofs.endpoint.Endpoint.give.Goals as goal

pub store-requires : goal.store-requires
store-requires g c = (search rules, search rules, gives_job _ _ _ _ c.requires.0 c.args.job (puts _ _ _ _ _ c.requires.2 c.exchange.ensures.3))

pub returns : goal.returns
returns g c = c.store.ensures.2 c.args.job c.requires.0 (puts _ _ _ _ _ c.requires.2 c.exchange.ensures.3)
    ∙ ap (given_away c.args.job) (puts _ _ _ _ _ c.requires.2 c.exchange.ensures.3) ∙ ap (given_away c.args.job) (sym c.requires.2)
