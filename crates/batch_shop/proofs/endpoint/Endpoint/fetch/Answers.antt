use Rattle.std.proofs.Common.{rules}
use Rattle.batch_shop.proofs.Carrying.{lends}
use Rattle.batch_shop.proofs.Keeping.{fetches}
use Rattle.batch_shop.proofs.endpoint.Endpoint.fetch.Goals as goal

pub compare_exchange-requires : goal.compare_exchange-requires
compare_exchange-requires g c = (search rules, search rules, fetches _ _ _ _ c.requires.0 c.requires.1 c.requires.2)

pub exchange-requires : goal.exchange-requires
exchange-requires g c = let home = c.compare_exchange.ensures.2.0 (search rules) in (search rules, lends _ _ _ home.1.after_is)
