use Rattle.std.proofs.Common.{rules}
use Rattle.batch_shop.proofs.Carrying.{lends}
use Rattle.batch_shop.proofs.Keeping.{takes_it}
use Rattle.batch_shop.proofs.endpoint.Endpoint.take_job.Goals as goal

pub compare_exchange-requires : goal.compare_exchange-requires
compare_exchange-requires g c = (search rules, search rules, takes_it _ _ _ _ c.requires)

pub exchange-requires : goal.exchange-requires
exchange-requires g c = let taken = c.compare_exchange.ensures.2.0 (search rules) in (search rules, lends _ _ _ taken.1)
