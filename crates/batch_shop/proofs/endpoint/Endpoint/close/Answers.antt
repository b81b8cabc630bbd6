use Rattle.std.proofs.Common.{rules}
use Rattle.batch_shop.proofs.Keeping.{closes_table}
use Rattle.batch_shop.proofs.endpoint.Endpoint.close.Goals as goal

pub store-requires : goal.store-requires
store-requires g c = (search rules, search rules, closes_table _ _ _ _ c.requires.0 c.requires.1 c.requires.2)
