use Rattle.std.proofs.Common.{rules}
use Rattle.batch_shop.proofs.Keeping.{opens_table}
use Rattle.batch_shop.proofs.endpoint.Endpoint.open.Goals as goal

pub store-requires : goal.store-requires
store-requires g c = (search rules, search rules, opens_table _ _ _ _ (search rules))
