use Rattle.std.proofs.Common.{rules}
use Rattle.batch_shop.proofs.Carrying.{puts}
use Rattle.batch_shop.proofs.Keeping.{gives_back}
use Rattle.batch_shop.proofs.endpoint.Endpoint.hand_back.Goals as goal

pub store-requires : goal.store-requires
store-requires g c = (search rules, search rules, gives_back _ _ _ _ c.requires.0 c.args.done c.requires.2 (puts _ _ _ _ _ c.requires.1.1 c.exchange.ensures.3))
