-- What stands in a rack, of each kind, where all of it is the same.
use Rattle.std.proofs.Common.{◌≡◌, List, ap₂}
use Rattle.foreign_parts.specs.Boxes.{Refusals, Stand, stand_of}
use Rattle.foreign_parts.specs.Stocks.{Stock}
use Rattle.foreign_parts.specs.declared.boxes.BoxKind.{BoxKind}
use Rattle.foreign_parts.specs.declared.boxes.BoxKind.TheVariants as kind

abbrev one : List Stock → Refusals → Stand
one stocks refusals = record { stocks = stocks; refusals = refusals }

pub stands_same : (fs gs : List Stock) (fr gr : Refusals) (os ps : List Stock) (os_refuse ps_refuse : Refusals) → gs ≡ fs → gr ≡ fr → ps ≡ os → ps_refuse ≡ os_refuse → (k : BoxKind) → stand_of gs gr ps ps_refuse k ≡ stand_of fs fr os os_refuse k
stands_same fs gs fr gr os ps os_refuse ps_refuse a b c d kind.Filter = ap₂ one a b
stands_same fs gs fr gr os ps os_refuse ps_refuse a b c d kind.Output = ap₂ one c d
