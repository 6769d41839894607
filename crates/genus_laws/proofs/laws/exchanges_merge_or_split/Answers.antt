use Rattle.genus_laws.proofs.ExchangeCounts.{exchange-counted}
use Rattle.genus_laws.proofs.laws.exchanges_merge_or_split.Goals as goal

pub returns : goal.returns
returns c = exchange-counted
