use Rattle.kh_types.proofs.ExchangedCycles.{class_count-exchange_apart, class_count-exchange_together}
use Rattle.face_walk.proofs.laws.arcs.exchanges_change_cycles_by_one.Goals as goal

pub returns : goal.returns
returns c = record { apart = class_count-exchange_apart; together = class_count-exchange_together }
