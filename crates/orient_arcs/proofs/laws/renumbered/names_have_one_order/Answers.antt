use Rattle.std.proofs.Common.{◌∙◌, ap}
use Rattle.kh_types.specs.Code.{arc_in, slots_of}
use Rattle.code_passes.specs.Parts.{passes_through}
use Rattle.orient_arcs.specs.Renumbered.{number_in, order_of}
use Rattle.orient_arcs.proofs.Bridge.{slot-renumbered}
use Rattle.orient_arcs.proofs.OneOrder.{AreInOrder-order, one-order}
use Rattle.orient_arcs.proofs.laws.renumbered.names_have_one_order.Goals as goal

pub returns : goal.returns
returns c = record {
  order = AreInOrder-order;
  one = one-order;
  slots = λ parts order paired is crossing slot at below.
      slot-renumbered parts crossing slot at below
      ∙ ap (λ names. number_in names (arc_in (slots_of parts.crossings crossing) slot))
      (one-order parts (order_of (passes_through parts)) order paired (AreInOrder-order parts paired) is);
}
