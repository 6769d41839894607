use Rattle.std.proofs.Common.{rules, ◌≡◌, ◌∙◌, pos, get_or}
use Rattle.worker_pool.proofs.SlotLemmas.{done_put}
use Rattle.worker_pool.proofs.done_slots.put.Goals as goal

pub returns-then-degrees-place-clause-slots : goal.returns-then-degrees-place-clause-slots
returns-then-degrees-place-clause-slots g c =
    let at : get_or c.args.degrees.now c.args.place (pos 0) ≡ c.degree.result = search rules in
    done_put g.F.PrimeField.P c.args.degrees.now c.args.slots.now.items c.args.place c.args.one c.requires.slots (at ∙ c.degree.ensures) c.requires.done
