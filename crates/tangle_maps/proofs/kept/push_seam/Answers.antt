use Rattle.std.proofs.Common.{List, arith, subst, sym}
use Rattle.tangle_maps.specs.KeptSeams.{AreKeptSeams}
use Rattle.tangle_maps.specs.declared.kept.KeptSeam.{KeptSeam}
use Rattle.tangle_maps.proofs.KeptLemmas.{seam-pushed, seams-pushed}
use Rattle.tangle_maps.proofs.kept.push_seam.Goals as goal

pub returns-clause-list : goal.returns-clause-list
returns-clause-list c =
    let way = c.args.way.now in
    let kept : KeptSeam = record { from = way.from.now; over = way.over.now; to = way.to.now; seam = c.seam_of-seam.result } in
    seams-pushed kept c.args.list.now.items c.push.new.self.items c.seam_of-seam.ensures c.in_ok-push.ensures.items c.requires.list

pub returns-clause-place : goal.returns-clause-place
returns-clause-place c =
    let way = c.args.way.now in
    let kept : KeptSeam = record { from = way.from.now; over = way.over.now; to = way.to.now; seam = c.seam_of-seam.result } in
    seam-pushed way c.len-place.result kept c.args.list.now.items c.push.new.self.items c.seam_of-seam.ensures c.in_ok-push.ensures.items
    (omega (arith, c.len-place.ensures, c.args.list.now.ok.0))

pub returns-in_err-push-clause-list : goal.returns-in_err-push-clause-list
returns-in_err-push-clause-list c =
    subst (λ (xs : List KeptSeam). AreKeptSeams xs) (sym c.in_err-push.ensures.items) c.requires.list
