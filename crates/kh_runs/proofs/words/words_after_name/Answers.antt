use Rattle.std.proofs.Common.{◌≡◌, ◌∙◌, ap, map, string_bytes, sym}
use Rattle.std.specs.Vec.Iter.{into_iter_items, into_iter_len}
use Rattle.std.proofs.lemmas.Iterator.Adapters.{YieldsList-from_vec, YieldsList-from_skip}
use Rattle.std.proofs.lemmas.Iterator.Consumers.{YieldsList-end}
use Rattle.std.proofs.lemmas.List.{map-id}
use Rattle.kh_runs.proofs.words.words_after_name.Goals as goal

-- where the arguments end, they have given all but the first
pub returns : goal.returns
returns c =
    let source : c.into_iter-word-iterator.result.iter ≡ c.args.args = cc in
    let all = YieldsList-from_vec _ (ap into_iter_items source) (ap into_iter_len source ∙ c.args.args.rest.ok.0) in
    let others = YieldsList-from_skip 1 all cc in
    let end = YieldsList-end others c.words.yielded _ c.words.yielded_by _ c.next.new.self c.in-None.is c.next.ensures.steps in
    c.words.invariant ∙ ap (map string_bytes) (sym (map-id c.words.yielded) ∙ end.0)
