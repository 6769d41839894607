use Rattle.std.proofs.Common.{◌≡◌, ◌∙◌, ◌++◌, ◌∷◌, [], List, length, true, false, ap, rules, arith}
use Rattle.kh_types.specs.declared.dart.Dart.{Dart}
use Rattle.kh_types.specs.declared.limits.TheConstants.{CROSSINGS}
use Rattle.morse_drawing.specs.OpenEnds.{has_later, found_ends}
use Rattle.morse_drawing.proofs.FoundPairs.{no_pair_found, pair_found, pairs_room}
use Rattle.morse_drawing.proofs.open_ends.push_found.Goals as goal

pub push-requires : goal.push-requires
push-requires c =
    let later : has_later c.args.others.now c.args.dart ≡ true = search rules in
    let few = pairs_room CROSSINGS c.args.others.now c.args.dart c.requires.paired c.requires.dart later in
    let same = ap (λ (xs : List (List Dart)). length xs) c.requires.before in
    (omega arith, omega (arith, few, same))

pub returns-then-is_later : goal.returns-then-is_later
returns-then-is_later c =
    let later : has_later c.args.others.now c.args.dart ≡ true = search rules in
    let pushed : c.push.new.self.items ≡ c.args.pairs.now.items ++ found_ends c.args.others.now c.args.dart ∷ [] = search rules in
    pushed ∙ ap (λ (xs : List (List Dart)). xs ++ found_ends c.args.others.now c.args.dart ∷ []) c.requires.before
    ∙ pair_found c.args.others.now c.args.dart later

pub returns-else-is_later : goal.returns-else-is_later
returns-else-is_later c =
    let never : has_later c.args.others.now c.args.dart ≡ false = search rules in
    c.requires.before ∙ no_pair_found c.args.others.now c.args.dart never
