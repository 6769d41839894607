-- Blocks stay those of their diagram where their origins stay.
use Rattle.std.proofs.Common.{◌≡◌, ℤ, List, [], ◌∷◌, map, refl, ap, ◌∙◌}
use Rattle.std.specs.List.{AllByRecursion}
use Rattle.std.proofs.lemmas.List.Elements.{All-from_recursion, recursion_from_All}
use Rattle.kh_types.specs.Code.{Code}
use Rattle.shared_block.specs.BlockHistories.{BlockHistory}
use Rattle.shared_block.specs.AllBlocks.{AreBlocksOf}
use Rattle.worker_pool.specs.Outcomes.{origin_of}

-- the degrees
degrees : (xs ys : List BlockHistory) → map origin_of ys ≡ map origin_of xs → map (λ held. held.degree) ys ≡ map (λ held. held.degree) xs
degrees [] [] e = refl
degrees [] (y ∷ ys) e = absurd (cc)
degrees (x ∷ xs) [] e = absurd (cc)
degrees (x ∷ xs) (y ∷ ys) e =
    let head : origin_of y ≡ origin_of x = cc in
    let rest : map origin_of ys ≡ map origin_of xs = cc in
    let tails = degrees xs ys rest in
    let heads = ap (λ (o : Code × ℤ). o.1) head in cc

-- all diagrams are this one
same_diagrams : (code : Code) (xs ys : List BlockHistory) → map origin_of ys ≡ map origin_of xs → AllByRecursion (λ held. held.diagram ≡ code) xs
    → AllByRecursion (λ held. held.diagram ≡ code) ys
same_diagrams code [] [] e h = tt
same_diagrams code [] (y ∷ ys) e h = absurd (cc)
same_diagrams code (x ∷ xs) [] e h = absurd (cc)
same_diagrams code (x ∷ xs) (y ∷ ys) e h =
    let head : origin_of y ≡ origin_of x = cc in
    let rest : map origin_of ys ≡ map origin_of xs = cc in
    (ap (λ (o : Code × ℤ). o.0) head ∙ h.0, same_diagrams code xs ys rest h.1)

pub blocks_stay : (code : Code) (xs ys : List BlockHistory) → map origin_of ys ≡ map origin_of xs → AreBlocksOf code xs → AreBlocksOf code ys
blocks_stay code xs ys e h = record {
  diagram = All-from_recursion (λ held. held.diagram ≡ code) ys
      (same_diagrams code xs ys e (recursion_from_All (λ held. held.diagram ≡ code) xs h.diagram));
  degrees = degrees xs ys e ∙ h.degrees;
}
