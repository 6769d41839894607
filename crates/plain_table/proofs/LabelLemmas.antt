-- What is said of the labels of one generator holds of an equal one.
use Rattle.std.proofs.Common.{◌≡◌, ℕ, ap, ◌∙◌}
use Rattle.kh_types.specs.Code.{Code}
use Rattle.kh_types.specs.Generators.{Generator}
use Rattle.kh_types.specs.Differential.{keeps_labels, changes_labels}

pub keeps_labels_same : {code other : Code} {tail tail' head head' : Generator} (crossing : ℕ)
    → code ≡ other → tail ≡ tail' → head ≡ head'
    → keeps_labels code tail head crossing ≡ keeps_labels other tail' head' crossing
keeps_labels_same {code} {other} {tail} {tail'} {head} {head'} crossing p q r =
    ap (λ (c : Code). keeps_labels c tail head crossing) p ∙ ap (λ (g : Generator). keeps_labels other g head crossing) q
    ∙ ap (λ (g : Generator). keeps_labels other tail' g crossing) r

pub changes_labels_same : {code other : Code} {tail tail' head head' : Generator} (crossing : ℕ)
    → code ≡ other → tail ≡ tail' → head ≡ head'
    → changes_labels code tail head crossing ≡ changes_labels other tail' head' crossing
changes_labels_same {code} {other} {tail} {tail'} {head} {head'} crossing p q r =
    ap (λ (c : Code). changes_labels c tail head crossing) p ∙ ap (λ (g : Generator). changes_labels other g head crossing) q
    ∙ ap (λ (g : Generator). changes_labels other tail' g crossing) r
