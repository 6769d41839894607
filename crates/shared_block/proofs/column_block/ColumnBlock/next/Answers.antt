use Rattle.std.proofs.Common.{◌≡◌, ◌∙◌, ℤ, length, ap, sym, subst, arith}
use Rattle.std.specs.Option.{IfSome}
use Rattle.std.specs.Prelude.{Option}
use Rattle.kh_types.specs.Code.{Code}
use Rattle.kh_types.specs.Complex.{IsPivot}
use Rattle.kh_types.specs.History.{replay}
use Rattle.cube_signs.specs.Blocks.{named_block}
use Rattle.cube_signs.specs.OpeningBlocks.{AreBlockPlaces, IsAround}
use Rattle.column_reduction.specs.UnderWay.{IsFound, pivot_of}
use Rattle.column_reduction.specs.declared.under_way.FoundColumn.{FoundColumn}
use Rattle.shared_block.specs.BlockHistories.{BlockHistory, complex_of, opening_of}
use Rattle.shared_block.proofs.column_block.ColumnBlock.next.Goals as goal

pub returns-in-Some-clause-look : goal.returns-in-Some-clause-look
returns-in-Some-clause-look g c =
    let p = g.F.PrimeField.P in
    let held = c.self.inside in
    let history = held.reduction.history.items in
    let is = c.self.invariant.1 in
    let of = c.borrowed_block-source.result in
    let cube : c.deref.result.now ≡ held.diagram = c.deref.ensures ∙ c.self.invariant.0 in
    let whole : of ≡ (held.diagram, held.degree) =
    c.borrowed_block-source.ensures held.degree
    (subst (λ (code : Code). AreBlockPlaces p code held.degree held.places) (sym cube) is.are_places)
    ∙ ap (λ (code : Code). (code, held.degree)) cube in
    let seen = subst (λ (seen : Option FoundColumn).
    IfSome seen (IsFound p (named_block p of.0 of.1).complex history)) c.in-Some.is c.in_ok-found.ensures.found in
    let pivot = subst (λ (seen : Option FoundColumn).
    IfSome seen (λ found. IsPivot (replay p (named_block p of.0 of.1).complex history) (pivot_of found))) c.in-Some.is
    c.in_ok-found.ensures.pivot in
    let found = c.in-Some.found in
    let size = ap (λ (held : BlockHistory). length held.history) c.self.view_is in
    record {
      version = c.version-version.ensures.version ∙ size;
      short = omega (arith, size, c.version-version.ensures.version, c.version-version.ensures.short);
      pivot = subst (λ (held : BlockHistory). IsPivot (complex_of p held) (pivot_of found)) c.self.view_is
          (subst (λ (of : Code × ℤ). IsPivot (replay p (named_block p of.0 of.1).complex history) (pivot_of found)) whole pivot);
      found = subst (λ (held : BlockHistory). IsFound p (opening_of p held) held.history found) c.self.view_is
          (subst (λ (of : Code × ℤ). IsFound p (named_block p of.0 of.1).complex history found) whole seen);
      near = subst (λ (held : BlockHistory). IsAround p held.diagram held.degree c.into_around.result) c.self.view_is
          (subst (λ (of : Code × ℤ). IsAround p of.0 of.1 c.into_around.result) (c.in_ok-found.ensures.same ∙ whole) c.into_around.ensures);
    }
