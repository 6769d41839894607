use Rattle.std.proofs.Common.{◌∙◌, List, length, ap, arith, subst, sym}
use Rattle.std.specs.Prelude.{Option}
use Rattle.std.specs.List.{range_with_len}
use Rattle.std.proofs.lemmas.List.FromFn.{length-range_with_len}
use Rattle.tangle_scan.specs.declared.adding.Successors.{Successors}
use Rattle.tangle_scan.specs.Additions.{IsObjectFrom, MaySucceed, SucceedTo, all_origins, objects_in}
use Rattle.tangle_scan.proofs.ZippedLists.{zip-length}
use Rattle.tangle_scan.proofs.AddedScan.{complex-made, scan-made}
use Rattle.tangle_scan.proofs.adding.add_at.Goals as goal

pub columns_of-requires : goal.columns_of-requires
columns_of-requires g c =
    let adding = c.args.adding.now in
    let n = length (objects_in adding) in
    record {
      links = record {
        ready = c.requires.ready;
        complex = c.requires.complex;
        successors = subst (λ (xs : List (Option Successors)). SucceedTo adding n xs) (sym c.deref.ensures.value)
            c.in_ok-layer.ensures.successors;
        count = omega (
          arith,
          c.len.ensures,
          c.in_ok-layer.layer.objects.ok.0,
          zip-length (IsObjectFrom adding) (all_origins adding) c.in_ok-layer.layer.objects.items c.in_ok-layer.ensures.objects,
        );
        fits = omega (arith, c.len.type_inv);
        many = ap (λ (xs : List (Option Successors)). length xs) c.deref.ensures.value
            ∙ zip-length (MaySucceed adding) (range_with_len 0 n) c.in_ok-layer.layer.successors.items c.in_ok-layer.ensures.successors
            ∙ length-range_with_len 0 n;
      };
    }

pub returns-clause-complex : goal.returns-clause-complex
returns-clause-complex g c =
    complex-made g.F.PrimeField.P c.args.adding.now _
    (record {
      ready = c.requires.ready;
      complex = c.requires.complex;
      of = c.requires.scan;
      objects = c.in_ok-layer.ensures.objects;
      columns = c.in_ok-columns.ensures;
    })

pub returns-clause-adding : goal.returns-clause-adding
returns-clause-adding g c =
    scan-made g.F.PrimeField.P c.args.adding.now
    (record { objects = c.in_ok-layer.layer.objects; columns = c.in_ok-columns.columns })
    (record {
      ready = c.requires.ready;
      complex = c.requires.complex;
      of = c.requires.scan;
      objects = c.in_ok-layer.ensures.objects;
      columns = c.in_ok-columns.ensures;
    })
