use Rattle.std.proofs.Common.{◌∙◌, ◌++◌, List, length, ap, arith, sym}
use Rattle.tangle_scan.specs.declared.adding.Successors.{Successors}
use Rattle.tangle_scan.specs.declared.complex.Object.{Object}
use Rattle.tangle_scan.specs.Additions.{copies}
use Rattle.tangle_scan.proofs.NewObjects.{few-at, layer-alive}
use Rattle.tangle_scan.proofs.adding.push_alive.Goals as goal

pub push_copies-requires-clause-degree : goal.push_copies-requires-clause-degree
push_copies-requires-clause-degree c =
    (few-at c.args.adding.now c.args.place c.index.result.now c.requires.ready c.requires.place (sym c.index.ensures)).degree

pub push_copies-requires-clause-least : goal.push_copies-requires-clause-least
push_copies-requires-clause-least c =
    (few-at c.args.adding.now c.args.place c.index.result.now c.requires.ready c.requires.place (sym c.index.ensures)).least

pub push_copies-requires-clause-most : goal.push_copies-requires-clause-most
push_copies-requires-clause-most c =
    (few-at c.args.adding.now c.args.place c.index.result.now c.requires.ready c.requires.place (sym c.index.ensures)).most

pub push_copies-requires-2-clause-degree : goal.push_copies-requires-2-clause-degree
push_copies-requires-2-clause-degree c =
    (few-at c.args.adding.now c.args.place c.index.result.now c.requires.ready c.requires.place (sym c.index.ensures)).degree

pub push_copies-requires-2-clause-least : goal.push_copies-requires-2-clause-least
push_copies-requires-2-clause-least c =
    (few-at c.args.adding.now c.args.place c.index.result.now c.requires.ready c.requires.place (sym c.index.ensures)).least

pub push_copies-requires-2-clause-most : goal.push_copies-requires-2-clause-most
push_copies-requires-2-clause-most c =
    (few-at c.args.adding.now c.args.place c.index.result.now c.requires.ready c.requires.place (sym c.index.ensures)).most

pub returns : goal.returns
returns c =
    let old = c.index.result.now in
    let s : Successors =
    record {
      zero = c.split_of-zero.result;
      one = c.split_of-one.result;
      first = c.len-first.result;
      second = c.len-second.result;
    } in
    layer-alive c.args.adding.now c.args.place c.args.layer.now _ old s c.requires.ready c.requires.alive c.requires.place
    (sym c.index.ensures) c.requires.layer c.split_of-zero.ensures c.split_of-one.ensures
    (omega (arith, c.len-first.ensures, c.args.layer.now.objects.ok.0))
    (omega (
      arith,
      c.len-second.ensures,
      c.push_copies.new.objects.ok.0,
      ap (λ (xs : List Object). length xs) c.in_ok-push_copies.ensures,
    ))
    (c.in_ok-push_copies-2.ensures ∙ ap (λ (xs : List Object). xs ++ copies old s.one 1) c.in_ok-push_copies.ensures)
    c.in_ok-push.ensures.items
