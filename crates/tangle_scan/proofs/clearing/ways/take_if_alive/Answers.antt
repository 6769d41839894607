use Rattle.std.proofs.Common.{◌≡◌, ◌∙◌, ap, arith, true}
use Rattle.tangle_scan.specs.declared.complex.Object.{Object}
use Rattle.tangle_scan.specs.Held.{is_alive_at}
use Rattle.tangle_scan.specs.Eliminations.{IsLess}
use Rattle.tangle_scan.proofs.NotedRows.{alive-read, changed-if, noted-if}
use Rattle.tangle_scan.proofs.clearing.ways.take_if_alive.Goals as goal

pub note_if-requires : goal.note_if-requires
note_if-requires g c = omega (arith, c.requires.passage.next_is.head, c.requires.column_is.size)

pub take_way-requires : goal.take_way-requires
take_way-requires g c =
    let object = c.index-turn-entry.result in
    record {
      passage = c.requires.passage;
      alive = alive-read c.args.turn.now.objects.now c.args.entry.now.head object c.requires.passage.next_is.head c.index-turn-entry.is
          ∙ ap (λ (o : Object). o.is_alive) c.index-turn-entry.is ∙ c.if-not-turn-entry.false;
      maps = c.requires.column_is.maps;
    }

pub returns : goal.returns
returns g c =
    let p = g.F.PrimeField.P in
    let turn = c.args.turn.now in
    let start = c.args.start.now in
    let entry = c.args.entry.now in
    let old = c.args.column.now.items in
    let new = c.take_way.new.column.items in
    let object = c.index-turn-entry.result in
    let alive : is_alive_at turn.objects.now entry.head ≡ true =
    alive-read turn.objects.now entry.head object c.requires.passage.next_is.head c.index-turn-entry.is
    ∙ ap (λ (o : Object). o.is_alive) c.index-turn-entry.is ∙ c.if-not-turn-entry.false in
    let less = IsLess p turn start.place entry.head start.first.now entry.terms.items in
    let is = c.in_ok-is_new.ensures in
    record {
      changed = changed-if less (is_alive_at turn.objects.now entry.head ≡ true) p entry.head old new alive is.changed;
      more = c.in_ok-note_if.ensures.kept;
      noted = noted-if less turn.objects.now c.args.rows.now.items c.note_if.new.rows.items p start.place entry.head old new
          c.in_ok-is_new.is_new is.changed is.same_heads c.in_ok-note_if.ensures.noted c.in_ok-note_if.ensures.kept
          c.requires.column_is.noted;
    }
