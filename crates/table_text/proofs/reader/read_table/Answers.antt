use Rattle.std.proofs.Common.{◌≡◌, ◌∙◌, List, ℕ, ◌++◌, ap, sym, refl, subst}
use Rattle.std.specs.Prelude.{Ok, Err}
use Rattle.table_text.specs.Versions.{version_line}
use Rattle.table_text.specs.Words.{IsReadingIn}
use Rattle.table_text.specs.declared.stop.TableStop.{TableStop}
use Rattle.table_text.specs.declared.stop.TableStop.TheVariants.{Text}
use Rattle.table_text.specs.declared.version.Version.TheVariants.{First, Second}
use Rattle.table_text.proofs.VersionTexts.{Cut-reading, Cut-second, failed, not_memory}
use Rattle.table_text.proofs.reader.read_table.Goals as goal

pub returns-then-not-is_second : goal.returns-then-not-is_second
returns-then-not-is_second c some =
    let text = c.args.text.now in
    Cut-reading First text text (refl, λ same. cc (c.is_second.ensures.1 same, c.if-not-is_second.true)) c.read_lines.result
    (c.read_lines.ensures some)

pub returns-in-Ok : goal.returns-in-Ok
returns-in-Ok c some =
    let text = c.args.text.now in
    let cut = Cut-second text (c.is_second.ensures.0 c.if-not-is_second.false)
    ∙ ap (λ (bytes : List ℕ). version_line ++ bytes) (sym c.behind_version.ensures) in
    Cut-reading Second text c.behind_version.result.now cut (Ok c.in-Ok.table) (c.in-Ok.ensures some)

pub returns-in-Err-Text : goal.returns-in-Err-Text
returns-in-Err-Text c some =
    let text = c.args.text.now in
    let cut = Cut-second text (c.is_second.ensures.0 c.if-not-is_second.false)
    ∙ ap (λ (bytes : List ℕ). version_line ++ bytes) (sym c.behind_version.ensures) in
    let stop = c.in-Err-Text.field-0 in
    let is : stop ≡ Text c.in-Err-Text.place = c.in-Err-Text.field-0-is in
    let lines = c.in-Err-Text.ensures (λ same. not_memory c.in-Err-Text.place (ap failed (sym is) ∙ same)) in
    Cut-reading Second text c.behind_version.result.now cut (Err (Text c.in-Err-Text.place))
    (subst (λ (found : TableStop). IsReadingIn Second c.behind_version.result.now (failed found)) is lines)
