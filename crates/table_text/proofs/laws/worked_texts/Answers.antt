use Rattle.std.proofs.Common.{refl, inr, codes}
use Rattle.std.specs.Prelude.{Err}
use Rattle.std.specs.Fmt.{digits}
use Rattle.table_text.specs.Words.{HasWrongLineIn}
use Rattle.table_text.specs.declared.stop.TableStop.TheVariants.{Text}
use Rattle.table_text.specs.declared.version.Version.{Version}
use Rattle.table_text.specs.declared.version.Version.TheVariants.{First, Second}
use Rattle.table_text.proofs.LineTexts.{IsFieldIn-none}
use Rattle.table_text.proofs.RowOrder.{IsTableIn-none}
use Rattle.table_text.proofs.TableLines.{HasWrongLineIn-first}
use Rattle.table_text.proofs.VersionTexts.{Cut-reading}
use Rattle.table_text.proofs.laws.worked_texts.Goals as goal

nothing : (version : Version) → HasWrongLineIn version (codes "") 0
nothing version =
    HasWrongLineIn-first version (codes "") (IsFieldIn-none (codes "") (λ is. cc) (λ is. cc) (λ is. cc) (λ is. cc))

pub returns-clause-nothing : goal.returns-clause-nothing
returns-clause-nothing c = Cut-reading First (codes "") (codes "") (refl, λ same. cc) (Err (Text 0)) (nothing First)

pub returns-clause-no_feed : goal.returns-clause-no_feed
returns-clause-no_feed c =
    Cut-reading First (codes "field 2") (codes "field 2") (refl, λ same. cc) (Err (Text 0))
    (HasWrongLineIn-first First (codes "field 2") (IsFieldIn-none (codes "field 2") (λ is. cc) (λ is. cc) (λ is. cc) (λ is. cc)))

pub returns-clause-no_field : goal.returns-clause-no_field
returns-clause-no_field c = Cut-reading Second (codes "table 2\n") (codes "") refl (Err (Text 0)) (nothing Second)

pub returns-clause-no_rows : goal.returns-clause-no_rows
unfolding digits
returns-clause-no_rows c =
    (Second, record { table = IsTableIn-none Second 7 (inr (inr (inr refl))); same = refl })

pub returns-clause-first : goal.returns-clause-first
unfolding digits
returns-clause-first c = (First, record { table = IsTableIn-none First 7 (inr (inr (inr refl))); same = refl })
