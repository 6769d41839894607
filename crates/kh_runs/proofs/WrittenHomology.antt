-- What a run has written is the table and the Jones line.
use Rattle.std.proofs.Common.{◌≡◌, ℕ, ℤ, List, ◌++◌, refl, ap, subst, ◌∙◌}
use Rattle.std.specs.declared.option.Option.{Option}
use Rattle.std.specs.Io.KnownBytes.{Appends}
use Rattle.kh_types.specs.Code.{Code}
use Rattle.kh_types.specs.StateSum.{euler, polynomial_text, state_sum}
use Rattle.kh_types.specs.Table.{table, table_text}
use Rattle.kh_runs.specs.declared.status.Status.{Status}
use Rattle.kh_runs.specs.declared.status.Status.TheVariants.{Done}
use Rattle.kh_runs.specs.Homology.{HasWrittenHomology, homology_text, jones_line}
use Rattle.kh_runs.specs.Replies.{Reply, reply_of}
use Rattle.kh_runs.specs.Told.{Gives}

-- the text of the table and the Jones line
abbrev pub headline_text : ℕ → Code → List ℕ
headline_text field code = table_text (table field code) ++ polynomial_text (state_sum code)

pub homology_text-headline : (field : ℕ) (code : Code) → homology_text field code ≡ headline_text field code
unfolding homology_text jones_line
homology_text-headline field code = refl

-- a reply with this text is what has been written, where the state sum is the Euler characteristic
pub written-headline : (status : Status) (before after : Option (List ℕ)) (field : ℕ) (code : Code) (reply : Reply)
    → ((exponent : ℤ) → state_sum code exponent ≡ euler (table field code) exponent) → reply ≡ reply_of Done (homology_text field code)
    → Gives reply status before after → HasWrittenHomology field code status before after
written-headline status before after field code reply sum is_reply gives =
    record {
      status = gives.status ∙ ap (λ (r : Reply). r.status) is_reply;
      written = subst (λ (text : List ℕ). Appends before after text)
          (ap (λ (r : Reply). r.text) is_reply ∙ homology_text-headline field code) gives.written;
      sum = sum;
    }
