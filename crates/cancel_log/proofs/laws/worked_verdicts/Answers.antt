-- Clause by clause: each walk over lines is computed.
use Rattle.std.proofs.Common.{◌≡◌, true, false, [], ◌∷◌, pos, negsuc, inl, inr, refl, arith, codes}
use Rattle.std.specs.Prelude.{None, Some}
use Rattle.std.specs.Fmt.{digits}
use Rattle.kh_types.specs.Acceptance.{accepted, first_fault}
use Rattle.kh_types.specs.Complex.{pivot_at}
use Rattle.kh_types.specs.WorkedCodes.{one_loop, without_loops, slots_with}
use Rattle.cube_signs.specs.Blocks.{block_degrees}
use Rattle.pd_code.specs.declared.stop.PdStop.TheVariants as stops
use Rattle.pd_code.proofs.ReadingLemmas.{IsPdReading-reading_of}
use Rattle.cancel_log.specs.LogLines.{Says, field_line}
use Rattle.cancel_log.specs.declared.cause.LogCause.TheVariants.{Block, Entry, Open, Text}
use Rattle.cancel_log.specs.declared.line.LogLine.TheVariants.{Begin, Cancel, Close, Other}
use Rattle.cancel_log.proofs.LineTexts.{pivot-cut, said-no_degree, said-no_pivot, words-no_degree}
use Rattle.cancel_log.proofs.NumberTexts.{degree-unprinted}
use Rattle.cancel_log.proofs.StartLines.{names-refused, names-unread, prime-none, unlike}
use Rattle.cancel_log.proofs.WholeLogs.{verdict-start}
use Rattle.cancel_log.proofs.WorkedVerdicts.{curl-starts, loop-starts, other-by, table-by, wrong-by}
use Rattle.cancel_log.proofs.laws.worked_verdicts.Goals as goal

pub returns-clause-nothing : goal.returns-clause-nothing
returns-clause-nothing c = verdict-start _ _ (inl (refl, λ others is. absurd (cc (is))))

pub returns-clause-no_diagram : goal.returns-clause-no_diagram
returns-clause-no_diagram c =
    verdict-start _ _ (inr (inl (refl, record { others = []; parts = refl; long = λ text later is. absurd (cc (is)) })))

pub returns-clause-unread : goal.returns-clause-unread
returns-clause-unread c = verdict-start _ _ (
  refl,
  record {
    text = codes "PD[Loop[1]";
    others = codes "field 4" ∷ [];
    parts = refl;
    few = omega arith;
    none = names-unread (codes "PD[Loop[1]") (stops.Text 10) (IsPdReading-reading_of (codes "PD[Loop[1]"));
  },
)

pub returns-clause-refused : goal.returns-clause-refused
unfolding accepted first_fault
returns-clause-refused c = verdict-start _ _ (
  refl,
  record {
    text = codes "PD[X[1,2,1,2]]";
    others = codes "field 4" ∷ [];
    parts = refl;
    few = omega arith;
    none = names-refused (codes "PD[X[1,2,1,2]]") (without_loops (slots_with 1 2 1 2 ∷ []))
        (IsPdReading-reading_of (codes "PD[X[1,2,1,2]]")) (λ is. let so : false ≡ true = is in absurd (cc));
  },
)

pub returns-clause-field : goal.returns-clause-field
returns-clause-field c = verdict-start _ _ (inr (inr (
  refl,
  record {
    text = codes "PD[Loop[1]]";
    code = one_loop;
    others = codes "field 4" ∷ [];
    parts = refl;
    diagram = loop-starts.names;
    none = λ p later prime is.
        let same : codes "field 4" ≡ field_line p = cc (is) in
        prime-none (codes "field 4") (unlike (codes "field 4") (codes "field 2") refl) (unlike (codes "field 4") (codes "field 3") refl)
        (unlike (codes "field 4") (codes "field 5") refl) (unlike (codes "field 4") (codes "field 7") refl) p prime same;
  },
)))

-- the line that both diagrams cancel by
cancels : Says (codes "cancel 0 0 0") (Cancel (pivot_at (pos 0) 0 0))
unfolding digits
cancels = (refl, record { degree = omega arith; column = omega arith; row = omega arith })

pub returns-clause-unbegun : goal.returns-clause-unbegun
unfolding digits
returns-clause-unbegun c =
    wrong-by (codes "cancel 0 0 0" ∷ []) (Cancel (pivot_at (pos 0) 0 0) ∷ []) (codes "cancel 0 0 0" ∷ []) Text loop-starts refl
    (cancels, tt) refl

pub returns-clause-spelled : goal.returns-clause-spelled
unfolding digits
returns-clause-spelled c =
    wrong-by (codes "block -01" ∷ []) (Other ∷ []) (codes "block -01" ∷ []) Text loop-starts refl
    (said-no_degree (codes "block -01") (codes "-01") refl (degree-unprinted (codes "-01") refl), tt) refl

pub returns-clause-signed : goal.returns-clause-signed
unfolding digits block_degrees
returns-clause-signed c =
    let none = pivot-cut (codes "-0 0 0") (codes "-0") (codes "0 0") (codes "0") (codes "0") None
    (record { parts = refl; first = (refl, (refl, tt)) }) (record { parts = refl; first = (refl, tt) })
    (words-no_degree (codes "-0") (codes "0") (codes "0") (degree-unprinted (codes "-0") refl)) in
    wrong-by (codes "block -1" ∷ codes "cancel -0 0 0" ∷ []) (Begin (negsuc 0) ∷ Other ∷ []) (codes "cancel -0 0 0" ∷ []) Text
    loop-starts refl ((refl, omega arith), (said-no_pivot (codes "cancel -0 0 0") (codes "-0 0 0") refl none, tt)) refl

pub returns-clause-early : goal.returns-clause-early
unfolding digits block_degrees
returns-clause-early c =
    wrong-by (codes "block -1" ∷ []) (Begin (negsuc 0) ∷ []) [] Text loop-starts refl ((refl, omega arith), tt) refl

pub returns-clause-block : goal.returns-clause-block
unfolding digits block_degrees
returns-clause-block c =
    wrong-by (codes "block 1" ∷ []) (Begin (pos 1) ∷ []) (codes "block 1" ∷ []) Block loop-starts refl ((refl, omega arith), tt) refl

pub returns-clause-missing : goal.returns-clause-missing
unfolding digits block_degrees
returns-clause-missing c =
    wrong-by (codes "block -1" ∷ codes "table 2" ∷ []) (Begin (negsuc 0) ∷ Close ∷ []) (codes "table 2" ∷ []) Block loop-starts
    refl ((refl, omega arith), (refl, tt)) refl

pub returns-clause-table : goal.returns-clause-table
unfolding digits block_degrees
returns-clause-table c =
    let rows = codes "table 2" ∷ codes "field 3" ∷ [] in
    other-by (codes "block -1" ∷ codes "block 1" ∷ rows) (Begin (negsuc 0) ∷ Begin (pos 1) ∷ Close ∷ []) rows 1 loop-starts refl
    ((refl, omega arith), ((refl, omega arith), (refl, tt))) refl
    (record {
      before = refl;
      differ = λ same. let so : Some (codes "field 3") ≡ Some (codes "field 2") = same in
          let line : codes "field 3" ≡ codes "field 2" = cc (so) in
          unlike (codes "field 3") (codes "field 2") refl line;
    })

pub returns-clause-cut_off : goal.returns-clause-cut_off
unfolding digits block_degrees
returns-clause-cut_off c =
    let rows = codes "table 2" ∷ codes "field 2" ∷ [] in
    other-by (codes "block -1" ∷ codes "block 1" ∷ rows) (Begin (negsuc 0) ∷ Begin (pos 1) ∷ Close ∷ []) rows 2 loop-starts refl
    ((refl, omega arith), ((refl, omega arith), (refl, tt))) refl
    (record {
      before = refl;
      differ = λ same. let so : None ≡ Some (codes "j -1 i 0 dim 1") = same in absurd (cc (so));
    })

pub returns-clause-looped : goal.returns-clause-looped
unfolding digits block_degrees
returns-clause-looped c =
    let rows = codes "table 2" ∷ codes "field 2" ∷ codes "j -1 i 0 dim 1" ∷ codes "j 1 i 0 dim 1" ∷ [] in
    table-by (codes "block -1" ∷ codes "block 1" ∷ rows) (Begin (negsuc 0) ∷ Begin (pos 1) ∷ Close ∷ []) rows loop-starts refl
    ((refl, omega arith), ((refl, omega arith), (refl, tt))) refl refl

pub returns-clause-longer : goal.returns-clause-longer
unfolding digits block_degrees
returns-clause-longer c =
    let rows = codes "table 2" ∷ codes "field 2" ∷ codes "j -1 i 0 dim 1" ∷ codes "j 1 i 0 dim 1" ∷ [] ∷ [] in
    other-by (codes "block -1" ∷ codes "block 1" ∷ rows) (Begin (negsuc 0) ∷ Begin (pos 1) ∷ Close ∷ []) rows 4 loop-starts refl
    ((refl, omega arith), ((refl, omega arith), (refl, tt))) refl
    (record { before = refl; differ = λ same. let so : Some [] ≡ None = same in absurd (cc (so)) })

pub returns-clause-open : goal.returns-clause-open
unfolding digits block_degrees
returns-clause-open c =
    wrong-by (codes "block -1" ∷ codes "block 1" ∷ codes "block 3" ∷ [])
    (Begin (negsuc 0) ∷ Begin (pos 1) ∷ Begin (pos 3) ∷ []) (codes "block 3" ∷ []) Open curl-starts refl
    ((refl, omega arith), ((refl, omega arith), ((refl, omega arith), tt))) refl

pub returns-clause-entry : goal.returns-clause-entry
unfolding digits block_degrees
returns-clause-entry c =
    wrong-by (codes "block -1" ∷ codes "block 1" ∷ codes "cancel 0 0 1" ∷ [])
    (Begin (negsuc 0) ∷ Begin (pos 1) ∷ Cancel (pivot_at (pos 0) 0 1) ∷ []) (codes "cancel 0 0 1" ∷ []) Entry curl-starts refl
    ((refl, omega arith), ((refl, omega arith), ((refl, record { degree = omega arith; column = omega arith; row = omega arith }), tt)))
    refl

pub returns-clause-curled : goal.returns-clause-curled
unfolding digits block_degrees
returns-clause-curled c =
    let rows = codes "table 2" ∷ codes "field 2" ∷ codes "j -1 i 0 dim 1" ∷ codes "j 1 i 0 dim 1" ∷ [] in
    let cancel = codes "cancel 0 0 0" in
    let pivot = Cancel (pivot_at (pos 0) 0 0) in
    table-by (codes "block -1" ∷ codes "block 1" ∷ cancel ∷ codes "block 3" ∷ cancel ∷ rows)
    (Begin (negsuc 0) ∷ Begin (pos 1) ∷ pivot ∷ Begin (pos 3) ∷ pivot ∷ Close ∷ []) rows curl-starts refl
    ((refl, omega arith), ((refl, omega arith), (cancels, ((refl, omega arith), (cancels, (refl, tt)))))) refl refl
