use Rattle.std.proofs.Common.{◌≡◌, ◌*◌, take}
use Rattle.arrayvec.specs.ArrayVec.{array_vec_len}
use Rattle.kh_types.specs.Circles.{smoothings_of}
use Rattle.plain_table.proofs.circles.smoothings_of.Given as goal

abbrev pub invariant-crossings : goal.invariant-crossings
invariant-crossings l =
    record {
      smoothings : l.smoothings.items ≡ smoothings_of (take l.place l.crossings) l.state;
      size : array_vec_len l.smoothings ≡ 2 * l.place;
    }
