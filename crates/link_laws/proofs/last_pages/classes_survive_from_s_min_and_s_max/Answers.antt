use Rattle.link_laws.proofs.LastDegrees.{survivors-past_s_max, survivors-past_s_min, survivors-to_s_max, survivors-to_s_min}
use Rattle.link_laws.proofs.last_pages.classes_survive_from_s_min_and_s_max.Goals as goal

pub returns : goal.returns
returns c =
    record {
      all = λ p code t field holds up_to. survivors-to_s_min p code field holds t up_to;
      fewer = λ p code t field holds beyond classes. survivors-past_s_min p code field holds t beyond classes;
      some = λ p code t field holds up_to classes. survivors-to_s_max p code field holds t up_to classes;
      none = λ p code t field holds beyond. survivors-past_s_max p code field holds t beyond;
    }
