use Rattle.slide_view_laws.proofs.SeenSlides.{HasSeenSlide-moved}
use Rattle.slide_view_laws.proofs.laws.slides_are_seen.Goals as goal

pub returns : goal.returns
returns cx = HasSeenSlide-moved
