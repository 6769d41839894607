use Rattle.view_laws.proofs.Renumbered.{circles-back, circles-forth}
use Rattle.slide_view_laws.proofs.RenamedViews.{IsView-renamed, SeeAlike-renamed}
use Rattle.slide_view_laws.proofs.laws.other_numbers_are_seen_alike.Goals as goal

pub returns-clause-onward : goal.returns-clause-onward
returns-clause-onward cx = circles-forth

pub returns-clause-back : goal.returns-clause-back
returns-clause-back cx = circles-back

pub returns-clause-view : goal.returns-clause-view
returns-clause-view cx = IsView-renamed

pub returns-clause-alike : goal.returns-clause-alike
returns-clause-alike cx f old new view state is is_view = SeeAlike-renamed f old new view is is_view state
