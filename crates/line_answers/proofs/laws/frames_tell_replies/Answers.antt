use Rattle.line_answers.proofs.FrameReadings.{frame-tells}
use Rattle.line_answers.proofs.laws.frames_tell_replies.Goals as goal

pub returns : goal.returns
returns c = frame-tells
