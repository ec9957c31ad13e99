-- What is told is of a survey of the image.
use Rattle.std.proofs.Common.{sym, ◌∙◌}
use Rattle.lfs_survey.proofs.fault_line.placed.Goals as goal

pub returns-in-Some : goal.returns-in-Some
returns-in-Some c = record {
  placed = sym c.has_place.ensures ∙ c.if-not-has_place.false;
  survey = c.in_ok-survey.survey;
  surveyed = c.in_ok-survey.ensures;
  front = c.is_front_unread.ensures;
}
