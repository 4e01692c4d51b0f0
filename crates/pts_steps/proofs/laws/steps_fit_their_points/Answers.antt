use Rattle.pts_steps.proofs.PointsOfLoops.{as_many, fits_at, form_is}
use Rattle.pts_steps.proofs.laws.steps_fit_their_points.Goals as goal

pub returns-clause-count : goal.returns-clause-count
returns-clause-count c = as_many

pub returns-clause-each : goal.returns-clause-each
returns-clause-each c = fits_at

pub returns-clause-forms : goal.returns-clause-forms
returns-clause-forms c = form_is
