use Rattle.pts_loop_points.proofs.GlobalNames.{names_bound, names_hold, names_stand}
use Rattle.pts_loop_points.proofs.laws.names_in_loops_stand_for_arrays_and_functions.Goals as goal

pub returns-clause-names : goal.returns-clause-names
returns-clause-names c = names_stand

pub returns-clause-functions : goal.returns-clause-functions
returns-clause-functions c = names_hold

pub returns-clause-same : goal.returns-clause-same
returns-clause-same c = names_bound
