use Rattle.std.proofs.Common.{◌+◌, List, map, Option, ap, ◌∙◌, arith}
use Rattle.std.specs.Prelude.{option_map, sum}
use Rattle.pts_tree.specs.declared.loops.BodyStmt.{BodyStmt}
use Rattle.pts_rules.specs.Counts.{body_points, else_points, reads}
use Rattle.pts_rules.proofs.Bodies.{points-If}
use Rattle.pts_limits.proofs.counting.+body_points.Goals as goal

pub body_points-returns-in-Some : goal.body_points-returns-in-Some
body_points-returns-in-Some t c =
    let test = c.in-If.test in
    let then = c.in-If.then in
    let points = ap body_points c.in-If.is ∙ points-If test then c.in-If.other
    ∙ ap (λ (o : Option (List BodyStmt)). reads test + 1 + sum (map body_points then) + else_points (option_map (map body_points) o)) c.in-Some.is in
    omega (arith, points, ap (λ (xs : List BodyStmt). sum (map body_points xs)) c.as_slice.ensures, ap (λ (xs : List BodyStmt). sum (map body_points xs)) c.as_slice-in-Some.ensures)
