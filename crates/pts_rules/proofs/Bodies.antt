-- What each definition on statements of a body is, form by form.
use Rattle.std.proofs.Common.{◌≡◌, ℕ, Option, option_map, List, map}
use Rattle.pts_types.specs.declared.operation.ScalarOp.{ScalarOp}
use Rattle.pts_tree.specs.declared.expr.Expr.{Expr}
use Rattle.pts_tree.specs.declared.expr.Place.{Place}
use Rattle.pts_tree.specs.declared.loops.BodyStmt.{BodyStmt}
use Rattle.pts_tree.specs.declared.loops.BodyStmt.TheOpen.{BodyStmt-F}
use Rattle.pts_tree.specs.declared.loops.BodyStmt.TheVariants as b
use Rattle.pts_rules.specs.Parts.{Name, Uses, uses, uses_step, lets, lets_step}
use Rattle.pts_rules.specs.Counts.{body_points, body_points_step}
use Rattle.pts_rules.specs.Mistyped.{Checked, checked_stmt, checked_step}
use Rattle.pts_rules.specs.Indices.{places, places_step}
use Rattle.pts_rules.proofs.StatementFolds.{at-Assign, at-Let, at-Combine, at-If, at-VecOff, at-Ordered}

-- ---- the names that a statement uses and binds

pub uses-Assign : (at : Place) (x : Expr) → uses (b.Assign at x) ≡ uses_step (BodyStmt-F.Assign at x)
unfolding uses
uses-Assign at x = at-Assign Uses uses_step at x

pub uses-Let : (name : List ℕ) (x : Expr) → uses (b.Let name x) ≡ uses_step (BodyStmt-F.Let name x)
unfolding uses
uses-Let name x = at-Let Uses uses_step name x

pub uses-Combine : (name : List ℕ) (x : Expr) → uses (b.Combine name x) ≡ uses_step (BodyStmt-F.Combine name x)
unfolding uses
uses-Combine name x = at-Combine Uses uses_step name x

pub uses-If : (x : Expr) (xs : List BodyStmt) (ys : Option (List BodyStmt)) → uses (b.If x xs ys) ≡ uses_step (BodyStmt-F.If x (map uses xs) (option_map (map uses) ys))
unfolding uses
uses-If x xs ys = at-If Uses uses_step x xs ys

pub uses-VecOff : (xs : List BodyStmt) → uses (b.VecOff xs) ≡ uses_step (BodyStmt-F.VecOff (map uses xs))
unfolding uses
uses-VecOff xs = at-VecOff Uses uses_step xs

pub uses-Ordered : (at : Place) (op : ScalarOp) (x : Expr) → uses (b.Ordered at op x) ≡ uses_step (BodyStmt-F.Ordered at op x)
unfolding uses
uses-Ordered at op x = at-Ordered Uses uses_step at op x

pub ruleset uses_by_form = (uses-Assign, uses-Let, uses-Combine, uses-If, uses-VecOff, uses-Ordered)

-- ---- the names of its `let`s

pub lets-Assign : (at : Place) (x : Expr) → lets (b.Assign at x) ≡ lets_step (BodyStmt-F.Assign at x)
unfolding lets
lets-Assign at x = at-Assign (List Name) lets_step at x

pub lets-Let : (name : List ℕ) (x : Expr) → lets (b.Let name x) ≡ lets_step (BodyStmt-F.Let name x)
unfolding lets
lets-Let name x = at-Let (List Name) lets_step name x

pub lets-Combine : (name : List ℕ) (x : Expr) → lets (b.Combine name x) ≡ lets_step (BodyStmt-F.Combine name x)
unfolding lets
lets-Combine name x = at-Combine (List Name) lets_step name x

pub lets-If : (x : Expr) (xs : List BodyStmt) (ys : Option (List BodyStmt)) → lets (b.If x xs ys) ≡ lets_step (BodyStmt-F.If x (map lets xs) (option_map (map lets) ys))
unfolding lets
lets-If x xs ys = at-If (List Name) lets_step x xs ys

pub lets-VecOff : (xs : List BodyStmt) → lets (b.VecOff xs) ≡ lets_step (BodyStmt-F.VecOff (map lets xs))
unfolding lets
lets-VecOff xs = at-VecOff (List Name) lets_step xs

pub lets-Ordered : (at : Place) (op : ScalarOp) (x : Expr) → lets (b.Ordered at op x) ≡ lets_step (BodyStmt-F.Ordered at op x)
unfolding lets
lets-Ordered at op x = at-Ordered (List Name) lets_step at op x

pub ruleset lets_by_form = (lets-Assign, lets-Let, lets-Combine, lets-If, lets-VecOff, lets-Ordered)

-- ---- its points

pub points-Assign : (at : Place) (x : Expr) → body_points (b.Assign at x) ≡ body_points_step (BodyStmt-F.Assign at x)
unfolding body_points
points-Assign at x = at-Assign ℕ body_points_step at x

pub points-Let : (name : List ℕ) (x : Expr) → body_points (b.Let name x) ≡ body_points_step (BodyStmt-F.Let name x)
unfolding body_points
points-Let name x = at-Let ℕ body_points_step name x

pub points-Combine : (name : List ℕ) (x : Expr) → body_points (b.Combine name x) ≡ body_points_step (BodyStmt-F.Combine name x)
unfolding body_points
points-Combine name x = at-Combine ℕ body_points_step name x

pub points-If : (x : Expr) (xs : List BodyStmt) (ys : Option (List BodyStmt)) → body_points (b.If x xs ys) ≡ body_points_step (BodyStmt-F.If x (map body_points xs) (option_map (map body_points) ys))
unfolding body_points
points-If x xs ys = at-If ℕ body_points_step x xs ys

pub points-VecOff : (xs : List BodyStmt) → body_points (b.VecOff xs) ≡ body_points_step (BodyStmt-F.VecOff (map body_points xs))
unfolding body_points
points-VecOff xs = at-VecOff ℕ body_points_step xs

pub points-Ordered : (at : Place) (op : ScalarOp) (x : Expr) → body_points (b.Ordered at op x) ≡ body_points_step (BodyStmt-F.Ordered at op x)
unfolding body_points
points-Ordered at op x = at-Ordered ℕ body_points_step at op x

pub ruleset points_by_form = (points-Assign, points-Let, points-Combine, points-If, points-VecOff, points-Ordered)

-- ---- whether it is right, and the scope behind it

pub checked-Assign : (at : Place) (x : Expr) → checked_stmt (b.Assign at x) ≡ checked_step (BodyStmt-F.Assign at x)
unfolding checked_stmt
checked-Assign at x = at-Assign Checked checked_step at x

pub checked-Let : (name : List ℕ) (x : Expr) → checked_stmt (b.Let name x) ≡ checked_step (BodyStmt-F.Let name x)
unfolding checked_stmt
checked-Let name x = at-Let Checked checked_step name x

pub checked-Combine : (name : List ℕ) (x : Expr) → checked_stmt (b.Combine name x) ≡ checked_step (BodyStmt-F.Combine name x)
unfolding checked_stmt
checked-Combine name x = at-Combine Checked checked_step name x

pub checked-If : (x : Expr) (xs : List BodyStmt) (ys : Option (List BodyStmt)) → checked_stmt (b.If x xs ys) ≡ checked_step (BodyStmt-F.If x (map checked_stmt xs) (option_map (map checked_stmt) ys))
unfolding checked_stmt
checked-If x xs ys = at-If Checked checked_step x xs ys

pub checked-VecOff : (xs : List BodyStmt) → checked_stmt (b.VecOff xs) ≡ checked_step (BodyStmt-F.VecOff (map checked_stmt xs))
unfolding checked_stmt
checked-VecOff xs = at-VecOff Checked checked_step xs

pub checked-Ordered : (at : Place) (op : ScalarOp) (x : Expr) → checked_stmt (b.Ordered at op x) ≡ checked_step (BodyStmt-F.Ordered at op x)
unfolding checked_stmt
checked-Ordered at op x = at-Ordered Checked checked_step at op x

pub ruleset checked_by_form = (checked-Assign, checked-Let, checked-Combine, checked-If, checked-VecOff, checked-Ordered)

-- ---- the elements that it reads and writes

pub places-Assign : (at : Place) (x : Expr) → places (b.Assign at x) ≡ places_step (BodyStmt-F.Assign at x)
unfolding places
places-Assign at x = at-Assign (List Place) places_step at x

pub places-Let : (name : List ℕ) (x : Expr) → places (b.Let name x) ≡ places_step (BodyStmt-F.Let name x)
unfolding places
places-Let name x = at-Let (List Place) places_step name x

pub places-Combine : (name : List ℕ) (x : Expr) → places (b.Combine name x) ≡ places_step (BodyStmt-F.Combine name x)
unfolding places
places-Combine name x = at-Combine (List Place) places_step name x

pub places-If : (x : Expr) (xs : List BodyStmt) (ys : Option (List BodyStmt)) → places (b.If x xs ys) ≡ places_step (BodyStmt-F.If x (map places xs) (option_map (map places) ys))
unfolding places
places-If x xs ys = at-If (List Place) places_step x xs ys

pub places-VecOff : (xs : List BodyStmt) → places (b.VecOff xs) ≡ places_step (BodyStmt-F.VecOff (map places xs))
unfolding places
places-VecOff xs = at-VecOff (List Place) places_step xs

pub places-Ordered : (at : Place) (op : ScalarOp) (x : Expr) → places (b.Ordered at op x) ≡ places_step (BodyStmt-F.Ordered at op x)
unfolding places
places-Ordered at op x = at-Ordered (List Place) places_step at op x

pub ruleset places_by_form = (places-Assign, places-Let, places-Combine, places-If, places-VecOff, places-Ordered)
