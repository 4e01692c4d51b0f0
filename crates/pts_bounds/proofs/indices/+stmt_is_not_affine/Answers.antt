use Rattle.std.proofs.Common.{rules, ◌≡◌}
use Rattle.std.specs.Prelude.{◌||◌}
use Rattle.std.specs.List.{list_any}
use Rattle.std.specs.Option.{option_copied}
use Rattle.pts_tree.specs.declared.loops.BodyStmt.{BodyStmt}
use Rattle.pts_rules.specs.Indices.{elements, index_not_affine, places}
use Rattle.pts_bounds.proofs.Somewhere.{with_else, without_else}
use Rattle.pts_bounds.proofs.indices.+stmt_is_not_affine.Goals as goal
use Rattle.pts_bounds.proofs.indices.+stmt_is_not_affine.Goals.{stmt_is_not_affine-then-expr_is_not_affine, stmt_is_not_affine-else-expr_is_not_affine}

pub stmt_is_not_affine-returns-then-before : goal.stmt_is_not_affine-returns-then-before
stmt_is_not_affine-returns-then-before t c =
    let bends = index_not_affine c.args.scope.now (option_copied c.args.index) in
    let before : c.if-expr_is_not_affine.before ≡ (list_any bends (elements c.in-If.test) || list_any (λ (y : BodyStmt). list_any bends (places y)) c.in-If.then) =
    elim c.if-expr_is_not_affine.branch [ stmt_is_not_affine-then-expr_is_not_affine w ↦ search rules | stmt_is_not_affine-else-expr_is_not_affine w ↦ search rules ] in
    with_else bends c.args.stmt.now c.in-If.test c.in-If.then c.in-Some.other c.in-If.other _ _ c.in-If.is c.in-Some.is before (search rules)

pub stmt_is_not_affine-returns-else-before : goal.stmt_is_not_affine-returns-else-before
stmt_is_not_affine-returns-else-before t c =
    let bends = index_not_affine c.args.scope.now (option_copied c.args.index) in
    let before : c.if-expr_is_not_affine.before ≡ (list_any bends (elements c.in-If.test) || list_any (λ (y : BodyStmt). list_any bends (places y)) c.in-If.then) =
    elim c.if-expr_is_not_affine.branch [ stmt_is_not_affine-then-expr_is_not_affine w ↦ search rules | stmt_is_not_affine-else-expr_is_not_affine w ↦ search rules ] in
    with_else bends c.args.stmt.now c.in-If.test c.in-If.then c.in-Some.other c.in-If.other _ _ c.in-If.is c.in-Some.is before (search rules)

pub stmt_is_not_affine-returns-in-None : goal.stmt_is_not_affine-returns-in-None
stmt_is_not_affine-returns-in-None t c =
    let bends = index_not_affine c.args.scope.now (option_copied c.args.index) in
    let before : c.if-expr_is_not_affine.before ≡ (list_any bends (elements c.in-If.test) || list_any (λ (y : BodyStmt). list_any bends (places y)) c.in-If.then) =
    elim c.if-expr_is_not_affine.branch [ stmt_is_not_affine-then-expr_is_not_affine w ↦ search rules | stmt_is_not_affine-else-expr_is_not_affine w ↦ search rules ] in
    without_else bends c.args.stmt.now c.in-If.test c.in-If.then c.in-If.other _ c.in-If.is c.in-None.is before
