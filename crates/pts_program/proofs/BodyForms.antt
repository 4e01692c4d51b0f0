-- What holds of every statement of a body, from what holds of each form of it.
use Rattle.std.specs.Prelude.{⊤}
use Rattle.std.proofs.Common.{ℕ, Option, Some, None, List, [], ◌∷◌, map, sym, subst}
use Rattle.pts_types.specs.declared.operation.ScalarOp.{ScalarOp}
use Rattle.pts_tree.specs.declared.expr.Expr.{Expr}
use Rattle.pts_tree.specs.declared.expr.Place.{Place}
use Rattle.pts_tree.specs.declared.loops.BodyStmt.{BodyStmt, roll-BodyStmt}
use Rattle.pts_tree.specs.declared.loops.BodyStmt.TheOpen.{BodyStmt-F}
use Rattle.pts_tree.specs.declared.loops.BodyStmt.TheVariants as b
use Rattle.pts_tree.specs.declared.loops.BodyStmt.TheFolds.{map-BodyStmt, ind-BodyStmt}

abbrev pub AllStmts : (BodyStmt → Type 0) → List BodyStmt → Type 0
AllStmts P [] = ⊤
AllStmts P (x ∷ xs) = P x × AllStmts P xs

-- of each, where there are any
abbrev pub IfStmts : (BodyStmt → Type 0) → Option (List BodyStmt) → Type 0
IfStmts P None = ⊤
IfStmts P (Some xs) = AllStmts P xs

pub record StmtForms (P : BodyStmt → Type 0) : Type 0 where
  pub Assign : (at : Place) (x : Expr) → P (b.Assign at x)
  pub Let : (name : List ℕ) (x : Expr) → P (b.Let name x)
  pub Combine : (name : List ℕ) (x : Expr) → P (b.Combine name x)
  pub If : (x : Expr) (xs : List BodyStmt) (ys : Option (List BodyStmt)) → AllStmts P xs → IfStmts P ys → P (b.If x xs ys)
  pub VecOff : (xs : List BodyStmt) → AllStmts P xs → P (b.VecOff xs)
  pub Ordered : (at : Place) (op : ScalarOp) (x : Expr) → P (b.Ordered at op x)

module _ (P : BodyStmt → Type 0) where
  -- a statement with what is known of it
  abbrev Known : Type 0
  Known = (x : BodyStmt) × P x

  abbrev firsts : List Known → List BodyStmt
  firsts ys = map (λ (y : Known). y.0) ys

  all_stmts : (ys : List Known) → AllStmts P (firsts ys)
  all_stmts [] = tt
  all_stmts (y ∷ ys) = (y.1, all_stmts ys)

  by_form : StmtForms P → (y : BodyStmt-F Known) → P (roll-BodyStmt (map-BodyStmt Known BodyStmt (λ z. z.0) y))
  by_form f (BodyStmt-F.Assign at x) = subst P (sym (b.rolls-Assign at x)) (f.Assign at x)
  by_form f (BodyStmt-F.Let name x) = subst P (sym (b.rolls-Let name x)) (f.Let name x)
  by_form f (BodyStmt-F.Combine name x) = subst P (sym (b.rolls-Combine name x)) (f.Combine name x)
  by_form f (BodyStmt-F.If x ys None) = subst P (sym (b.rolls-If x (firsts ys) None)) (f.If x (firsts ys) None (all_stmts ys) tt)
  by_form f (BodyStmt-F.If x ys (Some zs)) = subst P (sym (b.rolls-If x (firsts ys) (Some (firsts zs)))) (f.If x (firsts ys) (Some (firsts zs)) (all_stmts ys) (all_stmts zs))
  by_form f (BodyStmt-F.VecOff ys) = subst P (sym (b.rolls-VecOff (firsts ys))) (f.VecOff (firsts ys) (all_stmts ys))
  by_form f (BodyStmt-F.Ordered at op x) = subst P (sym (b.rolls-Ordered at op x)) (f.Ordered at op x)

  -- each statement has one of the forms
  pub every_stmt : StmtForms P → (x : BodyStmt) → P x
  every_stmt f = ind-BodyStmt P (λ x y is. subst (λ z. P (roll-BodyStmt z)) is (by_form f y))

  -- and so have all of a list
  pub all_of_them : ((x : BodyStmt) → P x) → (xs : List BodyStmt) → AllStmts P xs
  all_of_them f [] = tt
  all_of_them f (x ∷ xs) = (f x, all_of_them f xs)
