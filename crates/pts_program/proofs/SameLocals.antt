-- A loop has the same local names without constants.
use Rattle.std.proofs.Common.{◌≡◌, Option, Some, None, option_map, List, [], ◌∷◌, ◌++◌, map, refl, sym, ap, ◌∙◌}
use Rattle.std.specs.Prelude.{flat_map}
use Rattle.pts_tree.specs.declared.loops.BodyStmt.{BodyStmt}
use Rattle.pts_tree.specs.declared.loops.BodyStmt.TheVariants as b
use Rattle.pts_tree.specs.declared.loops.Clause.{Clause}
use Rattle.pts_tree.specs.declared.loops.Clause.TheVariants as clauses
use Rattle.pts_tree.specs.declared.loops.Loop as loops
use Rattle.pts_rules.specs.Known.{Scope}
use Rattle.pts_rules.specs.Parts.{Name, clause_name, lets, loop_locals, names_of}
use Rattle.pts_rules.proofs.Bodies.{lets-Assign, lets-Let, lets-Combine, lets-If, lets-VecOff, lets-Ordered}
use Rattle.pts_constants.specs.Resolved.{resolved_clause, resolved_loop, resolved_stmt}
use Rattle.pts_constants.proofs.ResolvedStatements.{stmt-Assign, stmt-Let, stmt-Combine, stmt-If, stmt-VecOff, stmt-Ordered}
use Rattle.pts_program.proofs.BodyForms.{AllStmts, IfStmts, StmtForms, every_stmt}

module _ (scope : Scope) where
  abbrev r : BodyStmt → BodyStmt
  r = resolved_stmt scope

  abbrev Same : BodyStmt → Type 0
  Same x = lets (r x) ≡ lets x

  all_same : (xs : List BodyStmt) → AllStmts Same xs → flat_map (λ y. y) (map lets (map r xs)) ≡ flat_map (λ y. y) (map lets xs)
  all_same [] known = refl
  all_same (x ∷ xs) known = λ i. known.0 i ++ all_same xs known.1 i

  else_same : (ys : Option (List BodyStmt)) → IfStmts Same ys → names_of (flat_map (λ y. y)) (option_map (map lets) (option_map (map r) ys)) ≡ names_of (flat_map (λ y. y)) (option_map (map lets) ys)
  else_same None known = refl
  else_same (Some ys) known = all_same ys known

  same_by : (x y : BodyStmt) (now was : List Name) → r x ≡ y → lets y ≡ now → lets x ≡ was → now ≡ was → Same x
  same_by x y now was is after before same = ap lets is ∙ after ∙ same ∙ sym before

  forms : StmtForms Same
  forms = record {
    Assign = λ at x. same_by (b.Assign at x) _ _ _ (stmt-Assign scope at x) (lets-Assign _ _) (lets-Assign at x) refl;
    Let = λ name x. same_by (b.Let name x) _ _ _ (stmt-Let scope name x) (lets-Let name _) (lets-Let name x) refl;
    Combine = λ name x. same_by (b.Combine name x) _ _ _ (stmt-Combine scope name x) (lets-Combine name _) (lets-Combine name x) refl;
    If = λ x xs ys known other.
        same_by (b.If x xs ys) _ _ _ (stmt-If scope x xs ys) (lets-If _ (map r xs) (option_map (map r) ys)) (lets-If x xs ys) (λ i. all_same xs known i ++ else_same ys other i);
    VecOff = λ xs known. same_by (b.VecOff xs) _ _ _ (stmt-VecOff scope xs) (lets-VecOff (map r xs)) (lets-VecOff xs) (all_same xs known);
    Ordered = λ at op x. same_by (b.Ordered at op x) _ _ _ (stmt-Ordered scope at op x) (lets-Ordered _ op _) (lets-Ordered at op x) refl;
  }

  bodies_same : (xs : List BodyStmt) → flat_map lets (map r xs) ≡ flat_map lets xs
  bodies_same [] = refl
  bodies_same (x ∷ xs) = λ i. every_stmt Same forms x i ++ bodies_same xs i

  name_same : (c : Clause) → clause_name (resolved_clause scope c) ≡ clause_name c
  name_same (clauses.Reduce x) = refl
  name_same (clauses.Induct x) = refl

  pub heads_same : (cs : List Clause) → flat_map (λ c. clause_name c ∷ []) (map (resolved_clause scope) cs) ≡ flat_map (λ c. clause_name c ∷ []) cs
  heads_same [] = refl
  heads_same (c ∷ cs) = λ i. name_same c i ∷ heads_same cs i

  pub locals_same : (x : loops.Loop) → loop_locals (resolved_loop scope x) ≡ loop_locals x
  locals_same x = λ i. (x.index ∷ heads_same x.clauses i) ++ bodies_same x.body i
