-- What the statements of a loop's body use, bind and declare, form by form.
use Rattle.std.proofs.Common.{◌≡◌, ℕ, Bool, Option, Some, None, List, [], ◌∷◌, ◌++◌, map, ap, ◌∙◌}
use Rattle.std.specs.Prelude.{◌||◌, flat_map}
use Rattle.pts_types.specs.declared.operation.ScalarOp.{ScalarOp}
use Rattle.pts_tree.specs.declared.expr.Expr.{Expr}
use Rattle.pts_tree.specs.declared.expr.Place.{Place}
use Rattle.pts_tree.specs.declared.loops.BodyStmt.{BodyStmt}
use Rattle.pts_tree.specs.declared.loops.BodyStmt.TheVariants as b
use Rattle.pts_rules.specs.Known.{Scope}
use Rattle.pts_rules.specs.Parts.{lets, names_of, uses, free, place_names, expr_names}
use Rattle.pts_rules.proofs.Bodies as by
use Rattle.pts_names.specs.Entered.{is_missing, misses}
use Rattle.pts_names.proofs.ExprNames.{joined}
use Rattle.pts_names.proofs.Missing.{misses_none, misses_more, misses_both, or_false}

-- ---- the names of its `let`s

pub lets-Assign : (at : Place) (x : Expr) → lets (b.Assign at x) ≡ []
lets-Assign at x = by.lets-Assign at x

pub lets-Let : (name : List ℕ) (x : Expr) → lets (b.Let name x) ≡ name ∷ []
lets-Let name x = by.lets-Let name x

pub lets-Combine : (name : List ℕ) (x : Expr) → lets (b.Combine name x) ≡ []
lets-Combine name x = by.lets-Combine name x

pub lets-If : (x : Expr) (xs : List BodyStmt) (ys : Option (List BodyStmt)) → lets (b.If x xs ys) ≡ flat_map lets xs ++ names_of (flat_map lets) ys
lets-If x xs None = by.lets-If x xs None ∙ ap (λ zs. zs ++ []) (joined lets xs)
lets-If x xs (Some ys) = by.lets-If x xs (Some ys) ∙ (λ i. joined lets xs i ++ joined lets ys i)

pub lets-VecOff : (xs : List BodyStmt) → lets (b.VecOff xs) ≡ flat_map lets xs
lets-VecOff xs = by.lets-VecOff xs ∙ joined lets xs

pub lets-Ordered : (at : Place) (op : ScalarOp) (x : Expr) → lets (b.Ordered at op x) ≡ []
lets-Ordered at op x = by.lets-Ordered at op x

pub ruleset lets_parts = (lets-Assign, lets-Let, lets-Combine, lets-If, lets-VecOff, lets-Ordered)

-- ---- what a statement binds

pub bound-Assign : (at : Place) (x : Expr) → (uses (b.Assign at x)).bound ≡ []
bound-Assign at x = ap (λ u. u.bound) (by.uses-Assign at x)

pub bound-Let : (name : List ℕ) (x : Expr) → (uses (b.Let name x)).bound ≡ name ∷ []
bound-Let name x = ap (λ u. u.bound) (by.uses-Let name x)

pub bound-Combine : (name : List ℕ) (x : Expr) → (uses (b.Combine name x)).bound ≡ []
bound-Combine name x = ap (λ u. u.bound) (by.uses-Combine name x)

pub bound-If : (x : Expr) (xs : List BodyStmt) (ys : Option (List BodyStmt)) → (uses (b.If x xs ys)).bound ≡ []
bound-If x xs ys = ap (λ u. u.bound) (by.uses-If x xs ys)

pub bound-VecOff : (xs : List BodyStmt) → (uses (b.VecOff xs)).bound ≡ []
bound-VecOff xs = ap (λ u. u.bound) (by.uses-VecOff xs)

pub bound-Ordered : (at : Place) (op : ScalarOp) (x : Expr) → (uses (b.Ordered at op x)).bound ≡ []
bound-Ordered at op x = ap (λ u. u.bound) (by.uses-Ordered at op x)

pub ruleset bound_parts = (bound-Assign, bound-Let, bound-Combine, bound-If, bound-VecOff, bound-Ordered)

-- ---- whether what it uses is in scope

module _ (scope : Scope) where
  -- the answer for a statement
  abbrev missed : BodyStmt → Bool
  missed x = misses scope (uses x).used

  -- the answer for statements between braces
  abbrev body_missed : List BodyStmt → Bool
  body_missed xs = misses scope (free (map uses xs))

  pub used-Assign : (at : Place) (x : Expr) → missed (b.Assign at x) ≡ (misses scope (place_names at) || misses scope (expr_names x))
  used-Assign at x = ap (λ u. misses scope u.used) (by.uses-Assign at x) ∙ misses_both scope (place_names at) (expr_names x)

  pub used-Let : (name : List ℕ) (x : Expr) → missed (b.Let name x) ≡ misses scope (expr_names x)
  used-Let name x = ap (λ u. misses scope u.used) (by.uses-Let name x)

  pub used-Combine : (name : List ℕ) (x : Expr) → missed (b.Combine name x) ≡ (is_missing scope name || misses scope (expr_names x))
  used-Combine name x = ap (λ u. misses scope u.used) (by.uses-Combine name x) ∙ misses_more scope name (expr_names x)

  pub used-then : (x : Expr) (xs : List BodyStmt) → missed (b.If x xs None) ≡ (misses scope (expr_names x) || body_missed xs)
  used-then x xs =
      ap (λ u. misses scope u.used) (by.uses-If x xs None) ∙ misses_both scope (expr_names x ++ free (map uses xs)) []
      ∙ (λ i. misses_both scope (expr_names x) (free (map uses xs)) i || misses_none scope i)
      ∙ or_false (misses scope (expr_names x) || body_missed xs)

  pub used-else : (x : Expr) (xs ys : List BodyStmt) → missed (b.If x xs (Some ys)) ≡ ((misses scope (expr_names x) || body_missed xs) || body_missed ys)
  used-else x xs ys =
      ap (λ u. misses scope u.used) (by.uses-If x xs (Some ys)) ∙ misses_both scope (expr_names x ++ free (map uses xs)) (free (map uses ys))
      ∙ ap (λ c. c || body_missed ys) (misses_both scope (expr_names x) (free (map uses xs)))

  pub used-VecOff : (xs : List BodyStmt) → missed (b.VecOff xs) ≡ body_missed xs
  used-VecOff xs = ap (λ u. misses scope u.used) (by.uses-VecOff xs)

  pub used-Ordered : (at : Place) (op : ScalarOp) (x : Expr) → missed (b.Ordered at op x) ≡ (misses scope (place_names at) || misses scope (expr_names x))
  used-Ordered at op x = ap (λ u. misses scope u.used) (by.uses-Ordered at op x) ∙ misses_both scope (place_names at) (expr_names x)

pub ruleset used_parts = (used-Assign, used-Let, used-Combine, used-then, used-else, used-VecOff, used-Ordered)
