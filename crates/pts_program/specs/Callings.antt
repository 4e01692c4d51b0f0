-- Functions whose bodies use parameters and earlier functions alone.
use Rattle.std.specs.Prelude.{IsTrue, ⊤, Bool, true, false, ◌&&◌, List, [], ◌∷◌, ◌++◌}
use Rattle.std.specs.List.{list_all, list_any}
use Rattle.std.specs.Str.{bytes_eq}
use Rattle.pts_tree.specs.declared.expr.Expr.{Expr}
use Rattle.pts_tree.specs.declared.expr.Expr.TheOpen.{Expr-F}
use Rattle.pts_tree.specs.declared.expr.Expr.TheFolds.{fold-Expr}
use Rattle.pts_rules.specs.Parts.{Name, param_names}
use Rattle.pts_code.specs.declared.function.FunctionInfo.{FunctionInfo}

abbrev pub is_one_of : List Name → Name → Bool
is_one_of names name = list_any (bytes_eq name) names

abbrev pub each : List Bool → Bool
each xs = list_all (λ x. x) xs

-- one case for each form of expression
abbrev pub use_step : List Name → List Name → Expr-F Bool Bool → Bool
use_step values functions (Expr-F.Name name) = is_one_of values name
use_step values functions (Expr-F.Call name xs) = is_one_of functions name && each xs
use_step values functions (Expr-F.Element name x) = false
use_step values functions (Expr-F.Convert to x) = x
use_step values functions (Expr-F.Paren x) = x
use_step values functions (Expr-F.Minus x) = x
use_step values functions (Expr-F.Not x) = x
use_step values functions (Expr-F.Chain x xs) = x && each xs
use_step values functions (Expr-F.Compare op x y) = x && y
use_step values functions (Expr-F.All xs) = each xs
use_step values functions (Expr-F.Any xs) = each xs
use_step values functions (Expr-F.If x y z) = x && y && z
use_step values functions _ = true

-- an expression whose calls are of these functions, whose other names are those of these values, and which reads no element
unfoldable pub uses_only : List Name → List Name → Expr → Bool
uses_only values functions = fold-Expr Bool Bool (use_step values functions) (λ part. part.operand)

-- the body of each function uses its parameters and calls functions before it, which are those of these names and those before it here
abbrev pub CallEarlier : List Name → List FunctionInfo → Type 0
CallEarlier earlier [] = ⊤
CallEarlier earlier (f ∷ fs) = IsTrue (uses_only (param_names f.params) earlier f.body) × CallEarlier (earlier ++ f.name ∷ []) fs
