-- A chain and joined members, from what was read of them.
use Rattle.std.proofs.Common.{◌≡◌, List, Ok, refl}
use Rattle.pts_tree.specs.Signs.{Sign}
use Rattle.pts_tree.specs.declared.expr.Expr.{Expr}
use Rattle.pts_tree.specs.declared.expr.ChainPart.{ChainPart}
use Rattle.pts_parse.specs.declared.expressions.Level.{Level}
use Rattle.pts_parse.specs.declared.expressions.Connective.{Connective}
use Rattle.pts_parse.specs.Reading.{Parser, and_then}
use Rattle.pts_parse.specs.ExprReading.{chain_parts, chained, chain_of, next_members, joined, members_of}

pub chain_read : (level : Level) (operand : Parser Expr) (ts us vs : List Sign) (x y : Expr) (parts : List ChainPart)
    → operand ts ≡ Ok (x, us) → chain_parts level operand us ≡ Ok (parts, vs) → y ≡ chained x parts → chain_of level operand ts ≡ Ok (y, vs)
unfolding chain_of and_then
chain_read level operand ts us vs x y parts p q e = rw (p, q, e) refl

pub members_read : (which : Connective) (member : Parser Expr) (ts us vs : List Sign) (x y : Expr) (more : List Expr)
    → member ts ≡ Ok (x, us) → next_members which member us ≡ Ok (more, vs) → y ≡ joined which x more → members_of which member ts ≡ Ok (y, vs)
unfolding members_of and_then
members_read which member ts us vs x y more p q e = rw (p, q, e) refl
