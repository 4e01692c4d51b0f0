-- What is asked of the elements of an item: whether an index is no line, and at which position one is first past its array.
use Rattle.std.specs.Prelude.{ℕ, Bool, ◌||◌, Option, List}
use Rattle.std.specs.List.{list_any}
use Rattle.pts_tree.specs.declared.expr.Expr.{Expr}
use Rattle.pts_tree.specs.declared.expr.Place.{Place}
use Rattle.pts_tree.specs.declared.loops.Clause.{Clause}
use Rattle.pts_rules.specs.Parts.{Name, Simple}
use Rattle.pts_rules.specs.Known.{Scope}
use Rattle.pts_rules.specs.Indices.{Reach, clause_reach, elements, line_of, place_reach, reaches}
use Rattle.pts_bounds.specs.declared.firsts.Progression.{Progression}
use Rattle.pts_bounds.specs.Firsts.{first_leaving, sooner, soonest}

abbrev pub first_of : List Reach → Option ℕ
first_of xs = soonest first_leaving xs

-- the cell of a clause
abbrev pub clause_first : Scope → Clause → Option ℕ
clause_first scope x = first_of (clause_reach scope x)

-- an element at an index that takes these numbers
abbrev pub place_first : Scope → Progression → Option Name → Place → Option ℕ
place_first scope progression index at = first_of (place_reach scope (line_of progression.first progression.step progression.n) index at)

-- a statement
abbrev pub first_in : Scope → Simple → Option ℕ
first_in scope x = first_of (reaches scope x)

-- a test of a place that is written, and of the elements of an expression
abbrev pub any_of_write : (Place → Bool) → Place → Expr → Bool
any_of_write p at x = (p at || list_any p (elements at.index)) || list_any p (elements x)

-- the first position of a place that is written, and of the elements of an expression
abbrev pub first_of_write : (Place → Option ℕ) → Place → Expr → Option ℕ
first_of_write f at x = sooner (sooner (f at) (soonest f (elements at.index))) (soonest f (elements x))
