-- Statements between braces, each in the scope that those before it leave.
use Rattle.std.proofs.Common.{◌≡◌, ℕ, ◌+◌, ◌<◌, ◌≤◌, Bool, true, false, Some, None, List, ◌∷◌, map, length, get_or, drop, refl, sym, ap, ◌∙◌}
use Rattle.std.proofs.lemmas.List.{drop_more, drop_all}
use Rattle.std.specs.Prelude.{◌&&◌}
use Rattle.pts_types.specs.declared.value.Kind.TheVariants as kinds
use Rattle.pts_tree.specs.declared.expr.Expr.{Expr}
use Rattle.pts_tree.specs.declared.loops.BodyStmt.{BodyStmt}
use Rattle.pts_tree.specs.declared.loops.BodyStmt.TheVariants as b
use Rattle.pts_rules.specs.Known.{Scope}
use Rattle.pts_rules.specs.Mistyped.{all_right, checked_stmt}
use Rattle.pts_rules.specs.Kinds.{fits}
use Rattle.pts_rules.proofs.Bodies.{checked-If}
use Rattle.pts_kinds.specs.Entered.{IsAbove}
use Rattle.pts_kinds.proofs.Above.{above_same, above_more}

-- the answer so far, the scope at a place, and what is left of the statements there
pub record Walked (old : Scope) (xs : List BodyStmt) (at : ℕ) (right : Bool) (scope : Scope) : Type 0 where
  pub answers : (right && all_right scope (map checked_stmt (drop at xs))) ≡ all_right old (map checked_stmt xs)
  pub above : IsAbove scope old

and_assoc : (a b c : Bool) → ((a && b) && c) ≡ (a && (b && c))
and_assoc true b c = refl
and_assoc false b c = refl

and_true : (a : Bool) → (a && true) ≡ a
and_true true = refl
and_true false = refl

pub walked_none : (old : Scope) (xs : List BodyStmt) → Walked old xs 0 true old
walked_none old xs = record { answers = refl; above = above_same old old refl }

pub walked_one : (old : Scope) (xs : List BodyStmt) (at : ℕ) (right b now : Bool) (scope behind : Scope) (x : BodyStmt) → Walked old xs at right scope → at < length xs → x ≡ get_or xs at x
    → b ≡ (checked_stmt x).right scope → behind ≡ (checked_stmt x).behind scope → IsAbove behind scope → now ≡ (right && b) → Walked old xs (at + 1) now behind
walked_one old xs at right b now scope behind x w within is b_is behind_is over now_is =
    let rest = map checked_stmt (drop (at + 1) xs) in
    record {
      answers =
          ap (λ c. c && all_right behind rest) now_is
          ∙ and_assoc right b (all_right behind rest)
          ∙ (λ i. right && (b_is i && all_right (behind_is i) rest))
          ∙ ap (λ ys. right && all_right scope (map checked_stmt ys)) (sym (drop_more xs at x within ∙ ap (λ y. y ∷ drop (at + 1) xs) (sym is)))
          ∙ w.answers;
      above = above_more behind scope old over w.above;
    }

pub walked_all : (old : Scope) (xs : List BodyStmt) (at : ℕ) (right : Bool) (scope : Scope) → Walked old xs at right scope → length xs ≤ at → right ≡ all_right old (map checked_stmt xs)
walked_all old xs at right scope w all =
    sym (and_true right) ∙ ap (λ ys. right && all_right scope (map checked_stmt ys)) (sym (drop_all at xs all)) ∙ w.answers

pub walked_above : (old : Scope) (xs : List BodyStmt) (at : ℕ) (right : Bool) (scope : Scope) → Walked old xs at right scope → IsAbove scope old
walked_above old xs at right scope w = w.above

pub ruleset braces_turns = (walked_none, walked_one, walked_all, walked_above)

-- ---- conditions

pub if_both : (scope now : Scope) (s : BodyStmt) (test : Expr) (xs ys : List BodyStmt) (right then other : Bool) → s ≡ b.If test xs (Some ys)
    → right ≡ fits true scope kinds.Bool test → then ≡ all_right scope (map checked_stmt xs) → other ≡ all_right now (map checked_stmt ys) → now ≡ scope
    → ((right && then) && other) ≡ (checked_stmt s).right scope
if_both scope now s test xs ys right then other is right_is then_is other_is same =
    (λ i. (right_is i && then_is i) && (other_is ∙ ap (λ at. all_right at (map checked_stmt ys)) same) i)
    ∙ sym (ap (λ x. (checked_stmt x).right scope) is ∙ ap (λ x. x.right scope) (checked-If test xs (Some ys)))

pub if_one : (scope : Scope) (s : BodyStmt) (test : Expr) (xs : List BodyStmt) (right then : Bool) → s ≡ b.If test xs None
    → right ≡ fits true scope kinds.Bool test → then ≡ all_right scope (map checked_stmt xs) → (right && then) ≡ (checked_stmt s).right scope
if_one scope s test xs right then is right_is then_is =
    (λ i. right_is i && then_is i)
    ∙ sym (and_true (fits true scope kinds.Bool test && all_right scope (map checked_stmt xs)))
    ∙ sym (ap (λ x. (checked_stmt x).right scope) is ∙ ap (λ x. x.right scope) (checked-If test xs None))
