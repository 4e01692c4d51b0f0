-- The Reads of an expression are read.
use Rattle.std.proofs.Common.{◌≡◌, ℕ, ◌+◌, List, [], ◌∷◌, ◌++◌, replicate, refl, ap, subst, ◌∙◌, arith}
use Rattle.std.proofs.lemmas.List.{replicate-append-replicate}
use Rattle.pts_tree.specs.declared.expr.Expr.{Expr}
use Rattle.pts_tree.specs.declared.expr.Place.{Place}
use Rattle.pts_tree.specs.declared.loops.Loop as loops
use Rattle.pts_rules.specs.Known.{Scope}
use Rattle.pts_rules.specs.Counts.{reads}
use Rattle.pts_points.specs.declared.space.IterationSpace.{IterationSpace}
use Rattle.pts_points.specs.Pieces.{Context, Point, Piece, seeing, taken, nothing, behind, served}
use Rattle.pts_points.specs.Points.{reads_of, both_reads}
use Rattle.pts_points.proofs.ReadForms.{by_reads, read_deed}
use Rattle.pts_steps.specs.declared.step.Step.{Step}
use Rattle.pts_steps.specs.declared.step.Step.TheVariants as steps
use Rattle.pts_steps.specs.Steps.{AreSteps}

module _ (names : Scope) (x : loops.Loop) where
  pub steps_both : (ps qs : List Point) (ss ts : List Step) → AreSteps names x ps ss → AreSteps names x qs ts → AreSteps names x (ps ++ qs) (ss ++ ts)
  steps_both [] qs [] ts h k = k
  steps_both [] qs (s ∷ ss) ts h k = absurd h
  steps_both (p ∷ ps) qs [] ts h k = absurd h
  steps_both (p ∷ ps) qs (s ∷ ss) ts h k = (h.0, steps_both ps qs ss ts h.1 k)

  -- a piece of so many Reads
  pub record AreReads (p : Piece) (n : ℕ) : Type 0 where
    pub size : p.size ≡ n
    pub lets : (context : Context) (k : ℕ) → p.lets context k ≡ context.lets
    pub steps : (context : Context) (k m : ℕ) → AreSteps names x (p.points context k m) (replicate n steps.Read)

  pub reads_none : AreReads nothing 0
  reads_none = record { size = refl; lets = λ context k. refl; steps = λ context k m. tt }

  reads_behind : (p q : Piece) (m n : ℕ) → AreReads p m → AreReads q n → AreReads (behind p q) (m + n)
  reads_behind p q m n g h =
      let a = g.size in
      let b = h.size in
      record {
        size = omega (arith, a, b);
        lets = λ context k. h.lets (seeing (p.lets context k) context) (k + p.size) ∙ g.lets context k;
        steps = λ context k l.
            let rest = seeing (p.lets context k) context in
            subst (AreSteps names x ((behind p q).points context k l)) (replicate-append-replicate m n steps.Read)
            (steps_both (p.points context k l) (q.points rest (k + p.size) (taken context.off p.offs l)) (replicate m steps.Read) (replicate n steps.Read)
            (g.steps context k l) (h.steps rest (k + p.size) (taken context.off p.offs l)));
      }

  pub reads_here : (scope : Scope) (space : IterationSpace) (y : Expr) → AreReads (reads_of scope space y) (reads y)
  reads_here scope space =
      by_reads scope space (λ places n p. AreReads p n) reads_none (λ xs ys m n p q g h. reads_behind p q m n g h)
      (λ name y g.
      let p = reads_of scope space y in
      let n = reads y in
      let a = g.size in
      let turned : n + 1 ≡ 1 + n = omega arith in
      record {
        size = omega (arith, a);
        lets = λ context k. refl;
        steps = λ context k m.
            subst (AreSteps names x ((served p (read_deed scope space name y)).points context k m)) (replicate-append-replicate n 1 steps.Read ∙ ap (λ l. replicate l steps.Read) turned)
            (steps_both (p.points context k m) (_ ∷ []) (replicate n steps.Read) (steps.Read ∷ []) (g.steps context k m) (tt, tt));
      })

  pub reads_both : (scope : Scope) (space : IterationSpace) (at : Place) (y : Expr) → AreReads (both_reads scope space at y) (reads at.index + reads y)
  reads_both scope space at y = reads_behind (reads_of scope space at.index) (reads_of scope space y) (reads at.index) (reads y) (reads_here scope space at.index) (reads_here scope space y)
