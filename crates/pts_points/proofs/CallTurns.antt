-- How the points of calls and loops are added.
use Rattle.std.proofs.Common.{◌≡◌, ℕ, ◌+◌, ◌<◌, Option, Some, None, List, map, length, get_or, take, sym, ap, subst, ◌∙◌}
use Rattle.pts_tree.specs.declared.sum.Range.{Range}
use Rattle.pts_tree.specs.declared.sum.Cell.{Cell}
use Rattle.pts_tree.specs.declared.call.Call as call
use Rattle.pts_tree.specs.declared.loops.Loop as loops
use Rattle.pts_tree.specs.declared.loops.Clause.{Clause}
use Rattle.pts_tree.specs.declared.loops.BodyStmt.{BodyStmt}
use Rattle.pts_rules.specs.Known.{Scope}
use Rattle.pts_points.specs.declared.builder.Builder.{Builder}
use Rattle.pts_points.specs.declared.point.PointForm.TheVariants.{Read, Write, LiveOut, Into}
use Rattle.pts_points.specs.Lines.{line_of_range, line_of_cell, space_of}
use Rattle.pts_points.specs.Pieces.{Along, Reads, Fills, LivesOut, Answers, Piece, behind, sequence}
use Rattle.pts_points.specs.Points.{array_at, body_piece, live_out, clause_piece, loop_piece, source_piece, target_piece, answer_piece, piece_of, own_piece, call_piece}
use Rattle.pts_points.specs.Building.{Adds, pushed_range, pushed_cell}
use Rattle.pts_points.proofs.Standing.{good_behind}
use Rattle.pts_points.proofs.Wholes.{good_source, good_target, good_own, good_piece_of, good_clause, good_clauses}
use Rattle.pts_points.proofs.Builds.{adds_nothing, adds_behind, adds_alone}
use Rattle.pts_points.proofs.Turns.{same_space, adds_turn}

module _ (scope : Scope) (b c : Builder) where
  pub source_added : (x : Range) → c ≡ pushed_range scope b Read x → Adds b c (source_piece scope x)
  source_added x e = adds_alone b c (Reads (array_at scope x.array) (Along (line_of_range scope x))) e

  pub target_added : (x : Range) → c ≡ pushed_range scope b Write x → Adds b c (target_piece scope x)
  target_added x e = adds_alone b c (Fills (array_at scope x.array) (line_of_range scope x)) e

  pub answer_added : (x : Cell) → c ≡ pushed_cell scope b Into x → Adds b c (answer_piece scope x)
  answer_added x e = adds_alone b c (Answers (array_at scope x.array) (line_of_cell scope x)) e

  pub live_out_added : (x : Cell) → c ≡ pushed_cell scope b LiveOut x → Adds b c (live_out scope x)
  live_out_added x e = adds_alone b c (LivesOut (array_at scope x.array) (line_of_cell scope x)) e

-- where there is a part, and where there is none
pub adds_some : {A : Type 0} (f : A → Piece) (b c : Builder) (o : Option A) (x : A) → o ≡ Some x → Adds b c (f x) → Adds b c (piece_of f o)
adds_some f b c o x is h = subst (Adds b c) (sym (ap (piece_of f) is)) h

pub adds_none : {A : Type 0} (f : A → Piece) (b : Builder) (o : Option A) → o ≡ None → Adds b b (piece_of f o)
adds_none f b o is = subst (Adds b b) (sym (ap (piece_of f) is)) (adds_nothing b)

module _ (scope : Scope) where
  pub sources_added : (b c d : Builder) (x : call.Call) → Adds b c (source_piece scope x.first) → Adds c d (piece_of (source_piece scope) x.second)
      → Adds b d (behind (source_piece scope x.first) (piece_of (source_piece scope) x.second))
  sources_added b c d x h k = adds_behind b c d (source_piece scope x.first) (piece_of (source_piece scope) x.second) (good_source scope x.first) h k

  pub results_added : (b c d : Builder) (x : call.Call) → Adds b c (piece_of (target_piece scope) x.target) → Adds c d (piece_of (answer_piece scope) x.store)
      → Adds b d (behind (piece_of (target_piece scope) x.target) (piece_of (answer_piece scope) x.store))
  results_added b c d x h k =
      adds_behind b c d (piece_of (target_piece scope) x.target) (piece_of (answer_piece scope) x.store) (good_piece_of scope (target_piece scope) (good_target scope) x.target) h k

  pub call_added : (b c d e : Builder) (x : call.Call) → Adds b c (behind (source_piece scope x.first) (piece_of (source_piece scope) x.second))
      → Adds c d (own_piece scope x.form x.first) → Adds d e (behind (piece_of (target_piece scope) x.target) (piece_of (answer_piece scope) x.store)) → Adds b e (call_piece scope x)
  call_added b c d e x h k l =
      let first = behind (source_piece scope x.first) (piece_of (source_piece scope) x.second) in
      let last = behind (piece_of (target_piece scope) x.target) (piece_of (answer_piece scope) x.store) in
      adds_behind b c e first (behind (own_piece scope x.form x.first) last)
      (good_behind (source_piece scope x.first) (piece_of (source_piece scope) x.second) (good_source scope x.first) (good_piece_of scope (source_piece scope) (good_source scope) x.second)) h
      (adds_behind c d e (own_piece scope x.form x.first) last (good_own scope x.form x.first) k l)

  pub clauses_turn : (b c d : Builder) (xs : List Clause) (at : ℕ) (x : Clause) → at < length xs → x ≡ get_or xs at x → Adds b c (sequence (map (clause_piece scope) (take at xs)))
      → Adds c d (clause_piece scope x) → Adds b d (sequence (map (clause_piece scope) (take (at + 1) xs)))
  clauses_turn b c d xs at x within is h k = adds_turn (clause_piece scope) (good_clause scope) b c d xs at x within is h k

  pub loop_added : (b c d : Builder) (x : loops.Loop) (ys : List Clause) (zs : List BodyStmt) → b.space ≡ space_of scope x → ys ≡ x.clauses → zs ≡ x.body
      → Adds b c (sequence (map (clause_piece scope) ys)) → Adds c d (body_piece scope c.space zs) → Adds b d (loop_piece scope x)
  loop_added b c d x ys zs runs is_clauses is_body h k =
      let clauses = sequence (map (clause_piece scope) x.clauses) in
      let first : Adds b c clauses = subst (λ us. Adds b c (sequence (map (clause_piece scope) us))) is_clauses h in
      let space = same_space b c clauses first ∙ runs in
      adds_behind b c d clauses (body_piece scope (space_of scope x) x.body) (good_clauses scope x.clauses) first
      (subst (λ us. Adds c d (body_piece scope (space_of scope x) us)) is_body (subst (λ s. Adds c d (body_piece scope s zs)) space k))
