-- The steps of a whole loop.
use Rattle.std.proofs.Common.{◌≡◌, ℕ, zero, suc, ◌+◌, ◌<◌, Some, List, [], ◌∷◌, ◌++◌, length, map, get_or, take, refl, sym, ap, subst, ◌∙◌}
use Rattle.std.specs.Prelude.{slice_get, unwrap_or}
use Rattle.std.proofs.lemmas.List.{take_more}
use Rattle.std.proofs.lemmas.Option.{none-some}
use Rattle.pts_tree.specs.declared.loops.Loop as loops
use Rattle.pts_rules.specs.Known.{Scope}
use Rattle.pts_rules.specs.Parts.{Loop}
use Rattle.pts_constants.specs.declared.texts.CallText.{CallText}
use Rattle.pts_points.specs.declared.space.IterationSpace.{IterationSpace}
use Rattle.pts_points.specs.Lines.{space_of}
use Rattle.pts_points.specs.Pieces.{sequence}
use Rattle.pts_points.specs.Points.{body_piece, clause_piece, context_of, loop_piece}
use Rattle.pts_steps.specs.declared.builder.Builder.{Builder}
use Rattle.pts_steps.specs.declared.step.Step.{Step}
use Rattle.pts_steps.specs.Building.{Goes, IsAbove, Stands, left, mark_of}
use Rattle.pts_steps.specs.Steps.{AreSteps, AreStepsOf, loop_points}
use Rattle.pts_steps.specs.Texts.{AreAllSteps}
use Rattle.pts_steps.proofs.Goings.{above_both, goes_behind, left_kinds, left_names, left_spots}

module _ (x : loops.Loop) (a b c d e : Builder) (empty : a.steps ≡ []) (stands : Stands x b []) (globals : b.globals ≡ a.globals) (same : b.steps ≡ a.steps) (above : IsAbove a b)
    (clauses : Goes x b c (sequence (map (clause_piece b.globals) x.clauses))) (body : (space : IterationSpace) → Goes x c d (body_piece c.globals space x.body)) (is : e ≡ left (mark_of a) d) where
  whole : Goes x b d (loop_piece b.globals x)
  whole =
      let space = space_of b.globals x in
      goes_behind x b c d (sequence (map (clause_piece b.globals) x.clauses)) (body_piece b.globals space x.body) clauses
      (subst (λ z. Goes x c d (body_piece z space x.body)) clauses.globals (body space))

  pub loop_made : AreSteps a.globals x (loop_points a.globals x) e.steps
  loop_made =
      let none : b.steps ≡ [] = same ∙ empty in
      let made = whole.steps (context_of b.globals 0 (Loop x)) 0 [] refl stands (subst (AreSteps b.globals x []) (sym none) tt) in
      subst (AreSteps a.globals x (loop_points a.globals x)) (sym (ap (λ z. z.steps) is))
      (subst (λ z. AreSteps z x ((loop_piece z x).points (context_of z 0 (Loop x)) 0 0) d.steps) globals
      (subst (λ n. AreSteps b.globals x ((loop_piece b.globals x).points (context_of b.globals 0 (Loop x)) n 0) d.steps) (ap length none) made))

  -- without the steps the builder stands where it stood
  pub loop_left : (f : Builder) → f ≡ record e { steps = [] } → f ≡ a
  loop_left f emptied =
      let over = above_both a b d above whole.above in
      emptied
      ∙ (λ i. record (is i) { steps = [] })
      ∙ (λ i. record a {
        globals = (whole.globals ∙ globals) i;
        kinds = left_kinds a d over i;
        names = left_names a d over i;
        spots = left_spots a d over i;
        steps = sym empty i;
      })

-- ---- all texts

steps_push : (names : Scope) (ts : List CallText) (ss : List (List Step)) (t : CallText) (s : List Step) → AreAllSteps names ts ss → AreStepsOf names t s → AreAllSteps names (ts ++ t ∷ []) (ss ++ s ∷ [])
steps_push names [] [] t s h k = (k, tt)
steps_push names [] (u ∷ ss) t s h k = absurd h
steps_push names (v ∷ ts) [] t s h k = absurd h
steps_push names (v ∷ ts) (u ∷ ss) t s h k = (h.0, steps_push names ts ss t s h.1 k)

pub texts_turn : (names : Scope) (ts : List CallText) (at : ℕ) (t : CallText) (ss : List (List Step)) (s : List Step) → at < length ts → t ≡ get_or ts at t
    → AreAllSteps names (take at ts) ss → AreStepsOf names t s → AreAllSteps names (take (at + 1) ts) (ss ++ s ∷ [])
texts_turn names ts at t ss s less is h k =
    subst (λ us. AreAllSteps names us (ss ++ s ∷ [])) (ap (λ u. take at ts ++ u ∷ []) is ∙ sym (take_more ts at t less)) (steps_push names (take at ts) ss t s h k)

pub steps_at : (names : Scope) (ts : List CallText) (ss : List (List Step)) → AreAllSteps names ts ss
    → (k : ℕ) (t : CallText) (s : List Step) → slice_get ts k ≡ Some t → slice_get ss k ≡ Some s → AreStepsOf names t s
steps_at names [] [] h k t s e f = absurd (none-some t e)
steps_at names [] (u ∷ ss) h k t s e f = absurd h
steps_at names (v ∷ ts) [] h k t s e f = absurd h
steps_at names (v ∷ ts) (u ∷ ss) h zero t s e f =
    subst (λ z. AreStepsOf names z s) (ap (λ o. unwrap_or o v) e) (subst (AreStepsOf names v) (ap (λ o. unwrap_or o u) f) h.0)
steps_at names (v ∷ ts) (u ∷ ss) h (suc k) t s e f = steps_at names ts ss h.1 k t s e f

pub as_many_texts : (names : Scope) (ts : List CallText) (ss : List (List Step)) → AreAllSteps names ts ss → length ss ≡ length ts
as_many_texts names [] [] h = refl
as_many_texts names [] (u ∷ ss) h = absurd h
as_many_texts names (v ∷ ts) [] h = absurd h
as_many_texts names (v ∷ ts) (u ∷ ss) h = ap suc (as_many_texts names ts ss h.1)
