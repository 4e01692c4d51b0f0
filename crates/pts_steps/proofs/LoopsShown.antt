-- A loop shows the same points without constants.
use Rattle.std.proofs.Common.{◌≡◌, ℕ, suc, ◌<◌, ◌^◌, ◌-◌, min, true, false, Option, Some, None, List, [], ◌∷◌, map, ℤ, pos, negsuc, refl, ap, ◌∙◌, arith}
use Rattle.std.specs.Prelude.{All, flat_map, is_none, is_some, option_map}
use Rattle.std.proofs.lemmas.Bool.{or_parts}
use Rattle.std.proofs.lemmas.List.Elements.{All-head, All-tail}
use Rattle.std.proofs.lemmas.Slice.Eq.{bytes_eq-Decides}
use Rattle.std.specs.List.{list_any}
use Rattle.std.specs.Str.{bytes_eq}
use Rattle.pts_tree.specs.declared.sum.Cell.{Cell}
use Rattle.pts_tree.specs.declared.sum.Sum.{Sum}
use Rattle.pts_tree.specs.declared.expr.Place.{Place}
use Rattle.pts_tree.specs.declared.loops.Clause.{Clause}
use Rattle.pts_tree.specs.declared.loops.Clause.TheVariants as clauses
use Rattle.pts_tree.specs.declared.loops.Initial.{Initial}
use Rattle.pts_tree.specs.declared.loops.Initial.TheVariants as initials
use Rattle.pts_tree.specs.declared.loops.Loop as loops
use Rattle.pts_rules.specs.Counts.{positions, step_of}
use Rattle.pts_rules.specs.Indices.{affine_of, index_not_affine, places}
use Rattle.pts_rules.specs.Known.{Scope, constant_of, number, signed}
use Rattle.pts_rules.specs.Known as known
use Rattle.pts_rules.specs.Parts.{Name, Loop}
use Rattle.pts_constants.specs.Resolved.{number_sum, resolved_cell, resolved_initial, resolved_loop, resolved_sum}
use Rattle.pts_points.specs.Lines.{space_of}
use Rattle.pts_points.specs.Pieces.{LivesOut, alone}
use Rattle.pts_points.specs.Points.{context_of, info, initial_piece, live_out, loop_piece}
use Rattle.pts_points.proofs.Each.{Each}
use Rattle.pts_steps.specs.Shown.{HasItsNumber, IsCellOf, IsClauseOf, IsInitialOf, IsLoopOf, IsSmall}
use Rattle.pts_steps.proofs.AffineKept.{line_kept, not_below}
use Rattle.pts_steps.proofs.BodiesAlike.{IsSameClause, IsSameLoop, shows_alike}
use Rattle.pts_steps.proofs.ReadsAlike.{IsSamePlace}

each_of : {A : Type 0} (P : A → Type 0) (xs : List A) → All P xs → Each P xs
each_of P [] h = tt
each_of P (x ∷ xs) h = (All-head P x xs h, each_of P xs (All-tail P x xs h))

-- ---- numbers

not_cut : (n : ℕ) → n < 2 ^ 64 → min n (2 ^ 64 - 1) ≡ n
not_cut n h = omega (arith, h)

-- a sum that is one small number is this number
number_again : (names : Scope) (z : ℤ) → IsSmall z → number names (number_sum z) ≡ z
number_again names (pos n) small = (λ i. signed (not_below n i) (pos (not_cut n small i)))
number_again names (negsuc n) small = ap (λ m. signed true (pos m)) (not_cut (suc n) small)

sum_again : (scope names : Scope) (x : Sum) → IsSmall (number scope x) → number names (resolved_sum scope x) ≡ number scope x
sum_again scope names x small = number_again names (number scope x) small

step_again : (scope names : Scope) (x : Option Sum) → IsSmall (step_of scope x) → step_of names (option_map (resolved_sum scope) x) ≡ step_of scope x
step_again scope names None small = refl
step_again scope names (Some x) small = sum_again scope names x small

space_again : (scope names : Scope) (x : loops.Loop) → IsLoopOf scope names x → space_of names (resolved_loop scope x) ≡ space_of scope x
space_again scope names x h =
    let low = sum_again scope names x.low h.low in
    let high = sum_again scope names x.high h.high in
    let step = step_again scope names x.step h.step in
    λ i. record { index = Some x.index; first = low i; step = step i; positions = positions (low i) (high i) (step i) }

-- ---- clauses

live_again : (scope names : Scope) (x : Cell) → IsCellOf scope names x → live_out names (resolved_cell scope x) ≡ live_out scope x
live_again scope names x h = λ i. alone (LivesOut (h.array i) (record { c = pos 0; d = sum_again scope names x.index h.index i; n = 1 }))

clause_again : (scope names : Scope) (x : Clause) → IsClauseOf scope names x → IsSameClause scope names x
clause_again scope names (clauses.Reduce x) h = live_again scope names x.cell h
clause_again scope names (clauses.Induct x) h = by_initial x.initial h
  where
    by_initial : (y : Initial) → IsInitialOf scope names y → initial_piece names (resolved_initial scope y) ≡ initial_piece scope y
    by_initial (initials.Val y) h = refl
    by_initial (initials.Cell y) h = live_again scope names y h

clauses_again : (scope names : Scope) (xs : List Clause) → Each (IsClauseOf scope names) xs → Each (IsSameClause scope names) xs
clauses_again scope names [] h = tt
clauses_again scope names (x ∷ xs) h = (clause_again scope names x h.0, clauses_again scope names xs h.1)

-- ---- places

some_there : {A : Type 0} (o : Option A) → is_none o ≡ false → is_some o ≡ true
some_there None h = absurd (cc)
some_there (Some x) h = refl

module _ (scope names : Scope) (x : loops.Loop) (h : IsLoopOf scope names x) where
  abbrev index : Option Name
  index = Some x.index

  mine : (name : Name) → known.has (bytes_eq name) index ≡ true → constant_of scope name ≡ None
  mine name is = ap (constant_of scope) ((bytes_eq-Decides name x.index).0 is) ∙ h.index

  places_again : (ats : List Place) → list_any (index_not_affine scope index) ats ≡ false → Each (λ (at : Place). HasItsNumber scope names at.array) ats → Each (IsSamePlace scope names index) ats
  places_again [] lines arrays = tt
  places_again (at ∷ ats) lines arrays =
      let parts = or_parts (index_not_affine scope index at) (list_any (index_not_affine scope index) ats) lines in
      (record { array = arrays.0; cells = line_kept names index h.plain scope mine at.index (some_there (affine_of scope index at.index) parts.0) }, places_again ats parts.1 arrays.1)

  same_loop : IsSameLoop scope names x
  same_loop = record {
    space = space_again scope names x h;
    clauses = clauses_again scope names x.clauses (each_of (IsClauseOf scope names) x.clauses h.clauses);
    places = places_again (flat_map places x.body) h.lines (each_of (λ (at : Place). HasItsNumber scope names at.array) (flat_map places x.body) h.arrays);
  }

-- what lists show of the points of a loop is the same without constants
pub shows_the_same : (scope names : Scope) (x : loops.Loop) (item call n m : ℕ) → IsLoopOf scope names x
    → map (info item) ((loop_piece names (resolved_loop scope x)).points (context_of names call (Loop (resolved_loop scope x))) n m)
    ≡ map (info item) ((loop_piece scope x).points (context_of scope call (Loop x)) n m)
shows_the_same scope names x item call n m h = shows_alike scope names x item call n m (same_loop scope names x h)
