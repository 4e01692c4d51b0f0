-- The accumulators behind one position more.
use Rattle.std.proofs.Common.{◌≡◌, ◌≢◌, ℕ, zero, suc, ◌+◌, ◌<◌, Bool, true, false, eqb, if◌then◌else◌, Option, Some, None, Ok, Err, List, [], ◌∷◌, ◌++◌, length, map, take, set, get_or, fold, refl, ap, sym, ◌∙◌, subst, arith, append_assoc}
use Rattle.std.specs.Prelude.{flat_map, slice_get}
use Rattle.std.proofs.lemmas.Bool.Decides.{nat_tests}
use Rattle.std.proofs.lemmas.List.{append-nil, map-append}
use Rattle.std.proofs.lemmas.List.Sums.{fold-append}
use Rattle.std.proofs.lemmas.Grind.{flat_map-append}
use Rattle.std.proofs.Math.Seq.{take-suc}
use Rattle.pts_types.specs.declared.value.Value.{Value}
use Rattle.pts_code.specs.declared.function.FunctionInfo.{FunctionInfo}
use Rattle.pts_code.specs.Outcomes.{Outcome}
use Rattle.pts_points.specs.Pieces.{Deed, Point}
use Rattle.pts_points.specs.Pieces as texts
use Rattle.pts_points.proofs.Standing.{Numbered}
use Rattle.pts_lowering.specs.declared.forms.LoopClause.{LoopClause}
use Rattle.pts_lowering.specs.declared.forms.LoopClause.TheVariants as clauses
use Rattle.pts_steps.specs.declared.step.Step.{Step}
use Rattle.pts_steps.specs.declared.step.Step.TheVariants as steps
use Rattle.pts_steps.specs.Steps.{AreSteps, Does, view_number}
use Rattle.pts_store.specs.Stores.{Store}
use Rattle.pts_groupings.specs.Brackets.{combined}
use Rattle.pts_outcomes.specs.Acts.{Notes}
use Rattle.pts_passes.specs.Inductions.{live_value}
use Rattle.pts_passes.specs.LiveOuts.{combining, contributions, given_to, value_noted}
use Rattle.pts_passes.specs.Passes.{Pass, names}
use Rattle.pts_loops.specs.Gathering.{added, added_at, added_note, gathered, gathered_step}
use Rattle.pts_loops.specs.Turns.{accumulated, accumulators}

module _ (functions : List FunctionInfo) (store : Store) where
  accumulated_same : (f g : ℕ → List Value) (k : ℕ) (cs : List LoopClause) → ((c : ℕ) → f c ≡ g c) → accumulated functions store f k cs ≡ accumulated functions store g k cs
  accumulated_same f g k [] h = refl
  accumulated_same f g k (clauses.Reduction x ∷ rest) h =
      λ i. fold (combined (combining functions x.operation)) (Some (live_value store x.cell)) (map Some (h k i)) ∷ accumulated_same f g (k + 1) rest h i
  accumulated_same f g k (clauses.Induction x ∷ rest) h = ap (λ l. None ∷ l) (accumulated_same f g (k + 1) rest h)

  accumulated_rest : (f g : ℕ → List Value) (k n : ℕ) (cs : List LoopClause) → ((c : ℕ) → k < c → f c ≡ g c) → k < n → accumulated functions store f n cs ≡ accumulated functions store g n cs
  accumulated_rest f g k n [] h l = refl
  accumulated_rest f g k n (clauses.Reduction x ∷ rest) h l =
      λ i. fold (combined (combining functions x.operation)) (Some (live_value store x.cell)) (map Some (h n l i)) ∷ accumulated_rest f g k (n + 1) rest h (omega (arith, l)) i
  accumulated_rest f g k n (clauses.Induction x ∷ rest) h l = ap (λ t. None ∷ t) (accumulated_rest f g k (n + 1) rest h (omega (arith, l)))

  -- a head in front of what is added to the rest
  behind_head : (a : Option Value) (as' : List (Option Value)) (o : Option LoopClause) (i : ℕ) (v : Value)
      → a ∷ elim o [ None ↦ as' | Some clause ↦ set as' i (added functions clause (get_or as' i None) v) ]
      ≡ elim o [ None ↦ a ∷ as' | Some clause ↦ set (a ∷ as') (suc i) (added functions clause (get_or (a ∷ as') (suc i) None) v) ]
  behind_head a as' None i v = refl
  behind_head a as' (Some clause) i v = refl

  added_is : (f g : ℕ → List Value) (v : Value) (i k j : ℕ) (cs : List LoopClause) → j ≡ k + i → ((c : ℕ) → c ≢ j → f c ≡ g c) → f j ++ v ∷ [] ≡ g j
      → accumulated functions store g k cs ≡ added_at functions cs i v (accumulated functions store f k cs)
  added_is f g v i k j [] at others here = refl
  added_is f g v zero k j (clauses.Reduction x ∷ rest) at others here =
      let op = combined (combining functions x.operation) in
      let same : j ≡ k = omega (arith, at) in
      (λ n. fold op (Some (live_value store x.cell)) (map Some (subst (λ m. g m ≡ f m ++ v ∷ []) same (sym here) n)) ∷ accumulated functions store g (k + 1) rest)
      ∙ (λ n. fold op (Some (live_value store x.cell)) (map-append Some (f k) (v ∷ []) n) ∷ accumulated functions store g (k + 1) rest)
      ∙ (λ n. fold-append op (Some (live_value store x.cell)) (map Some (f k)) (Some v ∷ []) n
      ∷ accumulated_rest g f k (k + 1) rest (λ c l. sym (others c (λ e. absurd (omega (arith, l, e, same))))) (omega arith) n)
  added_is f g v zero k j (clauses.Induction x ∷ rest) at others here =
      let same : j ≡ k = omega (arith, at) in
      ap (λ l. None ∷ l) (accumulated_rest g f k (k + 1) rest (λ c l. sym (others c (λ e. absurd (omega (arith, l, e, same))))) (omega arith))
  added_is f g v (suc i) k j (clauses.Reduction x ∷ rest) at others here =
      let apart : k ≢ j = λ e. absurd (omega (arith, at, e)) in
      (λ n. fold (combined (combining functions x.operation)) (Some (live_value store x.cell)) (map Some (sym (others k apart) n))
      ∷ added_is f g v i (k + 1) j rest (omega (arith, at)) others here n)
      ∙ behind_head _ (accumulated functions store f (k + 1) rest) (slice_get rest i) i v
  added_is f g v (suc i) k j (clauses.Induction x ∷ rest) at others here =
      ap (λ l. None ∷ l) (added_is f g v i (k + 1) j rest (omega (arith, at)) others here)
      ∙ behind_head None (accumulated functions store f (k + 1) rest) (slice_get rest i) i v

module _ (pass : Pass) (store : Store) (notes : Notes) where
  abbrev given : ℕ → Point → List Value
  given clause x = given_to pass clause x.deed (slice_get notes x.number)

  abbrev all : (ℕ → List Value) → List (Option Value)
  all f = accumulated pass.functions store f 0 pass.head.clauses

  abbrev more : (ℕ → List Value) → Deed → Option (Option Outcome) → ℕ → List Value
  more f deed note c = f c ++ given_to pass c deed note

  nothing_more : (f : ℕ → List Value) (deed : Deed) (note : Option (Option Outcome)) → ((c : ℕ) → given_to pass c deed note ≡ []) → all f ≡ all (more f deed note)
  nothing_more f deed note none =
      accumulated_same pass.functions store f (more f deed note) 0 pass.head.clauses (λ c. sym (append-nil (f c)) ∙ ap (λ l. f c ++ l) (sym (none c)))

  no_value : (clause view : ℕ) (note : Option (Option Outcome)) → value_noted note ≡ [] → (if eqb view clause then value_noted note else []) ≡ []
  no_value clause view note none = by (eqb view clause)
    where
      by : (b : Bool) → (if b then value_noted note else []) ≡ []
      by true = none
      by false = refl

  -- what is given to a view
  given_step : (f : ℕ → List Value) (view : List ℕ) (x : texts.Computation) (number : ℕ) (note : Option (Option Outcome)) → number ≡ view_number pass.text.clauses view
      → added_note pass.functions pass.head.clauses number note (all f) ≡ all (more f (texts.Gives view x) note)
  given_step f view x number None is = nothing_more f (texts.Gives view x) None (λ c. no_value c (view_number pass.text.clauses view) None refl)
  given_step f view x number (Some None) is = nothing_more f (texts.Gives view x) (Some None) (λ c. no_value c (view_number pass.text.clauses view) (Some None) refl)
  given_step f view x number (Some (Some (Err t))) is = nothing_more f (texts.Gives view x) (Some (Some (Err t))) (λ c. no_value c (view_number pass.text.clauses view) (Some (Some (Err t))) refl)
  given_step f view x number (Some (Some (Ok v))) is =
      sym (added_is pass.functions store f (more f (texts.Gives view x) (Some (Some (Ok v)))) v number 0 number pass.head.clauses (omega arith)
      (λ c other.
      let not_it : eqb (view_number pass.text.clauses view) c ≡ false = grind (arith, nat_tests) in
      sym (append-nil (f c)) ∙ sym (ap (λ b. f c ++ (if b then v ∷ [] else [])) not_it))
      (let it : eqb (view_number pass.text.clauses view) number ≡ true = grind (arith, nat_tests) in
      sym (ap (λ b. f number ++ (if b then v ∷ [] else [])) it)))

  one_step : (f : ℕ → List Value) (lets : List texts.LetPoint) (deed : Deed) (step : Step) (note : Option (Option Outcome)) → Does (names pass) pass.text lets deed step
      → gathered_step pass.functions pass.head.clauses step note (all f) ≡ all (more f deed note)
  one_step f lets (texts.Reads array index) steps.Read note fits = nothing_more f (texts.Reads array index) note (λ c. refl)
  one_step f lets (texts.Assigns array index x) (steps.Write code) note fits = nothing_more f (texts.Assigns array index x) note (λ c. refl)
  one_step f lets (texts.Updates array index op x) (steps.Update applied code) note fits = nothing_more f (texts.Updates array index op x) note (λ c. refl)
  one_step f lets (texts.Notes x) (steps.Note code) note fits = nothing_more f (texts.Notes x) note (λ c. refl)
  one_step f lets (texts.Tests x) (steps.Test code) note fits = nothing_more f (texts.Tests x) note (λ c. refl)
  one_step f lets (texts.Gives view x) (steps.Give number code) note fits = given_step f view x number note fits.0
  one_step f lets (texts.LivesOut array line) steps.LiveOut note fits = nothing_more f (texts.LivesOut array line) note (λ c. refl)
  one_step f lets deed step _ fits = absurd fits

  pub all_steps : (f : ℕ → List Value) (k e : ℕ) (points : List Point) (ss : List Step) → Numbered k points e → AreSteps (names pass) pass.text points ss
      → gathered pass.functions pass.head.clauses notes k ss (all f) ≡ all (λ c. f c ++ flat_map (given c) points)
  all_steps f k e [] [] numbered fits = accumulated_same pass.functions store f (λ c. f c ++ []) 0 pass.head.clauses (λ c. sym (append-nil (f c)))
  all_steps f k e [] (s ∷ ss) numbered fits = absurd fits
  all_steps f k e (x ∷ xs) [] numbered fits = absurd fits
  all_steps f k e (x ∷ xs) (s ∷ ss) numbered fits =
      let g : ℕ → List Value = more f x.deed (slice_get notes x.number) in
      ap (λ n. gathered pass.functions pass.head.clauses notes (k + 1) ss (gathered_step pass.functions pass.head.clauses s (slice_get notes n) (all f))) (sym numbered.0)
      ∙ ap (gathered pass.functions pass.head.clauses notes (k + 1) ss) (one_step f x.context.lets x.deed s (slice_get notes x.number) fits.0)
      ∙ all_steps g (k + 1) e xs ss numbered.1 fits.1
      ∙ accumulated_same pass.functions store (λ c. g c ++ flat_map (given c) xs) (λ c. f c ++ flat_map (given c) (x ∷ xs)) 0 pass.head.clauses
      (λ c. append_assoc (f c) (given c x) (flat_map (given c) xs))

-- the accumulators behind one position more
pub one_position : (pass : Pass) (store : Store) (noted : List Notes) (p : ℕ) (d : Notes) → p < length noted
    → accumulated pass.functions store (λ c. flat_map (contributions pass c) (take p noted) ++ contributions pass c (get_or noted p d)) 0 pass.head.clauses
    ≡ accumulators pass store (take (p + 1) noted)
one_position pass store noted p d within =
    accumulated_same pass.functions store (λ c. flat_map (contributions pass c) (take p noted) ++ contributions pass c (get_or noted p d))
    (λ c. flat_map (contributions pass c) (take p noted ++ get_or noted p d ∷ [])) 0 pass.head.clauses
    (λ c. ap (λ l. flat_map (contributions pass c) (take p noted) ++ l) (sym (append-nil (contributions pass c (get_or noted p d))))
    ∙ sym (flat_map-append (contributions pass c) (take p noted) (get_or noted p d ∷ [])))
    ∙ ap (accumulators pass store) (sym (take-suc noted p d within) ∙ ap (λ n. take n noted) (let next : suc p ≡ p + 1 = omega arith in next))
