-- Writes together: what merging them in turn or in another order gives, cell by cell.
use Rattle.std.proofs.Common.{◌≡◌, ℕ, ◌⊎◌, Bool, true, false, Option, Some, None, List, [], ◌∷◌, ◌++◌, refl, ap, ◌∙◌, sym, ⊎_elim}
use Rattle.std.specs.Prelude.{◌==◌, ◌&&◌, if◌then◌else◌}
use Rattle.pts_types.specs.declared.value.Value.{Value}
use Rattle.pts_store.specs.Laws.{AcceptedInTurn, MergeInAnyOrder, AcceptedInAnyOrder, MergesAreAssociative, NoSteps, OneStepMore, StepsOfBoth}
use Rattle.pts_store.specs.Steps.{Step, step_at, last_at}
use Rattle.pts_store.specs.Stores.{accepted}
use Rattle.pts_store.specs.Writes.{written, over}
use Rattle.pts_store.proofs.Changes.{accepted-merged, arrays_with-over, arrays_with-same}
use Rattle.pts_store.proofs.Empty.{written-empty}

over-assoc : (a b c : Option Value) → over (over a b) c ≡ over a (over b c)
over-assoc a b None = refl
over-assoc a b (Some value) = refl

over-none : (a : Option Value) → over None a ≡ a
over-none None = refl
over-none (Some value) = refl

over-apart : (a b : Option Value) → (a ≡ None) ⊎ (b ≡ None) → over b a ≡ over a b
over-apart a b apart = ⊎_elim
    (λ none. ap (over b) none ∙ sym (over-none b) ∙ ap (λ x. over x b) (sym none))
    (λ none. ap (λ x. over x a) none ∙ over-none a ∙ ap (over a) (sym none))
    apart

pub in_turn : AcceptedInTurn
in_turn store first second both merges = accepted-merged store first second both merges

pub in_any_order : MergeInAnyOrder
in_any_order first second one other apart merges turned = record {
  cell = λ a i. turned.cell a i ∙ over-apart (written first a i) (written second a i) (apart.cell a i) ∙ sym (merges.cell a i);
}

pub accepted_in_any_order : AcceptedInAnyOrder
unfolding accepted
accepted_in_any_order store first second apart =
    let f : ℕ → ℕ → Option Value = written first in
    let g : ℕ → ℕ → Option Value = written second in
    sym (arrays_with-over f g (λ a i. over (f a i) (g a i)) (λ a i. refl) store)
    ∙ arrays_with-same (λ a i. over (g a i) (f a i)) (λ a i. over (f a i) (g a i)) (λ a i. sym (over-apart (f a i) (g a i) (apart.cell a i))) store
    ∙ arrays_with-over g f (λ a i. over (g a i) (f a i)) (λ a i. refl) store

pub associative : MergesAreAssociative
associative first second third front back left right m1 m2 m3 m4 = record {
  cell = λ a i.
      m4.cell a i ∙ ap (over (written first a i)) (m3.cell a i)
      ∙ sym (over-assoc (written first a i) (written second a i) (written third a i))
      ∙ ap (λ x. over x (written third a i)) (sym (m1.cell a i)) ∙ sym (m2.cell a i);
}

-- ---- steps

pub last_at-append : (steps more : List Step) (a i : ℕ) → last_at (steps ++ more) a i ≡ over (last_at steps a i) (last_at more a i)
unfolding last_at
last_at-append [] more a i = sym (over-none (last_at more a i))
last_at-append (step ∷ steps) more a i =
    ap (over (step_at step a i)) (last_at-append steps more a i)
    ∙ sym (over-assoc (step_at step a i) (last_at steps a i) (last_at more a i))

pub no_steps : NoSteps
unfolding last_at
no_steps = record { cell = λ a i. written-empty a i }

pub steps_of_both : StepsOfBoth
steps_of_both steps more old later new first second merges = record {
  cell = λ a i.
      merges.cell a i ∙ ap (λ x. over x (written later a i)) (first.cell a i) ∙ ap (over (last_at steps a i)) (second.cell a i)
      ∙ sym (last_at-append steps more a i);
}

over-put : (test : Bool) (value : Value) (o : Option Value) → over o (if test then Some value else None) ≡ (if test then Some value else o)
over-put true value o = refl
over-put false value o = refl

pub one_step_more : OneStepMore
unfolding last_at
one_step_more steps old new array index value first puts =
    let step : Step = record { array = array; index = index; value = value } in
    record {
      cell = λ a i.
          puts.cell a i ∙ ap (λ o. if a == array && i == index then Some value else o) (first.cell a i)
          ∙ sym (over-put (a == array && i == index) value (last_at steps a i)) ∙ sym (last_at-append steps (step ∷ []) a i);
    }
