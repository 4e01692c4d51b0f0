-- Positions at which a predicate is asked, one after another.
use Rattle.std.proofs.Common.{◌≡◌, ◌≢◌, ℕ, zero, suc, ◌+◌, ◌<◌, Bool, true, false, Option, Some, None, List, [], ◌∷◌, length, take, get_or, count_by, refl, ap, sym, ◌∙◌, subst, ⊎_elim, arith}
use Rattle.std.specs.Prelude.{slice_get}
use Rattle.std.proofs.lemmas.Bool.{cases_lt}
use Rattle.std.specs.Option.{option_map}
use Rattle.std.proofs.lemmas.List.{length-map}
use Rattle.std.proofs.lemmas.List.Sums.{count_by_more_no, count_by_more_yes}
use Rattle.std.proofs.lemmas.Option.{slice_get-map}
use Rattle.pts_types.specs.declared.value.Value.{Value}
use Rattle.pts_code.specs.declared.function.FunctionInfo.{FunctionInfo}
use Rattle.pts_code.specs.Outcomes.{is_true}
use Rattle.pts_lowering.specs.declared.forms.Search.{Search}
use Rattle.pts_store.specs.Stores.{Store}
use Rattle.pts_eval.specs.Maps.{MapEnd, Index, Count, Terminated, Done, is_match, truths_in, NoneBefore, PermitsCount, PermitsPlace}
use Rattle.pts_eval.specs.Cells.{range_in}
use Rattle.pts_eval.specs.Sums.{given_by}
use Rattle.pts_maps.specs.Searches.{added, AreCounted, IsQuiet}

-- ---- what is asked

module _ (functions : List FunctionInfo) (store : Store) (call : Search) where
  abbrev asked : Value → Option Bool
  asked x = option_map is_true (given_by functions call.predicate (x ∷ []))

  pub size_asked : (count : ℕ) → count ≡ length (range_in store call.range) → count ≡ length (truths_in functions store call)
  size_asked count e = e ∙ sym (length-map (range_in store call.range) asked)

  pub within_range : (p : ℕ) → p < length (truths_in functions store call) → p < length (range_in store call.range)
  within_range p h = let size = length-map (range_in store call.range) asked in omega (arith, h, size)

  pub truth_asked : (p : ℕ) (x : Value) (given : Option Value) (truth : Option Bool) → Some x ≡ slice_get (range_in store call.range) p
      → given ≡ given_by functions call.predicate (x ∷ []) → truth ≡ option_map is_true given → Some truth ≡ slice_get (truths_in functions store call) p
  truth_asked p x given truth is gives told =
      ap Some (told ∙ ap (option_map is_true) gives) ∙ ap (option_map asked) is ∙ sym (slice_get-map asked (range_in store call.range) p)

-- ---- positions without a match or a throw

none_at_start : (truths : List (Option Bool)) (truth : Option Bool) → NoneBefore truths 0 truth
none_at_start truths truth p h = absurd (omega (arith, h))

none_more : (truths : List (Option Bool)) (at : ℕ) (own truth : Option Bool) → NoneBefore truths at truth → Some own ≡ slice_get truths at → own ≢ truth
    → NoneBefore truths (at + 1) truth
none_more truths at own truth none is other p h e = ⊎_elim
    (λ earlier. none p earlier e)
    (λ late. let same : p ≡ at = omega (arith, h, late) in other (let both : Some own ≡ Some truth = is ∙ ap (slice_get truths) (sym same) ∙ e in cc))
    (cases_lt p at)

pub quiet_at_start : (truths : List (Option Bool)) → IsQuiet truths 0
quiet_at_start truths = (none_at_start truths (Some true), none_at_start truths None)

pub quiet_more : (truths : List (Option Bool)) (at : ℕ) → IsQuiet truths at → Some (Some false) ≡ slice_get truths at → IsQuiet truths (at + 1)
quiet_more truths at quiet is =
    (none_more truths at (Some false) (Some true) quiet.0 is (λ e. absurd cc), none_more truths at (Some false) None quiet.1 is (λ e. absurd cc))

-- ---- answers

pub exact_or_not : (truths : List (Option Bool)) (exact : Bool) (end : MapEnd) → PermitsPlace true truths end → PermitsPlace exact truths end
exact_or_not truths exact Done h = h
exact_or_not truths exact (Count n) h = h
exact_or_not truths exact (Index (Some i)) h = h
exact_or_not truths exact (Index None) h = h
exact_or_not truths exact Terminated h = (h.0, h.1, λ e. h.2 refl)

-- ---- counts

-- an element that is there
there : {A : Type 0} (xs : List A) (at : ℕ) (x d : A) → Some x ≡ slice_get xs at → (at < length xs) × (get_or xs at d ≡ x)
there [] at x d e = absurd cc
there (y ∷ xs) zero x d e = (omega arith, (let same : y ≡ x = cc in same))
there (y ∷ xs) (suc at) x d e = let rest = there xs at x d e in let low : at < length xs = rest.0 in (omega (arith, low), rest.1)

take_whole : (xs : List (Option Bool)) → take (length xs) xs ≡ xs
take_whole [] = refl
take_whole (x ∷ xs) = ap (λ l. x ∷ l) (take_whole xs)

pub counted_at_start : (truths : List (Option Bool)) → AreCounted truths 0 0
counted_at_start truths = record { count = refl; few = omega arith; quiet = none_at_start truths None }

counted_more : (truths : List (Option Bool)) (at n : ℕ) → AreCounted truths at n → Some (Some true) ≡ slice_get truths at → AreCounted truths (at + 1) (n + 1)
counted_more truths at n c is =
    let few = c.few in
    record {
      count =
          let own = there truths at (Some true) None is in
          ap (λ m. m + 1) c.count ∙ sym (count_by_more_yes is_match truths at None own.0 (ap is_match own.1));
      few = omega (arith, few);
      quiet = none_more truths at (Some true) None c.quiet is (λ e. absurd cc);
    }

counted_same : (truths : List (Option Bool)) (at n : ℕ) → AreCounted truths at n → Some (Some false) ≡ slice_get truths at → AreCounted truths (at + 1) n
counted_same truths at n c is =
    let few = c.few in
    record {
      count =
          let own = there truths at (Some false) None is in
          c.count ∙ sym (count_by_more_no is_match truths at None own.0 (ap is_match own.1));
      few = omega (arith, few);
      quiet = none_more truths at (Some false) None c.quiet is (λ e. absurd cc);
    }

pub counted_next : (truths : List (Option Bool)) (at n more : ℕ) (truth : Bool) (given : Option Bool) → AreCounted truths at n → given ≡ Some truth → Some given ≡ slice_get truths at
    → more ≡ added truth → AreCounted truths (at + 1) (n + more)
counted_next truths at n more true given c is asked e =
    subst (λ m. AreCounted truths (at + 1) (n + m)) (sym e) (counted_more truths at n c (ap Some (sym is) ∙ asked))
counted_next truths at n more false given c is asked e =
    subst (λ m. AreCounted truths (at + 1) m) (let none : n ≡ n + more = omega (arith, e) in none) (counted_same truths at n c (ap Some (sym is) ∙ asked))

pub all_counted : (truths : List (Option Bool)) (p n : ℕ) → AreCounted truths p n → p ≡ length truths → PermitsCount truths (Count n)
all_counted truths p n c e =
    (c.count ∙ ap (λ m. count_by is_match (take m truths)) e ∙ ap (count_by is_match) (take_whole truths), subst (λ m. NoneBefore truths m None) e c.quiet)
