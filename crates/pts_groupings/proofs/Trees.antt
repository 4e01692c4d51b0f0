-- Brackets from the left, which every fold of this crate is.
use Rattle.std.proofs.Common.{◌≡◌, ◌≤◌, Option, Some, List, [], ◌∷◌, ◌++◌, length, map, refl, sym, ap, ◌∙◌, append_assoc, arith}
use Rattle.std.specs.List.{flat_map, fold, All}
use Rattle.std.proofs.lemmas.List.{append-nil}
use Rattle.std.proofs.lemmas.List.Elements.{All-head, All-tail}
use Rattle.pts_groupings.specs.Brackets.{combined, Bracketing, Leaf, Node, leaves, outcome_of, NoncommutativeSum}
use Rattle.pts_groupings.specs.Sums.{folded}

-- brackets of brackets from the left, beginning with these
comb : {V : Type 0} → Bracketing V → List (Bracketing V) → Bracketing V
comb t [] = t
comb t (u ∷ us) = comb (Node t u) us

outcome-comb : {V : Type 0} (op : V → V → Option V) (t : Bracketing V) (us : List (Bracketing V))
    → outcome_of op (comb t us) ≡ fold (combined op) (outcome_of op t) (map (outcome_of op) us)
unfolding comb
outcome-comb op t [] = refl
outcome-comb op t (u ∷ us) = outcome-comb op (Node t u) us

leaves-comb : {V : Type 0} (t : Bracketing V) (us : List (Bracketing V)) → leaves (comb t us) ≡ leaves t ++ flat_map leaves us
unfolding comb
leaves-comb t [] = sym (append-nil (leaves t))
leaves-comb t (u ∷ us) = leaves-comb (Node t u) us ∙ append_assoc (leaves t) (leaves u) (flat_map leaves us)

-- a left fold of what some brackets give is a sum of what stands between them
pub comb_sum : {V : Type 0} (op : V → V → Option V) (t : Bracketing V) (us : List (Bracketing V))
    → NoncommutativeSum op (leaves t ++ flat_map leaves us) (fold (combined op) (outcome_of op t) (map (outcome_of op) us))
comb_sum op t us = record { brackets = comb t us; in_order = leaves-comb t us; gives = outcome-comb op t us }

pub fold_sum : {V : Type 0} (op : V → V → Option V) (ts : List (Bracketing V)) → 1 ≤ length ts
    → NoncommutativeSum op (flat_map leaves ts) (folded op (map (outcome_of op) ts))
fold_sum op [] some = absurd (omega (arith, some))
fold_sum op (t ∷ us) some = comb_sum op t us

-- ---- values and parts as brackets

pub leaves-values : {V : Type 0} (vs : List V) → flat_map leaves (map Leaf vs) ≡ vs
leaves-values [] = refl
leaves-values (v ∷ vs) = ap (λ l. v ∷ l) (leaves-values vs)

pub outcomes-values : {V : Type 0} (op : V → V → Option V) (vs : List V) → map (outcome_of op) (map Leaf vs) ≡ map Some vs
outcomes-values op [] = refl
outcomes-values op (v ∷ vs) = ap (λ l. Some v ∷ l) (outcomes-values op vs)

-- a sum is one of whatever equals its items and its outcome
pub sum_as : {V : Type 0} (op : V → V → Option V) (items order : List V) (given result : Option V) → NoncommutativeSum op items given
    → items ≡ order → given ≡ result → NoncommutativeSum op order result
sum_as op items order given result s same same' = record { brackets = s.brackets; in_order = s.in_order ∙ same; gives = s.gives ∙ same' }

pub list_sum : {V : Type 0} (op : V → V → Option V) (vs : List V) → 1 ≤ length vs → NoncommutativeSum op vs (folded op (map Some vs))
list_sum op [] some = absurd (omega (arith, some))
list_sum op (v ∷ vs) some =
    sum_as op _ _ _ _ (comb_sum op (Leaf v) (map Leaf vs)) (ap (λ l. v ∷ l) (leaves-values vs)) (ap (fold (combined op) (Some v)) (outcomes-values op vs))

-- brackets for each part of a list that is cut into parts that have something
pub record Trees {A V : Type 0} (op : V → V → Option V) (f : A → List V) (parts : List A) : Type 0 where
  pub trees : List (Bracketing V)
  pub give : map (outcome_of op) trees ≡ map (λ part. folded op (map Some (f part))) parts
  pub hold : flat_map leaves trees ≡ flat_map f parts

more_trees : {A V : Type 0} (op : V → V → Option V) (f : A → List V) (part : A) (parts : List A)
    → NoncommutativeSum op (f part) (folded op (map Some (f part))) → Trees op f parts → Trees op f (part ∷ parts)
more_trees op f part parts s rest = record {
  trees = s.brackets ∷ rest.trees;
  give = (let e = s.gives in let e' = rest.give in cc);
  hold = (let e = s.in_order in let e' = rest.hold in cc);
}

pub part_trees : {A V : Type 0} (op : V → V → Option V) (f : A → List V) (parts : List A) → All (λ part. 1 ≤ length (f part)) parts → Trees op f parts
part_trees op f [] all = record { trees = []; give = refl; hold = refl }
part_trees op f (part ∷ parts) all =
    more_trees op f part parts (list_sum op (f part) (All-head (λ x. 1 ≤ length (f x)) part parts all))
    (part_trees op f parts (All-tail (λ x. 1 ≤ length (f x)) part parts all))
