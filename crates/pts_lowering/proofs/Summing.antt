-- Sums and scans: what their form asks of kinds.
use Rattle.std.proofs.Common.{◌≡◌, Bool, ◌&&◌, Option, Some, None, sym, subst}
use Rattle.std.specs.Prelude.{IsTrue, unwrap_or}
use Rattle.std.proofs.lemmas.Bool.{and_parts}
use Rattle.pts_types.specs.declared.value.Kind.{Kind}
use Rattle.pts_types.specs.declared.value.Kind.TheVariants as kinds
use Rattle.pts_tree.specs.Spelling.{if_there}
use Rattle.pts_tree.specs.declared.call.Call.{Call}
use Rattle.pts_tree.specs.declared.call.CallForm.TheVariants as forms
use Rattle.pts_rules.specs.Known.{Scope, has, val_fits}
use Rattle.pts_rules.specs.Mistyped.{cell_right, form_right, function_right, op_right, source_kinds, sum_kind, sum_right, target_right}
use Rattle.pts_lowering.specs.Forms.{kind_of_sum}
use Rattle.pts_lowering.specs.Fitting.{IsSummable}

-- the first value has the kind of the sum
pub initial_fits : (scope : Scope) (x : Call) (kind : Kind) → IsSummable scope x → kind ≡ kind_of_sum scope x → IsTrue (if_there (val_fits scope kind) x.init)
initial_fits scope x kind h is = by_kind (sum_kind scope x) h is
  where
    by_kind : (o : Option Kind) → IsTrue (has (sum_right scope x) o) → kind ≡ unwrap_or o kinds.U64 → IsTrue (if_there (val_fits scope kind) x.init)
    by_kind None h is = absurd (cc)
    by_kind (Some own) h is =
        let a : Bool = if_there (function_right scope (source_kinds scope x) own) x.function in
        let b : Bool = if_there (val_fits scope own) x.init in
        let c : Bool = if_there (op_right scope own) x.op in
        let d : Bool = target_right scope own x.target in
        let e : Bool = if_there (cell_right scope own) x.store in
        let p1 = and_parts (a && b && c && d) e h in
        let p2 = and_parts (a && b && c) d p1.0 in
        let p3 = and_parts (a && b) c p2.0 in
        subst (λ k. IsTrue (if_there (val_fits scope k) x.init)) (sym is) (and_parts a b p3.0).1

-- a form that sums
module _ (scope : Scope) (x : Call) where
  pub sum-Reduce : x.form ≡ forms.Reduce → IsTrue (form_right x.form scope x) → IsSummable scope x
  sum-Reduce is h = subst (λ form. IsTrue (form_right form scope x)) is h

  pub sum-TransformReduce : x.form ≡ forms.TransformReduce → IsTrue (form_right x.form scope x) → IsSummable scope x
  sum-TransformReduce is h = subst (λ form. IsTrue (form_right form scope x)) is h

  pub sum-InclusiveScan : x.form ≡ forms.InclusiveScan → IsTrue (form_right x.form scope x) → IsSummable scope x
  sum-InclusiveScan is h = subst (λ form. IsTrue (form_right form scope x)) is h

  pub sum-ExclusiveScan : x.form ≡ forms.ExclusiveScan → IsTrue (form_right x.form scope x) → IsSummable scope x
  sum-ExclusiveScan is h = subst (λ form. IsTrue (form_right form scope x)) is h

  pub sum-TransformInclusiveScan : x.form ≡ forms.TransformInclusiveScan → IsTrue (form_right x.form scope x) → IsSummable scope x
  sum-TransformInclusiveScan is h = subst (λ form. IsTrue (form_right form scope x)) is h

  pub sum-TransformExclusiveScan : x.form ≡ forms.TransformExclusiveScan → IsTrue (form_right x.form scope x) → IsSummable scope x
  sum-TransformExclusiveScan is h = subst (λ form. IsTrue (form_right form scope x)) is h

pub ruleset summable = (sum-Reduce, sum-TransformReduce, sum-InclusiveScan, sum-ExclusiveScan, sum-TransformInclusiveScan, sum-TransformExclusiveScan)
