use Rattle.std.proofs.Common.{◌≡◌, Some, None, sym, ap, ◌∙◌}
use Rattle.std.specs.Option.{option_or}
use Rattle.std.specs.Prelude.{option_map}
use Rattle.pts_types.specs.declared.value.Kind.{Kind}
use Rattle.pts_code.specs.Functions.{environment_of}
use Rattle.pts_code.specs.Values.{Array, bound_to}
use Rattle.pts_eval.specs.Expressions.{array_names, bound_of, local_bound, local_names}
use Rattle.pts_eval.proofs.Bounds.{all_names}
use Rattle.pts_eval.proofs.expressions.find.Goals as goal

pub returns-in-Some : goal.returns-in-Some
returns-in-Some c =
    let names = c.args.names.now in
    let here : Some (local_bound c.in-Some.value) ≡ bound_to (local_names names.locals.now) c.args.name.now = ap (option_map local_bound) (sym c.in-Some.is) ∙ c.find_local.ensures in
    ap (λ o. option_or o (option_or (bound_to (array_names names.program.now.arrays) c.args.name.now) (bound_to (environment_of names.program.now.functions) c.args.name.now))) here
    ∙ sym (all_names names.program.now names.locals.now c.args.name.now)

pub returns-in-Some-find_array : goal.returns-in-Some-find_array
returns-in-Some-find_array c =
    let names = c.args.names.now in
    let program = names.program.now in
    let name = c.args.name.now in
    let none : None ≡ bound_to (local_names names.locals.now) name = ap (option_map local_bound) (sym c.in_default.is) ∙ c.find_local.ensures in
    let here : Some (Array c.in-Some-find_array.kind) ≡ bound_to (array_names program.arrays) name =
    ap (option_map (λ (kind : Kind). Array kind)) (sym c.in-Some-find_array.is) ∙ c.find_array.ensures ∙ ap (λ xs. bound_to (array_names xs) name) c.arrays.ensures in
    (λ i. option_or (none i) (option_or (here i) (bound_to (environment_of program.functions) name))) ∙ sym (all_names program names.locals.now name)

pub returns-in-None : goal.returns-in-None
returns-in-None c =
    let names = c.args.names.now in
    let program = names.program.now in
    let name = c.args.name.now in
    let none : None ≡ bound_to (local_names names.locals.now) name = ap (option_map local_bound) (sym c.in_default.is) ∙ c.find_local.ensures in
    let nor : None ≡ bound_to (array_names program.arrays) name =
    ap (option_map (λ (kind : Kind). Array kind)) (sym c.in-None.is) ∙ c.find_array.ensures ∙ ap (λ xs. bound_to (array_names xs) name) c.arrays.ensures in
    let last : bound_of program.functions c.find_function.result ≡ bound_to (environment_of program.functions) name =
    ap (λ fs. bound_of fs c.find_function.result) (sym c.functions.ensures) ∙ c.find_function.ensures ∙ ap (λ fs. bound_to (environment_of fs) name) c.functions.ensures in
    last ∙ (λ i. option_or (none i) (option_or (nor i) (bound_to (environment_of program.functions) name))) ∙ sym (all_names program names.locals.now name)
