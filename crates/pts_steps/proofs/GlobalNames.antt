-- The names of functions are no local values.
use Rattle.std.proofs.Common.{◌≡◌, ◌+◌, false, cond, List, [], ◌∷◌, count_by, fold, refl, ◌∙◌}
use Rattle.pts_rules.specs.declared.meaning.Meaning.TheVariants as meanings
use Rattle.pts_rules.specs.Known.{Entry, Scope, is_value}
use Rattle.pts_code.specs.declared.function.FunctionInfo.{FunctionInfo}
use Rattle.pts_code.specs.Functions.{kinds_of, with_signature}
use Rattle.pts_code.proofs.Scopes.{count_cons}
use Rattle.pts_steps.specs.Scopes.{HasNoLocals}

one_more : (entry : Entry) (names : Scope) → is_value entry.1 ≡ false → HasNoLocals names → HasNoLocals (entry ∷ names)
one_more entry names none h =
    let is_one = λ (e : Entry). is_value e.1 in
    let one : count_by is_one (entry ∷ names) ≡ count_by is_one names + cond (is_value entry.1) 1 0 = count_cons is_one entry names in
    one ∙ (λ i. h i + cond (none i) 1 0)

pub functions_free : (names : Scope) (fs : List FunctionInfo) → HasNoLocals names → HasNoLocals (fold with_signature names fs)
functions_free names [] h = h
functions_free names (f ∷ fs) h =
    functions_free (with_signature names f) fs
    (one_more (f.name, meanings.Function (record { params = kinds_of f.params; kind = f.kind; depth = 0; size = 0 })) names refl h)
