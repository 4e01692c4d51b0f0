-- A sum that has a part without a value has none.
use Rattle.std.proofs.Common.{◌≡◌, ℕ, ◌+◌, ◌<◌, Option, Some, None, List, [], ◌∷◌, length, drop, get_or, refl, sym, ap, ◌∙◌, ℤ}
use Rattle.std.specs.Prelude.{fold}
use Rattle.std.proofs.lemmas.List.{drop_more}
use Rattle.pts_tree.specs.declared.sum.SumPart.{SumPart}
use Rattle.pts_rules.specs.Known.{Scope, plus_part}

pub stays_none : (scope : Scope) (parts : List SumPart) → fold (plus_part scope) None parts ≡ None
stays_none scope [] = refl
stays_none scope (part ∷ parts) = stays_none scope parts

pub stops : (scope : Scope) (total first : ℤ) (parts : List SumPart) (at : ℕ) (part : SumPart)
    → fold (plus_part scope) (Some total) (drop at parts) ≡ fold (plus_part scope) (Some first) parts
    → at < length parts → part ≡ get_or parts at part → None ≡ plus_part scope (Some total) part
    → None ≡ fold (plus_part scope) (Some first) parts
stops scope total first parts at part so_far within is none =
    sym (stays_none scope (drop (at + 1) parts))
    ∙ ap (λ (x : Option ℤ). fold (plus_part scope) x (drop (at + 1) parts)) none
    ∙ ap (fold (plus_part scope) (Some total)) (sym (drop_more parts at part within ∙ ap (λ (y : SumPart). y ∷ drop (at + 1) parts) (sym is)))
    ∙ so_far
