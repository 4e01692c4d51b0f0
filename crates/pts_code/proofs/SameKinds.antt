-- The rules and the values say the same of which expressions are literal numbers and which kinds expressions have.
use Rattle.std.proofs.Common.{◌≡◌, ℕ, Bool, Option, Some, None, List, [], ◌∷◌, map, option_map, option_and_then, ℤ, refl, sym, ap, ◌∙◌, subst}
use Rattle.std.specs.Option.{option_or}
use Rattle.pts_tree.specs.declared.expr.Expr.{Expr}
use Rattle.pts_tree.specs.declared.expr.ChainPart.{ChainPart}
use Rattle.pts_rules.specs.Known.{Scope, as_function, as_array}
use Rattle.pts_rules.specs.Kinds.{Typing, typing, name_typing, call_typing, element_typing, minus_typing}
use Rattle.pts_rules.specs.Kinds as kinds
use Rattle.pts_rules.proofs.Typings.{typing-Number, typing-True, typing-False, typing-Name, typing-Call, typing-Element, typing-Convert, typing-Throw, typing-Paren, typing-Minus, typing-Not, typing-Chain, typing-Compare, typing-All, typing-Any, typing-If}
use Rattle.pts_code.specs.Compiling.{meaning_of_bound, scope_of_names}
use Rattle.pts_code.specs.Values.{Bound, Local, Array, Function, Environment, Reads, Valuation, valuation, name_valuation, call_valuation, element_valuation, minus_valuation, first_kind, operands, bound_to}
use Rattle.pts_code.proofs.Induction.{AllParts, Forms, every}
use Rattle.pts_code.proofs.Lookups.{meaning_is}
use Rattle.pts_code.proofs.Valuations.{valued_part, valued-Number, valued-True, valued-False, valued-Name, valued-Call, valued-Element, valued-Convert, valued-Throw, valued-Paren, valued-Minus, valued-Not, valued-Chain, valued-Compare, valued-All, valued-Any, valued-If}

-- one is as literal as the other, and of the same kind
pub record Alike (t : Typing) (v : Valuation) : Type 0 where
  pub literal : t.literal ≡ v.literal
  pub own : t.own ≡ v.own

module _ (elements : Bool) (env : Environment) (rs : Reads) where
  abbrev scope : Scope
  scope = scope_of_names env

  abbrev t : Expr → Typing
  t = typing elements scope

  abbrev v : Expr → Valuation
  v = valuation env rs

  abbrev Same : Expr → Type 0
  Same x = Alike (t x) (v x)

  alike : (a b : Typing) (x y : Valuation) → a ≡ b → x ≡ y → Alike b y → Alike a x
  alike a b x y is js h = subst (λ z. Alike a z) (sym js) (subst (λ z. Alike z y) (sym is) h)

  name_alike : (o : Option Bound) → Alike (name_typing (option_map meaning_of_bound o)) (name_valuation o)
  name_alike None = record { literal = refl; own = refl }
  name_alike (Some (Local kind outcome)) = record { literal = refl; own = refl }
  name_alike (Some (Array kind)) = record { literal = refl; own = refl }
  name_alike (Some (Function f)) = record { literal = refl; own = refl }

  call_alike : (o : Option Bound) (ts : List Typing) (vs : List Valuation) → Alike (call_typing (option_and_then as_function (option_map meaning_of_bound o)) ts) (call_valuation o vs)
  call_alike None ts vs = record { literal = refl; own = refl }
  call_alike (Some (Local kind outcome)) ts vs = record { literal = refl; own = refl }
  call_alike (Some (Array kind)) ts vs = record { literal = refl; own = refl }
  call_alike (Some (Function f)) ts vs = record { literal = refl; own = refl }

  element_alike : (name : List ℕ) (o : Option Bound) (x : Valuation) → Alike (element_typing elements (option_map (λ a. a.0) (option_and_then as_array (option_map meaning_of_bound o)))) (element_valuation rs name o x)
  element_alike name None x = record { literal = refl; own = refl }
  element_alike name (Some (Local kind outcome)) x = record { literal = refl; own = refl }
  element_alike name (Some (Array kind)) x = record { literal = refl; own = refl }
  element_alike name (Some (Function f)) x = record { literal = refl; own = refl }

  minus_alike : (a : Typing) (x : Valuation) (l : Option ℤ) → Alike (minus_typing a l) (minus_valuation x l)
  minus_alike a x None = record { literal = refl; own = refl }
  minus_alike a x (Some z) = record { literal = refl; own = refl }

  first_same : (ys : List ChainPart) → AllParts Same ys → kinds.first_kind (map (λ z. t z.operand) ys) ≡ first_kind (operands (map (valued_part env rs) ys))
  first_same [] h = refl
  first_same (y ∷ ys) h = λ i. option_or (h.0.own i) (first_same ys h.1 i)

  forms : Forms Same
  forms = record {
    Number = λ n. alike _ _ _ _ (typing-Number elements scope n) (valued-Number env rs n) (record { literal = refl; own = refl });
    True = alike _ _ _ _ (typing-True elements scope) (valued-True env rs) (record { literal = refl; own = refl });
    False = alike _ _ _ _ (typing-False elements scope) (valued-False env rs) (record { literal = refl; own = refl });
    Name = λ name. alike _ _ _ _ (typing-Name elements scope name ∙ ap name_typing (meaning_is env name)) (valued-Name env rs name) (name_alike (bound_to env name));
    Call = λ name xs h.
        alike _ _ _ _ (typing-Call elements scope name xs ∙ ap (λ m. call_typing (option_and_then as_function m) (map t xs)) (meaning_is env name)) (valued-Call env rs name xs)
        (call_alike (bound_to env name) (map t xs) (map v xs));
    Element = λ name x h.
        alike _ _ _ _ (typing-Element elements scope name x ∙ ap (λ m. element_typing elements (option_map (λ a. a.0) (option_and_then as_array m))) (meaning_is env name)) (valued-Element env rs name x)
        (element_alike name (bound_to env name) (v x));
    Convert = λ to x h. alike _ _ _ _ (typing-Convert elements scope to x) (valued-Convert env rs to x) (record { literal = refl; own = refl });
    Throw = λ n. alike _ _ _ _ (typing-Throw elements scope n) (valued-Throw env rs n) (record { literal = refl; own = refl });
    Paren = λ x h. alike _ _ _ _ (typing-Paren elements scope x) (valued-Paren env rs x) (record { literal = refl; own = h.own });
    Minus = λ x h. alike _ _ _ _ (typing-Minus elements scope x ∙ ap (minus_typing (t x)) h.literal) (valued-Minus env rs x) (minus_alike (t x) (v x) (v x).literal);
    Not = λ x h. alike _ _ _ _ (typing-Not elements scope x) (valued-Not env rs x) (record { literal = refl; own = refl });
    Chain = λ x parts h hs. alike _ _ _ _ (typing-Chain elements scope x parts) (valued-Chain env rs x parts) (record { literal = refl; own = λ i. option_or (h.own i) (first_same parts hs i) });
    Compare = λ op x y h hs. alike _ _ _ _ (typing-Compare elements scope op x y) (valued-Compare env rs op x y) (record { literal = refl; own = refl });
    All = λ xs h. alike _ _ _ _ (typing-All elements scope xs) (valued-All env rs xs) (record { literal = refl; own = refl });
    Any = λ xs h. alike _ _ _ _ (typing-Any elements scope xs) (valued-Any env rs xs) (record { literal = refl; own = refl });
    If = λ x y z h hy hz. alike _ _ _ _ (typing-If elements scope x y z) (valued-If env rs x y z) (record { literal = refl; own = λ i. option_or (hy.own i) (option_or (hz.own i) None) });
  }

  pub same : (x : Expr) → Alike (typing elements (scope_of_names env) x) (valuation env rs x)
  same = every Same forms

-- the kind of an expression, in an environment of a scope
pub own_same : (elements : Bool) (names : Scope) (env : Environment) (rs : Reads) (x : Expr) → names ≡ scope_of_names env → (typing elements names x).own ≡ (valuation env rs x).own
own_same elements names env rs x is = ap (λ s. (typing elements s x).own) is ∙ (same elements env rs x).own

-- the number that it is
pub literal_same : (elements : Bool) (names : Scope) (env : Environment) (rs : Reads) (x : Expr) → names ≡ scope_of_names env → (typing elements names x).literal ≡ (valuation env rs x).literal
literal_same elements names env rs x is = ap (λ s. (typing elements s x).literal) is ∙ (same elements env rs x).literal
