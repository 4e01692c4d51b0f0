-- The code of each form of expression from the codes of its parts.
use Rattle.std.proofs.Common.{◌≡◌, ℕ, ◌+◌, ◌≤◌, true, false, if◌then◌else◌, Option, Some, None, Result, Ok, Err, IfOk, List, [], ◌∷◌, length, map, slice_get, ℤ, pos, neg_ℤ, sym, ap, ◌∙◌, subst, arith}
use Rattle.std.specs.Prelude.{unwrap_or}
use Rattle.std.specs.Option.{option_or}
use Rattle.std.proofs.lemmas.Bool.{le-leb}
use Rattle.pts_types.specs.Arithmetic.{converted, negated}
use Rattle.pts_types.specs.declared.value.Kind.{Kind}
use Rattle.pts_types.specs.declared.value.Kind.TheVariants as kinds
use Rattle.pts_types.specs.declared.operation.ScalarOp.{ScalarOp}
use Rattle.pts_types.specs.declared.value.Value.TheVariants as values
use Rattle.pts_tree.specs.declared.expr.Expr.{Expr}
use Rattle.pts_tree.specs.declared.expr.Expr.TheVariants as e
use Rattle.pts_tree.specs.declared.expr.ChainPart.{ChainPart}
use Rattle.pts_rules.specs.declared.meaning.Signature.{Signature}
use Rattle.pts_rules.specs.Known.{Scope, function_of, function_number, kind_of_array, value_number}
use Rattle.pts_rules.specs.Kinds.{typing}
use Rattle.pts_code.specs.declared.code.Code.{Code}
use Rattle.pts_code.specs.declared.code.Code.TheVariants as c
use Rattle.pts_code.specs.declared.code.Step.{Step}
use Rattle.pts_code.specs.declared.compiling.Spot.{Spot}
use Rattle.pts_code.specs.Codes.{Sight, gives, call_of}
use Rattle.pts_code.specs.Compiling.{IsCode, AreArguments, AreTruths, AreSteps, at_spot, spot_of, scope_of_names, part_of, step_at}
use Rattle.pts_code.specs.Outcomes.{Outcome, and_then, never, inverted, in_order, from_left, all_of, any_of, choice}
use Rattle.pts_code.specs.Values.{Environment, Valuation, count, note, noted, numbers, operations, valuation, number_value, throw_code, call_valuation, minus_valuation, bound_to, at_kinds}
use Rattle.pts_code.proofs.Chains.{IsChained}
use Rattle.pts_code.proofs.Counted.{counted}
use Rattle.pts_code.proofs.Given.{gives-Value, gives-Note, gives-Throw, gives-Call, gives-Convert, gives-Negate, gives-Not, gives-All, gives-Any, gives-If}
use Rattle.pts_code.proofs.Lookups.{IsLost, no_local, no_function, local_at, element_at, no_element, Found, function_found, params_known}
use Rattle.pts_code.proofs.SameKinds.{own_same, literal_same}
use Rattle.pts_code.proofs.Valuations.{valued-Number, valued-True, valued-False, valued-Name, valued-Call, valued-Element, valued-Convert, valued-Throw, valued-Paren, valued-Minus, valued-Not, valued-Chain, valued-Compare, valued-All, valued-Any, valued-If}

module _ (scope : Scope) (spots : List Spot) (kind : Kind) (first : ℕ) where
  -- what a valuation gives at the kind and the number
  abbrev at : Valuation → Outcome
  at v = v.value kind first

  -- an expression where its elements are noted
  abbrev v : Environment → Sight → Expr → Valuation
  v env sight = valuation env (noted sight.notes)

  -- the number behind those of its elements
  abbrev past : Expr → ℕ
  past x = first + numbers true x

  counted_past : (env : Environment) (sight : Sight) (x : Expr) → past x ≡ first + count (v env sight x)
  counted_past env sight x = ap (λ n. first + n) (sym (counted env (noted sight.notes) x))

  pub is-Number : (n : ℕ) → IsCode scope spots kind first (e.Number n) (c.Value (number_value kind (pos n)))
  is-Number n = record { means = λ env sight is holds. gives-Value sight (number_value kind (pos n)) ∙ sym (ap at (valued-Number env (noted sight.notes) n)) }

  pub is-True : IsCode scope spots kind first e.True (c.Value (values.Bool true))
  is-True = record { means = λ env sight is holds. gives-Value sight (values.Bool true) ∙ sym (ap at (valued-True env (noted sight.notes))) }

  pub is-False : IsCode scope spots kind first e.False (c.Value (values.Bool false))
  is-False = record { means = λ env sight is holds. gives-Value sight (values.Bool false) ∙ sym (ap at (valued-False env (noted sight.notes))) }

  -- code that gives what stands at the spot of a local value
  pub is-local : (name : List ℕ) (n : ℕ) (code : Code) → value_number scope name ≡ Some n → ((sight : Sight) → gives sight code ≡ at_spot sight (spot_of spots n))
      → IsCode scope spots kind first (e.Name name) code
  is-local name n code found same = record {
    means = λ env sight is holds.
        same sight
        ∙ local_at env sight spots name n kind first holds (ap (λ s. value_number s name) (sym is) ∙ found)
        ∙ sym (ap at (valued-Name env (noted sight.notes) name));
  }

  -- names that the rules do not let through

  pub is-unknown : (name : List ℕ) → value_number scope name ≡ None → IsCode scope spots kind first (e.Name name) (c.Value (values.U64 0))
  is-unknown name lost = record {
    means = λ env sight is holds.
        gives-Value sight (values.U64 0)
        ∙ sym (no_local env name kind first (ap (λ s. value_number s name) (sym is) ∙ lost))
        ∙ sym (ap at (valued-Name env (noted sight.notes) name));
  }

  lost_too : (env : Environment) (name : List ℕ) → scope ≡ scope_of_names env → IsLost scope name → IsLost (scope_of_names env) name
  lost_too env name is lost = subst (λ s. IsLost s name) is lost

  pub is-lost : (name : List ℕ) (xs : List Expr) → IsLost scope name → IsCode scope spots kind first (e.Call name xs) (c.Value (values.U64 0))
  is-lost name xs lost = record {
    means = λ env sight is holds.
        gives-Value sight (values.U64 0)
        ∙ sym (no_function env name (map (v env sight) xs) kind first (lost_too env name is lost))
        ∙ sym (ap at (valued-Call env (noted sight.notes) name xs));
  }

  kind_too : (env : Environment) (name : List ℕ) (o : Option Kind) → scope ≡ scope_of_names env → kind_of_array scope name ≡ o → kind_of_array (scope_of_names env) name ≡ o
  kind_too env name o is known = subst (λ s. kind_of_array s name ≡ o) is known

  -- an element stands directly behind those of its index
  pub is-Element : (name : List ℕ) (x : Expr) (k : Kind) → kind_of_array scope name ≡ Some k → IsCode scope spots kind first (e.Element name x) (c.Note (past x))
  is-Element name x k known = record {
    means = λ env sight is holds.
        gives-Note sight (past x)
        ∙ ap (note sight.notes) (counted_past env sight x)
        ∙ element_at env (noted sight.notes) name (v env sight x) k (kind_too env name (Some k) is known) kind first
        ∙ sym (ap at (valued-Element env (noted sight.notes) name x));
  }

  pub no-Element : (name : List ℕ) (x : Expr) → kind_of_array scope name ≡ None → IsCode scope spots kind first (e.Element name x) (c.Value (values.U64 0))
  no-Element name x known = record {
    means = λ env sight is holds.
        gives-Value sight (values.U64 0)
        ∙ sym (no_element env (noted sight.notes) name (v env sight x) (kind_too env name None is known) kind first)
        ∙ sym (ap at (valued-Element env (noted sight.notes) name x));
  }

  pub is-Throw : (n : ℕ) → IsCode scope spots kind first (e.Throw n) (c.Throw (throw_code n))
  is-Throw n = record { means = λ env sight is holds. gives-Throw sight (throw_code n) ∙ sym (ap at (valued-Throw env (noted sight.notes) n)) }

  pub is-Paren : (x : Expr) (code : Code) → IsCode scope spots kind first x code → IsCode scope spots kind first (e.Paren x) code
  is-Paren x code h = record { means = λ env sight is holds. h.means env sight is holds ∙ sym (ap at (valued-Paren env (noted sight.notes) x)) }

  pub is-Convert : (to : Kind) (x : Expr) (code : Code) → IsCode scope spots (unwrap_or (typing false scope x).own to) first x code → IsCode scope spots kind first (e.Convert to x) (c.Convert to code)
  is-Convert to x code h = record {
    means = λ env sight is holds.
        gives-Convert sight to code
        ∙ ap (λ o. and_then o (converted to)) (h.means env sight is holds)
        ∙ ap (λ own. and_then ((v env sight x).value (unwrap_or own to) first) (converted to)) (own_same false scope env (noted sight.notes) x is)
        ∙ sym (ap at (valued-Convert env (noted sight.notes) to x));
  }

  -- `-` before a number
  pub is-number-Minus : (x : Expr) (z : ℤ) → (typing false scope x).literal ≡ Some z → IsCode scope spots kind first (e.Minus x) (c.Value (number_value kind (neg_ℤ z)))
  is-number-Minus x z literal = record {
    means = λ env sight is holds.
        gives-Value sight (number_value kind (neg_ℤ z))
        ∙ ap (λ l. at (minus_valuation (v env sight x) l)) (sym literal ∙ literal_same false scope env (noted sight.notes) x is)
        ∙ sym (ap at (valued-Minus env (noted sight.notes) x));
  }

  -- `-` before anything else
  pub is-Minus : (x : Expr) (code : Code) → (typing false scope x).literal ≡ None → IsCode scope spots kinds.I64 first x code → IsCode scope spots kind first (e.Minus x) (c.Negate code)
  is-Minus x code literal h = record {
    means = λ env sight is holds.
        gives-Negate sight code
        ∙ ap (λ o. and_then o negated) (h.means env sight is holds)
        ∙ ap (λ l. at (minus_valuation (v env sight x) l)) (sym literal ∙ literal_same false scope env (noted sight.notes) x is)
        ∙ sym (ap at (valued-Minus env (noted sight.notes) x));
  }

  pub is-Not : (x : Expr) (code : Code) → IsCode scope spots kinds.Bool first x code → IsCode scope spots kind first (e.Not x) (c.Not code)
  is-Not x code h = record {
    means = λ env sight is holds.
        gives-Not sight code
        ∙ ap (λ o. and_then o (λ value. Ok (inverted value))) (h.means env sight is holds)
        ∙ sym (ap at (valued-Not env (noted sight.notes) x));
  }

  pub is-Chain : (x : Expr) (parts : List ChainPart) (code : Code) (steps : List Step) (whole : Code) → IsChained code steps whole
      → IsCode scope spots kind first x code → AreSteps scope spots kind (past x) parts steps
      → IsCode scope spots kind first (e.Chain x parts) whole
  is-Chain x parts code steps whole same h hs = record {
    means = λ env sight is holds.
        same sight
        ∙ ap (λ o. from_left o (map (step_at sight) steps)) (h.means env sight is holds)
        ∙ ap (from_left (at (v env sight x))) (hs.means env sight is holds ∙ ap (operations kind (map (part_of env sight) parts)) (counted_past env sight x))
        ∙ sym (ap at (valued-Chain env (noted sight.notes) x parts));
  }

  -- the kind of the sides of a comparison, as the rules see it
  abbrev pub sides : Expr → Expr → Kind
  sides x y = unwrap_or (option_or (typing false scope x).own (typing false scope y).own) kinds.U64

  pub is-Compare : (op : ScalarOp) (x y : Expr) (code operand whole : Code) → IsChained code ((record { op = op; operand = operand }) ∷ []) whole
      → IsCode scope spots (sides x y) first x code → IsCode scope spots (sides x y) (past x) y operand
      → IsCode scope spots kind first (e.Compare op x y) whole
  is-Compare op x y code operand whole same h hs = record {
    means = λ env sight is holds.
        let value : Option Kind → Option Kind → Outcome = λ a b.
        from_left ((v env sight x).value (unwrap_or (option_or a b) kinds.U64) first) ((op, (v env sight y).value (unwrap_or (option_or a b) kinds.U64) (first + count (v env sight x))) ∷ []) in
        same sight
        ∙ ap (λ o. from_left o ((op, gives sight operand) ∷ [])) (h.means env sight is holds)
        ∙ ap (λ o. from_left ((v env sight x).value (sides x y) first) ((op, o) ∷ [])) (hs.means env sight is holds ∙ ap ((v env sight y).value (sides x y)) (counted_past env sight x))
        ∙ (λ i. value (own_same false scope env (noted sight.notes) x is i) (own_same false scope env (noted sight.notes) y is i))
        ∙ sym (ap at (valued-Compare env (noted sight.notes) op x y));
  }

  pub is-All : (xs : List Expr) (codes : List Code) → AreTruths scope spots first xs codes → IsCode scope spots kind first (e.All xs) (c.All codes)
  is-All xs codes h = record {
    means = λ env sight is holds. gives-All sight codes ∙ ap all_of (h.means env sight is holds) ∙ sym (ap at (valued-All env (noted sight.notes) xs));
  }

  pub is-Any : (xs : List Expr) (codes : List Code) → AreTruths scope spots first xs codes → IsCode scope spots kind first (e.Any xs) (c.Any codes)
  is-Any xs codes h = record {
    means = λ env sight is holds. gives-Any sight codes ∙ ap any_of (h.means env sight is holds) ∙ sym (ap at (valued-Any env (noted sight.notes) xs));
  }

  pub is-If : (x y z : Expr) (test left right : Code) → IsCode scope spots kinds.Bool first x test → IsCode scope spots kind (past x) y left
      → IsCode scope spots kind (past x + numbers true y) z right → IsCode scope spots kind first (e.If x y z) (c.If test left right)
  is-If x y z test left right h hy hz = record {
    means = λ env sight is holds.
        let rs = noted sight.notes in
        gives-If sight test left right
        ∙ (λ i. choice (h.means env sight is holds i) (hy.means env sight is holds i) (hz.means env sight is holds i))
        ∙ (λ i. choice ((v env sight x).value kinds.Bool first) ((v env sight y).value kind (first + sym (counted env rs x) i)) ((v env sight z).value kind (first + sym (counted env rs x) i + sym (counted env rs y) i)))
        ∙ sym (ap at (valued-If env rs x y z));
  }

  few_arguments : (ks : List Kind) (vs : List Valuation) (n : ℕ) → length (at_kinds ks vs n) ≤ length ks
  few_arguments [] vs n = omega arith
  few_arguments (k ∷ ks) [] n = omega arith
  few_arguments (k ∷ ks) (x ∷ xs) n = omega (arith, few_arguments ks xs (n + count x))

  call_is : (env : Environment) (sight : Sight) (n : ℕ) (s : Signature) (name : List ℕ) (vs : List Valuation) (outs : List Outcome)
      → (f : Found sight n (bound_to env name)) → s.params ≡ f.function.params → outs ≡ at_kinds s.params vs first
      → call_of outs (slice_get sight.functions n) ≡ at (call_valuation (bound_to env name) vs)
  call_is env sight n s name vs outs f params are =
      let wanted = at_kinds f.function.params vs first in
      let same : outs ≡ wanted = are ∙ ap (λ ks. at_kinds ks vs first) params in
      ap (call_of outs) f.at
      ∙ ap (λ b. if b then and_then (in_order outs) f.function.gives else never)
      (le-leb (length outs) 8 (omega (arith, ap length same, few_arguments f.function.params vs first, f.few)))
      ∙ ap (λ xs. and_then (in_order xs) f.function.gives) same
      ∙ ap (λ o. at (call_valuation o vs)) (sym f.bound)

  pub is-Call : (name : List ℕ) (xs : List Expr) (n : ℕ) (s : Signature) (codes : List Code)
      → function_number scope name ≡ Some n → function_of scope name ≡ Some s → AreArguments scope spots s.params first xs codes
      → IsCode scope spots kind first (e.Call name xs) (c.Call n codes)
  is-Call name xs n s codes number signature h = record {
    means = λ env sight is holds.
        let f = function_found env sight spots name n holds (ap (λ a. function_number a name) (sym is) ∙ number) in
        gives-Call sight n codes
        ∙ call_is env sight n s name (map (v env sight) xs) (map (gives sight) codes) f
        (params_known env name f.function s f.bound (ap (λ a. function_of a name) (sym is) ∙ signature))
        (h.means env sight is holds)
        ∙ sym (ap at (valued-Call env (noted sight.notes) name xs));
  }

-- the same of what may have found no memory
pub when_ok : {E : Type 0} (P Q : Code → Type 0) (r : Result Code E) → ((code : Code) → P code → Q code) → IfOk r P → IfOk r Q
when_ok P Q (Ok code) f h = f code h
when_ok P Q (Err e) f h = h
