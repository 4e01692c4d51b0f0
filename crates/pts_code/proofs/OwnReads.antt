-- An expression depends on what its own elements gave, and on no others.
use Rattle.std.proofs.Common.{◌≡◌, ℕ, ◌+◌, ◌<◌, Bool, true, false, if◌then◌else◌, Option, Some, None, Ok, List, [], ◌∷◌, ◌++◌, length, map, ℤ, refl, sym, ap, ◌∙◌, subst, arith, length-append}
use Rattle.std.specs.Prelude.{unwrap_or}
use Rattle.std.specs.Option.{option_or}
use Rattle.pts_types.specs.Arithmetic.{converted, negated}
use Rattle.pts_types.specs.declared.operation.ScalarOp.{ScalarOp}
use Rattle.pts_types.specs.declared.value.Kind.{Kind}
use Rattle.pts_types.specs.declared.value.Kind.TheVariants as kinds
use Rattle.pts_tree.specs.declared.expr.Expr.{Expr}
use Rattle.pts_tree.specs.declared.expr.Expr.TheOpen.{Expr-F}
use Rattle.pts_tree.specs.declared.expr.ChainPart.{ChainPart}
use Rattle.pts_code.specs.Laws.{Agree, DependsOnItsOwn, read_as}
use Rattle.pts_code.specs.Outcomes.{Outcome, and_then, inverted, in_order, from_left, all_of, any_of, choice}
use Rattle.pts_code.specs.Values.{Bound, Local, Array, Function, Environment, Reads, Valuation, Part, valuation, valuation_step, count, elements_of, operands, operations, truths, at_kinds, first_kind, name_valuation, call_valuation, element_valuation, element_arrays, minus_valuation, chain_valuation, compare_valuation, if_valuation, sides_kind, inside, bound_to}
use Rattle.pts_code.proofs.Induction.{AllOf, AllParts, Forms, every}
use Rattle.pts_code.proofs.Valuations.{valued_part, valued-Number, valued-True, valued-False, valued-Name, valued-Call, valued-Element, valued-Convert, valued-Throw, valued-Paren, valued-Minus, valued-Not, valued-Chain, valued-Compare, valued-All, valued-Any, valued-If}

module _ (env : Environment) (indices : Bool) (f g : ℕ → Outcome) where
  abbrev v : Expr → Valuation
  v = valuation env (read_as indices f)

  abbrev w : Expr → Valuation
  w = valuation env (read_as indices g)

  -- two valuations that agree where their own elements do
  record Own (x y : Valuation) : Type 0 where
    pub literal : x.literal ≡ y.literal
    pub own : x.own ≡ y.own
    pub elements : x.elements ≡ y.elements
    pub value : (kind : Kind) (n : ℕ) → Agree f g n (count x) → x.value kind n ≡ y.value kind n

  abbrev IsOwn : Expr → Type 0
  IsOwn x = Own (v x) (w x)

  own_by : (a b x y : Valuation) → a ≡ x → b ≡ y → Own x y → Own a b
  own_by a b x y is js h = subst (λ z. Own z b) (sym is) (subst (λ z. Own x z) (sym js) h)

  front : (xs ys : List (List ℕ)) (n : ℕ) → Agree f g n (length (xs ++ ys)) → Agree f g n (length xs)
  front xs ys n h = λ k low high. h k low (omega (arith, high, length-append xs ys))

  back : (xs ys : List (List ℕ)) (n : ℕ) → Agree f g n (length (xs ++ ys)) → Agree f g (n + length xs) (length ys)
  back xs ys n h = λ k low high. h k (omega (arith, low)) (omega (arith, high, length-append xs ys))

  -- ---- lists

  first_own : (xs : List Expr) → AllOf IsOwn xs → elements_of (map v xs) ≡ elements_of (map w xs)
  first_own [] h = refl
  first_own (x ∷ xs) h = λ i. h.0.elements i ++ first_own xs h.1 i

  truths_own : (xs : List Expr) → AllOf IsOwn xs → (n : ℕ) → Agree f g n (length (elements_of (map v xs))) → truths (map v xs) n ≡ truths (map w xs) n
  truths_own [] h n agree = refl
  truths_own (x ∷ xs) h n agree =
      λ i.
      h.0.value kinds.Bool n (front (v x).elements (elements_of (map v xs)) n agree) i
      ∷ (truths_own xs h.1 (n + count (v x)) (back (v x).elements (elements_of (map v xs)) n agree) ∙ ap (λ (zs : List (List ℕ)). truths (map w xs) (n + length zs)) h.0.elements) i

  at_kinds_own : (ks : List Kind) (xs : List Expr) → AllOf IsOwn xs → (n : ℕ) → Agree f g n (length (elements_of (map v xs))) → at_kinds ks (map v xs) n ≡ at_kinds ks (map w xs) n
  at_kinds_own [] [] h n agree = refl
  at_kinds_own [] (x ∷ xs) h n agree = refl
  at_kinds_own (k ∷ ks) [] h n agree = refl
  at_kinds_own (k ∷ ks) (x ∷ xs) h n agree =
      λ i.
      h.0.value k n (front (v x).elements (elements_of (map v xs)) n agree) i
      ∷ (at_kinds_own ks xs h.1 (n + count (v x)) (back (v x).elements (elements_of (map v xs)) n agree) ∙ ap (λ (zs : List (List ℕ)). at_kinds ks (map w xs) (n + length zs)) h.0.elements) i

  abbrev vp : List ChainPart → List Part
  vp = map (valued_part env (read_as indices f))

  abbrev wp : List ChainPart → List Part
  wp = map (valued_part env (read_as indices g))

  kinds_own : (xs : List ChainPart) → AllParts IsOwn xs → first_kind (operands (vp xs)) ≡ first_kind (operands (wp xs))
  kinds_own [] h = refl
  kinds_own (x ∷ xs) h = λ i. option_or (h.0.own i) (kinds_own xs h.1 i)

  parts_own : (xs : List ChainPart) → AllParts IsOwn xs → elements_of (operands (vp xs)) ≡ elements_of (operands (wp xs))
  parts_own [] h = refl
  parts_own (x ∷ xs) h = λ i. h.0.elements i ++ parts_own xs h.1 i

  operations_own : (kind : Kind) (xs : List ChainPart) → AllParts IsOwn xs → (n : ℕ) → Agree f g n (length (elements_of (operands (vp xs)))) → operations kind (vp xs) n ≡ operations kind (wp xs) n
  operations_own kind [] h n agree = refl
  operations_own kind (x ∷ xs) h n agree =
      λ i.
      (x.op, h.0.value kind n (front (v x.operand).elements (elements_of (operands (vp xs))) n agree) i)
      ∷ (operations_own kind xs h.1 (n + count (v x.operand)) (back (v x.operand).elements (elements_of (operands (vp xs))) n agree) ∙ ap (λ (zs : List (List ℕ)). operations kind (wp xs) (n + length zs)) h.0.elements) i

  -- ---- forms

  call_own : (o : Option Bound) (xs : List Expr) → AllOf IsOwn xs → Own (call_valuation o (map v xs)) (call_valuation o (map w xs))
  call_own None xs h = record { literal = refl; own = refl; elements = first_own xs h; value = λ kind n agree. refl }
  call_own (Some (Local k outcome)) xs h = record { literal = refl; own = refl; elements = first_own xs h; value = λ kind n agree. refl }
  call_own (Some (Array k)) xs h = record { literal = refl; own = refl; elements = first_own xs h; value = λ kind n agree. refl }
  call_own (Some (Function s)) xs h = record {
    literal = refl;
    own = refl;
    elements = first_own xs h;
    value = λ kind n agree. ap (λ os. and_then (in_order os) s.gives) (at_kinds_own s.params xs h n agree);
  }

  inside_is : (b : Bool) (name : List ℕ) (x : Valuation) (n k : ℕ) → k ≡ n + inside b (count x) → k < n + length (element_arrays b name x)
  inside_is true name x n k is = omega (arith, is, length-append x.elements (name ∷ []))
  inside_is false name x n k is = omega (arith, is)

  element_own : (name : List ℕ) (o : Option Bound) (x y : Valuation) → x.elements ≡ y.elements
      → Own (element_valuation (read_as indices f) name o x) (element_valuation (read_as indices g) name o y)
  element_own name None x y is = record { literal = refl; own = refl; elements = ap (λ zs. (if indices then zs else []) ++ name ∷ []) is; value = λ kind n agree. refl }
  element_own name (Some (Local k outcome)) x y is = record { literal = refl; own = refl; elements = ap (λ zs. (if indices then zs else []) ++ name ∷ []) is; value = λ kind n agree. refl }
  element_own name (Some (Function s)) x y is = record { literal = refl; own = refl; elements = ap (λ zs. (if indices then zs else []) ++ name ∷ []) is; value = λ kind n agree. refl }
  element_own name (Some (Array k)) x y is = record {
    literal = refl;
    own = refl;
    elements = ap (λ zs. (if indices then zs else []) ++ name ∷ []) is;
    value = λ kind n agree.
        agree (n + inside indices (count x)) (omega arith) (inside_is indices name x n (n + inside indices (count x)) refl)
        ∙ ap (λ (zs : List (List ℕ)). g (n + inside indices (length zs))) is;
  }

  minus_own : (x y : Valuation) (l : Option ℤ) → Own x y → Own (minus_valuation x l) (minus_valuation y l)
  minus_own x y None h = record { literal = refl; own = refl; elements = h.elements; value = λ kind n agree. ap (λ o. and_then o negated) (h.value kinds.I64 n agree) }
  minus_own x y (Some z) h = record { literal = refl; own = refl; elements = h.elements; value = λ kind n agree. refl }

  convert_own : (to : Kind) (x y : Valuation) → Own x y → Own (valuation_step env (read_as indices f) (Expr-F.Convert to x)) (valuation_step env (read_as indices g) (Expr-F.Convert to y))
  convert_own to x y h = record {
    literal = refl;
    own = refl;
    elements = h.elements;
    value = λ kind n agree.
        ap (λ o. and_then o (converted to)) (h.value (unwrap_or x.own to) n agree)
        ∙ ap (λ own. and_then (y.value (unwrap_or own to) n) (converted to)) h.own;
  }

  compare_own : (op : ScalarOp) (x y a b : Valuation) → Own x y → Own a b → Own (compare_valuation op x a (sides_kind x a)) (compare_valuation op y b (sides_kind y b))
  compare_own op x y a b h hs = record {
    literal = refl;
    own = refl;
    elements = λ i. h.elements i ++ hs.elements i;
    value = λ kind n agree.
        let k = sides_kind x a in
        (λ i. from_left (h.value k n (front x.elements a.elements n agree) i) ((op, hs.value k (n + count x) (back x.elements a.elements n agree) i) ∷ []))
        ∙ (λ i. from_left (y.value (unwrap_or (option_or (h.own i) (hs.own i)) kinds.U64) n) ((op, b.value (unwrap_or (option_or (h.own i) (hs.own i)) kinds.U64) (n + length (h.elements i))) ∷ []));
  }

  if_own : (x y z a b c : Valuation) → Own x a → Own y b → Own z c → Own (if_valuation x y z) (if_valuation a b c)
  if_own x y z a b c h hy hz = record {
    literal = refl;
    own = λ i. option_or (hy.own i) (option_or (hz.own i) None);
    elements = λ i. h.elements i ++ (hy.elements i ++ hz.elements i);
    value = λ kind n agree.
        let rest = back x.elements (y.elements ++ z.elements) n agree in
        (λ i. choice (h.value kinds.Bool n (front x.elements (y.elements ++ z.elements) n agree) i)
        (hy.value kind (n + count x) (front y.elements z.elements (n + count x) rest) i)
        (hz.value kind (n + count x + count y) (back y.elements z.elements (n + count x) rest) i))
        ∙ (λ i. choice (a.value kinds.Bool n) (b.value kind (n + length (h.elements i))) (c.value kind (n + length (h.elements i) + length (hy.elements i))));
  }

  chain_own : (x : Expr) (parts : List ChainPart) → IsOwn x → AllParts IsOwn parts → Own (chain_valuation (v x) (vp parts)) (chain_valuation (w x) (wp parts))
  chain_own x parts h hs = record {
    literal = refl;
    own = λ i. option_or (h.own i) (kinds_own parts hs i);
    elements = λ i. h.elements i ++ parts_own parts hs i;
    value = λ kind n agree.
        (λ i. from_left (h.value kind n (front (v x).elements (elements_of (operands (vp parts))) n agree) i) (operations_own kind parts hs (n + count (v x)) (back (v x).elements (elements_of (operands (vp parts))) n agree) i))
        ∙ ap (λ (zs : List (List ℕ)). from_left ((w x).value kind n) (operations kind (wp parts) (n + length zs))) h.elements;
  }

  literal_own : (x y : Valuation) (a b : Option ℤ) → a ≡ b → Own (minus_valuation x a) (minus_valuation y a) → Own (minus_valuation x a) (minus_valuation y b)
  literal_own x y a b is h = subst (λ l. Own (minus_valuation x a) (minus_valuation y l)) is h

  abbrev r : Reads
  r = read_as indices f

  abbrev s : Reads
  s = read_as indices g

  refl_own : (x : Valuation) → Own x x
  refl_own x = record { literal = refl; own = refl; elements = refl; value = λ kind n agree. refl }

  forms : Forms IsOwn
  forms = record {
    Number = λ n. own_by _ _ _ _ (valued-Number env r n) (valued-Number env s n) (refl_own (valuation_step env r (Expr-F.Number n)));
    True = own_by _ _ _ _ (valued-True env r) (valued-True env s) (refl_own (valuation_step env r Expr-F.True));
    False = own_by _ _ _ _ (valued-False env r) (valued-False env s) (refl_own (valuation_step env r Expr-F.False));
    Name = λ name. own_by _ _ _ _ (valued-Name env r name) (valued-Name env s name) (refl_own (name_valuation (bound_to env name)));
    Call = λ name xs h. own_by _ _ _ _ (valued-Call env r name xs) (valued-Call env s name xs) (call_own (bound_to env name) xs h);
    Element = λ name x h. own_by _ _ _ _ (valued-Element env r name x) (valued-Element env s name x) (element_own name (bound_to env name) (v x) (w x) h.elements);
    Convert = λ to x h. own_by _ _ _ _ (valued-Convert env r to x) (valued-Convert env s to x) (convert_own to (v x) (w x) h);
    Throw = λ n. own_by _ _ _ _ (valued-Throw env r n) (valued-Throw env s n) (refl_own (valuation_step env r (Expr-F.Throw n)));
    Paren = λ x h. own_by _ _ _ _ (valued-Paren env r x) (valued-Paren env s x) (record { literal = refl; own = h.own; elements = h.elements; value = h.value });
    Minus = λ x h.
        own_by _ _ _ _ (valued-Minus env r x) (valued-Minus env s x)
        (literal_own (v x) (w x) (v x).literal (w x).literal h.literal (minus_own (v x) (w x) (v x).literal h));
    Not = λ x h.
        own_by _ _ _ _ (valued-Not env r x) (valued-Not env s x)
        (record { literal = refl; own = refl; elements = h.elements; value = λ kind n agree. ap (λ o. and_then o (λ value. Ok (inverted value))) (h.value kinds.Bool n agree) });
    Chain = λ x parts h hs. own_by _ _ _ _ (valued-Chain env r x parts) (valued-Chain env s x parts) (chain_own x parts h hs);
    Compare = λ op x y h hs. own_by _ _ _ _ (valued-Compare env r op x y) (valued-Compare env s op x y) (compare_own op (v x) (w x) (v y) (w y) h hs);
    All = λ xs h.
        own_by _ _ _ _ (valued-All env r xs) (valued-All env s xs)
        (record { literal = refl; own = refl; elements = first_own xs h; value = λ kind n agree. ap all_of (truths_own xs h n agree) });
    Any = λ xs h.
        own_by _ _ _ _ (valued-Any env r xs) (valued-Any env s xs)
        (record { literal = refl; own = refl; elements = first_own xs h; value = λ kind n agree. ap any_of (truths_own xs h n agree) });
    If = λ x y z h hy hz. own_by _ _ _ _ (valued-If env r x y z) (valued-If env s x y z) (if_own (v x) (v y) (v z) (w x) (w y) (w z) h hy hz);
  }

  pub own_reads : (x : Expr) → DependsOnItsOwn env indices f g x
  own_reads x =
      let h = every IsOwn forms x in
      record { value = h.value; own = h.own; elements = h.elements }
