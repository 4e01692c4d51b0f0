-- An expression whose place asks a kind gives a value of the kind, or throws.
use Rattle.std.proofs.Common.{◌≡◌, ℕ, ◌+◌, ◌-◌, ◌^◌, Bool, true, false, ◌&&◌, if◌then◌else◌, IsTrue, Option, Some, None, Result, Ok, Err, List, [], ◌∷◌, ◌++◌, length, map, option_map, option_and_then, bytes_eq, ℤ, pos, negsuc, refl, sym, ap, ◌∙◌, subst, arith}
use Rattle.std.specs.Prelude.{⊤, unwrap_or, neg_ℤ, int_le, not}
use Rattle.std.specs.List.{list_all}
use Rattle.std.proofs.lemmas.Int.{ints}
use Rattle.std.specs.Option.{option_or}
use Rattle.pts_types.specs.Arithmetic.{GivesKind, IsValueOf, converted, greatest_i64, least_i64, negated, value_under}
use Rattle.pts_types.specs.declared.operation.ScalarOp.{ScalarOp}
use Rattle.pts_types.specs.declared.value.Kind.{Kind}
use Rattle.pts_types.specs.declared.value.Kind.TheVariants as kinds
use Rattle.pts_types.specs.declared.value.Thrown.{Thrown}
use Rattle.pts_types.specs.declared.value.Value.{Value}
use Rattle.pts_types.specs.declared.value.Value.TheVariants as values
use Rattle.pts_tree.specs.declared.expr.ChainPart.{ChainPart}
use Rattle.pts_tree.specs.declared.expr.Expr.{Expr}
use Rattle.pts_tree.specs.declared.expr.Expr.TheOpen.{Expr-F}
use Rattle.pts_rules.specs.Known.{Scope, as_array, as_function, holds, is_number, same_kind}
use Rattle.pts_rules.specs.Kinds.{Typing, typing, typing_step, typed, wrong, name_typing, call_typing, element_typing, minus_typing, arguments_fit, each_fits, compares}
use Rattle.pts_rules.specs.Kinds as rules
use Rattle.pts_rules.proofs.Typings.{typing-Number, typing-True, typing-False, typing-Name, typing-Call, typing-Element, typing-Convert, typing-Throw, typing-Paren, typing-Minus, typing-Not, typing-Chain, typing-Compare, typing-All, typing-Any, typing-If}
use Rattle.pts_code.specs.Compiling.{meaning_of_bound, scope_of_names}
use Rattle.pts_code.specs.Outcomes.{Outcome, Gives, and_then, inverted, is_true, in_order, operate, from_left, all_of, any_of, choice}
use Rattle.pts_code.specs.Soundness.{AreElementsOf, AreOfKinds, HasItsKind, HaveTheirKinds, IsElementOf, is_comparison, operators_right}
use Rattle.pts_code.specs.Values.{Bound, Local, Array, Function, Environment, Reads, Valuation, Part, valuation, count, elements_of, operands, operations, truths, at_kinds, name_valuation, call_valuation, element_valuation, element_arrays, minus_valuation, chain_valuation, compare_valuation, if_valuation, sides_kind, of_kind, unknown, inside, bound_to, number_value, value_with}
use Rattle.pts_code.proofs.Induction.{AllOf, AllParts, Forms, every}
use Rattle.pts_code.proofs.Lookups.{meaning_is}
use Rattle.pts_code.proofs.OperationKinds.{if_kind, le_is, number_kind, truth_kind, negated_kind, converted_kind}
use Rattle.pts_code.proofs.Operators.{part_right, right-Call, right-Convert, right-Paren, right-Minus, right-Not, right-Chain, right-Compare, right-All, right-Any, right-If}
use Rattle.pts_code.proofs.SameKinds.{same}
use Rattle.pts_code.proofs.Truths.{and_left, and_right}
use Rattle.pts_code.proofs.Valuations.{valued_part, valued-Number, valued-True, valued-False, valued-Name, valued-Call, valued-Element, valued-Convert, valued-Throw, valued-Paren, valued-Minus, valued-Not, valued-Chain, valued-Compare, valued-All, valued-Any, valued-If}

-- ---- kinds and outcomes

same_is : (a b : Kind) → IsTrue (same_kind a b) → a ≡ b
same_is kinds.I64 kinds.I64 h = refl
same_is kinds.U64 kinds.U64 h = refl
same_is kinds.Bool kinds.Bool h = refl
same_is _ _ h = absurd (cc)

-- a number that a kind holds is a value of it
held_kind : (kind : Kind) (z : ℤ) → IsTrue (holds kind z) → IsValueOf kind (value_with kind z)
held_kind kinds.I64 z h = (le_is least_i64 z (and_left (int_le least_i64 z) (int_le z greatest_i64) h), le_is z greatest_i64 (and_right (int_le least_i64 z) (int_le z greatest_i64) h))
held_kind kinds.U64 (pos n) h = omega (arith, ints, le_is (pos n) (pos (2 ^ 64 - 1)) (and_right (int_le (pos 0) (pos n)) (int_le (pos n) (pos (2 ^ 64 - 1))) h))
held_kind kinds.U64 (negsuc n) h = absurd (cc)
held_kind kinds.Bool z h = tt

literal_kind : (kind : Kind) (z : ℤ) → IsTrue (holds kind z) → IsValueOf kind (number_value kind z)
literal_kind kind z h = subst (λ b. IsValueOf kind (value_with kind (if b then z else pos 0))) (sym h) (held_kind kind z h)

then_kind : (j k : Kind) (o : Outcome) (f : Value → Outcome) → GivesKind j o → ((value : Value) → IsValueOf j value → GivesKind k (f value)) → GivesKind k (and_then o f)
then_kind j k (Ok value) f h g = g value h
then_kind j k (Err e) f h g = tt

inverted_kind : (value : Value) → IsValueOf kinds.Bool value → GivesKind kinds.Bool (Ok (inverted value))
inverted_kind (values.Bool b) h = tt
inverted_kind (values.U64 n) h = absurd h
inverted_kind (values.I64 z) h = absurd h

-- a value of each of these kinds, or a throw
abbrev OrderedKinds : List Kind → Result (List Value) Thrown → Type 0
OrderedKinds ks (Ok arguments) = AreOfKinds ks arguments
OrderedKinds ks (Err e) = ⊤

cons_kinds : (k : Kind) (ks : List Kind) (o : Outcome) (r : Result (List Value) Thrown) → GivesKind k o → OrderedKinds ks r
    → OrderedKinds (k ∷ ks) (and_then o (λ value. and_then r (λ rest. Ok (value ∷ rest))))
cons_kinds k ks (Ok value) (Ok rest) h g = (h, g)
cons_kinds k ks (Ok value) (Err e) h g = tt
cons_kinds k ks (Err e) r h g = tt

called_kind : (ks : List Kind) (k : Kind) (r : Result (List Value) Thrown) (f : Gives) → OrderedKinds ks r → ((arguments : List Value) → AreOfKinds ks arguments → GivesKind k (f arguments)) → GivesKind k (and_then r f)
called_kind ks k (Ok arguments) f h g = g arguments h
called_kind ks k (Err e) f h g = tt

operate_kind : (k : Kind) (op : ScalarOp) (so_far o : Outcome) → is_comparison op ≡ false → is_number k ≡ true → GivesKind k so_far → GivesKind k o → GivesKind k (operate so_far (op, o))
operate_kind k op so_far o works number h g =
    then_kind k k so_far (λ before. and_then o (λ operand. value_under op before operand)) h
    (λ x hx. then_kind k k o (λ operand. value_under op x operand) g (λ y hy. number_kind op k x y works number hx hy))

compared_kind : (k : Kind) (op : ScalarOp) (x y : Outcome) → is_comparison op ≡ true → GivesKind k x → GivesKind k y → GivesKind kinds.Bool (from_left x ((op, y) ∷ []))
compared_kind k op x y comparing h g =
    then_kind k kinds.Bool x (λ before. and_then y (λ operand. value_under op before operand)) h
    (λ a ha. then_kind k kinds.Bool y (λ operand. value_under op a operand) g (λ b hb. truth_kind op k a b comparing ha hb))

choice_kind : (k : Kind) (test x y : Outcome) → GivesKind kinds.Bool test → GivesKind k x → GivesKind k y → GivesKind k (choice test x y)
choice_kind k test x y h hx hy = then_kind kinds.Bool k test (λ value. if is_true value then x else y) h (λ value hv. if_kind k (is_true value) x y (λ t. hx) (λ t. hy))

false_only : (b : Bool) → not b ≡ true → b ≡ false
false_only true h = absurd (cc)
false_only false h = refl

-- what is known of what a name stands for
abbrev BoundHas : Option Bound → Type 0
BoundHas None = ⊤
BoundHas (Some b) = HasItsKind b

bound_has : (env : Environment) (name : List ℕ) → HaveTheirKinds env → BoundHas (bound_to env name)
bound_has [] name h = tt
bound_has (entry ∷ env) name h =
    elim (bytes_eq name entry.0) as (λ b. BoundHas (if b then Some entry.1 else bound_to env name)) [ true ↦ h.0 | false ↦ bound_has env name h.1 ]

-- ---- expressions

module _ (elements : Bool) (env : Environment) (rs : Reads) (known : HaveTheirKinds env) where
  abbrev scope : Scope
  scope = scope_of_names env

  abbrev t : Expr → Typing
  t = typing elements scope

  abbrev v : Expr → Valuation
  v = valuation env rs

  -- the elements from a number on, where they may be read
  abbrev AreRead : List (List ℕ) → ℕ → Type 0
  AreRead names n = IsTrue elements → AreElementsOf env names rs n

  front : (xs ys : List (List ℕ)) (n : ℕ) → AreElementsOf env (xs ++ ys) rs n → AreElementsOf env xs rs n
  front [] ys n h = tt
  front (x ∷ xs) ys n h = (h.0, front xs ys (n + 1) h.1)

  back : (xs ys : List (List ℕ)) (n : ℕ) → AreElementsOf env (xs ++ ys) rs n → AreElementsOf env ys rs (n + length xs)
  back [] ys n h = subst (AreElementsOf env ys rs) (omega arith) h
  back (x ∷ xs) ys n h = subst (AreElementsOf env ys rs) (omega arith) (back xs ys (n + 1) h.1)

  abbrev GivesKinds : Typing → Valuation → Type 0
  GivesKinds a x = (kind : Kind) (n : ℕ) → IsTrue (a.fits kind) → AreRead x.elements n → GivesKind kind (x.value kind n)

  abbrev IsRight : Expr → Type 0
  IsRight x = IsTrue (operators_right x) → GivesKinds (t x) (v x)

  gives_by : (a b : Typing) (x y : Valuation) → a ≡ b → x ≡ y → GivesKinds b y → GivesKinds a x
  gives_by a b x y is js h = subst (λ z. GivesKinds a z) (sym js) (subst (λ z. GivesKinds z y) (sym is) h)

  of_wrong : (names : List (List ℕ)) → GivesKinds wrong (unknown names)
  of_wrong names kind n fit read = absurd (cc)

  of_typed : (k : Kind) (right : Bool) (names : List (List ℕ)) (value : ℕ → Outcome) → ((n : ℕ) → IsTrue right → AreRead names n → GivesKind k (value n)) → GivesKinds (typed k right) (of_kind k names value)
  of_typed k right names value h kind n fit read =
      subst (λ z. GivesKind z (value n)) (sym (same_is kind k (and_left (same_kind kind k) right fit))) (h n (and_right (same_kind kind k) right fit) read)

  name_right : (o : Option Bound) → BoundHas o → GivesKinds (name_typing (option_map meaning_of_bound o)) (name_valuation o)
  name_right None h = of_wrong []
  name_right (Some (Local k outcome)) h = of_typed k true [] (λ n. outcome) (λ n right read. h)
  name_right (Some (Array k)) h = of_wrong []
  name_right (Some (Function f)) h = of_wrong []

  -- ---- lists

  arguments_right : (ks : List Kind) (xs : List Expr) → AllOf IsRight xs → IsTrue (list_all (λ right. right) (map operators_right xs)) → (n : ℕ) → IsTrue (arguments_fit ks (map t xs)) → AreRead (elements_of (map v xs)) n
      → OrderedKinds ks (in_order (at_kinds ks (map v xs) n))
  arguments_right [] [] h ops n fit read = tt
  arguments_right [] (x ∷ xs) h ops n fit read = absurd (cc)
  arguments_right (k ∷ ks) [] h ops n fit read = absurd (cc)
  arguments_right (k ∷ ks) (x ∷ xs) h ops n fit read =
      let others = list_all (λ (right : Bool). right) (map operators_right xs) in
      cons_kinds k ks ((v x).value k n) (in_order (at_kinds ks (map v xs) (n + count (v x))))
      (h.0 (and_left (operators_right x) others ops) k n (and_left ((t x).fits k) (arguments_fit ks (map t xs)) fit) (λ r. front (v x).elements (elements_of (map v xs)) n (read r)))
      (arguments_right ks xs h.1 (and_right (operators_right x) others ops) (n + count (v x)) (and_right ((t x).fits k) (arguments_fit ks (map t xs)) fit) (λ r. back (v x).elements (elements_of (map v xs)) n (read r)))

  -- each gives a truth, or throws
  abbrev AreTruthful : List Outcome → Type 0
  AreTruthful [] = ⊤
  AreTruthful (o ∷ os) = GivesKind kinds.Bool o × AreTruthful os

  truths_right : (xs : List Expr) → AllOf IsRight xs → IsTrue (list_all (λ right. right) (map operators_right xs)) → (n : ℕ) → IsTrue (each_fits kinds.Bool (map t xs)) → AreRead (elements_of (map v xs)) n
      → AreTruthful (truths (map v xs) n)
  truths_right [] h ops n fit read = tt
  truths_right (x ∷ xs) h ops n fit read =
      let others = list_all (λ (right : Bool). right) (map operators_right xs) in (
        h.0 (and_left (operators_right x) others ops) kinds.Bool n (and_left ((t x).fits kinds.Bool) (each_fits kinds.Bool (map t xs)) fit) (λ r. front (v x).elements (elements_of (map v xs)) n (read r)),
        truths_right xs h.1 (and_right (operators_right x) others ops) (n + count (v x)) (and_right ((t x).fits kinds.Bool) (each_fits kinds.Bool (map t xs)) fit) (λ r. back (v x).elements (elements_of (map v xs)) n (read r)),
      )

  all_kind : (os : List Outcome) → AreTruthful os → GivesKind kinds.Bool (all_of os)
  all_kind [] h = tt
  all_kind (o ∷ os) h = choice_kind kinds.Bool o (all_of os) (Ok (values.Bool false)) h.0 (all_kind os h.1) tt

  any_kind : (os : List Outcome) → AreTruthful os → GivesKind kinds.Bool (any_of os)
  any_kind [] h = tt
  any_kind (o ∷ os) h = choice_kind kinds.Bool o (Ok (values.Bool true)) (any_of os) h.0 tt (any_kind os h.1)

  abbrev vp : List ChainPart → List Part
  vp = map (valued_part env rs)

  abbrev tp : List ChainPart → List Typing
  tp = map (λ y. t y.operand)

  chain_right : (k : Kind) → is_number k ≡ true → (parts : List ChainPart) → AllParts IsRight parts → IsTrue (list_all (λ right. right) (map part_right parts)) → (so_far : Outcome) (n : ℕ) → GivesKind k so_far
      → IsTrue (each_fits k (tp parts)) → AreRead (elements_of (operands (vp parts))) n → GivesKind k (from_left so_far (operations k (vp parts) n))
  chain_right k number [] h ops so_far n before fit read = before
  chain_right k number (y ∷ ys) h ops so_far n before fit read =
      let others = list_all (λ (right : Bool). right) (map part_right ys) in
      let own = and_left (part_right y) others ops in
      let x = v y.operand in
      let works = false_only (is_comparison y.op) (and_left (not (is_comparison y.op)) (operators_right y.operand) own) in
      let here = h.0 (and_right (not (is_comparison y.op)) (operators_right y.operand) own) k n (and_left ((t y.operand).fits k) (each_fits k (tp ys)) fit)
      (λ r. front x.elements (elements_of (operands (vp ys))) n (read r)) in
      chain_right k number ys h.1 (and_right (part_right y) others ops) (operate so_far (y.op, x.value k n)) (n + count x)
      (operate_kind k y.op so_far (x.value k n) works number before here)
      (and_right ((t y.operand).fits k) (each_fits k (tp ys)) fit)
      (λ r. back x.elements (elements_of (operands (vp ys))) n (read r))

  -- ---- forms

  call_right : (o : Option Bound) → BoundHas o → (xs : List Expr) → AllOf IsRight xs → IsTrue (list_all (λ right. right) (map operators_right xs))
      → GivesKinds (call_typing (option_and_then as_function (option_map meaning_of_bound o)) (map t xs)) (call_valuation o (map v xs))
  call_right None has xs h ops = of_wrong (elements_of (map v xs))
  call_right (Some (Local k outcome)) has xs h ops = of_wrong (elements_of (map v xs))
  call_right (Some (Array k)) has xs h ops = of_wrong (elements_of (map v xs))
  call_right (Some (Function f)) has xs h ops =
      of_typed f.kind (arguments_fit f.params (map t xs)) (elements_of (map v xs)) (λ n. and_then (in_order (at_kinds f.params (map v xs) n)) f.gives)
      (λ n fit read. called_kind f.params f.kind (in_order (at_kinds f.params (map v xs) n)) f.gives (arguments_right f.params xs h ops n fit read) has)

  -- an element stands behind those of its index
  own_element : (b : Bool) (name : List ℕ) (x : Valuation) (n : ℕ) → AreElementsOf env (element_arrays b name x) rs n → IsElementOf (bound_to env name) (rs.outcome (n + inside b (count x)))
  own_element true name x n h = (back x.elements (name ∷ []) n h).0
  own_element false name x n h =
      let same : n ≡ n + 0 = omega arith in
      subst (λ m. IsElementOf (bound_to env name) (rs.outcome m)) same h.0

  element_right : (name : List ℕ) (o : Option Bound) → bound_to env name ≡ o → (x : Valuation)
      → GivesKinds (element_typing elements (option_map (λ a. a.0) (option_and_then as_array (option_map meaning_of_bound o)))) (element_valuation rs name o x)
  element_right name None is x = of_wrong (element_arrays rs.indices name x)
  element_right name (Some (Local k outcome)) is x = of_wrong (element_arrays rs.indices name x)
  element_right name (Some (Function f)) is x = of_wrong (element_arrays rs.indices name x)
  element_right name (Some (Array k)) is x =
      of_typed k elements (element_arrays rs.indices name x) (λ n. rs.outcome (n + inside rs.indices (count x)))
      (λ n may read. subst (λ o. IsElementOf o (rs.outcome (n + inside rs.indices (count x)))) is (own_element rs.indices name x n (read may)))

  -- the kind that the rules see is that of the value
  own : (x : Expr) → (t x).own ≡ (v x).own
  own x = (same elements env rs x).own

  convert_right : (to : Kind) (x : Expr) → GivesKinds (t x) (v x)
      → GivesKinds (typed to ((t x).fits (unwrap_or (t x).own to))) (of_kind to (v x).elements (λ n. and_then ((v x).value (unwrap_or (v x).own to) n) (converted to)))
  convert_right to x h =
      of_typed to ((t x).fits (unwrap_or (t x).own to)) (v x).elements (λ n. and_then ((v x).value (unwrap_or (v x).own to) n) (converted to))
      (λ n fit read.
      let from = unwrap_or (v x).own to in
      let fits : IsTrue ((t x).fits from) = subst (λ o. IsTrue ((t x).fits (unwrap_or o to))) (own x) fit in
      then_kind from to ((v x).value from n) (converted to) (h from n fits read) (converted_kind to from))

  minus_right : (a : Typing) (x : Valuation) (l : Option ℤ) → GivesKinds a x → GivesKinds (minus_typing a l) (minus_valuation x l)
  minus_right a x None h =
      of_typed kinds.I64 (a.fits kinds.I64) x.elements (λ n. and_then (x.value kinds.I64 n) negated)
      (λ n fit read. then_kind kinds.I64 kinds.I64 (x.value kinds.I64 n) negated (h kinds.I64 n fit read) negated_kind)
  minus_right a x (Some z) h = λ kind n fit read. literal_kind kind (neg_ℤ z) fit

  compare_right : (op : ScalarOp) (x y : Expr) → is_comparison op ≡ true → GivesKinds (t x) (v x) → GivesKinds (t y) (v y)
      → GivesKinds (typed kinds.Bool (rules.sides_right op (t x) (t y) (rules.sides_kind (t x) (t y)))) (compare_valuation op (v x) (v y) (sides_kind (v x) (v y)))
  compare_right op x y is h g =
      let k = sides_kind (v x) (v y) in
      of_typed kinds.Bool (rules.sides_right op (t x) (t y) (rules.sides_kind (t x) (t y))) ((v x).elements ++ (v y).elements) (λ n. from_left ((v x).value k n) ((op, (v y).value k (n + count (v x))) ∷ []))
      (λ n fit read.
      let fits : IsTrue (rules.sides_right op (t x) (t y) k) = subst (λ (o : Option Kind × Option Kind). IsTrue (rules.sides_right op (t x) (t y) (unwrap_or (option_or o.0 o.1) kinds.U64))) (λ i. (own x i, own y i)) fit in
      let first = and_left (compares op k && (t x).fits k) ((t y).fits k) fits in
      compared_kind k op ((v x).value k n) ((v y).value k (n + count (v x))) is
      (h k n (and_right (compares op k) ((t x).fits k) first) (λ r. front (v x).elements (v y).elements n (read r)))
      (g k (n + count (v x)) (and_right (compares op k && (t x).fits k) ((t y).fits k) fits) (λ r. back (v x).elements (v y).elements n (read r))))

  if_right : (x y z : Expr) → GivesKinds (t x) (v x) → GivesKinds (t y) (v y) → GivesKinds (t z) (v z)
      → GivesKinds (typing_step elements scope (Expr-F.If (t x) (t y) (t z))) (if_valuation (v x) (v y) (v z))
  if_right x y z h hy hz = λ kind n fit read.
      let first = and_left ((t x).fits kinds.Bool && (t y).fits kind) ((t z).fits kind) fit in
      choice_kind kind ((v x).value kinds.Bool n) ((v y).value kind (n + count (v x))) ((v z).value kind (n + count (v x) + count (v y)))
      (h kinds.Bool n (and_left ((t x).fits kinds.Bool) ((t y).fits kind) first) (λ r. front (v x).elements ((v y).elements ++ (v z).elements) n (read r)))
      (hy kind (n + count (v x)) (and_right ((t x).fits kinds.Bool) ((t y).fits kind) first) (λ r. front (v y).elements (v z).elements (n + count (v x)) (back (v x).elements ((v y).elements ++ (v z).elements) n (read r))))
      (hz kind (n + count (v x) + count (v y)) (and_right ((t x).fits kinds.Bool && (t y).fits kind) ((t z).fits kind) fit)
      (λ r. back (v y).elements (v z).elements (n + count (v x)) (back (v x).elements ((v y).elements ++ (v z).elements) n (read r))))

  chain_form : (x : Expr) (parts : List ChainPart) → GivesKinds (t x) (v x) → AllParts IsRight parts → IsTrue (list_all (λ right. right) (map part_right parts))
      → GivesKinds (rules.chain_typing (t x ∷ tp parts)) (chain_valuation (v x) (vp parts))
  chain_form x parts h hs ops = λ kind n fit read.
      let number = and_left (is_number kind) (each_fits kind (t x ∷ tp parts)) fit in
      let all = and_right (is_number kind) (each_fits kind (t x ∷ tp parts)) fit in
      chain_right kind number parts hs ops ((v x).value kind n) (n + count (v x))
      (h kind n (and_left ((t x).fits kind) (each_fits kind (tp parts)) all) (λ r. front (v x).elements (elements_of (operands (vp parts))) n (read r)))
      (and_right ((t x).fits kind) (each_fits kind (tp parts)) all)
      (λ r. back (v x).elements (elements_of (operands (vp parts))) n (read r))

  forms : Forms IsRight
  forms = record {
    Number = λ n ops. gives_by _ _ _ _ (typing-Number elements scope n) (valued-Number env rs n) (λ kind m fit read. literal_kind kind (pos n) fit);
    True = λ ops. gives_by _ _ _ _ (typing-True elements scope) (valued-True env rs) (of_typed kinds.Bool true [] (λ n. Ok (values.Bool true)) (λ n fit read. tt));
    False = λ ops. gives_by _ _ _ _ (typing-False elements scope) (valued-False env rs) (of_typed kinds.Bool true [] (λ n. Ok (values.Bool false)) (λ n fit read. tt));
    Name = λ name ops.
        gives_by _ _ _ _ (typing-Name elements scope name ∙ ap name_typing (meaning_is env name)) (valued-Name env rs name) (name_right (bound_to env name) (bound_has env name known));
    Call = λ name xs h ops.
        gives_by _ _ _ _ (typing-Call elements scope name xs ∙ ap (λ m. call_typing (option_and_then as_function m) (map t xs)) (meaning_is env name)) (valued-Call env rs name xs)
        (call_right (bound_to env name) (bound_has env name known) xs h (sym (right-Call name xs) ∙ ops));
    Element = λ name x h ops.
        gives_by _ _ _ _ (typing-Element elements scope name x ∙ ap (λ m. element_typing elements (option_map (λ a. a.0) (option_and_then as_array m))) (meaning_is env name)) (valued-Element env rs name x)
        (element_right name (bound_to env name) refl (v x));
    Convert = λ to x h ops. gives_by _ _ _ _ (typing-Convert elements scope to x) (valued-Convert env rs to x) (convert_right to x (h (sym (right-Convert to x) ∙ ops)));
    Throw = λ n ops. gives_by _ _ _ _ (typing-Throw elements scope n) (valued-Throw env rs n) (λ kind m fit read. tt);
    Paren = λ x h ops. gives_by _ _ _ _ (typing-Paren elements scope x) (valued-Paren env rs x) (λ kind n fit read. h (sym (right-Paren x) ∙ ops) kind n fit read);
    Minus = λ x h ops.
        gives_by _ _ _ _ (typing-Minus elements scope x ∙ ap (minus_typing (t x)) (same elements env rs x).literal) (valued-Minus env rs x)
        (minus_right (t x) (v x) (v x).literal (h (sym (right-Minus x) ∙ ops)));
    Not = λ x h ops.
        gives_by _ _ _ _ (typing-Not elements scope x) (valued-Not env rs x)
        (of_typed kinds.Bool ((t x).fits kinds.Bool) (v x).elements (λ n. and_then ((v x).value kinds.Bool n) (λ value. Ok (inverted value)))
        (λ n fit read. then_kind kinds.Bool kinds.Bool ((v x).value kinds.Bool n) (λ value. Ok (inverted value)) (h (sym (right-Not x) ∙ ops) kinds.Bool n fit read) inverted_kind));
    Chain = λ x parts h hs ops.
        let all = sym (right-Chain x parts) ∙ ops in
        let others = list_all (λ (right : Bool). right) (map part_right parts) in
        gives_by _ _ _ _ (typing-Chain elements scope x parts) (valued-Chain env rs x parts)
        (chain_form x parts (h (and_left (operators_right x) others all)) hs (and_right (operators_right x) others all));
    Compare = λ op x y h hs ops.
        let all = sym (right-Compare op x y) ∙ ops in
        let rest = and_right (is_comparison op) (operators_right x && operators_right y) all in
        gives_by _ _ _ _ (typing-Compare elements scope op x y) (valued-Compare env rs op x y)
        (compare_right op x y (and_left (is_comparison op) (operators_right x && operators_right y) all) (h (and_left (operators_right x) (operators_right y) rest)) (hs (and_right (operators_right x) (operators_right y) rest)));
    All = λ xs h ops.
        gives_by _ _ _ _ (typing-All elements scope xs) (valued-All env rs xs)
        (of_typed kinds.Bool (each_fits kinds.Bool (map t xs)) (elements_of (map v xs)) (λ n. all_of (truths (map v xs) n))
        (λ n fit read. all_kind (truths (map v xs) n) (truths_right xs h (sym (right-All xs) ∙ ops) n fit read)));
    Any = λ xs h ops.
        gives_by _ _ _ _ (typing-Any elements scope xs) (valued-Any env rs xs)
        (of_typed kinds.Bool (each_fits kinds.Bool (map t xs)) (elements_of (map v xs)) (λ n. any_of (truths (map v xs) n))
        (λ n fit read. any_kind (truths (map v xs) n) (truths_right xs h (sym (right-Any xs) ∙ ops) n fit read)));
    If = λ x y z h hy hz ops.
        let all = sym (right-If x y z) ∙ ops in
        let rest = and_right (operators_right x) (operators_right y && operators_right z) all in
        gives_by _ _ _ _ (typing-If elements scope x y z) (valued-If env rs x y z)
        (if_right x y z (h (and_left (operators_right x) (operators_right y && operators_right z) all)) (hy (and_left (operators_right y) (operators_right z) rest)) (hz (and_right (operators_right y) (operators_right z) rest)));
  }

  pub gives_kind : (x : Expr) → IsTrue (operators_right x) → (kind : Kind) (n : ℕ) → IsTrue ((typing elements (scope_of_names env) x).fits kind) → (IsTrue elements → AreElementsOf env (valuation env rs x).elements rs n)
      → GivesKind kind ((valuation env rs x).value kind n)
  gives_kind = every IsRight forms
