-- An index that is a line is the same line without constants.
use Rattle.std.proofs.Common.{◌≡◌, ◌⊎◌, inl, inr, ℕ, suc, Bool, true, false, if◌then◌else◌, Option, Some, None, List, [], ◌∷◌, fold, map, ℤ, pos, negsuc, refl, sym, ap, ◌∙◌, arith}
use Rattle.std.specs.Prelude.{◌&&◌, int_lt, is_some, neg_ℤ, unwrap_or}
use Rattle.std.specs.Str.{bytes_eq}
use Rattle.std.proofs.lemmas.Bool.{false≢true}
use Rattle.std.proofs.lemmas.Int.{ints}
use Rattle.std.proofs.lemmas.Option.{none-some}
use Rattle.pts_types.specs.declared.operation.ScalarOp.{ScalarOp}
use Rattle.pts_types.specs.declared.value.Kind.TheVariants as kinds
use Rattle.pts_tree.specs.declared.expr.ChainPart.{ChainPart}
use Rattle.pts_tree.specs.declared.expr.Expr.{Expr}
use Rattle.pts_tree.specs.declared.expr.Expr.TheVariants as e
use Rattle.pts_rules.specs.Indices.{Affine, Reading, affine_of, affine_reading, kept, minus_affine, name_reading, number_reading, next_affine, reading}
use Rattle.pts_rules.specs.Known.{Scope, constant_of, has, holds}
use Rattle.pts_rules.specs.Parts.{Name}
use Rattle.pts_rules.proofs.Readings.{link, reading-All, reading-Any, reading-Call, reading-Chain, reading-Compare, reading-Convert, reading-Element, reading-False, reading-If, reading-Minus, reading-Name, reading-Not, reading-Number, reading-Paren, reading-Throw, reading-True}
use Rattle.pts_constants.specs.Resolved.{constant_expr, minus_expr, named, number_expr, resolved_expr, resolved_part}
use Rattle.pts_constants.proofs.Resolutions as res
use Rattle.pts_code.proofs.Induction.{AllParts, Forms, every}

-- a factor and an offset that are kept are those that were given
kept_some : (f o : ℤ) (a : Affine) → kept f o ≡ Some a → a ≡ record { factor = f; offset = o }
kept_some f o a =
    elim (holds kinds.I64 f && holds kinds.I64 o) as (λ b. (if b then Some (record { factor = f; offset = o }) else None) ≡ Some a → a ≡ record { factor = f; offset = o }) [
      | true ↦ λ is. sym (ap (λ x. unwrap_or x a) is)
      | false ↦ λ is. absurd (none-some a is)
    ]

-- no natural number is below 0
pub not_below : (n : ℕ) → int_lt (pos n) (pos 0) ≡ false
not_below n = by_sign (int_lt (pos n) (pos 0)) refl
  where
    by_sign : (b : Bool) → int_lt (pos n) (pos 0) ≡ b → b ≡ false
    by_sign true h = absurd (grind (arith, ints, h))
    by_sign false h = refl

module _ (names : Scope) (index : Option Name) (free : (name : Name) → constant_of names name ≡ None) where
  abbrev plain : Expr → Reading
  plain = reading names index

  -- a number has factor 0, and itself for its offset
  number_line : (n : ℕ) → (plain (e.Number n)).affine ≡ kept (pos 0) (pos n)
  number_line n = ap (λ r. r.affine) (reading-Number names index n)

  opposite_line : (n : ℕ) → (plain (e.Minus (e.Number n))).affine ≡ kept (pos 0) (neg_ℤ (pos n))
  opposite_line n = ap (λ r. r.affine) (reading-Minus names index (e.Number n)) ∙ ap (λ r. minus_affine r.literal r.affine) (reading-Number names index n)

  pub number_affine : (z : ℤ) → (plain (number_expr z)).affine ≡ kept (pos 0) z
  number_affine (pos n) = ap (λ b. (plain (if b then e.Minus (e.Number n) else e.Number n)).affine) (not_below n) ∙ number_line n
  number_affine (negsuc n) = opposite_line (suc n)

  -- what has a number has its line
  abbrev IsItsNumber : Expr → Type 0
  IsItsNumber x = (z : ℤ) → (plain x).literal ≡ Some z → (plain x).affine ≡ kept (pos 0) z

  unread : (x : Expr) (a : Option Affine) → plain x ≡ affine_reading a → IsItsNumber x
  unread x a is z some = absurd (none-some z (sym (ap (λ r. r.literal) is) ∙ some))

  of_number : (c : Option ℤ) (z : ℤ) → (number_reading c).literal ≡ Some z → (number_reading c).affine ≡ kept (pos 0) z
  of_number None z is = absurd (none-some z is)
  of_number (Some y) z is = ap (kept (pos 0)) (ap (λ o. unwrap_or o y) is)

  of_name : (b : Bool) (c : Option ℤ) (z : ℤ) → (name_reading b c).literal ≡ Some z → (name_reading b c).affine ≡ kept (pos 0) z
  of_name true c z is = absurd (none-some z is)
  of_name false c z is = of_number c z is

  its_number : Forms IsItsNumber
  its_number = record {
    Number = λ n z is.
        ap (λ r. r.affine) (reading-Number names index n) ∙ of_number (Some (pos n)) z (sym (ap (λ r. r.literal) (reading-Number names index n)) ∙ is);
    True = unread e.True None (reading-True names index);
    False = unread e.False None (reading-False names index);
    Name = λ name z is.
        ap (λ r. r.affine) (reading-Name names index name)
        ∙ of_name (has (bytes_eq name) index) (constant_of names name) z (sym (ap (λ r. r.literal) (reading-Name names index name)) ∙ is);
    Call = λ name xs h. unread (e.Call name xs) None (reading-Call names index name xs);
    Element = λ name x h. unread (e.Element name x) None (reading-Element names index name x);
    Convert = λ to x h. unread (e.Convert to x) None (reading-Convert names index to x);
    Throw = λ n. unread (e.Throw n) None (reading-Throw names index n);
    Paren = λ x h. unread (e.Paren x) (plain x).affine (reading-Paren names index x);
    Minus = λ x h. unread (e.Minus x) (minus_affine (plain x).literal (plain x).affine) (reading-Minus names index x);
    Not = λ x h. unread (e.Not x) None (reading-Not names index x);
    Chain = λ x parts h hs. unread (e.Chain x parts) (fold next_affine (plain x).affine (map (link names index) parts)) (reading-Chain names index x parts);
    Compare = λ op x y h hs. unread (e.Compare op x y) None (reading-Compare names index op x y);
    All = λ xs h. unread (e.All xs) None (reading-All names index xs);
    Any = λ xs h. unread (e.Any xs) None (reading-Any names index xs);
    If = λ x y z h hs hss. unread (e.If x y z) None (reading-If names index x y z);
  }

  is_its_number : (x : Expr) → IsItsNumber x
  is_its_number = every IsItsNumber its_number

  module _ (scope : Scope) (mine : (name : Name) → has (bytes_eq name) index ≡ true → constant_of scope name ≡ None) where
    abbrev r : Expr → Expr
    r = resolved_expr scope

    abbrev d : Expr → Reading
    d = reading scope index

    record Keeps (x : Expr) : Type 0 where
      -- what has a number is a constant, or has it without constants too
      pub numbered : (z : ℤ) → (d x).literal ≡ Some z → (constant_expr scope x ≡ Some z) ⊎ ((constant_expr scope x ≡ None) × ((plain (r x)).literal ≡ Some z))
      pub bare : (d x).literal ≡ None → constant_expr scope x ≡ None
      pub affine : is_some (d x).affine ≡ true → (plain (r x)).affine ≡ (d x).affine

    -- what has no number, and is no constant
    whole : (x : Expr) (a : Option Affine) → d x ≡ affine_reading a → constant_expr scope x ≡ None → (is_some a ≡ true → (plain (r x)).affine ≡ a) → Keeps x
    whole x a is none h = record {
      numbered = λ z some. absurd (none-some z (sym (ap (λ y. y.literal) is) ∙ some));
      bare = λ l. none;
      affine = λ l. h (sym (ap (λ (y : Reading). is_some y.affine) is) ∙ l) ∙ sym (ap (λ y. y.affine) is);
    }

    neither : (x : Expr) → d x ≡ affine_reading None → constant_expr scope x ≡ None → Keeps x
    neither x is none = whole x None is none (λ l. absurd (false≢true l))

    -- ---- names

    name_keeps : (name : Name) (b : Bool) (c : Option ℤ) → has (bytes_eq name) index ≡ b → constant_of scope name ≡ c → Keeps (e.Name name)
    name_keeps name true c is known =
        let none = mine name is in
        whole (e.Name name) (kept (pos 1) (pos 0)) (reading-Name scope index name ∙ (λ i. name_reading (is i) (constant_of scope name))) (res.constant-Name scope name ∙ none)
        (λ l.
        ap (λ y. (plain y).affine) (res.resolved-Name scope name ∙ ap (λ o. (named name o).tree) none)
        ∙ ap (λ y. y.affine) (reading-Name names index name ∙ (λ i. name_reading (is i) (constant_of names name))))
    name_keeps name false (Some z) is known =
        let read : d (e.Name name) ≡ number_reading (Some z) = reading-Name scope index name ∙ (λ i. name_reading (is i) (known i)) in
        record {
          numbered = λ y some. inl (res.constant-Name scope name ∙ known ∙ sym (ap (λ x. x.literal) read) ∙ some);
          bare = λ l. absurd (none-some z (sym l ∙ ap (λ x. x.literal) read));
          affine = λ l.
              ap (λ y. (plain y).affine) (res.resolved-Name scope name ∙ ap (λ o. (named name o).tree) known)
              ∙ number_affine z ∙ sym (ap (λ y. y.affine) read);
        }
    name_keeps name false None is known =
        neither (e.Name name) (reading-Name scope index name ∙ (λ i. name_reading (is i) (known i))) (res.constant-Name scope name ∙ known)

    number_keeps : (n : ℕ) → Keeps (e.Number n)
    number_keeps n =
        let read : d (e.Number n) ≡ number_reading (Some (pos n)) = reading-Number scope index n in
        let same : plain (r (e.Number n)) ≡ number_reading (Some (pos n)) = ap plain (res.resolved-Number scope n) ∙ reading-Number names index n in
        record {
          numbered = λ z some. inr (res.constant-Number scope n, ap (λ y. y.literal) same ∙ sym (ap (λ y. y.literal) read) ∙ some);
          bare = λ l. res.constant-Number scope n;
          affine = λ l. ap (λ y. y.affine) same ∙ sym (ap (λ y. y.affine) read);
        }

    -- ---- `-`

    -- of a line without a number
    turned : (l : Option ℤ) (a : Option Affine) → ((z : ℤ) → l ≡ Some z → a ≡ kept (pos 0) z) → is_some (minus_affine None a) ≡ true → minus_affine l a ≡ minus_affine None a
    turned None a h some = refl
    turned (Some w) None h some = absurd (false≢true some)
    turned (Some w) (Some y) h some = ap (λ (z : Affine). kept (neg_ℤ z.factor) (neg_ℤ z.offset)) (sym (kept_some (pos 0) w y (sym (h w refl))))

    minus_line : (x : Expr) (l : Option ℤ) → (d x).literal ≡ l → Keeps x → is_some (minus_affine l (d x).affine) ≡ true → (plain (r (e.Minus x))).affine ≡ minus_affine l (d x).affine
    minus_line x (Some z) is known some = by_case (known.numbered z is)
      where
        by_case : (constant_expr scope x ≡ Some z) ⊎ ((constant_expr scope x ≡ None) × ((plain (r x)).literal ≡ Some z)) → (plain (r (e.Minus x))).affine ≡ kept (pos 0) (neg_ℤ z)
        by_case (inl constant) = ap (λ y. (plain y).affine) (res.resolved-Minus scope x ∙ ap (λ c. minus_expr c (r x)) constant) ∙ number_affine (neg_ℤ z)
        by_case (inr there) =
            ap (λ y. (plain y).affine) (res.resolved-Minus scope x ∙ ap (λ c. minus_expr c (r x)) there.0)
            ∙ ap (λ y. y.affine) (reading-Minus names index (r x)) ∙ ap (λ l. minus_affine l (plain (r x)).affine) there.1
    minus_line x None is known some =
        ap (λ y. (plain y).affine) (res.resolved-Minus scope x ∙ ap (λ c. minus_expr c (r x)) (known.bare is))
        ∙ ap (λ y. y.affine) (reading-Minus names index (r x))
        ∙ by_affine (d x).affine some known.affine
      where
        by_affine : (a : Option Affine) → is_some (minus_affine None a) ≡ true → (is_some a ≡ true → (plain (r x)).affine ≡ a)
            → minus_affine (plain (r x)).literal (plain (r x)).affine ≡ minus_affine None a
        by_affine None some h = absurd (false≢true some)
        by_affine (Some y) some h =
            ap (minus_affine (plain (r x)).literal) (h refl)
            ∙ turned (plain (r x)).literal (Some y) (λ z l. sym (h refl) ∙ is_its_number (r x) z l) some

    minus_keeps : (x : Expr) → Keeps x → Keeps (e.Minus x)
    minus_keeps x known =
        whole (e.Minus x) (minus_affine (d x).literal (d x).affine) (reading-Minus scope index x) (res.constant-Minus scope x)
        (λ some. minus_line x (d x).literal refl known some)

    -- ---- chains

    next_some : (o : Option Affine) (op : ScalarOp) (p : Option Affine) → is_some (next_affine o (op, p)) ≡ true → (is_some o ≡ true) × (is_some p ≡ true)
    next_some None op p h = absurd (false≢true h)
    next_some (Some y) op None h = absurd (false≢true h)
    next_some (Some y) op (Some z) h = (refl, refl)

    -- where a chain is a line, so is each of its operands, and the chain of what they are is the same
    record Chained (o : Option Affine) (parts : List ChainPart) : Type 0 where
      pub first : is_some o ≡ true
      pub same : fold next_affine o (map (link names index) (map (resolved_part scope) parts)) ≡ fold next_affine o (map (link scope index) parts)

    chained : (o : Option Affine) (parts : List ChainPart) → AllParts Keeps parts → is_some (fold next_affine o (map (link scope index) parts)) ≡ true → Chained o parts
    chained o [] known some = record { first = some; same = refl }
    chained o (p ∷ ps) known some =
        let next = next_affine o (p.op, (d p.operand).affine) in
        let rest = chained next ps known.1 some in
        let here = next_some o p.op (d p.operand).affine rest.first in
        record {
          first = here.0;
          same =
              ap (λ a. fold next_affine (next_affine o (p.op, a)) (map (link names index) (map (resolved_part scope) ps))) (known.0.affine here.1)
              ∙ rest.same;
        }

    chain_keeps : (x : Expr) (parts : List ChainPart) → Keeps x → AllParts Keeps parts → Keeps (e.Chain x parts)
    chain_keeps x parts known rest =
        whole (e.Chain x parts) (fold next_affine (d x).affine (map (link scope index) parts)) (reading-Chain scope index x parts) (res.constant-Chain scope x parts)
        (λ some.
        let all = chained (d x).affine parts rest some in
        ap (λ y. (plain y).affine) (res.resolved-Chain scope x parts)
        ∙ ap (λ y. y.affine) (reading-Chain names index (r x) (map (resolved_part scope) parts))
        ∙ ap (λ a. fold next_affine a (map (link names index) (map (resolved_part scope) parts))) (known.affine all.first)
        ∙ all.same)

    -- ---- all forms

    line_forms : Forms Keeps
    line_forms = record {
      Number = number_keeps;
      True = neither e.True (reading-True scope index) (res.constant-True scope);
      False = neither e.False (reading-False scope index) (res.constant-False scope);
      Name = λ name. name_keeps name (has (bytes_eq name) index) (constant_of scope name) refl refl;
      Call = λ name xs h. neither (e.Call name xs) (reading-Call scope index name xs) (res.constant-Call scope name xs);
      Element = λ name x h. neither (e.Element name x) (reading-Element scope index name x) (res.constant-Element scope name x);
      Convert = λ to x h. neither (e.Convert to x) (reading-Convert scope index to x) (res.constant-Convert scope to x);
      Throw = λ n. neither (e.Throw n) (reading-Throw scope index n) (res.constant-Throw scope n);
      Paren = λ x known.
          whole (e.Paren x) (d x).affine (reading-Paren scope index x) (res.constant-Paren scope x)
          (λ some. ap (λ y. (plain y).affine) (res.resolved-Paren scope x) ∙ ap (λ y. y.affine) (reading-Paren names index (r x)) ∙ known.affine some);
      Minus = minus_keeps;
      Not = λ x h. neither (e.Not x) (reading-Not scope index x) (res.constant-Not scope x);
      Chain = chain_keeps;
      Compare = λ op x y h hs. neither (e.Compare op x y) (reading-Compare scope index op x y) (res.constant-Compare scope op x y);
      All = λ xs h. neither (e.All xs) (reading-All scope index xs) (res.constant-All scope xs);
      Any = λ xs h. neither (e.Any xs) (reading-Any scope index xs) (res.constant-Any scope xs);
      If = λ x y z h hs hss. neither (e.If x y z) (reading-If scope index x y z) (res.constant-If scope x y z);
    }

    pub line_kept : (x : Expr) → is_some (affine_of scope index x) ≡ true → affine_of names index (r x) ≡ affine_of scope index x
    line_kept x some = (every Keeps line_forms x).affine some
