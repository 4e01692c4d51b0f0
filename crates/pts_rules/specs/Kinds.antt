-- The kinds of expressions: which are bare, which kind the others have, and where each may stand.
use Rattle.std.specs.Option.{option_or}
use Rattle.std.specs.Prelude.{nat_le, Bool, true, false, ◌&&◌, unwrap_or, Option, Some, None, List, [], ◌∷◌, ℤ, pos, neg_ℤ}
use Rattle.std.specs.List.{list_all}
use Rattle.pts_types.specs.declared.value.Kind.{Kind}
use Rattle.pts_types.specs.declared.value.Kind.TheVariants as kinds
use Rattle.pts_types.specs.declared.operation.ScalarOp.{ScalarOp}
use Rattle.pts_types.specs.declared.operation.ScalarOp.TheVariants as ops
use Rattle.pts_tree.specs.declared.expr.Expr.{Expr}
use Rattle.pts_tree.specs.declared.expr.Expr.TheOpen.{Expr-F}
use Rattle.pts_tree.specs.declared.expr.Expr.TheFolds.{fold-Expr}
use Rattle.pts_rules.specs.declared.meaning.Meaning.{Meaning}
use Rattle.pts_rules.specs.declared.meaning.Meaning.TheVariants.{Constant, Value}
use Rattle.pts_rules.specs.declared.meaning.Signature.{Signature}
use Rattle.pts_rules.specs.Known.{Scope, meaning_of, function_of, kind_of_array, holds, same_kind, is_number}

-- an expression by its literal number (a NUMBER or a constant name alone), its own kind (none where it is bare), and the
-- kinds that its place may ask
pub record Typing : Type 0 where
  pub literal : Option ℤ
  pub own : Option Kind
  pub fits : Kind → Bool

-- a bare expression
abbrev pub bare : (Kind → Bool) → Typing
bare fits = record { literal = None; own = None; fits = fits }

-- an expression of this kind where the rest of it is right
abbrev pub typed : Kind → Bool → Typing
typed kind right = record { literal = None; own = Some kind; fits = λ asked. same_kind asked kind && right }

-- what fits nowhere
abbrev pub wrong : Typing
wrong = bare (λ asked. false)

-- a number by itself, which is held against the kind that is asked
abbrev pub literal_of : ℤ → Typing
literal_of z = record { literal = Some z; own = None; fits = λ asked. holds asked z }

-- a name in an expression is a constant or a local value
abbrev pub name_typing : Option Meaning → Typing
name_typing (Some (Constant z)) = literal_of z
name_typing (Some (Value kind)) = typed kind true
name_typing _ = wrong

-- `-` before a number or a constant name is one number; before anything else it takes and gives `i64`
abbrev pub minus_typing : Typing → Option ℤ → Typing
minus_typing x (Some z) = bare (λ asked. holds asked (neg_ℤ z))
minus_typing x None = typed kinds.I64 (x.fits kinds.I64)

-- the kind of the first that is not bare
abbrev pub first_kind : List Typing → Option Kind
first_kind [] = None
first_kind (x ∷ xs) = option_or x.own (first_kind xs)

-- each fits this kind
abbrev pub each_fits : Kind → List Typing → Bool
each_fits kind xs = list_all (λ x. x.fits kind) xs

-- a chain, bare where all its operands are; it is never of kind `bool`
abbrev pub chain_typing : List Typing → Typing
chain_typing xs = record { literal = None; own = first_kind xs; fits = λ asked. is_number asked && each_fits asked xs }

-- `==` and `!=` take any kind, the other comparisons numbers
abbrev pub compares : ScalarOp → Kind → Bool
compares ops.Equal kind = true
compares ops.NotEqual kind = true
compares op kind = is_number kind

-- the two sides of a comparison have one kind, `u64` where both are bare
abbrev pub sides_kind : Typing → Typing → Kind
sides_kind x y = unwrap_or (option_or x.own y.own) kinds.U64

abbrev pub sides_right : ScalarOp → Typing → Typing → Kind → Bool
sides_right op x y kind = compares op kind && x.fits kind && y.fits kind

-- the arguments agree with the parameters in number and kind
abbrev pub arguments_fit : List Kind → List Typing → Bool
arguments_fit [] [] = true
arguments_fit (kind ∷ kinds) (x ∷ xs) = x.fits kind && arguments_fit kinds xs
arguments_fit _ _ = false

-- a call of a function
abbrev pub call_typing : Option Signature → List Typing → Typing
call_typing None xs = wrong
call_typing (Some f) xs = typed f.kind (arguments_fit f.params xs)

-- an element of an array, where elements may be read; its index is not typed
abbrev pub element_typing : Bool → Option Kind → Typing
element_typing reads None = wrong
element_typing reads (Some kind) = typed kind reads

-- one case for each form of expression; `reads` says whether elements may be read at this place
abbrev pub typing_step : Bool → Scope → Expr-F Typing Typing → Typing
typing_step reads scope (Expr-F.Number n) = literal_of (pos n)
typing_step reads scope Expr-F.True = typed kinds.Bool true
typing_step reads scope Expr-F.False = typed kinds.Bool true
typing_step reads scope (Expr-F.Name name) = name_typing (meaning_of scope name)
typing_step reads scope (Expr-F.Call name xs) = call_typing (function_of scope name) xs
typing_step reads scope (Expr-F.Element name x) = element_typing reads (kind_of_array scope name)
typing_step reads scope (Expr-F.Convert to x) = typed to (x.fits (unwrap_or x.own to))
typing_step reads scope (Expr-F.Throw n) = bare (λ asked. nat_le n 999)
typing_step reads scope (Expr-F.Paren x) = record x { literal = None }
typing_step reads scope (Expr-F.Minus x) = minus_typing x x.literal
typing_step reads scope (Expr-F.Not x) = typed kinds.Bool (x.fits kinds.Bool)
typing_step reads scope (Expr-F.Chain x xs) = chain_typing (x ∷ xs)
typing_step reads scope (Expr-F.Compare op x y) = typed kinds.Bool (sides_right op x y (sides_kind x y))
typing_step reads scope (Expr-F.All xs) = typed kinds.Bool (each_fits kinds.Bool xs)
typing_step reads scope (Expr-F.Any xs) = typed kinds.Bool (each_fits kinds.Bool xs)
typing_step reads scope (Expr-F.If x y z) = record { literal = None; own = first_kind (y ∷ z ∷ []); fits = λ asked. x.fits kinds.Bool && y.fits asked && z.fits asked }

-- the kinds of an expression
unfoldable pub typing : Bool → Scope → Expr → Typing
typing reads scope = fold-Expr Typing Typing (typing_step reads scope) (λ part. part.operand)

-- the expression may stand where this kind is asked
abbrev pub fits : Bool → Scope → Kind → Expr → Bool
fits reads scope kind x = (typing reads scope x).fits kind

-- the kind of a `let`: its expression's own, or `u64` where that is bare
abbrev pub let_kind : Scope → Expr → Kind
let_kind scope x = unwrap_or (typing true scope x).own kinds.U64
