-- Which signs spell a part of a script, from the tree to the signs: each function takes the signs that follow the part.
use Rattle.std.specs.Prelude.{ℕ, Bool, true, false, ◌&&◌, is_some, is_none, Option, Some, None, List, [], ◌∷◌}
use Rattle.pts_types.specs.declared.value.Kind.{Kind}
use Rattle.pts_types.specs.declared.value.Kind.TheVariants as kinds
use Rattle.pts_types.specs.declared.operation.Policy.{Policy}
use Rattle.pts_types.specs.declared.operation.Policy.TheVariants as policies
use Rattle.pts_types.specs.declared.operation.ScalarOp.{ScalarOp}
use Rattle.pts_types.specs.declared.operation.ScalarOp.TheVariants as ops
use Rattle.pts_tree.specs.declared.mark.Mark as mark
use Rattle.pts_tree.specs.declared.mark.Mark.TheVariants as m
use Rattle.pts_tree.specs.Signs.{Sign, Mark, Name, Number}
use Rattle.pts_tree.specs.declared.sum.Atom.{Atom}
use Rattle.pts_tree.specs.declared.sum.Atom.TheVariants as atoms
use Rattle.pts_tree.specs.declared.sum.SumPart.{SumPart}
use Rattle.pts_tree.specs.declared.sum.Sum.{Sum}
use Rattle.pts_tree.specs.declared.sum.Val.{Val}
use Rattle.pts_tree.specs.declared.sum.Val.TheVariants as vals
use Rattle.pts_tree.specs.declared.sum.Range.{Range}
use Rattle.pts_tree.specs.declared.sum.Cell.{Cell}
use Rattle.pts_tree.specs.declared.call.Op.{Op}
use Rattle.pts_tree.specs.declared.call.Op.TheVariants as op_variants
use Rattle.pts_tree.specs.declared.call.CallForm.{CallForm}
use Rattle.pts_tree.specs.declared.call.CallForm.TheVariants as forms
use Rattle.pts_tree.specs.declared.call.Call.{Call}

-- ---- how parts are put together

-- what spells a part, before the signs that follow it
abbrev pub Text : Type 0
Text = List Sign → List Sign

-- all of them, one behind the other
abbrev pub each : {A : Type 0} → (A → Text) → List A → Text
each spell [] tail = tail
each spell (x ∷ xs) tail = spell x (each spell xs tail)

-- all of them, with a symbol between any two
abbrev pub separated : {A : Type 0} → mark.Mark → (A → Text) → List A → Text
separated between spell [] tail = tail
separated between spell (x ∷ xs) tail = spell x (each (λ y rest. Mark between ∷ spell y rest) xs tail)

-- a part that may be left out
abbrev pub optional : {A : Type 0} → (A → Text) → Option A → Text
optional spell None tail = tail
optional spell (Some x) tail = spell x tail

-- a word or symbol
abbrev pub word : mark.Mark → Text
word n tail = Mark n ∷ tail

-- NAME
abbrev pub name : List ℕ → Text
name text tail = Name text ∷ tail

-- NUMBER
abbrev pub number : ℕ → Text
number n tail = Number n ∷ tail

-- at least one
abbrev pub is_filled : {A : Type 0} → List A → Bool
is_filled [] = false
is_filled (x ∷ xs) = true

-- at least two
abbrev pub has_two : {A : Type 0} → List A → Bool
has_two [] = false
has_two (x ∷ xs) = is_filled xs

-- ---- sums and what they measure

-- `-`, where it is written
abbrev pub minus : Bool → Text
minus false tail = tail
minus true tail = Mark m.MinusSign ∷ tail

-- NUMBER | NAME
abbrev pub atom : Atom → Text
atom (atoms.Number n) tail = Number n ∷ tail
atom (atoms.Name text) tail = Name text ∷ tail

-- the operator of a part of a sum
abbrev pub sum_sign : Bool → mark.Mark
sum_sign false = m.PlusSign
sum_sign true = m.MinusSign

-- ("+" | "-") atom
abbrev pub sum_part : SumPart → Text
sum_part x tail = Mark (sum_sign x.minus) ∷ atom x.atom tail

-- optional "-" atom (("+" | "-") atom)*
abbrev pub sum : Sum → Text
sum x tail = minus x.negative (atom x.first (each sum_part x.rest tail))

-- sum | "true" | "false"
abbrev pub val : Val → Text
val (vals.Sum x) tail = sum x tail
val vals.True tail = Mark m.True ∷ tail
val vals.False tail = Mark m.False ∷ tail

-- NAME "[" sum ".." sum "]"
abbrev pub range : Range → Text
range x tail = Name x.array ∷ Mark m.OpenBracket ∷ sum x.low (Mark m.Range ∷ sum x.high (Mark m.CloseBracket ∷ tail))

-- NAME "[" sum "]"
abbrev pub cell : Cell → Text
cell x tail = Name x.array ∷ Mark m.OpenBracket ∷ sum x.index (Mark m.CloseBracket ∷ tail)

-- ---- kinds, policies and operations

-- "i64" | "u64" | "bool"
abbrev pub kind : Kind → mark.Mark
kind kinds.I64 = m.I64
kind kinds.U64 = m.U64
kind kinds.Bool = m.Bool

-- "seq" | "par" | "par_unseq" | "unseq" | "vec"
abbrev pub policy : Policy → mark.Mark
policy policies.Seq = m.Seq
policy policies.Par = m.Par
policy policies.ParUnseq = m.ParUnseq
policy policies.Unseq = m.Unseq
policy policies.Vector = m.Vector

-- the seven operations that have a word
abbrev pub op_mark : ScalarOp → Option mark.Mark
op_mark ops.Plus = Some m.Plus
op_mark ops.Multiplies = Some m.Multiplies
op_mark ops.BitAnd = Some m.BitAnd
op_mark ops.BitOr = Some m.BitOr
op_mark ops.BitXor = Some m.BitXor
op_mark ops.Min = Some m.Min
op_mark ops.Max = Some m.Max
op_mark _ = None

-- a word of an operation | NAME
abbrev pub op : Op → Text
op (op_variants.Table x) tail = optional word (op_mark x) tail
op (op_variants.Name text) tail = Name text ∷ tail

-- whether the grammar has this operation
abbrev pub op_allowed : Op → Bool
op_allowed (op_variants.Table x) = is_some (op_mark x)
op_allowed (op_variants.Name text) = true

-- ---- calls

-- the word of a call
abbrev pub form : CallForm → mark.Mark
form forms.ForEach = m.ForEach
form forms.Transform = m.Transform
form forms.FindIf = m.FindIf
form forms.CountIf = m.CountIf
form forms.Reduce = m.Reduce
form forms.TransformReduce = m.TransformReduce
form forms.InclusiveScan = m.InclusiveScan
form forms.ExclusiveScan = m.ExclusiveScan
form forms.TransformInclusiveScan = m.TransformInclusiveScan
form forms.TransformExclusiveScan = m.TransformExclusiveScan

-- "," range
abbrev pub second_range : Range → Text
second_range x tail = Mark m.Comma ∷ range x tail

-- "->" range
abbrev pub target_range : Range → Text
target_range x tail = Mark m.Arrow ∷ range x tail

-- "init" val
abbrev pub init_part : Val → Text
init_part x tail = Mark m.Init ∷ val x tail

-- "into" cell
abbrev pub into : Cell → Text
into x tail = Mark m.Into ∷ cell x tail

-- the parts of a call stand in one order, whichever of them its form has
abbrev pub call : Call → Text
call x tail =
    Mark (form x.form) ∷ Mark (policy x.policy) ∷ range x.first (optional second_range x.second (optional target_range x.target
    (optional init_part x.init (optional op x.op (optional name x.function (optional into x.store (Mark m.Semicolon ∷ tail)))))))

-- the parts besides the first range that each form has
abbrev pub has_parts : CallForm → Call → Bool
has_parts forms.ForEach x = is_none x.second && is_none x.target && is_none x.init && is_none x.op && is_some x.function && is_none x.store
has_parts forms.Transform x = is_some x.target && is_none x.init && is_none x.op && is_some x.function && is_none x.store
has_parts forms.FindIf x = is_none x.second && is_none x.target && is_none x.init && is_none x.op && is_some x.function
has_parts forms.CountIf x = is_none x.second && is_none x.target && is_none x.init && is_none x.op && is_some x.function
has_parts forms.Reduce x = is_none x.second && is_none x.target && is_some x.init && is_some x.op && is_none x.function
has_parts forms.TransformReduce x = is_none x.target && is_some x.init && is_some x.op && is_some x.function
has_parts forms.InclusiveScan x = is_none x.second && is_some x.target && is_some x.op && is_none x.function && is_none x.store
has_parts forms.ExclusiveScan x = is_none x.second && is_some x.target && is_some x.init && is_some x.op && is_none x.function && is_none x.store
has_parts forms.TransformInclusiveScan x = is_none x.second && is_some x.target && is_some x.op && is_some x.function && is_none x.store
has_parts forms.TransformExclusiveScan x = is_none x.second && is_some x.target && is_some x.init && is_some x.op && is_some x.function && is_none x.store

-- whether it holds of a part that is there
abbrev pub if_there : {A : Type 0} → (A → Bool) → Option A → Bool
if_there test None = true
if_there test (Some x) = test x

-- whether the grammar has this call
abbrev pub call_allowed : Call → Bool
call_allowed x = has_parts x.form x && if_there op_allowed x.op
