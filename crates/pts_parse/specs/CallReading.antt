-- Reading calls of algorithms.
use Rattle.std.specs.Prelude.{ℕ, if◌then◌else◌, List, Option, Some, None, Ok}
use Rattle.pts_types.specs.declared.operation.Policy.{Policy}
use Rattle.pts_types.specs.declared.operation.Policy.TheVariants as policies
use Rattle.pts_types.specs.declared.operation.ScalarOp.TheVariants as ops
use Rattle.pts_tree.specs.declared.mark.Mark.TheVariants as m
use Rattle.pts_tree.specs.declared.sign.SignKind.{SignKind}
use Rattle.pts_tree.specs.declared.sign.SignKind.TheVariants as k
use Rattle.pts_tree.specs.Grammar.{same}
use Rattle.pts_tree.specs.declared.sum.Val.{Val}
use Rattle.pts_tree.specs.declared.sum.Range.{Range}
use Rattle.pts_tree.specs.declared.sum.Cell.{Cell}
use Rattle.pts_tree.specs.declared.call.Op.{Op}
use Rattle.pts_tree.specs.declared.call.Op.TheVariants as op_variants
use Rattle.pts_tree.specs.declared.call.CallForm.{CallForm}
use Rattle.pts_tree.specs.declared.call.CallForm.TheVariants as forms
use Rattle.pts_tree.specs.declared.call.Call.{Call}
use Rattle.pts_parse.specs.Reading.{Parser, ◌>>=◌, ahead, past, unexpected, expect, name}
use Rattle.pts_parse.specs.SumReading.{val, range, cell}

-- ---- parts of calls

-- "seq" | "par" | "par_unseq" | "unseq" | "vec"
abbrev pub policy_by : SignKind → Parser Policy
policy_by (k.Mark m.Seq) ts = Ok (policies.Seq, past ts)
policy_by (k.Mark m.Par) ts = Ok (policies.Par, past ts)
policy_by (k.Mark m.ParUnseq) ts = Ok (policies.ParUnseq, past ts)
policy_by (k.Mark m.Unseq) ts = Ok (policies.Unseq, past ts)
policy_by (k.Mark m.Vector) ts = Ok (policies.Vector, past ts)
policy_by _ ts = unexpected ts

unfoldable pub policy : Parser Policy
policy ts = policy_by (ahead ts) ts

-- a word of an operation | NAME
abbrev pub op_by : SignKind → Parser Op
op_by (k.Mark m.Plus) ts = Ok (op_variants.Table ops.Plus, past ts)
op_by (k.Mark m.Multiplies) ts = Ok (op_variants.Table ops.Multiplies, past ts)
op_by (k.Mark m.BitAnd) ts = Ok (op_variants.Table ops.BitAnd, past ts)
op_by (k.Mark m.BitOr) ts = Ok (op_variants.Table ops.BitOr, past ts)
op_by (k.Mark m.BitXor) ts = Ok (op_variants.Table ops.BitXor, past ts)
op_by (k.Mark m.Min) ts = Ok (op_variants.Table ops.Min, past ts)
op_by (k.Mark m.Max) ts = Ok (op_variants.Table ops.Max, past ts)
op_by k.Name ts = name ts >>= λ x. Ok (op_variants.Name x.0, x.1)
op_by _ ts = unexpected ts

unfoldable pub op : Parser Op
op ts = op_by (ahead ts) ts

-- optional("," range)
unfoldable pub second : ℕ → Parser (Option Range)
second room ts = if same (k.Mark m.Comma) (ahead ts) then (range room (past ts) >>= λ x. Ok (Some x.0, x.1)) else Ok (None, ts)

-- "->" range
unfoldable pub target : ℕ → Parser Range
target room ts = expect m.Arrow ts >>= λ r. range room r

-- "init" val
unfoldable pub init : Parser Val
init ts = expect m.Init ts >>= λ r. val r

-- optional("init" val)
unfoldable pub optional_init : Parser (Option Val)
optional_init ts = if same (k.Mark m.Init) (ahead ts) then (init ts >>= λ x. Ok (Some x.0, x.1)) else Ok (None, ts)

-- optional("into" cell)
unfoldable pub store : ℕ → Parser (Option Cell)
store room ts = if same (k.Mark m.Into) (ahead ts) then (cell room (past ts) >>= λ x. Ok (Some x.0, x.1)) else Ok (None, ts)

-- ---- calls, behind their word

-- policy range
unfoldable pub head : ℕ → Parser (Policy × Range)
head room ts = policy ts >>= λ p. range room p.1 >>= λ x. Ok ((p.0, x.0), x.1)

-- "init" val op
unfoldable pub start : Parser (Val × Op)
start ts = init ts >>= λ x. op x.1 >>= λ o. Ok ((x.0, o.0), o.1)

-- policy range optional("," range)
unfoldable pub sources : ℕ → Parser ((Policy × Range) × Option Range)
sources room ts = head room ts >>= λ h. second room h.1 >>= λ x. Ok ((h.0, x.0), x.1)

-- NAME ";"
unfoldable pub named_end : Parser (List ℕ)
named_end ts = name ts >>= λ f. expect m.Semicolon f.1 >>= λ r. Ok (f.0, r)

-- into ";"
unfoldable pub stored_end : ℕ → Parser (Option Cell)
stored_end room ts = store room ts >>= λ x. expect m.Semicolon x.1 >>= λ r. Ok (x.0, r)

-- policy range NAME ";"
unfoldable pub for_each : ℕ → Parser Call
for_each room ts =
    head room ts >>= λ h. named_end h.1 >>= λ f.
    Ok (record { form = forms.ForEach; policy = h.0.0; first = h.0.1; second = None; target = None; init = None; op = None; function = Some f.0; store = None }, f.1)

-- policy range optional("," range) "->" range NAME ";"
unfoldable pub transform : ℕ → Parser Call
transform room ts =
    sources room ts >>= λ h. target room h.1 >>= λ to. named_end to.1 >>= λ f.
    Ok (record { form = forms.Transform; policy = h.0.0.0; first = h.0.0.1; second = h.0.1; target = Some to.0; init = None; op = None; function = Some f.0; store = None }, f.1)

-- policy range NAME into ";"
unfoldable pub search : CallForm → ℕ → Parser Call
search form room ts =
    head room ts >>= λ h. name h.1 >>= λ f. stored_end room f.1 >>= λ into.
    Ok (record { form = form; policy = h.0.0; first = h.0.1; second = None; target = None; init = None; op = None; function = Some f.0; store = into.0 }, into.1)

-- policy range "init" val op into ";"
unfoldable pub reduce : ℕ → Parser Call
reduce room ts =
    head room ts >>= λ h. start h.1 >>= λ s. stored_end room s.1 >>= λ into.
    Ok (record { form = forms.Reduce; policy = h.0.0; first = h.0.1; second = None; target = None; init = Some s.0.0; op = Some s.0.1; function = None; store = into.0 }, into.1)

-- policy range optional("," range) "init" val op NAME into ";"
unfoldable pub transform_reduce : ℕ → Parser Call
transform_reduce room ts =
    sources room ts >>= λ h. start h.1 >>= λ s. name s.1 >>= λ f. stored_end room f.1 >>= λ into.
    Ok (record { form = forms.TransformReduce; policy = h.0.0.0; first = h.0.0.1; second = h.0.1; target = None; init = Some s.0.0; op = Some s.0.1; function = Some f.0; store = into.0 }, into.1)

-- an inclusive scan may have a start, an exclusive one has it
abbrev pub scan_init : CallForm → Parser (Option Val)
scan_init forms.InclusiveScan ts = optional_init ts
scan_init forms.TransformInclusiveScan ts = optional_init ts
scan_init _ ts = init ts >>= λ x. Ok (Some x.0, x.1)

-- a scan of transformed elements names the function
abbrev pub scan_function : CallForm → Parser (Option (List ℕ))
scan_function forms.TransformInclusiveScan ts = name ts >>= λ x. Ok (Some x.0, x.1)
scan_function forms.TransformExclusiveScan ts = name ts >>= λ x. Ok (Some x.0, x.1)
scan_function _ ts = Ok (None, ts)

-- policy range "->" range
unfoldable pub scan_ranges : ℕ → Parser ((Policy × Range) × Range)
scan_ranges room ts = head room ts >>= λ h. target room h.1 >>= λ x. Ok ((h.0, x.0), x.1)

-- op, a function, ";"
unfoldable pub scan_end : CallForm → Parser (Op × Option (List ℕ))
scan_end form ts = op ts >>= λ o. scan_function form o.1 >>= λ f. expect m.Semicolon f.1 >>= λ r. Ok ((o.0, f.0), r)

-- policy range "->" range, a start, op, a function, ";"
unfoldable pub scan : CallForm → ℕ → Parser Call
scan form room ts =
    scan_ranges room ts >>= λ h. scan_init form h.1 >>= λ from. scan_end form from.1 >>= λ o.
    Ok (record { form = form; policy = h.0.0.0; first = h.0.0.1; second = None; target = Some h.0.1; init = from.0; op = Some o.0.0; function = o.0.1; store = None }, o.1)

abbrev pub call_by : SignKind → ℕ → Parser Call
call_by (k.Mark m.ForEach) room ts = for_each room (past ts)
call_by (k.Mark m.Transform) room ts = transform room (past ts)
call_by (k.Mark m.FindIf) room ts = search forms.FindIf room (past ts)
call_by (k.Mark m.CountIf) room ts = search forms.CountIf room (past ts)
call_by (k.Mark m.Reduce) room ts = reduce room (past ts)
call_by (k.Mark m.TransformReduce) room ts = transform_reduce room (past ts)
call_by (k.Mark m.InclusiveScan) room ts = scan forms.InclusiveScan room (past ts)
call_by (k.Mark m.ExclusiveScan) room ts = scan forms.ExclusiveScan room (past ts)
call_by (k.Mark m.TransformInclusiveScan) room ts = scan forms.TransformInclusiveScan room (past ts)
call_by (k.Mark m.TransformExclusiveScan) room ts = scan forms.TransformExclusiveScan room (past ts)
call_by _ room ts = unexpected ts

unfoldable pub call : ℕ → Parser Call
call room ts = call_by (ahead ts) room ts
