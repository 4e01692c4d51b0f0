-- The printed texts: the line of each answer, of a script that is accepted, and of a refusal.
use Rattle.std.specs.Prelude.{ℕ, ◌+◌, true, false, Option, Some, None, List, [], ◌∷◌, ◌++◌, codes, decimal}
use Rattle.std.specs.List.{flat_map}
use Rattle.pts_run.specs.declared.refusal.Conflict.{Conflict}
use Rattle.pts_run.specs.declared.refusal.Refusal.{Refusal}
use Rattle.pts_run.specs.declared.refusal.Refusal.TheVariants as refusals
use Rattle.std.specs.Fmt.{signed_decimal}
use Rattle.pts_types.specs.declared.value.Value.{Value}
use Rattle.pts_types.specs.declared.value.Value.TheVariants as values
use Rattle.pts_syntax.specs.KindNames.{kind_name}
use Rattle.pts_program.specs.RuleNames.{item_of, position_of, rule_name}
use Rattle.pts_lowering.specs.declared.forms.CellRange.{CellRange}
use Rattle.pts_lowering.specs.declared.forms.LoweredCall.{LoweredCall}
use Rattle.pts_lowering.specs.declared.forms.LoweredCall.TheVariants as lowered
use Rattle.pts_lowering.specs.declared.forms.ScanOrder.{ScanOrder}
use Rattle.pts_lowering.specs.declared.forms.ScanOrder.TheVariants as orders
use Rattle.pts_eval.specs.declared.results.CallResult.{CallResult}
use Rattle.pts_eval.specs.declared.results.CallResult.TheVariants as results
use Rattle.pts_eval.specs.Runs.{Answer, Called, Printed, Terminated}

abbrev pub line_feed : List ℕ
line_feed = 10 ∷ []

-- a number in decimal, a negative one with `-`, or a word
abbrev pub value_text : Value → List ℕ
value_text (values.I64 z) = signed_decimal z
value_text (values.U64 n) = decimal n
value_text (values.Bool true) = codes "true"
value_text (values.Bool false) = codes "false"

-- each value behind a space
abbrev pub spaced : List Value → List ℕ
spaced cells = flat_map (λ cell. codes " " ++ value_text cell) cells

-- the first word of a reduction: one of two ranges, or of what a function makes of the elements, has a word of its own
abbrev pub reduction_word : Option CellRange → Option ℕ → List ℕ
reduction_word None None = codes "reduce"
reduction_word second transform = codes "transform_reduce"

abbrev pub scan_word : ScanOrder → Option ℕ → List ℕ
scan_word orders.Inclusive None = codes "inclusive_scan"
scan_word orders.Inclusive (Some function) = codes "transform_inclusive_scan"
scan_word orders.Exclusive None = codes "exclusive_scan"
scan_word orders.Exclusive (Some function) = codes "transform_exclusive_scan"

-- the first word of a call
abbrev pub call_word : LoweredCall → List ℕ
call_word (lowered.ForEach x) = codes "for_each"
call_word (lowered.Transform x) = codes "transform"
call_word (lowered.FindIf x) = codes "find_if"
call_word (lowered.CountIf x) = codes "count_if"
call_word (lowered.Reduce x) = reduction_word x.second x.transform
call_word (lowered.Scan x) = scan_word x.order x.transform
call_word (lowered.Loop x) = codes "for_loop"

-- what a line says behind the word
abbrev pub result_text : CallResult → List ℕ
result_text results.Done = []
result_text (results.Value value) = codes " " ++ value_text value
result_text (results.Position (Some place)) = codes " " ++ decimal place
result_text (results.Position None) = codes " end"

-- the line of a statement, which is named by its number among the statements from 1 on
abbrev pub line_of : ℕ → Answer → List ℕ
line_of number (Called call result) = decimal number ++ codes ": " ++ call_word call ++ result_text result ++ line_feed
line_of number (Printed name cells) = decimal number ++ codes ": print " ++ name ++ spaced cells ++ line_feed
line_of number Terminated = decimal number ++ codes ": terminated" ++ line_feed

-- the lines of answers, of which the first has this number
abbrev pub lines_from : ℕ → List Answer → List ℕ
lines_from number [] = []
lines_from number (a ∷ rest) = line_of number a ++ lines_from (number + 1) rest

abbrev pub text_of : List Answer → List ℕ
text_of answers = lines_from 1 answers

-- the line of a script that is accepted
abbrev pub accepted_line : List ℕ
accepted_line = codes "accepted" ++ line_feed

-- a position behind the item, where there is one
abbrev pub at_position : Option ℕ → List ℕ
at_position None = []
at_position (Some position) = codes " position " ++ decimal position

-- the cell of an array
unfoldable pub cell_text : List ℕ → ℕ → List ℕ
cell_text array index = codes " cell " ++ array ++ codes "[" ++ decimal index ++ codes "]"

-- an evaluation: its position and its point
unfoldable pub evaluation : ℕ → ℕ → List ℕ
evaluation position point = codes " position " ++ decimal position ++ codes " point " ++ decimal point

-- the cell of a conflict, and its evaluations
unfoldable pub place_text : Conflict → List ℕ
place_text x = cell_text x.array x.pair.cell ++ evaluation x.pair.p x.pair.k ++ evaluation x.pair.q x.pair.m ++ line_feed

-- the line of a refusal
abbrev pub refusal_line : Refusal → List ℕ
refusal_line refusals.TooLong = codes "refused too_long" ++ line_feed
refusal_line (refusals.Syntax fault) = codes "refused " ++ kind_name fault.kind ++ codes " at " ++ decimal fault.at ++ line_feed
refusal_line (refusals.Build fault) = codes "refused " ++ rule_name fault ++ codes " item " ++ decimal (item_of fault) ++ at_position (position_of fault) ++ line_feed
refusal_line (refusals.Later item) = codes "refused later item " ++ decimal item ++ line_feed
refusal_line (refusals.Conflict x) = codes "refused conflict item " ++ decimal x.pair.item ++ place_text x
