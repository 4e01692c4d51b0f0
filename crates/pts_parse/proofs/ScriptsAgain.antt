-- Declarations, items and scripts: each is read back from what it spells.
use Rattle.std.proofs.Common.{◌≡◌, ℕ, ◌⊎◌, inl, inr, true, false, ◌&&◌, List, [], ◌∷◌, Result, Ok, Err, refl, sym, subst, arith, true≢false}
use Rattle.std.specs.Prelude.{◌==◌}
use Rattle.std.specs.List.{list_all}
use Rattle.std.proofs.lemmas.Bool.{eqb-true}
use Rattle.pts_types.specs.declared.value.Kind.{Kind}
use Rattle.pts_tree.specs.declared.mark.Mark.TheVariants as m
use Rattle.pts_tree.specs.declared.sign.SignKind.TheVariants as k
use Rattle.pts_tree.specs.Marks.{place}
use Rattle.pts_tree.specs.Signs.{Sign, Mark, Name, Number}
use Rattle.pts_tree.specs.declared.sum.Val.{Val}
use Rattle.pts_tree.specs.declared.call.CallForm.{CallForm}
use Rattle.pts_tree.specs.declared.call.CallForm.TheVariants as forms
use Rattle.pts_tree.specs.declared.block.Block.{Block}
use Rattle.pts_tree.specs.declared.script.ConstDecl.{ConstDecl}
use Rattle.pts_tree.specs.declared.script.ArrayDecl.{ArrayDecl}
use Rattle.pts_tree.specs.declared.script.FunctionDecl.{FunctionDecl}
use Rattle.pts_tree.specs.declared.script.Param.{Param}
use Rattle.pts_tree.specs.declared.script.Start.{Start}
use Rattle.pts_tree.specs.declared.script.Start.TheVariants as starts
use Rattle.pts_tree.specs.declared.script.Item.{Item}
use Rattle.pts_tree.specs.declared.script.Item.TheVariants as items
use Rattle.pts_tree.specs.declared.script.Script.{Script}
use Rattle.pts_tree.specs.Spelling as spelling
use Rattle.pts_tree.specs.Spelling.{each, is_filled, call_allowed}
use Rattle.pts_tree.specs.Expressions.{expr_allowed}
use Rattle.pts_tree.specs.Statements as stated
use Rattle.pts_tree.specs.Statements.{loop_allowed, whole_block}
use Rattle.pts_tree.specs.Scripts as scripts
use Rattle.pts_tree.specs.Scripts.{Spells, start_allowed, item_allowed, script_allowed}
use Rattle.pts_tree.proofs.Tasks.{block_text}
use Rattle.pts_parse.specs.declared.reader.Stop.{Stop}
use Rattle.pts_parse.specs.declared.reader.Stop.TheVariants as stops
use Rattle.pts_parse.specs.Reading.{Parser, ◌>>=◌, ahead, past}
use Rattle.pts_parse.specs.SumReading.{goes_on}
use Rattle.pts_parse.specs.CallReading.{call}
use Rattle.pts_parse.specs.ExprReading.{sees_comma}
use Rattle.pts_parse.specs.BlockReading.{sees_call}
use Rattle.pts_parse.specs.ScriptReading.{const_decl, next_val, next_vals, vals, iota, start, start_part, array_decl, param, next_param, next_params, params, signature, result_kind, function_decl, print, item, sees_item, item_list, version, header, finish, script}
use Rattle.pts_parse.proofs.KindFacts.{and_both}
use Rattle.pts_parse.proofs.Again.{Gets, got, nested, done, next, behind_sign, expect_again, open_again, name_again, each_so, each_passed, Anything, Repeats, each_again}
use Rattle.pts_parse.proofs.SumsAgain.{sum_again, val_again, index_again, kind_again, typed_again}
use Rattle.pts_parse.proofs.CallsAgain.{call_again}
use Rattle.pts_parse.proofs.LoopsAgain.{value_again, loop_again}
use Rattle.pts_parse.proofs.BlocksAgain.{block_again}

-- ---- declarations, behind their word

const_again : (x : ConstDecl) (tail : List Sign) → Gets 1 (past (scripts.const_decl x tail)) tail (items.Const x, tail) (const_decl (past (scripts.const_decl x tail)))
unfolding const_decl goes_on
const_again x tail = next _ (name_again x.name _) (next _ (expect_again m.Equal _) (next _ (sum_again x.value _ refl) (next _ (expect_again m.Semicolon tail) done)))

-- a comma and a value, where no part of a sum follows
val_repeats : (x : Val) → Repeats sees_comma (λ ts. goes_on (ahead ts) ≡ false) next_val scripts.next_val x
unfolding sees_comma next_val goes_on place
val_repeats x = record { seen = λ ts. refl; ends = λ ts. refl; back = λ ts l. next _ (expect_again m.Comma _) (val_again x ts l) }

-- what stands behind a value of a list goes on with no sum
val_ends : (xs : List Val) (ts : List Sign) → goes_on (ahead (each scripts.next_val xs (Mark m.Semicolon ∷ ts))) ≡ false
unfolding goes_on
val_ends [] ts = refl
val_ends (x ∷ xs) ts = refl

vals_again : (xs : List Val) → is_filled xs ≡ true → (ts : List Sign)
    → Gets 1 (scripts.vals xs (Mark m.Semicolon ∷ ts)) (Mark m.Semicolon ∷ ts) (xs, Mark m.Semicolon ∷ ts) (vals (scripts.vals xs (Mark m.Semicolon ∷ ts)))
unfolding vals next_vals sees_comma goes_on place
vals_again [] a ts = absurd (true≢false (sym a))
vals_again (x ∷ xs) a ts =
    next _ (val_again x _ (val_ends xs ts))
    (next _ (each_again (λ us. goes_on (ahead us) ≡ false) (each_so (λ y. val_repeats y) xs) refl (Mark m.Semicolon ∷ ts) refl refl) done)

start_again : (x : Start) → start_allowed x ≡ true → (ts : List Sign) → Gets 1 (scripts.start x (Mark m.Semicolon ∷ ts)) (Mark m.Semicolon ∷ ts) (x, Mark m.Semicolon ∷ ts) (start (scripts.start x (Mark m.Semicolon ∷ ts)))
unfolding start iota goes_on
start_again (starts.List xs) a ts = behind_sign (next _ (vals_again xs a ts) done)
start_again (starts.Fill x) a ts = behind_sign (next _ (val_again x _ refl) done)
start_again (starts.Iota x y) a ts = behind_sign (next _ (sum_again x _ refl) (next _ (expect_again m.Step _) (next _ (sum_again y _ refl) done)))
start_again (starts.Mix x) a ts = behind_sign (next _ (sum_again x _ refl) done)

start_part_again : (x : Start) → start_allowed x ≡ true → (tail : List Sign)
    → Gets 1 (Mark m.Equal ∷ scripts.start x (Mark m.Semicolon ∷ tail)) tail (x, tail) (start_part (Mark m.Equal ∷ scripts.start x (Mark m.Semicolon ∷ tail)))
unfolding start_part
start_part_again x a tail = next _ (expect_again m.Equal _) (next _ (start_again x a tail) (next _ (expect_again m.Semicolon tail) done))

array_again : (room : ℕ) (x : ArrayDecl) → start_allowed x.start ≡ true → (tail : List Sign) → Gets 1 (past (scripts.array_decl x tail)) tail (items.Array x, tail) (array_decl room (past (scripts.array_decl x tail)))
unfolding array_decl
array_again room x a tail = next _ (typed_again x.name x.kind _) (next _ (index_again room x.length _) (next _ (start_part_again x.start a tail) done))

param_again : (x : Param) (tail : List Sign) → Gets 1 (scripts.param x tail) tail (x, tail) (param (scripts.param x tail))
unfolding param
param_again x tail = next _ (typed_again x.name x.kind tail) done

param_repeats : (x : Param) → Repeats sees_comma Anything next_param scripts.next_param x
unfolding sees_comma next_param place
param_repeats x = record { seen = λ ts. refl; ends = λ ts. tt; back = λ ts l. next _ (expect_again m.Comma _) (param_again x ts) }

params_again : (xs : List Param) → is_filled xs ≡ true → (ts : List Sign)
    → Gets 1 (scripts.params xs (Mark m.CloseParen ∷ ts)) (Mark m.CloseParen ∷ ts) (xs, Mark m.CloseParen ∷ ts) (params (scripts.params xs (Mark m.CloseParen ∷ ts)))
unfolding params next_params sees_comma place
params_again [] a ts = absurd (true≢false (sym a))
params_again (x ∷ xs) a ts =
    next _ (param_again x _) (next _ (each_again Anything (each_so (λ y. param_repeats y) xs) refl (Mark m.CloseParen ∷ ts) refl tt) done)

signature_again : (room : ℕ) (text : List ℕ) (xs : List Param) → is_filled xs ≡ true → (ts : List Sign)
    → Gets 1 (Name text ∷ Mark m.OpenParen ∷ scripts.params xs (Mark m.CloseParen ∷ ts)) ts ((text, xs), ts) (signature room (Name text ∷ Mark m.OpenParen ∷ scripts.params xs (Mark m.CloseParen ∷ ts)))
unfolding signature
signature_again room text xs a ts = next _ (name_again text _) (open_again _ room m.OpenParen _ (λ less i. next _ (params_again xs a ts) (next _ (expect_again m.CloseParen ts) done)))

result_kind_again : (x : Kind) (ts : List Sign) → Gets 1 (Mark m.Arrow ∷ Mark (spelling.kind x) ∷ ts) ts (x, ts) (result_kind (Mark m.Arrow ∷ Mark (spelling.kind x) ∷ ts))
unfolding result_kind
result_kind_again x ts = next _ (expect_again m.Arrow _) (kind_again x ts)

function_again : (room : ℕ) (x : FunctionDecl) → is_filled x.params && expr_allowed x.body ≡ true → (tail : List Sign)
    → Gets 1 (past (scripts.function_decl x tail)) tail (items.Function x, tail) (function_decl room (past (scripts.function_decl x tail)))
unfolding function_decl
function_again room x a tail =
    let both = and_both (is_filled x.params) (expr_allowed x.body) a in
    next _ (signature_again room x.name x.params both.0 _) (next _ (result_kind_again x.kind _) (next _ (value_again m.Equal room x.body both.1 tail) done))

-- ---- items

print_again : (text : List ℕ) (tail : List Sign) → Gets 1 (Name text ∷ Mark m.Semicolon ∷ tail) tail (items.Print text, tail) (print (Name text ∷ Mark m.Semicolon ∷ tail))
unfolding print
print_again text tail = next _ (name_again text _) (next _ (expect_again m.Semicolon tail) done)

-- a call as an item
abbrev called : ℕ → Parser Item
called room ts = call room ts >>= λ x. Ok (items.Call x.0, x.1)

item_call : (form : CallForm) (room : ℕ) (ts : List Sign) → item room (Mark (spelling.form form) ∷ ts) ≡ called room (Mark (spelling.form form) ∷ ts)
unfolding item
item_call forms.ForEach room ts = refl
item_call forms.Transform room ts = refl
item_call forms.FindIf room ts = refl
item_call forms.CountIf room ts = refl
item_call forms.Reduce room ts = refl
item_call forms.TransformReduce room ts = refl
item_call forms.InclusiveScan room ts = refl
item_call forms.ExclusiveScan room ts = refl
item_call forms.TransformInclusiveScan room ts = refl
item_call forms.TransformExclusiveScan room ts = refl

-- the first sign of a block is its word
block_begins : (x : Block) (ts : List Sign) → stated.block x ts ≡ Mark m.TaskBlock ∷ past (stated.block x ts)
block_begins x ts = subst (λ (u : spelling.Text). u ts ≡ Mark m.TaskBlock ∷ past (u ts)) (sym (block_text x)) refl

item_again : (room : ℕ) (x : Item) → item_allowed x ≡ true → (tail : List Sign) → Gets 1 (scripts.item x tail) tail (x, tail) (item room (scripts.item x tail))
unfolding item
item_again room (items.Const x) a tail = behind_sign (const_again x tail)
item_again room (items.Array x) a tail = behind_sign (array_again room x a tail)
item_again room (items.Function x) a tail = behind_sign (function_again room x a tail)
item_again room (items.Call x) a tail = subst (λ o. Gets 1 (spelling.call x tail) tail (items.Call x, tail) o) (sym (item_call x.form room (past (spelling.call x tail)))) (next _ (call_again room x a tail) done)
item_again room (items.Loop x) a tail = behind_sign (next _ (loop_again room x a tail) done)
item_again room (items.Block x) a tail =
    subst (λ us. Gets 1 us tail (items.Block x, tail) (item room us)) (sym (block_begins x tail)) (behind_sign (next _ (block_again room x a tail) done))
item_again room (items.Print text) a tail = behind_sign (print_again text tail)

call_seen : (form : CallForm) → sees_item (k.Mark (spelling.form form)) ≡ true
unfolding sees_item sees_call
call_seen forms.ForEach = refl
call_seen forms.Transform = refl
call_seen forms.FindIf = refl
call_seen forms.CountIf = refl
call_seen forms.Reduce = refl
call_seen forms.TransformReduce = refl
call_seen forms.InclusiveScan = refl
call_seen forms.ExclusiveScan = refl
call_seen forms.TransformInclusiveScan = refl
call_seen forms.TransformExclusiveScan = refl

item_seen : (x : Item) (ts : List Sign) → sees_item (ahead (scripts.item x ts)) ≡ true
unfolding sees_item
item_seen (items.Const x) ts = refl
item_seen (items.Array x) ts = refl
item_seen (items.Function x) ts = refl
item_seen (items.Call x) ts = call_seen x.form
item_seen (items.Loop x) ts = refl
item_seen (items.Block x) ts = subst (λ us. sees_item (ahead us) ≡ true) (sym (block_begins x ts)) refl
item_seen (items.Print text) ts = refl

items_again : (room : ℕ) (xs : List Item) → list_all item_allowed xs ≡ true → Gets 0 (each scripts.item xs []) [] (xs, []) (item_list room (each scripts.item xs []))
unfolding item_list sees_item sees_call
items_again room xs a = each_again Anything (each_passed item_allowed (λ x b. record { seen = item_seen x; ends = λ ts. tt; back = λ ts l. item_again room x b ts }) xs a) refl [] refl tt

-- ---- scripts

version_again : (ts : List Sign) → Gets 1 (Number 1 ∷ ts) ts ts (version (Number 1 ∷ ts))
unfolding version
version_again ts = got (omega arith)

header_again : (ts : List Sign) → Gets 1 (scripts.header 1 ts) ts ts (header (scripts.header 1 ts))
unfolding header
header_again ts = next _ (expect_again m.Pts _) (next _ (version_again _) (expect_again m.Semicolon ts))

-- a script whose version is 1
script_of_items : (room : ℕ) (xs : List Item) → list_all item_allowed xs ≡ true
    → Gets 1 (scripts.script (record { version = 1; items = xs }) []) [] (record { version = 1; items = xs }) (script room (scripts.script (record { version = 1; items = xs }) []))
unfolding script finish
script_of_items room xs a = next _ (header_again _) (next _ (items_again room xs a) done)

whole_script : (room : ℕ) (x : Script) → script_allowed x ≡ true → Gets 1 (scripts.script x []) [] x (script room (scripts.script x []))
whole_script room x a =
    let both = and_both (x.version == 1) (list_all item_allowed x.items) a in
    let v : x.version ≡ 1 = eqb-true x.version 1 both.0 in
    subst (λ n. Gets 1 (scripts.script (record { version = n; items = x.items }) []) [] (record { version = n; items = x.items }) (script room (scripts.script (record { version = n; items = x.items }) []))) (sym v)
    (script_of_items room x.items both.1)

-- the script that signs spell is read from them, or a bracket among them is one too many
pub script_again : (room : ℕ) (ts : List Sign) (x : Script) → Spells ts x → (script room ts ≡ Ok x) ⊎ ((left : ℕ) × (script room ts ≡ Err (stops.Nesting left)))
script_again room ts x s = subst (λ us. (script room us ≡ Ok x) ⊎ ((left : ℕ) × (script room us ≡ Err (stops.Nesting left)))) (sym s.text) (by (script room (scripts.script x [])) (whole_script room x s.allowed))
  where
    by : (o : Result Script Stop) → Gets 1 (scripts.script x []) [] x o → (o ≡ Ok x) ⊎ ((left : ℕ) × (o ≡ Err (stops.Nesting left)))
    by _ (got l) = inl refl
    by _ (nested left) = inr (left, refl)
