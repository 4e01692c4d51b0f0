-- Calls of algorithms: each is read back from what it spells.
use Rattle.std.proofs.Common.{◌≡◌, ℕ, Bool, true, false, List, ◌∷◌, Option, Some, None, refl, sym, arith, true≢false}
use Rattle.pts_types.specs.declared.operation.Policy.{Policy}
use Rattle.pts_types.specs.declared.operation.Policy.TheVariants as policies
use Rattle.pts_types.specs.declared.operation.ScalarOp.TheVariants as ops
use Rattle.pts_tree.specs.declared.mark.Mark.TheVariants as m
use Rattle.pts_tree.specs.declared.sign.SignKind.{SignKind}
use Rattle.pts_tree.specs.declared.sign.SignKind.TheVariants as k
use Rattle.pts_tree.specs.Marks.{place}
use Rattle.pts_tree.specs.Grammar.{same}
use Rattle.pts_tree.specs.Signs.{Sign, Mark, Name}
use Rattle.pts_tree.specs.declared.sum.Val.{Val}
use Rattle.pts_tree.specs.declared.sum.Range.{Range}
use Rattle.pts_tree.specs.declared.sum.Cell.{Cell}
use Rattle.pts_tree.specs.declared.call.Op.{Op}
use Rattle.pts_tree.specs.declared.call.Op.TheVariants as op_variants
use Rattle.pts_tree.specs.declared.call.CallForm.{CallForm}
use Rattle.pts_tree.specs.declared.call.CallForm.TheVariants as forms
use Rattle.pts_tree.specs.declared.call.Call.{Call}
use Rattle.pts_tree.specs.Spelling as spelling
use Rattle.pts_tree.specs.Spelling.{optional, op_allowed, call_allowed}
use Rattle.pts_parse.specs.Reading.{ahead}
use Rattle.pts_parse.specs.SumReading.{goes_on}
use Rattle.pts_parse.specs.CallReading.{policy, op, second, target, init, optional_init, store, head, start, sources, named_end, stored_end, for_each, transform, search, reduce, transform_reduce, scan_ranges, scan_end, scan, call}
use Rattle.pts_parse.proofs.KindFacts.{and_both}
use Rattle.pts_parse.proofs.Again.{Gets, got, done, next, behind_sign, at_all, otherwise, in_case, same_mark, expect_again, name_again}
use Rattle.pts_parse.proofs.SumsAgain.{val_again, range_again, cell_again}

-- ---- parts of calls

pub policy_again : (x : Policy) (tail : List Sign) → Gets 1 (Mark (spelling.policy x) ∷ tail) tail (x, tail) (policy (Mark (spelling.policy x) ∷ tail))
unfolding policy
policy_again policies.Seq tail = got (omega arith)
policy_again policies.Par tail = got (omega arith)
policy_again policies.ParUnseq tail = got (omega arith)
policy_again policies.Unseq tail = got (omega arith)
policy_again policies.Vector tail = got (omega arith)

pub op_again : (x : Op) → op_allowed x ≡ true → (tail : List Sign) → Gets 1 (spelling.op x tail) tail (x, tail) (op (spelling.op x tail))
unfolding op
op_again (op_variants.Table ops.Plus) a tail = got (omega arith)
op_again (op_variants.Table ops.Multiplies) a tail = got (omega arith)
op_again (op_variants.Table ops.BitAnd) a tail = got (omega arith)
op_again (op_variants.Table ops.BitOr) a tail = got (omega arith)
op_again (op_variants.Table ops.BitXor) a tail = got (omega arith)
op_again (op_variants.Table ops.Min) a tail = got (omega arith)
op_again (op_variants.Table ops.Max) a tail = got (omega arith)
op_again (op_variants.Table _) a tail = absurd (true≢false (sym a))
op_again (op_variants.Name text) a tail = next _ (name_again text tail) done

-- what is so of the kinds with which an operation begins
pub op_begins : (test : SignKind → Bool) → test (k.Mark m.Plus) ≡ false → test (k.Mark m.Multiplies) ≡ false → test (k.Mark m.BitAnd) ≡ false → test (k.Mark m.BitOr) ≡ false
    → test (k.Mark m.BitXor) ≡ false → test (k.Mark m.Min) ≡ false → test (k.Mark m.Max) ≡ false → test k.Name ≡ false
    → (x : Op) → op_allowed x ≡ true → (tail : List Sign) → test (ahead (spelling.op x tail)) ≡ false
op_begins test p q r s t u v w (op_variants.Table ops.Plus) a tail = p
op_begins test p q r s t u v w (op_variants.Table ops.Multiplies) a tail = q
op_begins test p q r s t u v w (op_variants.Table ops.BitAnd) a tail = r
op_begins test p q r s t u v w (op_variants.Table ops.BitOr) a tail = s
op_begins test p q r s t u v w (op_variants.Table ops.BitXor) a tail = t
op_begins test p q r s t u v w (op_variants.Table ops.Min) a tail = u
op_begins test p q r s t u v w (op_variants.Table ops.Max) a tail = v
op_begins test p q r s t u v w (op_variants.Table _) a tail = absurd (true≢false (sym a))
op_begins test p q r s t u v w (op_variants.Name text) a tail = w

second_again : (room : ℕ) (x : Option Range) (tail : List Sign) → same (k.Mark m.Comma) (ahead tail) ≡ false
    → Gets 0 (optional spelling.second_range x tail) tail (x, tail) (second room (optional spelling.second_range x tail))
unfolding second
second_again room None tail e = otherwise _ (same (k.Mark m.Comma) (ahead tail)) e done
second_again room (Some x) tail e = at_all (in_case _ (same (k.Mark m.Comma) (k.Mark m.Comma)) (same_mark m.Comma) (behind_sign (next _ (range_again room x tail) done)))

target_again : (room : ℕ) (x : Range) (tail : List Sign) → Gets 1 (spelling.target_range x tail) tail (x, tail) (target room (spelling.target_range x tail))
unfolding target
target_again room x tail = next _ (expect_again m.Arrow _) (range_again room x tail)

init_again : (x : Val) (tail : List Sign) → goes_on (ahead tail) ≡ false → Gets 1 (spelling.init_part x tail) tail (x, tail) (init (spelling.init_part x tail))
unfolding init
init_again x tail e = next _ (expect_again m.Init _) (val_again x tail e)

optional_init_again : (x : Option Val) (tail : List Sign) → same (k.Mark m.Init) (ahead tail) ≡ false → goes_on (ahead tail) ≡ false
    → Gets 0 (optional spelling.init_part x tail) tail (x, tail) (optional_init (optional spelling.init_part x tail))
unfolding optional_init
optional_init_again None tail e l = otherwise _ (same (k.Mark m.Init) (ahead tail)) e done
optional_init_again (Some x) tail e l = at_all (in_case _ (same (k.Mark m.Init) (k.Mark m.Init)) (same_mark m.Init) (next _ (init_again x tail l) done))

store_again : (room : ℕ) (x : Option Cell) (tail : List Sign) → same (k.Mark m.Into) (ahead tail) ≡ false
    → Gets 0 (optional spelling.into x tail) tail (x, tail) (store room (optional spelling.into x tail))
unfolding store
store_again room None tail e = otherwise _ (same (k.Mark m.Into) (ahead tail)) e done
store_again room (Some x) tail e = at_all (in_case _ (same (k.Mark m.Into) (k.Mark m.Into)) (same_mark m.Into) (behind_sign (next _ (cell_again room x tail) done)))

-- ---- calls, behind their word

head_again : (room : ℕ) (p : Policy) (x : Range) (tail : List Sign)
    → Gets 1 (Mark (spelling.policy p) ∷ spelling.range x tail) tail ((p, x), tail) (head room (Mark (spelling.policy p) ∷ spelling.range x tail))
unfolding head
head_again room p x tail = next _ (policy_again p _) (next _ (range_again room x tail) done)

start_again : (x : Val) (o : Op) → op_allowed o ≡ true → (tail : List Sign)
    → Gets 1 (spelling.init_part x (spelling.op o tail)) tail ((x, o), tail) (start (spelling.init_part x (spelling.op o tail)))
unfolding start goes_on
start_again x o a tail = next _ (init_again x _ (op_begins (λ q. goes_on q) refl refl refl refl refl refl refl refl o a tail)) (next _ (op_again o a tail) done)

sources_again : (room : ℕ) (p : Policy) (x : Range) (y : Option Range) (tail : List Sign) → same (k.Mark m.Comma) (ahead tail) ≡ false
    → Gets 1 (Mark (spelling.policy p) ∷ spelling.range x (optional spelling.second_range y tail)) tail (((p, x), y), tail)
    (sources room (Mark (spelling.policy p) ∷ spelling.range x (optional spelling.second_range y tail)))
unfolding sources
sources_again room p x y tail e = next _ (head_again room p x _) (next _ (second_again room y tail e) done)

named_end_again : (text : List ℕ) (tail : List Sign) → Gets 1 (Name text ∷ Mark m.Semicolon ∷ tail) tail (text, tail) (named_end (Name text ∷ Mark m.Semicolon ∷ tail))
unfolding named_end
named_end_again text tail = next _ (name_again text _) (next _ (expect_again m.Semicolon tail) done)

stored_end_again : (room : ℕ) (x : Option Cell) (tail : List Sign)
    → Gets 0 (optional spelling.into x (Mark m.Semicolon ∷ tail)) tail (x, tail) (stored_end room (optional spelling.into x (Mark m.Semicolon ∷ tail)))
unfolding stored_end place
stored_end_again room x tail = next _ (store_again room x _ refl) (next _ (expect_again m.Semicolon tail) done)

-- a call by its parts
abbrev call_of : CallForm → Policy → Range → Option Range → Option Range → Option Val → Option Op → Option (List ℕ) → Option Cell → Call
call_of form p x second target init op function store =
    record { form = form; policy = p; first = x; second = second; target = target; init = init; op = op; function = function; store = store }

-- a call is read back
abbrev Back : ℕ → List Sign → Call → Type 0
Back room tail x = Gets 1 (spelling.call x tail) tail (x, tail) (call room (spelling.call x tail))

for_each_again : (room : ℕ) (p : Policy) (x : Range) (f : List ℕ) (tail : List Sign) → Back room tail (call_of forms.ForEach p x None None None None (Some f) None)
unfolding call for_each
for_each_again room p x f tail = behind_sign (next _ (head_again room p x _) (next _ (named_end_again f tail) done))

transform_again : (room : ℕ) (p : Policy) (x : Range) (y : Option Range) (to : Range) (f : List ℕ) (tail : List Sign)
    → Back room tail (call_of forms.Transform p x y (Some to) None None (Some f) None)
unfolding call transform place
transform_again room p x y to f tail = behind_sign (next _ (sources_again room p x y _ refl) (next _ (target_again room to _) (next _ (named_end_again f tail) done)))

find_if_again : (room : ℕ) (p : Policy) (x : Range) (f : List ℕ) (c : Option Cell) (tail : List Sign) → Back room tail (call_of forms.FindIf p x None None None None (Some f) c)
unfolding call search
find_if_again room p x f c tail = behind_sign (next _ (head_again room p x _) (next _ (name_again f _) (next _ (stored_end_again room c tail) done)))

count_if_again : (room : ℕ) (p : Policy) (x : Range) (f : List ℕ) (c : Option Cell) (tail : List Sign) → Back room tail (call_of forms.CountIf p x None None None None (Some f) c)
unfolding call search
count_if_again room p x f c tail = behind_sign (next _ (head_again room p x _) (next _ (name_again f _) (next _ (stored_end_again room c tail) done)))

reduce_again : (room : ℕ) (p : Policy) (x : Range) (v : Val) (o : Op) → op_allowed o ≡ true → (c : Option Cell) (tail : List Sign)
    → Back room tail (call_of forms.Reduce p x None None (Some v) (Some o) None c)
unfolding call reduce
reduce_again room p x v o a c tail = behind_sign (next _ (head_again room p x _) (next _ (start_again v o a _) (next _ (stored_end_again room c tail) done)))

transform_reduce_again : (room : ℕ) (p : Policy) (x : Range) (y : Option Range) (v : Val) (o : Op) → op_allowed o ≡ true → (f : List ℕ) (c : Option Cell) (tail : List Sign)
    → Back room tail (call_of forms.TransformReduce p x y None (Some v) (Some o) (Some f) c)
unfolding call transform_reduce place
transform_reduce_again room p x y v o a f c tail =
    behind_sign (next _ (sources_again room p x y _ refl) (next _ (start_again v o a _) (next _ (name_again f _) (next _ (stored_end_again room c tail) done))))

scan_ranges_again : (room : ℕ) (p : Policy) (x to : Range) (tail : List Sign)
    → Gets 1 (Mark (spelling.policy p) ∷ spelling.range x (spelling.target_range to tail)) tail (((p, x), to), tail)
    (scan_ranges room (Mark (spelling.policy p) ∷ spelling.range x (spelling.target_range to tail)))
unfolding scan_ranges
scan_ranges_again room p x to tail = next _ (head_again room p x _) (next _ (target_again room to tail) done)

-- the start that an inclusive scan may have
may_start_again : (v : Option Val) (o : Op) → op_allowed o ≡ true → (tail : List Sign)
    → Gets 0 (optional spelling.init_part v (spelling.op o tail)) (spelling.op o tail) (v, spelling.op o tail) (optional_init (optional spelling.init_part v (spelling.op o tail)))
unfolding goes_on place
may_start_again v o a tail =
    optional_init_again v _ (op_begins (λ q. same (k.Mark m.Init) q) refl refl refl refl refl refl refl refl o a tail) (op_begins (λ q. goes_on q) refl refl refl refl refl refl refl refl o a tail)

-- the start that an exclusive scan has
has_start_again : (v : Val) (o : Op) → op_allowed o ≡ true → (tail : List Sign)
    → Gets 1 (spelling.init_part v (spelling.op o tail)) (spelling.op o tail) (v, spelling.op o tail) (init (spelling.init_part v (spelling.op o tail)))
unfolding goes_on
has_start_again v o a tail = init_again v _ (op_begins (λ q. goes_on q) refl refl refl refl refl refl refl refl o a tail)

inclusive_again : (room : ℕ) (p : Policy) (x to : Range) (v : Option Val) (o : Op) → op_allowed o ≡ true → (tail : List Sign)
    → Back room tail (call_of forms.InclusiveScan p x None (Some to) v (Some o) None None)
unfolding call scan scan_end
inclusive_again room p x to v o a tail =
    behind_sign (next _ (scan_ranges_again room p x to _) (next _ (may_start_again v o a _) (next _ (next _ (op_again o a _) (next _ done (next _ (expect_again m.Semicolon tail) done))) done)))

exclusive_again : (room : ℕ) (p : Policy) (x to : Range) (v : Val) (o : Op) → op_allowed o ≡ true → (tail : List Sign)
    → Back room tail (call_of forms.ExclusiveScan p x None (Some to) (Some v) (Some o) None None)
unfolding call scan scan_end
exclusive_again room p x to v o a tail =
    behind_sign (next _ (scan_ranges_again room p x to _) (next _ (next _ (has_start_again v o a _) done) (next _ (next _ (op_again o a _) (next _ done (next _ (expect_again m.Semicolon tail) done))) done)))

transform_inclusive_again : (room : ℕ) (p : Policy) (x to : Range) (v : Option Val) (o : Op) → op_allowed o ≡ true → (f : List ℕ) (tail : List Sign)
    → Back room tail (call_of forms.TransformInclusiveScan p x None (Some to) v (Some o) (Some f) None)
unfolding call scan scan_end
transform_inclusive_again room p x to v o a f tail =
    behind_sign (next _ (scan_ranges_again room p x to _) (next _ (may_start_again v o a _) (next _ (next _ (op_again o a _) (next _ (next _ (name_again f _) done) (next _ (expect_again m.Semicolon tail) done))) done)))

transform_exclusive_again : (room : ℕ) (p : Policy) (x to : Range) (v : Val) (o : Op) → op_allowed o ≡ true → (f : List ℕ) (tail : List Sign)
    → Back room tail (call_of forms.TransformExclusiveScan p x None (Some to) (Some v) (Some o) (Some f) None)
unfolding call scan scan_end
transform_exclusive_again room p x to v o a f tail =
    behind_sign (next _ (scan_ranges_again room p x to _) (next _ (next _ (has_start_again v o a _) done) (next _ (next _ (op_again o a _) (next _ (next _ (name_again f _) done) (next _ (expect_again m.Semicolon tail) done))) done)))

-- a call by its form and by which parts it has
by_parts : (room : ℕ) (tail : List Sign) (form : CallForm) (p : Policy) (x : Range) (second target : Option Range) (init : Option Val) (op : Option Op) (function : Option (List ℕ)) (store : Option Cell)
    → spelling.has_parts form (call_of form p x second target init op function store) ≡ true → spelling.if_there op_allowed op ≡ true
    → Back room tail (call_of form p x second target init op function store)
by_parts room tail forms.ForEach p x None None None None (Some f) None e a = for_each_again room p x f tail
by_parts room tail forms.Transform p x y (Some to) None None (Some f) None e a = transform_again room p x y to f tail
by_parts room tail forms.FindIf p x None None None None (Some f) c e a = find_if_again room p x f c tail
by_parts room tail forms.CountIf p x None None None None (Some f) c e a = count_if_again room p x f c tail
by_parts room tail forms.Reduce p x None None (Some v) (Some o) None c e a = reduce_again room p x v o a c tail
by_parts room tail forms.TransformReduce p x y None (Some v) (Some o) (Some f) c e a = transform_reduce_again room p x y v o a f c tail
by_parts room tail forms.InclusiveScan p x None (Some to) v (Some o) None None e a = inclusive_again room p x to v o a tail
by_parts room tail forms.ExclusiveScan p x None (Some to) (Some v) (Some o) None None e a = exclusive_again room p x to v o a tail
by_parts room tail forms.TransformInclusiveScan p x None (Some to) v (Some o) (Some f) None e a = transform_inclusive_again room p x to v o a f tail
by_parts room tail forms.TransformExclusiveScan p x None (Some to) (Some v) (Some o) (Some f) None e a = transform_exclusive_again room p x to v o a f tail
by_parts room tail _ p x _ _ _ _ _ _ e a = absurd (true≢false (sym e))

pub call_again : (room : ℕ) (x : Call) → call_allowed x ≡ true → (tail : List Sign) → Gets 1 (spelling.call x tail) tail (x, tail) (call room (spelling.call x tail))
call_again room x a tail =
    let both = and_both (spelling.has_parts x.form x) (spelling.if_there op_allowed x.op) a in
    by_parts room tail x.form x.policy x.first x.second x.target x.init x.op x.function x.store both.0 both.1
