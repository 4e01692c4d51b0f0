-- Calls of algorithms: each is read along its rule, spelled by the signs that were read, and one that the grammar has.
use Rattle.std.proofs.Common.{◌≡◌, ℕ, Bool, true, ◌&&◌, is_some, is_none, List, [], ◌∷◌, ◌++◌, Option, Some, None, refl, sym, subst, ◌∙◌, ap}
use Rattle.std.specs.Cmp.Derive.{both_true}
use Rattle.std.proofs.lemmas.Bool.{and_parts}
use Rattle.pts_types.specs.declared.operation.Policy.{Policy}
use Rattle.pts_tree.specs.declared.mark.Mark.TheVariants as m
use Rattle.pts_tree.specs.declared.sign.SignKind.{SignKind}
use Rattle.pts_tree.specs.declared.sign.SignKind.TheVariants as k
use Rattle.pts_tree.specs.declared.sum.Val.{Val}
use Rattle.pts_tree.specs.declared.sum.Range.{Range}
use Rattle.pts_tree.specs.declared.sum.Cell.{Cell}
use Rattle.pts_tree.specs.declared.call.Op.{Op}
use Rattle.pts_tree.specs.declared.call.CallForm.{CallForm}
use Rattle.pts_tree.specs.declared.call.CallForm.TheVariants as forms
use Rattle.pts_tree.specs.declared.call.Call.{Call}
use Rattle.pts_tree.specs.Marks.{place}
use Rattle.pts_tree.specs.Signs.{Sign, Mark, Name}
use Rattle.pts_tree.specs.Spelling as spelling
use Rattle.pts_tree.specs.Spelling.{Text, optional, op_allowed, call_allowed}
use Rattle.pts_tree.specs.Grammar as g
use Rattle.pts_tree.specs.Grammar.{Rule, Row, One, The, Maybe, rows, same, has}
use Rattle.pts_parse.specs.Brackets.{room_behind}
use Rattle.pts_parse.specs.Reading.{Read, ahead, past}
use Rattle.pts_parse.specs.CallReading.{policy_by, policy, op_by, op, second, target, init, optional_init, store, head, start, sources, named_end, stored_end, for_each, transform, search, reduce, transform_reduce, scan_init, scan_function, scan_ranges, scan_end, scan, call_by, call}
use Rattle.pts_parse.proofs.Tables.{first}
use Rattle.pts_parse.proofs.Passes.{Along, step, steps, skip, done, last, made, test_along}
use Rattle.pts_parse.proofs.Choices.{alone, choice, no_choice, sees_one, with_part, without_part}
use Rattle.pts_parse.proofs.SingleSigns.{mark_seen, behind, word_along, expect_along, name_along}
use Rattle.pts_parse.proofs.SumsAlong.{Spelled, val_along, range_along, cell_along}

-- the signs before are this part as it is spelled, and the signs behind it; and the grammar has the part
pub record Allowed {A : Type 0} (spell : A → Text) (test : A → Bool) (before : List Sign) (x : A) (after : List Sign) : Type 0 where
  pub text : before ≡ spell x after
  pub allowed : test x ≡ true

-- what was read is equal to this part
pub equal_read : {A : Type 0} {spell : A → Text} {test : A → Bool} {before after : List Sign} {x y : A} → x ≡ y → Allowed spell test before y after → Allowed spell test before x after
equal_read {spell = spell} {test = test} {before = before} {after = after} e p = subst (λ z. Allowed spell test before z after) (sym e) p

-- what was read from these signs on was read from equal ones
pub begun_at : {A : Type 0} {spell : A → Text} {test : A → Bool} {before mid after : List Sign} {x : A} → before ≡ mid → Allowed spell test mid x after → Allowed spell test before x after
begun_at i p = record { text = i ∙ p.text; allowed = p.allowed }

-- ---- parts of calls

policy_by_along : {room : ℕ} (x : SignKind) (ts : List Sign) → ahead ts ≡ x
    → Along (The Rule.policy ∷ []) room room (Spelled (λ y. spelling.word (spelling.policy y)) ts) ts (policy_by x ts)
unfolding rows first place
policy_by_along (k.Mark m.Seq) ts e = alone Rule.policy refl (word_along m.Seq ts e refl refl (λ i. i))
policy_by_along (k.Mark m.Par) ts e = alone Rule.policy refl (word_along m.Par ts e refl refl (λ i. i))
policy_by_along (k.Mark m.ParUnseq) ts e = alone Rule.policy refl (word_along m.ParUnseq ts e refl refl (λ i. i))
policy_by_along (k.Mark m.Unseq) ts e = alone Rule.policy refl (word_along m.Unseq ts e refl refl (λ i. i))
policy_by_along (k.Mark m.Vector) ts e = alone Rule.policy refl (word_along m.Vector ts e refl refl (λ i. i))
policy_by_along _ ts e = no_choice Rule.policy e refl

pub policy_along : {room : ℕ} (ts : List Sign) → Along (The Rule.policy ∷ []) room room (Spelled (λ y. spelling.word (spelling.policy y)) ts) ts (policy ts)
unfolding policy
policy_along ts = policy_by_along (ahead ts) ts refl

op_by_along : {room : ℕ} (x : SignKind) (ts : List Sign) → ahead ts ≡ x → Along (The Rule.op ∷ []) room room (Allowed spelling.op op_allowed ts) ts (op_by x ts)
unfolding rows first place
op_by_along (k.Mark m.Plus) ts e = choice Rule.op 0 e refl (word_along m.Plus ts e refl refl (λ i. record { text = i; allowed = refl }))
op_by_along (k.Mark m.Multiplies) ts e = choice Rule.op 0 e refl (word_along m.Multiplies ts e refl refl (λ i. record { text = i; allowed = refl }))
op_by_along (k.Mark m.BitAnd) ts e = choice Rule.op 0 e refl (word_along m.BitAnd ts e refl refl (λ i. record { text = i; allowed = refl }))
op_by_along (k.Mark m.BitOr) ts e = choice Rule.op 0 e refl (word_along m.BitOr ts e refl refl (λ i. record { text = i; allowed = refl }))
op_by_along (k.Mark m.BitXor) ts e = choice Rule.op 0 e refl (word_along m.BitXor ts e refl refl (λ i. record { text = i; allowed = refl }))
op_by_along (k.Mark m.Min) ts e = choice Rule.op 0 e refl (word_along m.Min ts e refl refl (λ i. record { text = i; allowed = refl }))
op_by_along (k.Mark m.Max) ts e = choice Rule.op 0 e refl (word_along m.Max ts e refl refl (λ i. record { text = i; allowed = refl }))
op_by_along k.Name ts e = choice Rule.op 1 e refl (step (name_along ts) (λ x q. done (record { text = q; allowed = refl })))
op_by_along _ ts e = no_choice Rule.op e refl

pub op_along : {room : ℕ} (ts : List Sign) → Along (The Rule.op ∷ []) room room (Allowed spelling.op op_allowed ts) ts (op ts)
unfolding op
op_along ts = op_by_along (ahead ts) ts refl

second_along : (room : ℕ) (ts : List Sign) → Along (Maybe Rule.second_range ∷ []) room room (Spelled (optional spelling.second_range) ts) ts (second room ts)
unfolding second rows first place
second_along room ts =
    test_along (same (k.Mark m.Comma) (ahead ts))
    (λ e. with_part Rule.second_range (sym (sees_one (k.Mark m.Comma) (ahead ts)) ∙ e) (alone Rule.second_range refl (
    behind m.Comma ts (mark_seen m.Comma ts e) refl refl (λ i. step (range_along room (past ts)) (λ x q. done (i ∙ ap (λ us. Mark m.Comma ∷ us) q))))))
    (λ e. without_part Rule.second_range (sym (sees_one (k.Mark m.Comma) (ahead ts)) ∙ e) (done refl))

target_along : (room : ℕ) (ts : List Sign) → Along (g.mark m.Arrow ∷ The Rule.range ∷ []) room room (Spelled spelling.target_range ts) ts (target room ts)
unfolding target
target_along room ts = skip (expect_along m.Arrow ts refl) (λ r i. last (range_along room r) (λ x after q. i ∙ ap (λ us. Mark m.Arrow ∷ us) q))

init_along : {room : ℕ} (ts : List Sign) → Along (The Rule.init_part ∷ []) room room (Spelled spelling.init_part ts) ts (init ts)
unfolding init rows
init_along ts = alone Rule.init_part refl (skip (expect_along m.Init ts refl) (λ r i. last (val_along r) (λ x after q. i ∙ ap (λ us. Mark m.Init ∷ us) q)))

optional_init_along : {room : ℕ} (ts : List Sign) → Along (Maybe Rule.init_part ∷ []) room room (Spelled (optional spelling.init_part) ts) ts (optional_init ts)
unfolding optional_init first
optional_init_along ts =
    test_along (same (k.Mark m.Init) (ahead ts))
    (λ e. with_part Rule.init_part (sym (sees_one (k.Mark m.Init) (ahead ts)) ∙ e) (step (init_along ts) (λ x q. done q)))
    (λ e. without_part Rule.init_part (sym (sees_one (k.Mark m.Init) (ahead ts)) ∙ e) (done refl))

store_along : (room : ℕ) (ts : List Sign) → Along (Maybe Rule.into ∷ []) room room (Spelled (optional spelling.into) ts) ts (store room ts)
unfolding store rows first place
store_along room ts =
    test_along (same (k.Mark m.Into) (ahead ts))
    (λ e. with_part Rule.into (sym (sees_one (k.Mark m.Into) (ahead ts)) ∙ e) (alone Rule.into refl (
    behind m.Into ts (mark_seen m.Into ts e) refl refl (λ i. step (cell_along room (past ts)) (λ x q. done (i ∙ ap (λ us. Mark m.Into ∷ us) q))))))
    (λ e. without_part Rule.into (sym (sees_one (k.Mark m.Into) (ahead ts)) ∙ e) (done refl))

-- ---- what several calls have

-- policy range
abbrev head_text : Policy × Range → Text
head_text h tail = Mark (spelling.policy h.0) ∷ spelling.range h.1 tail

head_along : (room : ℕ) (ts : List Sign) → Along (The Rule.policy ∷ The Rule.range ∷ []) room room (Spelled head_text ts) ts (head room ts)
unfolding head
head_along room ts = step (policy_along ts) (λ p i. step (range_along room p.1) (λ x q. done (i ∙ ap (λ us. Mark (spelling.policy p.0) ∷ us) q)))

-- policy range optional("," range)
abbrev sources_text : (Policy × Range) × Option Range → Text
sources_text h tail = head_text h.0 (optional spelling.second_range h.1 tail)

sources_along : (room : ℕ) (ts : List Sign)
    → Along (The Rule.policy ∷ The Rule.range ∷ Maybe Rule.second_range ∷ []) room room (Spelled sources_text ts) ts (sources room ts)
unfolding sources
sources_along room ts = steps (head_along room ts) (λ h i. step (second_along room h.1) (λ x q. done (i ∙ ap (head_text h.0) q)))

-- policy range "->" range
abbrev scan_ranges_text : (Policy × Range) × Range → Text
scan_ranges_text h tail = head_text h.0 (spelling.target_range h.1 tail)

scan_ranges_along : (room : ℕ) (ts : List Sign)
    → Along (The Rule.policy ∷ The Rule.range ∷ g.mark m.Arrow ∷ The Rule.range ∷ []) room room (Spelled scan_ranges_text ts) ts (scan_ranges room ts)
unfolding scan_ranges
scan_ranges_along room ts = steps (head_along room ts) (λ h i. steps (target_along room h.1) (λ x q. done (i ∙ ap (head_text h.0) q)))

-- "init" val op
abbrev start_text : Val × Op → Text
start_text x tail = spelling.init_part x.0 (spelling.op x.1 tail)

-- the grammar has the operation
abbrev start_allowed : Val × Op → Bool
start_allowed x = op_allowed x.1

start_along : {room : ℕ} (ts : List Sign) → Along (The Rule.init_part ∷ The Rule.op ∷ []) room room (Allowed start_text start_allowed ts) ts (start ts)
unfolding start
start_along ts =
    step (init_along ts) (λ x i. step (op_along x.1) (λ o q. done (record { text = i ∙ ap (spelling.init_part x.0) q.text; allowed = q.allowed })))

-- NAME ";"
abbrev named_end_text : List ℕ → Text
named_end_text f tail = Name f ∷ Mark m.Semicolon ∷ tail

named_end_along : {room : ℕ} (ts : List Sign) → Along (g.name ∷ g.mark m.Semicolon ∷ []) room room (Spelled named_end_text ts) ts (named_end ts)
unfolding named_end
named_end_along ts = step (name_along ts) (λ f i. skip (expect_along m.Semicolon f.1 refl) (λ r q. done (i ∙ ap (λ us. Name f.0 ∷ us) q)))

-- into ";"
abbrev stored_end_text : Option Cell → Text
stored_end_text x tail = optional spelling.into x (Mark m.Semicolon ∷ tail)

stored_end_along : (room : ℕ) (ts : List Sign) → Along (Maybe Rule.into ∷ g.mark m.Semicolon ∷ []) room room (Spelled stored_end_text ts) ts (stored_end room ts)
unfolding stored_end
stored_end_along room ts =
    step (store_along room ts) (λ x i. skip (expect_along m.Semicolon x.1 refl) (λ r q. done (i ∙ ap (optional spelling.into x.0) q)))

-- ---- calls, behind their word

-- the signs from the word of this call on are the call as it is spelled, and the grammar has it
abbrev Called : CallForm → List Sign → Call → List Sign → Type 0
Called form before x after = Allowed spelling.call call_allowed (Mark (spelling.form form) ∷ before) x after

for_each_along : (room : ℕ) (ts : List Sign)
    → Along (The Rule.policy ∷ The Rule.range ∷ g.name ∷ g.mark m.Semicolon ∷ []) room room (Called forms.ForEach ts) ts (for_each room ts)
unfolding for_each
for_each_along room ts =
    steps (head_along room ts) (λ h p.
    steps (named_end_along h.1) (λ f q.
    done (record { text = ap (λ us. Mark m.ForEach ∷ us) (p ∙ ap (head_text h.0) q); allowed = refl })))

transform_along : (room : ℕ) (ts : List Sign)
    → Along (The Rule.policy ∷ The Rule.range ∷ Maybe Rule.second_range ∷ g.mark m.Arrow ∷ The Rule.range ∷ g.name ∷ g.mark m.Semicolon ∷ []) room room
    (Called forms.Transform ts) ts (transform room ts)
unfolding transform
transform_along room ts =
    steps (sources_along room ts) (λ h p.
    steps (target_along room h.1) (λ to q.
    steps (named_end_along to.1) (λ f s.
    done (record { text = ap (λ us. Mark m.Transform ∷ us) (p ∙ ap (sources_text h.0) (q ∙ ap (spelling.target_range to.0) s)); allowed = refl }))))

-- the call of a search
abbrev searching : CallForm → Policy × Range → List ℕ → Option Cell → Call
searching form h f into = record { form = form; policy = h.0; first = h.1; second = None; target = None; init = None; op = None; function = Some f; store = into }

search_along : (form : CallForm) → ((h : Policy × Range) (f : List ℕ) (into : Option Cell) → call_allowed (searching form h f into) ≡ true) → (room : ℕ) (ts : List Sign)
    → Along (The Rule.policy ∷ The Rule.range ∷ g.name ∷ Maybe Rule.into ∷ g.mark m.Semicolon ∷ []) room room (Called form ts) ts (search form room ts)
unfolding search
search_along form fits room ts =
    steps (head_along room ts) (λ h p.
    step (name_along h.1) (λ f q.
    steps (stored_end_along room f.1) (λ into s.
    done (record { text = ap (λ us. Mark (spelling.form form) ∷ us) (p ∙ ap (head_text h.0) (q ∙ ap (λ us. Name f.0 ∷ us) s)); allowed = fits h.0 f.0 into.0 }))))

reduce_along : (room : ℕ) (ts : List Sign)
    → Along (The Rule.policy ∷ The Rule.range ∷ The Rule.init_part ∷ The Rule.op ∷ Maybe Rule.into ∷ g.mark m.Semicolon ∷ []) room room
    (Called forms.Reduce ts) ts (reduce room ts)
unfolding reduce
reduce_along room ts =
    steps (head_along room ts) (λ h p.
    steps (start_along h.1) (λ s q.
    steps (stored_end_along room s.1) (λ into v.
    done (record { text = ap (λ us. Mark m.Reduce ∷ us) (p ∙ ap (head_text h.0) (q.text ∙ ap (start_text s.0) v)); allowed = q.allowed }))))

transform_reduce_along : (room : ℕ) (ts : List Sign)
    → Along (The Rule.policy ∷ The Rule.range ∷ Maybe Rule.second_range ∷ The Rule.init_part ∷ The Rule.op ∷ g.name ∷ Maybe Rule.into ∷ g.mark m.Semicolon ∷ []) room room
    (Called forms.TransformReduce ts) ts (transform_reduce room ts)
unfolding transform_reduce
transform_reduce_along room ts =
    steps (sources_along room ts) (λ h p.
    steps (start_along h.1) (λ s q.
    step (name_along s.1) (λ f v.
    steps (stored_end_along room f.1) (λ into w.
    done (record {
      text = ap (λ us. Mark m.TransformReduce ∷ us) (p ∙ ap (sources_text h.0) (q.text ∙ ap (start_text s.0) (v ∙ ap (λ us. Name f.0 ∷ us) w)));
      allowed = q.allowed;
    })))))

-- ---- scans

init_there_along : {room : ℕ} (ts : List Sign) → Along (The Rule.init_part ∷ []) room room (Allowed (optional spelling.init_part) is_some ts) ts (scan_init forms.ExclusiveScan ts)
init_there_along ts = step (init_along ts) (λ x q. done (record { text = q; allowed = refl }))

name_there_along : {room : ℕ} (ts : List Sign)
    → Along (g.name ∷ []) room room (Allowed (optional spelling.name) is_some ts) ts (scan_function forms.TransformExclusiveScan ts)
name_there_along ts = step (name_along ts) (λ x q. done (record { text = q; allowed = refl }))

-- op, a function, ";"
abbrev scan_end_text : Op × Option (List ℕ) → Text
scan_end_text x tail = spelling.op x.0 (optional spelling.name x.1 (Mark m.Semicolon ∷ tail))

-- the grammar has the operation, and a function stands there or not
abbrev scan_end_allowed : (Option (List ℕ) → Bool) → Op × Option (List ℕ) → Bool
scan_end_allowed named x = op_allowed x.0 && named x.1

scan_end_along : {room : ℕ} (form : CallForm) (function : Row) (named : Option (List ℕ) → Bool)
    → ((ts : List Sign) → Along function room room (Allowed (optional spelling.name) named ts) ts (scan_function form ts))
    → (ts : List Sign) → Along (The Rule.op ∷ (function ++ g.mark m.Semicolon ∷ [])) room room (Allowed scan_end_text (scan_end_allowed named) ts) ts (scan_end form ts)
unfolding scan_end
scan_end_along form function named f_along ts =
    step (op_along ts) (λ o p.
    steps {front = function} {row = g.mark m.Semicolon ∷ []} (f_along o.1) (λ f q.
    skip (expect_along m.Semicolon f.1 refl) (λ r s.
    done (record { text = p.text ∙ ap (spelling.op o.0) (q.text ∙ ap (optional spelling.name f.0) s); allowed = both_true p.allowed q.allowed }))))

-- the call of a scan
abbrev scanning : CallForm → (Policy × Range) × Range → Option Val → Op × Option (List ℕ) → Call
scanning form h from o = record { form = form; policy = h.0.0; first = h.0.1; second = None; target = Some h.1; init = from; op = Some o.0; function = o.1; store = None }

scan_along : {room : ℕ} (form : CallForm) (front function : Row) (begun : Option Val → Bool) (named : Option (List ℕ) → Bool)
    → ((h : (Policy × Range) × Range) (from : Option Val) (o : Op × Option (List ℕ)) → begun from ≡ true
    → op_allowed o.0 ≡ true → named o.1 ≡ true → call_allowed (scanning form h from o) ≡ true)
    → ((ts : List Sign) → Along front room room (Allowed (optional spelling.init_part) begun ts) ts (scan_init form ts))
    → ((ts : List Sign) → Along function room room (Allowed (optional spelling.name) named ts) ts (scan_function form ts))
    → (ts : List Sign) → Along (The Rule.policy ∷ The Rule.range ∷ g.mark m.Arrow ∷ The Rule.range ∷ (front ++ The Rule.op ∷ (function ++ g.mark m.Semicolon ∷ []))) room room
    (Called form ts) ts (scan form room ts)
unfolding scan
scan_along {room = room} form front function begun named fits i_along f_along ts =
    steps (scan_ranges_along room ts) (λ h p.
    steps {front = front} {row = The Rule.op ∷ (function ++ g.mark m.Semicolon ∷ [])} (i_along h.1) (λ from q.
    made (λ o. scanning form h.0 from.0 o) (scan_end_along form function named f_along from.1) (λ o after s. record {
      text = ap (λ us. Mark (spelling.form form) ∷ us) (p ∙ ap (scan_ranges_text h.0) (q.text ∙ ap (optional spelling.init_part from.0) s.text));
      allowed = let both = and_parts (op_allowed o.0) (named o.1) s.allowed in fits h.0 from.0 o q.allowed both.0 both.1;
    })))

-- any start will do
abbrev any_start : Option Val → Bool
any_start x = true

-- an inclusive scan may have a start
may_begin_along : {room : ℕ} (ts : List Sign) → Along (Maybe Rule.init_part ∷ []) room room (Allowed (optional spelling.init_part) any_start ts) ts (optional_init ts)
may_begin_along ts = last (optional_init_along ts) (λ x after q. record { text = q; allowed = refl })

-- a scan of the elements themselves names no function
no_name_along : {room : ℕ} (ts : List Sign) → Along [] room room (Allowed (optional spelling.name) is_none ts) ts (scan_function forms.ExclusiveScan ts)
no_name_along ts = done (record { text = refl; allowed = refl })

-- ---- calls

-- the word of a call, and the call behind it
worded : {room : ℕ} {ks : List SignKind} {row : Row} {o : Read Call} (form : CallForm) (ts : List Sign)
    → ahead ts ≡ k.Mark (spelling.form form) → has ks (k.Mark (spelling.form form)) ≡ true → room_behind (k.Mark (spelling.form form)) room ≡ Some room
    → Along row room room (Called form (past ts)) (past ts) o → Along (One ks ∷ row) room room (Allowed spelling.call call_allowed ts) ts o
worded form ts e h b a = behind (spelling.form form) ts e h b (λ i. last a (λ x after q. begun_at i q))

call_by_along : (x : SignKind) (room : ℕ) (ts : List Sign) → ahead ts ≡ x → Along (The Rule.call ∷ []) room room (Allowed spelling.call call_allowed ts) ts (call_by x room ts)
unfolding rows first place
call_by_along (k.Mark m.ForEach) room ts e = choice Rule.call 0 e refl (worded forms.ForEach ts e refl refl (for_each_along room (past ts)))
call_by_along (k.Mark m.Transform) room ts e = choice Rule.call 1 e refl (worded forms.Transform ts e refl refl (transform_along room (past ts)))
call_by_along (k.Mark m.FindIf) room ts e = choice Rule.call 2 e refl (worded forms.FindIf ts e refl refl (search_along forms.FindIf (λ h f into. refl) room (past ts)))
call_by_along (k.Mark m.CountIf) room ts e = choice Rule.call 2 e refl (worded forms.CountIf ts e refl refl (search_along forms.CountIf (λ h f into. refl) room (past ts)))
call_by_along (k.Mark m.Reduce) room ts e = choice Rule.call 3 e refl (worded forms.Reduce ts e refl refl (reduce_along room (past ts)))
call_by_along (k.Mark m.TransformReduce) room ts e = choice Rule.call 4 e refl (worded forms.TransformReduce ts e refl refl (transform_reduce_along room (past ts)))
call_by_along (k.Mark m.InclusiveScan) room ts e =
    choice Rule.call 5 e refl (worded forms.InclusiveScan ts e refl refl (
    scan_along forms.InclusiveScan (Maybe Rule.init_part ∷ []) [] any_start is_none (λ h from o p q r. rw (q, r) refl)
    (λ us. may_begin_along us) (λ us. no_name_along us) (past ts)))
call_by_along (k.Mark m.ExclusiveScan) room ts e =
    choice Rule.call 6 e refl (worded forms.ExclusiveScan ts e refl refl (
    scan_along forms.ExclusiveScan (The Rule.init_part ∷ []) [] is_some is_none (λ h from o p q r. rw (p, q, r) refl)
    (λ us. init_there_along us) (λ us. no_name_along us) (past ts)))
call_by_along (k.Mark m.TransformInclusiveScan) room ts e =
    choice Rule.call 7 e refl (worded forms.TransformInclusiveScan ts e refl refl (
    scan_along forms.TransformInclusiveScan (Maybe Rule.init_part ∷ []) (g.name ∷ []) any_start is_some (λ h from o p q r. rw (q, r) refl)
    (λ us. may_begin_along us) (λ us. name_there_along us) (past ts)))
call_by_along (k.Mark m.TransformExclusiveScan) room ts e =
    choice Rule.call 8 e refl (worded forms.TransformExclusiveScan ts e refl refl (
    scan_along forms.TransformExclusiveScan (The Rule.init_part ∷ []) (g.name ∷ []) is_some is_some (λ h from o p q r. rw (p, q, r) refl)
    (λ us. init_there_along us) (λ us. name_there_along us) (past ts)))
call_by_along _ room ts e = no_choice Rule.call e refl

pub call_along : (room : ℕ) (ts : List Sign) → Along (The Rule.call ∷ []) room room (Allowed spelling.call call_allowed ts) ts (call room ts)
unfolding call
call_along room ts = call_by_along (ahead ts) room ts refl
