-- Declarations and items: each is read along its rule, spelled by the signs that were read, and one that the grammar has.
use Rattle.std.proofs.Common.{◌≡◌, ℕ, Bool, List, [], ◌∷◌, refl, ◌∙◌, ap}
use Rattle.std.specs.List.{list_all}
use Rattle.std.specs.Cmp.Derive.{both_true}
use Rattle.pts_types.specs.declared.value.Kind.{Kind}
use Rattle.pts_tree.specs.declared.mark.Mark as mark
use Rattle.pts_tree.specs.declared.mark.Mark.TheVariants as m
use Rattle.pts_tree.specs.declared.sign.SignKind.{SignKind}
use Rattle.pts_tree.specs.declared.sign.SignKind.TheVariants as k
use Rattle.pts_tree.specs.declared.sum.Sum.{Sum}
use Rattle.pts_tree.specs.declared.script.Param.{Param}
use Rattle.pts_tree.specs.declared.script.Start.{Start}
use Rattle.pts_tree.specs.declared.script.Item.{Item}
use Rattle.pts_tree.specs.Marks.{place}
use Rattle.pts_tree.specs.Signs.{Sign, Mark, Name}
use Rattle.pts_tree.specs.Spelling as spelling
use Rattle.pts_tree.specs.Spelling.{Text, each, is_filled}
use Rattle.pts_tree.specs.Scripts as scripts
use Rattle.pts_tree.specs.Scripts.{start_allowed, item_allowed}
use Rattle.pts_tree.specs.Grammar as g
use Rattle.pts_tree.specs.Grammar.{Rule, The, Many, rows}
use Rattle.pts_parse.specs.Reading.{ahead, past}
use Rattle.pts_parse.specs.ExprReading.{sees_comma}
use Rattle.pts_parse.specs.ScriptReading.{const_decl, next_val, next_vals, vals, iota, start_by, start, start_part, array_decl, param, next_param, next_params, params, signature, result_kind, function_decl, print, item_by, item, sees_item, item_list}
use Rattle.pts_parse.specs.BlockReading.{sees_call}
use Rattle.pts_parse.proofs.Tables.{first}
use Rattle.pts_parse.proofs.Passes.{Along, step, steps, skip, done, last}
use Rattle.pts_parse.proofs.Choices.{alone, choice, no_choice, all_along, SeesRule, sees_one}
use Rattle.pts_parse.proofs.SingleSigns.{behind, expect_along, open_along, close_along, name_along}
use Rattle.pts_parse.proofs.SumsAlong.{Spelled, sum_along, val_along, index_along, kind_along}
use Rattle.pts_parse.proofs.CallsAlong.{Allowed, begun_at, call_along}
use Rattle.pts_parse.proofs.ClausesAlong.{typed_text, typed_along}
use Rattle.pts_parse.proofs.BodiesAlong.{value_along}
use Rattle.pts_parse.proofs.LoopsAlong.{loop_along}
use Rattle.pts_parse.proofs.BlocksAlong.{block_along}

-- ---- constants and arrays

-- an item, of which the word was read
abbrev Declared : mark.Mark → List Sign → Item → List Sign → Type 0
Declared n before x after = Allowed scripts.item item_allowed (Mark n ∷ before) x after

const_along : {room : ℕ} (ts : List Sign) → Along (g.name ∷ g.mark m.Equal ∷ The Rule.sum ∷ g.mark m.Semicolon ∷ []) room room (Declared m.Const ts) ts (const_decl ts)
unfolding const_decl
const_along ts =
    step (name_along ts) (λ n p.
    skip (expect_along m.Equal n.1 refl) (λ r q.
    step (sum_along r) (λ x s.
    skip (expect_along m.Semicolon x.1 refl) (λ u t.
    done (record { text = ap (λ us. Mark m.Const ∷ us) (p ∙ ap (λ us. Name n.0 ∷ us) (q ∙ ap (λ us. Mark m.Equal ∷ us) (s ∙ ap (spelling.sum x.0) t))); allowed = refl })))))

next_val_along : {room : ℕ} (ts : List Sign) → Along (The Rule.next_val ∷ []) room room (Spelled scripts.next_val ts) ts (next_val ts)
unfolding next_val rows
next_val_along ts = alone Rule.next_val refl (skip (expect_along m.Comma ts refl) (λ r i. last (val_along r) (λ x after q. i ∙ ap (λ us. Mark m.Comma ∷ us) q)))

next_vals_along : {room : ℕ} (ts : List Sign) → Along (Many Rule.next_val ∷ []) room room (Spelled (each scripts.next_val) ts) ts (next_vals ts)
unfolding next_vals sees_comma first
next_vals_along ts =
    all_along (Spelled scripts.next_val) (Spelled (each scripts.next_val)) Rule.next_val (λ x. sees_one (k.Mark m.Comma) x) (λ us. next_val_along us) (λ us. refl)
    (λ x xs before mid after q qs. q ∙ ap (scripts.next_val x) qs) ts

vals_along : {room : ℕ} (ts : List Sign) → Along (The Rule.val ∷ Many Rule.next_val ∷ []) room room (Allowed scripts.vals is_filled ts) ts (vals ts)
unfolding vals
vals_along ts = step (val_along ts) (λ x p. step (next_vals_along x.1) (λ xs q. done (record { text = p ∙ ap (spelling.val x.0) q; allowed = refl })))

start_by_along : {room : ℕ} (x : SignKind) (ts : List Sign) → ahead ts ≡ x → Along (The Rule.start ∷ []) room room (Allowed scripts.start start_allowed ts) ts (start_by x ts)
unfolding rows first place iota
start_by_along (k.Mark m.List) ts e =
    choice Rule.start 0 e refl (behind m.List ts e refl refl (λ i. steps (vals_along (past ts)) (λ xs q. done (record { text = i ∙ ap (λ us. Mark m.List ∷ us) q.text; allowed = q.allowed }))))
start_by_along (k.Mark m.Fill) ts e =
    choice Rule.start 1 e refl (behind m.Fill ts e refl refl (λ i. step (val_along (past ts)) (λ x q. done (record { text = i ∙ ap (λ us. Mark m.Fill ∷ us) q; allowed = refl }))))
start_by_along (k.Mark m.Iota) ts e =
    choice Rule.start 2 e refl (behind m.Iota ts e refl refl (λ i.
    step (sum_along (past ts)) (λ x p.
    skip (expect_along m.Step x.1 refl) (λ r q.
    step (sum_along r) (λ y s.
    done (record { text = i ∙ ap (λ us. Mark m.Iota ∷ us) (p ∙ ap (spelling.sum x.0) (q ∙ ap (λ us. Mark m.Step ∷ us) s)); allowed = refl }))))))
start_by_along (k.Mark m.Mix) ts e =
    choice Rule.start 3 e refl (behind m.Mix ts e refl refl (λ i. step (sum_along (past ts)) (λ x q. done (record { text = i ∙ ap (λ us. Mark m.Mix ∷ us) q; allowed = refl }))))
start_by_along _ ts e = no_choice Rule.start e refl

-- "=" start ";"
abbrev start_text : Start → Text
start_text x tail = Mark m.Equal ∷ scripts.start x (Mark m.Semicolon ∷ tail)

start_part_along : {room : ℕ} (ts : List Sign) → Along (g.mark m.Equal ∷ The Rule.start ∷ g.mark m.Semicolon ∷ []) room room (Allowed start_text start_allowed ts) ts (start_part ts)
unfolding start_part start
start_part_along ts =
    skip (expect_along m.Equal ts refl) (λ r p.
    step (start_by_along (ahead r) r refl) (λ x q.
    skip (expect_along m.Semicolon x.1 refl) (λ u s.
    done (record { text = p ∙ ap (λ us. Mark m.Equal ∷ us) (q.text ∙ ap (scripts.start x.0) s); allowed = q.allowed }))))

-- "[" sum "]"
abbrev index_text : Sum → Text
index_text x tail = Mark m.OpenBracket ∷ spelling.sum x (Mark m.CloseBracket ∷ tail)

array_along : (room : ℕ) (ts : List Sign)
    → Along (g.name ∷ g.mark m.Colon ∷ The Rule.kind ∷ g.mark m.OpenBracket ∷ The Rule.sum ∷ g.mark m.CloseBracket
    ∷ g.mark m.Equal ∷ The Rule.start ∷ g.mark m.Semicolon ∷ []) room room
    (Declared m.Array ts) ts (array_decl room ts)
unfolding array_decl
array_along room ts =
    steps (typed_along ts) (λ h p.
    steps (index_along room h.1) (λ n q.
    steps (start_part_along n.1) (λ x s.
    done (record { text = ap (λ us. Mark m.Array ∷ us) (p ∙ ap (typed_text h.0) (q ∙ ap (index_text n.0) s.text)); allowed = s.allowed }))))

-- ---- functions

param_along : {room : ℕ} (ts : List Sign) → Along (The Rule.param ∷ []) room room (Spelled scripts.param ts) ts (param ts)
unfolding param rows
param_along ts = alone Rule.param refl (steps (typed_along ts) (λ h q. done q))

next_param_along : {room : ℕ} (ts : List Sign) → Along (The Rule.next_param ∷ []) room room (Spelled scripts.next_param ts) ts (next_param ts)
unfolding next_param rows
next_param_along ts = alone Rule.next_param refl (skip (expect_along m.Comma ts refl) (λ r i. last (param_along r) (λ x after q. i ∙ ap (λ us. Mark m.Comma ∷ us) q)))

next_params_along : {room : ℕ} (ts : List Sign) → Along (Many Rule.next_param ∷ []) room room (Spelled (each scripts.next_param) ts) ts (next_params ts)
unfolding next_params sees_comma first
next_params_along ts =
    all_along (Spelled scripts.next_param) (Spelled (each scripts.next_param)) Rule.next_param (λ x. sees_one (k.Mark m.Comma) x) (λ us. next_param_along us) (λ us. refl)
    (λ x xs before mid after q qs. q ∙ ap (scripts.next_param x) qs) ts

params_along : {room : ℕ} (ts : List Sign) → Along (The Rule.param ∷ Many Rule.next_param ∷ []) room room (Allowed scripts.params is_filled ts) ts (params ts)
unfolding params
params_along ts = step (param_along ts) (λ x p. step (next_params_along x.1) (λ xs q. done (record { text = p ∙ ap (scripts.param x.0) q; allowed = refl })))

-- NAME "(" param ("," param)* ")"
abbrev signature_text : List ℕ × List Param → Text
signature_text h tail = Name h.0 ∷ Mark m.OpenParen ∷ scripts.params h.1 (Mark m.CloseParen ∷ tail)

abbrev signature_allowed : List ℕ × List Param → Bool
signature_allowed h = is_filled h.1

signature_along : (room : ℕ) (ts : List Sign)
    → Along (g.name ∷ g.mark m.OpenParen ∷ The Rule.param ∷ Many Rule.next_param ∷ g.mark m.CloseParen ∷ []) room room (Allowed signature_text signature_allowed ts) ts (signature room ts)
unfolding signature
signature_along room ts =
    step (name_along ts) (λ n p.
    skip (open_along m.OpenParen room n.1 (λ left. refl)) (λ r q.
    steps (params_along r) (λ xs s.
    skip (close_along m.CloseParen room xs.1 (λ left. refl) q.1) (λ u t.
    done (record { text = p ∙ ap (λ us. Name n.0 ∷ us) (q.0 ∙ ap (λ us. Mark m.OpenParen ∷ us) (s.text ∙ ap (scripts.params xs.0) t)); allowed = s.allowed })))))

-- "->" kind
abbrev result_text : Kind → Text
result_text x tail = Mark m.Arrow ∷ Mark (spelling.kind x) ∷ tail

result_along : {room : ℕ} (ts : List Sign) → Along (g.mark m.Arrow ∷ The Rule.kind ∷ []) room room (Spelled result_text ts) ts (result_kind ts)
unfolding result_kind
result_along ts = skip (expect_along m.Arrow ts refl) (λ r i. last (kind_along r) (λ x after q. i ∙ ap (λ us. Mark m.Arrow ∷ us) q))

function_along : (room : ℕ) (ts : List Sign)
    → Along (g.name ∷ g.mark m.OpenParen ∷ The Rule.param ∷ Many Rule.next_param ∷ g.mark m.CloseParen
    ∷ g.mark m.Arrow ∷ The Rule.kind ∷ g.mark m.Equal ∷ The Rule.expr ∷ g.mark m.Semicolon ∷ []) room room
    (Declared m.Function ts) ts (function_decl room ts)
unfolding function_decl
function_along room ts =
    steps (signature_along room ts) (λ h p.
    steps (result_along h.1) (λ x q.
    steps (value_along m.Equal room refl x.1) (λ y s.
    done (record { text = ap (λ us. Mark m.Function ∷ us) (p.text ∙ ap (signature_text h.0) (q ∙ ap (result_text x.0) s.text)); allowed = both_true p.allowed s.allowed }))))

-- ---- items

print_along : {room : ℕ} (ts : List Sign) → Along (g.name ∷ g.mark m.Semicolon ∷ []) room room (Declared m.Print ts) ts (print ts)
unfolding print
print_along ts =
    step (name_along ts) (λ n p.
    skip (expect_along m.Semicolon n.1 refl) (λ r q.
    done (record { text = ap (λ us. Mark m.Print ∷ us) (p ∙ ap (λ us. Name n.0 ∷ us) q); allowed = refl })))

item_by_along : (x : SignKind) (room : ℕ) (ts : List Sign) → ahead ts ≡ x → Along (The Rule.item ∷ []) room room (Allowed scripts.item item_allowed ts) ts (item_by x room ts)
unfolding rows first place
item_by_along (k.Mark m.Const) room ts e =
    choice Rule.item 0 e refl (choice Rule.decl 0 e refl (behind m.Const ts e refl refl (λ i. last (const_along (past ts)) (λ x after q. begun_at i q))))
item_by_along (k.Mark m.Array) room ts e =
    choice Rule.item 0 e refl (choice Rule.decl 1 e refl (behind m.Array ts e refl refl (λ i. last (array_along room (past ts)) (λ x after q. begun_at i q))))
item_by_along (k.Mark m.Function) room ts e =
    choice Rule.item 0 e refl (choice Rule.decl 2 e refl (behind m.Function ts e refl refl (λ i. last (function_along room (past ts)) (λ x after q. begun_at i q))))
item_by_along (k.Mark m.ForLoop) room ts e =
    choice Rule.item 1 e refl (choice Rule.stmt 1 e refl (step (loop_along room ts e) (λ x q. done (record { text = q.text; allowed = q.allowed }))))
item_by_along (k.Mark m.TaskBlock) room ts e =
    choice Rule.item 1 e refl (choice Rule.stmt 2 e refl (step (block_along room ts e) (λ x q. done (record { text = q.text; allowed = q.allowed }))))
item_by_along (k.Mark m.Print) room ts e =
    choice Rule.item 1 e refl (choice Rule.stmt 3 e refl (behind m.Print ts e refl refl (λ i. last (print_along (past ts)) (λ x after q. begun_at i q))))
item_by_along _ room ts e =
    choice Rule.item 1 e refl (choice Rule.stmt 0 e refl (step (call_along room ts) (λ x q. done (record { text = q.text; allowed = q.allowed }))))

sees_item_first : SeesRule Rule.item sees_item
unfolding sees_item sees_call first place
sees_item_first (k.Mark m.Const) = refl
sees_item_first _ = refl

pub item_list_along : (room : ℕ) (ts : List Sign)
    → Along (Many Rule.item ∷ []) room room (Allowed (each scripts.item) (list_all item_allowed) ts) ts (item_list room ts)
unfolding item_list item
item_list_along room ts =
    all_along (Allowed scripts.item item_allowed) (Allowed (each scripts.item) (list_all item_allowed)) Rule.item sees_item_first
    (λ us. item_by_along (ahead us) room us refl) (λ us. record { text = refl; allowed = refl })
    (λ x xs before mid after q qs. record { text = q.text ∙ ap (scripts.item x) qs.text; allowed = both_true q.allowed qs.allowed }) ts
