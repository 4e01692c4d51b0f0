-- The texts of a program are right among the names of its arrays and functions.
use Rattle.std.proofs.Common.{◌≡◌, ◌+◌, ◌&&◌, true, Option, Some, None, List, [], ◌∷◌, ◌++◌, length, refl, ap, ◌∙◌, subst}
use Rattle.std.specs.Prelude.{All, is_some}
use Rattle.std.proofs.lemmas.Bool.{and_parts, or_parts, false≢true}
use Rattle.std.proofs.lemmas.List.Elements.{All-head, All-tail}
use Rattle.pts_types.specs.declared.value.Kind.{Kind}
use Rattle.pts_tree.specs.Expressions.{expr_allowed}
use Rattle.pts_tree.specs.Scripts.{item_allowed}
use Rattle.pts_tree.specs.declared.sum.Cell.{Cell}
use Rattle.pts_tree.specs.declared.expr.Expr.{Expr}
use Rattle.pts_tree.specs.declared.script.Item.{Item}
use Rattle.pts_tree.specs.declared.script.Item.TheVariants as items
use Rattle.pts_rules.specs.declared.meaning.Meaning.{Meaning}
use Rattle.pts_rules.specs.declared.meaning.Meaning.TheVariants.{Constant, Array, Function}
use Rattle.pts_rules.specs.Kinds.{fits}
use Rattle.pts_rules.specs.Known.{Scope, has, kind_of_array, meaning_of, number}
use Rattle.pts_rules.specs.Mistyped.{cell_right, statement_right}
use Rattle.pts_rules.specs.Names.{has_repeat, meet, names_in}
use Rattle.pts_rules.specs.Parts.{Name, Simple, Throw, Assign, Call, Loop, statement_locals, statements}
use Rattle.pts_rules.specs.Scopes.{after, known, signature}
use Rattle.pts_constants.specs.Blocks.{blocks_of}
use Rattle.pts_constants.specs.Resolved.{resolved_cell, resolved_expr}
use Rattle.pts_constants.specs.Texts.{texts_of}
use Rattle.pts_points.specs.Inside.{IsSound}
use Rattle.pts_points.proofs.Each.{Each}
use Rattle.pts_points.proofs.Each as each
use Rattle.pts_program.specs.declared.lists.Lists.{Lists}
use Rattle.pts_program.specs.Lists.{no_lists, IsProgram}
use Rattle.pts_program.specs.Namings.{HoldsIn, HoldsOf, IsRight, names_of}
use Rattle.pts_program.proofs.Allowed.{Allowed, Apart, item_apart, item_has}
use Rattle.pts_program.proofs.Declared.{known_more}
use Rattle.pts_program.proofs.ItemTurns.{IsTurn, by_items}
use Rattle.pts_program.proofs.Keeping.{Keeps}
use Rattle.pts_program.proofs.KeptBodies.{IsCarried, loop_still, outside, shown_apart}
use Rattle.pts_program.proofs.InnerStatements.{Without, blocks_hold, texts_hold}
use Rattle.pts_program.proofs.KeptCalls.{Agrees, call_still, cell_still, kind_same}
use Rattle.pts_program.proofs.KeptKinds.{resolved_fits}
use Rattle.pts_program.proofs.Replaced.{resolved_simple}
use Rattle.pts_program.proofs.Shown.{AreShown, all_shown, array_means, function_means, new_name, nothing_shown, shown_turn, still_means}
use Rattle.pts_program.proofs.SoundStatements.{sound_statements}

-- ---- one statement

-- what is known of a statement of an item that breaks no rule
pub record IsReady (scope : Scope) (s : Simple) : Type 0 where
  pub allowed : Allowed s
  pub apart : Apart (names_in scope ++ []) s
  pub sound : IsSound scope s

-- a statement that is right among these names
abbrev pub IsRightAmong : Scope → Simple → Type 0
IsRightAmong names s = statement_right names s ≡ true

module _ (scope names : Scope) (agrees : Agrees scope names) (out : IsCarried scope scope names) where
  assign_still : (at : Cell) (x : Expr) (o : Option Kind) → kind_of_array scope at.array ≡ o → expr_allowed x ≡ true → has (λ kind. cell_right scope kind at && fits true scope kind x) o ≡ true
      → has (λ kind. cell_right names kind (resolved_cell scope at) && fits true names kind (resolved_expr scope x)) (kind_of_array names at.array) ≡ true
  assign_still at x None is allowed h = absurd (false≢true h)
  assign_still at x (Some kind) is allowed h =
      let parts = and_parts (cell_right scope kind at) (fits true scope kind x) h in
      ap (has (λ kind. cell_right names kind (resolved_cell scope at) && fits true names kind (resolved_expr scope x))) (kind_same scope names agrees at.array (ap is_some is) ∙ is)
      ∙ (λ i. (cell_still scope names agrees kind at parts.0 i) && fits true names kind (resolved_expr scope x))
      ∙ resolved_fits true scope scope names out.expressions kind x allowed parts.1

  statement_still : (s : Simple) → IsReady scope s → IsRightAmong names (resolved_simple scope s)
  statement_still (Throw n) h = h.sound.right
  statement_still (Assign at x) h = assign_still at x (kind_of_array scope at.array) refl h.allowed h.sound.right
  statement_still (Call x) h = call_still scope names agrees x h.sound.right
  statement_still (Loop x) h =
      let apart = (or_parts (has_repeat (statement_locals (Loop x))) (meet (statement_locals (Loop x)) (names_in scope ++ [])) h.apart).1 in
      loop_still scope names agrees out x h.allowed (shown_apart scope [] (statement_locals (Loop x)) apart) h.sound.right

  all_still : (ss : List Simple) → Each (IsReady scope) ss → Each (Without (IsRightAmong names) scope) ss
  all_still ss h = each.weaker (IsReady scope) (Without (IsRightAmong names) scope) statement_still ss h

-- ---- the statements of an item

together : (scope : Scope) (ss : List Simple) → Each Allowed ss → Each (Apart (names_in scope ++ [])) ss → Each (IsSound scope) ss → Each (IsReady scope) ss
together scope [] a b c = tt
together scope (s ∷ ss) a b c = (record { allowed = a.0; apart = b.0; sound = c.0 }, together scope ss a.1 b.1 c.1)

each_of : {A : Type 0} (P : A → Type 0) (xs : List A) → All P xs → Each P xs
each_of P [] h = tt
each_of P (x ∷ xs) h = (All-head P x xs h, each_of P xs (All-tail P x xs h))

pub item_ready : (before : List Item) (x : Item) → Keeps before x → item_allowed x ≡ true → Each (IsReady (known before)) (statements x)
item_ready before x keeps allowed =
    together (known before) (statements x) (item_has x allowed) (item_apart before x keeps) (each_of (IsSound (known before)) (statements x) (sound_statements before x keeps))

-- ---- earlier scopes

abbrev Before : Scope → Scope → Type 0
Before scope next = (name : Name) (m : Meaning) → meaning_of scope name ≡ Some m → meaning_of next name ≡ Some m

-- what agrees with more names agrees with those that were there before
agrees_before : (scope next names : Scope) → Before scope next → Agrees next names → Agrees scope names
agrees_before scope next names kept h = record {
  arrays = λ name kind size is. h.arrays name kind size (kept name (Array kind size) is);
  functions = λ name f is. h.functions name f (kept name (Function f) is);
}

pub kept_behind : (before : List Item) (x : Item) → Keeps before x → Before (known before) (after (known before) x)
kept_behind before (items.Const x) keeps name m is = still_means (known before) x.name name (Constant (number (known before) x.value)) m (new_name (known before) x.name _ keeps.once) is
kept_behind before (items.Array x) keeps name m is = still_means (known before) x.name name (Array x.kind (number (known before) x.length)) m (new_name (known before) x.name _ keeps.once) is
kept_behind before (items.Function x) keeps name m is = still_means (known before) x.name name (Function (signature (known before) x)) m (new_name (known before) x.name _ keeps.once) is
kept_behind before (items.Call x) keeps name m is = is
kept_behind before (items.Loop x) keeps name m is = is
kept_behind before (items.Block x) keeps name m is = is
kept_behind before (items.Print x) keeps name m is = is

-- ---- all items

-- the names of a scope, and the texts and blocks that are right among any names that agree with it
record AreRight (before : List Item) (lists : Lists) : Type 0 where
  pub shown : AreShown (known before) lists.arrays lists.functions
  pub texts : (names : Scope) → Agrees (known before) names → Each (HoldsOf (IsRightAmong names)) lists.texts
  pub blocks : (names : Scope) → Agrees (known before) names → Each (HoldsIn (IsRightAmong names)) lists.blocks

right_turn : IsTurn AreRight
right_turn before x lists keeps written h =
    let scope = known before in
    let earlier : (names : Scope) → Agrees (known (before ++ x ∷ [])) names → Agrees scope names =
    λ names agrees. agrees_before scope (after scope x) names (kept_behind before x keeps) (subst (λ sc. Agrees sc names) (known_more before x) agrees) in
    let still : (names : Scope) → Agrees scope names → Each (Without (IsRightAmong names) scope) (statements x) =
    λ names agrees. all_still scope names agrees (outside scope names h.shown.no_values h.shown.no_views agrees) (statements x) (item_ready before x keeps written.allowed) in
    record {
      shown = shown_turn before x lists keeps written h.shown;
      texts = λ names agrees.
          each.both (HoldsOf (IsRightAmong names)) lists.texts (texts_of scope x) (h.texts names (earlier names agrees))
          (texts_hold (IsRightAmong names) scope (statements x) (still names (earlier names agrees)));
      blocks = λ names agrees.
          each.both (HoldsIn (IsRightAmong names)) lists.blocks (blocks_of scope (length before + 1) x) (h.blocks names (earlier names agrees))
          (blocks_hold (IsRightAmong names) scope (length before + 1) x (still names (earlier names agrees)));
    }

nothing_right : AreRight [] no_lists
nothing_right = record { shown = nothing_shown; texts = λ names agrees. tt; blocks = λ names agrees. tt }

-- the names of the lists agree with those of all items
pub agrees_at_last : (lists : Lists) (h : IsProgram lists) → Agrees (known h.script.items) (names_of lists.arrays lists.functions)
agrees_at_last lists h =
    let s = all_shown lists h in
    record { arrays = array_means (known h.script.items) lists.arrays lists.functions s; functions = function_means (known h.script.items) lists.arrays lists.functions s }

pub all_texts_right : (lists : Lists) → IsProgram lists → All (HoldsOf (IsRight lists)) lists.texts
all_texts_right lists h =
    each.all_of (HoldsOf (IsRight lists)) lists.texts ((by_items AreRight right_turn nothing_right lists h).texts (names_of lists.arrays lists.functions) (agrees_at_last lists h))

pub all_blocks_right : (lists : Lists) → IsProgram lists → All (HoldsIn (IsRight lists)) lists.blocks
all_blocks_right lists h =
    each.all_of (HoldsIn (IsRight lists)) lists.blocks ((by_items AreRight right_turn nothing_right lists h).blocks (names_of lists.arrays lists.functions) (agrees_at_last lists h))
