-- The statements of an item that breaks no rule.
use Rattle.std.proofs.Common.{◌≡◌, ℕ, ◌+◌, ◌<◌, ◌^◌, true, false, List, [], ◌∷◌, length, sym, ◌∙◌, arith}
use Rattle.std.specs.Prelude.{flat_map, nat_lt, count_by, ◌||◌, All}
use Rattle.std.specs.List.{list_all, list_any}
use Rattle.std.proofs.lemmas.Bool.{and_parts, or_parts}
use Rattle.std.proofs.lemmas.Bool.Decides.{nat_tests}
use Rattle.pts_tree.specs.declared.block.Block.{Block}
use Rattle.std.proofs.lemmas.List.Elements.{All-nil, All-cons}
use Rattle.std.proofs.lemmas.List.Folds.{list_any-append}
use Rattle.pts_tree.specs.declared.script.Item.{Item}
use Rattle.pts_tree.specs.declared.script.Item.TheVariants as items
use Rattle.pts_rules.specs.Parts.{Simple, statements}
use Rattle.pts_rules.specs.Known.{Scope}
use Rattle.pts_rules.specs.Scopes.{known}
use Rattle.pts_rules.specs.Counts.{runs}
use Rattle.pts_rules.specs.Indices.{is_not_affine, is_out_at, leaves, reaches}
use Rattle.pts_rules.specs.Limits.{cells, has_many, is_long, is_statement, is_too_many, points}
use Rattle.pts_rules.specs.Mistyped.{item_right, statement_right}
use Rattle.pts_rules.specs.Steps.{goes_backward, is_backward_range}
use Rattle.pts_points.specs.Inside.{IsSound}
use Rattle.pts_points.specs.Points.{item_points}
use Rattle.pts_points.proofs.Countings.{list_counted}
use Rattle.pts_program.proofs.Keeping.{Keeps}

stays_apart : (scope : Scope) (p : ℕ) (s : Simple) (ss : List Simple) → list_any (leaves p) (flat_map (reaches scope) (s ∷ ss)) ≡ false
    → (list_any (leaves p) (reaches scope s) ≡ false) × (list_any (leaves p) (flat_map (reaches scope) ss) ≡ false)
stays_apart scope p s ss h = or_parts _ _ (sym (list_any-append (leaves p) (reaches scope s) (flat_map (reaches scope) ss)) ∙ h)

all_sound : (scope : Scope) (ss : List Simple) → list_all (statement_right scope) ss ≡ true → list_any (goes_backward scope) ss ≡ false → list_any (is_long scope) ss ≡ false
    → ((p : ℕ) → list_any (leaves p) (flat_map (reaches scope) ss) ≡ false) → All (IsSound scope) ss
all_sound scope [] right forward short stays = All-nil (IsSound scope)
all_sound scope (s ∷ ss) right forward short stays =
    let r = and_parts (statement_right scope s) (list_all (statement_right scope) ss) right in
    let f = or_parts (goes_backward scope s) (list_any (goes_backward scope) ss) forward in
    let l = or_parts (is_long scope s) (list_any (is_long scope) ss) short in
    All-cons (IsSound scope) s ss (record { right = r.0; forward = f.0; short = l.0; stays = λ p. (stays_apart scope p s ss (stays p)).0 })
    (all_sound scope ss r.1 f.1 l.1 (λ p. (stays_apart scope p s ss (stays p)).1))

-- an item that is right and within the limits, and whose ranges and indices are right
module _ (scope : Scope) (before held : ℕ) where
  none_long : (x : Item) → has_many scope before x ≡ false → list_any (is_long scope) (statements x) ≡ false
  none_long x h = (or_parts (nat_lt 4096 (before + 1) || nat_lt 1024 (points x)) (list_any (is_long scope) (statements x)) h).1

  by_parts : (x : Item) → list_all (statement_right scope) (statements x) ≡ true → is_backward_range scope x ≡ false → ((p : ℕ) → is_out_at scope x p ≡ false)
      → has_many scope before x ≡ false → All (IsSound scope) (statements x)
  by_parts x right forward stays few = all_sound scope (statements x) right forward (none_long x few) stays

  many_of_block : (x : Block) → is_too_many scope before held (items.Block x) ≡ false → has_many scope before (items.Block x) ≡ false
  many_of_block x few = (or_parts (list_any (nat_lt 64) (runs x)) (has_many scope before (items.Block x)) few).1

  pub sound_of : (x : Item) → item_right scope x ≡ true → is_too_many scope before held x ≡ false → is_backward_range scope x ≡ false → ((p : ℕ) → is_out_at scope x p ≡ false)
      → All (IsSound scope) (statements x)
  sound_of (items.Const x) right few forward stays = All-nil (IsSound scope)
  sound_of (items.Array x) right few forward stays = All-nil (IsSound scope)
  sound_of (items.Function x) right few forward stays = All-nil (IsSound scope)
  sound_of (items.Print x) right few forward stays = All-nil (IsSound scope)
  sound_of (items.Call x) right few forward stays = by_parts (items.Call x) right forward stays few
  sound_of (items.Loop x) right few forward stays = by_parts (items.Loop x) right forward stays few
  sound_of (items.Block x) right few forward stays = by_parts (items.Block x) right forward stays (many_of_block x few)

  few_by : (x : Item) (earlier : ℕ) → is_not_affine scope x ≡ false → has_many scope before x ≡ false → length (item_points scope earlier x) < 2 ^ 32
  few_by x earlier affine few =
      let rest = or_parts (nat_lt 4096 (before + 1) || nat_lt 1024 (points x)) (list_any (is_long scope) (statements x)) few in
      let limit = (or_parts (nat_lt 4096 (before + 1)) (nat_lt 1024 (points x)) rest.0).1 in
      let count : length (item_points scope earlier x) ≡ points x = list_counted scope earlier x affine in
      grind (arith, nat_tests, limit, count)

  -- and it has few points
  pub few_points : (x : Item) (earlier : ℕ) → is_too_many scope before held x ≡ false → is_not_affine scope x ≡ false → length (item_points scope earlier x) < 2 ^ 32
  few_points (items.Const x) earlier few affine = omega arith
  few_points (items.Array x) earlier few affine = omega arith
  few_points (items.Function x) earlier few affine = omega arith
  few_points (items.Print x) earlier few affine = omega arith
  few_points (items.Call x) earlier few affine = few_by (items.Call x) earlier affine few
  few_points (items.Loop x) earlier few affine = few_by (items.Loop x) earlier affine few
  few_points (items.Block x) earlier few affine = few_by (items.Block x) earlier affine (many_of_block x few)

-- the statements of an item that breaks no rule are sound
pub sound_statements : (before : List Item) (x : Item) → Keeps before x → All (IsSound (known before)) (statements x)
sound_statements before x keeps = sound_of (known before) (count_by is_statement before) (cells (known before)) x keeps.right keeps.few keeps.forward keeps.stays
