-- Each rule by itself, of an item that breaks none.
use Rattle.std.proofs.Common.{◌≡◌, ℕ, Bool, true, false, IsTrue, List, refl}
use Rattle.std.specs.Prelude.{count_by, not}
use Rattle.std.proofs.lemmas.Bool.{or_parts}
use Rattle.pts_tree.specs.declared.script.Item.{Item}
use Rattle.pts_rules.specs.Indices.{is_not_affine, is_out_at}
use Rattle.pts_rules.specs.Limits.{cells, is_statement, is_too_deep, is_too_many}
use Rattle.pts_rules.specs.Mistyped.{item_right}
use Rattle.pts_rules.specs.Names.{is_twice, is_unknown}
use Rattle.pts_rules.specs.Scopes.{known}
use Rattle.pts_rules.specs.Steps.{is_bad_identity, is_bad_step, is_backward_range, lengths_differ}
use Rattle.pts_program.specs.Faults.{IsClean}

pub record Keeps (before : List Item) (x : Item) : Type 0 where
  pub named : is_unknown (known before) x ≡ false
  pub once : is_twice (known before) x ≡ false
  pub right : item_right (known before) x ≡ true
  pub shallow : is_too_deep (known before) x ≡ false
  pub few : is_too_many (known before) (count_by is_statement before) (cells (known before)) x ≡ false
  pub steps : is_bad_step (known before) x ≡ false
  pub forward : is_backward_range (known before) x ≡ false
  pub lengths : lengths_differ (known before) x ≡ false
  pub identities : is_bad_identity (known before) x ≡ false
  pub affine : is_not_affine (known before) x ≡ false
  pub stays : (p : ℕ) → is_out_at (known before) x p ≡ false

on : (b : Bool) → not b ≡ false → b ≡ true
on true h = refl
on false h = absurd (cc)

off : (b : Bool) → ¬ IsTrue b → b ≡ false
off true h = absurd (h refl)
off false h = refl

pub keeps_all : (version : ℕ) (before : List Item) (x : Item) → IsClean version before x → Keeps before x
keeps_all version before x clean =
    let unknown = or_parts (is_unknown (known before) x) _ clean.none in
    let twice = or_parts (is_twice (known before) x) _ unknown.1 in
    let mistyped = or_parts (not (item_right (known before) x)) _ twice.1 in
    let deep = or_parts (is_too_deep (known before) x) _ mistyped.1 in
    let many = or_parts (is_too_many (known before) (count_by is_statement before) (cells (known before)) x) _ deep.1 in
    let steps = or_parts (is_bad_step (known before) x) _ many.1 in
    let backward = or_parts (is_backward_range (known before) x) _ steps.1 in
    let lengths = or_parts (lengths_differ (known before) x) _ backward.1 in
    let identities = or_parts (is_bad_identity (known before) x) _ lengths.1 in
    let affine = or_parts (is_not_affine (known before) x) _ identities.1 in
    record {
      named = unknown.0;
      once = twice.0;
      right = on _ mistyped.0;
      shallow = deep.0;
      few = many.0;
      steps = steps.0;
      forward = backward.0;
      lengths = lengths.0;
      identities = identities.0;
      affine = affine.0;
      stays = λ p. off _ (clean.stays p);
    }
