-- In what is left of a statement without constants every sum is one number.
use Rattle.std.proofs.Common.{◌≡◌, ◌+◌, Bool, true, Option, Some, None, option_map, List, [], ◌∷◌, length, map, refl}
use Rattle.std.specs.Prelude.{All}
use Rattle.std.specs.List.{list_all}
use Rattle.pts_tree.specs.Spelling.{if_there}
use Rattle.pts_tree.specs.declared.sum.Val.{Val}
use Rattle.pts_tree.specs.declared.sum.Val.TheVariants as vals
use Rattle.pts_tree.specs.declared.loops.Clause.{Clause}
use Rattle.pts_tree.specs.declared.loops.Clause.TheVariants as clauses
use Rattle.pts_tree.specs.declared.loops.Initial.{Initial}
use Rattle.pts_tree.specs.declared.loops.Initial.TheVariants as initials
use Rattle.pts_tree.specs.declared.script.Item.{Item}
use Rattle.pts_rules.specs.Known.{Scope}
use Rattle.pts_rules.specs.Parts.{Simple, Throw, Assign, Call, Loop, statements}
use Rattle.pts_rules.specs.Scopes.{known}
use Rattle.pts_constants.specs.Blocks.{blocks_of}
use Rattle.pts_constants.specs.Resolved.{resolved_cell, resolved_clause, resolved_initial, resolved_range, resolved_sum, resolved_val}
use Rattle.pts_constants.specs.Texts.{texts_of}
use Rattle.pts_points.proofs.Each.{Each}
use Rattle.pts_points.proofs.Each as each
use Rattle.pts_program.specs.declared.lists.Lists.{Lists}
use Rattle.pts_program.specs.Lists.{no_lists, IsProgram}
use Rattle.pts_program.specs.Namings.{HoldsIn, HoldsOf}
use Rattle.pts_program.specs.Plain.{IsPlain, is_plain, plain_cell, plain_clause, plain_initial, plain_range, plain_sum, plain_val}
use Rattle.pts_program.proofs.ItemTurns.{IsTurn, by_items}
use Rattle.pts_program.proofs.InnerStatements.{Without, blocks_hold, texts_hold}
use Rattle.pts_program.proofs.Replaced.{resolved_simple}
use Rattle.pts_program.proofs.Truths.{both}

-- what holds of each part that is made holds where there is one
made : {A : Type 0} (f : A → A) (p : A → Bool) → ((x : A) → p (f x) ≡ true) → (o : Option A) → if_there p (option_map f o) ≡ true
made f p all None = refl
made f p all (Some x) = all x

module _ (scope : Scope) where
  val_plain : (x : Val) → plain_val (resolved_val scope x) ≡ true
  val_plain (vals.Sum x) = refl
  val_plain vals.True = refl
  val_plain vals.False = refl

  initial_plain : (x : Initial) → plain_initial (resolved_initial scope x) ≡ true
  initial_plain (initials.Val x) = val_plain x
  initial_plain (initials.Cell x) = refl

  clause_plain : (x : Clause) → plain_clause (resolved_clause scope x) ≡ true
  clause_plain (clauses.Reduce x) = made (resolved_val scope) plain_val val_plain x.identity
  clause_plain (clauses.Induct x) = both _ _ (initial_plain x.initial) (made (resolved_sum scope) plain_sum (λ y. refl) x.step)

  clauses_plain : (xs : List Clause) → list_all plain_clause (map (resolved_clause scope) xs) ≡ true
  clauses_plain [] = refl
  clauses_plain (x ∷ xs) = both (plain_clause (resolved_clause scope x)) (list_all plain_clause (map (resolved_clause scope) xs)) (clause_plain x) (clauses_plain xs)

  plain_without : (s : Simple) → is_plain (resolved_simple scope s) ≡ true
  plain_without (Throw n) = refl
  plain_without (Assign at x) = refl
  plain_without (Call x) =
      both _ _ (both _ _ (both _ _ (made (resolved_range scope) plain_range (λ y. refl) x.second) (made (resolved_range scope) plain_range (λ y. refl) x.target)) (made (resolved_val scope) plain_val val_plain x.init))
      (made (resolved_cell scope) plain_cell (λ y. refl) x.store)
  plain_without (Loop x) = both _ _ (made (resolved_sum scope) plain_sum (λ y. refl) x.step) (clauses_plain x.clauses)

  all_plain : (ss : List Simple) → Each (Without IsPlain scope) ss
  all_plain [] = tt
  all_plain (s ∷ ss) = (plain_without s, all_plain ss)

-- ---- all items

record ArePlain (before : List Item) (lists : Lists) : Type 0 where
  pub texts : Each (HoldsOf IsPlain) lists.texts
  pub blocks : Each (HoldsIn IsPlain) lists.blocks

plain_turn : IsTurn ArePlain
plain_turn before x lists keeps written h =
    let scope = known before in
    record {
      texts = each.both (HoldsOf IsPlain) lists.texts (texts_of scope x) h.texts (texts_hold IsPlain scope (statements x) (all_plain scope (statements x)));
      blocks = each.both (HoldsIn IsPlain) lists.blocks (blocks_of scope (length before + 1) x) h.blocks (blocks_hold IsPlain scope (length before + 1) x (all_plain scope (statements x)));
    }

nothing_plain : ArePlain [] no_lists
nothing_plain = record { texts = tt; blocks = tt }

pub texts_are_plain : (lists : Lists) → IsProgram lists → All (HoldsOf IsPlain) lists.texts
texts_are_plain lists h = each.all_of (HoldsOf IsPlain) lists.texts (by_items ArePlain plain_turn nothing_plain lists h).texts

pub blocks_are_plain : (lists : Lists) → IsProgram lists → All (HoldsIn IsPlain) lists.blocks
blocks_are_plain lists h = each.all_of (HoldsIn IsPlain) lists.blocks (by_items ArePlain plain_turn nothing_plain lists h).blocks
