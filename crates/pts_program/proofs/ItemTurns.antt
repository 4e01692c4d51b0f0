-- What holds of no items, and what each item that breaks no rule keeps, holds of a program.
use Rattle.std.proofs.Common.{◌≡◌, ◌+◌, ◌^◌, ◌<◌, true, List, [], ◌∷◌, ◌++◌, length, sym, ap, ◌∙◌, subst, append-nil, append_assoc, arith}
use Rattle.std.specs.List.{list_all}
use Rattle.std.proofs.lemmas.Bool.{and_parts}
use Rattle.std.proofs.lemmas.List.{length-append}
use Rattle.pts_tree.specs.Scripts.{item, item_allowed}
use Rattle.pts_tree.specs.Spelling.{each}
use Rattle.pts_tree.specs.declared.script.Item.{Item}
use Rattle.pts_tree.specs.declared.script.Script.{Script}
use Rattle.pts_rules.specs.Scopes.{known}
use Rattle.pts_print.proofs.SpelledScripts.{item_front}
use Rattle.pts_syntax.specs.Syntax.{IsSpelled}
use Rattle.pts_points.proofs.Each.{Each}
use Rattle.pts_program.specs.declared.lists.Lists.{Lists}
use Rattle.pts_program.specs.Lists.{no_lists, with_item, with_items, IsProgram}
use Rattle.pts_program.proofs.Insides.{AllKeep, all_items_keep}
use Rattle.pts_program.proofs.Keeping.{Keeps}

-- an item that the grammar spells in fewer than 2^32 tokens
pub record IsWritten (x : Item) : Type 0 where
  pub allowed : item_allowed x ≡ true
  pub few : length (item x []) < 2 ^ 32

-- what such an item keeps, if it breaks no rule
abbrev pub IsTurn : (List Item → Lists → Type 0) → Type 0
IsTurn Q = (before : List Item) (x : Item) (lists : Lists) → Keeps before x → IsWritten x → Q before lists → Q (before ++ x ∷ []) (with_item (known before) (length before + 1) lists x)

all_written : (xs : List Item) → list_all item_allowed xs ≡ true → length (each item xs []) < 2 ^ 32 → Each IsWritten xs
all_written [] allowed few = tt
all_written (x ∷ xs) allowed few =
    let parts = and_parts (item_allowed x) (list_all item_allowed xs) allowed in
    let rest = each item xs [] in
    let size : length (item x rest) ≡ length (item x []) + length rest = ap length ((item_front x).stands [] rest) ∙ length-append (item x []) rest in
    (record { allowed = parts.0; few = omega (arith, few, size) }, all_written xs parts.1 (omega (arith, few, size)))

pub items_written : (script : Script) → IsSpelled script → Each IsWritten script.items
items_written script h = all_written script.items (and_parts _ _ h.writable.allowed).1 (let few = h.few in omega (arith, few))

module _ (Q : List Item → Lists → Type 0) (turn : IsTurn Q) where
  all_turns : (before rest : List Item) (lists : Lists) → AllKeep before rest → Each IsWritten rest → Q before lists → Q (before ++ rest) (with_items before lists rest)
  all_turns before [] lists keeps written h = subst (λ xs. Q xs lists) (sym (append-nil before)) h
  all_turns before (x ∷ rest) lists keeps written h =
      let next : Lists = with_item (known before) (length before + 1) lists x in
      subst (λ xs. Q xs (with_items (before ++ x ∷ []) next rest)) (append_assoc before (x ∷ []) rest)
      (all_turns (before ++ x ∷ []) rest next keeps.1 written.1 (turn before x lists keeps.0 written.0 h))

  pub by_items : Q [] no_lists → (lists : Lists) (h : IsProgram lists) → Q h.script.items lists
  by_items start lists h =
      subst (Q h.script.items) (sym h.made)
      (all_turns [] h.script.items no_lists (all_items_keep h.script h.sound) (items_written h.script h.spelled) start)
