-- The numbers of a program's statements are those of calls, blocks and arrays that it has.
use Rattle.std.proofs.Common.{◌≡◌, ℕ, ◌+◌, ◌<◌, true, false, if◌then◌else◌, bytes_eq, Option, Some, None, option_map, option_and_then, List, [], ◌∷◌, ◌++◌, length, map, ℤ, pos, refl, sym, ap, ◌∙◌, arith}
use Rattle.std.specs.Prelude.{All, is_some, unwrap_or, count_by, get_or}
use Rattle.std.proofs.lemmas.Bool.{false≢true}
use Rattle.std.proofs.lemmas.List.{length-append, length-map}
use Rattle.std.proofs.lemmas.Option.{none-some}
use Rattle.pts_types.specs.declared.value.Kind.{Kind}
use Rattle.pts_tree.specs.declared.script.Item.{Item}
use Rattle.pts_tree.specs.declared.script.Item.TheVariants as items
use Rattle.pts_rules.specs.declared.meaning.Meaning.{Meaning}
use Rattle.pts_rules.specs.declared.meaning.Meaning.TheVariants.{Constant, Array, Function, Value, View}
use Rattle.pts_rules.specs.Known.{Entry, Scope, meaning_of, as_array, array_number, is_array, kind_of_array}
use Rattle.pts_rules.specs.Indices.{length_of}
use Rattle.pts_rules.specs.Parts.{Name}
use Rattle.pts_rules.specs.Scopes.{known}
use Rattle.pts_constants.specs.Blocks.{blocks_of}
use Rattle.pts_points.specs.Inside.{lengths}
use Rattle.pts_points.specs.Points.{array_at, calls_of}
use Rattle.pts_points.proofs.Each.{Each}
use Rattle.pts_points.proofs.Each as each
use Rattle.pts_points.proofs.Ranges.{numbered}
use Rattle.pts_program.specs.declared.info.StatementInfo.{StatementInfo}
use Rattle.pts_program.specs.declared.info.StatementInfo.TheVariants as statements
use Rattle.pts_program.specs.declared.lists.Lists.{Lists}
use Rattle.pts_program.specs.Lists.{arrays_of, no_lists, statements_of, with_item, IsProgram}
use Rattle.pts_program.specs.Matching.{IsNumbered}
use Rattle.pts_program.proofs.Declared.{known_more}
use Rattle.pts_program.proofs.Insides.{size, sizes_more}
use Rattle.pts_program.proofs.ItemTurns.{IsTurn, by_items}
use Rattle.pts_program.proofs.Keeping.{Keeps}

-- ---- the number of an array

-- what is known of a number among lengths
abbrev IsPlace : List ℤ → Option ℕ → ℤ → Type 0
IsPlace sizes None z = z ≡ pos 0
IsPlace sizes (Some n) z = (get_or sizes n (pos 0) ≡ z) × (n < length sizes)

below : (sizes : List ℤ) (o : Option ℕ) (z : ℤ) → IsPlace sizes o z → (o ≡ None → ⊥) → elim o [ None ↦ 0 | Some n ↦ n ] < length sizes
below sizes None z h some = absurd (some refl)
below sizes (Some n) z h some = h.1

-- an array has a number
not_lost : (scope : Scope) (name : Name) (kind : Kind) (z : ℤ) → meaning_of scope name ≡ Some (Array kind z) → array_number scope name ≡ None → ⊥
not_lost [] name kind z is none = none-some (Array kind z) is
not_lost (entry ∷ scope) name kind z is none =
    elim (bytes_eq name entry.0) as (λ b.
    (if b then Some entry.1 else meaning_of scope name) ≡ Some (Array kind z)
    → (if b then (if is_array entry.1 then Some (count_by (λ e. is_array e.1) scope) else None) else array_number scope name) ≡ None
    → ⊥) [
      | true ↦ λ found lost.
          none-some (count_by (λ (e : Entry). is_array e.1) scope)
          (sym lost ∙ ap (λ b. if b then Some (count_by (λ (e : Entry). is_array e.1) scope) else None) (ap is_array (ap (λ o. unwrap_or o (Array kind z)) found)))
      | false ↦ λ found lost. not_lost scope name kind z found lost
    ] is none

has_number : (scope : Scope) (name : Name) (o : Option Meaning) → meaning_of scope name ≡ o → is_some (option_map (λ x. x.0) (option_and_then as_array o)) ≡ true → array_number scope name ≡ None → ⊥
has_number scope name None is some none = false≢true some
has_number scope name (Some (Constant z)) is some none = false≢true some
has_number scope name (Some (Array kind size)) is some none = not_lost scope name kind size is none
has_number scope name (Some (Function f)) is some none = false≢true some
has_number scope name (Some (Value kind)) is some none = false≢true some
has_number scope name (Some (View kind)) is some none = false≢true some

array_within : (scope : Scope) (name : Name) → is_some (kind_of_array scope name) ≡ true → array_at scope name < length (lengths scope)
array_within scope name some = below (lengths scope) (array_number scope name) (length_of scope name) (numbered scope name) (has_number scope name (meaning_of scope name) refl some)

-- ---- one item more

-- what is in a list is in it where more stand behind
still_below : {A : Type 0} (n : ℕ) (xs ys : List A) → n < length xs → n < length (xs ++ ys)
still_below n xs ys h = let e = length-append xs ys in omega (arith, e, h)

next_below : {A : Type 0} (xs ys : List A) (y : A) → length xs < length (xs ++ y ∷ ys)
next_below xs ys y = let e = length-append xs (y ∷ ys) in omega (arith, e)

still_numbered : (scope : Scope) (n : ℕ) (lists : Lists) (x : Item) (s : StatementInfo) → IsNumbered lists s → IsNumbered (with_item scope n lists x) s
still_numbered scope n lists x (statements.Call c) h = still_below c lists.calls (calls_of scope n (length lists.calls) x) h
still_numbered scope n lists x (statements.Block c) h = still_below c lists.blocks (blocks_of scope n x) h
still_numbered scope n lists x (statements.Print c) h = still_below c lists.arrays (arrays_of scope x) h

record AreNumbered (before : List Item) (lists : Lists) : Type 0 where
  pub sizes : map size lists.arrays ≡ lengths (known before)
  pub statements : Each (IsNumbered lists) lists.statements

new_numbered : (before : List Item) (x : Item) (lists : Lists) → Keeps before x → map size lists.arrays ≡ lengths (known before)
    → Each (IsNumbered (with_item (known before) (length before + 1) lists x)) (statements_of (known before) (length lists.calls) (length lists.blocks) x)
new_numbered before (items.Const x) lists keeps sizes = tt
new_numbered before (items.Array x) lists keeps sizes = tt
new_numbered before (items.Function x) lists keeps sizes = tt
new_numbered before (items.Call x) lists keeps sizes = (next_below lists.calls _ _, tt)
new_numbered before (items.Loop x) lists keeps sizes = (next_below lists.calls _ _, tt)
new_numbered before (items.Block x) lists keeps sizes = (next_below lists.blocks _ _, tt)
new_numbered before (items.Print x) lists keeps sizes =
    let within = array_within (known before) x keeps.right in
    let count = ap length sizes in
    let same = length-map lists.arrays size in
    let all = length-append lists.arrays (arrays_of (known before) (items.Print x)) in
    (omega (arith, within, count, same, all), tt)

numbered_turn : IsTurn AreNumbered
numbered_turn before x lists keeps written h = record {
  sizes = sizes_more before x lists.arrays keeps h.sizes ∙ ap lengths (sym (known_more before x));
  statements =
      let next : Lists = with_item (known before) (length before + 1) lists x in
      each.both (IsNumbered next) lists.statements (statements_of (known before) (length lists.calls) (length lists.blocks) x)
      (each.weaker (IsNumbered lists) (IsNumbered next) (still_numbered (known before) (length before + 1) lists x) lists.statements h.statements)
      (new_numbered before x lists keeps h.sizes);
}

nothing_numbered : AreNumbered [] no_lists
unfolding known
nothing_numbered = record { sizes = refl; statements = tt }

pub statements_numbered : (lists : Lists) → IsProgram lists → All (IsNumbered lists) lists.statements
statements_numbered lists h = each.all_of (IsNumbered lists) lists.statements (by_items AreNumbered numbered_turn nothing_numbered lists h).statements
