-- The builder on its way through a script.
use Rattle.std.proofs.Common.{◌≡◌, ℕ, zero, suc, ◌+◌, ◌<◌, ◌≤◌, ◌⊎◌, inl, inr, List, [], ◌∷◌, ◌++◌, Some, length, take, drop, get_or, slice_get, refl, sym, ap, ◌∙◌, subst, arith}
use Rattle.std.proofs.lemmas.Bool.{cases_lt}
use Rattle.std.proofs.lemmas.List.{drop_more, drop_all, take-append-drop}
use Rattle.std.proofs.lemmas.Option.{slice_get-get_or}
use Rattle.pts_tree.specs.declared.script.Item.{Item}
use Rattle.pts_tree.specs.declared.script.Script.{Script}
use Rattle.pts_syntax.specs.Syntax.{IsSpelled}
use Rattle.pts_syntax.proofs.Writable.{few_items}
use Rattle.pts_program.specs.declared.builder.Builder.{Builder}
use Rattle.pts_program.specs.declared.fault.BuildFault.{BuildFault}
use Rattle.pts_program.specs.declared.fault.BuildFault.TheVariants.{NoMemory}
use Rattle.pts_program.specs.declared.lists.Lists.{Lists}
use Rattle.pts_rules.specs.Scopes.{known}
use Rattle.pts_lowering.specs.Fitting.{HasNumbers}
use Rattle.pts_program.specs.Building.{CanAdd, IsUnderWay}
use Rattle.pts_program.specs.Findings.{IsItemFault}
use Rattle.pts_program.specs.Faults.{IsClean, IsCleanAt, IsFaultAt, IsFaultOf, IsSound}
use Rattle.pts_program.specs.Lists.{lists_of, no_lists, with_item, with_items, IsProgram}
use Rattle.pts_program.specs.Standings.{IsStanding}
use Rattle.pts_program.proofs.Decisions.{clean-at, fault-at, past-end}
use Rattle.pts_program.proofs.FunctionNumbers.{few_functions}
use Rattle.pts_program.proofs.Insides.{scope_room}

-- the item at place n, as an equation
item_at_place : (xs : List Item) (n : ℕ) (x : Item) → n < length xs → x ≡ get_or xs n x → slice_get xs n ≡ Some x
item_at_place xs n x within is = slice_get-get_or xs n x within ∙ ap Some (sym is)

split_at : (xs : List Item) (n : ℕ) (x : Item) → n < length xs → x ≡ get_or xs n x → drop n xs ≡ x ∷ drop (n + 1) xs
split_at xs n x within is = drop_more xs n x within ∙ ap (λ (y : Item). y ∷ drop (n + 1) xs) (sym is)

front_more : (xs : List Item) (n : ℕ) (x : Item) → n < length xs → x ≡ get_or xs n x → take (n + 1) xs ≡ take n xs ++ x ∷ []
front_more [] n x within is = absurd (omega (arith, within))
front_more (y ∷ xs) zero x within is = ap (λ (z : Item). z ∷ []) (sym is)
front_more (y ∷ xs) (suc n) x within is =
    let e : suc n + 1 ≡ suc (n + 1) = omega arith in
    ap (λ m. take m (y ∷ xs)) e ∙ ap (λ (zs : List Item). y ∷ zs) (front_more xs n x (omega (arith, within)) is)

length_front : (xs : List Item) (n : ℕ) → n < length xs → length (take n xs) ≡ n
length_front [] n within = absurd (omega (arith, within))
length_front (y ∷ xs) zero within = refl
length_front (y ∷ xs) (suc n) within = ap suc (length_front xs n (omega (arith, within)))

-- item 0 is none
none_before : (script : Script) (m : ℕ) → m ≤ 0 → IsCleanAt script m
none_before script zero le = tt
none_before script (suc m) le = absurd (omega (arith, le))

pub started : (script : Script) (builder : Builder) → IsStanding [] builder.standing → builder.lists ≡ no_lists → builder.items ≡ 0 → builder.standing.statements ≡ 0
    → IsUnderWay script 0 builder
started script builder standing lists items none = record {
  standing = standing;
  lists = ap (λ (l : Lists). with_items [] l script.items) lists;
  items = items;
  statements = omega (arith, none);
  sound = none_before script;
}

sound_more : (script : Script) (n : ℕ) (x : Item) → slice_get script.items n ≡ Some x → ((m : ℕ) → m ≤ n → IsCleanAt script m)
    → IsClean script.version (take n script.items) x → (m : ℕ) → m ≤ n + 1 → IsCleanAt script m
sound_more script n x is sound clean m le =
    elim (cases_lt n m) [
      | inl more ↦
          let e : m ≡ n + 1 = omega (arith, more, le) in
          subst (λ k. IsCleanAt script k) (sym e) ((clean-at script n x is).1 clean)
      | inr less ↦ sound m less
    ]

pub one_more : (script : Script) (n : ℕ) (x : Item) (old new : Builder) → IsUnderWay script n old → n < length script.items → x ≡ get_or script.items n x
    → IsClean script.version (take n script.items) x → IsStanding (take n script.items ++ x ∷ []) new.standing
    → new.lists ≡ with_item old.standing.scope (old.items + 1) old.lists x → new.items ≡ old.items + 1 → new.standing.statements ≤ old.standing.statements + 1
    → IsUnderWay script (n + 1) new
one_more script n x old new way within is clear standing lists items statements =
    let front = front_more script.items n x within is in
    let back = split_at script.items n x within is in
    let count : length (take n script.items) + 1 ≡ old.items + 1 = ap (λ k. k + 1) (length_front script.items n within ∙ sym way.items) in
    record {
      standing = subst (λ (xs : List Item). IsStanding xs new.standing) (sym front) standing;
      lists =
          (λ i. with_items (front i) (lists i) (drop (n + 1) script.items))
          ∙ (λ i. with_items (take n script.items ++ x ∷ []) (with_item (way.standing.scope i) (sym count i) old.lists x) (drop (n + 1) script.items))
          ∙ ap (λ (rest : List Item). with_items (take n script.items) old.lists rest) (sym back)
          ∙ way.lists;
      items = let e = way.items in omega (arith, items, e);
      statements = let s = way.statements in omega (arith, items, statements, s);
      sound = sound_more script n x (item_at_place script.items n x within is) way.sound clear;
    }

-- behind the last item
pub finished : (script : Script) (n : ℕ) (builder : Builder) → IsUnderWay script n builder → length script.items ≤ n → IsSound script × (builder.lists ≡ lists_of script)
finished script n builder way past = (
  λ m. elim (cases_lt n m) [ inl more ↦ past-end script m (omega (arith, more, past)) | inr less ↦ way.sound m less ],
  ap (λ (rest : List Item). with_items (take n script.items) builder.lists rest) (sym (drop_all n script.items past)) ∙ way.lists,
)

-- and then the lists are those of a program
pub programmed : (script : Script) (n : ℕ) (builder : Builder) → IsUnderWay script n builder → length script.items ≤ n → IsSpelled script → IsProgram builder.lists
programmed script n builder way past spelled =
    let end = finished script n builder way past in
    record { script = script; sound = end.0; spelled = spelled; made = end.1 }

-- the fault of an item whose earlier ones break no rule is that of the script
refused : (script : Script) (n : ℕ) (x : Item) (builder : Builder) (fault : BuildFault) → IsUnderWay script n builder → n < length script.items → x ≡ get_or script.items n x
    → IsItemFault (take n script.items) x (builder.items + 1) fault → IsFaultAt script (n + 1) fault
refused script n x builder fault way within is f =
    let here = item_at_place script.items n x within is in
    let count : builder.items + 1 ≡ n + 1 = ap (λ k. k + 1) way.items in
    record {
      earlier = λ m less. way.sound m (omega (arith, less));
      here = fault-at script n x fault here (subst (λ k. IsFaultOf script.version (take n script.items) x k fault) count (f.in_each script.version));
    }

pub room : (script : Script) (n : ℕ) (builder : Builder) → IsUnderWay script n builder → n < length script.items → IsSpelled script → CanAdd builder
room script n builder way within spelled =
    let few = few_items script spelled in
    let front = length_front script.items n within in
    let scope = scope_room script (take n script.items) (drop n script.items) (sym (take-append-drop n script.items)) (λ m le. way.sound m (omega (arith, le, front))) (omega (arith, front, within, few)) in
    let functions = few_functions (take n script.items) in
    let numbered : HasNumbers (known (take n script.items)) = record { room = scope; functions = omega (arith, functions, front, within, few) } in
    record { scope = subst HasNumbers (sym way.standing.scope) numbered; items = let e = way.items in omega (arith, e, within, few); statements = way.statements }

-- the answer of the builder at such an item
pub refusal : (script : Script) (n : ℕ) (x : Item) (builder : Builder) (fault : BuildFault) → IsUnderWay script n builder → n < length script.items → x ≡ get_or script.items n x
    → (fault ≡ NoMemory) ⊎ IsItemFault (take n script.items) x (builder.items + 1) fault → (fault ≡ NoMemory) ⊎ ((m : ℕ) × IsFaultAt script m fault)
refusal script n x builder fault way within is (inl memory) = inl memory
refusal script n x builder fault way within is (inr f) = inr (n + 1, refused script n x builder fault way within is f)
