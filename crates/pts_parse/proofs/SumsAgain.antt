-- Sums and what they measure: each is read back from what it spells.
use Rattle.std.proofs.Common.{◌≡◌, ℕ, Bool, true, false, List, ◌∷◌, refl, arith}
use Rattle.pts_types.specs.declared.value.Kind.{Kind}
use Rattle.pts_types.specs.declared.value.Kind.TheVariants as kinds
use Rattle.pts_tree.specs.declared.mark.Mark.TheVariants as m
use Rattle.pts_tree.specs.declared.sign.SignKind.{SignKind}
use Rattle.pts_tree.specs.declared.sign.SignKind.TheVariants as k
use Rattle.pts_tree.specs.Marks.{place}
use Rattle.pts_tree.specs.Grammar.{same}
use Rattle.pts_tree.specs.Signs.{Sign, Mark, Name, Number}
use Rattle.pts_tree.specs.declared.sum.Atom.{Atom}
use Rattle.pts_tree.specs.declared.sum.Atom.TheVariants as atoms
use Rattle.pts_tree.specs.declared.sum.SumPart.{SumPart}
use Rattle.pts_tree.specs.declared.sum.Sum.{Sum}
use Rattle.pts_tree.specs.declared.sum.Val.{Val}
use Rattle.pts_tree.specs.declared.sum.Val.TheVariants as vals
use Rattle.pts_tree.specs.declared.sum.Range.{Range}
use Rattle.pts_tree.specs.declared.sum.Cell.{Cell}
use Rattle.pts_tree.specs.Spelling as spelling
use Rattle.pts_tree.specs.Spelling.{each}
use Rattle.pts_parse.specs.Reading.{ahead}
use Rattle.pts_parse.specs.SumReading.{atom_by, atom, sum_part, goes_on, sum_parts, sum_behind, sum_from, sum, val_by, val, range, index, cell, kind, typed}
use Rattle.pts_parse.proofs.Again.{Gets, got, done, next, behind_sign, otherwise, expect_again, open_again, name_again, number_again, by_number, each_so, Anything, each_again}

pub atom_again : (x : Atom) (tail : List Sign) → Gets 1 (spelling.atom x tail) tail (x, tail) (atom (spelling.atom x tail))
unfolding atom
atom_again (atoms.Number n) tail = by_number (λ q. Gets 1 (Number n ∷ tail) tail (atoms.Number n, tail) (atom_by q (Number n ∷ tail))) (next _ (number_again n tail) done) (next _ (number_again n tail) done) n
atom_again (atoms.Name text) tail = next _ (name_again text tail) done

-- what a test says of the kinds of numbers and names it says of the first sign of an atom
pub atom_begins : (test : SignKind → Bool) (b : Bool) → test k.Number ≡ b → test k.One ≡ b → test k.Name ≡ b → (x : Atom) (tail : List Sign) → test (ahead (spelling.atom x tail)) ≡ b
atom_begins test b p q r (atoms.Number n) tail = by_number (λ s. test s ≡ b) p q n
atom_begins test b p q r (atoms.Name text) tail = r

sum_part_again : (x : SumPart) (tail : List Sign) → Gets 1 (spelling.sum_part x tail) tail (x, tail) (sum_part (spelling.sum_part x tail))
unfolding sum_part
sum_part_again x tail = by x.minus
  where
    by : (minus : Bool) → Gets 1 (spelling.sum_part (record { minus = minus; atom = x.atom }) tail) tail (record { minus = minus; atom = x.atom }, tail) (sum_part (spelling.sum_part (record { minus = minus; atom = x.atom }) tail))
    by false = behind_sign (next _ (atom_again x.atom tail) done)
    by true = behind_sign (next _ (atom_again x.atom tail) done)

-- a part of a sum begins by its operator
sum_part_seen : (minus : Bool) → goes_on (k.Mark (spelling.sum_sign minus)) ≡ true
unfolding goes_on
sum_part_seen false = refl
sum_part_seen true = refl

no_more : goes_on k.End ≡ false
unfolding goes_on
no_more = refl

pub sum_parts_again : (xs : List SumPart) (tail : List Sign) → goes_on (ahead tail) ≡ false → Gets 0 (each spelling.sum_part xs tail) tail (xs, tail) (sum_parts (each spelling.sum_part xs tail))
unfolding sum_parts
sum_parts_again xs tail e =
    each_again Anything (each_so (λ x. record { seen = λ ts. sum_part_seen x.minus; ends = λ ts. tt; back = λ ts l. sum_part_again x ts }) xs) no_more tail e tt

-- what follows the first atom of a sum
pub sum_behind_again : (negative : Bool) (first : Atom) (xs : List SumPart) (tail : List Sign) → goes_on (ahead tail) ≡ false
    → Gets 0 (each spelling.sum_part xs tail) tail (record { negative = negative; first = first; rest = xs }, tail) (sum_behind negative first (each spelling.sum_part xs tail))
unfolding sum_behind
sum_behind_again negative first xs tail e = next _ (sum_parts_again xs tail e) done

sum_from_again : (negative : Bool) (first : Atom) (xs : List SumPart) (tail : List Sign) → goes_on (ahead tail) ≡ false
    → Gets 1 (spelling.atom first (each spelling.sum_part xs tail)) tail (record { negative = negative; first = first; rest = xs }, tail) (sum_from negative (spelling.atom first (each spelling.sum_part xs tail)))
unfolding sum_from
sum_from_again negative first xs tail e = next _ (atom_again first (each spelling.sum_part xs tail)) (sum_behind_again negative first xs tail e)

-- a sum, where no further part of one follows
pub sum_again : (x : Sum) (tail : List Sign) → goes_on (ahead tail) ≡ false → Gets 1 (spelling.sum x tail) tail (x, tail) (sum (spelling.sum x tail))
unfolding sum place
sum_again x tail e = by x.negative
  where
    from : List Sign
    from = spelling.atom x.first (each spelling.sum_part x.rest tail)

    by : (negative : Bool) → Gets 1 (spelling.minus negative from) tail (record { negative = negative; first = x.first; rest = x.rest }, tail) (sum (spelling.minus negative from))
    by true = behind_sign (sum_from_again true x.first x.rest tail e)
    by false =
        otherwise _ (same (k.Mark m.MinusSign) (ahead from)) (atom_begins (λ q. same (k.Mark m.MinusSign) q) false refl refl refl x.first (each spelling.sum_part x.rest tail))
        (sum_from_again false x.first x.rest tail e)

-- what a test says of numbers, names and `-` it says of the first sign of a sum
pub sum_begins : (test : SignKind → Bool) (b : Bool) → test k.Number ≡ b → test k.One ≡ b → test k.Name ≡ b → test (k.Mark m.MinusSign) ≡ b
    → (x : Sum) (tail : List Sign) → test (ahead (spelling.sum x tail)) ≡ b
sum_begins test b p q r s x tail = by x.negative
  where
    by : (negative : Bool) → test (ahead (spelling.minus negative (spelling.atom x.first (each spelling.sum_part x.rest tail)))) ≡ b
    by true = s
    by false = atom_begins test b p q r x.first (each spelling.sum_part x.rest tail)

-- a sum is read as a value, where a sign of this kind comes first
abbrev ByKind : Sum → List Sign → SignKind → Type 0
ByKind x tail q = Gets 1 (spelling.sum x tail) tail (vals.Sum x, tail) (val_by q (spelling.sum x tail))

by_kind : (negative : Bool) (first : Atom) (xs : List SumPart) (tail : List Sign) → ByKind (record { negative = negative; first = first; rest = xs }) tail k.End
    → ByKind (record { negative = negative; first = first; rest = xs }) tail (ahead (spelling.minus negative (spelling.atom first (each spelling.sum_part xs tail))))
by_kind true first xs tail g = g
by_kind false (atoms.Number n) xs tail g = by_number (ByKind (record { negative = false; first = atoms.Number n; rest = xs }) tail) g g n
by_kind false (atoms.Name text) xs tail g = g

-- a value, where no further part of a sum follows
pub val_again : (x : Val) (tail : List Sign) → goes_on (ahead tail) ≡ false → Gets 1 (spelling.val x tail) tail (x, tail) (val (spelling.val x tail))
unfolding val
val_again vals.True tail e = got (omega arith)
val_again vals.False tail e = got (omega arith)
val_again (vals.Sum x) tail e = by_kind x.negative x.first x.rest tail (next _ (sum_again x tail e) done)

pub range_again : (room : ℕ) (x : Range) (tail : List Sign) → Gets 1 (spelling.range x tail) tail (x, tail) (range room (spelling.range x tail))
unfolding range goes_on
range_again room x tail =
    next _ (name_again x.array _) (
    open_again _ room m.OpenBracket _ (λ less e.
    next _ (sum_again x.low _ refl) (
    next _ (expect_again m.Range _) (
    next _ (sum_again x.high _ refl) (
    next _ (expect_again m.CloseBracket tail) done)))))

pub index_again : (room : ℕ) (x : Sum) (tail : List Sign)
    → Gets 1 (Mark m.OpenBracket ∷ spelling.sum x (Mark m.CloseBracket ∷ tail)) tail (x, tail) (index room (Mark m.OpenBracket ∷ spelling.sum x (Mark m.CloseBracket ∷ tail)))
unfolding index goes_on
index_again room x tail = open_again _ room m.OpenBracket _ (λ less e. next _ (sum_again x _ refl) (next _ (expect_again m.CloseBracket tail) done))

pub cell_again : (room : ℕ) (x : Cell) (tail : List Sign) → Gets 1 (spelling.cell x tail) tail (x, tail) (cell room (spelling.cell x tail))
unfolding cell
cell_again room x tail = next _ (name_again x.array _) (next _ (index_again room x.index tail) done)

pub kind_again : (x : Kind) (tail : List Sign) → Gets 1 (Mark (spelling.kind x) ∷ tail) tail (x, tail) (kind (Mark (spelling.kind x) ∷ tail))
unfolding kind
kind_again kinds.I64 tail = got (omega arith)
kind_again kinds.U64 tail = got (omega arith)
kind_again kinds.Bool tail = got (omega arith)

-- NAME ":" kind
pub typed_again : (text : List ℕ) (x : Kind) (tail : List Sign)
    → Gets 1 (Name text ∷ Mark m.Colon ∷ Mark (spelling.kind x) ∷ tail) tail ((text, x), tail) (typed (Name text ∷ Mark m.Colon ∷ Mark (spelling.kind x) ∷ tail))
unfolding typed
typed_again text x tail = next _ (name_again text _) (next _ (expect_again m.Colon _) (next _ (kind_again x tail) done))
