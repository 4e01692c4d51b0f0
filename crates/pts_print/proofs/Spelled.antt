-- The signs of a part stand in front of those that follow it and do not depend on them: lists, sums and calls.
use Rattle.std.proofs.Common.{◌≡◌, ℕ, Bool, true, false, List, [], ◌∷◌, ◌++◌, map, Option, Some, None, refl, sym, ap, subst, ◌∙◌}
use Rattle.pts_tree.specs.declared.mark.Mark.{Mark}
use Rattle.pts_tree.specs.declared.mark.Mark.TheVariants as m
use Rattle.pts_tree.specs.declared.sum.Atom.{Atom}
use Rattle.pts_tree.specs.declared.sum.Atom.TheVariants as atoms
use Rattle.pts_tree.specs.declared.sum.SumPart.{SumPart}
use Rattle.pts_tree.specs.declared.sum.Sum.{Sum}
use Rattle.pts_tree.specs.declared.sum.Val.{Val}
use Rattle.pts_tree.specs.declared.sum.Val.TheVariants as vals
use Rattle.pts_tree.specs.declared.sum.Range.{Range}
use Rattle.pts_tree.specs.declared.sum.Cell.{Cell}
use Rattle.pts_tree.specs.declared.call.Op.{Op}
use Rattle.pts_tree.specs.declared.call.Op.TheVariants as op_variants
use Rattle.pts_tree.specs.declared.call.Call.{Call}
use Rattle.pts_tree.specs.Signs.{Sign}
use Rattle.pts_tree.specs.Spelling.{Text, each, separated, optional, word, name, number, minus, atom, sum_sign, sum_part, sum, val, range, cell, policy, op_mark, op, form, second_range, target_range, init_part, into, call}

-- what follows the part stays as it is
pub record IsFront (f : Text) : Type 0 where
  pub stands : (ts us : List Sign) → f (ts ++ us) ≡ f ts ++ us

-- ---- how parts are put together

pub nothing : IsFront (λ tail. tail)
nothing = record { stands = λ ts us. refl }

infixr 60 ◌▸◌
-- one part and then another
pub ◌▸◌ : {f g : Text} → IsFront f → IsFront g → IsFront (λ tail. f (g tail))
◌▸◌ {f} {g} p q = record { stands = λ ts us. ap f (q.stands ts us) ∙ p.stands (g ts) us }

-- the same part, said in another way
pub said : {f g : Text} → ◌≡◌ {A = Text} f g → IsFront g → IsFront f
said e p = subst IsFront (sym e) p

pub word_front : (n : Mark) → IsFront (word n)
word_front n = record { stands = λ ts us. refl }

pub name_front : (text : List ℕ) → IsFront (name text)
name_front text = record { stands = λ ts us. refl }

pub number_front : (n : ℕ) → IsFront (number n)
number_front n = record { stands = λ ts us. refl }

pub each_front : {A : Type 0} (spell : A → Text) → ((x : A) → IsFront (spell x)) → (xs : List A) → IsFront (each spell xs)
each_front spell h [] = nothing
each_front spell h (x ∷ xs) = h x ▸ each_front spell h xs

-- of elements that something is known of
pub each_known : {A : Type 0} (P : A → Type 0) (spell : A → Text) → ((x : A) → P x → IsFront (spell x)) → (ys : List ((x : A) × P x)) → IsFront (each spell (map (λ y. y.0) ys))
each_known P spell h [] = nothing
each_known P spell h (y ∷ ys) = h y.0 y.1 ▸ each_known P spell h ys

pub separated_front : {A : Type 0} (n : Mark) (spell : A → Text) → ((x : A) → IsFront (spell x)) → (xs : List A) → IsFront (separated n spell xs)
separated_front n spell h [] = nothing
separated_front n spell h (x ∷ xs) = h x ▸ each_front (λ y tail. word n (spell y tail)) (λ y. word_front n ▸ h y) xs

pub separated_known : {A : Type 0} (P : A → Type 0) (n : Mark) (spell : A → Text) → ((x : A) → P x → IsFront (spell x)) → (ys : List ((x : A) × P x)) → IsFront (separated n spell (map (λ y. y.0) ys))
separated_known P n spell h [] = nothing
separated_known P n spell h (y ∷ ys) = h y.0 y.1 ▸ each_known P (λ z tail. word n (spell z tail)) (λ z p. word_front n ▸ h z p) ys

pub optional_front : {A : Type 0} (spell : A → Text) → ((x : A) → IsFront (spell x)) → (o : Option A) → IsFront (optional spell o)
optional_front spell h None = nothing
optional_front spell h (Some x) = h x

-- ---- sums and what they measure

minus_front : (b : Bool) → IsFront (minus b)
minus_front false = nothing
minus_front true = word_front m.MinusSign

atom_front : (x : Atom) → IsFront (atom x)
atom_front (atoms.Number n) = number_front n
atom_front (atoms.Name text) = name_front text

sum_part_front : (x : SumPart) → IsFront (sum_part x)
sum_part_front x = word_front (sum_sign x.minus) ▸ atom_front x.atom

pub sum_front : (x : Sum) → IsFront (sum x)
sum_front x = minus_front x.negative ▸ atom_front x.first ▸ each_front sum_part sum_part_front x.rest

pub val_front : (x : Val) → IsFront (val x)
val_front (vals.Sum x) = sum_front x
val_front vals.True = word_front m.True
val_front vals.False = word_front m.False

pub range_front : (x : Range) → IsFront (range x)
range_front x = name_front x.array ▸ word_front m.OpenBracket ▸ sum_front x.low ▸ word_front m.Range ▸ sum_front x.high ▸ word_front m.CloseBracket

pub cell_front : (x : Cell) → IsFront (cell x)
cell_front x = name_front x.array ▸ word_front m.OpenBracket ▸ sum_front x.index ▸ word_front m.CloseBracket

-- ---- calls

pub op_front : (x : Op) → IsFront (op x)
op_front (op_variants.Table x) = optional_front word word_front (op_mark x)
op_front (op_variants.Name text) = name_front text

pub call_front : (x : Call) → IsFront (call x)
call_front x =
    word_front (form x.form) ▸ word_front (policy x.policy) ▸ range_front x.first
    ▸ optional_front second_range (λ y. word_front m.Comma ▸ range_front y) x.second
    ▸ optional_front target_range (λ y. word_front m.Arrow ▸ range_front y) x.target
    ▸ optional_front init_part (λ y. word_front m.Init ▸ val_front y) x.init
    ▸ optional_front op op_front x.op
    ▸ optional_front name name_front x.function
    ▸ optional_front into (λ y. word_front m.Into ▸ cell_front y) x.store
    ▸ word_front m.Semicolon
