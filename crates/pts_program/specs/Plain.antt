-- Statements whose sums are numbers.
use Rattle.std.specs.Prelude.{IsTrue, Bool, true, false, ◌&&◌, List, [], ◌∷◌}
use Rattle.std.specs.List.{list_all}
use Rattle.pts_tree.specs.Spelling.{if_there}
use Rattle.pts_tree.specs.declared.sum.Atom.{Atom}
use Rattle.pts_tree.specs.declared.sum.Atom.TheVariants as atoms
use Rattle.pts_tree.specs.declared.sum.Sum.{Sum}
use Rattle.pts_tree.specs.declared.sum.Val.{Val}
use Rattle.pts_tree.specs.declared.sum.Val.TheVariants as vals
use Rattle.pts_tree.specs.declared.sum.Range.{Range}
use Rattle.pts_tree.specs.declared.sum.Cell.{Cell}
use Rattle.pts_tree.specs.declared.call.Call as call
use Rattle.pts_tree.specs.declared.loops.Loop as loops
use Rattle.pts_tree.specs.declared.loops.Clause.{Clause}
use Rattle.pts_tree.specs.declared.loops.Clause.TheVariants as clauses
use Rattle.pts_tree.specs.declared.loops.Initial.{Initial}
use Rattle.pts_tree.specs.declared.loops.Initial.TheVariants as initials
use Rattle.pts_rules.specs.Parts.{Simple, Throw, Assign, Call, Loop}

-- ---- sums

abbrev pub is_number : Atom → Bool
is_number (atoms.Number n) = true
is_number (atoms.Name name) = false

abbrev pub is_nothing : {A : Type 0} → List A → Bool
is_nothing [] = true
is_nothing (x ∷ xs) = false

-- a number with or without `-` before it, and nothing behind it
abbrev pub plain_sum : Sum → Bool
plain_sum x = is_number x.first && is_nothing x.rest

abbrev pub plain_val : Val → Bool
plain_val (vals.Sum x) = plain_sum x
plain_val _ = true

abbrev pub plain_range : Range → Bool
plain_range x = plain_sum x.low && plain_sum x.high

abbrev pub plain_cell : Cell → Bool
plain_cell x = plain_sum x.index

-- ---- calls and loops

abbrev pub plain_call : call.Call → Bool
plain_call x =
    plain_range x.first && if_there plain_range x.second && if_there plain_range x.target && if_there plain_val x.init && if_there plain_cell x.store

abbrev pub plain_initial : Initial → Bool
plain_initial (initials.Val x) = plain_val x
plain_initial (initials.Cell x) = plain_cell x

abbrev pub plain_clause : Clause → Bool
plain_clause (clauses.Reduce x) = plain_cell x.cell && if_there plain_val x.identity
plain_clause (clauses.Induct x) = plain_initial x.initial && if_there plain_sum x.step

-- a body has no sums
abbrev pub plain_loop : loops.Loop → Bool
plain_loop x = plain_sum x.low && plain_sum x.high && if_there plain_sum x.step && list_all plain_clause x.clauses

-- a statement in which every sum is one number
abbrev pub is_plain : Simple → Bool
is_plain (Throw n) = true
is_plain (Assign at x) = plain_cell at
is_plain (Call x) = plain_call x
is_plain (Loop x) = plain_loop x

abbrev pub IsPlain : Simple → Type 0
IsPlain x = IsTrue (is_plain x)
