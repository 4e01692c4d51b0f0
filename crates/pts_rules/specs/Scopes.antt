-- What items declare: the scope that the items before an item leave to it.
use Rattle.std.specs.Prelude.{List, [], ◌∷◌, fold, map}
use Rattle.pts_tree.specs.declared.script.FunctionDecl.{FunctionDecl}
use Rattle.pts_tree.specs.declared.script.Param.{Param}
use Rattle.pts_tree.specs.declared.script.Item.{Item}
use Rattle.pts_tree.specs.declared.script.Item.TheVariants as items
use Rattle.pts_rules.specs.declared.meaning.Meaning.TheVariants.{Constant, Array, Function, Value}
use Rattle.pts_rules.specs.declared.meaning.Signature.{Signature}
use Rattle.pts_rules.specs.Known.{Entry, Scope, number}
use Rattle.pts_rules.specs.Counts.{depth_of, size_of}

-- a function as those that call it see it
abbrev pub signature : Scope → FunctionDecl → Signature
signature scope x = record { params = map (λ p. p.kind) x.params; kind = x.kind; depth = depth_of scope x.body; size = size_of scope x.body }

-- the scope behind an item
abbrev pub after : Scope → Item → Scope
after scope (items.Const x) = (x.name, Constant (number scope x.value)) ∷ scope
after scope (items.Array x) = (x.name, Array x.kind (number scope x.length)) ∷ scope
after scope (items.Function x) = (x.name, Function (signature scope x)) ∷ scope
after scope _ = scope

-- what the names that these items declare stand for
unfoldable pub known : List Item → Scope
known before = fold after [] before

-- a parameter is a value in its function
abbrev pub param_entry : Param → Entry
param_entry p = (p.name, Value p.kind)
