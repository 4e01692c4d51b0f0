-- The names of a program's arrays and functions in its loops, and what they stand for.
use Rattle.std.specs.Prelude.{◌∷◌, fold, pos}
use Rattle.pts_rules.specs.declared.meaning.Meaning.TheVariants.{Array}
use Rattle.pts_rules.specs.Known.{Scope}
use Rattle.pts_code.specs.Functions.{environment_of, scope_of}
use Rattle.pts_code.specs.Values.{Environment}
use Rattle.pts_code.specs.Values as values
use Rattle.pts_program.specs.declared.info.ArrayInfo.{ArrayInfo}
use Rattle.pts_program.specs.declared.lists.Lists.{Lists}

-- an array more, of whose cells only the kind counts
abbrev pub with_array : Scope → ArrayInfo → Scope
with_array names a = (a.name, Array a.kind (pos 0)) ∷ names

-- the names of a program's functions, and before them those of its arrays, the last one first
abbrev pub globals_of : Lists → Scope
globals_of lists = fold with_array (scope_of lists.functions) lists.arrays

-- an array more, as an expression sees it
abbrev pub with_elements : Environment → ArrayInfo → Environment
with_elements env a = (a.name, values.Array a.kind) ∷ env

-- what those names stand for: arrays with the kinds of their elements, and functions
abbrev pub global_environment : Lists → Environment
global_environment lists = fold with_elements (environment_of lists.functions) lists.arrays
