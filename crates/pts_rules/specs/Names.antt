-- Unknown and Twice: names that nothing declares, and names that are declared again.
use Rattle.std.specs.Prelude.{Bool, false, not, ◌||◌, List, [], ◌∷◌, ◌++◌, map}
use Rattle.std.specs.List.{list_any}
use Rattle.pts_tree.specs.declared.script.Item.{Item}
use Rattle.pts_rules.specs.Known.{Scope}
use Rattle.pts_rules.specs.Parts.{Name, is_among, used_names, declared_names, local_names}

-- the names of a scope
abbrev pub names_in : Scope → List Name
names_in scope = map (λ e. e.0) scope

-- Unknown: a name is used that is not in scope and that is no local name of the item
abbrev pub is_unknown : Scope → Item → Bool
is_unknown scope x = list_any (λ name. not (is_among name (names_in scope))) (used_names x)

-- a name stands in the list again
abbrev pub has_repeat : List Name → Bool
has_repeat [] = false
has_repeat (x ∷ xs) = is_among x xs || has_repeat xs

-- one of these names is among the others
abbrev pub meet : List Name → List Name → Bool
meet xs ys = list_any (λ x. is_among x ys) xs

-- these local names of one function or loop have one name twice, or one of the others
abbrev pub clash : List Name → List Name → Bool
clash others locals = has_repeat locals || meet locals others

-- Twice: the item's name is in scope, or a local name is one that is in scope or the item's own, or that of another local
-- of the same function or loop
abbrev pub is_twice : Scope → Item → Bool
is_twice scope x = meet (declared_names x) (names_in scope) || list_any (clash (names_in scope ++ declared_names x)) (local_names x)
