-- The sign that a token's content stands for.
use Rattle.pts_tree.specs.declared.sign.Content.{Content}
use Rattle.pts_tree.specs.declared.sign.Content.TheVariants as content
use Rattle.pts_tree.specs.Signs.{Sign, Mark, Name, Number}

-- a name by its text
abbrev pub sign_of : Content → Sign
sign_of (content.Mark m) = Mark m
sign_of (content.Name text) = Name text
sign_of (content.Number n) = Number n
